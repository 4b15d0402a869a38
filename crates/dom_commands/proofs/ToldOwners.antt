-- A notification, one observer after another, in a world with listeners.
use Rattle.dom_commands.proofs.Cited.{◌≡◌, ℕ, ◌<◌, true, not, ◌&&◌, List, [], ◌∷◌, filter, length, map, sym, ap, ◌∙◌, subst, AllByRecursion, nat_eq}
use Rattle.dom_commands.proofs.Cited.{all-filter, name_at, DocState, IsListenerAt, IsAtRest, MachineNow, machine_now, hearing, heard, own_listeners}
use Rattle.dom_model.proofs.Model.{NodeName, Owner, Listener, Part, World, part_of, with_part, is_there, is_owned_by, without_signals, records_of}
use Rattle.dom_model.proofs.Model.{is_in, is_transient, queue_of, Registration, without_transients}
use Rattle.dom_base.proofs.Std.{length-set, slice_set, Err, Ok, OnOk, Result}
use Rattle.dom_mutation.specs.Definitions.{after_telling, none_pending}
use Rattle.dom_worlds.proofs.ListLemmas.{all-set}
use Rattle.dom_worlds.specs.Definitions.{IsRecordIn, IsRegistrationIn}
use Rattle.dom_commands.proofs.ListenerWorlds.{FitsIn, part-heard, with_part-heard, there-heard}
use Rattle.dom_commands.proofs.Listening.{OwnersAreThere, fits-own}
use Rattle.dom_commands.proofs.Machines.{seen_at}
use Rattle.dom_commands.proofs.Rewritten.{FitTables, with_tables, written-stands, written-bounded, signals-stand, rest-stands, at_rest}

-- an owner's part is written, in a world with listeners
module _ (of : Owner → List (Listener NodeName)) (w : World) (fits : FitsIn of w) (o : Owner) where
  -- none of its observers is pending
  taken-heard : heard of (with_part w (none_pending (part_of w o))) ≡ with_part (heard of w) (none_pending (part_of (heard of w) o))
  taken-heard = sym (with_part-heard of w (none_pending (part_of w o))) ∙
      ap (λ (p : Part). with_part (heard of w) (none_pending p)) (sym (part-heard of w fits o))

  -- one of them was told
  telling-heard : (k : ℕ) → heard of (with_part w (after_telling k (part_of w o))) ≡ with_part (heard of w) (after_telling k (part_of (heard of w) o))
  telling-heard k = sym (with_part-heard of w (after_telling k (part_of w o))) ∙
      ap (λ (p : Part). with_part (heard of w) (after_telling k p)) (sym (part-heard of w fits o))

module _ (s : DocState) (ls : List (Listener ℕ)) (m : MachineNow) (seen : machine_now s ls ≡ m) (sound : IsAtRest m)
    (there : OwnersAreThere s.names s.world) (o : Owner) where
  abbrev of : Owner → List (Listener NodeName)
  of = own_listeners s.names ls

  fits : FitsIn of s.world
  fits = fits-own s.names s.world there ls (seen_at s ls m seen sound)

  -- the owner's part, without listeners
  pub part_in : part_of m.world o ≡ hearing of (part_of s.world o)
  part_in = ap (λ (n : MachineNow). part_of n.world o) (sym seen) ∙ part-heard of s.world fits o

  -- what is read of its observers
  pub pending_in : (part_of s.world o).pending ≡ (part_of m.world o).pending
  pending_in = sym (ap (λ (p : Part). p.pending) part_in)

  pub records_in : (k : ℕ) → records_of (part_of s.world o) k ≡ records_of (part_of m.world o) k
  records_in k = sym (ap (λ (p : Part). records_of p k) part_in)

  pub queue_in : (k : ℕ) → queue_of (part_of s.world o).record_queues k ≡ queue_of (part_of m.world o).record_queues k
  queue_in k = sym (ap (λ (p : Part). queue_of p.record_queues k) part_in)

  pub count_in : length (part_of s.world o).record_queues ≡ length (part_of m.world o).record_queues
  count_in = sym (ap (λ (p : Part). length p.record_queues) part_in)

  pub there_in : is_there m.world o ≡ true → is_there s.world o ≡ true
  there_in here = sym (there-heard of s.world o) ∙ ap (λ (n : MachineNow). is_there n.world o) seen ∙ here

  module _ (u : DocState) (here : is_there m.world o ≡ true) where
    -- listeners stay at nodes
    stay_at : u.names ≡ s.names → AllByRecursion (IsListenerAt u.names) ls
    stay_at names = subst (λ (ns : List NodeName). AllByRecursion (IsListenerAt ns) ls) (sym names) (seen_at s ls m seen sound)

    -- the slots and the pending observers were taken
    module _ (names : u.names ≡ s.names)
        (world : u.world ≡ with_part (without_signals s.world o) (none_pending (part_of s.world o))) where
      pub taken_world : (machine_now u ls).world ≡ with_part (without_signals m.world o) (none_pending (part_of m.world o))
      taken_world =
          ap (λ (ns : List NodeName). heard (own_listeners ns ls) u.world) names ∙ ap (heard of) world
          ∙ taken-heard of (without_signals s.world o) fits o
          ∙ ap (λ (n : MachineNow). with_part (without_signals n.world o) (none_pending (part_of n.world o))) seen

      pub taken_sound : IsAtRest (machine_now u ls)
      taken_sound =
          let p = part_of m.world o in
          let w = without_signals m.world o in
          let i = signals-stand m.world o (rest-stands m sound) in
          let t = sound.whole.tables o in
          let f : FitTables p (with_tables p p.listeners p.record_queues p.registrations []) = record {
            listeners = t.listeners;
            registrations = t.registrations;
            pending = tt;
            records = sound.whole.records o;
          } in
          at_rest (machine_now u ls) taken_world (stay_at names)
          (written-stands w o here i p.listeners p.record_queues p.registrations [] f)
          (written-bounded w o here i p.listeners p.record_queues p.registrations [] f sound.bounds)

      -- and the slots are those that were signalled
      pub taken_slots : (keys : List ℕ) → map (name_at s.names) keys ≡ filter (is_owned_by o) s.world.signalled →
          map (name_at u.names) keys ≡ filter (is_owned_by o) m.world.signalled
      taken_slots keys is =
          ap (λ (ns : List NodeName). map (name_at ns) keys) names ∙ is ∙ ap (λ (n : MachineNow). filter (is_owned_by o) n.world.signalled) seen

    -- an observer was told
    module _ (k : ℕ) (names : u.names ≡ s.names) (world : u.world ≡ with_part s.world (after_telling k (part_of s.world o))) where
      pub telling_world : (machine_now u ls).world ≡ with_part m.world (after_telling k (part_of m.world o))
      telling_world =
          ap (λ (ns : List NodeName). heard (own_listeners ns ls) u.world) names ∙ ap (heard of) world ∙ telling-heard of s.world fits o k
          ∙ ap (λ (n : MachineNow). with_part n.world (after_telling k (part_of n.world o))) seen

      pub telling_sound : IsAtRest (machine_now u ls)
      telling_sound =
          let p = part_of m.world o in
          let i = rest-stands m sound in
          let t = sound.whole.tables o in
          let qs = slice_set p.record_queues k [] in
          let rs = without_transients (k ∷ []) p.registrations in
          let same : length qs ≡ length p.record_queues = length-set p.record_queues k [] in
          let f : FitTables p (with_tables p p.listeners qs rs p.pending) = record {
            listeners = t.listeners;
            registrations = subst (λ n. AllByRecursion (IsRegistrationIn p.trees n) rs) (sym same)
                (all-filter (IsRegistrationIn p.trees (length p.record_queues))
                (λ (r : Registration NodeName). not (is_transient r.source && is_in nat_eq r.observer (k ∷ []))) p.registrations t.registrations);
            pending = subst (λ n. AllByRecursion (λ j. j < n) p.pending) (sym same) t.pending;
            records = all-set (AllByRecursion (IsRecordIn p.trees)) p.record_queues k [] (sound.whole.records o) tt;
          } in
          at_rest (machine_now u ls) telling_world (stay_at names)
          (written-stands m.world o here i p.listeners qs rs p.pending f)
          (written-bounded m.world o here i p.listeners qs rs p.pending f sound.bounds)

-- what holds after a call that went well, from two things that do
pub both_ok : {T E : Type 0} {A B C : Type 0} (r : Result T E) → (A → B → C) → OnOk r A → OnOk r B → OnOk r C
both_ok (Ok x) f h k = f h k
both_ok (Err e) f h k = tt
