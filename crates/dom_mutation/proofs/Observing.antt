-- Calls that pass a command on to an owner's observers: what they ask, what holds after them, and that they do what the
-- model says of the command.
use Rattle.dom_mutation.proofs.Cited.{◌≡◌, ℕ, ◌<◌, ◌⊎◌, inl, inr, Bool, true, false, true≢false, List, [], ◌∷◌, length, map, Result, Ok, Err, Option, Some}
use Rattle.dom_mutation.proofs.Cited.{None, option_map, unwrap_or, refl, sym, ap, subst, ◌∙◌, Vec, is_some, slice_get, nat_eq, nat_lt, IfOk, IfErr, OnOk, OnErr}
use Rattle.dom_mutation.proofs.Cited.{◌↔◌, if◌then◌else◌, AllByRecursion, length-map, lt-ltb, slice_get-map, slice_get_within, NodeName, Owner, Fault, Refused}
use Rattle.dom_mutation.proofs.Cited.{Memory, TypeFault, Unknown, owner_eq, name_eq, node_of, Command, ObserveWords, own, effect, Value, Said, Change, nothing}
use Rattle.dom_mutation.proofs.Cited.{an_observer, a_count, recorded, Part, queue_of, notified, part_of, with_part, is_there, Effect, NamedTrees, name_at}
use Rattle.dom_mutation.proofs.Cited.{TellApart, TablesOf, with_observer, observing, disconnected, emptied, named_tables, named_change, IsKey, SpeaksOf}
use Rattle.dom_mutation.proofs.Cited.{IsChangeAt, AreAll, change_of, notice_of, making_law, observing_law, disconnected_law, emptied_law, notified_law}
use Rattle.dom_mutation.proofs.Cited.{none_pending_law, telling_law, queue-named, speaks_none_pending, speaks_telling, change_in, none_pending, after_telling}
use Rattle.dom_mutation.proofs.Cited.{on_ok_weaker}
use Rattle.dom_mutation.proofs.Cited.{notices_law, speaks_none, speaks_made, speaks_observing, speaks_disconnected, speaks_emptied, speaks_notified, all_queued}
use Rattle.dom_mutation.proofs.Cited.{all_got, AllTables, with_observers, DocState, owner_in, world_from, state_from, IsDoc, Makes}
use Rattle.dom_mutation.proofs.Cited.{MakesSaying, NamesNodes, notice_in, notices_of}
use Rattle.dom_observers.specs.Definitions.{no_tables as no_observers, notices as keyed_notices, notified as keyed_notified, queue_at}
use Rattle.dom_observers.specs.Definitions.{none_pending as keyed_none_pending, after_telling as keyed_after_telling}
use Rattle.dom_observers.specs.declared.change.Change.{Change as Record}
use Rattle.dom_mutation.proofs.DocInvariant.{held_observers}
use Rattle.dom_mutation.proofs.Observed.{with_seen, has_observer, there_observer, queues_in, part_seen, held_seen, makes_seen, seen_world}

-- ---- lists

map_twice : {X Y Z : Type 0} (g : X → Y) (h : Y → Z) (xs : List X) → map h (map g xs) ≡ map (λ x. h (g x)) xs
map_twice g h [] = refl
map_twice g h (x ∷ xs) = ap (λ zs. h (g x) ∷ zs) (map_twice g h xs)

all_mapped : {X Y : Type 0} (g : X → Y) (P : Y → Type 0) (xs : List X) → AreAll P (map g xs) → AllByRecursion (λ x. P (g x)) xs
all_mapped g P [] all = tt
all_mapped g P (x ∷ xs) all = (all.0, all_mapped g P xs all.1)

-- an observer's number with its records
abbrev Notice : Type 0 → Type 0
Notice N = ℕ × List (Change N)

-- the notices of an owner's pending observers tell of nodes alone
each_queued : (P : Change ℕ → Type 0) (queues : List (List (Change ℕ))) → AreAll (AreAll P) queues → (ks : List ℕ) →
    AreAll (λ (n : Notice ℕ). AreAll P n.1) (map {B = Notice ℕ} (λ k. (k, unwrap_or (slice_get queues k) [])) ks)
each_queued P queues all [] = tt
each_queued P queues all (k ∷ ks) = (all_queued P queues k all, each_queued P queues all ks)

all_noticed : {Z : Type 0} (P : Change ℕ → Type 0) (list : List (ℕ × Vec Record Z)) →
    AreAll (λ (n : Notice ℕ). AreAll P n.1) (map notice_of list) →
    AllByRecursion (λ (n : ℕ × Vec Record Z). AllByRecursion (λ r. P (change_of r)) n.1.items) list
all_noticed P [] all = tt
all_noticed P (n ∷ list) all = (all_mapped change_of P n.1.items all.0, all_noticed P list all.1)

-- and in names
notices_named : {Z : Type 0} (g : ℕ → NodeName) (list : List (ℕ × Vec Record Z)) →
    map {B = Notice NodeName} (λ (n : Notice ℕ). (n.0, map (named_change g) n.1)) (map notice_of list) ≡ map {B = Notice NodeName}
    (λ (n : ℕ × Vec Record Z). (n.0, map (λ r. named_change g (change_of r)) n.1.items)) list
notices_named g [] = refl
notices_named g (n ∷ list) =
    let here = map_twice change_of (named_change g) n.1.items in
    let rest = notices_named g list in
    λ j. (n.0, here j) ∷ rest j

-- a result that shows something is one
pub shown_one : {X Y : Type 0} (g : X → Y) (r : Option X) (m : Option Y) → option_map g r ≡ m → is_some m ≡ true → r ≡ None → ⊥
shown_one g r m is some none = true≢false (sym some ∙ ap is_some (sym is) ∙ ap (λ o. is_some (option_map g o)) none)

-- a number that an observer has is less than how many there are
pub within : {X : Type 0} (xs : List X) (k : ℕ) → is_some (slice_get xs k) ≡ true → nat_lt k (length xs) ≡ true
within {X} xs k h = by (slice_get xs k) refl h
  where
    by : (m : Option X) → slice_get xs k ≡ m → is_some m ≡ true → nat_lt k (length xs) ≡ true
    by None e h = cc
    by (Some x) e h = lt-ltb k (length xs) (slice_get_within xs k x e)

module _ (f : NamedTrees) {tables : AllTables} (held : IsDoc f.names f.trees tables) {d : DocState}
    (is_d : state_from f.names f.trees tables ≡ d) (o : Owner) where
  -- the observer of a number
  pub observer_is : (k : ℕ) → is_some (slice_get (tables.observers o).record_queues k) ≡ is_some (slice_get (part_of d.world o).record_queues k)
  observer_is k = subst (λ (e : DocState). is_some (slice_get (tables.observers o).record_queues k) ≡ is_some
      (slice_get (part_of e.world o).record_queues k)) is_d (sym (has_observer f.names f.trees tables held o k))

  pub there_by : (k : ℕ) → is_some (slice_get (part_of d.world o).record_queues k) ≡ true → is_there (world_from f.names f.trees tables) o ≡ true
  there_by k h = there_observer f.names f.trees tables held o k (observer_is k ∙ h)

  -- how many there are
  pub count_is : length (tables.observers o).record_queues ≡ length (part_of d.world o).record_queues
  count_is =
      subst (λ (e : DocState). length (tables.observers o).record_queues ≡ length (part_of e.world o).record_queues) is_d
      (sym (ap (length {A = List (Change NodeName)}) (queues_in f.names f.trees tables held o) ∙ length-map (tables.observers o).record_queues
      (map (named_change (name_at f.names)))))

  -- nothing changes where no table does
  pub same_state : (seen : Owner → TablesOf ℕ) → ((q : Owner) → seen q ≡ tables.observers q) → state_from f.names f.trees (with_observers tables seen) ≡ d
  same_state seen same = (λ j. state_from f.names f.trees (with_observers tables (λ q. same q j))) ∙ is_d

  -- so where a call fails
  pub same_if : (seen : Owner → TablesOf ℕ) {T E : Type 0} (r : Result T E) → OnErr r ((q : Owner) → seen q ≡ tables.observers q) →
      OnErr r (state_from f.names f.trees (with_observers tables seen) ≡ d)
  same_if seen (Ok x) same = tt
  same_if seen (Err e) same = same_state seen same

  pub same_held : (seen : Owner → TablesOf ℕ) → ((q : Owner) → seen q ≡ tables.observers q) → IsDoc f.names f.trees (with_observers tables seen)
  same_held seen same = held_observers f.names f.trees tables held seen (λ q. subst (SpeaksOf (IsKey f.names)) (sym (same q)) (held.speaks q))
      (λ q off. same q ∙ held.unobserved q off)

  -- without observers
  pub none_held : (seen : Owner → TablesOf ℕ) → ((q : Owner) → seen q ≡ no_observers) → IsDoc f.names f.trees (with_observers tables seen)
  none_held seen none = held_observers f.names f.trees tables held seen
      (λ q. subst (SpeaksOf (IsKey f.names)) (sym (none q)) (speaks_none (IsKey f.names))) (λ q off. none q)

  module _ (there : is_there (world_from f.names f.trees tables) o ≡ true) (r : TablesOf ℕ) (seen : Owner → TablesOf ℕ)
      (is : (q : Owner) → seen q ≡ (if owner_eq o q then r else tables.observers q)) where
    abbrev own_part : TablesOf NodeName → Part
    own_part = with_seen f.names f.trees tables held o

    abbrev named : TablesOf ℕ → TablesOf NodeName
    named = named_tables (name_at f.names)

    -- a command that writes them
    pub writes : (c : List NodeName → Command) (lines : List NodeName → List Said) (v : Value) →
        effect (own_part (named (tables.observers o))) (c f.names) ≡ Effect.tables (own_part (named r)) (lines f.names) v
        → MakesSaying o (c d.names) (lines d.names) v d.world (world_from f.names f.trees (with_observers tables seen))
    writes c lines v does =
        subst (λ (e : DocState). MakesSaying o (c e.names) (lines e.names) v e.world (world_from f.names f.trees (with_observers tables seen))) is_d
        (makes_seen f.names f.trees tables held o there r seen is (c f.names) (lines f.names) v does)

    pub held_then : SpeaksOf (IsKey f.names) r → IsDoc f.names f.trees (with_observers tables seen)
    held_then = held_seen f.names f.trees tables held o there r seen is

  -- ---- the commands

  module _ (is_there_now : is_there d.world o ≡ true) (seen : Owner → TablesOf ℕ) where
    there : is_there (world_from f.names f.trees tables) o ≡ true
    there = subst (λ (e : DocState). is_there e.world o ≡ true) (sym is_d) is_there_now

    -- an observer more
    module _ (r : Result ℕ Fault) (was : OnErr r ((q : Owner) → seen q ≡ tables.observers q))
        (is : OnOk r ((q : Owner) → seen q ≡ (if owner_eq o q then with_observer (tables.observers o) else tables.observers q))) where
      pub made_held : IsDoc f.names f.trees (with_observers tables seen)
      made_held = by r was is
        where
          by : (r : Result ℕ Fault) → OnErr r ((q : Owner) → seen q ≡ tables.observers q) →
              OnOk r ((q : Owner) → seen q ≡ (if owner_eq o q then with_observer (tables.observers o) else tables.observers q)) →
              IsDoc f.names f.trees (with_observers tables seen)
          by (Ok n) was is = held_then there (with_observer (tables.observers o)) seen is (speaks_made (IsKey f.names) (tables.observers o) (held.speaks o))
          by (Err e) was is = same_held seen was

      pub made_world : IfOk r (λ n. n ≡ length (tables.observers o).record_queues) →
          IfOk r (λ n. Makes o Command.observer (an_observer n) d.world (world_from f.names f.trees (with_observers tables seen)))
      made_world = by r is
        where
          by : (r : Result ℕ Fault) → OnOk r
              ((q : Owner) → seen q ≡ (if owner_eq o q then with_observer (tables.observers o) else tables.observers q)) →
              IfOk r (λ n. n ≡ length (tables.observers o).record_queues)
              → IfOk r (λ n. Makes o Command.observer (an_observer n) d.world (world_from f.names f.trees (with_observers tables seen)))
          by (Ok n) is number =
              writes there (with_observer (tables.observers o)) seen is (λ ns. Command.observer) (λ ns. []) (an_observer n)
              (ap (λ k. Effect.tables (own_part there (with_observer (tables.observers o)) seen is
              (with_observer (named there (with_observer (tables.observers o)) seen is (tables.observers o)))) [] (an_observer k))
              (length-map (tables.observers o).record_queues (map (named_change (name_at f.names))) ∙ sym number)
              ∙ ap (λ t. Effect.tables (own_part there (with_observer (tables.observers o)) seen is t) [] (an_observer n))
              (sym (making_law f.names (tables.observers o))))
          by (Err e) is number = tt

    -- a notification
    pub notified_held : ((q : Owner) → seen q ≡ (if owner_eq o q then keyed_notified (tables.observers o) else tables.observers q)) →
        IsDoc f.names f.trees (with_observers tables seen)
    notified_held is = held_then there (keyed_notified (tables.observers o)) seen is (speaks_notified (IsKey f.names) (tables.observers o) (held.speaks o))

    pub notified_world : ((q : Owner) → seen q ≡ (if owner_eq o q then keyed_notified (tables.observers o) else tables.observers q))
        → world_from f.names f.trees (with_observers tables seen) ≡ with_part d.world (notified (part_of d.world o))
    notified_world is =
        subst (λ (e : DocState). world_from f.names f.trees (with_observers tables seen) ≡ with_part e.world (notified (part_of e.world o))) is_d
        (seen_world f.names f.trees tables held o there (keyed_notified (tables.observers o)) seen is (notified (part_of (world_from f.names f.trees tables) o))
        (ap (with_seen f.names f.trees tables held o) (notified_law f.names (tables.observers o)) ∙
        ap notified (sym (part_seen f.names f.trees tables held o there))))

    pub notified_notices : {Z : Type 0} (list : List (ℕ × Vec Record Z)) → map notice_of list ≡ keyed_notices (tables.observers o) →
        map (notice_in d) list ≡ notices_of (part_of d.world o)
    notified_notices list is =
        subst (λ (e : DocState). map (notice_in e) list ≡ notices_of (part_of e.world o)) is_d
        (sym (notices_named (name_at f.names) list) ∙
        ap (map {B = Notice NodeName} (λ (n : Notice ℕ). (n.0, map (named_change (name_at f.names)) n.1))) is ∙
        notices_law f.names (tables.observers o)
        ∙ ap notices_of (sym (part_seen f.names f.trees tables held o there)))

    pub notified_nodes : {Z : Type 0} (list : List (ℕ × Vec Record Z)) → map notice_of list ≡ keyed_notices (tables.observers o) →
        AllByRecursion (λ (n : ℕ × Vec Record Z). AllByRecursion (NamesNodes d) n.1.items) list
    notified_nodes {Z} list is =
        subst (λ (e : DocState). AllByRecursion (λ (n : ℕ × Vec Record Z). AllByRecursion (NamesNodes e) n.1.items) list) is_d
        (all_noticed (IsChangeAt (IsKey f.names)) list
        (subst (AreAll (λ (n : Notice ℕ). AreAll (IsChangeAt (IsKey f.names)) n.1)) (sym is)
        (each_queued (IsChangeAt (IsKey f.names)) (tables.observers o).record_queues (held.speaks o).records (tables.observers o).pending)))

    -- pending observers that are taken
    pending_is : (tables.observers o).pending ≡ (part_of d.world o).pending
    pending_is =
        subst (λ (e : DocState). (tables.observers o).pending ≡ (part_of e.world o).pending) is_d
        (ap (λ (p : Part). p.pending) (sym (part_seen f.names f.trees tables held o there)))

    module _ {T E : Type 0} (r : Result T E) where
      pub pending_held : OnErr r ((q : Owner) → seen q ≡ tables.observers q) →
          OnOk r ((q : Owner) → seen q ≡ (if owner_eq o q then keyed_none_pending (tables.observers o) else tables.observers q)) →
          IsDoc f.names f.trees (with_observers tables seen)
      pending_held = by r
        where
          by : (r : Result T E) → OnErr r ((q : Owner) → seen q ≡ tables.observers q) →
              OnOk r ((q : Owner) → seen q ≡ (if owner_eq o q then keyed_none_pending (tables.observers o) else tables.observers q)) →
              IsDoc f.names f.trees (with_observers tables seen)
          by (Ok n) was is = held_then there (keyed_none_pending (tables.observers o)) seen is
              (speaks_none_pending (IsKey f.names) (tables.observers o) (held.speaks o))
          by (Err e) was is = same_held seen was

      pub pending_world : OnOk r ((q : Owner) → seen q ≡ (if owner_eq o q then keyed_none_pending (tables.observers o) else tables.observers q)) →
          OnOk r (world_from f.names f.trees (with_observers tables seen) ≡ with_part d.world (none_pending (part_of d.world o)))
      pending_world = on_ok_weaker r (λ is.
          subst (λ (e : DocState). world_from f.names f.trees (with_observers tables seen) ≡ with_part e.world (none_pending (part_of e.world o))) is_d
          (seen_world f.names f.trees tables held o there (keyed_none_pending (tables.observers o)) seen is
          (none_pending (part_of (world_from f.names f.trees tables) o))
          (ap (with_seen f.names f.trees tables held o) (none_pending_law f.names (tables.observers o)) ∙
          ap (λ (p : Part). none_pending p) (sym (part_seen f.names f.trees tables held o there)))))

    pub pending_numbers : {Z E : Type 0} (r : Result (Vec ℕ Z) E) → IfOk r (λ v. v.items ≡ (tables.observers o).pending) →
        IfOk r (λ v. v.items ≡ (part_of d.world o).pending)
    pending_numbers r = subst (λ ks. IfOk r (λ v. v.items ≡ ks)) pending_is

    -- an observer that is told
    module _ (k : ℕ) where
      pub telling_held : ((q : Owner) → seen q ≡ (if owner_eq o q then keyed_after_telling k (tables.observers o) else tables.observers q)) →
          IsDoc f.names f.trees (with_observers tables seen)
      telling_held is = held_then there (keyed_after_telling k (tables.observers o)) seen is
          (speaks_telling (IsKey f.names) k (tables.observers o) (held.speaks o))

      pub telling_world : ((q : Owner) → seen q ≡ (if owner_eq o q then keyed_after_telling k (tables.observers o) else tables.observers q))
          → world_from f.names f.trees (with_observers tables seen) ≡ with_part d.world (after_telling k (part_of d.world o))
      telling_world is =
          subst (λ (e : DocState). world_from f.names f.trees (with_observers tables seen) ≡ with_part e.world (after_telling k (part_of e.world o))) is_d
          (seen_world f.names f.trees tables held o there (keyed_after_telling k (tables.observers o)) seen is
          (after_telling k (part_of (world_from f.names f.trees tables) o))
          (ap (with_seen f.names f.trees tables held o) (telling_law f.names k (tables.observers o)) ∙
          ap (after_telling k) (sym (part_seen f.names f.trees tables held o there))))

      module _ (rs : List Record) (got : map change_of rs ≡ queue_at (tables.observers o).record_queues k) where
        pub telling_records : map (change_in d) rs ≡ queue_of (part_of d.world o).record_queues k
        telling_records =
            subst (λ (e : DocState). map (change_in e) rs ≡ queue_of (part_of e.world o).record_queues k) is_d
            (sym (map_twice change_of (named_change (name_at f.names)) rs)
            ∙ (ap (map (named_change (name_at f.names))) got
            ∙ (sym (queue-named f.names (tables.observers o).record_queues k)
            ∙ ap (λ (p : Part). queue_of p.record_queues k) (sym (part_seen f.names f.trees tables held o there)))))

        pub telling_nodes : AllByRecursion (NamesNodes d) rs
        telling_nodes =
            subst (λ (e : DocState). AllByRecursion (NamesNodes e) rs) is_d
            (all_mapped change_of (IsChangeAt (IsKey f.names)) rs
            (subst (AreAll (IsChangeAt (IsKey f.names))) (sym got)
            (all_queued (IsChangeAt (IsKey f.names)) (tables.observers o).record_queues k (held.speaks o).records)))

  -- ---- the commands on an observer that is there

  module _ (k : ℕ) (known : is_some (slice_get (part_of d.world o).record_queues k) ≡ true) (seen : Owner → TablesOf ℕ) where
    of : is_there (world_from f.names f.trees tables) o ≡ true
    of = there_by k known

    in_queues : nat_lt k (length (tables.observers o).record_queues) ≡ true
    in_queues = within (tables.observers o).record_queues k (observer_is k ∙ known)

    -- it is known, so a call is refused for no other reason
    module _ {T : Type 0} (r : Result T Fault) where
      pub refused_known : {P : Type 0} → ((r ≡ Err (Refused TypeFault)) ↔ ((nat_lt k (length (tables.observers o).record_queues) ≡ true) × P)) →
          (r ≡ Err (Refused TypeFault)) ↔ P
      refused_known h = (λ e. (h.0 e).1, λ p. h.1 (in_queues, p))

      pub faults_known : ((r ≡ Err (Refused Unknown)) ↔ (nat_lt k (length (tables.observers o).record_queues) ≡ false)) →
          IfErr r (λ fault. (fault ≡ Refused Unknown) ⊎ ((fault ≡ Refused TypeFault) ⊎ (fault ≡ Memory))) →
          IfErr r (λ fault. (fault ≡ Refused TypeFault) ⊎ (fault ≡ Memory))
      faults_known = by r
        where
          by : (r : Result T Fault) → ((r ≡ Err (Refused Unknown)) ↔ (nat_lt k (length (tables.observers o).record_queues) ≡ false)) →
              IfErr r (λ fault. (fault ≡ Refused Unknown) ⊎ ((fault ≡ Refused TypeFault) ⊎ (fault ≡ Memory))) →
              IfErr r (λ fault. (fault ≡ Refused TypeFault) ⊎ (fault ≡ Memory))
          by (Ok x) unknown other = tt
          by (Err e) unknown (inl is) = absurd (true≢false (sym in_queues ∙ unknown.0 (ap Err is)))
          by (Err e) unknown (inr rest) = rest

    -- a registration
    module _ (x : ℕ) (is_node : x < length d.names) (own_node : owner_in d x ≡ o) (w : ObserveWords) where
      at_x : x < length f.names
      at_x = subst (λ (e : DocState). x < length e.names) (sym is_d) is_node

      own_x : (name_at f.names x).owner ≡ o
      own_x = subst (λ (e : DocState). owner_in e x ≡ o) (sym is_d) own_node

      pub observed_held : {T : Type 0} (r : Result T Fault) → OnErr r ((q : Owner) → seen q ≡ tables.observers q) →
          OnOk r ((q : Owner) → seen q ≡ (if owner_eq o q then observing nat_eq k x w (tables.observers o) else tables.observers q))
          → IsDoc f.names f.trees (with_observers tables seen)
      observed_held (Ok u) was is = held_then of (observing nat_eq k x w (tables.observers o)) seen is
          (speaks_observing (IsKey f.names) nat_eq k x w (tables.observers o) (held.speaks o) at_x)
      observed_held (Err e) was is = same_held seen was

      pub observed_world : TellApart f.names → {T : Type 0} (r : Result T Fault) →
          OnOk r ((q : Owner) → seen q ≡ (if owner_eq o q then observing nat_eq k x w (tables.observers o) else tables.observers q))
          → OnOk r (Makes o (Command.observe k (own (name_at d.names x).number) w) nothing d.world (world_from f.names f.trees (with_observers tables seen)))
      observed_world apart (Ok u) is =
          writes of (observing nat_eq k x w (tables.observers o)) seen is (λ ns. Command.observe k (own (name_at ns x).number) w) (λ ns. []) nothing
          (ap (λ p. Effect.tables (with_seen f.names f.trees tables held o
          (observing name_eq k (node_of p (name_at f.names x).number) w (named_tables (name_at f.names) (tables.observers o)))) [] nothing)
          (sym own_x)
          ∙ ap (λ t. Effect.tables (with_seen f.names f.trees tables held o t) [] nothing)
          (sym (observing_law f.names apart (tables.observers o) k x w (held.speaks o).registrations at_x)))
      observed_world apart (Err e) is = tt

    -- registrations that go
    module _ (b : Bool) (tells : b ≡ nat_lt k (length (tables.observers o).record_queues))
        (is : (q : Owner) → seen q ≡ (if owner_eq o q then (if b then disconnected k (tables.observers o) else tables.observers o) else
        tables.observers q)) where
      gone : (q : Owner) → seen q ≡ (if owner_eq o q then disconnected k (tables.observers o) else tables.observers q)
      gone q = is q ∙ ap (λ c. if owner_eq o q then (if c then disconnected k (tables.observers o) else tables.observers o) else tables.observers q)
          (tells ∙ in_queues)

      pub disconnected_held : IsDoc f.names f.trees (with_observers tables seen)
      disconnected_held = held_then of (disconnected k (tables.observers o)) seen gone
          (speaks_disconnected (IsKey f.names) k (tables.observers o) (held.speaks o))

      pub disconnected_world : Makes o (Command.disconnect k) nothing d.world (world_from f.names f.trees (with_observers tables seen))
      disconnected_world =
          writes of (disconnected k (tables.observers o)) seen gone (λ ns. Command.disconnect k) (λ ns. []) nothing
          (ap (λ t. Effect.tables (with_seen f.names f.trees tables held o t) [] nothing) (sym (disconnected_law f.names k (tables.observers o))))

    -- records that are taken
    pub taken_held : ((q : Owner) → seen q ≡ (if owner_eq o q then emptied k (tables.observers o) else tables.observers q)) →
        IsDoc f.names f.trees (with_observers tables seen)
    taken_held is = held_then of (emptied k (tables.observers o)) seen is (speaks_emptied (IsKey f.names) k (tables.observers o) (held.speaks o))

    module _ (rs : List Record) (got : Some (map change_of rs) ≡ slice_get (tables.observers o).record_queues k)
        (is : (q : Owner) → seen q ≡ (if owner_eq o q then emptied k (tables.observers o) else tables.observers q)) where
      records_named : queue_of (named_tables (name_at f.names) (tables.observers o)).record_queues k ≡ map
          (λ r. named_change (name_at f.names) (change_of r)) rs
      records_named =
          ap (λ m. unwrap_or m []) (slice_get-map (map (named_change (name_at f.names))) (tables.observers o).record_queues k ∙
          ap (option_map (map (named_change (name_at f.names)))) (sym got))
          ∙ map_twice change_of (named_change (name_at f.names)) rs

      pub taken_world : MakesSaying o (Command.take k) (map (λ r. recorded k (named_change (name_at d.names) (change_of r))) rs)
          (a_count (length rs)) d.world (world_from f.names f.trees (with_observers tables seen))
      taken_world =
          writes of (emptied k (tables.observers o)) seen is (λ ns. Command.take k)
          (λ ns. map (λ r. recorded k (named_change (name_at ns) (change_of r))) rs) (a_count (length rs))
          (ap (λ cs. Effect.tables (with_seen f.names f.trees tables held o (emptied k (named_tables (name_at f.names) (tables.observers o))))
          (map (recorded k) cs) (a_count (length cs))) records_named
          ∙ ap (λ lines. Effect.tables (with_seen f.names f.trees tables held o (emptied k (named_tables (name_at f.names) (tables.observers o))))
          lines (a_count (length (map (λ r. named_change (name_at f.names) (change_of r)) rs))))
          (map_twice (λ r. named_change (name_at f.names) (change_of r)) (recorded k) rs)
          ∙ ap (λ n. Effect.tables (with_seen f.names f.trees tables held o (emptied k (named_tables (name_at f.names) (tables.observers o))))
          (map (λ r. recorded k (named_change (name_at f.names) (change_of r))) rs) (a_count n))
          (length-map rs (λ r. named_change (name_at f.names) (change_of r)))
          ∙ ap (λ t. Effect.tables (with_seen f.names f.trees tables held o t)
          (map (λ r. recorded k (named_change (name_at f.names) (change_of r))) rs) (a_count (length rs)))
          (sym (emptied_law f.names k (tables.observers o))))

      pub taken_nodes : AllByRecursion (NamesNodes d) rs
      taken_nodes =
          subst (λ (e : DocState). AllByRecursion (NamesNodes e) rs) is_d
          (all_mapped change_of (IsChangeAt (IsKey f.names)) rs
          (all_got (AreAll (IsChangeAt (IsKey f.names))) (tables.observers o).record_queues k (map change_of rs) (held.speaks o).records
          (sym got)))
