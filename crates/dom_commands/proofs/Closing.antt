-- The end of a turn: the tasks run, one after another, and what they tell is put.
use Rattle.dom_commands.proofs.Cited.{OnOk, AllByRecursion, true, false, ◌≡◌, ℕ, List, [], ◌∷◌, ◌++◌, drop, map, filter, Some, None, Result}
use Rattle.dom_commands.proofs.Cited.{Ok, Err, sym, ap, ◌∙◌, refl, subst, none-some, same_Some, IsBounded, IsThere, task_owner}
use Rattle.dom_commands.proofs.Cited.{all-then, stays-running, Stands, at_end-stands, told-stands, dispatch-stands, Joins, name_at, DocState}
use Rattle.dom_commands.proofs.Cited.{IsListenerAt, heard, own_listeners, MachineNow, machine_now, IsAtRest, AreAtNodes, AreThere}
use Rattle.dom_model.proofs.Model.{Owner, NodeName, Listener, Word, first_of, EventWords, Part, Run, run_each, ending_turn, running_task, notifying, notified}
use Rattle.dom_model.proofs.Model.{notified_lines, Output, is_owned_by, without_signals, slotchange, firing_slotchange, World, Task, part_of, with_part}
use Rattle.dom_model.proofs.Model.{dispatch_in, is_there}
use Rattle.dom_commands.proofs.Bounded.{bounded-dispatch, bounded-told}
use Rattle.dom_commands.proofs.ListenerWorlds.{FitsIn, part-heard, with_part-heard, there-heard}
use Rattle.dom_commands.proofs.Listening.{OwnersAreThere, fits-own}
use Rattle.dom_commands.proofs.Machines.{seen_at}

-- ---- runs, one after another

module _ {S : Type 0} (adds : S → List Output → S → Type 0) {A : Type 0} (f : World → A → Run World) where
  -- Where runs for items stand, after some of them: the world so far, and the items left. Whatever tells the rest tells all of them.
  pub record Ran (was now : World) (all left : List A) (before after : S) : Type 0 where
    pub world : (run_each f now left).0 ≡ (run_each f was all).0
    pub told : (end : S) → adds after (run_each f now left).1 end → adds before (run_each f was all).1 end

  -- one more
  pub ran_more : {was now then : World} {all rest : List A} {x : A} {before after next : S} → Joins adds → Ran was now all (x ∷ rest) before after →
      then ≡ (f now x).0 → adds after (f now x).1 next → Ran was then all rest before next
  ran_more {now = now} {rest = rest} {x = x} {after = after} {next = next} more ran world told =
      let r = f now x in
      record {
        world = ap (λ v. (run_each f v rest).0) world ∙ ran.world;
        told = λ end h. ran.told end (more after next end r.1 (run_each f r.0 rest).1 told
            (subst (λ v. adds next (run_each f v rest).1 end) world h));
      }

-- ---- the queue

-- what a first task and the others make
pub first_rest : (ts us : List Task) (t : Task) → Some t ≡ first_of ts → us ≡ drop 1 ts → ts ≡ t ∷ us
first_rest [] us t e is = absurd (none-some t (sym e))
first_rest (u ∷ ts) us t e is = ap (λ v. v ∷ ts) (sym (same_Some t u e)) ∙ ap (λ vs. t ∷ vs) (sym is)

pub none_left : (ts : List Task) → None ≡ first_of ts → ts ≡ []
none_left [] e = refl
none_left (u ∷ ts) e = absurd (none-some u e)

-- the owners of the other tasks stay
pub there_after : (w v : World) (t : Task) (ts : List Task) → AreThere w (t ∷ ts) → v ≡ (running_task w t).0 → AreThere v ts
there_after w v t ts h e =
    subst (λ u. AreThere u ts) (sym e) (all-then (λ u. IsThere w (task_owner u)) (λ u. IsThere (running_task w t).0 (task_owner u))
    (λ u k. stays-running w t (task_owner u) k) ts h.1)

-- ---- machines on the way

stands : (m : MachineNow) → IsAtRest m → Stands m.world
stands m s = record { reached = s.reached; whole = s.whole }

sound_from : (n : MachineNow) (w : World) → n.world ≡ w → AreAtNodes n → Stands w → IsBounded w → IsAtRest n
sound_from n w e at s b = record {
  listeners = at;
  reached = (subst Stands (sym e) s).reached;
  whole = (subst Stands (sym e) s).whole;
  bounds = subst IsBounded (sym e) b;
}

-- A machine at rest, and what becomes of it, with its listeners at nodes.
module _ (m n : MachineNow) (sound : IsAtRest m) (at : AreAtNodes n) where
  -- with the tasks taken out
  pub taken_sound : n.world ≡ record m.world { tasks = []; turn = None } → IsAtRest n
  taken_sound e = sound_from n (record m.world { tasks = []; turn = None }) e at (at_end-stands m.world (stands m sound)) sound.bounds

  -- with an owner's observers told
  pub told_sound : (o : Owner) → IsThere m.world o → n.world ≡ with_part (without_signals m.world o) (notified (part_of m.world o)) → IsAtRest n
  told_sound o there e = sound_from n (with_part (without_signals m.world o) (notified (part_of m.world o))) e at
      (told-stands m.world o there (stands m sound)) (bounded-told m.world o sound.bounds)

  -- after an event
  pub fired_sound : (x : NodeName) → n.world ≡ (dispatch_in m.world x None slotchange).run.0 → IsAtRest n
  fired_sound x e = sound_from n (dispatch_in m.world x None slotchange).run.0 e at (dispatch-stands m.world x None slotchange (stands m sound))
      (bounded-dispatch m.world x None slotchange sound.bounds)

-- an event like `slotchange`, by another name
abbrev pub named_event : Word → EventWords
named_event n = record { event = n; bubbles = true; cancelable = false; composed = false }

-- what holds however a call ends
pub on_ok : {T E : Type 0} {P : Type 0} (r : Result T E) → P → OnOk r P
on_ok (Ok x) p = p
on_ok (Err e) p = tt

-- ---- the tasks are taken out, in a world with listeners

module _ (s t : DocState) (ls : List (Listener ℕ)) (m : MachineNow) (seen : machine_now s ls ≡ m) (sound : IsAtRest m) (names : t.names ≡ s.names)
    (world : t.world ≡ record s.world { tasks = []; turn = None }) where
  pub closed_world : (machine_now t ls).world ≡ record m.world { tasks = []; turn = None }
  closed_world =
      ap (λ (ns : List NodeName). heard (own_listeners ns ls) t.world) names ∙ ap (heard (own_listeners s.names ls)) world ∙
      ap (λ (n : MachineNow). record n.world { tasks = []; turn = None }) seen

  pub closed_sound : IsAtRest (machine_now t ls)
  closed_sound =
      taken_sound m (machine_now t ls) sound (subst (λ (ns : List NodeName). AllByRecursion (IsListenerAt ns) ls) (sym names) (seen_at s ls m seen sound))
      closed_world

  -- the owners of the tasks of a turn that was closed are there
  pub closed_there : (ts : List Task) → ts ≡ s.world.tasks → AreThere (machine_now t ls).world ts
  closed_there ts is =
      let same : ts ≡ m.world.tasks = is ∙ ap (λ (n : MachineNow). n.world.tasks) seen in
      subst (λ us. AreThere (machine_now t ls).world us) (sym same) (subst (λ w. AreThere w m.world.tasks) (sym closed_world) sound.reached.owners.tasks)

-- what they run to
pub closed_run : (w v : World) (ts : List Task) → v ≡ record w { tasks = []; turn = None } → ts ≡ w.tasks → run_each running_task v ts ≡ ending_turn w
closed_run w v ts taken is = ap (λ u. run_each running_task u ts) taken ∙ ap (run_each running_task (record w { tasks = []; turn = None })) is

-- however it ends
pub ended_world : {T E : Type 0} {q p : Run World} (r : Result T E) (u : World) → q ≡ p → OnOk r (u ≡ q.0) → OnOk r (u ≡ p.0)
ended_world (Ok x) u same e = e ∙ ap (λ (z : Run World). z.0) same
ended_world (Err x) u same e = tt

pub ended_telling : {S : Type 0} (adds : S → List Output → S → Type 0) {T E : Type 0} {q p : Run World} (r : Result T E) (before after : S) → q ≡ p →
    OnOk r (adds before q.1 after) → OnOk r (adds before p.1 after)
ended_telling adds (Ok x) before after same e = subst (λ (z : Run World). adds before z.1 after) same e
ended_telling adds (Err x) before after same e = tt

-- ---- a notification, in a world with listeners

module _ (of : Owner → List (Listener NodeName)) (w : World) (fits : FitsIn of w) (o : Owner) where
  pub told-heard : heard of (with_part w (notified (part_of w o))) ≡ with_part (heard of w) (notified (part_of (heard of w) o))
  told-heard = sym (with_part-heard of w (notified (part_of w o))) ∙ ap (λ (p : Part). with_part (heard of w) (notified p)) (sym (part-heard of w fits o))

  pub lines-heard : notified_lines (part_of w o) ≡ notified_lines (part_of (heard of w) o)
  lines-heard = ap notified_lines (sym (part-heard of w fits o))

module _ (s t u : DocState) (ls : List (Listener ℕ)) (m : MachineNow) (seen : machine_now s ls ≡ m) (sound : IsAtRest m)
    (there : OwnersAreThere s.names s.world) (o : Owner) (here : IsThere m.world o)
    (t_names : t.names ≡ s.names) (t_world : t.world ≡ without_signals s.world o) where
  -- the owner is there in the state behind
  pub told_there : IsThere t.world o
  told_there =
      sym (ap (λ (w : World). is_there w o) (sym t_world)) ∙ sym (there-heard (own_listeners s.names ls) s.world o) ∙
      ap (λ (n : MachineNow). is_there n.world o) seen ∙ here

  -- the same lines
  pub told_lines : notified_lines (part_of t.world o) ≡ notified_lines (part_of m.world o)
  told_lines =
      ap (λ (w : World). notified_lines (part_of w o)) t_world
      ∙ lines-heard (own_listeners s.names ls) s.world (fits-own s.names s.world there ls (seen_at s ls m seen sound)) o
      ∙ ap (λ (n : MachineNow). notified_lines (part_of n.world o)) seen

  module _ (u_names : u.names ≡ t.names) (u_world : u.world ≡ with_part t.world (notified (part_of t.world o))) where
    -- its observers were told
    pub told_world : (machine_now u ls).world ≡ with_part (without_signals m.world o) (notified (part_of m.world o))
    told_world =
        let of = own_listeners s.names ls in
        let base = without_signals s.world o in
        ap (λ (ns : List NodeName). heard (own_listeners ns ls) u.world) (u_names ∙ t_names)
        ∙ ap (heard of) (u_world ∙ ap (λ (w : World). with_part w (notified (part_of w o))) t_world)
        ∙ told-heard of base (fits-own s.names s.world there ls (seen_at s ls m seen sound)) o
        ∙ ap (λ (n : MachineNow). with_part (without_signals n.world o) (notified (part_of n.world o))) seen

    pub told_is_sound : IsAtRest (machine_now u ls)
    told_is_sound =
        told_sound m (machine_now u ls) sound
        (subst (λ (ns : List NodeName). AllByRecursion (IsListenerAt ns) ls) (sym (u_names ∙ t_names)) (seen_at s ls m seen sound)) o here told_world

    -- and the slots are those that were signalled
    pub told_slots : (keys : List ℕ) → map (name_at s.names) keys ≡ filter (is_owned_by o) s.world.signalled →
        map (name_at u.names) keys ≡ filter (is_owned_by o) m.world.signalled
    told_slots keys is =
        ap (λ (ns : List NodeName). map (name_at ns) keys) (u_names ∙ t_names) ∙ is ∙ ap (λ (n : MachineNow). filter (is_owned_by o) n.world.signalled) seen

-- the events after it
module _ (w v : World) (o : Owner) (told : v ≡ with_part (without_signals w o) (notified (part_of w o))) (slots : List NodeName)
    (are : slots ≡ filter (is_owned_by o) w.signalled) where
  signalled_run : run_each firing_slotchange v slots ≡ run_each firing_slotchange (with_part (without_signals w o) (notified (part_of w o)))
      (filter (is_owned_by o) w.signalled)
  signalled_run = ap (λ u. run_each firing_slotchange u slots) told ∙
      ap (run_each firing_slotchange (with_part (without_signals w o) (notified (part_of w o)))) are

  pub notify_world : {T E : Type 0} (u : World) (r : Result T E) → OnOk r (u ≡ (run_each firing_slotchange v slots).0) → OnOk r (u ≡ (notifying w o).0)
  notify_world u (Ok x) e = e ∙ ap (λ (q : Run World). q.0) signalled_run
  notify_world u (Err x) e = tt

  module _ {S : Type 0} (adds : S → List Output → S → Type 0) {T E : Type 0} (more : Joins adds) (before mid after : S) where
    pub notify_telling : adds before (notified_lines (part_of w o)) mid →
        (r : Result T E) → OnOk r (adds mid (run_each firing_slotchange v slots).1 after) → OnOk r (adds before (notifying w o).1 after)
    notify_telling first (Err x) e = tt
    notify_telling first (Ok x) e =
        let rest = (run_each firing_slotchange (with_part (without_signals w o) (notified (part_of w o))) (filter (is_owned_by o) w.signalled)).1 in
        more before mid after (notified_lines (part_of w o)) rest first (subst (λ (q : Run World). adds mid q.1 after) signalled_run e)
