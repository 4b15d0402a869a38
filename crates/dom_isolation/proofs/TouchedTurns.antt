-- Notifications and the endings of turns as a group has them, whatever others' listeners do: those of the silent run, which takes one record for
-- each event at a slot of the group.
use Rattle.dom_base.proofs.Std.{◌≡◌, Bool, true, false, List, [], ◌∷◌, ◌++◌, filter, Option, None, refl, sym, ap, ◌∙◌, subst, true≢false, is_some}
use Rattle.dom_base.proofs.Std.{if◌then◌else◌, AllByRecursion, option_map_or, cond-true, cond-false, append_assoc}
use Rattle.dom_model.proofs.Model.{Owner, NodeName, name_eq, EventWords, begun, says, micro_ran, views, Run, quiet, run_then, run_each, World, Task, micro_task}
use Rattle.dom_model.proofs.Model.{notify_task, part_of, Dispatched, visits_of, slotchange, firing_slotchange, notifying, notified_lines, running_task}
use Rattle.dom_model.proofs.Model.{ending_turn, has_other_turn, ending_other_turn, is_owned_by, is_other_component, ending_any_turn, KeepsMakers, group_world}
use Rattle.dom_model.proofs.Model.{group_turn, group_outputs, group_run, is_task_of, is_of}
use Rattle.dom_worlds.specs.Definitions.{Invariant}
use Rattle.dom_worlds.proofs.ListLemmas.{by_cases}
use Rattle.dom_worlds.proofs.TurnLemmas.{told_in, quiet-told, quiet-dispatch, quiet-running, at_end, quiet-at_end, quiet-ending_turn, rest-visits}
use Rattle.dom_isolation.specs.Definitions.{Interference, first_record, is_own_visit, interference_at, records_each, slot_record, task_records, ending_records}
use Rattle.dom_isolation.specs.Definitions.{first_visits, last_records, IsCalm, Told, told_run, untold, dispatch_under, firing_under, notifying_under}
use Rattle.dom_isolation.specs.Definitions.{running_under, ending_under, ending_other_under, ending_any_under}
use Rattle.dom_isolation.proofs.GroupSlots.{in_node, filter-here, filter-away}
use Rattle.dom_isolation.proofs.GroupTurns.{turn-none, same-turn, same-calm, slots, told-in, slots-in, slots-inside, running-out, at_end-calm, ending-out}
use Rattle.dom_isolation.proofs.GroupDispatches.{runs-then, quiet-then, IsSameWorld, any_world, touched-in, world-dispatch_under}

module _ (g : Owner → Bool) (closed : KeepsMakers g) where
  -- A run, as the group has it, is one of the silent run, which leaves these records.
  pub record Follows (r : Run World) (m : Run Told) (rest : List Interference) : Type 0 where
    pub shown : group_run g r ≡ group_run g (told_run m)
    pub left : m.0.1 ≡ rest
    pub first : Invariant false r.0
    pub second : Invariant false m.0.0

  -- to two such worlds
  pub follows-same : {r : Run World} {m : Run Told} {rest : List Interference} → Follows r m rest → IsSameWorld g r.0 m.0.0
  follows-same a = record { first = a.first; second = a.second; same = ap (λ (r : Run World). r.0) a.shown }

  -- nothing is done
  pub quiet-follows : {w v : World} → IsSameWorld g w v → (rest : List Interference) → Follows (quiet w) (quiet (v, rest)) rest
  quiet-follows s rest = record { shown = ap (λ u. (u, [])) s.same; left = refl; first = s.first; second = s.second }

  -- then another
  pub then-follows : {mid rest : List Interference} (r : Run World) (m : Run Told) (f : World → Run World) (h : Told → Run Told) → Follows r m mid →
      Follows (f r.0) (h (m.0.0, mid)) rest → Follows (run_then r f) (run_then m h) rest
  then-follows {mid} {rest} r m f h a next =
      let k : Follows (f r.0) (h m.0) rest = subst (λ is. Follows (f r.0) (h (m.0.0, is)) rest) (sym a.left) next in
      record {
        shown = runs-then g closed r (told_run m) f (λ u. told_run (h m.0)) a.shown k.shown;
        left = k.left;
        first = k.first;
        second = k.second;
      }

  -- a run comes first that shows nothing
  silent-then : {rest : List Interference} {m : Run Told} (r : Run World) (w : World) (f : World → Run World) → group_run g r ≡ (group_world g w, []) →
      Follows (f r.0) m rest → Follows (run_then r f) m rest
  silent-then {m = m} r w f a k = record {
    shown = quiet-then g closed r w f (told_run m) a k.shown;
    left = k.left;
    first = k.first;
    second = k.second;
  }

  -- Events at slots of the group: one
  firing-follows : {w v : World} → IsSameWorld g w v → (x : NodeName) → in_node g x ≡ true → (rest : List Interference) →
      Follows (firing_slotchange w x) (firing_under g (v, slot_record g w x ++ rest) x) rest
  firing-follows {w} {v} s x h rest = record {
    shown = ap (λ (d : Dispatched World). d.run) (touched-in g s slotchange closed x None h tt);
    left = refl;
    first = quiet-dispatch w x None slotchange s.first;
    second = any_world (world-dispatch_under g (interference_at g w x None slotchange) v s.second.world x None slotchange);
  }

  -- and all
  firings-follow : (xs : List NodeName) {w v : World} → IsSameWorld g w v → AllByRecursion (λ x. in_node g x ≡ true) xs → (rest : List Interference) →
      Follows (run_each firing_slotchange w xs) (run_each (firing_under g) (v, records_each firing_slotchange (slot_record g) w xs ++ rest) xs) rest
  firings-follow [] s h rest = quiet-follows s rest
  firings-follow (x ∷ xs) {w} {v} s h rest =
      let behind = records_each firing_slotchange (slot_record g) (firing_slotchange w x).0 xs ++ rest in
      let one = firing-follows s x h.0 behind in
      then-follows (firing_slotchange w x) (firing_under g (v, slot_record g w x ++ behind) x) (λ u. run_each firing_slotchange u xs)
      (λ u. run_each (firing_under g) u xs) one (firings-follow xs (follows-same one) h.1 rest)

  -- A notification of the group
  notifying-follows : {w v : World} → IsSameWorld g w v → (o : Owner) → g o ≡ true → (rest : List Interference) →
      Follows (notifying w o) (notifying_under g (v, records_each firing_slotchange (slot_record g) (told_in w o) (slots g closed o w) ++ rest) o) rest
  notifying-follows {w} {v} s o h rest =
      let records = records_each firing_slotchange (slot_record g) (told_in w o) (slots g closed o w) ++ rest in
      let one : Follows (told_in w o, notified_lines (part_of w o)) (untold records (told_in v o, notified_lines (part_of v o))) records = record {
        shown = told-in g closed w v s.same o h;
        left = refl;
        first = quiet-told w o s.first;
        second = quiet-told v o s.second;
      } in
      then-follows (told_in w o, notified_lines (part_of w o)) (untold records (told_in v o, notified_lines (part_of v o)))
      (λ u. run_each firing_slotchange u (slots g closed o w)) (λ u. run_each (firing_under g) u (slots g closed o v)) one
      (subst (λ xs. Follows (run_each firing_slotchange (told_in w o) (slots g closed o w)) (run_each (firing_under g) (told_in v o, records) xs) rest)
      (slots-in g closed w v s.same o h) (firings-follow (slots g closed o w) (follows-same one) (slots-inside g closed w v s.same o h) rest))

  -- Tasks: one of the group,
  running-follows : {w v : World} → IsSameWorld g w v → (t : Task) → is_task_of g t ≡ true → (rest : List Interference) →
      Follows (running_task w t) (running_under g (v, task_records g w t ++ rest) t) rest
  running-follows s (micro_task o label) h rest = record {
    shown = ap (λ u. (u, group_outputs g (says o (micro_ran label) ∷ []))) s.same;
    left = refl;
    first = s.first;
    second = s.second;
  }
  running-follows {w} {v} s (notify_task o) h rest =
      let told = records_each firing_slotchange (slot_record g) (told_in w o) (slots g closed o w) in
      subst (λ is. Follows (running_task w (notify_task o)) (running_under g (v, is ++ rest) (notify_task o)) rest) (sym (cond-true (g o) told [] h))
      (notifying-follows s o h rest)

  -- of another, of which nothing is told,
  none-told : (w : World) (t : Task) → is_task_of g t ≡ false → task_records g w t ≡ []
  none-told w (micro_task o label) h = refl
  none-told w (notify_task o) h = cond-false (g o) (records_each firing_slotchange (slot_record g) (told_in w o) (slots g closed o w)) [] h

  -- of others, of which nothing is told,
  all_none-told : (ts : List Task) → filter (is_task_of g) ts ≡ [] → (w : World) → records_each running_task (task_records g) w ts ≡ []
  all_none-told [] h w = refl
  all_none-told (t ∷ ts) h w =
      by_cases (is_task_of g t) (λ e. let some : t ∷ filter (is_task_of g) ts ≡ [] = sym (filter-here (is_task_of g) t ts e) ∙ h in cc)
      (λ e. ap (λ is. is ++ records_each running_task (task_records g) (running_task w t).0 ts) (none-told w t e)
      ∙ all_none-told ts (sym (filter-away (is_task_of g) t ts e) ∙ h) (running_task w t).0)

  -- and all
  running_all-follow : (ts : List Task) {w v : World} → IsSameWorld g w v → (rest : List Interference) →
      Follows (run_each running_task w ts)
      (run_each (running_under g) (v, records_each running_task (task_records g) w ts ++ rest) (filter (is_task_of g) ts)) rest
  running_all-follow [] s rest = quiet-follows s rest
  running_all-follow (t ∷ ts) {w} {v} s rest =
      by_cases (is_task_of g t) (mine (λ u x k rest. running_all-follow ts {w = u} {v = x} k rest))
      (other (λ u x k rest. running_all-follow ts {w = u} {v = x} k rest))
    where
      behind : List Interference
      behind = records_each running_task (task_records g) (running_task w t).0 ts

      Goal : List Interference → List Task → Type 0
      Goal is us = Follows (run_each running_task w (t ∷ ts)) (run_each (running_under g) (v, is) us) rest

      More : Type 0
      More =
          (u x : World) → IsSameWorld g u x → (rest : List Interference) →
          Follows (run_each running_task u ts) (run_each (running_under g) (x, records_each running_task (task_records g) u ts ++ rest)
          (filter (is_task_of g) ts)) rest

      mine : More → is_task_of g t ≡ true → Goal ((task_records g w t ++ behind) ++ rest) (filter (is_task_of g) (t ∷ ts))
      mine more h =
          let one = running-follows s t h (behind ++ rest) in
          subst (Goal ((task_records g w t ++ behind) ++ rest)) (sym (filter-here (is_task_of g) t ts h))
          (subst (λ is. Goal is (t ∷ filter (is_task_of g) ts)) (sym (append_assoc (task_records g w t) behind rest))
          (then-follows (running_task w t) (running_under g (v, task_records g w t ++ (behind ++ rest)) t) (λ u. run_each running_task u ts)
          (λ u. run_each (running_under g) u (filter (is_task_of g) ts)) one
          (more (running_task w t).0 (running_under g (v, task_records g w t ++ (behind ++ rest)) t).0.0 (follows-same one) rest)))

      other : More → is_task_of g t ≡ false → Goal ((task_records g w t ++ behind) ++ rest) (filter (is_task_of g) (t ∷ ts))
      other more h =
          let first = running-out g closed w s.first t h in
          let still : IsSameWorld g (running_task w t).0 v = record {
            first = quiet-running w s.first t;
            second = s.second;
            same = ap (λ (r : Run World). r.0) first ∙ s.same;
          } in
          subst (Goal ((task_records g w t ++ behind) ++ rest)) (sym (filter-away (is_task_of g) t ts h))
          (subst (λ is. Goal ((is ++ behind) ++ rest) (filter (is_task_of g) ts)) (sym (none-told w t h))
          (silent-then (running_task w t) w (λ u. run_each running_task u ts) first (more (running_task w t).0 v still rest)))

  -- The ending of a turn,
  pub ending-follows : {w v : World} → IsSameWorld g w v → (rest : List Interference) →
      Follows (ending_turn w) (ending_under g (v, ending_records g w ++ rest)) rest
  ending-follows {w} {v} s rest =
      subst (λ ts. Follows (ending_turn w) (run_each (running_under g) (at_end v, ending_records g w ++ rest) ts) rest) (ap (λ (u : World). u.tasks) s.same)
      (running_all-follow w.tasks (record { first = quiet-at_end w s.first; second = quiet-at_end v s.second; same = ap at_end s.same }) rest)

  -- and in the silent run of one in which the group has no turn.
  ending_none-follows : {w v : World} → IsSameWorld g w v → IsCalm g v → group_turn g v.turn ≡ None → (rest : List Interference) →
      Follows (quiet w) (ending_under g (v, rest)) rest
  ending_none-follows {w} {v} s calm h rest =
      subst (λ ts. Follows (quiet w) (run_each (running_under g) (at_end v, rest) ts) rest) (sym (calm h))
      (record {
        shown = ap (λ u. (u, [])) (s.same ∙ sym (at_end-calm g closed v calm h));
        left = refl;
        first = s.first;
        second = quiet-at_end v s.second;
      })

  -- Where a turn may be ended, or not.
  module _ {w v : World} (s : IsSameWorld g w v) (calm : IsCalm g w) (rest : List Interference) where
    -- the ending in a world, and in the silent run, where one and the other may be
    abbrev Ended : Bool → Bool → List Interference → Type 0
    Ended b c is = Follows (if b then ending_turn w else quiet w) (if c then ending_under g (v, is ++ rest) else quiet (v, is ++ rest)) rest

    -- in a turn of the group both are
    both : (b c : Bool) → b ≡ c → Ended b c (if b then ending_records g w else [])
    both true true e = ending-follows s rest
    both true false e = absurd (true≢false e)
    both false true e = absurd (true≢false (sym e))
    both false false e = quiet-follows s rest

    -- else neither does anything
    neither : group_turn g w.turn ≡ None → (b c : Bool) → Ended b c []
    neither h b c = after b
      where
        also : group_turn g v.turn ≡ None
        also = sym (ap (λ (u : World). u.turn) s.same) ∙ h

        silent : {u : World} → IsSameWorld g u v → (c : Bool) → Follows (quiet u) (if c then ending_under g (v, rest) else quiet (v, rest)) rest
        silent k true = ending_none-follows k (same-calm g closed w v s.same calm) also rest
        silent k false = quiet-follows k rest

        after : (b : Bool) → Ended b c []
        after true =
            let first = ending-out g closed w s.first calm h in
            let q = quiet-ending_turn w s.first in
            let k = silent (record { first = q; second = s.second; same = ap (λ (r : Run World). r.0) first ∙ s.same }) c in
            record {
              shown = first ∙ sym (ap (λ (r : Run World). (r.0, [])) first) ∙ k.shown;
              left = k.left;
              first = q;
              second = k.second;
            }
        after false = silent s c

    -- one or the other
    pub ending_if-follows : (b c : Bool) → (is_of g w.turn ≡ true → b ≡ c) → Ended b c (if b then ending_records g w else [])
    ending_if-follows b c e =
        by_cases (is_of g w.turn) (λ h. both b c (e h))
        (λ h. let none = turn-none g closed w.turn h in
        subst (Ended b c) (sym (told b (all_none-told w.tasks (calm none) (at_end w)))) (neither none b c))
      where
        told : (b : Bool) → ending_records g w ≡ [] → (if b then ending_records g w else []) ≡ []
        told true h = h
        told false h = refl

    -- before a line
    pub ending_other-follows : (o : Owner) →
        Follows (ending_other_turn w o) (ending_other_under g (v, (if has_other_turn w o then ending_records g w else []) ++ rest) o) rest
    ending_other-follows o =
        ending_if-follows (has_other_turn w o) (has_other_turn v o) (λ h. ap (λ t. option_map_or (is_other_component o) t false)
        (same-turn g closed w v s.same h))

    -- at the end of input
    pub ending_any-follows : Follows (ending_any_turn w) (ending_any_under g (v, last_records g w ++ rest)) rest
    ending_any-follows = ending_if-follows (is_some w.turn) (is_some v.turn) (λ h. ap is_some (same-turn g closed w v s.same h))

-- In the silent run no event changes the turn, and so none is open after its ending.
module _ (g : Owner → Bool) where
  -- a dispatch
  pub rest-dispatch_under : (i : Interference) (v : World) (x : NodeName) (r : Option NodeName) (e : EventWords) →
      record (dispatch_under g i v x r e).run.0 { parts = [] } ≡ record v { parts = [] }
  rest-dispatch_under i v x r e =
      rest-visits e (first_visits i.reached (filter (is_own_visit g) (visits_of name_eq e.bubbles (views v x r e.composed)))) (v, begun [])

  -- events at slots
  turn-firings : (xs : List NodeName) (t : Told) → (run_each (firing_under g) t xs).0.0.turn ≡ t.0.turn
  turn-firings [] t = refl
  turn-firings (x ∷ xs) t =
      turn-firings xs (firing_under g t x).0 ∙ ap (λ (u : World). u.turn) (rest-dispatch_under (first_record t.1) t.0 x None slotchange)

  -- tasks
  turn-running : (ts : List Task) (t : Told) → (run_each (running_under g) t ts).0.0.turn ≡ t.0.turn
  turn-running [] t = refl
  turn-running (k ∷ ts) t = turn-running ts (running_under g t k).0 ∙ one k
    where
      one : (k : Task) → (running_under g t k).0.0.turn ≡ t.0.turn
      one (micro_task o label) = refl
      one (notify_task o) = turn-firings (filter (is_owned_by o) t.0.signalled) (told_in t.0 o, t.1)

  -- before a line of an owner no other component's turn is open
  pub no_other-ended_under : (t : Told) (o : Owner) → has_other_turn (ending_other_under g t o).0.0 o ≡ false
  no_other-ended_under t o =
      by_cases (has_other_turn t.0 o)
      (λ h. subst (λ (r : Run Told). has_other_turn r.0.0 o ≡ false) (sym (cond-true (has_other_turn t.0 o) (ending_under g t) (quiet t) h))
      (ap (λ a. option_map_or (is_other_component o) a false) (turn-running (filter (is_task_of g) t.0.tasks) (at_end t.0, t.1))))
      (λ h. subst (λ (r : Run Told). has_other_turn r.0.0 o ≡ false) (sym (cond-false (has_other_turn t.0 o) (ending_under g t) (quiet t) h)) h)
