-- Notifications and the endings of turns as a group has them, before a line too, and the turn that a line opens: what owners outside do is nothing.
use Rattle.dom_base.proofs.Std.{◌≡◌, ℕ, map, flat_map, Some, Bool, true, false, not, List, [], ◌∷◌, filter, None, refl, sym, ap, ◌∙◌, true≢false, Option, subst}
use Rattle.dom_base.proofs.Std.{AllByRecursion, is_some, if◌then◌else◌, option_map_or, cond-true, cond-false}
use Rattle.dom_model.proofs.Model.{Owner, NodeName, Output, Change, says, recorded, micro_ran, Part, queue_of, Run, run_each, quiet, World, Task, micro_task}
use Rattle.dom_model.proofs.Model.{notify_task, part_of, with_part, some_if, records_of, slotchange, firing_slotchange, is_owned_by, without_signals, notifying}
use Rattle.dom_model.proofs.Model.{notified, notified_lines, running_task, ending_turn, is_page_turn, is_other_component, has_other_turn, ending_other_turn}
use Rattle.dom_model.proofs.Model.{opening_turn, KeepsMakers, group_world, group_turn, group_outputs, group_run, is_task_of, is_of, owner_of_output}
use Rattle.dom_model.proofs.Model.{owner_eq-true, ne-owner_eq, owner-part_of, Page, Component, EventWords, name_eq, owner_eq, begun, views, dispatch_in}
use Rattle.dom_model.proofs.Model.{visits_of, turn-ending_turn}
use Rattle.dom_worlds.specs.Definitions.{Invariant}
use Rattle.dom_worlds.proofs.ListLemmas.{all-append, all-then, all-passed, filter_none, filter-filter, by_cases}
use Rattle.dom_worlds.proofs.TurnLemmas.{told_in, quiet-told, quiet-dispatch, quiet-running, at_end, quiet-at_end, quiet-opening, rest-visits}
use Rattle.dom_isolation.specs.Definitions.{IsCalm}
use Rattle.dom_isolation.proofs.GroupSlots.{filter-sub, in_node, part-in, with_part-in, with_part-out, filter-here, filter-away, outside-no_page}
use Rattle.dom_isolation.proofs.GroupDispatches.{no_dispatch, quiet-then}
use Rattle.dom_isolation.proofs.OutsideViews.{views-kept_in}

-- The lines of a notification are its owner's.
abbrev pub IsLineOf : Owner → Output → Type 0
IsLineOf o l = owner_of_output l ≡ Some o

-- lines of records
all-said : (o : Owner) (k : ℕ) (cs : List (Change NodeName)) → AllByRecursion (IsLineOf o) (map (λ c. says o (recorded k c)) cs)
all-said o k [] = tt
all-said o k (c ∷ cs) = (refl, all-said o k cs)

-- all lines of a notification
pub lines-notified : (p : Part) → AllByRecursion (IsLineOf p.owner) (notified_lines p)
lines-notified p = each p.pending
  where
    each : (ks : List ℕ) → AllByRecursion (IsLineOf p.owner) (flat_map (records_of p) ks)
    each [] = tt
    each (k ∷ ks) = all-append (IsLineOf p.owner) (records_of p k) (flat_map (records_of p) ks) (all-said p.owner k (queue_of p.record_queues k)) (each ks)

module _ (g : Owner → Bool) (closed : KeepsMakers g) where
  -- an owner's nodes are of the group where the owner is
  owned-in : (o : Owner) → g o ≡ true → (s : NodeName) → is_owned_by o s ≡ true → in_node g s ≡ true
  owned-in o h s e = ap g (owner_eq-true s.owner o e) ∙ h

  -- and outside where it is not
  owned-out : (o : Owner) → g o ≡ false → (s : NodeName) → is_owned_by o s ≡ true → in_node g s ≡ false
  owned-out o h s e = ap g (owner_eq-true s.owner o e) ∙ h

  -- The part of an owner of the group in two worlds of which the group has the same.
  pub same-part : (w v : World) → group_world g w ≡ group_world g v → (o : Owner) → g o ≡ true → part_of w o ≡ part_of v o
  same-part w v same o h = sym (part-in g w o h) ∙ ap (λ u. part_of u o) same ∙ part-in g v o h

  -- and at others'
  firings-out : {only_log : Bool} (ss : List NodeName) (w : World) → Invariant only_log w → AllByRecursion (λ s. in_node g s ≡ false) ss →
      group_run g (run_each firing_slotchange w ss) ≡ (group_world g w, [])
  firings-out [] w q h = refl
  firings-out (s ∷ ss) w q h =
      let first : group_run g (firing_slotchange w s) ≡ (group_world g w, []) =
      no_dispatch g w q.world s None slotchange (views-kept_in g closed w q.world s None h.0) in
      quiet-then g closed (firing_slotchange w s) w (λ u. run_each firing_slotchange u ss) (w, []) first
      (firings-out ss (firing_slotchange w s).0 (quiet-dispatch w s None slotchange q) h.1 ∙ ap (λ (r : Run World). (r.0, [])) first)

  -- The first part of a notification of the group.
  told-group : (w : World) (o : Owner) → g o ≡ true → group_world g (told_in w o) ≡ told_in (group_world g w) o
  told-group w o h =
      with_part-in g (without_signals w o) (notified (part_of w o)) (ap g (owner-part_of w o) ∙ h)
      ∙ ap (λ ss. with_part (record (group_world g w) { signalled = ss }) (notified (part_of w o)))
      (filter-filter (in_node g) (λ s. not (is_owned_by o s)) w.signalled)
      ∙ ap (λ p. with_part (without_signals (group_world g w) o) (notified p)) (sym (part-in g w o h))

  -- the signalled slots of an owner
  abbrev pub slots : Owner → World → List NodeName
  slots o u = filter (is_owned_by o) u.signalled

  -- In two worlds of which the group has the same: the first part of a notification, and the slots.
  module _ (w v : World) (same : group_world g w ≡ group_world g v) (o : Owner) (h : g o ≡ true) where
    -- the world and the lines
    pub told-in : group_run g (told_in w o, notified_lines (part_of w o)) ≡ group_run g (told_in v o, notified_lines (part_of v o))
    told-in =
        ap (λ u. (u, group_outputs g (notified_lines (part_of w o)))) (told-group w o h ∙ ap (λ u. told_in u o) same ∙ sym (told-group v o h))
        ∙ ap (λ a. (group_world g (told_in v o), group_outputs g (notified_lines a))) (same-part w v same o h)

    -- the slots
    pub slots-in : slots o w ≡ slots o v
    slots-in =
        sym (filter-sub (is_owned_by o) (in_node g) (owned-in o h) w.signalled) ∙ ap (slots o) same
        ∙ filter-sub (is_owned_by o) (in_node g) (owned-in o h) v.signalled

    -- which are of the group
    pub slots-inside : AllByRecursion (λ s. in_node g s ≡ true) (slots o w)
    slots-inside = all-passed (λ s. in_node g s ≡ true) (is_owned_by o) (owned-in o h) w.signalled

  -- another's lines are not the group's
  lines-out : (p : Part) → g p.owner ≡ false → group_outputs g (notified_lines p) ≡ []
  lines-out p h =
      filter_none (λ l. is_of g (owner_of_output l)) (notified_lines p)
      (all-then (IsLineOf p.owner) (λ l. is_of g (owner_of_output l) ≡ false) (λ l e. ap (is_of g) e ∙ h) (notified_lines p) (lines-notified p))

  -- a notification of another owner
  pub notifying-out : {only_log : Bool} (w : World) → Invariant only_log w → (o : Owner) → g o ≡ false → group_run g (notifying w o) ≡ (group_world g w, [])
  notifying-out w q o h =
      let slots = filter (is_owned_by o) w.signalled in
      let away = ap g (owner-part_of w o) ∙ h in
      let told : group_world g (told_in w o) ≡ group_world g w =
      with_part-out g (without_signals w o) (notified (part_of w o)) away
      ∙ ap (λ ss. record (group_world g w) { signalled = ss })
      (filter-sub (in_node g) (λ s. not (is_owned_by o s)) kept w.signalled) in
      quiet-then g closed (told_in w o, notified_lines (part_of w o)) w (λ u. run_each firing_slotchange u slots) (w, [])
      (ap (λ u. (u, group_outputs g (notified_lines (part_of w o)))) told ∙ ap (λ ls. (group_world g w, ls)) (lines-out (part_of w o) away))
      (firings-out slots (told_in w o) (quiet-told w o q) (all-passed (λ s. in_node g s ≡ false) (is_owned_by o) (owned-out o h) w.signalled)
      ∙ ap (λ u. (u, [])) told)
    where
      kept : (s : NodeName) → in_node g s ≡ true → not (is_owned_by o s) ≡ true
      kept s t = ap not (by_cases (is_owned_by o s) (λ e. absurd (true≢false (sym t ∙ owned-out o h s e))) (λ e. e))

  -- and one of another owner
  pub running-out : {only_log : Bool} (w : World) → Invariant only_log w → (t : Task) → is_task_of g t ≡ false →
      group_run g (running_task w t) ≡ (group_world g w, [])
  running-out w q (micro_task o label) h =
      ap (λ ls. (group_world g w, ls)) (filter-away (λ l. is_of g (owner_of_output l)) (says o (micro_ran label)) [] h)
  running-out w q (notify_task o) h = notifying-out w q o h

  -- of which none is of the group
  running-none : {only_log : Bool} (ts : List Task) (w : World) → Invariant only_log w → filter (is_task_of g) ts ≡ [] →
      group_run g (run_each running_task w ts) ≡ (group_world g w, [])
  running-none [] w q h = refl
  running-none (t ∷ ts) w q h =
      by_cases (is_task_of g t) (λ e. let some : t ∷ filter (is_task_of g) ts ≡ [] = sym (filter-here (is_task_of g) t ts e) ∙ h in cc)
      (λ e. let first = running-out w q t e in
      quiet-then g closed (running_task w t) w (λ u. run_each running_task u ts) (w, []) first
      (running-none ts (running_task w t).0 (quiet-running w q t) (sym (filter-away (is_task_of g) t ts e) ∙ h) ∙ ap (λ (r : Run World). (r.0, [])) first))

  -- A world with neither a turn nor tasks of the group, as it is when its turn ends.
  pub at_end-calm : (w : World) → IsCalm g w → group_turn g w.turn ≡ None → group_world g (at_end w) ≡ group_world g w
  at_end-calm w calm h =
      ap (λ ts. record (group_world g w) { tasks = ts; turn = None }) (sym (calm h)) ∙ ap (λ t. record (group_world g w) { turn = t }) (sym h)

  -- Where no turn of the group is open, and so it has no tasks, the ending of a turn does nothing.
  pub ending-out : {only_log : Bool} (w : World) → Invariant only_log w → IsCalm g w → group_turn g w.turn ≡ None →
      group_run g (ending_turn w) ≡ (group_world g w, [])
  ending-out w q calm h = running-none w.tasks (at_end w) (quiet-at_end w q) (calm h) ∙ ap (λ u. (u, [])) (at_end-calm w calm h)

-- A dispatch queues no task, and so no task does.
pub tasks-dispatch : (w : World) (x : NodeName) (r : Option NodeName) (e : EventWords) → (dispatch_in w x r e).run.0.tasks ≡ w.tasks
tasks-dispatch w x r e = ap (λ (v : World). v.tasks) (rest-visits e (visits_of name_eq e.bubbles (views w x r e.composed)) (w, begun []))

-- events at slots
tasks-firings : (ss : List NodeName) (w : World) → (run_each firing_slotchange w ss).0.tasks ≡ w.tasks
tasks-firings [] w = refl
tasks-firings (s ∷ ss) w = tasks-firings ss (firing_slotchange w s).0 ∙ tasks-dispatch w s None slotchange

-- one task
tasks-running : (w : World) (t : Task) → (running_task w t).0.tasks ≡ w.tasks
tasks-running w (micro_task o label) = refl
tasks-running w (notify_task o) = tasks-firings (filter (is_owned_by o) w.signalled) (with_part (without_signals w o) (notified (part_of w o)))

-- all of them
tasks-running_all : (ts : List Task) (w : World) → (run_each running_task w ts).0.tasks ≡ w.tasks
tasks-running_all [] w = refl
tasks-running_all (t ∷ ts) w = tasks-running_all ts (running_task w t).0 ∙ tasks-running w t

-- after the ending of a turn there are none
pub tasks-ending_turn : (w : World) → (ending_turn w).0.tasks ≡ []
tasks-ending_turn w = tasks-running_all w.tasks (record w { tasks = []; turn = None })

-- before a line of an owner no other component's turn is open
pub no_other-ended : (w : World) (o : Owner) → has_other_turn (ending_other_turn w o).0 o ≡ false
no_other-ended w o =
    by_cases (has_other_turn w o)
    (λ h. subst (λ (r : Run World). has_other_turn r.0 o ≡ false) (sym (cond-true (has_other_turn w o) (ending_turn w) (quiet w) h))
    (ap (λ t. option_map_or (is_other_component o) t false) (turn-ending_turn w)))
    (λ h. subst (λ (r : Run World). has_other_turn r.0 o ≡ false) (sym (cond-false (has_other_turn w o) (ending_turn w) (quiet w) h)) h)

-- so a line may open a turn
pub opened-quiet : {only_log : Bool} (w : World) → Invariant only_log w → (o : Owner) → Invariant only_log (opening_turn w o)
opened-quiet w q o = quiet-opening w q o

module _ (g : Owner → Bool) (closed : KeepsMakers g) where
  -- A turn of the group, and of none of it.
  pub turn-kept : (t : Option Owner) → is_of g t ≡ true → group_turn g t ≡ t
  turn-kept None h = absurd (true≢false (sym h))
  turn-kept (Some o) h = cond-true (g o) (Some o) None h

  -- of none
  pub turn-none : (t : Option Owner) → is_of g t ≡ false → group_turn g t ≡ None
  turn-none None h = refl
  turn-none (Some o) h = cond-false (g o) (Some o) None h

  -- the group tells
  turn-is_of : (t : Option Owner) → is_of g t ≡ is_some (group_turn g t)
  turn-is_of None = refl
  turn-is_of (Some o) = from (g o)
    where
      from : (b : Bool) → b ≡ is_some (some_if b o)
      from true = refl
      from false = refl

  -- so two worlds of which it has the same have the same turn of the group
  pub same-turn : (w v : World) → group_world g w ≡ group_world g v → is_of g w.turn ≡ true → w.turn ≡ v.turn
  same-turn w v same h =
      let turns : group_turn g w.turn ≡ group_turn g v.turn = ap (λ (u : World). u.turn) same in
      sym (turn-kept w.turn h) ∙ turns
      ∙ turn-kept v.turn (turn-is_of v.turn ∙ ap is_some (sym turns) ∙ sym (turn-is_of w.turn) ∙ h)

  -- the other is as calm
  pub same-calm : (w v : World) → group_world g w ≡ group_world g v → IsCalm g w → IsCalm g v
  same-calm w v same calm h = sym (ap (λ (u : World). u.tasks) same) ∙ calm (ap (λ (u : World). u.turn) same ∙ h)

  -- whether the page's turn is open
  page_turn-group : (t : Option Owner) → is_page_turn (group_turn g t) ≡ is_page_turn t
  page_turn-group None = refl
  page_turn-group (Some o) =
      by_cases (g o) (λ h. ap is_page_turn (cond-true (g o) (Some o) None h))
      (λ h. ap is_page_turn (cond-false (g o) (Some o) None h) ∙ sym (ne-owner_eq o Page (outside-no_page g closed o h)))

  -- is the same
  pub same-page_turn : (w v : World) → group_world g w ≡ group_world g v → is_page_turn w.turn ≡ is_page_turn v.turn
  same-page_turn w v same = sym (page_turn-group w.turn) ∙ ap (λ (u : World). is_page_turn u.turn) same ∙ page_turn-group v.turn

  -- Where no turn of the group is open, the ending of another's before a line, or at the end, does nothing.
  pub ending_other-out : {only_log : Bool} (w : World) → Invariant only_log w → IsCalm g w → is_of g w.turn ≡ false → (o : Owner) →
      group_run g (ending_other_turn w o) ≡ (group_world g w, [])
  ending_other-out w q calm h o =
      by_cases (has_other_turn w o)
      (λ e. ap (group_run g) (cond-true (has_other_turn w o) (ending_turn w) (quiet w) e) ∙ ending-out g closed w q calm (turn-none w.turn h))
      (λ e. ap (group_run g) (cond-false (has_other_turn w o) (ending_turn w) (quiet w) e))

  -- after the ending the group has tasks in a turn of its own alone
  pub calm-ended : (w : World) → IsCalm g w → (o : Owner) → IsCalm g (ending_other_turn w o).0
  calm-ended w calm o =
      by_cases (has_other_turn w o)
      (λ e. subst (λ (r : Run World). IsCalm g r.0) (sym (cond-true (has_other_turn w o) (ending_turn w) (quiet w) e))
      (λ h. ap (filter (is_task_of g)) (tasks-ending_turn w)))
      (λ e. subst (λ (r : Run World). IsCalm g r.0) (sym (cond-false (has_other_turn w o) (ending_turn w) (quiet w) e)) calm)

  -- The turn that is open before a line of the group is the group's.
  turn-own : (w : World) (o : Owner) → g o ≡ true → has_other_turn w o ≡ false → group_turn g w.turn ≡ w.turn
  turn-own w o h e = from w.turn e
    where
      same-owner : (k : Owner) → not (owner_eq k o) ≡ false → g k ≡ true
      same-owner k t = by_cases (owner_eq k o) (λ s. ap g (owner_eq-true k o s) ∙ h) (λ s. absurd (true≢false (sym (ap not s) ∙ t)))

      from : (t : Option Owner) → option_map_or (is_other_component o) t false ≡ false → group_turn g t ≡ t
      from None t = refl
      from (Some Page) t = cond-true (g Page) (Some Page) None closed.page
      from (Some (Component k)) t = cond-true (g (Component k)) (Some (Component k)) None (same-owner (Component k) t)

  -- an owner of the group, whose turn may be opened in two worlds
  pub record MayOpen (w v : World) (o : Owner) : Type 0 where
    pub mine : g o ≡ true
    pub first : has_other_turn w o ≡ false
    pub second : has_other_turn v o ≡ false

  -- a turn that a line of the group opens
  pub opening-in : (w v : World) → group_world g w ≡ group_world g v → (o : Owner) → MayOpen w v o →
      group_world g (opening_turn w o) ≡ group_world g (opening_turn v o)
  opening-in w v same o may =
      let turns : w.turn ≡ v.turn = sym (turn-own w o may.mine may.first) ∙ ap (λ (u : World). u.turn) same ∙ turn-own v o may.mine may.second in
      by_cases (is_some w.turn)
      (λ e. ap (group_world g) (cond-true (is_some w.turn) w (record w { turn = Some o }) e) ∙ same
      ∙ sym (ap (group_world g) (cond-true (is_some v.turn) v (record v { turn = Some o }) (ap is_some (sym turns) ∙ e))))
      (λ e. ap (group_world g) (cond-false (is_some w.turn) w (record w { turn = Some o }) e)
      ∙ ap (λ (u : World). record u { turn = group_turn g (Some o) }) same
      ∙ sym (ap (group_world g) (cond-false (is_some v.turn) v (record v { turn = Some o }) (ap is_some (sym turns) ∙ e))))

  -- and one that another line opens
  pub opening-out : (w : World) (o : Owner) → g o ≡ false → group_world g (opening_turn w o) ≡ group_world g w
  opening-out w o h = from w.turn refl
    where
      from : (t : Option Owner) → w.turn ≡ t → group_world g (if is_some w.turn then w else record w { turn = Some o }) ≡ group_world g w
      from None e =
          ap (λ t. group_world g (if is_some t then w else record w { turn = Some o })) e
          ∙ ap (λ t. record (group_world g w) { turn = t }) (cond-false (g o) (Some o) None h ∙ sym (ap (group_turn g) e))
      from (Some x) e = ap (λ t. group_world g (if is_some t then w else record w { turn = Some o })) e

  -- then the turn is the group's
  pub opening-own : (w : World) (o : Owner) → g o ≡ true → has_other_turn w o ≡ false → is_of g (opening_turn w o).turn ≡ true
  opening-own w o h a = from w.turn refl
    where
      from : (t : Option Owner) → w.turn ≡ t → is_of g (if is_some w.turn then w else record w { turn = Some o }).turn ≡ true
      from None e = ap (λ t. is_of g (if is_some t then w else record w { turn = Some o }).turn) e ∙ h
      from (Some x) e =
          ap (λ t. is_of g (if is_some t then w else record w { turn = Some o }).turn) e
          ∙ turn-is_of w.turn ∙ ap is_some (turn-own w o h a ∙ e)
