-- One small step of any frame, as a group has it.
use Rattle.dom_base.proofs.Std.{◌≡◌, ℕ, Bool, true, false, not, ◌&&◌, ◌||◌, List, [], ◌∷◌, ◌++◌, filter, map, Option, Some, None}
use Rattle.dom_base.proofs.Std.{refl, sym, ap, ◌∙◌, cond-true, cond-false, if◌then◌else◌, list_any, and-false, and_parts, slice_set, AllByRecursion}
use Rattle.dom_base.proofs.Std.{append-nil, option_to_list}
use Rattle.dom_model.proofs.Model.{Owner, NodeName, owner_eq, owner_eq-true, Part, Task, is_task_of, says, replied}
use Rattle.dom_model.specs.Output.{Change, nothing}
use Rattle.dom_model.specs.Names.{is_empty}
use Rattle.dom_model.specs.Observers.{without_transients}
use Rattle.dom_model.specs.Part.{queue_of}
use Rattle.dom_model.specs.Turns.{slotchange, records_of}
use Rattle.dom_worlds.specs.Definitions.{IsOf}
use Rattle.dom_worlds.proofs.ListLemmas.{by_cases, filter-map}
use Rattle.dom_isolation.proofs.GroupSlots.{filter-here, filter-away, any-kept}
use Rattle.dom_live.specs.Lines.{LiveLine, LiveRun, LiveOutput, written, calls, at_observer, still, and_then}
use Rattle.dom_live.specs.Frames.{Visiting, Notification, Checkpoint, asked_by, of_loop, of_end, Frame, an_event, a_notification, a_microtask}
use Rattle.dom_live.specs.Frames.{a_checkpoint}
use Rattle.dom_live.specs.Documents.{Documents, Live}
use Rattle.dom_live.specs.SmallSteps.{pushed, advance, is_observer, starting, telling, checked, fired_at, checkpoint_step}
use Rattle.dom_live.specs.Groups.{is_own_node, own_event, own_live, own_run, own_outputs, is_own_output, is_own_entry, is_own_step_of}
use Rattle.dom_live.specs.Groups.{is_own_checkpoint, is_own_step}
use Rattle.dom_live.specs.Laws.{IsFrame, IsVisitAt}
use Rattle.dom_live.specs.Things.{Thing, was_run, told_by, first_begins}
use Rattle.dom_live.proofs.OwnFrames.{pushed-in, pushed-out}
use Rattle.dom_live.proofs.OwnSteps.{Agrees}
use Rattle.dom_live.proofs.EventSteps.{StepAgrees, follow, told_of, by_parts, quietly, between_visits-agree}
use Rattle.dom_live.proofs.VisitSteps.{in_visit-agrees}
use Rattle.dom_live.proofs.TaskSteps.{none-own, told_lines, lines-in, lines-out, starting-in, starting-out}

module _ {g : Owner → Bool} {S V : Type 0} {P : S → Type 0} {d : Documents S} {view : S → V} {e : Documents V} (a : Agrees g P d view e)
    {L : Type 0} (read : L → LiveLine) where
  -- a step of a notification or a microtask of the group
  module _ (f : Frame) (s : Live S) where
    -- of which nothing is told
    own-step : is_own_step_of g (d.tasks s.documents) f ≡ true → told_of a read true f s ≡ None →
        (t : Live V) → own_live g view (pushed f s) ≡ t → own_run g view (advance d (pushed f s)) ≡ advance e t → StepAgrees a read f s
    own-step o k t l r = by_parts a read f s true None t o k l r

  -- ---- notifications
  module _ (n : Notification) (s : Live S) where
    -- what the group has around
    abbrev around : Live V
    around = own_live g view s

    -- what becomes of an observer's part
    abbrev emptied : ℕ → Part → Part
    emptied k p = record p { record_queues = slice_set p.record_queues k []; registrations = without_transients (k ∷ []) p.registrations }

    -- An observer of the group is told,
    telling-in : (k : ℕ) → g n.owner ≡ true → own_run g view (telling d s n k) ≡ telling e around n k
    telling-in k h =
        let o = n.owner in
        let p = d.part s.documents o in
        let owned : g p.owner ≡ true = ap g (a.owner s.documents o) ∙ h in
        let told : Part → Live V = λ p. record around { documents = e.with_part (view s.documents) (emptied k p) } in
        let lines : Part → List LiveOutput = λ p. map written (records_of p k) in
        let tells : Bool → Part → LiveRun (Live V) = λ c p. if c && not (is_empty (queue_of p.record_queues k))
        then (pushed (a_notification (record n { called = Some k })) (told p), lines p ++ calls o (at_observer k) ∷ [])
        else (pushed (a_notification n) (told p), lines p) in
        let live = list_any (is_observer o k) s.live_observers in
        let called = live && not (is_empty (queue_of p.record_queues k)) in
        let after : Live S = record s { documents = d.with_part s.documents (emptied k p) } in
        let view-is : (m : Notification) → m.owner ≡ o → own_live g view (pushed (a_notification m) after) ≡ pushed (a_notification m) (told p) =
        λ m same. pushed-in g view (a_notification m) after (ap g same ∙ h)
        ∙ ap (λ w. pushed (a_notification m) (record around { documents = w })) (a.part_in s.documents (emptied k p) owned) in
        by_cases called
        (λ c. ap (own_run g view) (cond-true called _ _ c)
        ∙ ap (λ t. (t, own_outputs g (lines p ++ calls o (at_observer k) ∷ []))) (view-is (record n { called = Some k }) refl)
        ∙ ap (λ ls. (pushed (a_notification (record n { called = Some k })) (told p), ls))
        (lines-in g p.owner k owned (queue_of p.record_queues k) (calls o (at_observer k) ∷ [])
        ∙ ap (λ ls. lines p ++ ls) (filter-here (is_own_output g) (calls o (at_observer k)) [] h))
        ∙ sym (cond-true called _ _ c))
        (λ c. ap (own_run g view) (cond-false called _ _ c)
        ∙ ap (λ t. (t, own_outputs g (lines p))) (view-is n refl)
        ∙ ap (λ ls. (pushed (a_notification n) (told p), ls)) (all-lines p owned (queue_of p.record_queues k))
        ∙ sym (cond-false called _ _ c))
        ∙ ap (λ c. tells c p) (sym (any-kept (is_observer o k) (is_own_entry g) (λ x m. ap g (owner_eq-true x.0 o (and_parts (owner_eq x.0 o) _ m).0) ∙ h)
        s.live_observers))
        ∙ ap (tells (list_any (is_observer o k) (filter (is_own_entry g) s.live_observers))) (sym (a.part s.documents o h))
      where
        none-left : (xs : List LiveOutput) → xs ++ [] ≡ xs
        none-left [] = refl
        none-left (x ∷ xs) = ap (λ ys. x ∷ ys) (none-left xs)

        all-lines : (p : Part) → g p.owner ≡ true → (cs : List (Change NodeName)) → own_outputs g (told_lines g p.owner k cs) ≡ told_lines g p.owner k cs
        all-lines p o cs =
            ap (own_outputs g) (sym (none-left (told_lines g p.owner k cs))) ∙ lines-in g p.owner k o cs [] ∙ none-left (told_lines g p.owner k cs)

    -- and another's.
    telling-out : (k : ℕ) → g n.owner ≡ false → own_run g view (telling d s n k) ≡ (around, [])
    telling-out k h =
        let o = n.owner in
        let p = d.part s.documents o in
        let other : g p.owner ≡ false = ap g (a.owner s.documents o) ∙ h in
        let lines = map written (records_of p k) in
        let called = list_any (is_observer o k) s.live_observers && not (is_empty (queue_of p.record_queues k)) in
        let after : Live S = record s { documents = d.with_part s.documents (emptied k p) } in
        let view-is : (m : Notification) → m.owner ≡ o → own_live g view (pushed (a_notification m) after) ≡ around =
        λ m same. pushed-out g view (a_notification m) after (ap g same ∙ h)
        ∙ ap (λ w. record around { documents = w }) (a.part_out s.documents (emptied k p) other) in
        by_cases called
        (λ c. ap (own_run g view) (cond-true called _ _ c)
        ∙ ap (λ t. (t, own_outputs g (lines ++ calls o (at_observer k) ∷ []))) (view-is (record n { called = Some k }) refl)
        ∙ ap (λ ls. (around, ls)) (lines-out g p.owner k other (queue_of p.record_queues k) (calls o (at_observer k) ∷ [])
        ∙ filter-away (is_own_output g) (calls o (at_observer k)) [] h))
        (λ c. ap (own_run g view) (cond-false called _ _ c)
        ∙ ap (λ t. (t, own_outputs g lines)) (view-is n refl)
        ∙ ap (λ ls. (around, ls)) (all-lines p other (queue_of p.record_queues k)))
      where
        none-left : (xs : List LiveOutput) → xs ++ [] ≡ xs
        none-left [] = refl
        none-left (x ∷ xs) = ap (λ ys. x ∷ ys) (none-left xs)

        all-lines : (p : Part) → g p.owner ≡ false → (cs : List (Change NodeName)) → own_outputs g (told_lines g p.owner k cs) ≡ []
        all-lines p o cs = ap (own_outputs g) (sym (none-left (told_lines g p.owner k cs))) ∙ lines-out g p.owner k o cs []

    -- The event of a slot of the group,
    fired-in : P s.documents → (x : NodeName) (xs : List NodeName) → g n.owner ≡ true → x.owner ≡ n.owner →
        own_live g view (pushed (an_event (fired_at x (d.visits s.documents x None slotchange))) (pushed (a_notification (record n { slots = xs })) s))
        ≡ pushed (an_event (fired_at x (e.visits (view s.documents) x None slotchange))) (pushed (a_notification (record n { slots = xs })) around)
    fired-in p x xs h same =
        let vs = d.visits s.documents x None slotchange in
        let mine : g x.owner ≡ true = ap g same ∙ h in
        let rest = own_live g view (pushed (a_notification (record n { slots = xs })) s) in
        pushed-in g view (an_event (fired_at x vs)) (pushed (a_notification (record n { slots = xs })) s)
        (ap (λ b. b || list_any (is_own_node g) (map (λ v. v.current) vs)) mine)
        ∙ ap (λ ns. pushed (an_event (record (own_event g (fired_at x vs)) { nodes = ns })) rest)
        (filter-here (is_own_node g) x (map (λ v. v.current) vs) mine ∙ ap (λ ys. x ∷ ys) (filter-map (is_own_node g) (λ v. v.current) vs))
        ∙ ap (λ us. pushed (an_event (fired_at x us)) rest) (a.visits_in s.documents p x mine)
        ∙ ap (pushed (an_event (fired_at x (e.visits (view s.documents) x None slotchange)))) (pushed-in g view (a_notification (record n { slots = xs })) s h)

    -- and of another's.
    fired-out : P s.documents → (x : NodeName) (xs : List NodeName) → g n.owner ≡ false → x.owner ≡ n.owner →
        own_live g view (pushed (an_event (fired_at x (d.visits s.documents x None slotchange))) (pushed (a_notification (record n { slots = xs })) s)) ≡ around
    fired-out p x xs h same =
        let vs = d.visits s.documents x None slotchange in
        let other : g x.owner ≡ false = ap g same ∙ h in
        pushed-out g view (an_event (fired_at x vs)) (pushed (a_notification (record n { slots = xs })) s)
        (ap (λ b. b || list_any (is_own_node g) (map (λ v. v.current) vs)) other ∙ none-own g vs (a.visits_out s.documents p x other))
        ∙ pushed-out g view (a_notification (record n { slots = xs })) s h

  -- any step of a notification
  notification-agrees : (n : Notification) (s : Live S) → P s.documents → AllByRecursion (IsOf n.owner) n.slots → StepAgrees a read (a_notification n) s
  notification-agrees n s p slots =
      by_cases (g n.owner) (λ h. mine h n.called n.observers n.slots slots) (λ h. others h n.called n.observers n.slots slots)
    where
      o : Owner
      o = n.owner

      at : Option ℕ → List ℕ → List NodeName → Notification
      at c ks xs = record { owner = o; observers = ks; slots = xs; called = c }

      mine : g o ≡ true → (c : Option ℕ) (ks : List ℕ) (xs : List NodeName) → AllByRecursion (IsOf o) xs → StepAgrees a read (a_notification (at c ks xs)) s
      mine h (Some k) ks xs i =
          own-step (a_notification (at (Some k) ks xs)) s h refl (pushed (a_notification (at (Some k) ks xs)) (own_live g view s))
          (pushed-in g view (a_notification (at (Some k) ks xs)) s h)
          (ap (λ t. (t, [])) (pushed-in g view (a_notification (at None ks xs)) s h))
      mine h None (k ∷ ks) xs i =
          own-step (a_notification (at None (k ∷ ks) xs)) s h refl (pushed (a_notification (at None (k ∷ ks) xs)) (own_live g view s))
          (pushed-in g view (a_notification (at None (k ∷ ks) xs)) s h) (telling-in (at None ks xs) s k h)
      mine h None [] (x ∷ xs) i =
          own-step (a_notification (at None [] (x ∷ xs))) s h refl (pushed (a_notification (at None [] (x ∷ xs))) (own_live g view s))
          (pushed-in g view (a_notification (at None [] (x ∷ xs))) s h) (ap (λ t. (t, [])) (fired-in (at None [] (x ∷ xs)) s p x xs h i.0))
      mine h None [] [] i =
          own-step (a_notification (at None [] [])) s h refl (pushed (a_notification (at None [] [])) (own_live g view s))
          (pushed-in g view (a_notification (at None [] [])) s h) refl

      unseen : g o ≡ false → (n : Notification) → n.owner ≡ o → own_live g view (pushed (a_notification n) s) ≡ own_live g view s
      unseen h n same = pushed-out g view (a_notification n) s (ap g same ∙ h)

      others : g o ≡ false → (c : Option ℕ) (ks : List ℕ) (xs : List NodeName) → AllByRecursion (IsOf o) xs → StepAgrees a read (a_notification (at c ks xs)) s
      others h (Some k) ks xs i =
          quietly a read (a_notification (at (Some k) ks xs)) s h refl
          (ap (λ t. (t, [])) (unseen h (at None ks xs) refl ∙ sym (unseen h (at (Some k) ks xs) refl)))
      others h None (k ∷ ks) xs i =
          quietly a read (a_notification (at None (k ∷ ks) xs)) s h refl
          (telling-out (at None ks xs) s k h ∙ ap (λ t. (t, [])) (sym (unseen h (at None (k ∷ ks) xs) refl)))
      others h None [] (x ∷ xs) i =
          quietly a read (a_notification (at None [] (x ∷ xs))) s h refl
          (ap (λ t. (t, [])) (fired-out (at None [] (x ∷ xs)) s p x xs h i.0 ∙ sym (unseen h (at None [] (x ∷ xs)) refl)))
      others h None [] [] i =
          quietly a read (a_notification (at None [] [])) s h refl (ap (λ t. (t, [])) (sym (unseen h (at None [] []) refl)))

  -- ---- microtasks
  microtask-agrees : (o : Owner) (s : Live S) → StepAgrees a read (a_microtask o) s
  microtask-agrees o s =
      by_cases (g o)
      (λ h. own-step (a_microtask o) s h refl (pushed (a_microtask o) (own_live g view s)) (pushed-in g view (a_microtask o) s h) refl)
      (λ h. quietly a read (a_microtask o) s h refl (ap (λ t. (t, [])) (sym (pushed-out g view (a_microtask o) s h))))

  -- ---- checkpoints
  module _ (c : Checkpoint) (s : Live S) (p : P s.documents) where
    -- the law, with these tasks
    abbrev AgreesWith : List Task → Type 0
    AgreesWith ts =
        let own = is_own_step_of g ts (a_checkpoint c) in
        own_run g view (checkpoint_step d s c ts)
        ≡ follow a read (own_live g view (pushed (a_checkpoint c) s)) own (told_by g s.live_listeners ts own (a_checkpoint c))

    -- by what is told, and what the group has
    module _ (ts : List Task) (own : Bool) (x : Option (Thing L)) (t : Live V) where
      -- the law follows
      with_parts : is_own_step_of g ts (a_checkpoint c) ≡ own → told_by g s.live_listeners ts own (a_checkpoint c) ≡ x →
          own_live g view (pushed (a_checkpoint c) s) ≡ t → own_run g view (checkpoint_step d s c ts) ≡ follow a read t own x → AgreesWith ts
      with_parts o k l r =
          r ∙ sym (ap (λ t. follow a read t own x) l) ∙ sym (ap (follow a read (own_live g view (pushed (a_checkpoint c) s)) own) k)
          ∙ sym (ap (λ b. follow a read (own_live g view (pushed (a_checkpoint c) s)) b (told_by g s.live_listeners ts b (a_checkpoint c))) o)

    -- what is around it, once a task has begun
    abbrev begun : List Task → Live S
    begun ts = record s { documents = d.with_tasks s.documents ts }

    -- as the group has it
    abbrev begun_own : List Task → Live V
    begun_own ts = record (own_live g view s) { documents = e.with_tasks (view s.documents) (filter (is_task_of g) ts) }

    -- it is that
    begun-in : (ts : List Task) → own_live g view (begun ts) ≡ begun_own ts
    begun-in ts = ap (λ w. record (own_live g view s) { documents = w }) (a.with_tasks s.documents ts)

    -- a task of others leaves it
    begun-out : (t : Task) (ts : List Task) → d.tasks s.documents ≡ t ∷ ts → is_task_of g t ≡ false → begun_own ts ≡ own_live g view s
    begun-out t ts q h =
        ap (λ us. record (own_live g view s) { documents = e.with_tasks (view s.documents) us })
        (sym (ap (filter (is_task_of g)) q ∙ filter-away (is_task_of g) t ts h))
        ∙ ap (λ w. record (own_live g view s) { documents = w }) (a.tasks_same s.documents)

    -- the group's tasks
    own-tasks : (t : Task) (ts : List Task) → d.tasks s.documents ≡ t ∷ ts → is_task_of g t ≡ true →
        e.tasks (view s.documents) ≡ t ∷ filter (is_task_of g) ts
    own-tasks t ts q h = a.tasks s.documents ∙ ap (filter (is_task_of g)) q ∙ filter-here (is_task_of g) t ts h

    -- who asked for it is told that it is over
    checked-in : is_own_checkpoint g c ≡ true → own_outputs g (checked c) ≡ checked c
    checked-in h = from c h
      where
        from : (c : Checkpoint) → is_own_checkpoint g c ≡ true → own_outputs g (checked c) ≡ checked c
        from (asked_by o) h = filter-here (is_own_output g) (written (says o (replied nothing))) [] h
        from of_loop h = refl
        from of_end h = refl

    -- another
    checked-out : is_own_checkpoint g c ≡ false → own_outputs g (checked c) ≡ []
    checked-out h = from c h
      where
        from : (c : Checkpoint) → is_own_checkpoint g c ≡ false → own_outputs g (checked c) ≡ []
        from (asked_by o) h = filter-away (is_own_output g) (written (says o (replied nothing))) [] h
        from of_loop h = refl
        from of_end h = refl

    -- a checkpoint of the group: its end, a task of the group, and another's
    mine : is_own_checkpoint g c ≡ true → (ts : List Task) → d.tasks s.documents ≡ ts → AgreesWith ts
    mine k [] q =
        with_parts [] true None (pushed (a_checkpoint c) (own_live g view s)) (ap (λ b. b && true) k) refl (pushed-in g view (a_checkpoint c) s k)
        (ap (λ ls. (own_live g view s, ls)) (checked-in k)
        ∙ sym (ap (checkpoint_step e (own_live g view s) c) (a.tasks s.documents ∙ ap (filter (is_task_of g)) q)))
    mine k (t ∷ ts) q =
        by_cases (is_task_of g t)
        (λ h. with_parts (t ∷ ts) true None (pushed (a_checkpoint c) (own_live g view s)) (ap (λ b. b && is_task_of g t) k ∙ h) refl
        (pushed-in g view (a_checkpoint c) s k)
        (starting-in a t (pushed (a_checkpoint c) (begun ts)) (a.tasks_put s.documents ts p) h
        ∙ ap (starting e t) (pushed-in g view (a_checkpoint c) (begun ts) k ∙ ap (pushed (a_checkpoint c)) (begun-in ts))
        ∙ sym (ap (checkpoint_step e (own_live g view s) c) (own-tasks t ts q h))))
        (λ h. with_parts (t ∷ ts) false None (own_live g view (pushed (a_checkpoint c) s))
        (ap (λ b. is_own_checkpoint g c && b) h ∙ and-false (is_own_checkpoint g c))
        (cond-false (not (is_own_checkpoint g c) && is_task_of g t) (Some was_run) None
        (ap (λ b. not (is_own_checkpoint g c) && b) h ∙ and-false (not (is_own_checkpoint g c)))) refl
        (starting-out a t (pushed (a_checkpoint c) (begun ts)) h
        ∙ ap (λ r. (r, [])) (pushed-in g view (a_checkpoint c) (begun ts) k ∙ ap (pushed (a_checkpoint c)) (begun-in ts ∙ begun-out t ts q h)
        ∙ sym (pushed-in g view (a_checkpoint c) s k))))

    -- another: its end, a task of the group, of which it is told, and another's
    others : is_own_checkpoint g c ≡ false → (ts : List Task) → d.tasks s.documents ≡ ts → AgreesWith ts
    others k [] q =
        with_parts [] false None (own_live g view s) (ap (λ b. b && true) k) refl (pushed-out g view (a_checkpoint c) s k)
        (ap (λ ls. (own_live g view s, ls)) (checked-out k))
    others k (t ∷ ts) q =
        by_cases (is_task_of g t)
        (λ h. with_parts (t ∷ ts) false (Some was_run) (own_live g view s) (ap (λ b. b && is_task_of g t) k)
        (ap (λ b. if not b && is_task_of g t then Some was_run else None) k ∙ ap (λ b. if b then Some was_run else None) h)
        (pushed-out g view (a_checkpoint c) s k)
        (starting-in a t (pushed (a_checkpoint c) (begun ts)) (a.tasks_put s.documents ts p) h
        ∙ ap (starting e t) (pushed-out g view (a_checkpoint c) (begun ts) k ∙ begun-in ts)
        ∙ alone (starting e t (begun_own ts))
        ∙ sym (ap (λ us. and_then (first_begins e (own_live g view s) us) (λ r. still r)) (own-tasks t ts q h))))
        (λ h. with_parts (t ∷ ts) false None (own_live g view (pushed (a_checkpoint c) s)) (ap (λ b. b && is_task_of g t) k)
        (cond-false (not (is_own_checkpoint g c) && is_task_of g t) (Some was_run) None
        (ap (λ b. not (is_own_checkpoint g c) && b) h ∙ and-false (not (is_own_checkpoint g c)))) refl
        (starting-out a t (pushed (a_checkpoint c) (begun ts)) h
        ∙ ap (λ r. (r, [])) (pushed-out g view (a_checkpoint c) (begun ts) k ∙ begun-in ts ∙ begun-out t ts q h
        ∙ sym (pushed-out g view (a_checkpoint c) s k))))
      where
        alone : (r : LiveRun (Live V)) → r ≡ and_then r (λ t. still t)
        alone r = ap (λ ls. (r.0, ls)) (sym (append-nil r.1))

    -- any step of a checkpoint
    checkpoint-agrees : StepAgrees a read (a_checkpoint c) s
    checkpoint-agrees = by_cases (is_own_checkpoint g c) (λ k. mine k (d.tasks s.documents) refl) (λ k. others k (d.tasks s.documents) refl)

  -- ---- any frame
  frame-agrees : (f : Frame) (s : Live S) → P s.documents → IsFrame f → StepAgrees a read f s
  frame-agrees (an_event u) s p i = from u.visiting i.visiting
    where
      from : (m : Option Visiting) → AllByRecursion (λ (v : Visiting). IsVisitAt u.nodes v.visit) (option_to_list m) →
          StepAgrees a read (an_event (record u { visiting = m })) s
      from None h = between_visits-agree a read u s i.knowing u.visits i.visits
      from (Some v) h = in_visit-agrees a read u s i.knowing v.visit v.calls v.called v.stopped_now h.0
  frame-agrees (a_notification n) s p i = notification-agrees n s p i
  frame-agrees (a_microtask o) s p i = microtask-agrees o s
  frame-agrees (a_checkpoint c) s p i = checkpoint-agrees c s p

  -- what the next small step tells
  abbrev pub told_frames : Live S → List Frame → Option (Thing L)
  told_frames s [] = None
  told_frames s (f ∷ fs) = told_of a read (is_own_step_of g (d.tasks s.documents) f) f s

  -- One small step of live documents.
  pub small_step-agrees : (s : Live S) → P s.documents → AllByRecursion IsFrame s.frames →
      own_run g view (advance d s) ≡ follow a read (own_live g view s) (is_own_step g (d.tasks s.documents) s.frames) (told_frames s s.frames)
  small_step-agrees s p i = from s.frames i
    where
      from : (fs : List Frame) → AllByRecursion IsFrame fs →
          own_run g view (advance d (record s { frames = fs }))
          ≡ follow a read (own_live g view (record s { frames = fs })) (is_own_step g (d.tasks s.documents) fs) (told_frames s fs)
      from [] i = refl
      from (f ∷ fs) i = frame-agrees f (record s { frames = fs }) p i.0
