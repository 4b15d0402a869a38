-- Notifications, tasks and checkpoints where nothing is live: they do what they do in the document machine.
use Rattle.dom_base.proofs.Std.{◌≡◌, ℕ, nat_eq, Bool, true, false, not, ◌&&◌, ◌||◌, List, [], ◌∷◌, ◌++◌, map, filter, flat_map, fold, slice_set}
use Rattle.dom_base.proofs.Std.{None, refl, sym, ap, ◌∙◌, true≢false, subst, cond-true, cond-false, AllByRecursion, map-append}
use Rattle.dom_base.proofs.Std.{append_assoc, append-nil, unwrap_or-slice_get, get_or-set_other, and-false, eq-eqb}
use Rattle.dom_model.proofs.Model.{Owner, NodeName, World, Part, Task, micro_task, notify_task, part_of, with_part, is_there, says, recorded}
use Rattle.dom_model.proofs.Model.{records_of, notified, notified_lines, is_owned_by, without_signals, firing_slotchange, slotchange, running_task, run_each}
use Rattle.dom_model.proofs.Model.{Run, Dispatched, part_of-with_part, owner-part_of, Change, Output}
use Rattle.dom_model.proofs.Model.{Registration, is_transient}
use Rattle.dom_model.specs.Names.{is_in}
use Rattle.dom_model.specs.Observers.{without_transients}
use Rattle.dom_worlds.specs.Definitions.{Invariant, task_owner}
use Rattle.dom_worlds.proofs.ListLemmas.{by_cases, all-then}
use Rattle.dom_worlds.proofs.OwnerLemmas.{there-with_part}
use Rattle.dom_worlds.proofs.TurnLemmas.{quiet-dispatch, quiet-told, quiet-running, there-visits, told_in}
use Rattle.dom_live.specs.Lines.{written}
use Rattle.dom_live.specs.Frames.{Notification, Checkpoint, Frame, an_event, a_notification, a_checkpoint}
use Rattle.dom_live.specs.Documents.{Live, world_documents, world_visits, first_is_live, without_first}
use Rattle.dom_live.specs.SmallSteps.{advance, fired_at, checked}
use Rattle.dom_live.proofs.PlainRuns.{none-live, without-live}
use Rattle.dom_live.proofs.Rested.{with_rest, dispatch-rested}
use Rattle.dom_live.proofs.Visited.{there-rested}
use Rattle.dom_live.proofs.StillRuns.{quiet_live, Leads, leads-nowhere, leads-step, leads-on}
use Rattle.dom_live.proofs.StillParts.{written-twice, written-there}
use Rattle.dom_live.proofs.StillEvents.{event-goes}
use Rattle.dom_live.proofs.OncePending.{IsOnce, IsTidy, tidy-running}

-- two tests, one after the other
pub filter-joined : {X : Type 0} (p q s : X → Bool) → ((x : X) → (q x && p x) ≡ s x) → (xs : List X) → filter p (filter q xs) ≡ filter s xs
filter-joined p q s h [] = refl
filter-joined p q s h (x ∷ xs) =
    by_cases (q x)
    (λ a. let is : s x ≡ p x = sym (h x) ∙ ap (λ c. c && p x) a in
    by_cases (p x) (λ b. rw (a, b, is ∙ b) (ap (λ ys. x ∷ ys) (filter-joined p q s h xs))) (λ b. rw (a, b, is ∙ b) (filter-joined p q s h xs)))
    (λ a. rw (a, sym (h x) ∙ ap (λ c. c && p x) a) (filter-joined p q s h xs))

-- a part after some observers were told
abbrev told_all : List ℕ → Part → Part
told_all ks q = record q {
  record_queues = fold (λ queues k. slice_set queues k []) q.record_queues ks;
  registrations = without_transients ks q.registrations;
}

-- an observer is told, and then others
told-more : (k : ℕ) (ks : List ℕ) (q : Part) → told_all ks (told_all (k ∷ []) q) ≡ told_all (k ∷ ks) q
told-more k ks q =
    ap (λ rs. record q { record_queues = fold (λ queues k. slice_set queues k []) q.record_queues (k ∷ ks); registrations = rs })
    (filter-joined (λ (r : Registration NodeName). not (is_transient r.source && is_in nat_eq r.observer ks))
    (λ (r : Registration NodeName). not (is_transient r.source && is_in nat_eq r.observer (k ∷ [])))
    (λ (r : Registration NodeName). not (is_transient r.source && is_in nat_eq r.observer (k ∷ ks)))
    (λ r. both (is_transient r.source) (nat_eq r.observer k) (is_in nat_eq r.observer ks)) q.registrations)
  where
    both : (t a b : Bool) → (not (t && (a || false)) && not (t && b)) ≡ not (t && (a || b))
    both true true b = refl
    both true false b = refl
    both false a b = refl

-- the records of others stay
records-stay : (k : ℕ) (ks : List ℕ) (q : Part) → is_in nat_eq k ks ≡ false → flat_map (records_of (told_all (k ∷ []) q)) ks ≡ flat_map (records_of q) ks
records-stay k [] q h = refl
records-stay k (j ∷ ks) q h =
    let f : List (Change NodeName) → List Output = map (λ c. says q.owner (recorded j c)) in
    ap (λ cs. f cs ++ flat_map (records_of (told_all (k ∷ []) q)) ks)
    (unwrap_or-slice_get (slice_set q.record_queues k []) j []
    ∙ get_or-set_other q.record_queues k j [] [] (λ e. true≢false (sym (ap (λ b. b || is_in nat_eq k ks) (same (sym e))) ∙ h))
    ∙ sym (unwrap_or-slice_get q.record_queues j []))
    ∙ ap (λ ls. records_of q j ++ ls) (records-stay k ks q (later (nat_eq k j) h))
  where
    same : k ≡ j → nat_eq k j ≡ true
    same e = eq-eqb k j e

    later : (b : Bool) → (b || is_in nat_eq k ks) ≡ false → is_in nat_eq k ks ≡ false
    later true h = absurd (true≢false h)
    later false h = h

-- no waiting microtask is live
abbrev pub NoneIsLive : List (Owner × Bool) → Type 0
NoneIsLive es = AllByRecursion (λ (e : Owner × Bool). e.1 ≡ false) es

-- What is asked of a world and its waiting microtasks for tasks to run.
pub record IsReady (w : World) (tasks : List (Owner × Bool)) : Type 0 where
  pub none : NoneIsLive tasks
  pub world : Invariant false w
  pub tidy : IsTidy w

-- Tasks in a checkpoint: whose it is, which waiting microtasks are live, and whether the input is at its end.
module _ (c : Checkpoint) (over : Bool) where
  -- the frame of the checkpoint
  abbrev around : List Frame
  around = a_checkpoint c ∷ []

  -- a notification
  abbrev notification : Owner → List ℕ → List NodeName → Notification
  notification o ks xs = record { owner = o; observers = ks; slots = xs; called = None }

  module _ (tasks : List (Owner × Bool)) (o : Owner) where
    -- live documents with it
    abbrev at : World → List ℕ → List NodeName → Live World
    at w ks xs = quiet_live w tasks (a_notification (notification o ks xs) ∷ around) over

    -- observers are told
    told-on : (xs : List NodeName) (w : World) (ks : List ℕ) (q : Part) → q.owner ≡ o → IsOnce ks →
        Leads (at (with_part w q) ks xs) (at (with_part w (told_all ks q)) [] xs) (map written (flat_map (records_of q) ks))
    told-on xs w [] q e h =
        subst (λ (p : Part). Leads (at (with_part w q) [] xs) (at (with_part w p) [] xs) []) (sym (no_more q)) (leads-nowhere (at (with_part w q) [] xs))
      where
        no_more : (q : Part) → told_all [] q ≡ q
        no_more q = ap (λ rs. record q { registrations = rs }) (filter-none q.registrations)
          where
            filter-none : (rs : List (Registration NodeName)) → without_transients [] rs ≡ rs
            filter-none [] = refl
            filter-none (r ∷ rs) =
                cond-true (not (is_transient r.source && false)) (r ∷ without_transients [] rs) (without_transients [] rs)
                (ap not (and-false (is_transient r.source)))
                ∙ ap (λ xs. r ∷ xs) (filter-none rs)
    told-on xs w (k ∷ ks) q e h =
        let next = told_all (k ∷ []) q in
        let telling : Part → Run World = λ p. (world_documents.with_part (with_part w q) (told_all (k ∷ []) p), records_of p k) in
        let step : advance world_documents (at (with_part w q) (k ∷ ks) xs) ≡ (at (with_part w next) ks xs, map written (records_of q k)) =
        ap (λ (p : Part). (at (telling p).0 ks xs, map written (telling p).1)) (part_of-with_part w q o e)
        ∙ ap (λ u. (at u ks xs, map written (records_of q k))) (written-twice w q next o e e) in
        subst (λ (p : Part). Leads (at (with_part w q) (k ∷ ks) xs) (at (with_part w p) [] xs) (map written (flat_map (records_of q) (k ∷ ks))))
        (told-more k ks q)
        (subst (Leads (at (with_part w q) (k ∷ ks) xs) (at (with_part w (told_all ks next)) [] xs))
        (ap (λ ls. map written (records_of q k) ++ map written ls) (records-stay k ks q h.0)
        ∙ sym (map-append written (records_of q k) (flat_map (records_of q) ks)))
        (leads-on (leads-step refl step) (told-on xs w ks next e h.1)))

    -- `slotchange` is fired
    fires-on : (ts : List Task) (xs : List NodeName) (w : World) → Invariant false w →
        let r = run_each firing_slotchange w xs in
        Leads (at (with_rest w ts None) [] xs) (quiet_live (with_rest r.0 ts None) tasks around over) (map written r.1)
    fires-on ts [] w i = leads-step refl refl
    fires-on ts (x ∷ xs) w i =
        let u = with_rest w ts None in
        let vs = world_visits u x None slotchange in
        let gs = a_notification (notification o [] xs) ∷ around in
        let fired = firing_slotchange w x in
        let more = run_each firing_slotchange fired.0 xs in
        let goes : Leads (quiet_live u tasks (an_event (fired_at x vs) ∷ gs) over) (quiet_live (with_rest fired.0 ts None) tasks gs over)
        (map written fired.1) =
        subst (λ (d : Dispatched World). Leads (quiet_live u tasks (an_event (fired_at x vs) ∷ gs) over) (quiet_live d.run.0 tasks gs over)
        (map written d.run.1)) (dispatch-rested ts None w x None slotchange)
        (subst (Leads _ _) (append-nil _)
        (event-goes gs (λ y event label capture. refl) tasks over u slotchange None (x ∷ []) x None (there-rested w i.world ts None x None slotchange))) in
        subst (Leads (at u [] (x ∷ xs)) (quiet_live (with_rest more.0 ts None) tasks around over)) (sym (map-append written fired.1 more.1))
        (leads-on (leads-on (leads-step refl refl) goes) (fires-on ts xs fired.0 (quiet-dispatch w x None slotchange i)))

  -- which waiting microtasks are live after a task
  abbrev left_by : Task → List (Owner × Bool) → List (Owner × Bool)
  left_by (micro_task o label) tasks = without_first o tasks
  left_by (notify_task o) tasks = tasks

  -- so it is after a task
  left-none : (t : Task) (tasks : List (Owner × Bool)) → NoneIsLive tasks → NoneIsLive (left_by t tasks)
  left-none (micro_task o label) tasks h = without-live o tasks h
  left-none (notify_task o) tasks h = h

  -- a task runs
  task-on : (t : Task) (ts : List Task) (w : World) (tasks : List (Owner × Bool)) → IsReady w tasks →
      is_there w (task_owner t) ≡ true →
      let r = running_task w t in
      Leads (quiet_live (with_rest w (t ∷ ts) None) tasks around over) (quiet_live (with_rest r.0 ts None) (left_by t tasks) around over) (map written r.1)
  task-on (micro_task o label) ts w tasks k h =
      leads-step refl (cond-false (first_is_live o tasks) _ _ (none-live o tasks k.none))
  task-on (notify_task o) ts w tasks k h =
      let u = with_rest w ts None in
      let p = part_of w o in
      let cleared : Part = record p { pending = [] } in
      let xs = filter (is_owned_by o) w.signalled in
      let base = without_signals u o in
      let told = told_in w o in
      let more = run_each firing_slotchange told xs in
      let step : advance world_documents (quiet_live (with_rest w (notify_task o ∷ ts) None) tasks around over)
      ≡ (at tasks o (with_part base cleared) p.pending xs, []) =
      ap (λ v. (at tasks o v p.pending xs, [])) (written-there base cleared o (owner-part_of w o) h) in
      subst (Leads (quiet_live (with_rest w (notify_task o ∷ ts) None) tasks around over) (quiet_live (with_rest more.0 ts None) tasks around over))
      (sym (map-append written (notified_lines p) more.1))
      (leads-on (leads-on (leads-step refl step) (told-on tasks o xs base p.pending cleared (owner-part_of w o) (k.tidy o)))
      (fires-on tasks o ts xs told (quiet-told w o k.world)))

  -- who is there stays there
  there-fired : (xs : List NodeName) (w : World) (o : Owner) → is_there w o ≡ true → is_there (run_each firing_slotchange w xs).0 o ≡ true
  there-fired [] w o h = h
  there-fired (x ∷ xs) w o h =
      there-fired xs (firing_slotchange w x).0 o (there-visits slotchange (world_visits w x None slotchange) (w, _) o h)

  -- after a task too
  there-run : (t : Task) (w : World) (o : Owner) → is_there w o ≡ true → is_there (running_task w t).0 o ≡ true
  there-run (micro_task x label) w o h = h
  there-run (notify_task x) w o h =
      there-fired (filter (is_owned_by x) w.signalled) (told_in w x) o (there-with_part (without_signals w x) (notified (part_of w x)) o h)

  -- What tasks and the end of the checkpoint come to.
  pub record Ends (ts : List Task) (w : World) (tasks : List (Owner × Bool)) : Type 0 where
    pub left : List (Owner × Bool)
    pub none : NoneIsLive left
    pub leads : let r = run_each running_task w ts in
        Leads (quiet_live (with_rest w ts None) tasks around over) (quiet_live (with_rest r.0 [] None) left [] over) (map written r.1 ++ checked c)

  -- all tasks, and the end
  pub tasks-end : (ts : List Task) (w : World) (tasks : List (Owner × Bool)) → IsReady w tasks →
      AllByRecursion (λ t. is_there w (task_owner t) ≡ true) ts → Ends ts w tasks
  tasks-end [] w tasks k h = record { left = tasks; none = k.none; leads = leads-step refl refl }
  tasks-end (t ∷ ts) w tasks k h =
      let r = running_task w t in
      let more = run_each running_task r.0 ts in
      let rest = tasks-end ts r.0 (left_by t tasks)
      (record { none = left-none t tasks k.none; world = quiet-running w k.world t; tidy = tidy-running w t k.tidy })
      (all-then (λ x. is_there w (task_owner x) ≡ true) (λ x. is_there r.0 (task_owner x) ≡ true) (λ x g. there-run t w (task_owner x) g) ts h.1) in
      record {
        left = rest.left;
        none = rest.none;
        leads =
            subst (Leads (quiet_live (with_rest w (t ∷ ts) None) tasks around over) (quiet_live (with_rest more.0 [] None) rest.left [] over))
            (sym (append_assoc (map written r.1) (map written more.1) (checked c)) ∙ ap (λ ls. ls ++ checked c) (sym (map-append written r.1 more.1)))
            (leads-on (task-on t ts w tasks k h.0) rest.leads);
      }
