-- A trace tells no more stops than others make.
use Rattle.dom_base.proofs.Std.{◌≡◌, ◌≤◌, ℕ, ◌+◌, Bool, true, false, not, ◌&&◌, List, [], ◌∷◌, map, Option, Some, None}
use Rattle.dom_base.proofs.Std.{is_some, option_map, refl, sym, ap, ◌∙◌, true≢false, subst, arith, cond, cond-true, cond-false, if◌then◌else◌}
use Rattle.dom_base.proofs.Std.{AllByRecursion, option_to_list, ⊤, list_any}
use Rattle.dom_model.proofs.Model.{Owner, NodeName, Word, World, Task, micro_task, notify_task, Visit, Listener, ListenerWords, Action}
use Rattle.dom_model.proofs.Model.{Log, Stop, StopNow, Cancel, part_of}
use Rattle.dom_model.specs.Names.{is_empty}
use Rattle.dom_model.specs.Listeners.{may_cancel}
use Rattle.dom_worlds.proofs.ListLemmas.{by_cases}
use Rattle.dom_live.specs.Lines.{LiveRun}
use Rattle.dom_live.specs.Frames.{Visiting, UnderWay, Notification, Checkpoint, Frame, an_event, a_notification, a_microtask, a_checkpoint, caller}
use Rattle.dom_live.specs.Frames.{without_call, without_calls, acted, told_to, known_by, stopped_visit}
use Rattle.dom_live.specs.Documents.{Live, world_documents, is_live, first_is_live}
use Rattle.dom_live.specs.SmallSteps.{advance, advance_in, frame_step, between_visits, after_once}
use Rattle.dom_live.specs.SmallSteps.{notification_step, firing_at, checkpoint_step, without_listener, is_observer}
use Rattle.dom_model.specs.Part.{queue_of}
use Rattle.dom_live.specs.Groups.{is_own_visit, is_own_event, is_own_step, is_own_checkpoint}
use Rattle.dom_live.specs.Things.{Thing, was_stopped, was_cancelled, was_run, told_by, told_next}
use Rattle.dom_live.specs.Things.{ends_next, is_secret, shows_next}
use Rattle.dom_live.specs.Honesty.{stop_in, is_stop, stops_next}
use Rattle.dom_model.specs.Groups.{is_task_of}

-- one, if a test holds
abbrev pub one_if : Bool → ℕ
one_if b = if b then 1 else 0

-- a test that fails on its right
and-right : (b : Bool) → (b && false) ≡ false
and-right true = refl
and-right false = refl

-- where a stop comes to one that is counted
more : (e b c : Bool) (n : ℕ) → (e && b) ≡ c → one_if (e && (b && true)) ≤ n + one_if (c && true)
more true true true n h = omega arith
more true true false n h = absurd (true≢false h)
more true false c n h = let m = one_if (c && true) in omega arith
more false b c n h = let m = one_if (c && true) in omega arith

-- three tests
joined : (a b c : Bool) → one_if ((a && b) && c) ≡ one_if (a && (b && c))
joined true b c = refl
joined false b c = refl

module _ (g : Owner → Bool) where
  -- a stop by another in the visit that is made, of which the group is not told yet
  abbrev pub untold_in : Bool → Bool → Option Visiting → ℕ
  untold_in own stopped None = 0
  untold_in own stopped (Some v) = one_if (own && (not (is_own_visit g v.visit) && stopped))

  -- in a frame
  abbrev pub untold : Frame → ℕ
  untold (an_event u) = untold_in (is_own_event g u) u.stopped u.visiting
  untold f = 0

  -- in all
  abbrev pub all_untold : List Frame → ℕ
  all_untold [] = 0
  all_untold (f ∷ fs) = untold f + all_untold fs

  -- calls that are removed
  pub sifted-untold : (x : NodeName) (event label : Word) (capture : Bool) (fs : List Frame) →
      all_untold (map (without_calls x event label capture) fs) ≡ all_untold fs
  sifted-untold x event label capture [] = refl
  sifted-untold x event label capture (an_event u ∷ fs) =
      ap (λ n. n + all_untold (map (without_calls x event label capture) fs)) (from u.visiting)
      ∙ ap (λ n. untold (an_event u) + n) (sifted-untold x event label capture fs)
    where
      from : (m : Option Visiting) →
          untold_in (is_own_event g u) u.stopped (option_map (without_call x event label capture) m) ≡ untold_in (is_own_event g u) u.stopped m
      from None = refl
      from (Some v) = refl
  sifted-untold x event label capture (a_notification n ∷ fs) = ap (λ n. 0 + n) (sifted-untold x event label capture fs)
  sifted-untold x event label capture (a_microtask o ∷ fs) = ap (λ n. 0 + n) (sifted-untold x event label capture fs)
  sifted-untold x event label capture (a_checkpoint c ∷ fs) = ap (λ n. 0 + n) (sifted-untold x event label capture fs)

  -- one that is for once
  once-untold : (x : NodeName) (w : ListenerWords) (s : Live World) → all_untold (after_once world_documents x w s).frames ≡ all_untold s.frames
  once-untold x w s = from w.once
    where
      from : (b : Bool) → all_untold (if b then without_listener world_documents x w.event w.label w.capture s else s).frames ≡ all_untold s.frames
      from true = sifted-untold x w.event w.label w.capture s.frames
      from false = refl

  -- an act in a visit, which is another's or not
  pub acted-untold : (o : Owner) (may : Bool) (a : Action) (u : UnderWay) (other : Bool) →
      AllByRecursion (λ (v : Visiting). (is_own_event g u && not (is_own_visit g v.visit)) ≡ other) (option_to_list u.visiting) →
      untold (an_event (acted o may a u)) ≤ untold (an_event u) + one_if (other && is_stop a)
  acted-untold o may Log u other i = let n = one_if (other && false) in omega arith
  acted-untold o may Stop u other i = from u.visiting i
    where
      from : (m : Option Visiting) → AllByRecursion (λ (v : Visiting). (is_own_event g u && not (is_own_visit g v.visit)) ≡ other) (option_to_list m) →
          untold_in (is_own_event g u) true m ≤ untold_in (is_own_event g u) u.stopped m + one_if (other && true)
      from None i = let n = one_if (other && true) in omega arith
      from (Some v) i = more (is_own_event g u) (not (is_own_visit g v.visit)) other (untold_in (is_own_event g u) u.stopped (Some v)) i.0
  acted-untold o may StopNow u other i = from u.visiting i
    where
      from : (m : Option Visiting) → AllByRecursion (λ (v : Visiting). (is_own_event g u && not (is_own_visit g v.visit)) ≡ other) (option_to_list m) →
          untold_in (is_own_event g u) true (option_map stopped_visit m) ≤ untold_in (is_own_event g u) u.stopped m + one_if (other && true)
      from None i = let n = one_if (other && true) in omega arith
      from (Some v) i = more (is_own_event g u) (not (is_own_visit g v.visit)) other (untold_in (is_own_event g u) u.stopped (Some v)) i.0
  acted-untold o true Cancel u other i = let n = one_if (other && false) in omega arith
  acted-untold o false Cancel u other i = let n = one_if (other && false) in omega arith

  -- an owner is told
  told_to-untold : (o : Owner) (u : UnderWay) → untold (an_event (told_to o u)) ≡ untold (an_event u)
  told_to-untold o u = from u.cancelled
    where
      from : (b : Bool) → untold (an_event (if b then known_by o u else u)) ≡ untold (an_event u)
      from true = refl
      from false = refl

  -- a frame that is no event
  abbrev IsNoEvent : Frame → Type 0
  IsNoEvent (an_event u) = ⊥
  IsNoEvent f = ⊤

  -- one run or another
  either-untold : (b : Bool) (r t : LiveRun (Live World)) (n : ℕ) → all_untold r.0.frames ≤ n → all_untold t.0.frames ≤ n →
      all_untold (cond b r t).0.frames ≤ n
  either-untold true r t n h k = h
  either-untold false r t n h k = k

  module _ (L : Type 0) where
    -- how many stops are told
    abbrev pub told_count : Option (Thing L) → ℕ
    told_count None = 0
    told_count (Some x) = stop_in x

    -- no stop
    none-told : (b : Bool) → told_count (if b then Some was_cancelled else None) ≤ 0
    none-told true = omega arith
    none-told false = omega arith

    -- what a step tells
    told-untold : (live : List (Listener NodeName)) (tasks : List Task) (u : UnderWay) (v : Visiting) →
        let w = record u { visiting = Some v } in
        told_count (told_by g live tasks (is_own_event g u && is_own_visit g v.visit) (an_event w)) ≤ untold (an_event w)
    told-untold live tasks u v = from (is_own_event g u && is_own_visit g v.visit) refl
      where
        w : UnderWay
        w = record u { visiting = Some v }

        by : (e s x o : Bool) → false ≡ (e && o) → told_count (if e && (s && x) then Some was_stopped else None) ≤ one_if (e && (not o && s))
        by false s x o h = omega arith
        by true s x true h = absurd (true≢false (sym h))
        by true true true false h = omega arith
        by true true false false h = omega arith
        by true false x false h = omega arith

        from : (own : Bool) → own ≡ (is_own_event g u && is_own_visit g v.visit) → told_count (told_by g live tasks own (an_event w)) ≤ untold (an_event w)
        from true h = let a = none-told (is_secret g w && shows_next g live w (Some v)) in let n = untold (an_event w) in omega (arith, a)
        from false h = by (is_own_event g u) u.stopped (ends_next (Some v)) (is_own_visit g v.visit) h

    -- a visit that is not over next tells none
    still-told : (live : List (Listener NodeName)) (tasks : List Task) (own : Bool) (u : UnderWay) → ends_next u.visiting ≡ false →
        told_count (told_by g live tasks own (an_event u)) ≤ 0
    still-told live tasks true u h = none-told (is_secret g u && shows_next g live u u.visiting)
    still-told live tasks false u h = by (is_own_event g u) u.stopped (ends_next u.visiting) h
      where
        by : (e s x : Bool) → x ≡ false → told_count (if e && (s && x) then Some was_stopped else None) ≤ 0
        by e s true h = absurd (true≢false h)
        by true true false h = omega arith
        by true false false h = omega arith
        by false s false h = omega arith

    -- nor does a frame that is no event
    other-told : (live : List (Listener NodeName)) (tasks : List Task) (own : Bool) (f : Frame) → IsNoEvent f → told_count (told_by g live tasks own f) ≤ 0
    other-told live tasks own (an_event u) h = absurd h
    other-told live (t ∷ ts) false (a_checkpoint c) h = by (not (is_own_checkpoint g c) && is_task_of g t)
      where
        by : (b : Bool) → told_count (if b then Some was_run else None) ≤ 0
        by true = omega arith
        by false = omega arith
    other-told live [] false (a_checkpoint c) h = omega arith
    other-told live tasks true (a_checkpoint c) h = omega arith
    other-told live tasks true (a_notification n) h = omega arith
    other-told live tasks false (a_notification n) h = omega arith
    other-told live tasks true (a_microtask o) h = omega arith
    other-told live tasks false (a_microtask o) h = omega arith

    -- ---- one small step

    module _ (s : Live World) (fs : List Frame) where
      -- the frames around
      abbrev around : Live World
      around = record s { frames = fs }

      -- what a step of a frame comes to
      abbrev Counts : Frame → Type 0
      Counts f =
          told_count (told_next g s (f ∷ fs)) + all_untold (advance_in world_documents s (f ∷ fs)).0.frames
          ≤ all_untold (f ∷ fs) + one_if (stops_next g s.live_listeners (f ∷ fs))

      -- from its parts
      counts-by : (f : Frame) → IsNoEvent f → all_untold (advance_in world_documents s (f ∷ fs)).0.frames ≤ all_untold fs → Counts f
      counts-by (an_event u) h k = absurd h
      counts-by (a_notification n) h k =
          let a = other-told s.live_listeners s.documents.tasks (is_own_step g s.documents.tasks (a_notification n ∷ fs)) (a_notification n) tt in
          omega (arith, a, k)
      counts-by (a_microtask o) h k =
          let a = other-told s.live_listeners s.documents.tasks (is_own_step g s.documents.tasks (a_microtask o ∷ fs)) (a_microtask o) tt in
          omega (arith, a, k)
      counts-by (a_checkpoint c) h k =
          let a = other-told s.live_listeners s.documents.tasks (is_own_step g s.documents.tasks (a_checkpoint c ∷ fs)) (a_checkpoint c) tt in
          omega (arith, a, k)

      -- a notification
      notification-counts : (n : Notification) → Counts (a_notification n)
      notification-counts n =
          counts-by (a_notification n) tt
          (either-untold (is_some (caller (a_notification n))) _ (frame_step world_documents around (a_notification n)) (all_untold fs) (omega arith)
          (from n.observers))
        where
          slots : (xs : List NodeName) → all_untold (firing_at world_documents around n xs).0.frames ≤ all_untold fs
          slots [] = omega arith
          slots (x ∷ xs) = omega arith

          from : (ks : List ℕ) → all_untold (notification_step world_documents around n ks).0.frames ≤ all_untold fs
          from [] = slots n.slots
          from (k ∷ ks) =
              either-untold
              (list_any (is_observer n.owner k) s.live_observers && not (is_empty (queue_of (part_of s.documents n.owner).record_queues k))) _ _
              (all_untold fs) (omega arith) (omega arith)

      -- a checkpoint
      checkpoint-counts : (c : Checkpoint) → Counts (a_checkpoint c)
      checkpoint-counts c = counts-by (a_checkpoint c) tt (from s.documents.tasks)
        where
          from : (ts : List Task) → all_untold (checkpoint_step world_documents around c ts).0.frames ≤ all_untold fs
          from [] = omega arith
          from (notify_task o ∷ ts) = omega arith
          from (micro_task o label ∷ ts) = either-untold (first_is_live o s.live_tasks) _ _ (all_untold fs) (omega arith) (omega arith)

      -- An event.
      module _ (u : UnderWay) where
        -- between two visits
        between-counts : Counts (an_event (record u { visiting = None }))
        between-counts =
            let w : UnderWay = record u { visiting = None } in
            let a = still-told s.live_listeners s.documents.tasks (is_own_step g s.documents.tasks (an_event w ∷ fs)) w refl in
            let b = from u.visits in
            omega (arith, a, b)
          where
            from : (vs : List (Visit NodeName)) → all_untold (between_visits world_documents around (record u { visiting = None }) vs).0.frames ≤ all_untold fs
            from [] = omega arith
            from (v ∷ vs) =
                by_cases u.stopped
                (λ k. subst (λ (r : LiveRun (Live World)). all_untold r.0.frames ≤ all_untold fs) (sym (cond-true u.stopped _ _ k)) (omega arith))
                (λ k. subst (λ (r : LiveRun (Live World)). all_untold r.0.frames ≤ all_untold fs) (sym (cond-false u.stopped _ _ k))
                (let e : one_if (is_own_event g u && (not (is_own_visit g v) && u.stopped)) ≡ 0 =
                ap (λ c. one_if (is_own_event g u && (not (is_own_visit g v) && c))) k
                ∙ ap (λ c. one_if (is_own_event g u && c)) (and-right (not (is_own_visit g v))) ∙ ap one_if (and-right (is_own_event g u)) in
                omega (arith, e)))

        module _ (x : Visit NodeName) where
          -- in a visit
          abbrev in_visit : List (Listener NodeName) → Option ListenerWords → Bool → Frame
          in_visit ls c b = an_event (record u { visiting = Some (record { visit = x; calls = ls; called = c; stopped_now = b }) })

          -- the visit is over
          over-counts : (ls : List (Listener NodeName)) (b : Bool) →
              all_untold (advance_in world_documents s (in_visit ls None b ∷ fs)).0.frames ≤ all_untold fs → Counts (in_visit ls None b)
          over-counts ls b k =
              let a = told-untold s.live_listeners s.documents.tasks u (record { visit = x; calls = ls; called = None; stopped_now = b }) in
              let n = one_if (stops_next g s.live_listeners (in_visit ls None b ∷ fs)) in
              omega (arith, a, k)

          -- a listener is called
          call-counts : (l : Listener NodeName) (ls : List (Listener NodeName)) → Counts (in_visit (l ∷ ls) None false)
          call-counts l ls =
              let a = still-told s.live_listeners s.documents.tasks (is_own_step g s.documents.tasks (in_visit (l ∷ ls) None false ∷ fs))
              (record u { visiting = Some (record { visit = x; calls = l ∷ ls; called = None; stopped_now = false }) }) refl in
              let o = once-untold x.current l.words around in
              let lives = is_live s.live_listeners x.current l.words in
              let told = told_count (told_next g s (in_visit (l ∷ ls) None false ∷ fs)) in
              let most = all_untold (in_visit (l ∷ ls) None false ∷ fs) + one_if (stops_next g s.live_listeners (in_visit (l ∷ ls) None false ∷ fs)) in
              let Holds : LiveRun (Live World) → Type 0 = λ r. told + all_untold r.0.frames ≤ most in
              by_cases lives
              (λ k. subst Holds (sym (cond-true lives _ _ k))
              (let t = told_to-untold x.current.owner
              (record u { visiting = Some (record { visit = x; calls = ls; called = Some l.words; stopped_now = false }) }) in
              let n = one_if (stops_next g s.live_listeners (in_visit (l ∷ ls) None false ∷ fs)) in omega (arith, a, o, t)))
              (λ k. subst Holds (sym (cond-false lives _ _ k))
              (let t = acted-untold x.current.owner (may_cancel u.event l.words) l.words.action
              (record u { visiting = Some (record { visit = x; calls = ls; called = None; stopped_now = false }) })
              (is_own_event g u && not (is_own_visit g x)) (refl, tt) in
              let n = ap (λ b. one_if (is_own_event g u && (not (is_own_visit g x) && (not b && is_stop l.words.action)))) k in
              let j = joined (is_own_event g u) (not (is_own_visit g x)) (is_stop l.words.action) in omega (arith, a, o, t, n, j)))

          -- any step in it
          visit-counts : (ls : List (Listener NodeName)) (c : Option ListenerWords) (b : Bool) → Counts (in_visit ls c b)
          visit-counts ls (Some w) b =
              let a = still-told s.live_listeners s.documents.tasks (is_own_step g s.documents.tasks (in_visit ls (Some w) b ∷ fs))
              (record u { visiting = Some (record { visit = x; calls = ls; called = Some w; stopped_now = b }) }) refl in
              let n = one_if (stops_next g s.live_listeners (in_visit ls (Some w) b ∷ fs)) in omega (arith, a)
          visit-counts [] None b = over-counts [] b (omega arith)
          visit-counts (l ∷ ls) None true = over-counts (l ∷ ls) true (omega arith)
          visit-counts (l ∷ ls) None false = call-counts l ls

      -- any step of an event
      event-counts : (u : UnderWay) → Counts (an_event u)
      event-counts u = from u.visiting
        where
          from : (m : Option Visiting) → Counts (an_event (record u { visiting = m }))
          from None = between-counts u
          from (Some v) = visit-counts u v.visit v.calls v.called v.stopped_now

      -- any step
      frame-counts : (f : Frame) → Counts f
      frame-counts (an_event u) = event-counts u
      frame-counts (a_notification n) = notification-counts n
      frame-counts (a_microtask o) = counts-by (a_microtask o) tt (omega arith)
      frame-counts (a_checkpoint c) = checkpoint-counts c

    -- one small step
    pub step-counts : (s : Live World) →
        told_count (told_next g s s.frames) + all_untold (advance world_documents s).0.frames
        ≤ all_untold s.frames + one_if (stops_next g s.live_listeners s.frames)
    step-counts s = from s.frames refl
      where
        from : (fs : List Frame) → s.frames ≡ fs →
            told_count (told_next g s fs) + all_untold (advance_in world_documents s fs).0.frames ≤ all_untold fs + one_if (stops_next g s.live_listeners fs)
        from [] e = let q = ap all_untold e in omega (arith, q)
        from (f ∷ fs) e = frame-counts s fs f
