-- An event under way comes to its end, or to a call that waits: what is left of its visits and calls grows less with each small step.
use Rattle.dom_base.proofs.Std.{◌≡◌, ◌≤◌, ◌<◌, ℕ, zero, suc, ◌+◌, ◌*◌, Bool, true, false}
use Rattle.dom_base.proofs.Std.{List, [], ◌∷◌, map, filter, length, Option, Some, None, is_some, refl, sym}
use Rattle.dom_base.proofs.Std.{ap, ◌∙◌, arith, subst, ◌⊎◌, inl, inr, cond-true, cond-false, if◌then◌else◌, nat_lt, lt-ltb, le-ltb, ◌||◌}
use Rattle.dom_base.proofs.Std.{cond, option_map}
use Rattle.dom_model.proofs.Model.{Owner, NodeName, Word, World, Task, part_of, with_part, Part}
use Rattle.dom_model.proofs.Model.{Visit, Listener, ListenerWords, Action, Log, Stop, StopNow, Cancel}
use Rattle.dom_model.proofs.Model.{name_eq, owner_eq, owner_eq-true, owner_eq-false}
use Rattle.dom_model.proofs.Model.{part_of-with_part, part_of-with_part-other, owner-part_of, with_listener_removed}
use Rattle.dom_model.specs.Listeners.{hears, may_cancel}
use Rattle.dom_model.proofs.Model.{is_page, is_there, put_part}
use Rattle.dom_worlds.proofs.ListLemmas.{by_cases}
use Rattle.dom_live.specs.Frames.{Visiting, UnderWay, Frame, an_event, a_notification, a_microtask, a_checkpoint, acted, told_to, known_by, stopped_visit}
use Rattle.dom_live.specs.Lines.{LiveRun, still}
use Rattle.dom_live.specs.Frames.{without_calls, caller, returned}
use Rattle.dom_live.specs.Documents.{Live, world_documents, is_live}
use Rattle.dom_live.specs.SmallSteps.{put_back, event_step, between_visits, going_on, calling, without_listener, after_once, begun_visit}
use Rattle.dom_live.specs.Runs.{is_resting, visit_steps, visiting_steps, visits_steps, event_steps, until_below, event_left}
use Rattle.dom_live.proofs.Goes.{next, after, goes-on, shape, IsAt, Comes, rested, same-length, HasEvent, begins-event}

-- a filter leaves no more
pub fewer-passed : {X : Type 0} (p : X → Bool) (xs : List X) → length (filter p xs) ≤ length xs
fewer-passed p [] = omega arith
fewer-passed p (x ∷ xs) = by_cases (p x)
    (λ h. let k = fewer-passed p xs in let e = ap length (cond-true (p x) (x ∷ filter p xs) (filter p xs) h) in omega (arith, k, e))
    (λ h. let k = fewer-passed p xs in let e = ap length (cond-false (p x) (x ∷ filter p xs) (filter p xs) h) in omega (arith, k, e))

-- how many small steps are left of a visit: two for each call, one for the end, and one for the return of a call that is under way
abbrev visit_left : Option Visiting → ℕ
visit_left None = 0
visit_left (Some v) = 2 * length v.calls + (if is_some v.called then 2 else 1)

-- at most so many of an event
abbrev left_of : World → UnderWay → ℕ
left_of w u = visit_left u.visiting + visits_steps world_documents w u.visits

-- no owner has more listeners than before
abbrev HasFewer : World → World → Type 0
HasFewer w u = (o : Owner) → length (part_of u o).listeners ≤ length (part_of w o).listeners

-- so the visits to come take no more steps
visits-fewer : (w u : World) → HasFewer w u → (vs : List (Visit NodeName)) → visits_steps world_documents u vs ≤ visits_steps world_documents w vs
visits-fewer w u f [] = omega arith
visits-fewer w u f (v ∷ vs) = let k = visits-fewer w u f vs in let h = f v.current.owner in omega (arith, k, h)

-- there is always one step left
visits-left : (w : World) (vs : List (Visit NodeName)) → 1 ≤ visits_steps world_documents w vs
visits-left w [] = omega arith
visits-left w (v ∷ vs) = let k = visits-left w vs in omega (arith, k)

-- a listener that is removed
removed-fewer : (x : NodeName) (event label : Word) (capture : Bool) (s : Live World) →
    HasFewer s.documents (without_listener world_documents x event label capture s).documents
removed-fewer x event label capture s o = from (is_page q.owner || is_there s.documents q.owner)
  where
    p : Part
    p = part_of s.documents x.owner

    q : Part
    q = record p { listeners = with_listener_removed name_eq x event label capture p.listeners }

    here : owner_eq x.owner o ≡ true → length (part_of (with_part s.documents q) o).listeners ≤ length (part_of s.documents o).listeners
    here h =
        let same = owner_eq-true x.owner o h in
        let is = ap (λ (p : Part). length p.listeners) (part_of-with_part s.documents q o (owner-part_of s.documents x.owner ∙ same)) in
        let was = ap (λ o. length (part_of s.documents o).listeners) same in
        let less = fewer-passed _ p.listeners in
        subst (λ n. n ≤ length (part_of s.documents o).listeners) (sym is) (subst (λ n. length q.listeners ≤ n) was less)

    other : owner_eq x.owner o ≡ false → length (part_of (with_part s.documents q) o).listeners ≤ length (part_of s.documents o).listeners
    other h =
        let is = ap (λ (p : Part). length p.listeners)
        (part_of-with_part-other s.documents q o (λ g. owner_eq-false x.owner o h (sym (owner-part_of s.documents x.owner) ∙ g))) in
        subst (λ n. n ≤ length (part_of s.documents o).listeners) (sym is) (omega arith)

    from : (b : Bool) → length (part_of (record s.documents { parts = if b then put_part s.documents.parts q else s.documents.parts }) o).listeners
        ≤ length (part_of s.documents o).listeners
    from true = by_cases (owner_eq x.owner o) here other
    from false = omega arith

-- calls that are removed
sifted-shape : (x : NodeName) (event label : Word) (capture : Bool) (fs : List Frame) → map shape (map (without_calls x event label capture) fs) ≡ map shape fs
sifted-shape x event label capture [] = refl
sifted-shape x event label capture (an_event u ∷ fs) = ap (λ ss. None ∷ ss) (sifted-shape x event label capture fs)
sifted-shape x event label capture (a_notification n ∷ fs) = ap (λ ss. Some (a_notification n) ∷ ss) (sifted-shape x event label capture fs)
sifted-shape x event label capture (a_microtask o ∷ fs) = ap (λ ss. Some (a_microtask o) ∷ ss) (sifted-shape x event label capture fs)
sifted-shape x event label capture (a_checkpoint c ∷ fs) = ap (λ ss. Some (a_checkpoint c) ∷ ss) (sifted-shape x event label capture fs)

-- what a listener that is for once leaves
record IsLess (s t : Live World) : Type 0 where
  fewer : HasFewer s.documents t.documents
  shapes : map shape t.frames ≡ map shape s.frames
  tasks : t.documents.tasks ≡ s.documents.tasks

-- as it is called
once-less : (x : NodeName) (w : ListenerWords) (s : Live World) → IsLess s (after_once world_documents x w s)
once-less x w s = by w.once
  where
    by : (b : Bool) → IsLess s (if b then without_listener world_documents x w.event w.label w.capture s else s)
    by true = record {
      fewer = removed-fewer x w.event w.label w.capture s;
      shapes = sifted-shape x w.event w.label w.capture s.frames;
      tasks = refl;
    }
    by false = record { fewer = λ o. omega arith; shapes = refl; tasks = refl }

-- acts leave as many calls and visits
told-left : (w : World) (o : Owner) (u : UnderWay) → left_of w (told_to o u) ≡ left_of w u
told-left w o u = by u.cancelled
  where
    by : (b : Bool) → left_of w (if b then known_by o u else u) ≡ left_of w u
    by true = refl
    by false = refl

-- of listeners that are not live
acted-left : (w : World) (o : Owner) (may : Bool) (a : Action) (u : UnderWay) → left_of w (acted o may a u) ≡ left_of w u
acted-left w o may Log u = refl
acted-left w o may Stop u = refl
acted-left w o may StopNow u = ap (λ n. n + visits_steps world_documents w u.visits) (by u.visiting)
  where
    by : (m : Option Visiting) → visit_left (option_map stopped_visit m) ≡ visit_left m
    by None = refl
    by (Some v) = refl
acted-left w o true Cancel u = refl
acted-left w o false Cancel u = refl

-- an event that goes on, with less left
record GoesOn (s : Live World) (u : UnderWay) (t : Live World) : Type 0 where
  event : UnderWay
  around : List Frame
  frames : t.frames ≡ an_event event ∷ around
  shapes : map shape around ≡ map shape s.frames
  tasks : t.documents.tasks ≡ s.documents.tasks
  less : left_of t.documents event < left_of s.documents u

-- it is over, or goes on; the frames of s are those around the event
abbrev Steps : Live World → UnderWay → Live World → Type 0
Steps s u t = IsAt s.documents.tasks s.frames t ⊎ GoesOn s u t

-- one run or another
either-steps : {s : Live World} {u : UnderWay} (b : Bool) (r t : LiveRun (Live World)) → Steps s u r.0 → Steps s u t.0 → Steps s u (cond b r t).0
either-steps true r t h k = h
either-steps false r t h k = k

-- One small step of an event; the frames of s are those around it.
module _ (s : Live World) (u : UnderWay) where
  -- a listener is called
  calling-steps : (v : Visiting) (l : Listener NodeName) (ls : List (Listener NodeName)) →
      let was = record u { visiting = Some (record v { called = None; calls = l ∷ ls }) } in
      Steps s was (calling world_documents s was (record v { called = None; calls = ls }) l).0
  calling-steps v l ls =
      let x = v.visit.current in
      let w = s.documents in
      let once = once-less x l.words s in
      let t = after_once world_documents x l.words s in
      let called : UnderWay = record u { visiting = Some (record v { called = Some l.words; calls = ls }) } in
      let heard : UnderWay = record u { visiting = Some (record v { called = None; calls = ls }) } in
      let fewer = visits-fewer w t.documents once.fewer u.visits in
      either-steps (is_live s.live_listeners x l.words) _ _
      (inr (record {
        event = told_to x.owner called;
        around = t.frames;
        frames = refl;
        shapes = once.shapes;
        tasks = once.tasks;
        less = let e = told-left t.documents x.owner called in omega (arith, e, fewer);
      }))
      (inr (record {
        event = acted x.owner (may_cancel u.event l.words) l.words.action heard;
        around = t.frames;
        frames = refl;
        shapes = once.shapes;
        tasks = once.tasks;
        less = let e = acted-left t.documents x.owner (may_cancel u.event l.words) l.words.action heard in omega (arith, e, fewer);
      }))

  -- a visit is over
  visit-over : (was : UnderWay) → was.visits ≡ u.visits → 1 ≤ visit_left was.visiting →
      GoesOn s was (record s { frames = an_event (record was { visiting = None }) ∷ s.frames })
  visit-over was e k = record {
    event = record was { visiting = None };
    around = s.frames;
    frames = refl;
    shapes = refl;
    tasks = refl;
    less = omega (arith, k);
  }

  -- a visit goes on
  going-steps : (v : Visiting) (ls : List (Listener NodeName)) →
      let was = record u { visiting = Some (record v { called = None; calls = ls }) } in
      Steps s was (going_on world_documents s was (record v { called = None; calls = ls }) ls).0
  going-steps v [] = inr (visit-over (record u { visiting = Some (record v { called = None; calls = [] }) }) refl (omega arith))
  going-steps v (l ∷ ls) =
      either-steps v.stopped_now _ _
      (inr (visit-over (record u { visiting = Some (record v { called = None; calls = l ∷ ls }) }) refl (omega arith))) (calling-steps v l ls)

  -- between visits
  between-steps : (vs : List (Visit NodeName)) →
      let was = record u { visiting = None; visits = vs } in Steps s was (between_visits world_documents s was vs).0
  between-steps [] = inl (record { frames = refl; tasks = refl })
  between-steps (v ∷ vs) =
      either-steps u.stopped _ _ (inl (record { frames = refl; tasks = refl }))
      (inr (record {
        event = record u { visits = vs; visiting = Some (begun_visit world_documents s.documents u.event v) };
        around = s.frames;
        frames = refl;
        shapes = refl;
        tasks = refl;
        less = let k = fewer-passed (hears name_eq u.event v) (part_of s.documents v.current.owner).listeners in omega (arith, k);
      }))

  -- in a visit, where a call may be under way
  visit-steps : (v : Visiting) (c : Option ListenerWords) →
      let was = record u { visiting = Some (record v { called = c }) } in
      Steps s was (if is_some (caller (an_event was)) then still (put_back (returned (an_event was)) s)
      else event_step world_documents s was was.visiting).0
  visit-steps v None = going-steps v v.calls
  visit-steps v (Some w) = inr (record {
    event = record u { visiting = Some (record v { called = None }) };
    around = s.frames;
    frames = refl;
    shapes = refl;
    tasks = refl;
    less = omega arith;
  })

  -- in any event
  event-steps : (m : Option Visiting) →
      let was = record u { visiting = m } in
      Steps s was (if is_some (caller (an_event was)) then still (put_back (returned (an_event was)) s)
      else event_step world_documents s was was.visiting).0
  event-steps None = between-steps u.visits
  event-steps (Some v) = visit-steps v v.called

-- where fewer frames are under way, no step is left
below-now : (k n : ℕ) (s : Live World) → nat_lt (length s.frames) k ≡ true → until_below world_documents k n s ≡ 0
below-now k zero s h = refl
below-now k (suc n) s h =
    cond-true (nat_lt (length s.frames) k || is_resting s) 0 (suc (until_below world_documents k n (next s))) (ap (λ b. b || is_resting s) h)

-- The innermost frame is an event, of which at most n small steps are left.
record IsIn (ts : List Task) (gs : List Frame) (n : ℕ) (s : Live World) : Type 0 where
  event : UnderWay
  around : List Frame
  frames : s.frames ≡ an_event event ∷ around
  shapes : map shape around ≡ map shape gs
  tasks : s.documents.tasks ≡ ts
  left : left_of s.documents event ≤ n

-- It goes on until it is over.
until-over : (ts : List Task) (gs : List Frame) (n : ℕ) (s : Live World) → IsIn ts gs n s →
    Comes ts gs (after (until_below world_documents (suc (length gs)) n s) s)
until-over ts gs zero s i =
    let some = visits-left s.documents i.event.visits in
    let none = i.left in
    absurd (omega (arith, some, none))
until-over ts gs (suc n) s i =
    by_cases (is_resting s) (λ h. rested (until_below world_documents (suc (length gs)) (suc n) s) s h) (moves (λ t j. until-over ts gs n t j))
  where
    k : ℕ
    k = suc (length gs)

    -- as many frames as before
    high : nat_lt (length s.frames) k ≡ false
    high = le-ltb (length s.frames) k (let e = ap length i.frames in let f = same-length i.around gs i.shapes in omega (arith, e, f))

    -- the step
    stepped : Steps (record s { frames = i.around }) i.event (next s)
    stepped =
        subst (λ fs. Steps (record s { frames = i.around }) i.event (next (record s { frames = fs }))) (sym i.frames)
        (event-steps (record s { frames = i.around }) i.event i.event.visiting)

    -- the steps behind it
    Later : Type 0
    Later = (t : Live World) → IsIn ts gs n t → Comes ts gs (after (until_below world_documents k n t) t)

    -- and what follows it
    later : Later → Steps (record s { frames = i.around }) i.event (next s) → Comes ts gs (after (until_below world_documents k n (next s)) (next s))
    later go (inl a) =
        subst (λ m. Comes ts gs (after m (next s)))
        (sym (below-now k n (next s) (lt-ltb (length (next s).frames) k
        (let e = same-length (next s).frames i.around a.frames in let f = same-length i.around gs i.shapes in omega (arith, e, f)))))
        (inr (record { frames = a.frames ∙ i.shapes; tasks = a.tasks ∙ i.tasks }))
    later go (inr g) =
        go (next s) (record {
          event = g.event;
          around = g.around;
          frames = g.frames;
          shapes = g.shapes ∙ i.shapes;
          tasks = g.tasks ∙ i.tasks;
          left = let a = g.less in let b = i.left in omega (arith, a, b);
        })

    moves : Later → is_resting s ≡ false → Comes ts gs (after (until_below world_documents k (suc n) s) s)
    moves go h =
        subst (λ m. Comes ts gs (after m s))
        (sym (cond-false (nat_lt (length s.frames) k || is_resting s) 0 (suc (until_below world_documents k n (next s)))
        (ap (λ b. b || is_resting s) high ∙ h)))
        (subst (Comes ts gs) (sym (goes-on (until_below world_documents k n (next s)) s h)) (later go stepped))

-- An event comes to its end.
pub event-comes : {ts : List Task} {u : UnderWay} {gs : List Frame} (s : Live World) → IsAt ts (an_event u ∷ gs) s →
    Comes ts gs (after (event_left world_documents s) s)
event-comes {ts} {u} {gs} s a =
    subst (λ k. Comes ts gs (after (until_below world_documents k (event_steps world_documents s s.frames) s) s))
    (sym (ap length b.frames ∙ ap suc (same-length b.around gs b.same)))
    (until-over ts gs (event_steps world_documents s s.frames) s (record {
      event = b.event;
      around = b.around;
      frames = b.frames;
      shapes = b.same;
      tasks = a.tasks;
      left = subst (λ fs. left_of s.documents b.event ≤ event_steps world_documents s fs) (sym b.frames) (enough b.event.visiting);
    }))
  where
    b : HasEvent s gs
    b = begins-event a

    rest : ℕ
    rest = visits_steps world_documents s.documents b.event.visits

    enough : (m : Option Visiting) → visit_left m + rest ≤ visiting_steps m + rest
    enough None = omega arith
    enough (Some v) = with_call v.called
      where
        with_call : (c : Option ListenerWords) → 2 * length v.calls + (if is_some c then 2 else 1) + rest ≤ visit_steps (length v.calls) + rest
        with_call None = omega arith
        with_call (Some w) = omega arith
