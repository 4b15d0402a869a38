-- What goes on by small steps comes to its end: notifications, microtasks, checkpoints, and all that is under way.
use Rattle.dom_base.proofs.Std.{◌≡◌, ℕ, zero, suc, ◌+◌, Bool, true, false, List, [], ◌∷◌, map, length, Option, Some, None, is_some, refl, sym, ap, ◌∙◌, arith}
use Rattle.dom_base.proofs.Std.{subst, inl, inr, cond-true, cond-false, if◌then◌else◌, nat_lt, lt-ltb, le-ltb, cond, ◌&&◌, not, list_any}
use Rattle.dom_model.proofs.Model.{Owner, NodeName, World, Task, micro_task, notify_task, part_of}
use Rattle.dom_model.specs.Names.{is_empty}
use Rattle.dom_model.specs.Part.{queue_of}
use Rattle.dom_worlds.proofs.ListLemmas.{by_cases}
use Rattle.dom_live.specs.Lines.{LiveRun, still}
use Rattle.dom_live.specs.Frames.{Checkpoint, Frame, an_event, a_notification, a_microtask, a_checkpoint, caller, returned}
use Rattle.dom_live.specs.Documents.{Live, world_documents, world_slots, world_visits, first_is_live}
use Rattle.dom_model.specs.Turns.{slotchange}
use Rattle.dom_live.specs.SmallSteps.{put_back, advance_in, frame_step, checkpoint_step, is_observer, fired_at, calling, without_listener}
use Rattle.dom_live.specs.SmallSteps.{between_visits, going_on, event_step, firing_at, notification_step}
use Rattle.dom_live.specs.Documents.{is_live}
use Rattle.dom_live.specs.Frames.{UnderWay, Visiting}
use Rattle.dom_model.proofs.Model.{Visit, Listener}
use Rattle.dom_base.proofs.Std.{⊤, true≢false}
use Rattle.dom_live.specs.Runs.{is_resting, frames_rest, return_steps, event_left, slots_left, observers_left, inner_left, task_left, tasks_left}
use Rattle.dom_live.specs.Runs.{frames_left}
use Rattle.dom_live.specs.Machine.{ending, live_finish}
use Rattle.dom_live.specs.Laws.{RunsEnd, InputEnds}
use Rattle.dom_live.proofs.Goes.{next, after, rest-stays, goes-on, after-more, shape, IsAt, Comes, rested, one-comes, then-comes, same-length, Begins, at-none}
use Rattle.dom_live.proofs.Goes.{begins-so, HasEvent, begins-event}
use Rattle.dom_live.proofs.EventEnds.{event-comes}

-- the innermost frame makes one step
abbrev stepped : Live World → Frame → List Frame → Live World
stepped s f gs = next (record s { frames = f ∷ gs })

-- One step of a frame, which is no event, and what it leaves.
by-step : {ts us : List Task} {f : Frame} {gs hs : List Frame} (s : Live World) → shape f ≡ Some f → IsAt ts (f ∷ gs) s →
    ((around : List Frame) → map shape around ≡ map shape gs → s.documents.tasks ≡ ts → IsAt us hs (stepped s f around)) → Comes us hs (after 1 s)
by-step {ts} {us} {f} {gs} {hs} s whole a k =
    let b = begins-so whole a in
    one-comes s (λ h. subst (λ fs. IsAt us hs (next (record s { frames = fs }))) (sym b.frames) (k b.around b.same a.tasks))

-- ---- notifications

-- one, as it stands
abbrev telling_of : Owner → List ℕ → List NodeName → Option ℕ → Frame
telling_of o ks xs c = a_notification (record { owner = o; observers = ks; slots = xs; called = c })

module _ (o : Owner) where
  -- its slots
  slots-come : {ts : List Task} {gs : List Frame} (xs : List NodeName) (s : Live World) → IsAt ts (telling_of o [] xs None ∷ gs) s →
      Comes ts gs (after (slots_left world_documents xs s) s)
  slots-come [] s a = by-step s refl a (λ around e t. record { frames = e; tasks = t })
  slots-come {ts} {gs} (x ∷ xs) s a =
      then-comes 1 s (λ t. event_left world_documents t + slots_left world_documents xs (after (event_left world_documents t) t))
      (by-step {hs = an_event (fired_at x (world_visits s.documents x None slotchange)) ∷ telling_of o [] xs None ∷ gs} s refl a
      (λ around e t. record { frames = ap (λ ss. None ∷ Some (telling_of o [] xs None) ∷ ss) e; tasks = t }))
      (λ t b. then-comes (event_left world_documents t) t (slots_left world_documents xs) (event-comes t b) (λ u c. slots-come xs u c))

  -- a call that is under way, perhaps, returns
  return-comes : {ts : List Task} {gs : List Frame} (ks : List ℕ) (xs : List NodeName) (c : Option ℕ) (s : Live World) →
      IsAt ts (telling_of o ks xs c ∷ gs) s → Comes ts (telling_of o ks xs None ∷ gs) (after (return_steps s.frames) s)
  return-comes {ts} {gs} ks xs None s a =
      let b = begins-so {f = telling_of o ks xs None} refl a in
      subst (λ fs. Comes ts (telling_of o ks xs None ∷ gs) (after (return_steps fs) s)) (sym b.frames) (inr a)
  return-comes {ts} {gs} ks xs (Some k) s a =
      let b = begins-so {f = telling_of o ks xs (Some k)} refl a in
      subst (λ fs. Comes ts (telling_of o ks xs None ∷ gs) (after (return_steps fs) s)) (sym b.frames)
      (by-step s refl a (λ around e t. record { frames = ap (λ ss. Some (telling_of o ks xs None) ∷ ss) e; tasks = t }))

  -- an observer's owner is called, or is not
  told-either : {ts : List Task} {gs : List Frame} (k : Option ℕ → Frame) (n : ℕ) (b : Bool) (r t : LiveRun (Live World)) →
      IsAt ts (k (Some n) ∷ gs) r.0 × IsAt ts (k None ∷ gs) t.0 → IsAt ts (k (if b then Some n else None) ∷ gs) (cond b r t).0
  told-either k n true r t h = h.0
  told-either k n false r t h = h.1

  -- its observers, and then its slots
  observers-come : {ts : List Task} {gs : List Frame} (ks : List ℕ) (xs : List NodeName) (s : Live World) → IsAt ts (telling_of o ks xs None ∷ gs) s →
      Comes ts gs (after (observers_left world_documents ks xs s) s)
  observers-come [] xs s a = slots-come xs s a
  observers-come {ts} {gs} (k ∷ ks) xs s a =
      then-comes 1 s (λ t. return_steps t.frames + observers_left world_documents ks xs (after (return_steps t.frames) t))
      (by-step {hs = telling_of o ks xs (if is_told then Some k else None) ∷ gs} s refl a (λ around e t. told-either (telling_of o ks xs) k is_told _ _ (
        record { frames = ap (λ ss. Some (telling_of o ks xs (Some k)) ∷ ss) e; tasks = t },
        record { frames = ap (λ ss. Some (telling_of o ks xs None) ∷ ss) e; tasks = t },
      )))
      (λ t b. then-comes (return_steps t.frames) t (observers_left world_documents ks xs) (return-comes ks xs (if is_told then Some k else None) t b)
      (λ u c. observers-come ks xs u c))
    where
      is_told : Bool
      is_told = list_any (is_observer o k) s.live_observers && not (is_empty (queue_of (part_of s.documents o).record_queues k))

-- ---- tasks

-- a frame that is no checkpoint
abbrev IsNoCheckpoint : Frame → Type 0
IsNoCheckpoint (a_checkpoint c) = ⊥
IsNoCheckpoint f = ⊤

-- a call of an event, if one is under way, returns
event-return : {ts : List Task} {u : UnderWay} {gs : List Frame} (s : Live World) → IsAt ts (an_event u ∷ gs) s →
    Comes ts (an_event u ∷ gs) (after (return_steps s.frames) s)
event-return {ts} {u} {gs} s a = subst (λ fs. Comes ts (an_event u ∷ gs) (after (return_steps fs) s)) (sym b.frames) (by (is_some (caller e)) refl)
  where
    b : HasEvent s gs
    b = begins-event a

    e : Frame
    e = an_event b.event

    by : (c : Bool) → is_some (caller e) ≡ c → Comes ts (an_event u ∷ gs) (after (if c then 1 else 0) s)
    by false q = inr a
    by true q =
        one-comes s (λ h. subst (λ fs. IsAt ts (an_event u ∷ gs) (next (record s { frames = fs }))) (sym b.frames)
        (subst (λ (r : LiveRun (Live World)). IsAt ts (an_event u ∷ gs) r.0)
        (sym (cond-true (is_some (caller e)) (still (put_back (returned e) (record s { frames = b.around })))
        (frame_step world_documents (record s { frames = b.around }) e) q))
        (record { frames = ap (λ ss. None ∷ ss) b.same; tasks = a.tasks })))

-- where it rests, and more steps may be counted
rest-either : {ts : List Task} {gs : List Frame} (n m : ℕ) (s : Live World) (b : Bool) → is_resting (after n s) ≡ true →
    Comes ts gs (after (if b then n else n + m) s)
rest-either n m s true h = inl h
rest-either {ts} {gs} n m s false h = subst (Comes ts gs) (sym (after-more n m s)) (rested m (after n s) h)

-- A frame whose call, if one is under way, has returned, goes on to its end.
inner-come : {ts : List Task} {f k : Frame} {gs : List Frame} (s : Live World) → IsAt ts (f ∷ gs) s → Comes ts (k ∷ gs) (after (return_steps s.frames) s) →
    ((t : Live World) → IsAt ts (k ∷ gs) t → Comes ts gs (after (inner_left world_documents t t.frames) t)) →
    Comes ts gs (after (task_left world_documents s) s)
inner-come {ts} {f} {k} {gs} s a c inner =
    elim c [ inl h ↦ rest-either steps more s (nat_lt (length back.frames) (length s.frames)) h | inr b ↦ on b ]
  where
    steps : ℕ
    steps = return_steps s.frames

    back : Live World
    back = after steps s

    more : ℕ
    more = inner_left world_documents back back.frames

    on : IsAt ts (k ∷ gs) back → Comes ts gs (after (task_left world_documents s) s)
    on b =
        subst (λ n. Comes ts gs (after n s))
        (sym (cond-false (nat_lt (length back.frames) (length s.frames)) steps (steps + more)
        (le-ltb (length back.frames) (length s.frames)
        (let x = same-length s.frames (f ∷ gs) a.frames in let y = same-length back.frames (k ∷ gs) b.frames in omega (arith, x, y)))))
        (subst (Comes ts gs) (sym (after-more steps more s)) (inner back b))

-- what a task puts on the stack
task-comes : {ts : List Task} {gs : List Frame} (f : Frame) (s : Live World) → IsNoCheckpoint f → IsAt ts (f ∷ gs) s →
    Comes ts gs (after (task_left world_documents s) s)
task-comes {ts} {gs} (an_event u) s n a =
    inner-come s a (event-return s a) (λ t b. subst (λ fs. Comes ts gs (after (inner_left world_documents t fs) t)) (sym (begins-event b).frames)
    (event-comes t b))
task-comes {ts} {gs} (a_notification n) s k a =
    inner-come s a (return-comes n.owner n.observers n.slots n.called s a)
    (λ t b. subst (λ fs. Comes ts gs (after (inner_left world_documents t fs) t))
    (sym (begins-so {f = telling_of n.owner n.observers n.slots None} refl b).frames) (observers-come n.owner n.observers n.slots t b))
task-comes {ts} {gs} (a_microtask o) s n a = by_cases (is_resting s) (λ h. rested (task_left world_documents s) s h) returns
  where
    b : Begins s (a_microtask o) gs
    b = begins-so refl a

    one : return_steps s.frames ≡ 1
    one = ap return_steps b.frames

    returns : is_resting s ≡ false → Comes ts gs (after (task_left world_documents s) s)
    returns h =
        let back : (after 1 s).frames ≡ b.around =
        ap (λ (t : Live World). t.frames) (goes-on 0 s h) ∙ ap (λ fs. (next (record s { frames = fs })).frames) b.frames in
        let now : IsAt ts gs (after 1 s) = record { frames = ap (map shape) back ∙ b.same; tasks = kept h } in
        subst (λ n. Comes ts gs (after n s))
        (sym (ap (λ n. if nat_lt (length (after n s).frames) (length s.frames) then n else n + inner_left world_documents (after n s) (after n s).frames) one
        ∙ cond-true (nat_lt (length (after 1 s).frames) (length s.frames)) 1 (1 + inner_left world_documents (after 1 s) (after 1 s).frames)
        (lt-ltb (length (after 1 s).frames) (length s.frames) (let x = ap length back in let y = ap length b.frames in omega (arith, x, y)))))
        (inr now)
      where
        kept : is_resting s ≡ false → (after 1 s).documents.tasks ≡ ts
        kept h = ap (λ (t : Live World). t.documents.tasks) (goes-on 0 s h) ∙ ap (λ fs. (next (record s { frames = fs })).documents.tasks) b.frames ∙ a.tasks
task-comes (a_checkpoint c) s n a = absurd n

-- what is left of a checkpoint where a task may have put a frame on the stack
abbrev rest_left : List Task → Live World → Live World → ℕ
rest_left ts s b =
    let steps = if nat_lt (length s.frames) (length b.frames) then task_left world_documents b else 0 in
    steps + tasks_left world_documents ts (after steps b)

-- A task of a checkpoint; it is known what the others do.
module _ (c : Checkpoint) {gs : List Frame} {ts : List Task} {t : Task} (s : Live World) (a : IsAt (t ∷ ts) (a_checkpoint c ∷ gs) s)
    (later : (u : Live World) → IsAt ts (a_checkpoint c ∷ gs) u → Comes [] gs (after (tasks_left world_documents ts u) u)) where
  -- with a frame
  pushed-come : (f : Frame) → IsNoCheckpoint f → (b : Live World) → IsAt ts (f ∷ a_checkpoint c ∷ gs) b → Comes [] gs (after (rest_left ts s b) b)
  pushed-come f n b h =
      subst (λ k. Comes [] gs (after (k + tasks_left world_documents ts (after k b)) b))
      (sym (cond-true (nat_lt (length s.frames) (length b.frames)) (task_left world_documents b) 0
      (lt-ltb (length s.frames) (length b.frames)
      (let x = same-length s.frames (a_checkpoint c ∷ gs) a.frames in
      let y = same-length b.frames (f ∷ a_checkpoint c ∷ gs) h.frames in omega (arith, x, y)))))
      (then-comes (task_left world_documents b) b (tasks_left world_documents ts) (task-comes f b n h) later)

  -- without one
  alone-come : (b : Live World) → IsAt ts (a_checkpoint c ∷ gs) b → Comes [] gs (after (rest_left ts s b) b)
  alone-come b h =
      subst (λ k. Comes [] gs (after (k + tasks_left world_documents ts (after k b)) b))
      (sym (cond-false (nat_lt (length s.frames) (length b.frames)) (task_left world_documents b) 0
      (le-ltb (length s.frames) (length b.frames)
      (let x = same-length s.frames (a_checkpoint c ∷ gs) a.frames in
      let y = same-length b.frames (a_checkpoint c ∷ gs) h.frames in omega (arith, x, y)))))
      (subst (Comes [] gs) (sym (after-more 0 (tasks_left world_documents ts b) b)) (later b h))

  -- where it leaves these frames
  begins-come : (hs : List Frame) → ((around : List Frame) → map shape around ≡ map shape gs →
      IsAt ts hs (checkpoint_step world_documents (record s { frames = around }) c (t ∷ ts)).0) →
      ((b : Live World) → IsAt ts hs b → Comes [] gs (after (rest_left ts s b) b)) →
      Comes [] gs (after (tasks_left world_documents (t ∷ ts) s) s)
  begins-come hs f k =
      then-comes 1 s (rest_left ts s)
      (by-step {hs = hs} s refl a (λ around e q.
      subst (λ us. IsAt ts hs (checkpoint_step world_documents (record s { frames = around }) c us).0) (sym q) (f around e))) k

-- a checkpoint, in which these tasks are left
tasks-come : (c : Checkpoint) {gs : List Frame} (ts : List Task) (s : Live World) → IsAt ts (a_checkpoint c ∷ gs) s →
    Comes [] gs (after (tasks_left world_documents ts s) s)
tasks-come c {gs} [] s a =
    by-step s refl a (λ around e t.
    subst (λ us. IsAt [] gs (checkpoint_step world_documents (record s { frames = around }) c us).0) (sym t) (record { frames = e; tasks = t }))
tasks-come c {gs} (notify_task o ∷ ts) s a =
    let f = telling_of o (part_of s.documents o).pending (world_slots s.documents o) None in
    begins-come c s a (λ u b. tasks-come c ts u b) (f ∷ a_checkpoint c ∷ gs)
    (λ around e. record { frames = ap (λ ss. Some f ∷ Some (a_checkpoint c) ∷ ss) e; tasks = refl })
    (pushed-come c s a (λ u b. tasks-come c ts u b) f tt)
tasks-come c {gs} (micro_task o label ∷ ts) s a =
    by_cases (first_is_live o s.live_tasks)
    (λ h. begins-come c s a (λ u b. tasks-come c ts u b) (a_microtask o ∷ a_checkpoint c ∷ gs)
    (λ around e. subst (λ (r : LiveRun (Live World)). IsAt ts (a_microtask o ∷ a_checkpoint c ∷ gs) r.0)
    (sym (cond-true (first_is_live o s.live_tasks) _ _ h))
    (record { frames = ap (λ ss. Some (a_microtask o) ∷ Some (a_checkpoint c) ∷ ss) e; tasks = refl }))
    (pushed-come c s a (λ u b. tasks-come c ts u b) (a_microtask o) tt))
    (λ h. begins-come c s a (λ u b. tasks-come c ts u b) (a_checkpoint c ∷ gs)
    (λ around e. subst (λ (r : LiveRun (Live World)). IsAt ts (a_checkpoint c ∷ gs) r.0) (sym (cond-false (first_is_live o s.live_tasks) _ _ h))
    (record { frames = ap (λ ss. Some (a_checkpoint c) ∷ ss) e; tasks = refl }))
    (alone-come c s a (λ u b. tasks-come c ts u b)))

-- ---- all frames

-- behind a frame that comes to its end, if those around it come to rest
ended : (fs : List Frame) (n : ℕ) {us : List Task} (s : Live World) → Comes us fs (after n s) →
    (IsAt us fs (after n s) → is_resting (after (frames_left world_documents fs (after n s)) (after n s)) ≡ true) →
    is_resting (after (n + frames_left world_documents fs (after n s)) s) ≡ true
ended fs n s c f =
    let more = frames_left world_documents fs (after n s) in
    ap is_resting (after-more n more s)
    ∙ (elim c [ inl h ↦ ap is_resting (rest-stays more (after n s) h) ∙ h | inr b ↦ f b ])

-- it comes to rest
frames-come : (fs : List Frame) (ts : List Task) (s : Live World) → IsAt ts fs s → is_resting (after (frames_left world_documents fs s) s) ≡ true
frames-come [] ts s a = ap (frames_rest s.is_over) (at-none a)
frames-come (an_event u ∷ fs) ts s a =
    let n = task_left world_documents s in ended fs n s (task-comes (an_event u) s tt a) (λ b. frames-come fs ts (after n s) b)
frames-come (a_notification m ∷ fs) ts s a =
    let n = task_left world_documents s in ended fs n s (task-comes (a_notification m) s tt a) (λ b. frames-come fs ts (after n s) b)
frames-come (a_microtask o ∷ fs) ts s a =
    let n = task_left world_documents s in ended fs n s (task-comes (a_microtask o) s tt a) (λ b. frames-come fs ts (after n s) b)
frames-come (a_checkpoint c ∷ fs) ts s a =
    let n = tasks_left world_documents s.documents.tasks s in
    ended fs n s (tasks-come c s.documents.tasks s (record { frames = a.frames; tasks = refl })) (λ b. frames-come fs [] (after n s) b)

-- the law
pub runs-end : RunsEnd
runs-end s = frames-come s.frames s.documents.tasks s (record { frames = refl; tasks = refl })

-- ---- the end of input

-- a run that leaves whether the input is over
abbrev KeepsOver : Live World → LiveRun (Live World) → Type 0
KeepsOver s r = r.0.is_over ≡ s.is_over

-- one or the other
either-over : (s : Live World) (b : Bool) (r t : LiveRun (Live World)) → KeepsOver s r → KeepsOver s t → KeepsOver s (cond b r t)
either-over s true r t h k = h
either-over s false r t h k = k

-- a listener is called
calling-over : (s : Live World) (u : UnderWay) (v : Visiting) (l : Listener NodeName) → KeepsOver s (calling world_documents s u v l)
calling-over s u v l = either-over s (is_live s.live_listeners v.visit.current l.words) _ _ (once l.words.once) (once l.words.once)
  where
    once : (b : Bool) → (if b then without_listener world_documents v.visit.current l.words.event l.words.label l.words.capture s else s).is_over ≡ s.is_over
    once true = refl
    once false = refl

-- a frame
frame-over : (s : Live World) (f : Frame) → KeepsOver s (frame_step world_documents s f)
frame-over s (an_event u) = of_event u.visiting
  where
    between : (vs : List (Visit NodeName)) → KeepsOver s (between_visits world_documents s u vs)
    between [] = refl
    between (v ∷ vs) = either-over s u.stopped _ _ refl refl

    of_visit : (v : Visiting) (ls : List (Listener NodeName)) → KeepsOver s (going_on world_documents s u v ls)
    of_visit v [] = refl
    of_visit v (l ∷ ls) = either-over s v.stopped_now _ _ refl (calling-over s u (record v { calls = ls }) l)

    of_event : (m : Option Visiting) → KeepsOver s (event_step world_documents s u m)
    of_event None = between u.visits
    of_event (Some v) = of_visit v v.calls
frame-over s (a_notification n) = of_observers n.observers
  where
    of_slots : (xs : List NodeName) → KeepsOver s (firing_at world_documents s n xs)
    of_slots [] = refl
    of_slots (x ∷ xs) = refl

    of_observers : (ks : List ℕ) → KeepsOver s (notification_step world_documents s n ks)
    of_observers [] = of_slots n.slots
    of_observers (k ∷ ks) =
        either-over s (list_any (is_observer n.owner k) s.live_observers && not (is_empty (queue_of (part_of s.documents n.owner).record_queues k))) _ _
        refl refl
frame-over s (a_microtask o) = refl
frame-over s (a_checkpoint c) = of_tasks s.documents.tasks
  where
    of_tasks : (ts : List Task) → KeepsOver s (checkpoint_step world_documents s c ts)
    of_tasks [] = refl
    of_tasks (notify_task o ∷ ts) = refl
    of_tasks (micro_task o label ∷ ts) = either-over s (first_is_live o s.live_tasks) _ _ refl refl

-- small steps
steps-over : (n : ℕ) (s : Live World) → (after n s).is_over ≡ s.is_over
steps-over zero s = refl
steps-over (suc n) s =
    by_cases (is_resting s) (λ h. ap (λ (t : Live World). t.is_over) (rest-stays (suc n) s h))
    (λ h. ap (λ (t : Live World). t.is_over) (goes-on n s h) ∙ steps-over n (next s) ∙ one s.frames)
  where
    one : (fs : List Frame) → KeepsOver s (advance_in world_documents s fs)
    one [] = refl
    one (f ∷ fs) =
        either-over s (is_some (caller f)) (still (put_back (returned f) (record s { frames = fs }))) _ refl (frame-over (record s { frames = fs }) f)

-- the law
pub input-ends : InputEnds
input-ends s = by (live_finish world_documents s).0.frames (sym (ap (λ b. frames_rest b end.frames) over) ∙ runs-end (ending s))
  where
    end : Live World
    end = (live_finish world_documents s).0

    over : end.is_over ≡ true
    over = steps-over (frames_left world_documents (ending s).frames (ending s)) (ending s)

    by : (fs : List Frame) → frames_rest true fs ≡ true → fs ≡ []
    by [] h = refl
    by (f ∷ fs) h = absurd (true≢false (sym h ∙ none (is_some (caller f))))
      where
        none : (b : Bool) → (b && not true) ≡ false
        none true = refl
        none false = refl
