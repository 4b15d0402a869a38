-- How live documents go on: small steps, until a call is under way or nothing is.
use Rattle.std.specs.Prelude.{ℕ, zero, suc, ◌+◌, ◌*◌, Bool, true, not, ◌&&◌, ◌||◌, nat_lt, List, [], ◌∷◌, length, Option, Some, None, is_some}
use Rattle.std.specs.Prelude.{if◌then◌else◌}
use Rattle.dom_base.specs.declared.NodeName.{NodeName}
use Rattle.dom_model.specs.Listeners.{Visit}
use Rattle.dom_model.specs.World.{Task}
use Rattle.dom_live.specs.Lines.{LiveRun, still, and_then}
use Rattle.dom_live.specs.Frames.{Visiting, Frame, an_event, a_notification, a_checkpoint, caller}
use Rattle.dom_live.specs.Documents.{Documents, Live}
use Rattle.dom_live.specs.SmallSteps.{advance}

-- nothing is under way, or a call that waits is
abbrev pub frames_rest : Bool → List Frame → Bool
frames_rest is_over [] = true
frames_rest is_over (f ∷ fs) = is_some (caller f) && not is_over

-- live documents between two lines
abbrev pub is_resting : {S : Type 0} → Live S → Bool
is_resting s = frames_rest s.is_over s.frames

-- one small step more, if a call is under way, for its return
abbrev pub return_steps : List Frame → ℕ
return_steps [] = 0
return_steps (f ∷ fs) = if is_some (caller f) then 1 else 0

-- of a visit: two for each call, of which the second is its return, one for the return of the call that is under way, and one for the end
abbrev pub visit_steps : ℕ → ℕ
visit_steps calls = 2 * calls + 2

-- of the visit that is made, if one is
abbrev pub visiting_steps : Option Visiting → ℕ
visiting_steps None = 0
visiting_steps (Some v) = visit_steps (length v.calls)

module _ {S : Type 0} (d : Documents S) where
  -- this many small steps, unless it comes to rest before
  abbrev pub going : ℕ → Live S → LiveRun (Live S)
  going zero s = still s
  going (suc n) s = if is_resting s then still s else and_then (advance d s) (going n)

  -- where they lead
  abbrev pub gone : ℕ → Live S → Live S
  gone n s = (going n s).0

  -- How many small steps there are until it comes to rest, read off what is left: at most so many of the visits to come of an event, and its end;
  abbrev pub visits_steps : S → List (Visit NodeName) → ℕ
  visits_steps s [] = 1
  visits_steps s (v ∷ vs) = 1 + (visit_steps (length (d.part s v.current.owner).listeners) + visits_steps s vs)

  -- of the innermost frame, if it is an event;
  abbrev pub event_steps : Live S → List Frame → ℕ
  event_steps s (an_event u ∷ fs) = visiting_steps u.visiting + visits_steps s.documents u.visits
  event_steps s fs = 0

  -- until fewer frames than k are under way, or it comes to rest, and at most n;
  abbrev pub until_below : ℕ → ℕ → Live S → ℕ
  until_below k zero s = 0
  until_below k (suc n) s = if nat_lt (length s.frames) k || is_resting s then 0 else suc (until_below k n (advance d s).0)

  -- until the innermost frame, an event, is over;
  abbrev pub event_left : Live S → ℕ
  event_left s = until_below (length s.frames) (event_steps s s.frames) s

  -- of the slots of a notification, and its end;
  abbrev pub slots_left : List NodeName → Live S → ℕ
  slots_left [] s = 1
  slots_left (x ∷ xs) s =
      let begun = gone 1 s in
      let steps = event_left begun in
      1 + (steps + slots_left xs (gone steps begun))

  -- of the observers of a notification, and then its slots;
  abbrev pub observers_left : List ℕ → List NodeName → Live S → ℕ
  observers_left [] slots s = slots_left slots s
  observers_left (k ∷ ks) slots s =
      let told = gone 1 s in
      let steps = return_steps told.frames in
      1 + (steps + observers_left ks slots (gone steps told))

  -- of a frame whose call has returned, or which has none, but for a checkpoint;
  abbrev pub inner_left : Live S → List Frame → ℕ
  inner_left s [] = 0
  inner_left s (a_notification n ∷ fs) = observers_left n.observers n.slots s
  inner_left s (f ∷ fs) = event_left s

  -- of a frame that has a call under way, perhaps;
  abbrev pub task_left : Live S → ℕ
  task_left s = let steps = return_steps s.frames in let back = gone steps s in
      if nat_lt (length back.frames) (length s.frames) then steps else steps + inner_left back back.frames

  -- of the tasks of a checkpoint, of which each may put a frame on the stack, and its end;
  abbrev pub tasks_left : List Task → Live S → ℕ
  tasks_left [] s = 1
  tasks_left (t ∷ ts) s =
      let begun = gone 1 s in
      let steps = if nat_lt (length s.frames) (length begun.frames) then task_left begun else 0 in
      1 + (steps + tasks_left ts (gone steps begun))

  -- of any frame;
  abbrev pub frame_left : Frame → Live S → ℕ
  frame_left (a_checkpoint c) s = tasks_left (d.tasks s.documents) s
  frame_left f s = task_left s

  -- and of all frames, the innermost first.
  abbrev pub frames_left : List Frame → Live S → ℕ
  frames_left [] s = 0
  frames_left (f ∷ fs) s = let steps = frame_left f s in steps + frames_left fs (gone steps s)

  -- it goes on until it comes to rest
  abbrev pub ran : Live S → LiveRun (Live S)
  ran s = going (frames_left s.frames s) s
