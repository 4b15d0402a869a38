-- What a small step tells: a stop, a cancel or a task.
use Rattle.dom_base.proofs.Std.{Bool, true, false, List, [], ◌∷◌, Option, Some, None, if◌then◌else◌, ⊤}
use Rattle.dom_model.proofs.Model.{Owner, World, Task}
use Rattle.dom_live.specs.Frames.{Frame, an_event, a_notification, a_microtask, a_checkpoint}
use Rattle.dom_live.specs.Documents.{Live}
use Rattle.dom_live.specs.Groups.{is_own_step}
use Rattle.dom_live.specs.Things.{Thing, own_line, shut_out, sent_out, was_stopped, was_cancelled, was_run, told_by, told_next}

-- a thing that is neither a line nor an outward event
abbrev pub IsOwnKind : {L : Type 0} → Option (Thing L) → Type 0
IsOwnKind (Some (own_line l)) = ⊥
IsOwnKind (Some (shut_out l)) = ⊥
IsOwnKind (Some (sent_out e)) = ⊥
IsOwnKind m = ⊤

-- one thing or none
kind_if : {L : Type 0} (b : Bool) (x : Thing L) → IsOwnKind (Some x) → IsOwnKind (if b then Some x else None)
kind_if true x h = h
kind_if false x h = tt

-- what a small step tells is such
pub own-kind : (L : Type 0) (g : Owner → Bool) (s : Live World) (fs : List Frame) → IsOwnKind {L = L} (told_next g s fs)
own-kind L g s [] = tt
own-kind L g s (f ∷ fs) = by (is_own_step g s.documents.tasks (f ∷ fs)) s.documents.tasks f
  where
    by : (own : Bool) (tasks : List Task) (f : Frame) → IsOwnKind {L = L} (told_by g s.live_listeners tasks own f)
    by true tasks (an_event u) = kind_if _ was_cancelled tt
    by false tasks (an_event u) = kind_if _ was_stopped tt
    by false (t ∷ ts) (a_checkpoint c) = kind_if _ was_run tt
    by false [] (a_checkpoint c) = tt
    by true tasks (a_checkpoint c) = tt
    by true tasks (a_notification n) = tt
    by false tasks (a_notification n) = tt
    by true tasks (a_microtask o) = tt
    by false tasks (a_microtask o) = tt
