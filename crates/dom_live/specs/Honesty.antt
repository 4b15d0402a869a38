-- What a trace tells, and no more: the group's own lines, the outward events of others' accepted dispatches, and as many own steps as are made; and where
-- others neither send events out nor stop or cancel, no more than lines, tasks and the end of input. Own rules.
use Rattle.std.specs.Prelude.{◌≡◌, ◌≤◌, ℕ, zero, suc, ◌+◌, Bool, true, false, not, ◌&&◌, ◌||◌, IsTrue, Option, Some, None, is_none}
use Rattle.std.specs.Prelude.{⊤, List, [], ◌∷◌, ◌++◌, filter, flat_map, fold, option_to_list, if◌then◌else◌}
use Rattle.std.specs.List.{AllByRecursion}
use Rattle.dom_base.specs.declared.Owner.{Owner}
use Rattle.dom_base.specs.declared.NodeName.{NodeName}
use Rattle.dom_base.specs.declared.Action.{Action}
use Rattle.dom_base.specs.declared.Action.TheVariants.{Stop, StopNow}
use Rattle.dom_model.specs.DocumentMachine.{first_world}
use Rattle.dom_model.specs.Command.{Command}
use Rattle.dom_model.specs.Listeners.{Listener}
use Rattle.dom_model.specs.Trace.{OutwardEvent, is_of, is_page, is_log}
use Rattle.dom_model.specs.World.{World}
use Rattle.dom_live.specs.Lines.{LiveLine, said, plain, prevent, stop, stop_now}
use Rattle.dom_live.specs.Frames.{Visiting, UnderWay, Frame, an_event, own_call}
use Rattle.dom_live.specs.Documents.{Live, at_rest, world_documents, is_live}
use Rattle.dom_live.specs.SmallSteps.{advance}
use Rattle.dom_live.specs.Runs.{is_resting, frames_left}
use Rattle.dom_live.specs.Machine.{taken, ending, live_step, act_refusal}
use Rattle.dom_live.specs.Groups.{is_own_visit, is_own_event, is_own_step}
use Rattle.dom_live.specs.Things.{Thing, own_line, shut_out, sent_out, was_stopped, was_cancelled, LiveTrace, owner_said, goes_out, whole_trace}

module _ {L : Type 0} where
  -- the line of a thing, if it has one
  abbrev pub line_in : Thing L → List L
  line_in (own_line l) = l ∷ []
  line_in (shut_out l) = l ∷ []
  line_in x = []

  -- the outward event of a thing, if it is one
  abbrev pub event_in : Thing L → List OutwardEvent
  event_in (sent_out e) = e ∷ []
  event_in x = []

  -- the lines of a trace
  abbrev pub lines_in : LiveTrace L → List L
  lines_in t = flat_map (λ (x : ℕ × Thing L). line_in x.1) t.things

  -- its outward events
  abbrev pub events_in : LiveTrace L → List OutwardEvent
  events_in t = flat_map (λ (x : ℕ × Thing L). event_in x.1) t.things

  -- how many stops a thing is
  abbrev pub stop_in : Thing L → ℕ
  stop_in was_stopped = 1
  stop_in x = 0

  -- how many stops it tells
  abbrev pub stops_told : LiveTrace L → ℕ
  stops_told t = fold (λ n (x : ℕ × Thing L). n + stop_in x.1) 0 t.things

  -- all own steps that it tells
  abbrev pub steps_in : LiveTrace L → ℕ
  steps_in t = fold (λ n (x : ℕ × Thing L). n + x.0) 0 t.things + t.steps

module _ {L : Type 0} (read : L → LiveLine) (group : Owner → Bool) where
  -- the outward events of others' accepted dispatches, from live documents on
  abbrev pub sent_from : Live World → List L → List OutwardEvent
  sent_from s [] = []
  sent_from s (l ∷ ls) =
      (if is_of group (owner_said (read l)) then [] else option_to_list (goes_out group read s (read l)))
      ++ sent_from (live_step world_documents s (read l)).0 ls

  -- how many of so many small steps are the group's own, unless the machine comes to rest before
  abbrev pub own_steps : ℕ → Live World → ℕ
  own_steps zero s = 0
  own_steps (suc n) s =
      if is_resting s then 0
      else (if is_own_step group s.documents.tasks s.frames then 1 else 0) + own_steps n (advance world_documents s).0

  -- of those that follow a line
  abbrev pub own_steps_after : Live World → ℕ
  own_steps_after s = own_steps (frames_left world_documents s.frames s) s

  -- of those of a script and its end
  abbrev pub own_steps_from : Live World → List L → ℕ
  own_steps_from s [] = own_steps_after (ending s)
  own_steps_from s (l ∷ ls) = own_steps_after (taken world_documents s (read l)).0 + own_steps_from (live_step world_documents s (read l)).0 ls

  -- The lines of a trace are the group's own, in order: none is left out, and none is another's.
  abbrev pub TellsOwnLines : Type 0
  TellsOwnLines = (ls : List L) → lines_in (whole_trace group read ls) ≡ filter (λ l. is_of group (owner_said (read l))) ls

  -- Its outward events are those of others' accepted dispatches, in order.
  abbrev pub TellsOutwardEvents : Type 0
  TellsOutwardEvents = (ls : List L) → events_in (whole_trace group read ls) ≡ sent_from (at_rest first_world) ls

  -- Its numbers come to as many own steps as are made.
  abbrev pub CountsOwnSteps : Type 0
  CountsOwnSteps = (ls : List L) → steps_in (whole_trace group read ls) ≡ own_steps_from (at_rest first_world) ls

-- Whether a line lets the events of others alone: it adds no listener that stops or cancels, and acts on no event. One that adds a live listener does, since
-- what this one does are lines of its own.
abbrev pub lets_alone : LiveLine → Bool
lets_alone (said o (plain (Command.listen x w))) = is_log w.action
lets_alone (said o (prevent k)) = false
lets_alone (said o (stop k)) = false
lets_alone (said o (stop_now k)) = false
lets_alone l = true

-- a thing that is neither a stop nor a cancel
abbrev pub IsQuietThing : {L : Type 0} → Thing L → Type 0
IsQuietThing was_stopped = ⊥
IsQuietThing was_cancelled = ⊥
IsQuietThing x = ⊤

-- Where no line of an owner outside a group adds a listener that stops or cancels, or acts on an event, the group is told neither a stop nor a cancel.
abbrev pub QuietGroup : {L : Type 0} → (L → LiveLine) → (Owner → Bool) → Type 0
QuietGroup {L = L} read group =
    (ls : List L) → AllByRecursion (λ l. IsTrue (is_of group (owner_said (read l)) || lets_alone (read l))) ls →
    AllByRecursion (λ (x : ℕ × Thing L). IsQuietThing x.1) (whole_trace group read ls).things

-- So it is of the page: where no line of a component does.
abbrev pub QuietPage : {L : Type 0} → (L → LiveLine) → Type 0
QuietPage read = QuietGroup read is_page

-- a thing that is a line of the group, a checkpoint of others that runs its tasks, or the end of input
abbrev pub IsOwnThing : {L : Type 0} → Thing L → Type 0
IsOwnThing (sent_out e) = ⊥
IsOwnThing x = IsQuietThing x

-- And where none of them sends an event out to the group either, it is told its own lines, the checkpoints of others that run its tasks, and the end of input
-- alone.
abbrev pub AloneGroup : {L : Type 0} → (L → LiveLine) → (Owner → Bool) → Type 0
AloneGroup {L = L} read group =
    (ls : List L) → AllByRecursion (λ l. IsTrue (is_of group (owner_said (read l)) || lets_alone (read l))) ls →
    sent_from read group (at_rest first_world) ls ≡ [] →
    AllByRecursion (λ (x : ℕ × Thing L). IsOwnThing x.1) (whole_trace group read ls).things

-- whether an action stops the event (DOM Standard, 2.2: event flags)
abbrev pub is_stop : Action → Bool
is_stop Stop = true
is_stop StopNow = true
is_stop a = false

module _ (group : Owner → Bool) where
  -- whether the next small step of a visit, which is another's, calls a listener that stops the event
  abbrev pub stops_in : List (Listener NodeName) → Visiting → List (Listener NodeName) → Bool
  stops_in live v [] = false
  stops_in live v (l ∷ ls) =
      not (is_own_visit group v.visit)
      && (is_none v.called && (not v.stopped_now && (not (is_live live v.visit.current l.words) && is_stop l.words.action)))

  -- of an event, if it is the group's, by the visit that is made
  abbrev pub stops_event : List (Listener NodeName) → UnderWay → Option Visiting → Bool
  stops_event live u None = false
  stops_event live u (Some v) = is_own_event group u && stops_in live v v.calls

  -- whether the next small step does so
  abbrev pub stops_next : List (Listener NodeName) → List Frame → Bool
  stops_next live (an_event u ∷ fs) = stops_event live u u.visiting
  stops_next live fs = false

  -- whether a line is an accepted stop of another, in a call of its own
  abbrev pub stops_by : List Frame → LiveLine → Bool
  stops_by fs (said o (stop k)) = not (group o) && is_none (act_refusal (own_call o k fs))
  stops_by fs (said o (stop_now k)) = not (group o) && is_none (act_refusal (own_call o k fs))
  stops_by fs l = false

  -- how often listeners of others stop an event of the group in so many small steps, unless the machine comes to rest before
  abbrev pub stops_made : ℕ → Live World → ℕ
  stops_made zero s = 0
  stops_made (suc n) s =
      if is_resting s then 0 else (if stops_next s.live_listeners s.frames then 1 else 0) + stops_made n (advance world_documents s).0

  -- in those that follow a line
  abbrev pub stops_after : Live World → ℕ
  stops_after s = stops_made (frames_left world_documents s.frames s) s

  module _ {L : Type 0} (read : L → LiveLine) where
    -- in a script and its end
    abbrev pub stops_from : Live World → List L → ℕ
    stops_from s [] = stops_after (ending s)
    stops_from s (l ∷ ls) =
        (if stops_by s.frames (read l) then 1 else 0)
        + (stops_after (taken world_documents s (read l)).0 + stops_from (live_step world_documents s (read l)).0 ls)

    -- A trace tells no more stops than others make, by listeners that are called at nodes of theirs in events of the group, or by lines in calls of their
    -- own.
    abbrev pub TellsMadeStops : Type 0
    TellsMadeStops = (ls : List L) → stops_told (whole_trace group read ls) ≤ stops_from (at_rest first_world) ls
