-- What is done to a group: the things that a trace tells, each with the number of the group's own small steps before it; and the machine that is told
-- them, which for the page is the page machine with frames, and for a group the run in which all others are silent.
use Rattle.std.specs.Prelude.{ℕ, zero, suc, Bool, true, false, not, ◌&&◌, ◌||◌, List, [], ◌∷◌, ◌++◌, fold, Option, Some, None, is_none, is_some}
use Rattle.std.specs.Prelude.{if◌then◌else◌}
use Rattle.std.specs.List.{list_any}
use Rattle.dom_base.specs.declared.Owner.{Owner}
use Rattle.dom_base.specs.declared.NodeName.{NodeName}
use Rattle.dom_base.specs.declared.Refusal.TheVariants.{Busy}
use Rattle.dom_model.specs.Command.{EventWords, Command}
use Rattle.dom_model.specs.DocumentMachine.{first_world}
use Rattle.dom_model.specs.Groups.{outward_words, is_task_of}
use Rattle.dom_model.specs.Listeners.{Listener, Visit}
use Rattle.dom_model.specs.Names.{is_empty}
use Rattle.dom_model.specs.Trace.{OutwardEvent, is_of, outward_dispatch}
use Rattle.dom_model.specs.World.{World, Task}
use Rattle.dom_live.specs.Lines.{plain, give_back, LiveLine, ownerless, wordless, said, checkpoint, LiveRun, still, and_then, each_then, denying}
use Rattle.dom_live.specs.Frames.{Visiting, UnderWay, Frame, an_event, a_checkpoint}
use Rattle.dom_live.specs.Documents.{Documents, Live, at_rest, is_live, world_documents}
use Rattle.dom_live.specs.SmallSteps.{pushed, dispatched_by, starting, advance}
use Rattle.dom_live.specs.Runs.{is_resting, frames_left}
use Rattle.dom_live.specs.Machine.{taken, ending, live_step, plain_refusal, return_refusal, is_under_way}
use Rattle.dom_live.specs.Groups.{is_own_checkpoint, is_own_event, own_frames, is_own_step}

-- What is done to a group. L is any form of lines.
pub data Thing (L : Type 0) : Type 0 where
  own_line : L → Thing L  -- a member's line
  shut_out : L → Thing L  -- a member's line that is refused for a call of which the group has nothing
  sent_out : OutwardEvent → Thing L  -- an event that goes out to the group begins at its boundary host
  was_stopped : Thing L  -- others stopped the innermost event of the group
  was_cancelled : Thing L  -- others cancelled it, and a member is shown so: it is called, or answered
  was_run : Thing L  -- the group's first task begins in a checkpoint of others
  input_over : Thing L  -- the input is at its end

-- The things, each with the number of own small steps since the one before; and the number of those behind the last.
pub record LiveTrace (L : Type 0) : Type 0 where
  pub things : List (ℕ × Thing L)
  pub steps : ℕ

module _ {L : Type 0} where
  -- before the first thing
  abbrev pub no_things : LiveTrace L
  no_things = record { things = []; steps = 0 }

  -- with a thing
  abbrev pub with_thing : LiveTrace L → Thing L → LiveTrace L
  with_thing t x = record { things = t.things ++ (t.steps, x) ∷ []; steps = 0 }

  -- with one, if there is one
  abbrev pub with_thing_if : LiveTrace L → Option (Thing L) → LiveTrace L
  with_thing_if t None = t
  with_thing_if t (Some x) = with_thing t x

  -- with an own step, if it is one
  abbrev pub with_step_if : Bool → LiveTrace L → LiveTrace L
  with_step_if true t = record t { steps = suc t.steps }
  with_step_if false t = t

-- ---- the machine that is told things

-- the innermost event, stopped
abbrev pub stopped_frames : List Frame → List Frame
stopped_frames (an_event u ∷ fs) = an_event (record u { stopped = true }) ∷ fs
stopped_frames fs = fs

-- the innermost event, cancelled
abbrev pub cancelled_frames : List Frame → List Frame
cancelled_frames (an_event u ∷ fs) = an_event (record u { cancelled = true }) ∷ fs
cancelled_frames fs = fs

-- the owner of a line, if it has one
abbrev pub owner_said : LiveLine → Option Owner
owner_said ownerless = None
owner_said (wordless o) = Some o
owner_said (said o c) = Some o
owner_said checkpoint = None

module _ {S : Type 0} (d : Documents S) where
  -- the first task begins, in a checkpoint of which nothing is known
  abbrev pub first_begins : Live S → List Task → LiveRun (Live S)
  first_begins s [] = still s
  first_begins s (t ∷ ts) = starting d t (record s { documents = d.with_tasks s.documents ts })

  -- an event that goes out begins; without a visit it is over at once
  abbrev pub going_out : Live S → EventWords → List (Visit NodeName) → Live S
  going_out s e [] = s
  going_out s e (v ∷ vs) = pushed (an_event (dispatched_by None e (v ∷ vs))) s

  -- a line that is refused for a call of which nothing is known
  abbrev pub refused_busy : Live S → Option Owner → LiveRun (Live S)
  refused_busy s None = still s
  refused_busy s (Some o) = denying o Busy s

  -- own small steps, as many as are told
  abbrev pub advanced : ℕ → Live S → LiveRun (Live S)
  advanced zero s = still s
  advanced (suc n) s = and_then (advance d s) (advanced n)

  module _ {L : Type 0} (read : L → LiveLine) where
    -- one thing
    abbrev pub done : Live S → Thing L → LiveRun (Live S)
    done s (own_line l) = taken d s (read l)
    done s (shut_out l) = refused_busy s (owner_said (read l))
    done s (sent_out e) = let words = outward_words e in still (going_out s words (d.visits s.documents e.host None words))
    done s was_stopped = still (record s { frames = stopped_frames s.frames })
    done s was_cancelled = still (record s { frames = cancelled_frames s.frames })
    done s was_run = first_begins s (d.tasks s.documents)
    done s input_over = still (ending s)

    -- one, if there is one
    abbrev pub done_if : Live S → Option (Thing L) → LiveRun (Live S)
    done_if s None = still s
    done_if s (Some x) = done s x

    -- the steps before a thing, and the thing
    abbrev pub done_after : Live S → ℕ × Thing L → LiveRun (Live S)
    done_after s (n, x) = and_then (advanced n s) (λ t. done t x)

    -- a whole trace
    abbrev pub told_run : Live S → LiveTrace L → LiveRun (Live S)
    told_run s t = and_then (each_then done_after s t.things) (advanced t.steps)

-- ---- the trace of the machine

-- whether the innermost event is cancelled, and no member knows of it
abbrev pub is_secret : (Owner → Bool) → UnderWay → Bool
is_secret group u = u.cancelled && not (list_any group u.knowing)

-- whether the next small step of a visit, which is a member's, calls its owner
abbrev pub calls_next : List (Listener NodeName) → Visiting → List (Listener NodeName) → Bool
calls_next live v [] = false
calls_next live v (l ∷ ls) = is_none v.called && (not v.stopped_now && is_live live v.visit.current l.words)

-- whether the next small step of an event, where it is the group's own, shows a member that the event is cancelled
abbrev pub shows_next : (Owner → Bool) → List (Listener NodeName) → UnderWay → Option Visiting → Bool
shows_next group live u None = (u.stopped || is_empty u.visits) && is_of group u.by
shows_next group live u (Some v) = calls_next live v v.calls

-- whether a visit of others is over by the next small step
abbrev pub ends_next : Option Visiting → Bool
ends_next None = false
ends_next (Some v) = is_none v.called && (v.stopped_now || is_empty v.calls)

module _ {L : Type 0} (group : Owner → Bool) where
  -- what the next small step of a frame tells: before an own step, that others cancelled the event; with another step, that others stopped it, or that a
  -- task of the group begins
  abbrev pub told_by : List (Listener NodeName) → List Task → Bool → Frame → Option (Thing L)
  told_by live tasks true (an_event u) = if is_secret group u && shows_next group live u u.visiting then Some was_cancelled else None
  told_by live tasks false (an_event u) = if is_own_event group u && (u.stopped && ends_next u.visiting) then Some was_stopped else None
  told_by live (t ∷ ts) false (a_checkpoint c) = if not (is_own_checkpoint group c) && is_task_of group t then Some was_run else None
  told_by live tasks own f = None

  -- what the next small step tells
  abbrev pub told_next : Live World → List Frame → Option (Thing L)
  told_next s [] = None
  told_next s (f ∷ fs) = told_by s.live_listeners s.documents.tasks (is_own_step group s.documents.tasks (f ∷ fs)) f

  -- the trace behind the next small step
  abbrev pub step_traced : Live World → LiveTrace L → LiveTrace L
  step_traced s t = with_step_if (is_own_step group s.documents.tasks s.frames) (with_thing_if t (told_next s s.frames))

  -- the trace behind this many small steps, unless the machine comes to rest before
  abbrev pub steps_traced : ℕ → Live World → LiveTrace L → LiveTrace L
  steps_traced zero s t = t
  steps_traced (suc n) s t = if is_resting s then t else steps_traced n (advance world_documents s).0 (step_traced s t)

  -- behind those that follow a line
  abbrev pub run_traced : Live World → LiveTrace L → LiveTrace L
  run_traced s t = steps_traced (frames_left world_documents s.frames s) s t

  module _ (read : L → LiveLine) where
    -- whether a member's line is refused for a call of which the group has nothing, where it would not be for what the group has: a return that is not
    -- of the innermost call, but of the innermost that the group has; and a checkpoint while others alone are called
    abbrev pub is_shut_out : Live World → LiveLine → Bool
    is_shut_out s (said o give_back) = is_some (return_refusal o s.frames) && is_none (return_refusal o (own_frames group s.frames))
    is_shut_out s (said o (plain Command.end_turn)) = is_under_way s.frames && not (is_under_way (own_frames group s.frames))
    is_shut_out s l = false

    -- the outward event of an accepted line of others
    abbrev pub goes_out : Live World → LiveLine → Option OutwardEvent
    goes_out s (said o (plain c)) = if is_none (plain_refusal world_documents s o c) then outward_dispatch group s.documents o c else None
    goes_out s l = None

    -- the outward event as a thing
    abbrev pub out_thing : Option OutwardEvent → Option (Thing L)
    out_thing None = None
    out_thing (Some e) = Some (sent_out e)

    -- what a line is to the group
    abbrev pub line_thing : Live World → L → Option (Thing L)
    line_thing s l =
        if is_of group (owner_said (read l)) then Some (if is_shut_out s (read l) then shut_out l else own_line l)
        else out_thing (goes_out s (read l))

    -- the machine and the trace behind a line
    abbrev pub line_traced : Live World × LiveTrace L → L → Live World × LiveTrace L
    line_traced (s, t) l =
        ((live_step world_documents s (read l)).0, run_traced (taken world_documents s (read l)).0 (with_thing_if t (line_thing s l)))

    -- behind the lines of a script
    abbrev pub lines_traced : List L → Live World × LiveTrace L
    lines_traced ls = fold line_traced (at_rest first_world, no_things) ls

    -- the trace of a script
    abbrev pub live_trace : List L → LiveTrace L
    live_trace ls = (lines_traced ls).1

    -- the trace of a script and its end
    abbrev pub whole_trace : List L → LiveTrace L
    whole_trace ls = let (s, t) = lines_traced ls in run_traced (ending s) (with_thing t input_over)
