-- Laws of documents: no call is refused as busy, tasks wait for a checkpoint, and a script by lines is calls and checkpoints.
use Rattle.std.specs.Prelude.{◌≡◌, ◌≢◌, Bool, true, false, ◌&&◌, List, [], ◌∷◌, ◌++◌, Some, None, is_some, if◌then◌else◌}
use Rattle.dom_base.specs.declared.Owner.{Owner}
use Rattle.dom_base.specs.declared.Refusal.TheVariants.{Busy}
use Rattle.dom_model.specs.Command.{Command, Line, no_owner, no_command, command, is_command_of}
use Rattle.dom_model.specs.DocumentMachine.{first_world, is_busy, refusal, step, run_lines, finish}
use Rattle.dom_model.specs.Output.{Output, says, refused}
use Rattle.dom_model.specs.Runs.{Run, run_each}
use Rattle.dom_model.specs.Turns.{ending_other_turn, has_other_turn}
use Rattle.dom_model.specs.World.{World}
use Rattle.dom_engine.specs.Documents.{without_turn, called, checkpoint, is_end_turn, queued}

-- No call is refused as busy.
abbrev pub NeverBusy : Type 0
NeverBusy = (w : World) (o : Owner) (c : Command) → refusal (without_turn w) o c ≢ Some Busy

-- A call that is no checkpoint runs no task: it tells what it would tell if no task waited, and what it queues comes after the tasks that wait.
abbrev pub TasksWait : Type 0
TasksWait =
    (w : World) (o : Owner) (c : Command) → is_end_turn c ≡ false →
    let alone = called (record w { tasks = []; turn = None }) o c in
    called (without_turn w) o c ≡ (record alone.0 { tasks = queued w.tasks alone.0.tasks }, alone.1)

-- ---- scripts by lines, and by calls

-- what a program does with a document: an owner's call, or a checkpoint
pub data Act : Type 0 where
  a_call : Owner → Command → Act
  a_checkpoint : Act

-- which does this
abbrev pub acting : World → Act → Run World
acting w (a_call o c) = called w o c
acting w a_checkpoint = checkpoint w

-- whether an owner's line is refused as busy
abbrev pub is_refused_as_busy : World → Owner → Command → Bool
is_refused_as_busy w o c = is_command_of o c && is_busy w o

-- a checkpoint where a turn is ended
abbrev pub checkpoint_if : Bool → List Act
checkpoint_if ends = if ends then a_checkpoint ∷ [] else []

-- what a line does: a checkpoint if it ends another component's turn, and the call that it says, unless that is refused as busy
abbrev pub acts_of : World → Line → List Act
acts_of w no_owner = []
acts_of w (no_command o) = checkpoint_if (has_other_turn w o)
acts_of w (command o c) = checkpoint_if (has_other_turn w o) ++ (if is_refused_as_busy w o c then [] else a_call o c ∷ [])

-- what a line tells, without its refusal as busy or as no command
abbrev pub told_of : World → Line → List Output
told_of w no_owner = []
told_of w (no_command o) = (ending_other_turn w o).1
told_of w (command o c) = if is_refused_as_busy w o c then [] else (step w (command o c)).1

-- what lines do, from a world on
abbrev pub acts_from : World → List Line → List Act
acts_from w [] = []
acts_from w (line ∷ lines) = acts_of w line ++ acts_from (step w line).0 lines

-- and tell
abbrev pub told_from : World → List Line → List Output
told_from w [] = []
told_from w (line ∷ lines) = told_of w line ++ told_from (step w line).0 lines

-- Lines leave the world that their calls and checkpoints leave, but for the turn, and tell what these tell.
abbrev pub LinesAreActs : Type 0
LinesAreActs =
    (w : World) (lines : List Line) →
    run_each acting (without_turn w) (acts_from w lines) ≡ (without_turn (run_lines w lines).0, told_from w lines)

-- From the first world to the end of input, which is a checkpoint if a turn is open.
abbrev pub ScriptsAreActs : Type 0
ScriptsAreActs =
    (lines : List Line) →
    let w = (run_lines first_world lines).0 in
    run_each acting first_world (acts_from first_world lines ++ checkpoint_if (is_some w.turn))
    ≡ (without_turn (finish w).0, told_from first_world lines ++ (finish w).1)

-- Such a refusal is all that a line tells that is refused as busy, and it changes nothing.
abbrev pub BusyLinesDoNothing : Type 0
BusyLinesDoNothing =
    (w : World) (o : Owner) (c : Command) → is_refused_as_busy w o c ≡ true → step w (command o c) ≡ (w, says o (refused Busy) ∷ [])
