-- What it says that the first world has something, and that each line, the ending of a turn, the end of input and each script leave it.
use Rattle.std.specs.Prelude.{Bool, List, map}
use Rattle.dom_base.specs.declared.Owner.{Owner}
use Rattle.dom_model.specs.Command.{Line}
use Rattle.dom_model.specs.DocumentMachine.{first_world, step, run_lines, finish}
use Rattle.dom_model.specs.Turns.{ending_other_turn}
use Rattle.dom_model.specs.World.{World}
use Rattle.dom_worlds.specs.Reached.{IsReached}

-- the first world has it
abbrev pub FirstHas : (World → Type 0) → Type 0
FirstHas P = P first_world

-- each line leaves P, where Q holds before
abbrev pub StepLeaves : (World → Type 0) → (World → Type 0) → Type 0
StepLeaves Q P = (only_log : Bool) (w : World) (l : Line) → IsReached only_log w → Q w → P (step w l).0

-- the ending of another component's turn does
abbrev pub EndingLeaves : (World → Type 0) → (World → Type 0) → Type 0
EndingLeaves Q P = (only_log : Bool) (w : World) (o : Owner) → IsReached only_log w → Q w → P (ending_other_turn w o).0

-- the end of input does
abbrev pub FinishLeaves : (World → Type 0) → (World → Type 0) → Type 0
FinishLeaves Q P = (only_log : Bool) (w : World) → IsReached only_log w → Q w → P (finish w).0

-- each script leads to a world that has it
abbrev pub ScriptsLeave : (World → Type 0) → {L : Type 0} → (L → Line) → Type 0
ScriptsLeave P {L = L} read = (ls : List L) → P (run_lines first_world (map read ls)).0
