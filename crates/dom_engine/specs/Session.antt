-- What a contract sees of a `Session`.
use Rattle.std.specs.Prelude.{◌≡◌, ℕ, Bool, if◌then◌else◌, IsTrue, List, [], ◌∷◌, ◌++◌}
use Rattle.dom_base.specs.declared.Owner.{Owner}
use Rattle.dom_base.specs.declared.Refusal.TheVariants.{Busy, Foreign}
use Rattle.dom_model.specs.Command.{Command, command, names_foreign}
use Rattle.dom_model.specs.DocumentMachine.{is_busy, step}
use Rattle.dom_model.specs.Output.{says, refused}
use Rattle.dom_model.specs.Runs.{Run}
use Rattle.dom_model.specs.Turns.{ending_other_turn}
use Rattle.dom_model.specs.World.{World}
use Rattle.dom_text.specs.Decode.{decode}
use Rattle.dom_text.specs.Text.{output_text}

-- the world as the lines so far have made it, and whether memory was refused to a call
pub record SessionState : Type 0 where
  pub world : World
  pub has_failed : Bool

-- another component's open turn ends; then the owner's command is refused, as busy where the page's turn is open and the
-- owner is a component, and else as foreign
abbrev pub refused_as_foreign : World → Owner → Run World
refused_as_foreign w o =
    let ended = ending_other_turn w o in
    (ended.0, ended.1 ++ says o (refused (if is_busy w o then Busy else Foreign)) ∷ [])

-- a line whose command names another owner's node is refused, and the world is as before, but for the turn that ended
abbrev pub ForeignLinesAreRefused : Type 0
ForeignLinesAreRefused =
    (w : World) (line : List ℕ) (o : Owner) (c : Command) → decode line ≡ command o c → IsTrue (names_foreign c) →
    step w (decode line) ≡ refused_as_foreign w o

-- a line whose command names another owner's node, in such a world, leaves this one and is answered with this text: its refusal, behind
-- what the end of another component's turn told
abbrev pub RefusesForeign : World → List ℕ → World → List ℕ → Type 0
RefusesForeign w line left text =
    (o : Owner) (c : Command) → decode line ≡ command o c → IsTrue (names_foreign c) →
    (left ≡ (refused_as_foreign w o).0) × (text ≡ output_text (refused_as_foreign w o).1)
