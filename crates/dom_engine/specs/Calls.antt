-- Calls: an owner's command in place of a line of text. What one does and tells.
use Rattle.std.specs.Prelude.{◌≡◌, ℕ, Bool, true, false, if◌then◌else◌, IsTrue, List, [], ◌∷◌, ◌++◌, map}
use Rattle.std.specs.List.{AllByRecursion}
use Rattle.dom_base.specs.declared.Owner.{Owner}
use Rattle.dom_base.specs.declared.Refusal.{Refusal}
use Rattle.dom_base.specs.declared.Refusal.TheVariants.{Busy, Foreign, Syntax}
use Rattle.dom_model.specs.Command.{Command, command, is_command_of, names_foreign}
use Rattle.dom_model.specs.DocumentMachine.{is_busy, step}
use Rattle.dom_model.specs.Output.{Output, Said, bad_owner, says, replied, refused}
use Rattle.dom_model.specs.Runs.{Run}
use Rattle.dom_model.specs.Turns.{ending_other_turn}
use Rattle.dom_model.specs.World.{World}
use Rattle.dom_text.specs.Decode.{decode}
use Rattle.dom_text.specs.Grammar.{IsLine}
use Rattle.dom_text.specs.Text.{output_text}
use Rattle.dom_answers.specs.Told.{Contents, shown_output, told}
use Rattle.dom_engine.specs.Session.{SessionState}
use Rattle.dom_engine.specs.Sessions.{IsAnswered}

-- a session has done a command of an owner, and an answer tells what that told: what the clauses `told` and `world` of `Session::call` say
abbrev pub IsCalled : SessionState → Owner → Command → Contents → SessionState → Type 0
IsCalled old o c answer new =
    (told answer ≡ map shown_output (step old.world (command o c)).1) × (new ≡ record { world = (step old.world (command o c)).0; has_failed = false })

-- ---- lines and calls

-- A text that says a command of an owner by the grammar does what the command does.
abbrev pub LineIsItsCommand : Type 0
LineIsItsCommand = (w : World) (line : List ℕ) (o : Owner) (c : Command) → IsLine line o c → step w (decode line) ≡ step w (command o c)

-- A line that is read as a command of an owner leaves what a call leaves that does the command, and its text is that of what the call's answer tells.
abbrev pub LineIsItsCall : Type 0
LineIsItsCall =
    (line : List ℕ) (o : Owner) (c : Command) → decode line ≡ command o c →
    (old : SessionState) (text : List ℕ) (new : SessionState) (answer : Contents) (called : SessionState) →
    IsAnswered old line text new → IsCalled old o c answer called → (new ≡ called) × (text ≡ output_text (told answer))

-- ---- what is told of a call

-- whether something is a reply or a refusal; if not, it is what a listener, an observer or a microtask is told
abbrev pub is_reply : Said → Bool
is_reply (replied v) = true
is_reply (refused r) = true
is_reply _ = false

-- a line of output is neither
abbrev pub IsDelivery : Output → Type 0
IsDelivery bad_owner = ⊥
IsDelivery (says o said) = is_reply said ≡ false

-- the last line of output is the owner's reply or refusal, and no line before it is one
pub record EndsInReply (o : Owner) (outputs : List Output) : Type 0 where
  pub deliveries : List Output
  pub reply : Said
  pub whole : outputs ≡ deliveries ++ says o reply ∷ []
  pub last : is_reply reply ≡ true
  pub before : AllByRecursion IsDelivery deliveries

-- What a command tells ends in its reply or refusal. So does what an answer tells of it.
abbrev pub CommandEndsInReply : Type 0
CommandEndsInReply = (w : World) (o : Owner) (c : Command) → EndsInReply o (step w (command o c)).1

-- of an answer
abbrev pub CallEndsInReply : Type 0
CallEndsInReply =
    (old : SessionState) (o : Owner) (c : Command) (answer : Contents) (new : SessionState) → IsCalled old o c answer new → EndsInReply o (told answer)

-- ---- nodes of others

-- why a command that names another owner's node is refused: as syntax if it is no command of the owner's, as busy if the page's turn is open and the owner
-- is a component, and else as foreign
abbrev pub foreign_refusal : World → Owner → Command → Refusal
foreign_refusal w o c = if is_command_of o c then (if is_busy w o then Busy else Foreign) else Syntax

-- another component's open turn ends, and then the command is refused so
abbrev pub refused_call : World → Owner → Command → Run World
refused_call w o c =
    let ended = ending_other_turn w o in
    (ended.0, ended.1 ++ says o (refused (foreign_refusal w o c)) ∷ [])

-- A command that names another owner's node is refused, and the world is as before, but for the turn that ended.
abbrev pub ForeignCommandIsRefused : Type 0
ForeignCommandIsRefused = (w : World) (o : Owner) (c : Command) → IsTrue (names_foreign c) → step w (command o c) ≡ refused_call w o c

-- So is a call.
abbrev pub ForeignCallIsRefused : Type 0
ForeignCallIsRefused =
    (old : SessionState) (o : Owner) (c : Command) (answer : Contents) (new : SessionState) → IsTrue (names_foreign c) → IsCalled old o c answer new →
    (new.world ≡ (refused_call old.world o c).0) × (told answer ≡ map shown_output (refused_call old.world o c).1)
