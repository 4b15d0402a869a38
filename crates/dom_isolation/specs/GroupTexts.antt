-- The theorem for texts: bytes cut into lines, of which a component's are those that begin with its word and a space.
use Rattle.std.specs.Prelude.{◌≡◌, ◌≢◌, ℕ, Bool, IsTrue, not, List, map, Some}
use Rattle.dom_base.specs.declared.Owner.{Owner}
use Rattle.dom_base.specs.declared.Owner.TheVariants.{Page}
use Rattle.dom_model.specs.Command.{Line}
use Rattle.dom_model.specs.DocumentMachine.{outputs_of}
use Rattle.dom_model.specs.Groups.{KeepsMakers, is_in_family, family_group, is_inside, makers_group, group_without}
use Rattle.dom_model.specs.Isolation.{family_trace, turns_are_closed, group_turns_stand}
use Rattle.dom_model.specs.Trace.{is_page, owner_of_line, outputs_for, no_component_stops}
use Rattle.dom_text.specs.Decode.{decode}
use Rattle.dom_text.specs.Lines.{lines_of, lines_from}
use Rattle.dom_text.specs.Text.{output_line, output_text}
use Rattle.dom_text.specs.Tokens.{IsOwner}
use Rattle.dom_text.specs.Words.{owner_word}
use Rattle.dom_isolation.specs.Agreement.{AgreeWhileTurnsStand, AgreeWithClosedTurns}
use Rattle.dom_isolation.specs.FullGroups.{AgreeInFull}

-- an owner whose word is read as that owner (own rule: a component's numbers are not 0, and have at most nine digits each)
abbrev pub IsWordOf : Owner → Type 0
IsWordOf o = IsOwner o (owner_word o)

-- A reading gives lines of such owners alone. The protocol's does.
abbrev pub ReadsOwners : (List ℕ → Line) → Type 0
ReadsOwners read = (bytes : List ℕ) (o : Owner) → owner_of_line (read bytes) ≡ Some o → IsWordOf o

-- the protocol's reading
abbrev pub DecodeReadsOwners : Type 0
DecodeReadsOwners = ReadsOwners decode

module _ (read : List ℕ → Line) where
  -- the text of a script's output
  abbrev pub text_of : List ℕ → List ℕ
  text_of bytes = output_text (outputs_of (map read (lines_of bytes)))

  -- Whoever cuts the text of a script's output at its line feeds and keeps the lines that begin with an owner's word and a space has the owner's
  -- lines of output.
  abbrev pub OwnLinesHaveTheirPrefix : Type 0
  OwnLinesHaveTheirPrefix =
      (o : Owner) → IsWordOf o → (bytes : List ℕ) →
      lines_from o (lines_of (text_of bytes)) ≡ map output_line (outputs_for o (outputs_of (map read (lines_of bytes))))

  -- two texts have equal lines of an owner in the text of their output
  abbrev pub GiveTheSame : Owner → List ℕ → List ℕ → Type 0
  GiveTheSame o first second = lines_from o (lines_of (text_of first)) ≡ lines_from o (lines_of (text_of second))

  -- Two texts that agree for a group that keeps makers give each member the same: where no line of an owner outside ends a member's turn,
  abbrev pub SameGroupTextWhileTurnsStand : Type 0
  SameGroupTextWhileTurnsStand =
      (group : Owner → Bool) → KeepsMakers group → (member : Owner) → IsTrue (group member) → IsWordOf member → (first second : List ℕ) →
      AgreeWhileTurnsStand read group (lines_of first) (lines_of second) → GiveTheSame member first second

  -- and so where each component's turn is ended by its own `.`.
  abbrev pub SameGroupText : Type 0
  SameGroupText =
      (group : Owner → Bool) → KeepsMakers group → (member : Owner) → IsTrue (group member) → IsWordOf member → (first second : List ℕ) →
      AgreeWithClosedTurns read group (lines_of first) (lines_of second) → GiveTheSame member first second

  -- Two texts that agree for a family have equal lines of each member in the text of their output: where no line of an owner outside ends
  -- a member's turn,
  abbrev pub SameFamilyTextWhileTurnsStand : Type 0
  SameFamilyTextWhileTurnsStand =
      (root member : Owner) → IsTrue (is_in_family root member) → IsWordOf member → (first second : List ℕ) →
      IsTrue (no_component_stops read (lines_of first)) → IsTrue (no_component_stops read (lines_of second)) →
      IsTrue (group_turns_stand read (family_group root) (lines_of first)) → IsTrue (group_turns_stand read (family_group root) (lines_of second)) →
      family_trace read root (lines_of first) ≡ family_trace read root (lines_of second) →
      lines_from member (lines_of (text_of first)) ≡ lines_from member (lines_of (text_of second))

  -- and so where each component's turn is ended by its own `.`.
  abbrev pub SameFamilyText : Type 0
  SameFamilyText =
      (root member : Owner) → IsTrue (not (is_page root)) → IsTrue (is_in_family root member) → IsWordOf member → (first second : List ℕ) →
      IsTrue (no_component_stops read (lines_of first)) → IsTrue (no_component_stops read (lines_of second)) →
      IsTrue (turns_are_closed read (lines_of first)) → IsTrue (turns_are_closed read (lines_of second)) →
      family_trace read root (lines_of first) ≡ family_trace read root (lines_of second) →
      lines_from member (lines_of (text_of first)) ≡ lines_from member (lines_of (text_of second))

  -- Two texts that agree for a component with its makers give the component the same: where no line of an owner outside ends a turn of one of them,
  abbrev pub SameComponentTextWhileTurnsStand : Type 0
  SameComponentTextWhileTurnsStand =
      (c : Owner) → IsWordOf c → (first second : List ℕ) → AgreeWhileTurnsStand read (makers_group c) (lines_of first) (lines_of second) →
      GiveTheSame c first second

  -- and so where each component's turn is ended by its own `.`.
  abbrev pub SameComponentText : Type 0
  SameComponentText =
      (c : Owner) → IsWordOf c → (first second : List ℕ) → AgreeWithClosedTurns read (makers_group c) (lines_of first) (lines_of second) →
      GiveTheSame c first second

  -- Two texts that agree around a component give each owner who is not inside it the same: where no line of an owner inside ends the turn of one
  -- who is not,
  abbrev pub SameAroundTextWhileTurnsStand : Type 0
  SameAroundTextWhileTurnsStand =
      (c o : Owner) → c ≢ Page → IsTrue (not (is_inside c o)) → IsWordOf o → (first second : List ℕ) →
      AgreeWhileTurnsStand read (group_without c) (lines_of first) (lines_of second) → GiveTheSame o first second

  -- and so where each component's turn is ended by its own `.`.
  abbrev pub SameAroundText : Type 0
  SameAroundText =
      (c o : Owner) → c ≢ Page → IsTrue (not (is_inside c o)) → IsWordOf o → (first second : List ℕ) →
      AgreeWithClosedTurns read (group_without c) (lines_of first) (lines_of second) → GiveTheSame o first second

  -- Two texts that agree in full for a group that keeps makers give each member the same,
  abbrev pub SameGroupTextInFull : Type 0
  SameGroupTextInFull =
      (group : Owner → Bool) → KeepsMakers group → (member : Owner) → IsTrue (group member) → IsWordOf member → (first second : List ℕ) →
      AgreeInFull read group (lines_of first) (lines_of second) → GiveTheSame member first second

  -- for a family,
  abbrev pub SameFamilyTextInFull : Type 0
  SameFamilyTextInFull =
      (root member : Owner) → IsTrue (is_in_family root member) → IsWordOf member → (first second : List ℕ) →
      AgreeInFull read (family_group root) (lines_of first) (lines_of second) → GiveTheSame member first second

  -- for a component with its makers,
  abbrev pub SameComponentTextInFull : Type 0
  SameComponentTextInFull =
      (c : Owner) → IsWordOf c → (first second : List ℕ) → AgreeInFull read (makers_group c) (lines_of first) (lines_of second) → GiveTheSame c first second

  -- and around a component.
  abbrev pub SameAroundTextInFull : Type 0
  SameAroundTextInFull =
      (c o : Owner) → c ≢ Page → IsTrue (not (is_inside c o)) → IsWordOf o → (first second : List ℕ) →
      AgreeInFull read (group_without c) (lines_of first) (lines_of second) → GiveTheSame o first second
