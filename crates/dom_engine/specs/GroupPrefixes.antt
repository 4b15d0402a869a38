-- What a run writes of a member of a group of owners: its output in the silent run, at the end of a run and where a fault stops it. So the page has it too.
use Rattle.std.specs.Prelude.{◌≡◌, ℕ, Bool, IsTrue, List, ◌++◌, Option, None, Some, ⊤}
use Rattle.dom_base.specs.declared.Owner.{Owner}
use Rattle.dom_model.specs.Groups.{KeepsMakers}
use Rattle.dom_text.specs.Decode.{decode}
use Rattle.dom_text.specs.Lines.{lines_of}
use Rattle.dom_text.specs.Text.{output_text}
use Rattle.dom_isolation.specs.GroupStates.{member_so_far, member_to_end}
use Rattle.dom_isolation.specs.GroupTexts.{IsWordOf}
use Rattle.dom_streams.specs.declared.fault.RunFault.{RunFault}
use Rattle.dom_streams.specs.Views.{viewed}
use Rattle.dom_streams.specs.Writing.{Taken, Takes}
use Rattle.dom_engine.specs.PageLaws.{lines_named, bytes_read, MayFollow, WritesWholeLines}
use Rattle.dom_engine.specs.Run.{run_text, StopsRun}

-- an owner's lines are written: with its view, or without a view
abbrev pub HasView : Owner → Option Owner → Type 0
HasView o None = ⊤
HasView o (Some viewer) = viewer ≡ o

-- what an owner sees of what is written: with its view all of it, and without a view the lines that begin with its word and a space
abbrev pub seen_by : Owner → Option Owner → List ℕ → List ℕ
seen_by o None text = viewed (Some o) text
seen_by o (Some viewer) text = text

-- of what is written an owner sees this text
pub record OwnerSees (o : Owner) (view : Option Owner) (old new : Taken) (text : List ℕ) : Type 0 where
  pub written : List ℕ
  pub takes : Takes old new written
  pub seen : seen_by o view written ≡ text

-- of what is written an owner sees some first bytes of this text
pub record OwnerSeesFront (o : Owner) (view : Option Owner) (old new : Taken) (text : List ℕ) : Type 0 where
  pub written : List ℕ
  pub takes : Takes old new written
  pub back : List ℕ
  pub split : text ≡ seen_by o view written ++ back

-- the text of a member's output in the silent run on the full trace of lines, without the end of input
abbrev pub member_text_so_far : (Owner → Bool) → Owner → List (List ℕ) → List ℕ
member_text_so_far group member lines = output_text (member_so_far decode group member lines)

-- with it
abbrev pub member_text_to_end : (Owner → Bool) → Owner → List (List ℕ) → List ℕ
member_text_to_end group member lines = output_text (member_to_end decode group member lines)

-- The text that a run writes with the view of a member of a group that keeps makers is its output in the silent run on the full trace of the lines read.
abbrev pub MemberTextIsTheSilentRuns : Type 0
MemberTextIsTheSilentRuns =
    (group : Owner → Bool) → KeepsMakers group → (member : Owner) → IsTrue (group member) → IsWordOf member → (bytes : List ℕ) →
    run_text (Some member) bytes ≡ member_text_to_end group member (lines_of bytes)

-- On `Read`, `Memory` and `InputLimit` a member sees its output in the silent run on the full trace of the lines whose text is written, without the end of
-- input.
abbrev pub MemberSeesLinesNamed : Type 0
MemberSeesLinesNamed =
    (group : Owner → Bool) → KeepsMakers group → (member : Owner) → IsTrue (group member) → IsWordOf member →
    (view : Option Owner) (from to : Option (List ℕ)) (old new : Taken) (e : RunFault) (s : StopsRun e view from to old new) → HasView member view →
    WritesWholeLines e → OwnerSees member view old new (member_text_so_far group member (lines_named view from to old new e s))

-- On every fault it sees some first bytes of its output in the silent run on the full trace of any input that begins with the bytes read; where the end was
-- reached, that input is these bytes.
abbrev pub MemberSeesPrefix : Type 0
MemberSeesPrefix =
    (group : Owner → Bool) → KeepsMakers group → (member : Owner) → IsTrue (group member) → IsWordOf member →
    (view : Option Owner) (from to : Option (List ℕ)) (old new : Taken) (e : RunFault) (s : StopsRun e view from to old new) → HasView member view →
    (more : List ℕ) → MayFollow e to more →
    OwnerSeesFront member view old new (member_text_to_end group member (lines_of (bytes_read view from to old new e s ++ more)))
