-- What a group has after every line of a script, before the end of input: what the silent run has on its full trace so far. So a script that never ends has
-- the claims too.
use Rattle.std.specs.Prelude.{◌≡◌, ℕ, Bool, IsTrue, List, ◌++◌, map}
use Rattle.dom_base.specs.declared.Owner.{Owner}
use Rattle.dom_model.specs.Command.{Line}
use Rattle.dom_model.specs.DocumentMachine.{first_world, run_lines}
use Rattle.dom_model.specs.Groups.{KeepsMakers, group_run}
use Rattle.dom_model.specs.Output.{Output}
use Rattle.dom_model.specs.Runs.{Run, run_then, run_each}
use Rattle.dom_model.specs.Trace.{outputs_for}
use Rattle.dom_model.specs.World.{World}
use Rattle.dom_text.specs.Lines.{lines_of, lines_from}
use Rattle.dom_text.specs.Text.{output_line, output_text}
use Rattle.dom_isolation.specs.FullGroups.{records_at_end}
use Rattle.dom_isolation.specs.GroupTexts.{IsWordOf, text_of}
use Rattle.dom_isolation.specs.Interference.{FullItem, full_trace_from}
use Rattle.dom_isolation.specs.SilentRuns.{silent_step_under, silent_output_under}

module _ {L : Type 0} (read : L → Line) where
  -- the silent run on a full trace from a world on, without the end of input
  abbrev pub run_silent_under : (Owner → Bool) → World → List (FullItem L) → Run World
  run_silent_under group v items = run_each (silent_step_under group read) v items

  -- After every list of lines a group that keeps makers has of the world, and has been told, what it has in the silent run on its full trace: its parts,
  -- its signalled slots and tasks, the turn where it is its own, and its lines of output.
  abbrev pub GroupAgreesInFull : Type 0
  GroupAgreesInFull =
      (group : Owner → Bool) → KeepsMakers group → (ls : List L) →
      group_run group (run_lines first_world (map read ls))
      ≡ group_run group (run_silent_under group first_world (full_trace_from read group first_world ls))

  -- So two lists of lines with equal full traces leave it the same, and have told it the same.
  abbrev pub SameGroupSoFarInFull : Type 0
  SameGroupSoFarInFull =
      (group : Owner → Bool) → KeepsMakers group → (ls ms : List L) →
      full_trace_from read group first_world ls ≡ full_trace_from read group first_world ms →
      group_run group (run_lines first_world (map read ls)) ≡ group_run group (run_lines first_world (map read ms))

  -- More lines only add to the full trace, and so to what the silent run does.
  abbrev pub GroupTraceGoesOn : Type 0
  GroupTraceGoesOn =
      (group : Owner → Bool) (ls more : List L) →
      let items = full_trace_from read group first_world ls in
      let rest = full_trace_from read group (run_lines first_world (map read ls)).0 more in
      (full_trace_from read group first_world (ls ++ more) ≡ items ++ rest)
      × (run_silent_under group first_world (full_trace_from read group first_world (ls ++ more))
      ≡ run_then (run_silent_under group first_world items) (λ v. run_silent_under group v rest))

  -- So what a member is told in the silent run on the lines so far stands at the front of what it is told on these lines and more, with the end of input.
  abbrev pub MemberOutputGoesOn : Type 0
  MemberOutputGoesOn =
      (group : Owner → Bool) (member : Owner) (ls more : List L) → (rest : List Output)
      × (outputs_for member (silent_output_under group read (full_trace_from read group first_world (ls ++ more)) (records_at_end read group (ls ++ more)))
      ≡ outputs_for member (run_silent_under group first_world (full_trace_from read group first_world ls)).1 ++ rest)

module _ (read : List ℕ → Line) where
  -- the output of a member in the silent run on the full trace of lines, without the end of input
  abbrev pub member_so_far : (Owner → Bool) → Owner → List (List ℕ) → List Output
  member_so_far group member lines = outputs_for member (run_silent_under read group first_world (full_trace_from read group first_world lines)).1

  -- with it
  abbrev pub member_to_end : (Owner → Bool) → Owner → List (List ℕ) → List Output
  member_to_end group member lines =
      outputs_for member (silent_output_under group read (full_trace_from read group first_world lines) (records_at_end read group lines))

  -- Whoever picks the lines that begin with a member's word and a space out of the output so far has the member's lines of the silent run on the full trace
  -- of the lines so far.
  abbrev pub MemberLinesAgreeSoFarInFull : Type 0
  MemberLinesAgreeSoFarInFull =
      (group : Owner → Bool) → KeepsMakers group → (member : Owner) → IsTrue (group member) → IsWordOf member → (lines : List (List ℕ)) →
      lines_from member (lines_of (output_text (run_lines first_world (map read lines)).1)) ≡ map output_line (member_so_far group member lines)

  -- So it is to the end of input.
  abbrev pub MemberLinesAgreeInFull : Type 0
  MemberLinesAgreeInFull =
      (group : Owner → Bool) → KeepsMakers group → (member : Owner) → IsTrue (group member) → IsWordOf member → (bytes : List ℕ) →
      lines_from member (lines_of (text_of read bytes)) ≡ map output_line (member_to_end group member (lines_of bytes))
