-- The isolation laws for texts: bytes cut into lines, of which the page's are those that begin with `p `.
use Rattle.std.specs.Prelude.{◌≡◌, ◌≢◌, ℕ, IsTrue, List, [], ◌∷◌, ◌++◌, map, Some, if◌then◌else◌}
use Rattle.dom_base.specs.declared.Owner.{Owner}
use Rattle.dom_base.specs.declared.Owner.TheVariants.{Page}
use Rattle.dom_base.specs.declared.Refusal.TheVariants.{Busy, Foreign}
use Rattle.dom_model.specs.Command.{Command, Line, command, names_foreign}
use Rattle.dom_model.specs.DocumentMachine.{first_world, step, run_lines, outputs_of}
use Rattle.dom_model.specs.Output.{Output, says, refused}
use Rattle.dom_model.specs.PageMachine.{first_page, run_page, page_outputs_of}
use Rattle.dom_model.specs.Trace.{TraceItem, line, outward, is_page, is_of, owner_of_line, trace_of, no_component_stops, outputs_for}
use Rattle.dom_model.specs.Turns.{ending_other_turn, is_page_turn}
use Rattle.dom_model.specs.World.{World}
use Rattle.dom_text.specs.Lines.{lines_of, owner_prefix, begins_with, page_lines, written}
use Rattle.dom_text.specs.Decode.{decode}
use Rattle.dom_text.specs.Text.{output_line, output_text}

-- By a reading of lines of bytes just those lines are the page's that begin with `p `.
abbrev pub ReadsPrefix : (List ℕ → Line) → Type 0
ReadsPrefix read = (bytes : List ℕ) → is_of is_page (owner_of_line (read bytes)) ≡ begins_with (owner_prefix Page) bytes

-- The protocol's reading does.
abbrev pub DecodeReadsPrefix : Type 0
DecodeReadsPrefix = ReadsPrefix decode

-- the lines of input in a trace
abbrev pub lines_in : {L : Type 0} → List (TraceItem L) → List L
lines_in [] = []
lines_in (line l ∷ items) = l ∷ lines_in items
lines_in (outward e ∷ items) = lines_in items

-- The page's lines of output are those that begin with `p `.
abbrev pub OutputHasPageLines : Type 0
OutputHasPageLines = (outputs : List Output) → page_lines (map output_line outputs) ≡ map output_line (outputs_for Page outputs)

-- of a view of the page, as text
abbrev pub PageViewIsItsOutput : Type 0
PageViewIsItsOutput = (outputs : List Output) → written (Some Page) (map output_line outputs) ≡ output_text (outputs_for Page outputs)

module _ (read : List ℕ → Line) where
  -- the lines of output of a script, as bytes
  abbrev pub output_lines : List (List ℕ) → List (List ℕ)
  output_lines lines = map output_line (outputs_of (map read lines))

  -- The lines of input in a trace are the script's lines that begin with `p `.
  abbrev pub TraceHasPageLines : Type 0
  TraceHasPageLines = (lines : List (List ℕ)) → lines_in (trace_of read lines) ≡ page_lines lines

  -- The lines of output that begin with `p ` are those of the page machine on the trace.
  abbrev pub PageLinesAgree : Type 0
  PageLinesAgree =
      (lines : List (List ℕ)) → IsTrue (no_component_stops read lines) →
      page_lines (output_lines lines) ≡ map output_line (page_outputs_of read (trace_of read lines))

  -- So it is before the end of input: the lines of output of the lines so far.
  abbrev pub PageLinesAgreeSoFar : Type 0
  PageLinesAgreeSoFar =
      (lines : List (List ℕ)) → IsTrue (no_component_stops read lines) →
      page_lines (map output_line (run_lines first_world (map read lines)).1) ≡ map output_line (run_page read first_page (trace_of read lines)).1

  -- What is written of a text's output for the page is the text of the page machine's output.
  abbrev pub PageTextAgrees : Type 0
  PageTextAgrees =
      (bytes : List ℕ) → IsTrue (no_component_stops read (lines_of bytes)) →
      written (Some Page) (output_lines (lines_of bytes)) ≡ output_text (page_outputs_of read (trace_of read (lines_of bytes)))

  -- Two texts with equal traces have equal output of the page.
  abbrev pub SamePageText : Type 0
  SamePageText =
      (first second : List ℕ) → IsTrue (no_component_stops read (lines_of first)) → IsTrue (no_component_stops read (lines_of second)) →
      trace_of read (lines_of first) ≡ trace_of read (lines_of second) →
      written (Some Page) (output_lines (lines_of first)) ≡ written (Some Page) (output_lines (lines_of second))

-- A line of bytes with a command of a component that names another owner's node is refused, and the world is the one after
-- the ending of another component's turn.
abbrev pub ForeignLineIsRefused : Type 0
ForeignLineIsRefused =
    (w : World) (bytes : List ℕ) (o : Owner) (c : Command) → o ≢ Page → decode bytes ≡ command o c → IsTrue (names_foreign c) →
    let ended = ending_other_turn w o in
    let why = if is_page_turn w.turn then Busy else Foreign in
    step w (decode bytes) ≡ (ended.0, ended.1 ++ says o (refused why) ∷ [])
