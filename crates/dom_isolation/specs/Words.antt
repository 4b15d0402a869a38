-- Words without line feeds: readings whose commands have no others, and texts of output, which then are cut into the lines
-- that were written.
use Rattle.std.specs.Prelude.{◌≡◌, ℕ, IsTrue, false, ◌==◌, List, map, ⊤}
use Rattle.std.specs.List.{AllByRecursion}
use Rattle.dom_model.specs.Command.{Command, Line, no_owner, no_command, command}
use Rattle.dom_model.specs.DocumentMachine.{first_world, run_lines, outputs_of}
use Rattle.dom_model.specs.PageMachine.{first_page, run_page, page_outputs_of}
use Rattle.dom_model.specs.Trace.{trace_of, no_component_stops}
use Rattle.dom_text.specs.Decode.{decode}
use Rattle.dom_text.specs.Lines.{line_feed, lines_of, page_lines}
use Rattle.dom_text.specs.Text.{output_line, output_text}
use Rattle.dom_isolation.specs.Texts.{output_lines}

-- no byte is a line feed
abbrev pub HasNoFeed : List ℕ → Type 0
HasNoFeed bytes = AllByRecursion (λ b. (b == line_feed) ≡ false) bytes

-- The words of a command that the machine keeps, and may print, have no line feed; strings are printed with escapes.
abbrev pub HasPlainWords : Command → Type 0
HasPlainWords (Command.new_element name) = HasNoFeed name
HasPlainWords (Command.set_attribute x name value) = HasNoFeed name
HasPlainWords (Command.unset_attribute x name) = HasNoFeed name
HasPlainWords (Command.listen x words) = HasNoFeed words.event × HasNoFeed words.label
HasPlainWords (Command.micro label) = HasNoFeed label
HasPlainWords c = ⊤

-- of what a line says
abbrev pub IsPlainLine : Line → Type 0
IsPlainLine no_owner = ⊤
IsPlainLine (no_command o) = ⊤
IsPlainLine (command o c) = HasPlainWords c

-- A reading gives commands with such words alone. The protocol's does.
abbrev pub ReadsPlainWords : (List ℕ → Line) → Type 0
ReadsPlainWords read = (bytes : List ℕ) → IsPlainLine (read bytes)

-- of the protocol's reading
abbrev pub DecodeReadsPlainWords : Type 0
DecodeReadsPlainWords = ReadsPlainWords decode

module _ (read : List ℕ → Line) where
  -- The text of a script's output is cut into the lines that were written.
  abbrev pub OutputHasItsLines : Type 0
  OutputHasItsLines = (lines : List (List ℕ)) → lines_of (output_text (outputs_of (map read lines))) ≡ output_lines read lines

  -- So it is of the lines so far, before the end of input.
  abbrev pub OutputHasItsLinesSoFar : Type 0
  OutputHasItsLinesSoFar =
      (lines : List (List ℕ)) → let outputs = (run_lines first_world (map read lines)).1 in lines_of (output_text outputs) ≡ map output_line outputs

  -- So whoever picks the lines that begin with `p ` out of the whole output has those of the page machine on the trace.
  abbrev pub PickedLinesAgree : Type 0
  PickedLinesAgree =
      (bytes : List ℕ) → IsTrue (no_component_stops read (lines_of bytes)) →
      page_lines (lines_of (output_text (outputs_of (map read (lines_of bytes))))) ≡ map output_line (page_outputs_of read (trace_of read (lines_of bytes)))

  -- So it is of the lines so far, before the end of input.
  abbrev pub PickedLinesAgreeSoFar : Type 0
  PickedLinesAgreeSoFar =
      (lines : List (List ℕ)) → IsTrue (no_component_stops read lines) →
      page_lines (lines_of (output_text (run_lines first_world (map read lines)).1)) ≡ map output_line (run_page read first_page (trace_of read lines)).1
