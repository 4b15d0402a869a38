-- The isolation theorem for the page, with interference in place of the premise that no component listener stops or cancels: of lists of lines, of
-- some lines and more, and of texts.
use Rattle.std.specs.Prelude.{◌≡◌, ℕ, List, [], ◌∷◌, ◌++◌, map, Some}
use Rattle.dom_base.specs.declared.Owner.TheVariants.{Page}
use Rattle.dom_model.specs.Command.{Line}
use Rattle.dom_model.specs.Output.{Output}
use Rattle.dom_model.specs.Runs.{run_then}
use Rattle.dom_model.specs.DocumentMachine.{first_world, run_lines, outputs_of}
use Rattle.dom_model.specs.Isolation.{output_for}
use Rattle.dom_model.specs.PageMachine.{page_of, first_page}
use Rattle.dom_model.specs.Trace.{is_page}
use Rattle.dom_text.specs.Lines.{lines_of, page_lines, written}
use Rattle.dom_text.specs.Text.{output_line, output_text}
use Rattle.dom_isolation.specs.Interference.{FullItem, line_with, outward_with, turn_ended, full_trace_from, full_trace_of}
use Rattle.dom_isolation.specs.Laws.{page_run}
use Rattle.dom_isolation.specs.Texts.{output_lines}
use Rattle.dom_isolation.specs.TouchedMachines.{run_page_under, page_outputs_under}

module _ {L : Type 0} (read : L → Line) where
  -- After every script the page's part of the world is the state of the page machine that is told the full trace, and the page's lines so far are its.
  abbrev pub PageRunAgreesInFull : Type 0
  PageRunAgreesInFull = (ls : List L) → page_run (run_lines first_world (map read ls)) ≡ run_page_under read first_page (full_trace_of read ls)

  -- the page's part alone
  abbrev pub PageAgreesInFull : Type 0
  PageAgreesInFull = (ls : List L) → page_of (run_lines first_world (map read ls)).0 ≡ (run_page_under read first_page (full_trace_of read ls)).0

  -- The page's output of a script is that of the page machine on its full trace.
  abbrev pub PageSeesItsFullTrace : Type 0
  PageSeesItsFullTrace = (ls : List L) → output_for read Page ls ≡ page_outputs_under read (full_trace_of read ls)

  -- Two scripts with equal page lines, equal outward events and equal interference have equal output of the page.
  abbrev pub SamePageInFull : Type 0
  SamePageInFull = (ls ms : List L) → full_trace_of read ls ≡ full_trace_of read ms → output_for read Page ls ≡ output_for read Page ms

  -- More lines only add to the full trace, and so to what the page machine does.
  abbrev pub FullTraceGoesOn : Type 0
  FullTraceGoesOn =
      (ls more : List L) → let rest = full_trace_from read is_page (run_lines first_world (map read ls)).0 more in
      (full_trace_of read (ls ++ more) ≡ full_trace_of read ls ++ rest)
      × (run_page_under read first_page (full_trace_of read (ls ++ more))
      ≡ run_then (run_page_under read first_page (full_trace_of read ls)) (λ s. run_page_under read s rest))

  -- So what the page machine writes for the lines so far, without the ending, stands at the front of what it writes for these
  -- lines and more, with the ending.
  abbrev pub PageOutputGoesOnInFull : Type 0
  PageOutputGoesOnInFull =
      (ls more : List L) → (rest : List Output)
      × (page_outputs_under read (full_trace_of read (ls ++ more)) ≡ (run_page_under read first_page (full_trace_of read ls)).1 ++ rest)

-- the lines of input in a full trace
abbrev pub full_lines_in : {L : Type 0} → List (FullItem L) → List L
full_lines_in [] = []
full_lines_in (line_with l records ∷ items) = l ∷ full_lines_in items
full_lines_in (outward_with e reached ∷ items) = full_lines_in items
full_lines_in (turn_ended records ∷ items) = full_lines_in items

module _ (read : List ℕ → Line) where
  -- The lines of input in a full trace are the script's lines that begin with `p `.
  abbrev pub FullTraceHasPageLines : Type 0
  FullTraceHasPageLines = (lines : List (List ℕ)) → full_lines_in (full_trace_of read lines) ≡ page_lines lines

  -- The lines of output that begin with `p ` are those of the page machine on the full trace.
  abbrev pub PageLinesAgreeInFull : Type 0
  PageLinesAgreeInFull =
      (lines : List (List ℕ)) → page_lines (output_lines read lines) ≡ map output_line (page_outputs_under read (full_trace_of read lines))

  -- So it is before the end of input: the lines of output of the lines so far.
  abbrev pub PageLinesAgreeSoFarInFull : Type 0
  PageLinesAgreeSoFarInFull =
      (lines : List (List ℕ)) → page_lines (map output_line (run_lines first_world (map read lines)).1)
      ≡ map output_line (run_page_under read first_page (full_trace_of read lines)).1

  -- What is written of a text's output for the page is the text of the page machine's output.
  abbrev pub PageTextAgreesInFull : Type 0
  PageTextAgreesInFull =
      (bytes : List ℕ) → written (Some Page) (output_lines read (lines_of bytes)) ≡ output_text (page_outputs_under read (full_trace_of read (lines_of bytes)))

  -- Two texts with equal full traces have equal output of the page.
  abbrev pub SamePageTextInFull : Type 0
  SamePageTextInFull =
      (first second : List ℕ) → full_trace_of read (lines_of first) ≡ full_trace_of read (lines_of second) →
      written (Some Page) (output_lines read (lines_of first)) ≡ written (Some Page) (output_lines read (lines_of second))

  -- Whoever picks the lines that begin with `p ` out of the whole output has those of the page machine on the full trace.
  abbrev pub PickedLinesAgreeInFull : Type 0
  PickedLinesAgreeInFull =
      (bytes : List ℕ) → page_lines (lines_of (output_text (outputs_of (map read (lines_of bytes)))))
      ≡ map output_line (page_outputs_under read (full_trace_of read (lines_of bytes)))

  -- So it is of the lines so far, before the end of input.
  abbrev pub PickedLinesAgreeSoFarInFull : Type 0
  PickedLinesAgreeSoFarInFull =
      (lines : List (List ℕ)) → page_lines (lines_of (output_text (run_lines first_world (map read lines)).1))
      ≡ map output_line (run_page_under read first_page (full_trace_of read lines)).1
