-- What a worked example is, and what it claims of the machine.
use Rattle.std.specs.Prelude.{◌≡◌, ℕ, List, map}
use Rattle.dom_model.specs.DocumentMachine.{first_world}
use Rattle.dom_model.specs.PageMachine.{first_page}
use Rattle.dom_model.specs.Trace.{is_page}
use Rattle.dom_text.specs.Lines.{text_of_lines, page_lines}
use Rattle.dom_live.specs.Documents.{world_documents, page_documents, at_rest}
use Rattle.dom_live.specs.Machine.{live_run}
use Rattle.dom_live.specs.Things.{told_run, whole_trace}
use Rattle.dom_live.specs.LineForm.{read_live, live_text}

-- A script, and the lines that answer it, with those of the end of input.
pub record LiveExample : Type 0 where
  pub lines : List (List ℕ)
  pub answers : List (List ℕ)

-- The machine answers the script so; and the page machine, which is told the trace for the page, answers the page so.
pub record AnswersSo (e : LiveExample) : Type 0 where
  pub all : live_text (live_run world_documents (at_rest first_world) (map read_live e.lines)).1 ≡ text_of_lines e.answers
  pub page :
      live_text (told_run page_documents read_live (at_rest first_page) (whole_trace is_page read_live e.lines)).1 ≡ text_of_lines (page_lines e.answers)
