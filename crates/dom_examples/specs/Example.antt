-- What an example is, and what it claims of the definitions.
use Rattle.std.specs.Prelude.{◌≡◌, ℕ, List, [], ◌∷◌, ◌++◌, map, take, replicate, codes}
use Rattle.dom_base.specs.declared.Owner.{Owner}
use Rattle.dom_model.specs.DocumentMachine.{outputs_of}
use Rattle.dom_model.specs.Trace.{trace_of}
use Rattle.dom_model.specs.PageMachine.{page_outputs_of}
use Rattle.dom_text.specs.Decode.{decode}
use Rattle.dom_text.specs.Lines.{lines_from, page_lines, text_of_lines}
use Rattle.dom_text.specs.Text.{output_text}

-- A script, and the lines that answer it.
pub record Example : Type 0 where
  pub lines : List (List ℕ)
  pub answers : List (List ℕ)

-- the answers to so many lines of the page that only change something
abbrev pub oks : ℕ → List (List ℕ)
oks n = replicate n (codes "p ok")

-- the answers to the making of so many nodes of the page
abbrev pub first_nodes : ℕ → List (List ℕ)
first_nodes n =
    take n (codes "p ok n1" ∷ codes "p ok n2" ∷ codes "p ok n3" ∷ codes "p ok n4" ∷ codes "p ok n5" ∷ codes "p ok n6" ∷ codes "p ok n7" ∷ [])

-- a script that goes on where another one ends
abbrev pub continued : Example → Example → Example
continued first more = record { lines = first.lines ++ more.lines; answers = first.answers ++ more.answers }

-- The document machine answers the script so, and the page machine answers the page's lines on the script's trace.
pub record Computes (e : Example) : Type 0 where
  pub document : output_text (outputs_of (map decode e.lines)) ≡ text_of_lines e.answers
  pub page : output_text (page_outputs_of decode (trace_of decode e.lines)) ≡ text_of_lines (page_lines e.answers)

-- the page's lines of the answers
abbrev pub page_answers : Example → List (List ℕ)
page_answers e = page_lines e.answers

-- the lines of an owner in the answers
abbrev pub answers_for : Owner → Example → List (List ℕ)
answers_for owner e = lines_from owner e.answers

-- A script of one line, and the line that answers it.
pub record Single : Type 0 where
  pub line : List ℕ
  pub answer : List ℕ

-- each of the lines is answered so
abbrev pub Singles : List Single → Type 0
Singles [] = Unit {0}
Singles (s ∷ rest) = (output_text (outputs_of (decode s.line ∷ [])) ≡ text_of_lines (s.answer ∷ [])) × Singles rest
