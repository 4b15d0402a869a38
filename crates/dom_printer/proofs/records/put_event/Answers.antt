-- The line of an event has the path that has the text that is given.
use Rattle.dom_base.proofs.Std.{rules, ◌++◌, ℕ, List, ap, sym, ◌∙◌, append-nil, codes, decimal, on_ok_weaker}
use Rattle.dom_text.specs.Definitions.{node_text, node_or_null}
use Rattle.dom_printer.specs.Lines.{line_text}
use Rattle.dom_printer.proofs.records.put_event.Goals as goal

pub returns-clause-line : goal.returns-clause-line
returns-clause-line c = search rules

pub returns-clause-ok : goal.returns-clause-ok
returns-clause-ok c =
    let owner = c.args.owner.now in
    let e = c.args.event.now in
    let old = c.args.out.now.items in
    let line : List ℕ → List ℕ = λ path. line_text owner (codes "event " ++ e.label.now ++ codes " " ++ e.event.now ++ codes " phase="
    ++ decimal e.phase ++ codes " target=" ++ node_text owner e.target ++ codes " current=" ++ node_text owner e.current ++ codes " related="
    ++ node_or_null owner e.related ++ codes " path=" ++ path) in
    on_ok_weaker c.cut_if_refused.result (λ put path text.
    put ∙ ap (λ (path : List ℕ). old ++ line path) text ∙ ap (λ (line : List ℕ). old ++ line) (sym (append-nil (line _)))) (returns-clause-line c)
