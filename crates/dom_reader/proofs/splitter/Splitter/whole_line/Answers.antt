-- The first line feed ends the line.
use Rattle.dom_base.proofs.Std.{◌≡◌, ◌+◌, ◌-◌, ◌∙◌, [], length, take, drop, sym, arith, eqb-true, take_all, length-drop, nil_from_length}
use Rattle.dom_reader.proofs.WholeLines.{whole_line-at}
use Rattle.dom_reader.proofs.splitter.Splitter.whole_line.Goals as goal

pub returns-clause-some : goal.returns-clause-some
returns-clause-some c =
    let bytes = c.args.bytes.now in
    let end = c.in_ok-end.end in
    let behind : take (length bytes - (end + 1)) (drop (end + 1) bytes) ≡ drop (end + 1) bytes =
    take_all (length bytes - (end + 1)) (drop (end + 1) bytes) (omega (arith, length-drop (end + 1) bytes)) in
    let kept = c.self.inside.kept in
    let empty : kept.len ≡ 0 = eqb-true kept.len 0 (sym c.is_empty.ensures ∙ c.if-not-is_empty.false) in
    let none : c.args.self.now ≡ [] = sym c.self.view_is ∙ nil_from_length kept.items (omega (arith, kept.ok.0, empty)) in
    rw behind (whole_line-at bytes end none c.in_ok-end.ensures c.min-taken.ensures)
