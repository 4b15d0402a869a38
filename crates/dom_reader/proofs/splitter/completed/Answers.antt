-- Each line feed ends a line, and behind the last one is the rest.
use Rattle.dom_base.proofs.Std.{◌≡◌, ◌+◌, ◌-◌, [], ◌++◌, length, take, drop, sym, ap, ◌∙◌, arith, take_all, length-drop}
use Rattle.dom_text.specs.Definitions.{Cut, kept_line}
use Rattle.dom_reader.proofs.FedPieces.{fed_nothing, fed_kept, fed_front, fed_step, fed_same, fed_end, line_put, on_err}
use Rattle.dom_reader.proofs.splitter.completed.Goals as goal

pub loop-end-init : goal.loop-end-init
loop-end-init c = rw c.new-lines.ensures.items (fed_nothing c.args.kept.now.items c.args.piece.now c.requires)

pub keep-requires : goal.keep-requires
keep-requires c = fed_kept c.loop-end.invariant

pub returns-in_err-keep-clause-refused : goal.returns-in_err-keep-clause-refused
returns-in_err-keep-clause-refused c = on_err c.from_residual.result _ (rw c.in_err-keep.ensures.refused (fed_front c.loop-end.invariant))

pub returns-in_err-push-clause-refused : goal.returns-in_err-push-clause-refused
returns-in_err-push-clause-refused c =
    let empty : c.replace-line.new.dest.items ≡ [] = rw c.replace-line.ensures.after c.new.ensures.items in
    on_err c.from_residual-in_err-push.result _ (rw empty (fed_front (fed_step c.loop-end.invariant c.in-Some.end c.in-Some.ensures)))

pub loop-end-preserved : goal.loop-end-preserved
loop-end-preserved c =
    let rest = c.loop-end.rest.now in
    let end = c.in-Some.end in
    let empty : c.replace-line.new.dest.items ≡ [] = rw c.replace-line.ensures.after c.new.ensures.items in
    fed_same (fed_step c.loop-end.invariant end c.in-Some.ensures) _ _ _
    (take_all (length rest - (end + 1)) (drop (end + 1) rest) (omega (arith, length-drop (end + 1) rest)))
    (line_put _ c.loop-end.lines.items c.replace-line.result (kept_line (c.loop-end.kept.items ++ take end rest))
    c.in_ok-push.ensures.items (rw c.replace-line.ensures.value c.in_ok-keep.ensures.ok))
    empty

pub keep-requires-2 : goal.keep-requires-2
keep-requires-2 c = fed_kept c.loop-end.invariant

pub returns-in_err-keep-2-clause-refused : goal.returns-in_err-keep-2-clause-refused
returns-in_err-keep-2-clause-refused c = on_err c.from_residual-in_err-keep-2.result _ (rw c.in_err-keep-2.ensures.refused (fed_front c.loop-end.invariant))

pub returns-clause-lines : goal.returns-clause-lines
returns-clause-lines c = sym (ap (λ (cut : Cut). cut.finished) (fed_end c.loop-end.invariant c.in_default.ensures))

pub returns-clause-left : goal.returns-clause-left
returns-clause-left c = c.in_ok-keep-2.ensures.ok ∙ sym (ap (λ (cut : Cut). cut.rest) (fed_end c.loop-end.invariant c.in_default.ensures))
