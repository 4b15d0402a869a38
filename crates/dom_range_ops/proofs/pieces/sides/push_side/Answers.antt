use Rattle.dom_range_ops.proofs.Cited.{◌≡◌, length, map, not, sym, subst, ◌∙◌, arith, true≢false, eq-eqb, on_ok_weaker, at, name_at, Adds, heads, tails}
use Rattle.dom_range_ops.proofs.Cited.{end_items}
use Rattle.dom_range_ops.proofs.PieceRuns.{adds-on}
use Rattle.dom_range_ops.proofs.PieceSteps.{side-some}
use Rattle.dom_range_ops.proofs.pieces.sides.push_side.Goals as goal

pub returns : goal.returns
returns c =
    let f = c.args.forest.now in
    let b = at (name_at f.names c.args.side.point.0) c.args.side.point.1 in
    let behind = c.args.side.behind in
    let path = c.args.path.now in
    let xs = map (name_at f.names) path in
    let old = c.args.pieces.now.items in
    let off = λ (none : length path ≡ 0). true≢false (sym (eq-eqb (length path) 0 none) ∙ sym c.if-is_empty.ensures) in
    on_ok_weaker c.push_tails.result
    (λ h. subst (Adds f.names old c.push_tails.new.pieces.items) (sym (side-some f.trees b behind f.names path (omega (arith, off))))
    (adds-on f.names (heads f.trees (not behind) xs) _ c.in_ok-push_heads.ensures
    (adds-on f.names (end_items f.trees b behind)
    (tails f.trees behind xs) c.in_ok-push_end.ensures h)))
    c.push_tails.ensures
