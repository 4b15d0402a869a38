use Rattle.dom_range_ops.proofs.Cited.{◌≡◌, ◌≤◌, ℕ, ◌+◌, List, [], ◌∷◌, map, take, get_or, sym, ap, ◌∙◌, arith, if◌then◌else◌, take_more, map_push, NodeName}
use Rattle.dom_range_ops.proofs.Cited.{item_in, made_by, take_all}
use Rattle.dom_range_ops.proofs.PieceSteps.{made-append}
use Rattle.dom_range_ops.proofs.pieces.count_made.Goals.{then-is_made, else-is_made}
use Rattle.dom_range_ops.proofs.pieces.count_made.Goals as goal

pub loop-piece-preserved : goal.loop-piece-preserved
loop-piece-preserved c =
    let inv = c.loop-piece.invariant in
    let i = c.loop-piece.piece-index in
    let all = c.args.pieces.now in
    let grown = λ (names : List NodeName).
    ap (λ ps. made_by (map (item_in names) ps)) (take_more all i c.piece-item.result c.loop-piece-test.true)
    ∙ (ap made_by (map_push (item_in names) (take i all) (get_or all i c.piece-item.result))
    ∙ (made-append (map (item_in names) (take i all)) (item_in names (get_or all i c.piece-item.result) ∷ [])
    ∙ (ap (λ p. made_by (map (item_in names) (take i all)) + made_by (item_in names p ∷ [])) (sym c.piece-item.is)
    ∙ ap (λ n. made_by (map (item_in names) (take i all)) + n) (c.is_made.ensures names)))) in
    let step : (c.if-is_made.count ≡ c.loop-piece.count + (if c.is_made.result then 1 else 0)) × (c.if-is_made.count ≤ c.loop-piece.count + 1) =
    elim c.if-is_made.branch [
      | then-is_made w ↦
          let one = w.count-is in
          let yes = ap {B = ℕ} (λ b. if b then 1 else 0) w.if-is_made.true in
          (omega (arith, one, yes), omega (arith, one))
      | else-is_made w ↦
          let one = w.count-is in
          let no = ap {B = ℕ} (λ b. if b then 1 else 0) w.if-is_made.false in
          (omega (arith, one, no), omega (arith, one))
    ] in
    let more = step.0 in
    let most = step.1 in
    let few = inv.few in
    record {
      few = omega (arith, most, few);
      value = λ names. let g = grown names in let v = inv.value names in omega (arith, g, v, more);
    }

pub returns : goal.returns
returns c names = c.loop-piece.invariant.value names ∙ ap (λ ps. made_by (map (item_in names) ps))
    (take_all c.loop-piece.piece-index c.args.pieces.now c.loop-piece-test.false)
