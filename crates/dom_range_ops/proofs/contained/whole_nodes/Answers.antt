use Rattle.dom_range_ops.proofs.Cited.{◌≡◌, ◌+◌, ◌∷◌, ◌++◌, [], take, get_or, sym, ap, ◌∙◌, option_to_list, append-nil, take_more, whole_keys, take_all}
use Rattle.dom_range_ops.proofs.OutermostPieces.{keys-append}
use Rattle.dom_range_ops.proofs.contained.whole_nodes.Goals.{in-Some+in_ok-push, in_default}
use Rattle.dom_range_ops.proofs.contained.whole_nodes.Goals as goal

pub loop-piece-preserved : goal.loop-piece-preserved
loop-piece-preserved c =
    let i = c.loop-piece.piece-index in
    let all = c.args.pieces.now in
    let old = c.loop-piece.keys.items in
    let one = c.piece-item.result in
    let grown : whole_keys (take (i + 1) all) ≡ old ++ option_to_list c.whole_node.result =
    ap whole_keys (take_more all i one c.loop-piece-test.true) ∙ keys-append (take i all) (get_or all i one ∷ [])
    ∙ ap (λ ks. ks ++ whole_keys (get_or all i one ∷ [])) (sym c.loop-piece.invariant)
    ∙ ap (λ p. old ++ whole_keys (p ∷ [])) (sym c.piece-item.is) ∙ ap (λ ks. old ++ ks) c.whole_node.ensures in
    elim c.match-whole_node.branch [
      | in-Some+in_ok-push w ↦ ap (λ v. v.items) w.keys-is ∙ w.in_ok-push.ensures.items ∙ ap (λ o. old ++ option_to_list o) (sym w.in-Some.is) ∙ sym grown
      | in_default w ↦ ap (λ v. v.items) w.keys-is ∙ sym (append-nil old) ∙ ap (λ o. old ++ option_to_list o) (sym w.in_default.is) ∙ sym grown
    ]

pub returns : goal.returns
returns c = c.loop-piece.invariant ∙ ap whole_keys (take_all c.loop-piece.piece-index c.args.pieces.now c.loop-piece-test.false)
