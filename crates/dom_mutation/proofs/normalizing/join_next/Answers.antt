use Rattle.dom_mutation.proofs.Cited.{◌≡◌, [], ◌∷◌, map, ap, sym, ◌∙◌, eqb-true, false_from_ne_true, first_of, contiguous_texts_after, option_map}
use Rattle.dom_mutation.proofs.Cited.{on_ok_weaker, part_of, name_in, owner_in, trees_in}
use Rattle.dom_mutation.proofs.Joined.{normal_joined, only_rest}
use Rattle.dom_mutation.proofs.Placed.{once_in}
use Rattle.dom_mutation.proofs.normalizing.join_next.Goals.{In_default-text_after}
use Rattle.dom_mutation.proofs.normalizing.join_next.Goals as goal

-- no Text is behind the next one
only : (c : In_default-text_after) → name_in c.args.parts.now c.args.next ∷ [] ≡ contiguous_texts_after (trees_in c.args.parts.now c.args.node)
    (name_in c.args.parts.now c.args.node)
only c =
    let d = c.args.parts.now in
    let y = name_in d c.args.next in
    only_rest (trees_in d c.args.node) (once_in d c.laws.ensures.once (owner_in d c.args.node)) (name_in d c.args.node) y c.requires.is_next
    (ap (option_map (name_in d)) (sym c.in_default-text_after.is) ∙ c.text_after.ensures.value ∙
    ap (λ o. first_of (contiguous_texts_after (part_of d.world o).trees y)) c.requires.next_is_node.1)

pub joining-requires-clause-are_nexts : goal.joining-requires-clause-are_nexts
joining-requires-clause-are_nexts c = only (goal.at.joining-requires-clause-are_nexts c).In_default-text_after

pub returns-in_default-text_after : goal.returns-in_default-text_after
returns-in_default-text_after c =
    on_ok_weaker c.joining.result (λ is. normal_joined c.args.parts.now c.args.node (c.args.next ∷ [])
    (false_from_ne_true _ (λ h. c.requires.has_data (eqb-true _ 0 h))) (sym c.in-Some.ensures.value)
    (only (goal.at.returns-in_default-text_after c).In_default-text_after) c.requires.is_next is) c.joining.ensures

pub returns : goal.returns
returns c =
    on_ok_weaker c.joining-2.result (λ is. normal_joined c.args.parts.now c.args.node c.as_slice.result.now
    (false_from_ne_true _ (λ h. c.requires.has_data (eqb-true _ 0 h))) (sym c.in-Some.ensures.value)
    (ap (map (name_in c.args.parts.now)) c.as_slice.ensures.value ∙ c.in_ok-nexts.ensures.names) c.requires.is_next is) c.joining-2.ensures
