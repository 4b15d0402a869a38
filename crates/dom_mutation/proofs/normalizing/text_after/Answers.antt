use Rattle.dom_mutation.proofs.Cited.{true, false, refl, ap, ◌∙◌, sym, kind_of, is_text, part_of, name_in, trees_in}
use Rattle.dom_mutation.proofs.Joined.{text_next}
use Rattle.dom_mutation.proofs.normalizing.text_after.Goals as goal

pub returns-then-is_text-clause-value : goal.returns-then-is_text-clause-value
returns-then-is_text-clause-value c =
    let d = c.args.parts.now in
    let y = name_in d c.in_ok-next.next in
    text_next (trees_in d c.args.node) (name_in d c.args.node) y true (sym c.in_ok-next.ensures.value)
    (ap (λ o. is_text (kind_of (part_of d.world o).trees y)) (sym (c.in_ok-next.ensures.owner c.in_ok-next.next refl)) ∙ sym c.is_text.ensures ∙
    c.if-is_text.true)

pub returns-clause-value : goal.returns-clause-value
returns-clause-value c =
    let d = c.args.parts.now in
    let y = name_in d c.in_ok-next.next in
    text_next (trees_in d c.args.node) (name_in d c.args.node) y false (sym c.in_ok-next.ensures.value)
    (ap (λ o. is_text (kind_of (part_of d.world o).trees y)) (sym (c.in_ok-next.ensures.owner c.in_ok-next.next refl)) ∙ sym c.is_text.ensures ∙
    c.if-is_text.false)
