use Rattle.dom_base.proofs.Std.{ap, ◌∙◌, nat_lt}
use Rattle.dom_model.proofs.Model.{is_fragment}
use Rattle.dom_tree.proofs.Placing.{breaks-many, breaks-one, breaks-no}
use Rattle.dom_tree.proofs.forest.Forest.breaks_document.Goals as goal

pub returns-then-elements-gt1 : goal.returns-then-elements-gt1
returns-then-elements-gt1 c = breaks-many c.args.self.now c.args.parent c.args.node c.args.replaced c.element_count-elements.result
    (c.if-not-is_fragment.ensures ∙ ap is_fragment c.kind.ensures) c.if-has_text.ensures c.element_count-elements.ensures c.if-elements-gt1.true

pub returns-then-elements-eq1 : goal.returns-then-elements-eq1
returns-then-elements-eq1 c = ap (nat_lt 0) c.element_count-then-elements-eq1.ensures ∙ breaks-one c.args.self.now c.args.parent c.args.node
    c.args.replaced c.element_count-elements.result (c.if-not-is_fragment.ensures ∙ ap is_fragment c.kind.ensures) c.if-has_text.ensures
    c.element_count-elements.ensures c.if-elements-gt1.false c.if-elements-eq1.true

pub returns-else-elements-eq1 : goal.returns-else-elements-eq1
returns-else-elements-eq1 c = breaks-no c.args.self.now c.args.parent c.args.node c.args.replaced c.element_count-elements.result
    (c.if-not-is_fragment.ensures ∙ ap is_fragment c.kind.ensures) c.if-has_text.ensures c.element_count-elements.ensures c.if-elements-gt1.false
    c.if-elements-eq1.false
