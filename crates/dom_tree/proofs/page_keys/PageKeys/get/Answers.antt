use Rattle.dom_base.proofs.Std.{◌∙◌, Some, ap, sym, arith}
use Rattle.dom_tree.proofs.PageKeyLists.{get-counted, get-behind}
use Rattle.dom_tree.proofs.page_keys.PageKeys.get.Goals as goal

pub returns-then-number-self : goal.returns-then-number-self
returns-then-number-self c = ap Some c.of.ensures
    ∙ sym (get-counted c.args.self.now.first c.args.self.now.others.items c.args.number (omega (arith, c.if-number-self.true)))

pub returns : goal.returns
returns c = c.other.ensures
    ∙ sym (get-behind c.args.self.now.first c.args.self.now.others.items c.args.number (omega (arith, c.if-number-self.false)))
