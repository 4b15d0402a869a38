use Rattle.dom_base.proofs.Std.{◌∙◌, ◌+◌, ap, sym, length, List, ℕ}
use Rattle.dom_tree.proofs.PageKeyLists.{length-counted}
use Rattle.dom_tree.proofs.page_keys.PageKeys.len.Goals as goal

pub returns : goal.returns
returns c = ap (λ (keys : List ℕ). c.args.self.now.first + length keys) c.as_slice.ensures.value
    ∙ sym (length-counted c.args.self.now.first c.args.self.now.others.items)
