use Rattle.dom_base.proofs.Std.{◌∙◌, ◌++◌, ap, range_with_len}
use Rattle.dom_tree.proofs.PageKeyLists.{counted-more}
use Rattle.dom_tree.proofs.page_keys.PageKeys.push.Goals as goal

pub returns-in-Some : goal.returns-in-Some
returns-in-Some c = ap (λ n. range_with_len 0 n ++ c.args.self.now.others.items) c.in-Some.ensures.count
    ∙ counted-more c.args.self.now.first c.args.self.now.others.items c.args.key c.in-Some.ensures.others c.in-Some.ensures.number
