use Rattle.dom_traversal.proofs.Cited.{sym, ap, ◌∙◌, first_of, filter_of}
use Rattle.dom_traversal.proofs.Aside.{follows_child, behind_leaf}
use Rattle.dom_traversal.proofs.filter.Filter.onward.Goals as goal

pub returns-then-is_some : goal.returns-then-is_some
returns-then-is_some c =
    let found = follows_child c.args.forest.now c.law_nodes_stand_once.ensures.once c.law_nodes_stand_once.ensures.only (filter_of c.args.self.now)
    c.args.top c.args.key c.requires.below c.requires.skipped c.first-child.result c.first-child.ensures.value c.first-child.ensures.node
    (sym c.if-is_some.ensures) in
    record { value = found.value; below = found.below; stop = found.stop }

pub returns-clause-value : goal.returns-clause-value
returns-clause-value c =
    c.beside.ensures.value
    ∙ ap first_of (sym (behind_leaf c.args.forest.now c.law_nodes_stand_once.ensures.once c.law_nodes_stand_once.ensures.only (filter_of c.args.self.now)
    c.args.top c.args.key c.requires.below c.first-child.result c.first-child.ensures.value (sym c.if-is_some.ensures)))
