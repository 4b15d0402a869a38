use Rattle.dom_path.proofs.Cited.{◌≡◌, ◌||◌, not, true, sym, ◌∙◌, nat_eq, or_right, or_left}
use Rattle.dom_path.proofs.Steps.{up-host}
use Rattle.dom_path.proofs.path_node.PathNode.above.Goals.{then-composed-via-then-composed, then-composed-via-else-composed+then-ne}
use Rattle.dom_path.proofs.path_node.PathNode.above.Goals as goal

pub returns-then-composed-clause-value : goal.returns-then-composed-clause-value
returns-then-composed-clause-value c =
    let opened : (c.args.composed || not (nat_eq c.args.self.now.node c.args.top)) ≡ true = elim c.then-composed.branch [
      | then-composed-via-then-composed w ↦ or_left c.args.composed _ w.if-composed.true
      | then-composed-via-else-composed+then-ne w ↦ or_right c.args.composed _ (sym w.if-ne.ensures)
    ] in
    c.outside.ensures.value
    ∙ up-host c.args.forest.now c.args.slots.now.hosts c.law_nodes_stand_once.ensures.distinct c.args.composed c.args.top c.args.trees.now
    c.args.self.now c.requires.stands c.requires.top_is_node c.if-self.true opened
