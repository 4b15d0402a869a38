use Rattle.dom_mutation.proofs.Cited.{on_ok_weaker, name_in}
use Rattle.dom_mutation.proofs.Placed.{asked_unlinked, asked_not_above, asked_before_node, asked_child, kept_placed}
use Rattle.dom_mutation.proofs.inserting.placing.Goals as goal

pub place-requires-clause-unlinked : goal.place-requires-clause-unlinked
place-requires-clause-unlinked c = asked_unlinked c.args.parts.now c.adopting.new.parts c.laws.ensures.once c.args.parent c.args.node
    c.args.before c.requires.may_move c.requires.before_is_child c.laws.ensures.alone c.requires.parent_is_node
    (name_in c.args.parts.now c.document_below-document.result) c.in_ok-adopting.ensures

pub place-requires-clause-not_above : goal.place-requires-clause-not_above
place-requires-clause-not_above c = asked_not_above c.args.parts.now c.adopting.new.parts c.laws.ensures.once c.args.parent c.args.node
    c.args.before c.requires.may_move c.requires.before_is_child c.laws.ensures.alone c.requires.parent_is_node
    (name_in c.args.parts.now c.document_below-document.result) c.in_ok-adopting.ensures

pub place-requires-clause-before_is_node : goal.place-requires-clause-before_is_node
place-requires-clause-before_is_node c =
    asked_before_node c.args.parts.now c.adopting.new.parts c.laws.ensures.once c.args.parent c.args.node c.args.before c.requires.may_move
    c.requires.before_is_child c.laws.ensures.alone c.requires.parent_is_node (name_in c.args.parts.now c.document_below-document.result)
    c.in_ok-adopting.ensures

pub place-requires-clause-before_is_child : goal.place-requires-clause-before_is_child
place-requires-clause-before_is_child c =
    asked_child c.args.parts.now c.adopting.new.parts c.laws.ensures.once c.args.parent c.args.node c.args.before c.requires.may_move
    c.requires.before_is_child c.laws.ensures.alone c.requires.parent_is_node (name_in c.args.parts.now c.document_below-document.result)
    c.in_ok-adopting.ensures

pub returns-clause-paths : goal.returns-clause-paths
returns-clause-paths c = on_ok_weaker c.place.result
    (kept_placed c.args.parts.now c.adopting.new.parts c.laws.ensures.once c.args.parent c.args.node c.args.before c.requires.may_move
    c.requires.before_is_child c.laws.ensures.alone c.requires.parent_is_node (name_in c.args.parts.now c.document_below-document.result)
    c.in_ok-adopting.ensures c.laws-2.ensures.once c.place.new.self) c.place.ensures
