use Rattle.dom_mutation.proofs.JoinedEach.{joins_first, joins_on}
use Rattle.dom_mutation.proofs.RangedStates.{joins_vacant}
use Rattle.dom_mutation.proofs.parts.Parts.join_each.Goals as goal

pub returns-then-is_empty : goal.returns-then-is_empty
returns-then-is_empty c =
    joins_vacant c.self.inside.trees.forest c.self.invariant c.self.view_is c.law_nodes_stand_once.ensures.distinct (c.is_empty.ensures.0 c.if-is_empty.true)
    c.args.first c.args.parent c.requires.first_is_node c.requires.parent_is_node c.requires.parent_owner c.args.size c.args.nexts.now
    c.requires.nexts_are_nodes

pub loop-next-init : goal.loop-next-init
loop-next-init c = joins_first c.args.first c.args.parent c.args.nexts.now c.args.size c.args.self.now
    (c.laws.ensures.alone c.args.first c.requires.first_is_node) (c.laws.ensures.parts _) c.requires.bounds c.requires.fit

pub loop-next-preserved : goal.loop-next-preserved
loop-next-preserved c =
    joins_on c.args.first c.args.parent c.args.nexts.now c.args.size c.args.self.now c.loop-next.next-index c.next-item.result c.loop-next.length
    c.loop-next.self c.join_at-length.new.self
    c.loop-next-test.true c.next-item.is c.loop-next.invariant c.requires.nexts_are_nodes c.join_at-length.result c.join_at-length.ensures.joined
    c.join_at-length.ensures.state
