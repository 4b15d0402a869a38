use Rattle.dom_range_ops.proofs.Cited.{refl, sym, ◌∙◌, plan_of_range, both_at, deleting, at, set_range, name_in, ready-planned, stands-then, ready-deleting, ℕ}
use Rattle.dom_mutation.specs.Definitions.{stepped}
use Rattle.dom_range_ops.proofs.DeletionPlans.{deletion-done, deletion-there, deletion-owner}
use Rattle.dom_range_ops.proofs.InsertedRanges.{range-there}
use Rattle.dom_range_ops.proofs.deleting.delete.Goals as goal

pub range_put-requires-clause-there : goal.range_put-requires-clause-there
range_put-requires-clause-there c =
    let here = c.live_points-points.ensures in
    deletion-there c.args.doc.now c.args.owner c.args.number c.live_points-points.result here (c.laws.ensures.alone _ here.range.start)
    c.delete_contents.new.doc c.in_ok-delete_contents.ensures c.requires.there

pub range_put-requires-clause-own_start : goal.range_put-requires-clause-own_start
range_put-requires-clause-own_start c =
    let here = c.live_points-points.ensures in
    deletion-owner c.args.doc.now c.args.owner c.args.number c.live_points-points.result here (c.laws.ensures.alone _ here.range.start)
    c.delete_contents.new.doc c.in_ok-delete_contents.ensures c.in_ok-node.node c.in_ok-node.ensures.owner

pub range_put-requires-clause-own_end : goal.range_put-requires-clause-own_end
range_put-requires-clause-own_end c = range_put-requires-clause-own_start c

pub range_put-requires-clause-may_stand : goal.range_put-requires-clause-may_stand
range_put-requires-clause-may_stand c =
    let d = c.args.doc.now in
    let here = c.live_points-points.ensures in
    let n = c.args.number in
    let place : ℕ × ℕ = (c.in_ok-node.node, c.in_ok-node.offset) in
    let both = both_at (at (name_in c.delete_contents.new.doc place.0) place.1) in
    stands-then c.delete_contents.new.doc c.args.owner n both (range_put-requires-clause-there c)
    (ready-planned d c.live_points-points.result.start.0 c.args.owner (λ p. plan_of_range p n (deleting n))
    (stepped c.args.owner (set_range n both) c.delete_contents.new.doc).world
    (record { alone = c.laws.ensures.alone; parts = c.laws.ensures.parts; stand = c.laws.ensures.stand }) here.range.start here.owner
    (deletion-done d c.args.owner n c.live_points-points.result here (c.laws.ensures.alone _ here.range.start)
    c.delete_contents.new.doc c.in_ok-delete_contents.ensures place
    (sym (c.is_collapsed.ensures d.names (c.laws.ensures.distinct _ _ here.range.start here.range.end)) ∙ c.if-is_collapsed.false)
    c.in_ok-node.ensures.value refl) c.laws.ensures.ready (λ i r. ready-deleting _ i r n))

pub returns-clause-world : goal.returns-clause-world
returns-clause-world c =
    let d = c.args.doc.now in
    let here = c.live_points-points.ensures in
    deletion-done d c.args.owner c.args.number c.live_points-points.result here (c.laws.ensures.alone _ here.range.start)
    c.delete_contents.new.doc c.in_ok-delete_contents.ensures (c.in_ok-node.node, c.in_ok-node.offset)
    (sym (c.is_collapsed.ensures d.names (c.laws.ensures.distinct _ _ here.range.start here.range.end)) ∙ c.if-is_collapsed.false)
    c.in_ok-node.ensures.value c.range_put.ensures.state

pub returns-clause-there : goal.returns-clause-there
returns-clause-there c =
    let here = c.live_points-points.ensures in
    let n = c.args.number in
    range-there c.args.doc.now c.live_points-points.result.start.0 c.args.owner (λ p. plan_of_range p n (deleting n)) c.range_put.new.self.world
    (record { alone = c.laws.ensures.alone; parts = c.laws.ensures.parts; stand = c.laws.ensures.stand }) here.range.start here.owner
    (returns-clause-world c) (ready-deleting _ (c.laws.ensures.parts c.args.owner) (c.laws.ensures.ready c.args.owner) n) n c.requires.there
