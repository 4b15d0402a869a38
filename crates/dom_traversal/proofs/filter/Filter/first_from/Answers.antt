use Rattle.dom_traversal.proofs.Cited.{sym, ◌∙◌, accepts, following_step, left-behind, length-behind, filter_of}
use Rattle.dom_traversal.proofs.filter.Filter.first_from.Goals as goal

pub loop-at-smaller : goal.loop-at-smaller
loop-at-smaller c =
    let f = c.args.forest.now in
    let step = following_step f c.law_nodes_stand_once.ensures.once c.law_nodes_stand_once.ensures.only c.args.top c.in-Some.key c.following-at.result
    (c.loop-at.invariant.stands c.in-Some.key c.in-Some.is) c.following-at.ensures.value c.following-at.ensures.node in
    length-behind f c.args.top c.in-Some.key c.loop-at.at c.following-at.result c.in-Some.is step.0

pub loop-at-preserved : goal.loop-at-preserved
loop-at-preserved c =
    let f = c.args.forest.now in
    let step = following_step f c.law_nodes_stand_once.ensures.once c.law_nodes_stand_once.ensures.only c.args.top c.in-Some.key c.following-at.result
    (c.loop-at.invariant.stands c.in-Some.key c.in-Some.is) c.following-at.ensures.value c.following-at.ensures.node in
    record {
      stands = step.1;
      left = left-behind f c.args.top c.in-Some.key c.loop-at.at c.following-at.result c.in-Some.is step.0
          (accepts f.trees (filter_of c.args.self.now)) (sym c.if-accepts.ensures) ∙ c.loop-at.invariant.left;
    }
