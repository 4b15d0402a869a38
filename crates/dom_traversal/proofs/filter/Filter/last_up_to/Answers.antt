use Rattle.dom_traversal.proofs.Cited.{ap, sym, ◌∙◌, filter, option_map, accepts, ahead_of, last-hit, last_of, left-ahead, length-ahead, name_at}
use Rattle.dom_traversal.proofs.Cited.{preceding_step, up_to_node, filter_of}
use Rattle.dom_traversal.proofs.filter.Filter.last_up_to.Goals as goal

pub loop-at-smaller : goal.loop-at-smaller
loop-at-smaller c =
    let f = c.args.forest.now in
    let step = preceding_step c.law_nodes_stand_once.ensures.once c.law_nodes_stand_once.ensures.only c.preceding-at.result
    (c.loop-at.invariant.stands c.in-Some.key c.in-Some.is) c.preceding-at.ensures.value c.preceding-at.ensures.node in
    length-ahead f c.args.top c.preceding-at.result c.in-Some.is step.0

pub loop-at-preserved : goal.loop-at-preserved
loop-at-preserved c =
    let f = c.args.forest.now in
    let step = preceding_step c.law_nodes_stand_once.ensures.once c.law_nodes_stand_once.ensures.only c.preceding-at.result
    (c.loop-at.invariant.stands c.in-Some.key c.in-Some.is) c.preceding-at.ensures.value c.preceding-at.ensures.node in
    record {
      stands = step.1;
      left = left-ahead f c.args.top c.preceding-at.result c.in-Some.is step.0
          (accepts f.trees (filter_of c.args.self.now)) (sym c.if-accepts.ensures) ∙ c.loop-at.invariant.left;
    }

pub returns-then-accepts-clause-value : goal.returns-then-accepts-clause-value
returns-then-accepts-clause-value c =
    let f = c.args.forest.now in
    let p = accepts f.trees (filter_of c.args.self.now) in
    let top = name_at f.names c.args.top in
    sym (last-hit p (ahead_of f.trees top (name_at f.names c.in-Some.key)) (name_at f.names c.in-Some.key) (sym c.if-accepts.ensures))
    ∙ (sym (ap (λ o. last_of (filter p (up_to_node f.trees top (option_map (name_at f.names) o)))) c.in-Some.is) ∙ c.loop-at.invariant.left)
