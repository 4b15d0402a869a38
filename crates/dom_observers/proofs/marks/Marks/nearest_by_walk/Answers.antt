use Rattle.dom_base.proofs.Std.{◌∷◌, refl, sym, ap, ◌∙◌, subst, same_Some, filter, cond-false, ◌≡◌, true}
use Rattle.dom_observers.specs.Definitions.{keys_from, is_marked}
use Rattle.dom_observers.proofs.Ascending.{climbs, climbs-fewer}
use Rattle.dom_observers.proofs.Watching.{none_near}
use Rattle.dom_observers.proofs.marks.Marks.nearest_by_walk.Goals as goal

pub loop-at-init : goal.loop-at-init
loop-at-init c = record { node = c.requires; others = refl }

pub loop-at-smaller : goal.loop-at-smaller
loop-at-smaller c =
    let e = c.law_nodes_stand_once.ensures in
    climbs-fewer c.args.forest.now e.once e.only e.distinct c.parent-at.result c.in-Some.is (c.loop-at.invariant.node c.in-Some.node c.in-Some.is)
    c.parent-at.ensures.value

pub loop-at-preserved : goal.loop-at-preserved
loop-at-preserved c =
    let f = c.args.forest.now in
    let e = c.law_nodes_stand_once.ensures in
    let marked = is_marked c.args.self.now in
    let node = c.in-Some.node in
    let is_node = c.loop-at.invariant.node node c.in-Some.is in
    let above = filter marked (keys_from f c.parent-at.result) in
    record {
      node = c.parent-at.ensures.node;
      others =
          c.loop-at.invariant.others
          ∙ (ap (λ o. filter marked (keys_from f o)) c.in-Some.is
          ∙ (ap (filter marked) (climbs f e.once e.only e.distinct node c.parent-at.result is_node c.parent-at.ensures.value)
          ∙ cond-false (marked node) (node ∷ above) above (sym c.contains.ensures ∙ c.if-contains.false)));
    }

pub returns-then-contains : goal.returns-then-contains
returns-then-contains c =
    let f = c.args.forest.now in
    let marked = is_marked c.args.self.now in
    let node = c.in-Some.node in
    record {
      node = λ k e. c.loop-at.invariant.node k (c.in-Some.is ∙ e);
      marked = λ k e. subst (λ j. marked j ≡ true) (same_Some node k e) (sym c.contains.ensures ∙ c.if-contains.true);
      others = c.loop-at.invariant.others ∙ ap (λ o. filter marked (keys_from f o)) c.in-Some.is;
    }

pub returns : goal.returns
returns c = none_near (c.loop-at.invariant.others ∙ ap (λ o. filter (is_marked c.args.self.now) (keys_from c.args.forest.now o)) c.in_default.is)
