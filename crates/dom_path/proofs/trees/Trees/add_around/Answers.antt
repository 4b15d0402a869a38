use Rattle.dom_path.proofs.Cited.{◌++◌, None, sym, ap, ◌∙◌, arith, true≢false, is_some, option_to_list}
use Rattle.dom_path.proofs.Goings.{outside-nested, outside-more, outside-last}
use Rattle.dom_path.proofs.Nesting.{grows-none}
use Rattle.dom_path.proofs.trees.Trees.add_around.Goals as goal

pub loop-tree-init : goal.loop-tree-init
loop-tree-init c = record {
  to = None;
  way = c.in_ok-around.ensures;
  grown = grows-none c.args.self.now;
  are = c.requires.trees;
  within = omega arith;
  there = λ y e. cc;
}

pub push-requires : goal.push-requires
push-requires c =
    let split = c.pop.ensures.items ∙ ap (λ o. c.pop.new.self.items ++ option_to_list o) c.in-Some.is in
    record {
      nested = outside-nested c.args.forest.now c.args.slots.now.hosts c.pop.new.self.items
          c.in-Some.tree c.loop-tree.invariant split;
    }

pub loop-tree-preserved : goal.loop-tree-preserved
loop-tree-preserved c =
    let split = c.pop.ensures.items ∙ ap (λ o. c.pop.new.self.items ++ option_to_list o) c.in-Some.is in
    outside-more c.args.forest.now c.args.slots.now.hosts
    c.pop.new.self.items
    c.in-Some.tree c.loop-tree.invariant split c.in_ok-outer.ensures.trees
    c.in_ok-outer.ensures.place

pub returns-clause-within : goal.returns-clause-within
returns-clause-within c =
    (outside-last c.args.forest.now c.args.slots.now.hosts c.loop-tree.around.items
    c.loop-tree.invariant
    (λ h. true≢false (sym (c.pop.ensures.variant.1 h) ∙ ap is_some c.in_default.is))).0
