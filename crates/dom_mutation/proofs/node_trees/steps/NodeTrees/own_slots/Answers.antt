use Rattle.dom_base.proofs.Std.{◌≡◌, ◌++◌, ◌∷◌, [], refl, arith, common_steps}
use Rattle.dom_mutation.proofs.NamesByKey.{own_key, one_more}
use Rattle.dom_mutation.proofs.node_trees.steps.NodeTrees.own_slots.Goals as goal

pub unreachable-requires : goal.unreachable-requires
unreachable-requires c =
    let key = own_key c.args.self.now.forest.names c.args.owner c.of-number-items.result.now c.loop-number.number-index 0 c.loop-number-test.true
    c.args.self.now.signalled c.requires c.of-number-items.ensures in
    c.in_default.not-Some key.0 (c.find.ensures.kept key.0 key.1)

pub loop-number-preserved : goal.loop-number-preserved
loop-number-preserved c =
    let pushed : c.push.new.self.items ≡ c.loop-number.keys.items ++ c.in-Some.key ∷ [] = grind (arith, common_steps) in
    one_more c.args.self.now.forest.names c.args.owner c.of-number-items.result.now c.loop-number.number-index 0 c.loop-number-test.true
    c.loop-number.keys.items c.in-Some.key (c.in-Some.ensures.found c.in-Some.key refl) (c.in-Some.ensures.node c.in-Some.key refl)
    c.loop-number.invariant pushed
