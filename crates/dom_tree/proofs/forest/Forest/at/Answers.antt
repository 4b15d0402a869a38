use Rattle.dom_base.proofs.Std.{refl}
use Rattle.dom_tree.specs.Definitions.{keys_of}
use Rattle.dom_tree.proofs.Kept.{within}
use Rattle.dom_tree.proofs.forest.Forest.at.Goals as goal

pub invariant_of-result : goal.invariant_of-result
invariant_of-result c = rw c.at-walk.ensures (record {
  seen = c.self.view_is;
  keys = keys_of c.self.inside.keys;
  kept = c.self.invariant.kept;
  node = within c.self.view_is c.self.invariant.kept c.args.key c.requires;
})

pub returns : goal.returns
returns c = rw c.at-walk.ensures refl
