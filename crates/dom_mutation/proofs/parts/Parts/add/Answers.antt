use Rattle.dom_mutation.proofs.Cited.{refl, node_from, all_tables}
use Rattle.dom_mutation.proofs.HeldNodes.{AsksNode, added_held, not_added}
use Rattle.dom_mutation.proofs.Limits.{limit_held}
use Rattle.dom_mutation.proofs.parts.Parts.add.Goals as goal

asks : (c : goal.After-law_nodes_stand_once) → AsksNode c.self.inside.trees.forest c.add-added.new.self c.args.owner (λ ns x. node_from ns x c.args.node)
    c.add-added.result
asks c = record {
  own_name = λ ns x. refl;
  apart = c.law_nodes_stand_once.ensures.distinct;
  stands = record { once = c.law_nodes_stand_once.ensures.once; only = c.law_nodes_stand_once.ensures.only };
  names = c.add-added.ensures.names;
  trees = c.add-added.ensures.trees;
  limit = c.add-added.ensures.limit;
  same = c.add-added.ensures.err;
}

pub invariant_of-self : goal.invariant_of-self
invariant_of-self c = (added_held (asks c) c.self.view_is c.self.invariant c.requires.owner_is_there).0

pub returns-clause-names : goal.returns-clause-names
returns-clause-names c = (added_held (asks c) c.self.view_is c.self.invariant c.requires.owner_is_there).1.0

pub returns-clause-world : goal.returns-clause-world
returns-clause-world c = (added_held (asks c) c.self.view_is c.self.invariant c.requires.owner_is_there).1.1

pub returns-clause-limit : goal.returns-clause-limit
returns-clause-limit c = limit_held c.self.inside.trees.forest c.self.view_is c.self.invariant c.args.owner c.requires.owner_is_there
    c.add-added.ensures.limit

pub returns-clause-err : goal.returns-clause-err
returns-clause-err c =
    not_added c.self.inside.trees.forest c.add-added.new.self (all_tables c.self.inside) c.self.view_is c.add-added.result c.add-added.ensures.err
