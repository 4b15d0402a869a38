use Rattle.dom_base.proofs.Std.{subst, sym}
use Rattle.node_arena.specs.Nodes.{Nodes}
use Rattle.dom_tree.specs.Definitions.{Stored, keys_of}
use Rattle.dom_tree.specs.Ids.{bearers_of, IsKeptWithIds}
use Rattle.dom_tree.proofs.forest.Forest.remember_ancestor.Goals as goal

pub invariant_of-self : goal.invariant_of-self
invariant_of-self c =
    subst (λ (a : Nodes Stored). IsKeptWithIds a.payloads a.children (keys_of c.self.inside.keys) (bearers_of c.self.inside.ids))
    (sym c.remember_ancestor.ensures) c.self.invariant
