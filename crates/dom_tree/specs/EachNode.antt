-- A change made of one node after another is that change of all of them.
use Rattle.std.specs.Prelude.{◌≡◌, ◌++◌, ◌∷◌, [], List, if◌then◌else◌}
use Rattle.dom_base.specs.declared.NodeName.{NodeName}
use Rattle.dom_model.specs.Names.{name_eq, is_in}
use Rattle.dom_model.specs.Tree.{Trees, Node}
use Rattle.dom_model.specs.TreeChanges.{map_nodes, change_node}

-- f of each node among these names
abbrev pub change_each : (Node → Node) → List NodeName → Trees → Trees
change_each f xs ts = map_nodes (λ n. if is_in name_eq n.name xs then f n else n) ts

-- where f keeps names and does no more when done twice, one name more is one change of a node more; of all inclusive
-- descendants of a node, it is the change of its subtree
abbrev pub EachNodeLaw : Type 0
EachNodeLaw = (f : Node → Node) → ((n : Node) → (f n).name ≡ n.name) → ((n : Node) → f (f n) ≡ f n) → (xs : List NodeName) (x : NodeName) (ts : Trees)
    → change_node f x (change_each f xs ts) ≡ change_each f (xs ++ x ∷ []) ts
