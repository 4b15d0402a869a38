-- How the nodes of an arena and their lists of children stand for trees.
use Rattle.std.specs.Prelude.{ℕ, zero, suc, Bool, List, [], ◌∷◌, filter, length, slice_index_or, is_none, if◌then◌else◌}
use Rattle.std.specs.List.{range_with_len}
use Rattle.dom_base.specs.declared.Owner.TheVariants.{Page}
use Rattle.dom_model.specs.Names.{name_before, node_of}
use Rattle.dom_model.specs.Tree.{Trees, none, tree, Node, no_node}
use Rattle.node_arena.specs.Nodes.{children_of, parent_of}

-- the node of a key
abbrev pub node_at : List Node → ℕ → Node
node_at nodes k = slice_index_or nodes k (no_node (node_of Page 0))

-- a list of trees, given by the nodes of its roots and what is below each
abbrev pub row : (ℕ → Node) → (ℕ → Trees) → List ℕ → Trees
row node below [] = none
row node below (k ∷ ks) = tree (node k) (below k) (row node below ks)

-- the trees below a node, at most so many levels deep
abbrev pub below_within : ℕ → List Node → List (List ℕ) → ℕ → Trees
below_within zero nodes lists k = none
below_within (suc n) nodes lists k = row (node_at nodes) (below_within n nodes lists) (children_of lists k)

-- the trees with these roots
unfoldable pub trees_on : List Node → List (List ℕ) → List ℕ → Trees
trees_on nodes lists ks = row (node_at nodes) (below_within (length lists) nodes lists) ks

-- keys in the order of their nodes' names
abbrev pub put_key : List Node → ℕ → List ℕ → List ℕ
put_key nodes c [] = c ∷ []
put_key nodes c (k ∷ ks) =
    if name_before (node_at nodes c).name (node_at nodes k).name then c ∷ k ∷ ks else k ∷ put_key nodes c ks

-- keys put in the order of their nodes' names
abbrev pub in_order : List Node → List ℕ → List ℕ
in_order nodes [] = []
in_order nodes (k ∷ ks) = put_key nodes k (in_order nodes ks)

-- the roots
abbrev pub is_root : List (List ℕ) → ℕ → Bool
is_root lists k = is_none (parent_of lists k)

-- the roots, in the order of their names
abbrev pub root_keys : List Node → List (List ℕ) → List ℕ
root_keys nodes lists = in_order nodes (filter (is_root lists) (range_with_len 0 (length lists)))

-- all trees, in the order of their roots' names
abbrev pub trees_of : List Node → List (List ℕ) → Trees
trees_of nodes lists = trees_on nodes lists (root_keys nodes lists)
