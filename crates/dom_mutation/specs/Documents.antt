-- Node documents of whole trees, and the shadow trees in a tree.
use Rattle.std.specs.Prelude.{ℕ, zero, suc, List, [], ◌∷◌, filter_map, flat_map}
use Rattle.dom_base.specs.declared.NodeName.{NodeName}
use Rattle.dom_model.specs.Tree.{Trees, inclusive_descendants}
use Rattle.dom_model.specs.TreeChanges.{change_subtree, with_document}
use Rattle.dom_slots.specs.Hosts.{ShadowHost, root_named}
use Rattle.dom_tree.specs.Forest.{NamedTrees}

-- the trees where a node and all below it get a node document (DOM Standard, concept: node document)
abbrev pub under_each : NodeName → Trees → NodeName → Trees
under_each d ts x = change_subtree (with_document d) x ts

-- the shadow roots of the hosts in the tree of a node, in tree order, behind each those in its own shadow tree, and so on, so
-- many shadow trees deep (DOM Standard, concept: shadow-including inclusive descendant)
abbrev pub roots_within : ℕ → NamedTrees → List ShadowHost → NodeName → List NodeName
roots_within zero f hosts x = []
roots_within (suc depth) f hosts x =
    flat_map (λ r. r ∷ roots_within depth f hosts r) (filter_map (root_named f.names hosts) (inclusive_descendants f.trees x))
