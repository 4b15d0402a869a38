-- The trees from that of a node outward.
use Rattle.std.specs.Prelude.{◌≡◌, List, [], ◌∷◌, Option, Some, option_map}
use Rattle.dom_base.specs.declared.NodeName.{NodeName}
use Rattle.dom_model.specs.Tree.{root_of}
use Rattle.dom_tree.specs.Forest.{NamedTrees, name_at}
use Rattle.dom_slots.specs.Hosts.{ShadowHost, host_named}
use Rattle.dom_path.specs.declared.trees.Tree.{Tree}
use Rattle.dom_path.specs.PathNodes.{HasTreeNodes}

module _ (f : NamedTrees) (hosts : List ShadowHost) where
  -- a tree with its host is that of a node
  pub record IsAround (x : NodeName) (t : Tree) : Type 0 where
    pub nodes : HasTreeNodes f t
    pub root : name_at f.names t.root ≡ root_of f.trees x
    pub host : option_map (name_at f.names) t.host ≡ host_named f.names hosts (name_at f.names t.root)

  -- the first tree is that of a node if there is one, each other that of the host before it, and these are the last one's host
  abbrev pub GoesOut : Option NodeName → List Tree → Option NodeName → Type 0
  GoesOut from [] to = from ≡ to
  GoesOut from (t ∷ trees) to = (x : NodeName) × (from ≡ Some x) × IsAround x t × GoesOut (option_map (name_at f.names) t.host) trees to
