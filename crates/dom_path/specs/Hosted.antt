-- What a path asks of trees with hosts, whoever owns the nodes.
use Rattle.std.specs.Prelude.{◌≡◌, ℕ, ◌≤◌, ◌<◌, false, IsTrue, List, [], ◌∷◌, Some, None, is_some, ⊤}
use Rattle.std.specs.List.{AllByRecursion}
use Rattle.dom_base.specs.declared.NodeName.{NodeName}
use Rattle.dom_model.specs.Names.{name_eq, owner_depth}
use Rattle.dom_model.specs.Tree.{parent_of}
use Rattle.dom_tree.specs.Forest.{NamedTrees, name_at}
use Rattle.dom_tree.specs.Owners.{AreOwned}
use Rattle.dom_slots.specs.Hosts.{ShadowHost, host_named, root_named}
use Rattle.dom_slots.specs.Shadows.{shadows}
use Rattle.dom_path.specs.Ways.{EndsWithin}

-- Shadow trees lie in one another, at most so deep; a host is that of its shadow root; and a shadow root has no parent.
pub record IsHosted (f : NamedTrees) (hosts : List ShadowHost) (depth : ℕ) : Type 0 where
  pub nested : (x : NodeName) → EndsWithin (shadows f hosts) depth x
  pub theirs : (host root : NodeName) → root_named f.names hosts host ≡ Some root → host_named f.names hosts root ≡ Some host
  pub roots : (root : NodeName) → IsTrue (is_some (host_named f.names hosts root)) → parent_of f.trees root ≡ None

-- A shadow root belongs to the component that is named for its host, at most so deep; the host belongs to an owner that is less
-- deep, as the one who attached the root is; and the root has no parent.
pub record IsAttached (f : NamedTrees) (depth : ℕ) (h : ShadowHost) : Type 0 where
  pub owned : (name_at f.names h.root).owner ≡ h.owner
  pub deeper : owner_depth (name_at f.names h.host).owner < owner_depth h.owner
  pub within : owner_depth h.owner ≤ depth
  pub alone : parent_of f.trees (name_at f.names h.root) ≡ None

-- no two hosts have one shadow root
abbrev pub AreApart : List NodeName → List ShadowHost → Type 0
AreApart names [] = ⊤
AreApart names (h ∷ hosts) = AllByRecursion (λ (k : ShadowHost). name_eq (name_at names k.root) (name_at names h.root) ≡ false) hosts × AreApart names hosts

-- Each tree has one owner, each host and its shadow root are such, and no two hosts have one root.
pub record AreAttached (f : NamedTrees) (hosts : List ShadowHost) (depth : ℕ) : Type 0 where
  pub owned : AreOwned f.trees
  pub each : AllByRecursion (IsAttached f depth) hosts
  pub apart : AreApart f.names hosts
