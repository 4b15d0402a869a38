-- Which slots may have a name in the tree of a shadow root, as a table says it by numbers of names: it may name too many, and never
-- too few.
use Rattle.std.specs.Prelude.{◌≡◌, ℕ, ◌<◌, true, List, fold, length, Option, Some, None}
use Rattle.std.specs.BTreeMap.{is_at}
use Rattle.std.specs.Map.{lookup}
use Rattle.std.specs.Ordering.{nat_cmp}
use Rattle.dom_model.specs.Names.{DomString}
use Rattle.dom_model.specs.Slots.{is_slot_element, slot_name}
use Rattle.dom_model.specs.Tree.{node_in, root_of}
use Rattle.dom_attributes.specs.Signs.{mix}
use Rattle.dom_tree.specs.Forest.{NamedTrees, name_at}
use Rattle.dom_slots.specs.Hosts.{ShadowHost, host_of_root}
use Rattle.dom_slots.specs.declared.index.Bearer.{Bearer}
use Rattle.dom_slots.specs.declared.index.Bearer.TheVariants.{Only, Several}

-- who may have names, by their numbers
abbrev pub Bearers : Type 0
Bearers = List (ℕ × Bearer)

abbrev pub bearer_at : Bearers → ℕ → Option Bearer
bearer_at index h = lookup (is_at (nat_cmp h)) index

-- a number for a name in the tree of a root
unfoldable pub name_code : ℕ → DomString → ℕ
name_code root name = fold mix root name

-- whether a node may have a name
abbrev pub MayHave : Option Bearer → ℕ → Type 0
MayHave None k = ⊥
MayHave (Some (Only j)) k = j ≡ k
MayHave (Some Several) k = Unit {0}

-- who is a slot in the tree of a shadow root may have its name there, and if one alone may, it is a node
pub record AreIndexed (f : NamedTrees) (hosts : List ShadowHost) (index : Bearers) : Type 0 where
  pub covered : (r k h : ℕ) → r < length f.names → k < length f.names → host_of_root hosts r ≡ Some h →
      root_of f.trees (name_at f.names k) ≡ name_at f.names r → is_slot_element (node_in f.trees (name_at f.names k)) ≡ true →
      MayHave (bearer_at index (name_code r (slot_name (node_in f.trees (name_at f.names k))))) k
  pub inside : (h k : ℕ) → bearer_at index h ≡ Some (Only k) → k < length f.names
