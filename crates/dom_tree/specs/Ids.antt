-- Which nodes may have an ID, as a table says it by numbers of IDs: it may name too many, and never too few.
use Rattle.std.specs.Prelude.{◌≡◌, ◌≢◌, ◌⊎◌, ◌<◌, ℕ, List, codes, fold, length, slice_get, Option, Some, None, is_some, true}
use Rattle.std.specs.Option.{option_flatten, option_map}
use Rattle.std.specs.Ordering.{nat_cmp}
use Rattle.std.specs.BTreeMap.{get}
use Rattle.dom_base.specs.declared.Owner.{Owner}
use Rattle.dom_base.specs.declared.Owner.TheVariants.{Page, Component}
use Rattle.dom_base.specs.declared.NodeName.{NodeName}
use Rattle.dom_model.specs.Names.{DomString}
use Rattle.dom_model.specs.Tree.{Trees, node_in, attribute_value}
use Rattle.dom_attributes.specs.Attributes.{value_among}
use Rattle.dom_attributes.specs.Signs.{mix}
use Rattle.dom_tree.specs.Contents.{Stored}
use Rattle.dom_tree.specs.Forest.{IsKept}
use Rattle.dom_tree.specs.declared.ids.Bearer.{Bearer}
use Rattle.dom_tree.specs.declared.ids.Bearer.TheVariants.{Only, Several}
use Rattle.dom_tree.specs.declared.ids.IdTable.{IdTable}

-- a number for an owner
abbrev pub owner_code : Owner → ℕ
owner_code Page = 0
owner_code (Component path) = fold mix 1 path.parts

-- a number for an ID among an owner's nodes
unfoldable pub id_code : Owner → DomString → ℕ
id_code o id = fold mix (owner_code o) id

-- a node has an ID (DOM Standard, concept: ID)
abbrev pub HasId : Trees → NodeName → DomString → Type 0
HasId ts x id = attribute_value (node_in ts x) (codes "id") ≡ Some id

-- the number of a node's ID, if it has one (DOM Standard, concept: ID)
abbrev pub code_in : Stored → Option ℕ
code_in s = option_map (id_code s.name.owner) (value_among (codes "id") s.node.attributes)

-- whether a node may have an ID
abbrev pub MayHave : Option Bearer → ℕ → Type 0
MayHave None k = ⊥
MayHave (Some (Only j)) k = j ≡ k
MayHave (Some Several) k = Unit {0}

-- the only one that may, if any may; nothing where several may
abbrev pub only_bearer : Option Bearer → Option (Option ℕ)
only_bearer None = Some None
only_bearer (Some (Only k)) = Some (Some k)
only_bearer (Some Several) = None

-- whether a node may have an ID, where this is said of it
abbrev pub MayBear : Option (Option ℕ) → ℕ → Type 0
MayBear None k = Unit {0}
MayBear (Some None) k = ⊥
MayBear (Some (Some j)) k = j ≡ k

-- who may have the IDs, by their numbers
abbrev pub bearers_of : IdTable → ℕ → Option Bearer
bearers_of t h = option_flatten (get nat_cmp t.bearers h)

-- there is room for one number more, if one is given
abbrev pub HasRoomFor : Option ℕ → IdTable → Type 0
HasRoomFor None t = Unit {0}
HasRoomFor (Some h) t = is_some (get nat_cmp t.bearers h) ≡ true

-- who may have an ID still may, and if one alone may that was not so, it is this node
pub record Widens (f g : ℕ → Option Bearer) (k : ℕ) : Type 0 where
  pub kept : (h j : ℕ) → MayHave (f h) j → MayHave (g h) j
  pub inside : (h j : ℕ) → g h ≡ Some (Only j) → (f h ≡ Some (Only j)) ⊎ (j ≡ k)

-- who may have an ID still may, but this node that of this number
pub record Narrows (left : Option ℕ) (f g : ℕ → Option Bearer) (k : ℕ) : Type 0 where
  pub kept : (h j : ℕ) → MayHave (f h) j → (left ≡ Some h → j ≢ k) → MayHave (g h) j
  pub inside : (h j : ℕ) → g h ≡ Some (Only j) → f h ≡ Some (Only j)

-- a node is about to be stored as another: it has the same ID, or may have the new one, and has that of the number no more
pub record IsNoteOf (f : ℕ → Option Bearer) (k : ℕ) (s t : Stored) (left : Option ℕ) : Type 0 where
  pub noted : (h : ℕ) → code_in t ≡ Some h → (code_in s ≡ Some h) ⊎ MayHave (f h) k
  pub gone : (h : ℕ) → left ≡ Some h → code_in t ≢ Some h

-- whoever has an ID may have it, and if one alone may, it is a node
pub record AreNoted (f : ℕ → Option Bearer) (ps : List Stored) : Type 0 where
  pub covered : (k h : ℕ) (s : Stored) → slice_get ps k ≡ Some s → code_in s ≡ Some h → MayHave (f h) k
  pub inside : (h k : ℕ) → f h ≡ Some (Only k) → k < length ps

-- what holds of a forest: of the nodes, their lists and the keys of each owner, and of who may have IDs
pub record IsKeptWithIds (ps : List Stored) (lists : List (List ℕ)) (keys : Owner → List ℕ) (f : ℕ → Option Bearer) : Type 0 where
  pub kept : IsKept ps lists keys
  pub ids : AreNoted f ps
