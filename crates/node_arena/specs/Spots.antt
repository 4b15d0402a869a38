-- What is looked at, in something that is seen whole: a cell of a store, or a node of an arena.
use Rattle.std.specs.Prelude.{ℕ, ◌<◌, List, length, Option, refl}
use Rattle.std.specs.Option.{option_map}
use Rattle.std.specs.Coded.{Coded, code_by, coded×, coded_ℕ}
use Rattle.node_arena.specs.declared.cell.Link.{Link}
use Rattle.node_arena.specs.declared.cell.Link.TheVariants.{Parent, First, Next, Prev, Back}
use Rattle.node_arena.specs.Links.{Cells}
use Rattle.node_arena.specs.Cells.{back_of, IsLinked}
use Rattle.node_arena.specs.Nodes.{children_of, parent_of, next_of, prev_of, head_of}

-- what is seen whole, and the key of what is looked at
pub record Spot (X : Type 0) : Type 0 where
  pub whole : X
  pub key : ℕ

-- a spot is stored as a pair
abbrev pub spot_code : {X : Type 0} → Coded X → Coded (Spot X)
spot_code {X} code = code_by (X × ℕ) (coded× code coded_ℕ) (λ s. (s.whole, s.key)) (λ p. record { whole = p.0; key = p.1 }) (λ _. refl)

-- the key of a spot, if there is one
abbrev pub key_in : {X : Type 0} → Option (Spot X) → Option ℕ
key_in s = option_map (λ x. x.key) s

-- the node to which a link of a node leads, by the lists of children
abbrev pub linked_to : List (List ℕ) → ℕ → Link → Option ℕ
linked_to lists k Parent = parent_of lists k
linked_to lists k First = head_of (children_of lists k)
linked_to lists k Next = next_of lists k
linked_to lists k Prev = prev_of lists k
linked_to lists k Back = back_of lists k

-- a cell among cells that are linked as those of a forest
pub record IsLinkedAt {T : Type 0} (s : Spot (Cells T)) : Type 0 where
  pub linked : IsLinked s.whole
  pub cell : s.key < length s.whole.links
