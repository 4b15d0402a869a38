-- What the calls that are told of a change ask of boundary points, and how a removal goes in two steps.
use Rattle.std.specs.Prelude.{ℕ, ◌<◌, ◌≤◌, ◌-◌, ◌^◌, ◌≡◌, ◌≢◌, ◌⊎◌, Bool, ◌&&◌, List, length, nat_eq, nat_lt, if◌then◌else◌}
use Rattle.dom_base.specs.declared.NodeName.{NodeName}
use Rattle.dom_model.specs.Place.{Boundary}
use Rattle.dom_model.specs.Ranges.{at}
use Rattle.dom_model.specs.Tree.{is_inclusive_ancestor}
use Rattle.dom_tree.specs.Forest.{NamedTrees, name_at}

-- its offset is a number of the code's
abbrev pub Fits : Boundary ℕ → Type 0
Fits b = b.offset < 2 ^ 64

-- its node is one of those with these names
abbrev pub IsAtNode : List NodeName → Boundary ℕ → Type 0
IsAtNode names b = b.node < length names

-- whether a key's node is an inclusive descendant of another key's
abbrev pub is_inside : NamedTrees → ℕ → ℕ → Bool
is_inside f above k = is_inclusive_ancestor f.trees (name_at f.names above) (name_at f.names k)

-- the first step of a removal: what is inside the child that leaves goes to where it stands (DOM Standard, concept: remove)
abbrev pub after_leaving : (ℕ → Bool) → ℕ → ℕ → Boundary ℕ → Boundary ℕ
after_leaving inside parent index b = if inside b.node then at parent index else b

-- the second one: greater offsets in the parent drop by one
abbrev pub after_closing : ℕ → ℕ → Boundary ℕ → Boundary ℕ
after_closing parent index b = if nat_eq b.node parent && nat_lt index b.offset then at parent (b.offset - 1) else b

-- where it stands in a node, it is at most at this offset
abbrev pub IsUpTo : ℕ → ℕ → Boundary ℕ → Type 0
IsUpTo node offset b = b.node ≡ node → b.offset ≤ offset

-- a number stands for an index in a node: it is the index, or not greater, and greater than its offset where it stands in the node
abbrev pub IsNear : ℕ → ℕ → ℕ → Boundary ℕ → Type 0
IsNear node index near b = (near ≡ index) ⊎ ((near ≤ index) × (b.node ≡ node → b.offset < near))

-- a rule leaves each boundary point at its node, and those at one node in their order
abbrev pub KeepsOrder : (Boundary ℕ → Boundary ℕ) → Type 0
KeepsOrder rule = (n i j : ℕ) → i ≤ j → ((rule (at n i)).node ≡ n) × ((rule (at n i)).offset ≤ (rule (at n j)).offset)

-- it leaves those in their order that stay at one node, another one than this
abbrev pub KeepsOrderBut : ℕ → (Boundary ℕ → Boundary ℕ) → Type 0
KeepsOrderBut node rule = (n i j : ℕ) → n ≢ node → i ≤ j → (rule (at n i)).node ≡ n → (rule (at n j)).node ≡ n →
    (rule (at n i)).offset ≤ (rule (at n j)).offset
