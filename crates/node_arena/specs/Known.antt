-- The first children of two nodes, a node with one above it, and the index of a node, which an arena keeps beside the links.
use Rattle.std.specs.Prelude.{◌≡◌, ℕ, List, ◌++◌, Option, false, length}
use Rattle.std.specs.Option.{ForSome}
use Rattle.node_arena.specs.Nodes.{children_of, contains, last_of, parent_of, place_of, siblings_in, IsInclusiveAncestor}
use Rattle.node_arena.specs.Links.{Cells}
use Rattle.node_arena.specs.Cells.{lists_of, IsLinked}
use Rattle.node_arena.specs.declared.FoundIndex.{FoundIndex}
use Rattle.node_arena.specs.declared.ancestors.Line.{Line}
use Rattle.node_arena.specs.declared.first_children.FirstChildren.{FirstChildren}

-- xs are the first of a list
abbrev pub AreFirst : List ℕ → List ℕ → Type 0
AreFirst xs list = (rest : List ℕ) × (list ≡ xs ++ rest)

-- some of the first siblings of k are known, and k is not one of them
pub record IsBehind (lists : List (List ℕ)) (known : List ℕ) (k : ℕ) : Type 0 where
  pub first : AreFirst known (siblings_in lists (parent_of lists k))
  pub absent : contains known k ≡ false

-- so many of the first siblings of k are known, to the last one given, and k is not one of them
pub record IsBehindFirst (lists : List (List ℕ)) (count : ℕ) (last : Option ℕ) (k : ℕ) : Type 0 where
  pub known : List ℕ
  pub behind : IsBehind lists known k
  pub counted : count ≡ length known
  pub ends : last ≡ last_of known

-- what is kept of a node are first children of it
abbrev pub AreKept : List (List ℕ) → FirstChildren → Type 0
AreKept lists kept = AreFirst kept.keys (children_of lists kept.parent)

-- the links are those of a forest, what is kept of two nodes are first children of each, of a line the one node stands above the other,
-- and a node has the index that was found
pub record IsIndexed {T : Type 0} (cells : Cells T) (asked before : FirstChildren) (line : Line) (found : Option FoundIndex) : Type 0 where
  pub linked : IsLinked cells
  pub recent : AreKept (lists_of cells.links) asked
  pub other : AreKept (lists_of cells.links) before
  pub above : IsInclusiveAncestor (lists_of cells.links) line.above line.below
  pub index : ForSome found (λ f. place_of (lists_of cells.links) f.key ≡ f.index)
