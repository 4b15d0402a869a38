-- At which nodes an owner's iterators stand.
use Rattle.std.specs.Prelude.{◌≡◌, ◌⊎◌, ℕ, ◌<◌, ◌≤◌, Bool, false, List, length, slice_get, slice_index_or, Some}
use Rattle.std.specs.List.{Contains}
use Rattle.dom_model.specs.Tree.{is_inclusive_ancestor}
use Rattle.dom_tree.specs.Forest.{NamedTrees, name_at}
use Rattle.dom_traversal.specs.Iterators.{KeyedIterator}
use Rattle.dom_traversal.specs.OwnTables.{IsLeftIf}
use Rattle.dom_traversal.specs.declared.references.Reference.{Reference}

-- the reference of an iterator by its number
abbrev pub reference_at : ℕ → ℕ → Reference
reference_at node number = record { node = node; number = number }

-- the first of two references comes before the second, by nodes from the last one on, and then by numbers
abbrev pub IsBefore : Reference → Reference → Type 0
IsBefore x y = (y.node ≤ x.node) × (x.node ≡ y.node → x.number < y.number)

-- it does not come after the second
abbrev pub IsUpTo : Reference → Reference → Type 0
IsUpTo x y = (y.node ≤ x.node) × (x.node ≡ y.node → x.number ≤ y.number)

-- each comes before the later ones
abbrev pub AreSorted : List Reference → Type 0
AreSorted xs = (j k : ℕ) (d : Reference) → j < k → k < length xs → IsBefore (slice_index_or xs j d) (slice_index_or xs k d)

-- the references of all iterators are listed, and nothing else
pub record AreListed (is : List KeyedIterator) (xs : List Reference) : Type 0 where
  pub all : (k : ℕ) (i : KeyedIterator) → slice_get is k ≡ Some i → Contains xs (reference_at i.reference k)
  pub only : (x : Reference) → Contains xs x → (i : KeyedIterator) × (slice_get is x.number ≡ Some i) × (i.reference ≡ x.node)

-- each is a node of the forest
abbrev pub AreNodes : NamedTrees → List Reference → Type 0
AreNodes f xs = (k : ℕ) (d : Reference) → k < length xs → (slice_index_or xs k d).node < length f.names

-- whether a key's node is in the tree of `top`
abbrev pub is_inside : NamedTrees → ℕ → ℕ → Bool
is_inside f top k = is_inclusive_ancestor f.trees (name_at f.names top) (name_at f.names k)

-- those before a place are outside the tree of `top`
abbrev pub AreOutside : NamedTrees → ℕ → List Reference → ℕ → Type 0
AreOutside f top xs place = (k : ℕ) (d : Reference) → k < place → is_inside f top (slice_index_or xs k d).node ≡ false

-- they are, and the one at the place is just if a node is that was reached by going up from it
pub record AreTested (f : NamedTrees) (top : ℕ) (xs : List Reference) (place at : ℕ) : Type 0 where
  pub within : place < length xs
  pub node : at < length f.names
  pub before : AreOutside f top xs place
  pub same : (d : Reference) → is_inside f top (slice_index_or xs place d).node ≡ is_inside f top at

-- each iterator has left the tree of a node, or is as it was
abbrev pub MayHaveLeft : NamedTrees → ℕ → List KeyedIterator → List KeyedIterator → Type 0
MayHaveLeft f node was now = (k : ℕ) → IsLeftIf f node (slice_get was k) (slice_get now k) ⊎ (slice_get now k ≡ slice_get was k)
