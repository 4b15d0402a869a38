-- An owner's iterators and walkers, with keys in place of names.
use Rattle.std.specs.Prelude.{◌≡◌, ℕ, List, [], Option, Some, None, slice_get}
use Rattle.dom_model.specs.Traversal.{adjusted_iterator}
use Rattle.dom_tree.specs.Forest.{NamedTrees, name_at}
use Rattle.dom_traversal.specs.Iterators.{KeyedIterator, iterator_view, IsIteratorOf, HasLeft}
use Rattle.dom_traversal.specs.Walkers.{KeyedWalker}

-- an owner's iterators and walkers, by their numbers
pub record KeyedTables : Type 0 where
  pub iterators : List KeyedIterator
  pub walkers : List KeyedWalker

-- no iterators and no walkers
abbrev pub no_keyed_tables : KeyedTables
no_keyed_tables = record { iterators = []; walkers = [] }

-- each item of a list
abbrev pub EachItem : {X : Type 0} → (X → Type 0) → List X → Type 0
EachItem P xs = (k : ℕ) → (x : _) → slice_get xs k ≡ Some x → P x

-- ---- before a removal

-- an iterator that has left the tree of a node (DOM Standard, NodeIterator pre-remove steps)
pub record IsLeft (f : NamedTrees) (node : ℕ) (was now : KeyedIterator) : Type 0 where
  pub value : iterator_view f.names now ≡ adjusted_iterator f.trees (name_at f.names node) (iterator_view f.names was)
  pub root : now.root ≡ was.root
  pub kept : IsIteratorOf f now
  pub left : HasLeft f now node

-- an iterator, there or not, is left by a removal as the definitions adjust it
abbrev pub IsLeftIf : NamedTrees → ℕ → Option KeyedIterator → Option KeyedIterator → Type 0
IsLeftIf f node (Some was) (Some now) = IsLeft f node was now
IsLeftIf f node None None = Unit {0}
IsLeftIf f node _ _ = ⊥

-- all have
abbrev pub AreLeft : NamedTrees → ℕ → List KeyedIterator → List KeyedIterator → Type 0
AreLeft f node was now = (k : ℕ) → IsLeftIf f node (slice_get was k) (slice_get now k)
