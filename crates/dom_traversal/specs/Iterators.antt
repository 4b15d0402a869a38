-- What a contract sees of an `Iter`: a node iterator with keys in place of names.
use Rattle.std.specs.Prelude.{◌≡◌, ℕ, ◌<◌, Bool, true, false, List, filter, length, Option, Some, None, option_map}
use Rattle.dom_base.specs.declared.NodeName.{NodeName}
use Rattle.dom_model.specs.Command.{Filter}
use Rattle.dom_model.specs.Traversal.{Iterator, nodes_ahead, accepts, iterator_next_node, iterator_previous_node}
use Rattle.dom_model.specs.Tree.{Trees, is_inclusive_ancestor}
use Rattle.dom_model.specs.TreeChanges.{taken_out, placed}
use Rattle.dom_tree.specs.Forest.{NamedTrees, name_at}
use Rattle.dom_tree.specs.Within.{StandsIn}
use Rattle.dom_traversal.specs.declared.iter.Direction.{Direction}
use Rattle.dom_traversal.specs.declared.iter.Direction.TheVariants.{Next, Previous}

-- an iterator by keys
pub record KeyedIterator : Type 0 where
  pub root : ℕ
  pub reference : ℕ
  pub before : Bool
  pub filter : Filter

-- the same iterator with the names of its nodes
abbrev pub iterator_view : List NodeName → KeyedIterator → Iterator
iterator_view names i = record { root = name_at names i.root; reference = name_at names i.reference; before = i.before; filter = i.filter }

-- its root and its reference are nodes, and the reference is an inclusive descendant of the root
pub record IsIteratorOf (f : NamedTrees) (i : KeyedIterator) : Type 0 where
  pub root : i.root < length f.names
  pub reference : StandsIn f i.root i.reference

-- the iterator at a node, if there is one
abbrev pub iterator_at : KeyedIterator → Bool → Option ℕ → KeyedIterator
iterator_at i before None = i
iterator_at i before (Some k) = record i { reference = k; before = before }

-- the node that an iterator comes to in a direction, if there is one (DOM Standard, interface NodeIterator)
abbrev pub iterator_found : Direction → Trees → Iterator → Option NodeName
iterator_found Next ts i = iterator_next_node ts i
iterator_found Previous ts i = iterator_previous_node ts i

-- whether the iterator stands before that node then
abbrev pub stands_before : Direction → Bool
stands_before Next = false
stands_before Previous = true

-- the accepted nodes of the root's tree behind the iterator
abbrev pub iterator_rest : NamedTrees → KeyedIterator → List NodeName
iterator_rest f i = filter (accepts f.trees i.filter) (nodes_ahead f.trees (iterator_view f.names i))

-- how many nodes of the root's tree stand behind the iterator
abbrev pub iterator_left : NamedTrees → KeyedIterator → ℕ
iterator_left f i = length (nodes_ahead f.trees (iterator_view f.names i))

-- its reference is not in a node's tree, unless its root is
abbrev pub HasLeft : NamedTrees → KeyedIterator → ℕ → Type 0
HasLeft f i node =
    is_inclusive_ancestor f.trees (name_at f.names node) (name_at f.names i.root) ≡ false →
    is_inclusive_ancestor f.trees (name_at f.names node) (name_at f.names i.reference) ≡ false

-- the same nodes with the tree of one of them taken out
abbrev pub with_taken_out : NamedTrees → ℕ → NamedTrees
with_taken_out f node = record { names = f.names; trees = taken_out (name_at f.names node) f.trees }

-- the same nodes with the tree of one of them placed below another one, before the child given or behind all
abbrev pub with_placed : NamedTrees → ℕ → ℕ → Option ℕ → NamedTrees
with_placed f node parent before =
    record { names = f.names; trees = placed (name_at f.names node) (name_at f.names parent) (option_map (name_at f.names) before) f.trees }
