-- A note: a document of three elements.
use Rattle.std.specs.Prelude.{ℕ, codes, [], ◌∷◌, ◌++◌, Option, Some, None}
use Rattle.dom_base.specs.declared.Kind.{Kind}
use Rattle.dom_base.specs.declared.Kind.TheVariants.{Document, Element}
use Rattle.dom_base.specs.declared.NodeName.{NodeName}
use Rattle.dom_base.specs.declared.Owner.TheVariants.{Page}
use Rattle.dom_model.specs.Names.{Word, node_of}
use Rattle.dom_model.specs.Tree.{Trees, none, tree, Node}
use Rattle.dom_model.specs.TreeChanges.{with_node, placed}
use Rattle.dom_tree.specs.Forest.{NamedTrees, name_at, next_name}

-- a node without attributes and text (DOM Standard, interface Node)
abbrev pub node_with : NodeName → Kind → Word → Option NodeName → Node
node_with x k word document = record { name = x; kind = k; element = word; attributes = []; text = []; document = document }

-- a forest with one more node of the page, alone
abbrev pub with_alone : (NodeName → Node) → NamedTrees → NamedTrees
with_alone n f = let x = next_name Page f.names in record { names = f.names ++ x ∷ []; trees = with_node (n x) f.trees }

-- a forest with a new document (DOM Standard, interface Document)
abbrev pub with_document : NamedTrees → NamedTrees
with_document f = with_alone (λ x. node_with x Document [] None) f

-- a forest where a new element with a node document is the last child of a node (DOM Standard, createElement() and appendChild())
abbrev pub appended : ℕ → ℕ → Word → NamedTrees → NamedTrees
appended document parent word f =
    let x = next_name Page f.names in
    let g = with_alone (λ y. node_with y Element word (Some (name_at f.names document))) f in
    record { names = g.names; trees = placed x (name_at f.names parent) None g.trees }

-- an element of a note
abbrev pub note_element : ℕ → Word → Node
note_element number word = node_with (node_of Page number) Element word (Some (node_of Page 0))

-- a document with an `article`, in which an `h1` and a `p` stand
abbrev pub note_trees : Trees
note_trees =
    tree (node_with (node_of Page 0) Document [] None)
    (tree (note_element 1 (codes "article")) (tree (note_element 2 (codes "h1")) none (tree (note_element 3 (codes "p")) none none)) none)
    none

-- the forest that has it alone
abbrev pub written_note : NamedTrees
written_note = record { names = node_of Page 0 ∷ node_of Page 1 ∷ node_of Page 2 ∷ node_of Page 3 ∷ []; trees = note_trees }
