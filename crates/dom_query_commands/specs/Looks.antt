-- What looks tell of a node.
use Rattle.std.specs.Prelude.{◌≡◌, ℕ, ◌+◌, ◌-◌, List, [], ◌∷◌, ◌++◌, length, take, slice_get, Result, Ok, Err, Option, Some, None}
use Rattle.dom_base.specs.declared.Owner.{Owner}
use Rattle.dom_base.specs.declared.NodeName.{NodeName}
use Rattle.dom_base.specs.declared.Refusal.{Refusal}
use Rattle.dom_base.specs.declared.Fault.{Fault}
use Rattle.dom_base.specs.declared.Fault.TheVariants.{Refused, Memory}
use Rattle.dom_model.specs.Names.{first_of, last_of}
use Rattle.dom_model.specs.Tree.{Node, Trees, none, tree, nodes, node_in, subtree, parent_of, children_of, previous_sibling, next_sibling}
use Rattle.dom_model.specs.Command.{Command, NodeWord}
use Rattle.dom_model.specs.CommandNames.{named}
use Rattle.dom_model.specs.DocumentMachine.{refusal}
use Rattle.dom_model.specs.World.{World, part_of}
use Rattle.dom_text.specs.Text.{TreeStep, opens, closes}
use Rattle.dom_query_commands.specs.declared.looks.NodeLinks.{NodeLinks}
use Rattle.dom_query_commands.specs.declared.structure.StructureRow.{StructureRow}

-- what is read of the node that an owner names, in the owner's own trees
abbrev pub seen_at : {X : Type 0} → (Trees → NodeName → X) → World → Owner → NodeWord → X
seen_at read w o x = let p = part_of w o in read p.trees (named p x)

-- the refusal of a look at a node, if there is one: that of `parent N` while no turn is open
abbrev pub look_refusal : World → Owner → NodeWord → Option Refusal
look_refusal w o x = refusal (record w { turn = None }) o (Command.parent x)

-- a look that this refusal, if it is one, was to refuse was refused so, or else it was not; if memory was refused, nothing is said
abbrev pub IsAllowed : {X : Type 0} → Option Refusal → Result X Fault → Type 0
IsAllowed refusal (Ok x) = refusal ≡ None
IsAllowed refusal (Err (Refused r)) = refusal ≡ Some r
IsAllowed refusal (Err Memory) = Unit {0}

-- the nodes around a node (DOM Standard, 4.4)
abbrev pub links_of : Trees → NodeName → NodeLinks
links_of ts x = record {
  parent = parent_of ts x;
  first = first_of (children_of ts x);
  last = last_of (children_of ts x);
  previous = previous_sibling ts x;
  next = next_sibling ts x;
}

-- a node with what it has itself, as a tree that has nothing else
abbrev pub node_alone : Trees → NodeName → Trees
node_alone ts x = tree (node_in ts x) none none

-- ---- structure

-- a node in a list, whose parent stands at this place of the list
abbrev pub row_of : Option ℕ → Node → StructureRow
row_of parent n = record { node = n.name; kind = n.kind; parent = parent }

-- a row for each node of trees, in tree order: the roots have a parent at this place, and the first row stands at the place given next
abbrev pub rows_below : Option ℕ → ℕ → Trees → List StructureRow
rows_below parent at none = []
rows_below parent at (tree n children others) =
    row_of parent n ∷ (rows_below (Some at) (at + 1) children ++ rows_below parent (at + 1 + length (nodes children)) others)

-- the nodes of a node's tree, from the node itself down, in tree order, each with the place of its parent in this list
abbrev pub structure_of : Trees → NodeName → List StructureRow
structure_of ts x = rows_below None 0 (subtree ts x)

-- ---- how it is read, along the text of a tree

-- the rows of the nodes that began so far, and the places of the rows whose nodes have not ended, the topmost first
pub record OpenRows : Type 0 where
  pub rows : List StructureRow
  pub open_places : List ℕ

abbrev pub opened : List StructureRow → List ℕ → OpenRows
opened rows places = record { rows = rows; open_places = places }

-- a node begins, or the last one that began ends
abbrev pub with_step : OpenRows → TreeStep → OpenRows
with_step s (opens n) =
    opened (s.rows ++ row_of (slice_get s.open_places (length s.open_places - 1)) n ∷ []) (s.open_places ++ length s.rows ∷ [])
with_step s closes = opened s.rows (take (length s.open_places - 1) s.open_places)
