-- Looks: what is read of a node without a command.
use Rattle.std.specs.Prelude.{◌≡◌, ℕ, ◌≤◌, ◌-◌, false, List, [], length, map, slice_get, Option, Some, None, Result, Ok, Err}
use Rattle.std.specs.Option.{unwrap_or}
use denote.RawPtr.{Ptr}
use Rattle.dom_base.specs.declared.Fault.{Fault}
use Rattle.dom_base.specs.declared.Fault.TheVariants as fault
use Rattle.dom_base.specs.declared.NodeName.{NodeName}
use Rattle.dom_base.specs.declared.Owner.{Owner}
use Rattle.dom_base.specs.declared.Refusal.{Refusal}
use Rattle.dom_base.specs.Refusals.{refusal_number}
use Rattle.dom_model.specs.Output.{says, replied, a_tree}
use Rattle.dom_model.specs.Tree.{Trees, none, tree}
use Rattle.dom_answers.specs.Arrays.{node_of, output_of}
use Rattle.dom_answers.specs.Told.{shown_trees}
use Rattle.dom_answers.specs.declared.items.Item.{Item}
use Rattle.dom_answers.specs.declared.items.NodeRow.{NodeRow}
use Rattle.dom_query_commands.specs.Looks.{links_of, look_refusal, node_alone, seen_at, structure_of}
use Rattle.dom_query_commands.specs.declared.looks.NodeLinks.{NodeLinks}
use Rattle.dom_query_commands.specs.declared.structure.StructureRow.{StructureRow}
use Rattle.dom_calls.specs.declared.structs.DomLinks.{DomLinks}
use Rattle.dom_calls.specs.declared.structs.DomNode.{DomNode}
use Rattle.dom_calls.specs.declared.structs.DomRow.{DomRow}
use Rattle.dom_calls.specs.Arrays.{no_part, row_in}
use Rattle.dom_calls.specs.Calls.{Both, deliveries_of}
use Rattle.dom_calls.specs.Owners.{node_option, owner_in, word_at}
use Rattle.dom_calls.specs.State.{CallState}

-- why a look of the owner at a place at this node is refused, if it is: as the call `parent` of this node is
abbrev pub refusal_of : ℕ → DomNode → CallState → Option Refusal
refusal_of place node s = look_refusal s.world (owner_in s.owners place) (word_at place node)

-- what it reads of the node, in the trees of the owner
abbrev pub read_of : {X : Type 0} → (Trees → NodeName → X) → ℕ → DomNode → CallState → X
read_of read place node s = seen_at read s.world (owner_in s.owners place) (word_at place node)

-- The owner at a place looked at this node, and was refused so or was not. The world and the owners are as they were, nobody was told anything, and memory
-- was refused to no call.
pub record Sees (place : ℕ) (node : DomNode) (refusal : Option Refusal) (was is : CallState) : Type 0 where
  pub sound : was.has_failed ≡ false
  pub still : is.has_failed ≡ false
  pub refused : refusal_of place node was ≡ refusal
  pub world : is.world ≡ was.world
  pub owners : is.owners ≡ was.owners
  pub told : deliveries_of is ≡ []

-- ---- what C is given of a look

-- the nodes around a node
abbrev pub links_in : List Owner → DomLinks → NodeLinks
links_in owners links = record {
  parent = node_option owners links.parent;
  first = node_option owners links.first;
  last = node_option owners links.last;
  previous = node_option owners links.previous;
  next = node_option owners links.next;
}

abbrev pub SeesLinks : ℕ → DomNode → DomLinks → CallState → CallState → Type 0
SeesLinks place node links was is = links_in was.owners links ≡ read_of links_of place node was

-- a node with what a row says that it has, as a tree that has nothing else: the parts of the row lie in the arrays of the answer
abbrev pub row_alone : CallState → DomRow → Trees
row_alone s row = tree (node_of s.answer.arrays (row_in s.owners row)) none none

-- what a node has itself, of which the text of its tree tells all but the node document
abbrev pub SeesRow : ℕ → DomNode → DomRow → CallState → CallState → Type 0
SeesRow place node row was is = (row_alone is row ≡ shown_trees (read_of node_alone place node was)) × (row.parent ≡ 0)

-- the answer ends with a reply that has this node alone
abbrev pub EndsWithRow : CallState → DomRow → Type 0
EndsWithRow s row = (o : Owner) × ((item : Item) × ((slice_get s.answer.items (length s.answer.items - 1) ≡ Some item)
    × (output_of s.answer.arrays item ≡ says o (replied (a_tree (row_alone s row))))))

-- a node of a structure without what it has itself
abbrev pub bare_row : StructureRow → NodeRow
bare_row row = record { name = row.node; kind = row.kind; element = no_part; attributes = no_part; text = no_part }

-- the row of its parent: of the first node 0
abbrev pub parents_row : StructureRow → ℕ
parents_row row = unwrap_or row.parent 0

-- these rows are lent, and stand at this address
abbrev pub LendsStructure : List StructureRow → Ptr → ℕ → CallState → Type 0
LendsStructure rows at count s =
    (map (row_in s.owners) s.lent.rows ≡ map bare_row rows)
    × ((map (λ row. row.parent) s.lent.rows ≡ map parents_row rows) × ((at ≡ s.lent.rows_at) × (count ≡ length s.lent.rows)))

-- the nodes from a node down, in tree order, are lent so
abbrev pub SeesStructure : ℕ → DomNode → Ptr → ℕ → CallState → CallState → Type 0
SeesStructure place node at count was is = LendsStructure (read_of structure_of place node was) at count is

-- ---- one look

-- the world and the owners are as they were, and so is whether memory was refused to a call
abbrev pub Stays : CallState → CallState → Type 0
Stays was is = (is.world ≡ was.world) × ((is.owners ≡ was.owners) × (is.has_failed ≡ was.has_failed))

-- what a look of the owner at a place gives; if memory was refused to it, it has changed nothing either
abbrev pub IsSeen : {X : Type 0} → ℕ → DomNode → (X → CallState → CallState → Type 0) → CallState → CallState → Result X Fault → Type 0
IsSeen place node shows was is (Ok x) = Sees place node None was is × shows x was is
IsSeen place node shows was is (Err (fault.Refused r)) = Sees place node (Some r) was is
IsSeen place node shows was is (Err fault.Memory) = Stays was is

-- A look of the owner at a place has this status: 0 if nothing refuses it, and what C is given is what it reads; a refusal's number if it was refused so;
-- 14 if memory was refused to it or to a call before, and then it has changed nothing either; and 15 if the handle is closed.
pub record Looks (status place : ℕ) (node : DomNode) (shows : CallState → CallState → Type 0) (was is : Option CallState) : Type 0 where
  pub done : status ≡ 0 → Both (λ a b. Sees place node None a b × shows a b) was is
  pub refusal : (r : Refusal) → status ≡ refusal_number r → Both (Sees place node (Some r)) was is
  pub memory : status ≡ 14 → Both Stays was is
  pub closed : status ≡ 15 → (was ≡ None) × (is ≡ None)
  pub known : status ≤ 15
