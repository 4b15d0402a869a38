-- The table of owners, and nodes as C has them.
use Rattle.std.specs.Prelude.{ℕ, Bool, ◌==◌, if◌then◌else◌, List, [], ◌∷◌, slice_get, Option, Some, None}
use Rattle.std.specs.Option.{option_or}
use Rattle.dom_base.specs.declared.Owner.{Owner}
use Rattle.dom_base.specs.declared.Owner.TheVariants.{Component}
use Rattle.dom_base.specs.declared.NodeName.{NodeName}
use Rattle.dom_model.specs.Command.{NodeWord, own, foreign}
use Rattle.dom_model.specs.Output.{Value, null, a_node}
use Rattle.dom_calls.specs.declared.structs.DomNode.{DomNode}

-- who stands at a place that the table does not have: a component that no attach makes, since components are counted from 1 on
abbrev pub nobody : Owner
nobody = Component (record { depth = 1; parts = 0 ∷ 0 ∷ 0 ∷ 0 ∷ 0 ∷ 0 ∷ 0 ∷ 0 ∷ [] })

-- an owner, or nobody
abbrev pub or_nobody : Option Owner → Owner
or_nobody (Some o) = o
or_nobody None = nobody

-- the owner at a place
abbrev pub owner_in : List Owner → ℕ → Owner
owner_in owners place = or_nobody (slice_get owners place)

-- a node as a command of the owner at a place names it: its own, or another owner's
abbrev pub word_at : ℕ → DomNode → NodeWord
word_at place node = if node.owner == place then own node.number else foreign

-- the node that C has so
abbrev pub named_in : List Owner → DomNode → NodeName
named_in owners node = record { owner = owner_in owners node.owner; number = node.number }

-- whether C has a node so, or that there is none
abbrev pub is_none : DomNode → Bool
is_none node = node.owner == 4294967295

-- a node, or that there is none, as the value of a reply
abbrev pub node_value : List Owner → DomNode → Value
node_value owners node = if is_none node then null else a_node (named_in owners node)

-- a node, or that there is none, as a part of what is told
abbrev pub node_option : List Owner → DomNode → Option NodeName
node_option owners node = if is_none node then None else Some (named_in owners node)
