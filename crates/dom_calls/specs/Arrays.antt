-- What the structs of C say: spans, attributes, rows and deliveries.
use Rattle.std.specs.Prelude.{ℕ, suc, ◌==◌, ◌-◌, if◌then◌else◌, List, [], ◌∷◌, ◌++◌, length, take, slice_get, Option, Some, None}
use Rattle.std.specs.Option.{unwrap_or}
use Rattle.dom_base.specs.declared.Kind.{Kind}
use Rattle.dom_base.specs.declared.Kind.TheVariants.{Document, Fragment, Shadow, Element, Text, Comment}
use Rattle.dom_base.specs.declared.Owner.{Owner}
use Rattle.dom_answers.specs.declared.items.Span.{Span}
use Rattle.dom_answers.specs.declared.items.AttributeSpans.{AttributeSpans}
use Rattle.dom_answers.specs.declared.items.Item.{Item}
use Rattle.dom_answers.specs.declared.items.Item.TheVariants.{Says}
use Rattle.dom_answers.specs.declared.items.Mutation.TheVariants.{ChildList, Attributes, CharacterData}
use Rattle.dom_answers.specs.declared.items.NodeRow.{NodeRow}
use Rattle.dom_answers.specs.declared.items.Row.{Row}
use Rattle.dom_answers.specs.declared.items.Row.TheVariants.{Opens, Closes}
use Rattle.dom_answers.specs.declared.items.Said.{Said}
use Rattle.dom_answers.specs.declared.items.Said.TheVariants.{Event, Record, Microtask}
use Rattle.dom_calls.specs.declared.structs.DomAttribute.{DomAttribute}
use Rattle.dom_calls.specs.declared.structs.DomDelivery.{DomDelivery}
use Rattle.dom_calls.specs.declared.structs.DomNode.{DomNode}
use Rattle.dom_calls.specs.declared.structs.DomRow.{DomRow}
use Rattle.dom_calls.specs.declared.structs.DomSpan.{DomSpan}
use Rattle.dom_calls.specs.Owners.{owner_in, named_in, node_option}

-- a part of an array
abbrev pub span_in : DomSpan → Span
span_in s = record { at = s.at; count = s.count }

-- no part of an array
abbrev pub no_part : Span
no_part = record { at = 0; count = 0 }

-- an attribute
abbrev pub attribute_in : DomAttribute → AttributeSpans
attribute_in a = record { name = span_in a.name; value = span_in a.value }

-- ---- rows

-- the kind with this number: the DOM's nodeType, and 12 of a shadow root
abbrev pub kind_numbered : ℕ → Kind
kind_numbered n =
    if n == 1 then Element else (if n == 3 then Text else (if n == 8 then Comment else (if n == 9 then Document else (if n == 11 then Fragment else Shadow))))

-- a node with all that it has itself
abbrev pub row_in : List Owner → DomRow → NodeRow
row_in owners row = record {
  name = named_in owners row.node;
  kind = kind_numbered row.kind;
  element = span_in row.name;
  attributes = span_in row.attributes;
  text = span_in row.data;
}

-- the nodes of rows, in tree order
abbrev pub nodes_opened : List Row → List NodeRow
nodes_opened [] = []
nodes_opened (Opens node ∷ rows) = node ∷ nodes_opened rows
nodes_opened (Closes ∷ rows) = nodes_opened rows

-- the last of some numbers, or 0
abbrev pub last_or_zero : List ℕ → ℕ
last_or_zero ns = unwrap_or (slice_get ns (length ns - 1)) 0

-- For each node in tree order the row of its parent: the last one whose tree has begun before it and does not end before it. The first node has 0. So many
-- rows stand before these, and these trees of them have not ended, the outermost first.
abbrev pub parents_after : ℕ → List ℕ → List Row → List ℕ
parents_after at open_rows [] = []
parents_after at open_rows (Opens node ∷ rows) = last_or_zero open_rows ∷ parents_after (suc at) (open_rows ++ at ∷ []) rows
parents_after at open_rows (Closes ∷ rows) = parents_after at (take (length open_rows - 1) open_rows) rows

-- ---- deliveries

-- what stands for no node, and no part of an array
abbrev pub no_node : DomNode
no_node = record { owner = 4294967295; number = 0 }

abbrev pub no_span : DomSpan
no_span = record { at = 0; count = 0 }

-- a delivery that has nothing but a kind, an owner and a number
abbrev pub empty_delivery : ℕ → ℕ → ℕ → DomDelivery
empty_delivery kind owner number = record {
  kind = kind;
  owner = owner;
  number = number;
  flags = 0;
  target = no_node;
  current = no_node;
  related = no_node;
  previous = no_node;
  next = no_node;
  label = no_span;
  name = no_span;
  path = no_span;
  added = no_span;
  removed = no_span;
  old_value = no_span;
  has_old_value = 0;
}

-- an old value, where there is one
abbrev pub old_in : DomDelivery → Option Span
old_in d = if d.has_old_value == 0 then None else Some (span_in d.old_value)

-- what a delivery tells
abbrev pub told_in : List Owner → DomDelivery → Said
told_in owners d =
    if d.kind == 1 then Event (record {
      label = span_in d.label;
      event = span_in d.name;
      phase = d.number;
      target = named_in owners d.target;
      current = named_in owners d.current;
      related = node_option owners d.related;
      path = span_in d.path;
    }) else (if d.kind == 2
    then Record d.number
    (ChildList (named_in owners d.target) (span_in d.added) (span_in d.removed) (node_option owners d.previous) (node_option owners d.next)) else (
    if d.kind == 3 then Record d.number (Attributes (named_in owners d.target) (span_in d.name) (old_in d)) else (
    if d.kind == 4 then Record d.number (CharacterData (named_in owners d.target) (old_in d)) else Microtask (span_in d.label))))

-- a delivery, with its owner
abbrev pub item_in : List Owner → DomDelivery → Item
item_in owners d = Says (owner_in owners d.owner) (told_in owners d)
