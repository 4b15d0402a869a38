-- The arrays of an answer, and what the parts of them say.
use Rattle.std.specs.Prelude.{◌≡◌, ◌++◌, ℕ, List, [], ◌∷◌, None, Option, Some, map}
use Rattle.std.specs.Option.{option_map}
use Rattle.std.specs.List.{AllByRecursion}
use Rattle.dom_base.specs.declared.NodeName.{NodeName}
use Rattle.dom_model.specs.Codes.{first_trees, joined_trees}
use Rattle.dom_model.specs.Output as model
use Rattle.dom_model.specs.Tree as model_tree
use Rattle.dom_text.specs.Text as text
use Rattle.dom_printer.specs.Replies.{boundary_view}
use Rattle.dom_answers.specs.Parts.{IsPart, part}
use Rattle.dom_answers.specs.declared.items.Span.{Span}
use Rattle.dom_answers.specs.declared.items.AttributeSpans.{AttributeSpans}
use Rattle.dom_answers.specs.declared.items.NodeRow.{NodeRow}
use Rattle.dom_answers.specs.declared.items.Row.{Row}
use Rattle.dom_answers.specs.declared.items.Row.TheVariants as rows
use Rattle.dom_answers.specs.declared.items.Reply.{Reply}
use Rattle.dom_answers.specs.declared.items.Reply.TheVariants as replies
use Rattle.dom_answers.specs.declared.items.Call.{Call}
use Rattle.dom_answers.specs.declared.items.Mutation.{Mutation}
use Rattle.dom_answers.specs.declared.items.Mutation.TheVariants as mutations
use Rattle.dom_answers.specs.declared.items.Said.{Said}
use Rattle.dom_answers.specs.declared.items.Said.TheVariants as things
use Rattle.dom_answers.specs.declared.items.Item.{Item}
use Rattle.dom_answers.specs.declared.items.Item.TheVariants as items

-- nodes, code units, bytes, rows of trees, and attributes
pub record Arrays : Type 0 where
  pub nodes : List NodeName
  pub units : List ℕ
  pub bytes : List ℕ
  pub rows : List Row
  pub attributes : List AttributeSpans

-- ---- parts that stay

-- it lies within the array, and has these things
abbrev pub Holds : {X : Type 0} → List X → Span → List X → Type 0
Holds xs span items = IsPart xs span × (part xs span ≡ items)

-- each part of an array is one of another, with the same things
abbrev pub Keeps : {X : Type 0} → List X → List X → Type 0
Keeps xs ys = (span : Span) → IsPart xs span → Holds ys span (part xs span)

-- each part of the arrays is one of the others, with the same things
pub record Grows (a b : Arrays) : Type 0 where
  pub nodes : Keeps a.nodes b.nodes
  pub units : Keeps a.units b.units
  pub bytes : Keeps a.bytes b.bytes
  pub rows : Keeps a.rows b.rows
  pub attributes : Keeps a.attributes b.attributes

-- things that say these came after what was there
pub record Adds {X Y : Type 0} (view : X → Y) (old new : List X) (said : List Y) : Type 0 where
  pub more : List X
  pub after : new ≡ old ++ more
  pub say : map view more ≡ said

-- ---- trees

-- an attribute
abbrev pub attribute_of : Arrays → AttributeSpans → model_tree.Attribute
attribute_of a spans = record { name = part a.bytes spans.name; value = part a.units spans.value }

-- its name and its value lie within the arrays
abbrev pub IsAttribute : Arrays → AttributeSpans → Type 0
IsAttribute a spans = IsPart a.bytes spans.name × IsPart a.units spans.value

-- a node: its node document is not told
abbrev pub node_of : Arrays → NodeRow → model_tree.Node
node_of a row = record {
  name = row.name;
  kind = row.kind;
  element = part a.bytes row.element;
  attributes = map (attribute_of a) (part a.attributes row.attributes);
  text = part a.units row.text;
  document = None;
}

-- what it has lies within the arrays
pub record IsNode (a : Arrays) (row : NodeRow) : Type 0 where
  pub element : IsPart a.bytes row.element
  pub attributes : IsPart a.attributes row.attributes
  pub text : IsPart a.units row.text

-- a row as a step of a tree's text
abbrev pub step_of : Arrays → Row → text.TreeStep
step_of a (rows.Opens row) = text.opens (node_of a row)
step_of a rows.Closes = text.closes

-- what it has lies within the arrays
abbrev pub IsRow : Arrays → Row → Type 0
IsRow a (rows.Opens row) = IsNode a row
IsRow a rows.Closes = Unit {0}

-- the trees that steps show: those after the last step that is read, and those after each end of a tree that did not begin
abbrev pub read_steps : List text.TreeStep → List model_tree.Trees
read_steps [] = model_tree.none ∷ []
read_steps (text.closes ∷ steps) = model_tree.none ∷ read_steps steps
read_steps (text.opens node ∷ steps) = joined_trees node (read_steps steps)

-- the trees with these steps
abbrev pub trees_of : List text.TreeStep → model_tree.Trees
trees_of steps = first_trees (read_steps steps)

-- each row and each attribute has what it has within the arrays
pub record AreSound (a : Arrays) : Type 0 where
  pub attributes : AllByRecursion (IsAttribute a) a.attributes
  pub rows : AllByRecursion (IsRow a) a.rows

-- ---- items

-- the value of a reply
abbrev pub value_of : Arrays → Reply → model.Value
value_of a replies.Nothing = model.nothing
value_of a replies.Null = model.null
value_of a (replies.Node node) = model.a_node node
value_of a (replies.List span) = model.a_list (part a.nodes span)
value_of a (replies.Component owner) = model.a_component owner
value_of a (replies.Range number) = model.a_range number
value_of a (replies.Iterator number) = model.an_iterator number
value_of a (replies.Walker number) = model.a_walker number
value_of a (replies.Observer number) = model.an_observer number
value_of a (replies.Str span) = model.a_string (part a.units span)
value_of a (replies.Truth truth) = model.a_truth truth
value_of a (replies.Count count) = model.a_count count
value_of a (replies.Tree span) = model.a_tree (trees_of (map (step_of a) (part a.rows span)))
value_of a (replies.Boundaries start end) = model.boundaries (boundary_view start) (boundary_view end)
value_of a (replies.Reference node before) = model.reference node before

-- its part lies within the arrays
abbrev pub IsReply : Arrays → Reply → Type 0
IsReply a (replies.List span) = IsPart a.nodes span
IsReply a (replies.Str span) = IsPart a.units span
IsReply a (replies.Tree span) = IsPart a.rows span
IsReply a _ = Unit {0}

-- a call of a listener
abbrev pub call_of : Arrays → Call → model.EventLine NodeName
call_of a call = record {
  label = part a.bytes call.label;
  event = part a.bytes call.event;
  phase = call.phase;
  target = call.target;
  current = call.current;
  related = call.related;
  path = part a.nodes call.path;
}

-- its parts lie within the arrays
pub record IsCall (a : Arrays) (call : Call) : Type 0 where
  pub label : IsPart a.bytes call.label
  pub event : IsPart a.bytes call.event
  pub path : IsPart a.nodes call.path

-- a change
abbrev pub change_of : Arrays → Mutation → model.Change NodeName
change_of a (mutations.ChildList target added removed previous next) =
    model.child_list target (part a.nodes added) (part a.nodes removed) previous next
change_of a (mutations.Attributes target name old) = model.attributes target (part a.bytes name) (option_map (part a.units) old)
change_of a (mutations.CharacterData target old) = model.character_data target (option_map (part a.units) old)

-- an old value lies within the code units, where one is given
abbrev pub IsOld : Arrays → Option Span → Type 0
IsOld a None = Unit {0}
IsOld a (Some span) = IsPart a.units span

-- its parts lie within the arrays
abbrev pub IsMutation : Arrays → Mutation → Type 0
IsMutation a (mutations.ChildList target added removed previous next) = IsPart a.nodes added × IsPart a.nodes removed
IsMutation a (mutations.Attributes target name old) = IsPart a.bytes name × IsOld a old
IsMutation a (mutations.CharacterData target old) = IsOld a old

-- what an item says
abbrev pub said_of : Arrays → Said → model.Said
said_of a (things.Replied reply) = model.replied (value_of a reply)
said_of a (things.Refused refusal) = model.refused refusal
said_of a (things.Event call) = model.event_seen (call_of a call)
said_of a (things.Record number mutation) = model.recorded number (change_of a mutation)
said_of a (things.Microtask label) = model.micro_ran (part a.bytes label)

-- its parts lie within the arrays
abbrev pub IsSaid : Arrays → Said → Type 0
IsSaid a (things.Replied reply) = IsReply a reply
IsSaid a (things.Refused refusal) = Unit {0}
IsSaid a (things.Event call) = IsCall a call
IsSaid a (things.Record number mutation) = IsMutation a mutation
IsSaid a (things.Microtask label) = IsPart a.bytes label

-- an item as a line of output
abbrev pub output_of : Arrays → Item → model.Output
output_of a items.NoOwner = model.bad_owner
output_of a (items.Says owner said) = model.says owner (said_of a said)

-- its parts lie within the arrays
abbrev pub IsItem : Arrays → Item → Type 0
IsItem a items.NoOwner = Unit {0}
IsItem a (items.Says owner said) = IsSaid a said
