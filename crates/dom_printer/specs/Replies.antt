-- Replies and refusals of the code, seen as those of the specification.
use Rattle.std.specs.Prelude.{Option, Some, None}
use Rattle.dom_base.specs.declared.Owner.{Owner}
use Rattle.dom_base.specs.declared.NodeName.{NodeName}
use Rattle.dom_base.specs.declared.Refusal.{Refusal}
use Rattle.dom_model.specs.Output as model
use Rattle.dom_printer.specs.declared.replies.Boundary.{Boundary}
use Rattle.dom_printer.specs.declared.replies.Value.{Value}
use Rattle.dom_printer.specs.declared.replies.Value.TheVariants as values

-- a boundary
abbrev pub boundary_view : Boundary → model.Boundary NodeName
boundary_view b = record { node = b.node; offset = b.offset }

-- a value: any but a list of nodes and a tree
abbrev pub value_view : Value → model.Value
value_view values.Nothing = model.nothing
value_view values.Null = model.null
value_view (values.Node node) = model.a_node node
value_view (values.Component owner) = model.a_component owner
value_view (values.Range number) = model.a_range number
value_view (values.Iterator number) = model.an_iterator number
value_view (values.Walker number) = model.a_walker number
value_view (values.Observer number) = model.an_observer number
value_view (values.Str units) = model.a_string units.now
value_view (values.Truth truth) = model.a_truth truth
value_view (values.Count count) = model.a_count count
value_view (values.Boundaries start end) = model.boundaries (boundary_view start) (boundary_view end)
value_view (values.Reference node before) = model.reference node before

-- a refusal as a line of output: that of a line with no owner is always the same
abbrev pub refusal_output : Option Owner → Refusal → model.Output
refusal_output None refusal = model.bad_owner
refusal_output (Some owner) refusal = model.says owner (model.refused refusal)
