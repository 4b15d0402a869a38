-- The buffer has the attributes so far.
use Rattle.dom_base.proofs.Std.{◌≡◌, ◌++◌, take, flat_map}
use Rattle.dom_text.specs.Definitions.{attribute_text}
use Rattle.dom_printer.specs.Steps.{attributes_view}
use Rattle.dom_printer.proofs.trees.put_attributes.Given as goal

abbrev pub invariant-loop-attribute : goal.invariant-loop-attribute
invariant-loop-attribute l = l.out.items ≡ l.fn.out.items ++ flat_map attribute_text (attributes_view (take l.attribute-index l.attributes))
