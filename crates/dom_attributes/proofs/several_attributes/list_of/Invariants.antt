use Rattle.dom_base.proofs.Std.{◌≡◌, take}
use Rattle.dom_attributes.specs.Attributes.{attributes_from, attributes_under}
use Rattle.dom_attributes.proofs.several_attributes.list_of.Given as goal

abbrev pub invariant-loop-index : goal.invariant-loop-index
invariant-loop-index l = attributes_under l.list.items ≡ take l.index (attributes_from l.attributes.entries)
