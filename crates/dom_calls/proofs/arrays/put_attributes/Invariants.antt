-- The attributes so far.
use Rattle.std.specs.Prelude.{◌≡◌, map, take}
use Rattle.dom_calls.specs.Arrays.{attribute_in}
use Rattle.dom_calls.proofs.arrays.put_attributes.Given as goal

abbrev pub invariant-loop-attribute : goal.invariant-loop-attribute
invariant-loop-attribute l = map attribute_in l.out.items ≡ take l.attribute-index l.attributes
