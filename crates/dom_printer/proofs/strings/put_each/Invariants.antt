-- The buffer has the units so far.
use Rattle.dom_base.proofs.Std.{◌≡◌, ◌++◌, take, flat_map}
use Rattle.dom_text.specs.Definitions.{unit_text}
use Rattle.dom_printer.proofs.strings.put_each.Given as goal

abbrev pub invariant-loop-unit : goal.invariant-loop-unit
invariant-loop-unit l = l.out.items ≡ l.fn.out.items ++ flat_map unit_text (take l.unit-index l.units)
