-- Whether the units so far stand as they are.
use Rattle.dom_base.proofs.Std.{◌≡◌, take, list_all}
use Rattle.dom_printer.specs.Strings.{is_plain}
use Rattle.dom_printer.proofs.strings.are_plain.Given as goal

abbrev pub invariant-loop-unit : goal.invariant-loop-unit
invariant-loop-unit l = l.plain ≡ list_all is_plain (take l.unit-index l.units)
