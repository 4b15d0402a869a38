-- The bytes so far are the units.
use Rattle.dom_base.proofs.Std.{◌≡◌, take}
use Rattle.dom_printer.proofs.strings.copy_units.Given as goal

abbrev pub invariant-loop-place : goal.invariant-loop-place
invariant-loop-place l = take l.place l.bytes ≡ take l.place l.units
