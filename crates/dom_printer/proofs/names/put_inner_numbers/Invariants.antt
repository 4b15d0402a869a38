-- The buffer has the numbers so far.
use Rattle.dom_base.proofs.Std.{◌≡◌, ◌++◌, take, flat_map}
use Rattle.dom_text.specs.Definitions.{next_number_text}
use Rattle.dom_printer.proofs.names.put_inner_numbers.Given as goal

abbrev pub invariant-loop-number : goal.invariant-loop-number
invariant-loop-number l = l.out.items ≡ l.fn.out.items ++ flat_map next_number_text (take l.number-index l.numbers)
