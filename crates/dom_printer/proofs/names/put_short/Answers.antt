-- A number below ten has one digit.
use Rattle.dom_base.proofs.Std.{rules, decimal_digit}
use Rattle.dom_printer.proofs.names.put_short.Goals as goal

pub returns-then-number-lt10-clause-ok : goal.returns-then-number-lt10-clause-ok
returns-then-number-lt10-clause-ok c = rw (decimal_digit c.args.number c.if-number-lt10.true) (search rules)
