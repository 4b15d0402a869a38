-- A number below ten has one digit.
use Rattle.dom_base.proofs.Std.{◌++◌, ap, sym, ◌∙◌, decimal_digit}
use Rattle.dom_printer.proofs.names.put_number.Goals as goal

pub returns-then-number-lt10-clause-ok : goal.returns-then-number-lt10-clause-ok
returns-then-number-lt10-clause-ok c =
    c.in_ok-push.ensures.items ∙ ap (λ digits. c.args.out.now.items ++ digits) (sym (decimal_digit c.args.number c.if-number-lt10.true))
