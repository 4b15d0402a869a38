-- The component that the number behind the letter says.
use Rattle.dom_base.proofs.Std.{arith}
use Rattle.dom_reader.proofs.ShortOwners.{short_owner}
use Rattle.dom_reader.proofs.nodes.short_component_at.Goals as goal

pub returns-in-32 : goal.returns-in-32
returns-in-32 c =
    short_owner c.args.line.now c.in_ok-number.rest.now (c.in-99.len_at_least, omega arith) (c.in-32.len_at_least, omega arith)
    c.in_ok-number.ensures.number c.in_ok-number.ensures.rest
