use Rattle.std.proofs.Common.{◌<◌, length, refl, arith}
use Rattle.node_arena.proofs.Arena.at.Goals as goal

pub invariant_of-result : goal.invariant_of-result
invariant_of-result g c =
    let within : c.args.key < length c.self.inside.store.payloads = rw (← c.self.view_is) at c.requires in
    rw c.at-at.ensures (record { linked = c.self.invariant.linked; cell = omega (arith, c.self.invariant.linked.paired) })

pub returns : goal.returns
returns g c = rw (c.at-at.ensures, ← c.self.view_is) refl
