-- What the sink took goes behind what it took before.
use Rattle.dom_base.proofs.Std.{take, ◌++◌, ◌∙◌, arith, length-take}
use Rattle.dom_streams.proofs.WriteLaws.{Takes-trans, rest_behind}
use Rattle.dom_streams.proofs.writing.write_all_to.Goals as goal

pub loop-rest-preserved : goal.loop-rest-preserved
loop-rest-preserved g c =
    let i = c.loop-rest.invariant in (
      i.0 ++ take c.in-Ok.n c.loop-rest.rest.now,
      rest_behind _ i.0 c.loop-rest.rest.now c.in-Ok.n i.1,
      Takes-trans _ _ _ i.0 _ i.2
          (c.in-Ok.ensures.bytes, omega (arith, c.in-Ok.ensures.taken, c.in-Ok.ensures.bound, length-take c.in-Ok.n c.loop-rest.rest.now)),
      c.in-Ok.ensures.count.1 c.if-n-gt0.true ∙ i.3,
    )
