use Rattle.std.proofs.Common.{refl, sym, ◌∙◌, arith}
use Rattle.node_arena.proofs.Forests.{ancestors_of_is}
use Rattle.node_arena.proofs.Arena.stands_above.Goals as goal

pub returns-then-is_known_above : goal.returns-then-is_known_above
returns-then-is_known_above g c = (λ claim. c.if-is_known_above.ensures.above refl, λ found. refl)

pub loop-at-smaller : goal.loop-at-smaller
loop-at-smaller g c =
    rw (c.in-Some.is, c.parent-at.ensures.value, ← ancestors_of_is c.args.self.now.children c.parent-at.ensures.sound.forest c.in-Some.node) (omega arith)

pub loop-at-preserved : goal.loop-at-preserved
loop-at-preserved g c =
    let above = ancestors_of_is c.args.self.now.children c.parent-at.ensures.sound.forest c.in-Some.node in
    record {
      nodes = c.parent-at.ensures.node;
      same = c.loop-at.invariant.same ∙ rw (c.in-Some.is, c.parent-at.ensures.value, ← above, sym c.eq.ensures ∙ c.if-eq.false);
    }
