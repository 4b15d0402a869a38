use Rattle.std.proofs.Common.{sym, true≢false, eqb}
use Rattle.std.proofs.lemmas.Bool.{eqb-false, not-true}
use Rattle.node_arena.specs.Nodes.{children_of}
use Rattle.node_arena.proofs.Above.{above-childless, no_first}
use Rattle.node_arena.proofs.Arena.is_inclusive_ancestor.Goals as goal

pub returns-then-is_none : goal.returns-then-is_none
returns-then-is_none g c =
    let leaf = no_first (children_of c.args.self.now.children c.args.above) c.first.ensures.value c.if-is_none.ensures in
    let other = eqb-false c.args.above c.args.key (not-true (eqb c.args.above c.args.key) (sym c.if-ne.ensures)) in (
      λ claim. absurd (true≢false (sym claim)),
      λ found. absurd (other (sym (above-childless c.first.ensures.sound.forest c.args.above c.args.key leaf found))),
    )
