use Rattle.std.proofs.Common.{◌≡◌, ℕ, Some, sym, ◌∙◌, subst, arith}
use Rattle.std.proofs.lemmas.Bool.{eqb-false}
use Rattle.std.proofs.lemmas.Option.{same_Some}
use Rattle.node_arena.specs.Cells.{lists_of}
use Rattle.node_arena.specs.Nodes.{parent_of, IsInclusiveAncestor}
use Rattle.node_arena.proofs.Above.{above_next, above_up, above-within}
use Rattle.node_arena.proofs.FirstKnown.{same_from}
use Rattle.node_arena.proofs.Forests.{contains-parent, parent_within}
use Rattle.node_arena.proofs.Indexes.{same_option}
use Rattle.node_arena.proofs.Arena.is_known_above.Goals as goal

pub loop-init : goal.loop-init
loop-init g c =
    rw (← c.self.view_is)
    (subst (λ (x : ℕ). IsInclusiveAncestor (lists_of c.self.inside.store.links) x c.self.inside.line.below)
    (sym (same_from c.args.above c.self.inside.line.above (sym c.if-ne.false ∙ c.ne.ensures))) c.self.invariant.above)

pub returns-then-eq : goal.returns-then-eq
returns-then-eq g c =
    let lists = c.args.self.now.children in
    let sound = c.parent-up.ensures.sound in
    let up : parent_of lists c.args.key ≡ Some c.loop.at =
    sym c.parent-up.ensures.value ∙ same_option c.parent-up.result (Some c.loop.at) (sym c.eq.ensures ∙ c.if-eq.true) in
    let node = parent_within lists c.loop.at c.args.key (contains-parent lists c.args.key c.loop.at up) in
    record {
      above = λ _. above_up sound.forest c.args.above c.args.key up c.loop.invariant;
      node = λ _. omega (arith, sound.paired, above-within sound.forest c.args.above c.loop.at node c.loop.invariant);
    }

pub parent-requires : goal.parent-requires
parent-requires g c =
    let lists = c.args.self.now.children in
    let sound = c.parent-up.ensures.sound in
    let up = above_next sound.forest c.args.above c.loop.at (eqb-false c.loop.at c.args.above (sym c.eq-in-loop.ensures ∙ c.if-eq-2.false)) c.loop.invariant in
    omega (arith, sound.paired, sound.forest.nodes up.0 c.loop.at (contains-parent lists c.loop.at up.0 up.1))

pub loop-preserved : goal.loop-preserved
loop-preserved g c =
    let forest = c.parent-up.ensures.sound.forest in
    let up = above_next forest c.args.above c.loop.at (eqb-false c.loop.at c.args.above (sym c.eq-in-loop.ensures ∙ c.if-eq-2.false)) c.loop.invariant in
    subst (λ (x : ℕ). IsInclusiveAncestor c.args.self.now.children c.args.above x)
    (same_Some up.0 c.in-Some.parent (sym up.1 ∙ (sym c.parent.ensures.value ∙ c.in-Some.is))) up.2
