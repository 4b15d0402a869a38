use Rattle.std.proofs.Common.{◌≡◌, Some, refl, sym, ap, ◌∙◌, arith}
use Rattle.std.proofs.lemmas.Option.{same_Some}
use Rattle.node_arena.specs.Nodes.{prev_of}
use Rattle.node_arena.proofs.Indexes.{same_option, other_option}
use Rattle.node_arena.proofs.FirstKnown.{behind_ends, behind_none, behind_step, behind_least}
use Rattle.node_arena.proofs.Arena.walk_back.Goals as goal

pub loop-index-init : goal.loop-index-init
loop-index-init g c = rw c.at-at.ensures record { whole = refl; behind = c.requires.behind; counted = refl }

pub loop-index-preserved : goal.loop-index-preserved
loop-index-preserved g c =
    let kept = c.loop-index.invariant in
    let first = kept.behind in
    let prev = sym (c.in-Some.ensures.value ∙ ap (λ w. prev_of w.children c.loop-index.at.key) kept.whole) in
    let step = behind_step c.requires.sound.forest first.behind prev
    (λ e. other_option c.args.last (Some c.key.result) (sym c.eq.ensures ∙ c.if-eq.false) (first.ends ∙ (e ∙ ap Some (sym c.key.ensures.value)))) in
    record {
      whole = c.in-Some.ensures.same c.in-Some.before refl ∙ kept.whole;
      behind = record { known = first.known; behind = step.0; counted = first.counted; ends = first.ends };
      counted = omega (arith, step.1, kept.counted);
    }

pub returns-in_default-clause-below : goal.returns-in_default-clause-below
returns-in_default-clause-below g c i is =
    let kept = c.loop-index.invariant in
    let first = kept.behind in
    let prev = sym (c.in_default.ensures.value ∙ ap (λ w. prev_of w.children c.loop-index.at.key) kept.whole) in
    let none = behind_none c.args.self.now.children c.requires.sound.forest first.known c.loop-index.at.key first.behind prev in
    let here = behind_ends c.args.self.now.children c.requires.sound.forest first.known c.loop-index.at.key first.behind (prev ∙ sym none) in
    let index : c.loop-index.index ≡ i = same_Some _ _ is in
    (omega (arith, here, index, first.counted, kept.counted), omega (arith, index, c.loop-index-test.true))

pub returns-then-eq-clause-below : goal.returns-then-eq-clause-below
returns-then-eq-clause-below g c i is =
    let kept = c.loop-index.invariant in
    let first = kept.behind in
    let prev = sym (c.in-Some.ensures.value ∙ ap (λ w. prev_of w.children c.loop-index.at.key) kept.whole) in
    let same = same_option c.args.last (Some c.key.result) (sym c.eq.ensures ∙ c.if-eq.true) in
    let here = behind_ends c.args.self.now.children c.requires.sound.forest first.known c.loop-index.at.key first.behind
    (prev ∙ (ap Some (sym c.key.ensures.value) ∙ (sym same ∙ first.ends))) in
    let index : c.loop-index.index ≡ i = same_Some _ _ is in
    (omega (arith, here, index, first.counted, kept.counted), omega (arith, index, c.loop-index-test.true))

pub returns-clause-none : goal.returns-clause-none
returns-clause-none g c is =
    let kept = c.loop-index.invariant in
    let first = kept.behind in
    let least = behind_least c.args.self.now.children first.known c.loop-index.at.key first.behind in
    omega (arith, least, first.counted, kept.counted, c.loop-index-test.false)
