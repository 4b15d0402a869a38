use Rattle.std.proofs.Common.{◌≡◌, ◌+◌, suc, None, refl, sym, ap, ◌∙◌, arith}
use Rattle.std.specs.Prelude.{slice_get}
use Rattle.node_arena.specs.Nodes.{children_of, next_of}
use Rattle.node_arena.proofs.NthChild.{next_child-at, none-behind}
use Rattle.node_arena.proofs.Arena.sibling_behind.Goals as goal

pub returns-in_err-at : goal.returns-in_err-at
returns-in_err-at g c p i at =
    let lists = c.args.self.now.children in
    let kept = c.loop.invariant in
    let none : slice_get (children_of lists p) (suc (i + c.loop.counter)) ≡ None =
    sym (next_child-at c.requires.sound.forest p (i + c.loop.counter) c.loop.at.key (kept.here p i at))
    ∙ sym (c.in_err-at.ensures.value ∙ ap (λ w. next_of w.children c.loop.at.key) kept.whole) in
    c.from_residual.ensures ∙ sym (none-behind (children_of lists p) _ (i + c.args.count) none (omega (arith, c.loop-test.true)))

pub loop-preserved : goal.loop-preserved
loop-preserved g c =
    let lists = c.args.self.now.children in
    let kept = c.loop.invariant in
    record {
      whole = c.in_ok-at.ensures.same c.in_ok-at.at refl ∙ kept.whole;
      here = λ p i at.
          ap (slice_get (children_of lists p)) (omega arith)
          ∙ (sym (next_child-at c.requires.sound.forest p (i + c.loop.counter) c.loop.at.key (kept.here p i at))
          ∙ sym (c.in_ok-at.ensures.value ∙ ap (λ w. next_of w.children c.loop.at.key) kept.whole));
    }
