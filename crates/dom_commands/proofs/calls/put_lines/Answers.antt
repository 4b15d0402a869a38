-- Each line has the path of its number, and so has the one whose path is ready.
use Rattle.dom_commands.proofs.Cited.{arith, ap, append-nil, subst, sym, ◌∙◌, ◌≡◌, ◌++◌, ◌∷◌, [], List, map, take, common_steps}
use Rattle.dom_commands.proofs.Cited.{HasPathOf, line_shown, path_named}
use Rattle.dom_base.proofs.Std.{◌+◌}
use Rattle.dom_model.proofs.Model.{Output}
use Rattle.dom_commands.proofs.EventLines.{every}
use Rattle.dom_commands.proofs.calls.put_lines.Goals.{then-not-has_path_of+in_ok-set-2, else-not-has_path_of}
use Rattle.dom_commands.proofs.calls.put_lines.Goals as goal

pub put_line-requires-clause-path : goal.put_line-requires-clause-path
put_line-requires-clause-path g c =
    let paths = c.requires.numbered.paths in
    let each = c.requires.numbered.each in
    let i = c.loop-line.invariant in
    let line : HasPathOf paths c.line-item.result = subst (HasPathOf paths) (sym c.line-item.is)
    (every (HasPathOf paths) c.args.lines.now each c.loop-line.line-index c.line-item.result c.loop-line-test.true) in
    rw c.text.ensures (elim c.if-not-has_path_of.branch [
      | then-not-has_path_of+in_ok-set-2 w ↦ rw (w.path-is, w.out-is) w.in_ok-set-2.ensures.shown
      | else-not-has_path_of w ↦ rw (
        w.path-is,
        w.out-is,
        ← c.has_path_of.ensures.owner w.if-not-has_path_of.false,
        ← c.has_path_of.ensures.path w.if-not-has_path_of.false c.args.forest.now.names paths line (i.numbered paths each),
      ) i.ready
    ])

pub loop-line-preserved : goal.loop-line-preserved
loop-line-preserved g c =
    let i = c.loop-line.invariant in
    let shown = line_shown c.args.forest.now.names in
    let so_far = map shown (take c.loop-line.line-index c.args.lines.now) in
    let one_more : so_far ++ shown c.line-item.result ∷ [] ≡ map shown (take (c.loop-line.line-index + 1) c.args.lines.now) =
    grind (arith, common_steps) in
    let told : g.A.Answers.adds c.args.out.now so_far c.if-not-has_path_of.out = elim c.if-not-has_path_of.branch [
      | then-not-has_path_of+in_ok-set-2 w ↦ rw w.out-is (subst (λ (os : List Output). g.A.Answers.adds c.args.out.now os w.set-then-not-has_path_of.new.out)
          (append-nil so_far) (g.met.A.Answers.more _ _ _ _ _ i.told w.in_ok-set-2.ensures.same))
      | else-not-has_path_of w ↦ rw w.out-is i.told
    ] in
    record {
      told = subst (λ (os : List Output). g.A.Answers.adds c.args.out.now os c.put_line.new.out) one_more
          (g.met.A.Answers.more _ _ _ _ _ told c.in_ok-put_line.ensures.told);
      ready = c.in_ok-put_line.ensures.shown _ _ _ (elim c.if-not-has_path_of.branch [
        | then-not-has_path_of+in_ok-set-2 w ↦ rw (w.path-is, w.out-is, w.shown-is) w.in_ok-set-2.ensures.shown
        | else-not-has_path_of w ↦ rw (w.path-is, w.out-is, w.shown-is) i.ready
      ]);
      numbered = λ paths each. elim c.if-not-has_path_of.branch [
        | then-not-has_path_of+in_ok-set-2 w ↦ subst (HasPathOf paths) (sym (ap (λ s. s.now) w.shown-is ∙ c.line-item.is))
            (every (HasPathOf paths) c.args.lines.now each c.loop-line.line-index c.line-item.result c.loop-line-test.true)
        | else-not-has_path_of w ↦ subst (HasPathOf paths) (sym (ap (λ s. s.now) w.shown-is)) (i.numbered paths each)
      ];
    }
