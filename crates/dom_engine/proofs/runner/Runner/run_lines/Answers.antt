-- Each line is run behind those before it.
use Rattle.dom_base.proofs.Std.{refl, sym, subst, ◌∙◌, map, take, err_from_is_err_and}
use Rattle.dom_streams.specs.Writing.{Takes}
use Rattle.dom_streams.proofs.WriteLaws.{Takes-nil}
use Rattle.dom_engine.proofs.LineRuns.{world_after-none, shown-none, Behind, world-behind, lines_done, lines_between, one_more, around}
use Rattle.dom_engine.proofs.runner.Runner.run_lines.Goals as goal

pub loop-line-init : goal.loop-line-init
loop-line-init g c =
    let s = c.args.self.now in
    (sym (world_after-none s.session.world), refl, refl, refl, subst (Takes _ _) (sym (shown-none s.view s.session.world)) (Takes-nil _))

pub loop-line-preserved : goal.loop-line-preserved
loop-line-preserved g c =
    let i = c.loop-line.invariant in
    let e = c.in_ok-run_line.ensures in
    let at : Behind c.args.self.now.view c.args.self.now.session.world (map (λ line. line.items) (take c.loop-line.line-index c.args.lines.now))
    c.loop-line.self.view c.loop-line.self.session.world =
    record { same = i.2; world = i.0 } in
    let more = one_more (λ line. line.items) c.args.lines.now c.loop-line.line-index c.line-item.result _ c.loop-line-test.true c.line-item.is
    c.deref.ensures.value in
    (world-behind at _ more e.world, e.splitter ∙ i.1, e.view ∙ i.2, e.written.0 ∙ i.3, lines_done at _ more _ _ _ i.4 e.written.1)

pub returns-in_err-run_line-clause-written : goal.returns-in_err-run_line-clause-written
returns-in_err-run_line-clause-written g c =
    let i = c.loop-line.invariant in
    let p = err_from_is_err_and c.from_residual.result c.from_residual.ensures.1 in
    let at : Behind c.args.self.now.view c.args.self.now.session.world (map (λ line. line.items) (take c.loop-line.line-index c.args.lines.now))
    c.loop-line.self.view c.loop-line.self.session.world =
    record { same = i.2; world = i.0 } in
    rw (p.1, p.2)
    (lines_between at _ _ (around (λ line. line.items) c.args.lines.now c.loop-line.line-index c.line-item.result _ c.loop-line-test.true
    c.line-item.is c.deref.ensures.value) (record { none_failed = i.3; takes = i.4 }) _ _ _ c.in_err-run_line.ensures.written)
