-- The text of the ending is written, and the flush keeps it.
use Rattle.dom_base.proofs.Std.{sym, ap, ◌∙◌, [], append-nil, err_from_is_err_and}
use Rattle.dom_streams.specs.Views.{viewed}
use Rattle.dom_streams.proofs.WriteLaws.{ends_behind, ends_as, stops_as}
use Rattle.dom_engine.proofs.LineRuns.{ending-is}
use Rattle.dom_engine.proofs.runner.Runner.run_ending.Goals as goal

pub returns-in_err-write : goal.returns-in_err-write
returns-in_err-write g c =
    let text = c.deref.ensures.value ∙ c.in_ok-text.ensures.text ∙ sym (ending-is c.args.self.now.session.world) in
    let p = err_from_is_err_and c.from_residual-in_err-write.result c.from_residual-in_err-write.ensures.1 in
    rw (p.1, p.2) (stops_as _ _ _ _ (ap (viewed c.args.self.now.view) text) (λ (x : ⊥). absurd x) _ c.in_err-write.ensures)

pub returns : goal.returns
returns g c =
    let text = c.deref.ensures.value ∙ c.in_ok-text.ensures.text ∙ sym (ending-is c.args.self.now.session.world) in
    let shown = ap (viewed c.args.self.now.view) text in
    ends_as _ _ _ _ (append-nil _ ∙ shown) (λ (x : ⊥). absurd x) c.flush.result
    (ends_behind (record { none_failed = c.in_ok-write.ensures.0; takes = c.in_ok-write.ensures.1 }) c.flush.result _ _ [] ⊥ c.flush.ensures.written)
