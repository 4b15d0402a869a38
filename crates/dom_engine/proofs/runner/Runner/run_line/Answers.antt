-- A line's answers are those of a run over this one line.
use Rattle.dom_base.proofs.Std.{List, ℕ, ◌++◌, sym, ap, refl, ◌∙◌, ◌∷◌, [], err_from_is_err_and}
use Rattle.dom_model.proofs.Model.{step}
use Rattle.dom_text.specs.Definitions.{decode, output_text}
use Rattle.dom_streams.specs.Views.{viewed}
use Rattle.dom_streams.proofs.WriteLaws.{ends_as, on_ok}
use Rattle.dom_engine.proofs.LineRuns.{none_written, answers-one, world_after-one}
use Rattle.dom_engine.proofs.runner.Runner.run_line.Goals as goal

pub returns-in_err-put_line-clause-written : goal.returns-in_err-put_line-clause-written
returns-in_err-put_line-clause-written g c =
    let p = err_from_is_err_and c.from_residual.result c.from_residual.ensures.1 in
    rw (p.1, p.2) (refl, none_written _ c.args.self.now.view c.args.self.now.session.world (c.args.line.now ∷ []))

pub returns-clause-written : goal.returns-clause-written
returns-clause-written g c =
    let w = c.args.self.now.session.world in
    let said = output_text (step w (decode c.args.line.now)).1 in
    let text = c.deref.ensures.value ∙ c.in_ok-put_line.ensures.text ∙ ap (λ (xs : List ℕ). xs ++ said) c.clear.ensures.items ∙
    sym (answers-one w c.args.line.now) in
    ends_as _ _ _ _ (ap (viewed c.args.self.now.view) text) (λ (x : ⊥). absurd x) c.write.result c.write.ensures

pub returns-clause-world : goal.returns-clause-world
returns-clause-world g c = on_ok c.write.result
    (ap (λ s. s.world) c.in_ok-put_line.ensures.world ∙ sym (world_after-one c.args.self.now.session.world c.args.line.now))
