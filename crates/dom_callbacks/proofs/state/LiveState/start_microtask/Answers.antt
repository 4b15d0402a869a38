use Rattle.dom_base.proofs.Std.{◌∙◌, ap, sym, subst, ◌∷◌, []}
use Rattle.dom_model.specs.Output.{says, micro_ran}
use Rattle.dom_model.specs.World.{World}
use Rattle.dom_live.specs.Documents.{Live}
use Rattle.dom_callbacks.specs.States.{live_of}
use Rattle.dom_callbacks.proofs.TaskRuns.{micro-live, micro-plain, with_tasks}
use Rattle.dom_callbacks.proofs.Views.{bare-state}
use Rattle.dom_callbacks.proofs.state.LiveState.start_microtask.Goals as goal

pub returns-then-take_first-clause-ran : goal.returns-then-take_first-clause-ran
returns-then-take_first-clause-ran g c =
    let world = g.D.Documents.world in
    let s = live_of world c.args.self.now in
    let o = c.args.owner in
    let left = c.take_first.new.tasks.items in
    micro-live g.A.Answers.adds s (with_tasks s left) (live_of world c.push.new.self) o c.args.label.items c.args.answer.now c.microtask.new.self
    (ap (λ (t : Live World). with_tasks t left) (bare-state world c.args.self.now)) (ap (with_tasks s) c.take_first.ensures.rest)
    c.in_ok-push.ensures.state (sym c.take_first.ensures.live ∙ c.if-take_first.true)
    (subst (λ t. g.A.Answers.adds c.args.answer.now (says o (micro_ran t) ∷ []) c.microtask.new.self) c.as_slice.ensures.value
    c.in_ok-microtask.ensures.ok)

pub returns-clause-ran : goal.returns-clause-ran
returns-clause-ran g c =
    let world = g.D.Documents.world in
    let s = live_of world c.args.self.now in
    let o = c.args.owner in
    let left = c.take_first.new.tasks.items in
    micro-plain g.A.Answers.adds s (with_tasks s left) (with_tasks s left) o c.args.label.items c.args.answer.now c.microtask.new.self
    (ap (λ (t : Live World). with_tasks t left) (bare-state world c.args.self.now)) (ap (with_tasks s) c.take_first.ensures.rest)
    (sym c.take_first.ensures.live ∙ c.if-take_first.false)
    (subst (λ t. g.A.Answers.adds c.args.answer.now (says o (micro_ran t) ∷ []) c.microtask.new.self) c.as_slice.ensures.value
    c.in_ok-microtask.ensures.ok)
