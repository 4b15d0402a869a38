-- What a call of a listener adds.
use Rattle.dom_base.proofs.Std.{ap, List, [], ◌∷◌, ◌++◌, ◌∙◌, on_ok_weaker}
use Rattle.dom_base.specs.declared.NodeName.{NodeName}
use Rattle.dom_model.specs.Output as model
use Rattle.dom_printer.specs.Records.{event_view}
use Rattle.dom_answers.specs.Parts.{part}
use Rattle.dom_answers.specs.Told.{Contents, told}
use Rattle.dom_answers.proofs.Telling.{after_error, sound-grown, told-added, told-grown, told-refused}
use Rattle.dom_answers.proofs.values.AnswerAnswers.event.Goals as goal

pub invariant_of-self : goal.invariant_of-self
invariant_of-self c = sound-grown _ _ c.call_with.new.self c.self.view_is c.in_err-call.ensures.grown c.self.invariant

pub returns-in_err-call-clause-err : goal.returns-in_err-call-clause-err
returns-in_err-call-clause-err c =
    after_error c.from_residual.result
    (told-grown _ _ c.call_with.new.self c.self.view_is c.in_err-call.ensures.grown c.self.invariant c.law_sound.ensures)

pub invariant_of-self-2 : goal.invariant_of-self-2
invariant_of-self-2 c = sound-grown _ _ c.call_with.new.self c.self.view_is c.in_ok-call.ensures.grown c.self.invariant

pub returns-clause-ok : goal.returns-clause-ok
returns-clause-ok c =
    let line : List NodeName → model.Output = λ path. model.says c.args.owner.now (model.event_seen (event_view path c.args.event.now)) in
    on_ok_weaker c.add.result (λ put path shown.
    put ∙ ap (λ (nodes : List NodeName). told c.args.self.now ++ line nodes ∷ [])
    (ap (λ (a : Contents). part a.arrays.nodes a.path) c.self.view_is ∙ shown))
    (told-added _ _ c.call_with.new.self c.self.view_is c.in_ok-call.ensures.grown c.self.invariant c.law_sound.ensures
    c.add.result c.add.new.self _ _ c.add.ensures.ok
    (ap (λ (call : model.EventLine NodeName). model.says c.args.owner.now (model.event_seen call)) c.in_ok-call.ensures.ok))

pub returns-clause-err : goal.returns-clause-err
returns-clause-err c =
    told-refused _ _ c.call_with.new.self c.self.view_is c.in_ok-call.ensures.grown c.self.invariant c.law_sound.ensures
    c.add.result c.add.new.self c.add.ensures.err
