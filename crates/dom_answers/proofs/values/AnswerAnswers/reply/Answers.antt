-- What a value that is no tree adds.
use Rattle.dom_base.proofs.Std.{ap, ◌∙◌}
use Rattle.dom_model.specs.Output as model
use Rattle.dom_answers.proofs.Telling.{after_error, shown-value, sound-grown, told-added, told-grown, told-refused}
use Rattle.dom_answers.proofs.values.AnswerAnswers.reply.Goals as goal

pub invariant_of-self : goal.invariant_of-self
invariant_of-self c = sound-grown _ _ c.reply_with.new.self c.self.view_is c.in_err-reply.ensures.grown c.self.invariant

pub returns-in_err-reply-clause-err : goal.returns-in_err-reply-clause-err
returns-in_err-reply-clause-err c =
    after_error c.from_residual.result
    (told-grown _ _ c.reply_with.new.self c.self.view_is c.in_err-reply.ensures.grown c.self.invariant c.law_sound.ensures)

pub invariant_of-self-2 : goal.invariant_of-self-2
invariant_of-self-2 c = sound-grown _ _ c.reply_with.new.self c.self.view_is c.in_ok-reply.ensures.grown c.self.invariant

pub returns-clause-ok : goal.returns-clause-ok
returns-clause-ok c =
    told-added _ _ c.reply_with.new.self c.self.view_is c.in_ok-reply.ensures.grown c.self.invariant c.law_sound.ensures
    c.add.result c.add.new.self _ _ c.add.ensures.ok
    (ap (λ (v : model.Value). model.says c.args.owner.now (model.replied v)) (c.in_ok-reply.ensures.ok ∙ shown-value c.args.value.now))

pub returns-clause-err : goal.returns-clause-err
returns-clause-err c =
    told-refused _ _ c.reply_with.new.self c.self.view_is c.in_ok-reply.ensures.grown c.self.invariant c.law_sound.ensures
    c.add.result c.add.new.self c.add.ensures.err
