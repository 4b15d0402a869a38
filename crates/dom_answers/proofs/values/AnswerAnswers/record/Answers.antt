-- What a change adds.
use Rattle.dom_base.proofs.Std.{ap}
use Rattle.dom_base.specs.declared.NodeName.{NodeName}
use Rattle.dom_model.specs.Output as model
use Rattle.dom_answers.proofs.Telling.{after_error, sound-grown, told-added, told-grown, told-refused}
use Rattle.dom_answers.proofs.values.AnswerAnswers.record.Goals as goal

pub invariant_of-self : goal.invariant_of-self
invariant_of-self c = sound-grown _ _ c.mutation_with.new.self c.self.view_is c.in_err-mutation.ensures.grown c.self.invariant

pub returns-in_err-mutation-clause-err : goal.returns-in_err-mutation-clause-err
returns-in_err-mutation-clause-err c =
    after_error c.from_residual.result
    (told-grown _ _ c.mutation_with.new.self c.self.view_is c.in_err-mutation.ensures.grown c.self.invariant c.law_sound.ensures)

pub invariant_of-self-2 : goal.invariant_of-self-2
invariant_of-self-2 c = sound-grown _ _ c.mutation_with.new.self c.self.view_is c.in_ok-mutation.ensures.grown c.self.invariant

pub returns-clause-ok : goal.returns-clause-ok
returns-clause-ok c =
    told-added _ _ c.mutation_with.new.self c.self.view_is c.in_ok-mutation.ensures.grown c.self.invariant c.law_sound.ensures
    c.add.result c.add.new.self _ _ c.add.ensures.ok
    (ap (λ (change : model.Change NodeName). model.says c.args.owner.now (model.recorded c.args.observer change)) c.in_ok-mutation.ensures.ok)

pub returns-clause-err : goal.returns-clause-err
returns-clause-err c =
    told-refused _ _ c.mutation_with.new.self c.self.view_is c.in_ok-mutation.ensures.grown c.self.invariant c.law_sound.ensures
    c.add.result c.add.new.self c.add.ensures.err
