-- What a list of nodes adds.
use Rattle.dom_base.proofs.Std.{ap, List}
use Rattle.dom_base.specs.declared.NodeName.{NodeName}
use Rattle.dom_model.specs.Output as model
use Rattle.dom_answers.proofs.Telling.{after_error, sound-grown, told-added, told-grown, told-refused}
use Rattle.dom_answers.proofs.values.AnswerAnswers.reply_list.Goals as goal

pub invariant_of-self : goal.invariant_of-self
invariant_of-self g c = sound-grown _ _ c.add_names.new.self c.self.view_is c.in_err-span.ensures.grown c.self.invariant

pub returns-in_err-span-clause-err : goal.returns-in_err-span-clause-err
returns-in_err-span-clause-err g c =
    after_error c.from_residual.result
    (told-grown _ _ c.add_names.new.self c.self.view_is c.in_err-span.ensures.grown c.self.invariant c.law_sound.ensures)

pub invariant_of-self-2 : goal.invariant_of-self-2
invariant_of-self-2 g c = sound-grown _ _ c.add_names.new.self c.self.view_is c.in_ok-span.ensures.grown c.self.invariant

pub returns-clause-ok : goal.returns-clause-ok
returns-clause-ok g c =
    told-added _ _ c.add_names.new.self c.self.view_is c.in_ok-span.ensures.grown c.self.invariant c.law_sound.ensures
    c.add.result c.add.new.self _ _ c.add.ensures.ok
    (ap (λ (nodes : List NodeName). model.says c.args.owner.now (model.replied (model.a_list nodes))) c.in_ok-span.ensures.ok.1)

pub returns-clause-err : goal.returns-clause-err
returns-clause-err g c =
    told-refused _ _ c.add_names.new.self c.self.view_is c.in_ok-span.ensures.grown c.self.invariant c.law_sound.ensures
    c.add.result c.add.new.self c.add.ensures.err
