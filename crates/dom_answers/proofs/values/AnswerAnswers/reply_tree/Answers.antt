-- What a tree adds.
use Rattle.dom_answers.proofs.Telling.{after_error, shown-tree, sound-grown, told-added, told-grown, told-refused}
use Rattle.dom_answers.proofs.values.AnswerAnswers.reply_tree.Goals as goal

pub invariant_of-self : goal.invariant_of-self
invariant_of-self c = sound-grown _ _ c.add_tree.new.self c.self.view_is c.in_err-span.ensures.grown c.self.invariant

pub returns-in_err-span-clause-err : goal.returns-in_err-span-clause-err
returns-in_err-span-clause-err c =
    after_error c.from_residual.result
    (told-grown _ _ c.add_tree.new.self c.self.view_is c.in_err-span.ensures.grown c.self.invariant c.law_sound.ensures)

pub invariant_of-self-2 : goal.invariant_of-self-2
invariant_of-self-2 c = sound-grown _ _ c.add_tree.new.self c.self.view_is c.in_ok-span.ensures.grown c.self.invariant

pub returns-clause-ok : goal.returns-clause-ok
returns-clause-ok c =
    λ trees e. told-added _ _ c.add_tree.new.self c.self.view_is c.in_ok-span.ensures.grown c.self.invariant c.law_sound.ensures
    c.add.result c.add.new.self _ _ c.add.ensures.ok
    (shown-tree c.args.owner.now trees _ _ c.in_ok-span.ensures.ok e)

pub returns-clause-err : goal.returns-clause-err
returns-clause-err c =
    told-refused _ _ c.add_tree.new.self c.self.view_is c.in_ok-span.ensures.grown c.self.invariant c.law_sound.ensures
    c.add.result c.add.new.self c.add.ensures.err
