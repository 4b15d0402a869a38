-- What a label adds.
use Rattle.dom_base.proofs.Std.{ap, List, ℕ}
use Rattle.dom_model.specs.Output as model
use Rattle.dom_answers.proofs.Parts.{bytes-held}
use Rattle.dom_answers.proofs.Telling.{told-added, told-refused}
use Rattle.dom_answers.proofs.values.AnswerAnswers.microtask.Goals as goal

pub returns-clause-ok : goal.returns-clause-ok
returns-clause-ok c =
    told-added _ _ c.add_bytes.new.self c.self.view_is c.in_ok-label.ensures.grown c.self.invariant c.law_sound.ensures
    c.add.result c.add.new.self _ _ c.add.ensures.ok
    (ap (λ (label : List ℕ). model.says c.args.owner.now (model.micro_ran label))
    (bytes-held _ c.add_bytes.new.self _ c.in_ok-label.label c.in_ok-label.ensures.ok c.in_ok-label.ensures.span).1)

pub returns-clause-err : goal.returns-clause-err
returns-clause-err c =
    told-refused _ _ c.add_bytes.new.self c.self.view_is c.in_ok-label.ensures.grown c.self.invariant c.law_sound.ensures
    c.add.result c.add.new.self c.add.ensures.err
