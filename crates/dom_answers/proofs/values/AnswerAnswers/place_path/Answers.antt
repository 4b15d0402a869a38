-- What the nodes of a path add: no item.
use Rattle.dom_answers.proofs.Telling.{sound-grown, told-grown}
use Rattle.dom_answers.proofs.values.AnswerAnswers.place_path.Goals as goal

pub invariant_of-self : goal.invariant_of-self
invariant_of-self c = sound-grown _ _ c.add_nodes.new.self c.self.view_is c.in_err-self-inside.ensures.grown c.self.invariant

pub returns-in_err-self-inside-clause-same : goal.returns-in_err-self-inside-clause-same
returns-in_err-self-inside-clause-same c =
    told-grown _ _ c.add_nodes.new.self c.self.view_is c.in_err-self-inside.ensures.grown c.self.invariant c.law_sound.ensures

pub invariant_of-self-2 : goal.invariant_of-self-2
invariant_of-self-2 c = record {
  items = (sound-grown _ _ c.add_nodes.new.self c.self.view_is c.in_ok-self-inside.ensures.grown c.self.invariant).items;
  path = c.in_ok-self-inside.ensures.ok.0;
}

pub returns-clause-same : goal.returns-clause-same
returns-clause-same c = told-grown _ _ c.add_nodes.new.self c.self.view_is c.in_ok-self-inside.ensures.grown c.self.invariant c.law_sound.ensures
