-- By lines, and in a tree by its steps.
use Rattle.dom_answers.proofs.Shown.{text-shown}
use Rattle.dom_answers.proofs.answer.law_text.Goals as goal

pub returns : goal.returns
returns c = text-shown
