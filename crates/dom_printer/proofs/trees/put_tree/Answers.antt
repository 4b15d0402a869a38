-- The steps of trees have the text of the trees.
use Rattle.dom_base.proofs.Std.{arith, ◌≡◌, ap, ◌∙◌, common_steps}
use Rattle.dom_text.specs.Definitions.{steps_text, trees_text}
use Rattle.dom_printer.specs.Steps.{steps_view}
use Rattle.dom_printer.proofs.TreeLaws.{steps_text-shown_steps}
use Rattle.dom_printer.proofs.trees.put_tree.Goals as goal

pub returns-clause-tree : goal.returns-clause-tree
returns-clause-tree c = λ trees e.
    let same : steps_text c.args.owner (steps_view c.args.steps.now) ≡ trees_text c.args.owner trees =
    ap (steps_text c.args.owner) e ∙ steps_text-shown_steps c.args.owner trees in
    grind (arith, common_steps, same)
