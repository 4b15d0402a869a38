-- The rows are those of the tree of the node that is named.
use Rattle.dom_query_commands.proofs.Cited.{◌∙◌, told_here}
use Rattle.dom_query_commands.specs.Looks.{structure_of}
use Rattle.dom_query_commands.proofs.looks.structure.Goals as goal

pub returns-clause-rows : goal.returns-clause-rows
returns-clause-rows c =
    c.in_ok-structure_in.ensures ∙ told_here c.args.state.now _ _ _ c.in_ok-node.ensures.name (λ p x. structure_of p.trees x)
