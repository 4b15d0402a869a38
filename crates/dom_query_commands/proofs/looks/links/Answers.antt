-- They are those of the node that is named.
use Rattle.dom_query_commands.proofs.Cited.{◌∙◌, told_here}
use Rattle.dom_query_commands.specs.Looks.{links_of}
use Rattle.dom_query_commands.proofs.looks.links.Goals as goal

pub returns-clause-links : goal.returns-clause-links
returns-clause-links c = c.links_in.ensures ∙ told_here c.args.state.now _ _ _ c.in_ok-node.ensures.name (λ p x. links_of p.trees x)
