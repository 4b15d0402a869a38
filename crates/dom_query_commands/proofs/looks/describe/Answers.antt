-- The node is the one that is named.
use Rattle.dom_query_commands.proofs.Cited.{◌∷◌, [], Trees, a_tree, replied, says, subst, told_here}
use Rattle.dom_query_commands.specs.Looks.{node_alone}
use Rattle.dom_query_commands.proofs.looks.describe.Goals as goal

pub returns-clause-told : goal.returns-clause-told
returns-clause-told g c =
    subst (λ (ts : Trees). g.A.Answers.adds c.args.out.now (says c.args.owner (replied (a_tree ts)) ∷ []) c.reply_node.new.out)
    (told_here c.args.state.now _ _ _ c.in_ok-node.ensures.name (λ p x. node_alone p.trees x)) c.in_ok-reply_node.ensures.ok
