use Rattle.dom_query_commands.proofs.Cited.{◌∷◌, [], Ok, ap, refl, Command, a_list, answers, children_of, word_view, Any, told_here, may_act, reads, refused}
use Rattle.dom_query_commands.proofs.Cited.{namings}
use Rattle.dom_query_commands.proofs.reads.children.Goals as goal

pub returns-in_err-node-clause-handled : goal.returns-in_err-node-clause-handled
returns-in_err-node-clause-handled g c =
    refused g.A.Answers.adds _ _ _ (Any c.args.node ∷ []) _ _ (search namings) c.in_err-node.ensures.passed refl c.from_residual.ensures.1

pub returns-clause-handled : goal.returns-clause-handled
returns-clause-handled g c =
    reads g.A.Answers.adds {c = Command.children (word_view c.args.node)}
    (may_act _ _ _ (Any c.args.node ∷ []) (search namings) c.in_ok-node.ensures.passed refl) _ _ _
    (Ok tt) refl refl (ap (answers _) (ap a_list (told_here c.args.state.now _ _ _ c.in_ok-node.ensures.key.name (λ p x. children_of p.trees x))))
    (refl, c.open_turn.ensures.world, c.in_ok-reply_children.ensures)
