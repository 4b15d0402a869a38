use Rattle.dom_query_commands.proofs.Cited.{◌∷◌, ◌∙◌, [], ap, refl, answers, node_in, node_or_null, Any, told_here, may_act, reads, refused, namings}
use Rattle.dom_query_commands.proofs.reads.document_of.Goals as goal

pub returns-in_err-node-clause-handled : goal.returns-in_err-node-clause-handled
returns-in_err-node-clause-handled g c =
    refused g.A.Answers.adds _ _ _ (Any c.args.node ∷ []) _ _ (search namings) c.in_err-node.ensures.passed refl c.from_residual.ensures.1

pub returns-clause-handled : goal.returns-clause-handled
returns-clause-handled g c =
    reads g.A.Answers.adds (may_act _ _ _ (Any c.args.node ∷ []) (search namings) c.in_ok-node.ensures.passed refl) _ _ _ _ refl refl
    (ap (answers _) ((rw c.document_of.ensures.value at c.node_or_null-value.ensures)
    ∙ ap node_or_null (told_here c.args.state.now _ _ _ c.in_ok-node.ensures.key.name (λ p x. (node_in p.trees x).document)))) c.accept.ensures.done
