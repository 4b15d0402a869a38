use Rattle.dom_query_commands.proofs.Cited.{◌∷◌, ◌∙◌, [], ap, refl, NodeName, answers, a_truth, is_inclusive_ancestor, named, part_of, name_in, trees_in}
use Rattle.dom_query_commands.proofs.Cited.{word_view, Any, told_here, may_act, reads, refused, namings}
use Rattle.dom_query_commands.proofs.reads.contains.Goals as goal

pub returns-in_err-above-clause-handled : goal.returns-in_err-above-clause-handled
returns-in_err-above-clause-handled g c =
    refused g.A.Answers.adds _ _ _ (Any c.args.above ∷ Any c.args.node ∷ []) _ _ (search namings) c.in_err-above.ensures.passed refl c.from_residual.ensures.1

pub returns-clause-handled : goal.returns-clause-handled
returns-clause-handled g c =
    let s = c.args.state.now in
    let keys = c.in_ok-above.ensures in
    let above = named (part_of s.world c.args.owner) (word_view c.args.above) in
    reads g.A.Answers.adds (may_act _ _ _ (Any c.args.above ∷ Any c.args.node ∷ []) (search namings) keys.passed refl) _ _ _ _ refl refl
    (ap (answers _) (ap a_truth (c.is_above-truth.ensures
    ∙ ap (λ (y : NodeName). is_inclusive_ancestor (trees_in s c.in_ok-above.node) y (name_in s c.in_ok-above.node)) keys.first.name
    ∙ told_here s _ _ _ keys.second.name (λ p x. is_inclusive_ancestor p.trees above x)))) c.accept.ensures.done
