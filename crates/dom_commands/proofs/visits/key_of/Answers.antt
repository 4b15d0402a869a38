use Rattle.dom_commands.proofs.Cited.{◌≡◌, true, subst, sym, ◌∙◌}
use Rattle.dom_model.proofs.Model.{NodeName, has_node, part_of}
use Rattle.dom_commands.proofs.HeardNodes.{name_at_owner}
use Rattle.dom_commands.proofs.visits.key_of.Goals as goal

pub key-requires : goal.key-requires
key-requires c =
    let w = c.args.state.now.world in
    let x = c.args.node in
    subst (λ (y : NodeName). has_node (part_of w x.owner).trees y ≡ true) (sym (name_at_owner w x)) c.requires

pub returns-clause-name : goal.returns-clause-name
returns-clause-name c = c.key.ensures.name ∙ name_at_owner c.args.state.now.world c.args.node
