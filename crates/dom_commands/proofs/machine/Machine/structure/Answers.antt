-- A look at the documents is one at the machine's world.
use Rattle.dom_base.proofs.Std.{subst, IfOk-weaker, Option, ◌∙◌}
use Rattle.dom_model.proofs.Model.{Refusal}
use Rattle.dom_commands.proofs.Cited.{word_view}
use Rattle.dom_commands.proofs.Looking.{refused_alike, seen_alike}
use Rattle.dom_query_commands.specs.Looks.{structure_of, IsAllowed}
use Rattle.dom_commands.proofs.machine.Machine.structure.Goals as goal

pub returns-clause-allowed : goal.returns-clause-allowed
returns-clause-allowed c =
    subst (λ (e : Option Refusal). IsAllowed e c.structure.result)
    (refused_alike c.self.inside.state c.self.inside.listeners c.args.self.now c.self.view_is c.requires.listeners
    c.law_names_tell_nodes.ensures.there c.args.owner.now (word_view c.args.node)) c.structure.ensures.allowed

pub returns-clause-rows : goal.returns-clause-rows
returns-clause-rows c =
    IfOk-weaker c.structure.result _ _
    (λ rows is. is ∙ seen_alike c.self.inside.state c.self.inside.listeners c.args.self.now c.self.view_is c.requires.listeners
    c.law_names_tell_nodes.ensures.there structure_of c.args.owner.now (word_view c.args.node)) c.structure.ensures.rows
