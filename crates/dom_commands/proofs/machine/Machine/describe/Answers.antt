-- A look at the documents is one at the machine's world.
use Rattle.dom_base.proofs.Std.{subst, OnOk, Option, ◌∷◌, []}
use Rattle.dom_model.proofs.Model.{a_tree, replied, says, Refusal, Trees}
use Rattle.dom_commands.proofs.Cited.{word_view}
use Rattle.dom_commands.proofs.Looking.{refused_alike, seen_alike}
use Rattle.dom_query_commands.specs.Looks.{node_alone, IsAllowed}
use Rattle.dom_commands.proofs.machine.Machine.describe.Goals as goal

pub returns-clause-allowed : goal.returns-clause-allowed
returns-clause-allowed g c =
    subst (λ (e : Option Refusal). IsAllowed e c.describe.result)
    (refused_alike c.self.inside.state c.self.inside.listeners c.args.self.now c.self.view_is c.requires.listeners
    c.law_names_tell_nodes.ensures.there c.args.owner.now (word_view c.args.node)) c.describe.ensures.allowed

pub returns-clause-told : goal.returns-clause-told
returns-clause-told g c =
    subst (λ (ts : Trees). OnOk c.describe.result (g.A.Answers.adds c.args.out.now (says c.args.owner.now (replied (a_tree ts)) ∷ []) c.describe.new.out))
    (seen_alike c.self.inside.state c.self.inside.listeners c.args.self.now c.self.view_is c.requires.listeners
    c.law_names_tell_nodes.ensures.there node_alone c.args.owner.now (word_view c.args.node)) c.describe.ensures.told
