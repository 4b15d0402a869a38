-- A look at the documents is one at the machine's world.
use Rattle.dom_base.proofs.Std.{ap, IfOk-weaker, ◌∙◌}
use Rattle.dom_admission.specs.Handled.{let_pass}
use Rattle.dom_commands.proofs.Cited.{word_view}
use Rattle.dom_commands.proofs.Looking.{refused_alike, seen_alike}
use Rattle.dom_query_commands.specs.Looks.{links_of}
use Rattle.dom_commands.proofs.machine.Machine.links.Goals as goal

pub returns-clause-passed : goal.returns-clause-passed
returns-clause-passed c =
    c.links.ensures.passed
    ∙ ap let_pass (refused_alike c.self.inside.state c.self.inside.listeners c.args.self.now c.self.view_is c.requires.listeners
    c.law_names_tell_nodes.ensures.there c.args.owner.now (word_view c.args.node))

pub returns-clause-links : goal.returns-clause-links
returns-clause-links c =
    IfOk-weaker c.links.result _ _
    (λ links is. is ∙ seen_alike c.self.inside.state c.self.inside.listeners c.args.self.now c.self.view_is c.requires.listeners
    c.law_names_tell_nodes.ensures.there links_of c.args.owner.now (word_view c.args.node)) c.links.ensures.links
