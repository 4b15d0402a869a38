use Rattle.dom_commands.proofs.Cited.{◌∙◌, refl, sym}
use Rattle.dom_commands.proofs.HeardNodes.{listens_there, listens_not}
use Rattle.dom_commands.proofs.machine.Machine.listens.Goals as goal

pub returns-in-Some : goal.returns-in-Some
returns-in-Some c =
    c.listens.ensures
    ∙ listens_there c.self.inside.state c.self.inside.listeners c.args.self.now c.self.view_is c.requires c.law_names_tell_nodes.ensures.distinct
    c.law_names_tell_nodes.ensures.there c.args.node.now c.in-Some.key (c.in-Some.ensures.found _ refl).0
    (c.in-Some.ensures.found _ refl).1 c.args.event.now c.args.label.now c.args.capture

pub returns-in-None : goal.returns-in-None
returns-in-None c =
    sym (listens_not c.self.inside.state c.self.inside.listeners c.args.self.now c.self.view_is c.requires c.law_names_tell_nodes.ensures.distinct
    c.law_names_tell_nodes.ensures.there c.args.node.now (sym c.in-None.ensures.presence) c.args.event.now c.args.label.now c.args.capture)
