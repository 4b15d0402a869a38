use Rattle.dom_commands.proofs.Cited.{◌∙◌}
use Rattle.dom_commands.proofs.ToldOwners.{count_in}
use Rattle.dom_commands.proofs.machine.Machine.observer_count.Goals as goal

pub returns : goal.returns
returns c =
    c.count_of.ensures
    ∙ count_in c.self.inside.state c.self.inside.listeners c.args.self.now c.self.view_is c.requires c.law_names_tell_nodes.ensures.there c.args.owner.now
