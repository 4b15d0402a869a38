use Rattle.dom_commands.proofs.Cited.{◌∙◌, sym, option_map, word_view}
use Rattle.dom_model.proofs.Model.{Command, refusal}
use Rattle.dom_commands.proofs.EventCommands.{refusal-seen}
use Rattle.dom_commands.proofs.machine.Machine.dispatch_refusal.Goals as goal

pub returns : goal.returns
returns c e =
    let said = Command.dispatch (word_view c.args.target) e (option_map word_view c.args.related) in
    c.refusal_in.ensures (refusal c.self.inside.state.world c.args.owner.now said) (c.admit_event.ensures.refusal e)
    ∙ sym (refusal-seen c.self.inside.state c.self.inside.listeners c.args.self.now c.self.view_is c.requires c.law_names_tell_nodes.ensures.there
    c.args.owner.now said)
