use Rattle.dom_commands.proofs.Cited.{subst, command_view, IsHandled, MachineNow, machine_now}
use Rattle.dom_commands.proofs.Machines.{IsCarriedOut, plain_handled, kept_at, seen_at, seen_reached, seen_first_nodes}
use Rattle.dom_commands.proofs.machine.Machine.perform_plain.Goals as goal

pub perform-requires-clause-first : goal.perform-requires-clause-first
perform-requires-clause-first g c = seen_first_nodes c.self.inside.state c.self.inside.listeners c.args.self.now c.self.view_is c.requires.sound
    c.law_names_tell_nodes.ensures.there

pub returns-clause-handled : goal.returns-clause-handled
returns-clause-handled g c =
    let s = c.self.inside.state in
    let t = c.perform.new.state in
    let ls = c.self.inside.listeners in
    let o = c.args.owner.now in
    let said = command_view c.args.command.now in
    let before = c.args.out.now in
    let after = c.perform.new.out in
    let done : IsCarriedOut g.A.Answers.adds s t o said before after c.perform.result =
    record { names = c.perform.ensures.names; handled = c.perform.ensures.handled } in
    subst (λ (m : MachineNow). IsHandled g.A.Answers.adds o said m.world (machine_now t ls).world before after c.perform.result) c.self.view_is
    (plain_handled s t ls c.law_names_tell_nodes.ensures.there (seen_at s ls c.args.self.now c.self.view_is c.requires.sound)
    g.A.Answers.adds done
    (seen_reached s ls c.args.self.now c.self.view_is c.requires.sound) c.requires.plain)

pub returns-clause-listeners : goal.returns-clause-listeners
returns-clause-listeners g c =
    let s = c.self.inside.state in
    let ls = c.self.inside.listeners in
    kept_at s c.perform.new.state ls c.law_names_tell_nodes.ensures.there (seen_at s ls c.args.self.now c.self.view_is c.requires.sound)
    c.perform.result c.perform.ensures.names
