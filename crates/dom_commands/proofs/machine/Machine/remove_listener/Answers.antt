use Rattle.dom_commands.proofs.Cited.{ℕ, List, ap, refl, subst, sym, ◌∙◌, IsAtRest, machine_now}
use Rattle.dom_model.proofs.Model.{Listener}
use Rattle.dom_commands.proofs.HeardNodes.{removed_there, removed_sound, removed_not}
use Rattle.dom_commands.proofs.machine.Machine.remove_listener.Goals as goal

pub returns-in-Some : goal.returns-in-Some
returns-in-Some c =
    let s = c.self.inside.state in
    let there = removed_there s c.self.inside.listeners c.args.self.now c.self.view_is c.requires c.law_names_tell_nodes.ensures.distinct
    c.law_names_tell_nodes.ensures.there c.args.node.now c.in-Some.key (c.in-Some.ensures.found _ refl).0 (c.in-Some.ensures.found _ refl).1 c.args.event.now
    c.args.label.now c.args.capture in
    let sound = removed_sound s c.self.inside.listeners c.args.self.now c.self.view_is c.requires c.law_names_tell_nodes.ensures.distinct
    c.law_names_tell_nodes.ensures.there c.args.node.now c.in-Some.key (c.in-Some.ensures.found _ refl).0 (c.in-Some.ensures.found _ refl).1 c.args.event.now
    c.args.label.now c.args.capture in
    record {
      world = ap (λ (ls : List (Listener ℕ)). (machine_now s ls).world) c.take.ensures ∙ there;
      sound = subst (λ (ls : List (Listener ℕ)). IsAtRest (machine_now s ls)) (sym c.take.ensures) sound;
    }

pub returns-in_default-clause-world : goal.returns-in_default-clause-world
returns-in_default-clause-world c =
    removed_not c.self.inside.state c.self.inside.listeners c.args.self.now c.self.view_is c.requires c.law_names_tell_nodes.ensures.distinct
    c.law_names_tell_nodes.ensures.there c.args.node.now (sym c.in_default.ensures.presence) c.args.event.now c.args.label.now c.args.capture
