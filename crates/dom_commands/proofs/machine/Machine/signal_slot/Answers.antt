use Rattle.dom_commands.proofs.Cited.{ℕ, List, None, ap, subst, ◌∙◌, name_at}
use Rattle.dom_model.proofs.Model.{dispatch_in}
use Rattle.dom_commands.proofs.Closing.{named_event, fired_sound}
use Rattle.dom_commands.proofs.machine.Machine.signal_slot.Goals as goal

pub returns-clause-told : goal.returns-clause-told
returns-clause-told g c =
    subst (λ (n : List ℕ). g.A.Answers.adds c.args.out.now
    (dispatch_in c.args.self.now.world (name_at c.args.self.now.names c.args.slot) None (named_event n)).run.1 c.fire.new.out)
    c.in_ok-from_str.ensures.ok c.in_ok-fire.ensures.told

pub returns-clause-world : goal.returns-clause-world
returns-clause-world g c =
    c.in_ok-fire.ensures.world
    ∙ ap (λ (n : List ℕ). (dispatch_in c.args.self.now.world (name_at c.args.self.now.names c.args.slot) None (named_event n)).run.0)
    c.in_ok-from_str.ensures.ok

pub returns-clause-sound : goal.returns-clause-sound
returns-clause-sound g c =
    fired_sound c.args.self.now c.fire.new.self c.requires.sound c.in_ok-fire.ensures.listeners (name_at c.args.self.now.names c.args.slot)
    (returns-clause-world g c)
