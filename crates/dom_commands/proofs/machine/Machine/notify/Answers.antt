use Rattle.dom_commands.proofs.Cited.{List, map, ap, subst, ◌∙◌, name_at, machine_now}
use Rattle.dom_model.proofs.Model.{Output}
use Rattle.dom_commands.proofs.Closing.{told_there, told_lines, told_world, told_is_sound, told_slots, notify_world, notify_telling}
use Rattle.dom_commands.proofs.machine.Machine.notify.Goals as goal

pub tell_observers-requires : goal.tell_observers-requires
tell_observers-requires g c =
    told_there c.self.inside.state c.take_signals.new.state c.take_signals.new.state c.self.inside.listeners c.args.self.now c.self.view_is
    c.requires.sound c.law_names_tell_nodes.ensures.there c.args.owner c.requires.there
    c.in_ok-slots.ensures.names c.in_ok-slots.ensures.world

pub signal_slots-requires-clause-sound : goal.signal_slots-requires-clause-sound
signal_slots-requires-clause-sound g c =
    told_is_sound c.self.inside.state c.take_signals.new.state c.tell_observers.new.state c.self.inside.listeners c.args.self.now c.self.view_is
    c.requires.sound c.law_names_tell_nodes.ensures.there c.args.owner c.requires.there
    c.in_ok-slots.ensures.names c.in_ok-slots.ensures.world c.in_ok-tell_observers.ensures.names c.in_ok-tell_observers.ensures.world

pub returns : goal.returns
returns g c =
    let s = c.self.inside.state in
    let t = c.take_signals.new.state in
    let u = c.tell_observers.new.state in
    let ls = c.self.inside.listeners in
    let m = c.args.self.now in
    let o = c.args.owner in
    let before = c.args.out.now in
    let names = c.in_ok-slots.ensures.names in
    let world = c.in_ok-slots.ensures.world in
    let there = c.law_names_tell_nodes.ensures.there in
    let told = told_world s t u ls m c.self.view_is c.requires.sound there o c.requires.there names world c.in_ok-tell_observers.ensures.names
    c.in_ok-tell_observers.ensures.world in
    let are = told_slots s t u ls m c.self.view_is c.requires.sound there o c.requires.there names world c.in_ok-tell_observers.ensures.names
    c.in_ok-tell_observers.ensures.world c.in_ok-slots.slots.items c.in_ok-slots.ensures.keys in
    record {
      told = notify_telling m.world (machine_now u ls).world o told (map (name_at u.names) c.as_slice.result.now)
          (ap (map (name_at u.names)) c.as_slice.ensures.value ∙ are) g.A.Answers.adds g.met.A.Answers.more before c.tell_observers.new.out
          c.signal_slots.new.out
          (subst (λ (os : List Output). g.A.Answers.adds before os c.tell_observers.new.out)
          (told_lines s t u ls m c.self.view_is c.requires.sound there o c.requires.there names world) c.in_ok-tell_observers.ensures.told)
          c.signal_slots.result
          c.signal_slots.ensures.told;
      world = notify_world m.world (machine_now u ls).world o told (map (name_at u.names) c.as_slice.result.now)
          (ap (map (name_at u.names)) c.as_slice.ensures.value ∙ are) c.signal_slots.new.self.world c.signal_slots.result c.signal_slots.ensures.world;
      sound = c.signal_slots.ensures.sound;
    }
