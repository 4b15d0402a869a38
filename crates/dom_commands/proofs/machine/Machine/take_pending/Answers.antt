use Rattle.dom_commands.proofs.Cited.{◌≡◌, ◌<◌, ℕ, All, List, length, map, ap, subst, sym, ◌∙◌, name_at, DocState}
use Rattle.dom_model.proofs.Model.{NodeName, World, part_of, with_part, is_there}
use Rattle.dom_mutation.specs.Definitions.{none_pending}
use Rattle.dom_commands.proofs.ToldOwners.{there_in, pending_in, taken_world, taken_sound, taken_slots}
use Rattle.dom_commands.proofs.machine.Machine.take_pending.Goals as goal

pub take_pending-requires : goal.take_pending-requires
take_pending-requires c =
    ap (λ (w : World). is_there w c.args.owner.now) c.in_ok-keys.ensures.world
    ∙ there_in c.self.inside.state c.self.inside.listeners c.args.self.now c.self.view_is c.requires.sound c.law_names_tell_nodes.ensures.there
    c.args.owner.now c.requires.there

pub names_of-requires : goal.names_of-requires
names_of-requires c =
    subst (λ (ks : List ℕ). All (λ k. k < length c.forest.result.now.names) ks) (sym c.as_slice.ensures.value)
    (subst (λ (ns : List NodeName). All (λ k. k < length ns) c.in_ok-keys.keys.items)
    (sym (c.forest.ensures.names ∙ c.in_ok-observers.ensures.names ∙ c.in_ok-keys.ensures.names)) c.in_ok-keys.ensures.nodes)

pub returns : goal.returns
returns c =
    let s = c.self.inside.state in
    let ls = c.self.inside.listeners in
    let m = c.args.self.now in
    let o = c.args.owner.now in
    let u = c.take_pending.new.state in
    let there = c.law_names_tell_nodes.ensures.there in
    let names : u.names ≡ s.names = c.in_ok-observers.ensures.names ∙ c.in_ok-keys.ensures.names in
    let world = c.in_ok-observers.ensures.world ∙ ap (λ (w : World). with_part w (none_pending (part_of w o))) c.in_ok-keys.ensures.world in
    record {
      observers = c.in_ok-observers.ensures.numbers ∙ ap (λ (w : World). (part_of w o).pending) c.in_ok-keys.ensures.world
          ∙ pending_in s ls m c.self.view_is c.requires.sound there o;
      slots = c.in_ok-slots.ensures ∙ ap (λ (ns : List NodeName). map (name_at ns) c.as_slice.result.now) c.forest.ensures.names
          ∙ ap (map (name_at u.names)) c.as_slice.ensures.value
          ∙ taken_slots s ls m c.self.view_is c.requires.sound there o u c.requires.there names world c.in_ok-keys.keys.items c.in_ok-keys.ensures.keys;
      world = taken_world s ls m c.self.view_is c.requires.sound there o u c.requires.there names world;
      sound = taken_sound s ls m c.self.view_is c.requires.sound there o u c.requires.there names world;
    }
