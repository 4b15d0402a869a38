use Rattle.dom_base.proofs.Std.{sym, ap, ◌∙◌, option_map}
use Rattle.dom_tree.specs.Definitions.{name_at}
use Rattle.dom_slots.specs.Definitions.{shadows, is_outside}
use Rattle.dom_slots.proofs.Hosted.{none-found}
use Rattle.dom_slots.proofs.slots.Slots.is_outside.Goals as goal

pub returns-in-Some : goal.returns-in-Some
returns-in-Some c =
    let f = c.args.forest.now in
    let hosts = c.args.self.now.hosts in
    let name = name_at f.names in
    none-found f.names c.law_nodes_stand_once.ensures.distinct hosts c.requires.hosts c.host_of.ensures c.root.ensures.node c.root.ensures.value
    c.is_none.ensures
    ∙ ap (λ o. is_outside (shadows f hosts) (option_map name o)) (sym c.in-Some.is)
