use Rattle.dom_base.proofs.Std.{None, Some, refl, ap, ◌∙◌, option_map}
use Rattle.dom_tree.specs.Definitions.{name_at}
use Rattle.dom_slots.proofs.Indexed.{first-called}
use Rattle.dom_slots.proofs.slots.Slots.first_called.Goals as goal

pub returns-in_err-slot-clause-value : goal.returns-in_err-slot-clause-value
returns-in_err-slot-clause-value c =
    let f = c.args.forest.now in
    let e = c.law_nodes_stand_once.ensures in
    ap (option_map (name_at f.names)) c.from_residual.ensures
    ∙ first-called f record { once = e.once; only = e.only } c.args.self.now.hosts c.args.self.now.index c.requires.indexed c.args.root c.requires.root
    c.args.name.now None (c.in_err-slot.ensures.none refl)

pub returns-in-Only-clause-value : goal.returns-in-Only-clause-value
returns-in-Only-clause-value c =
    let f = c.args.forest.now in
    let e = c.law_nodes_stand_once.ensures in
    first-called f record { once = e.once; only = e.only } c.args.self.now.hosts c.args.self.now.index c.requires.indexed c.args.root c.requires.root
    c.args.name.now (Some (name_at f.names c.in-Only.slot)) (c.in_ok-slot.ensures.only c.in-Only.slot (ap Some c.in-Only.is))
