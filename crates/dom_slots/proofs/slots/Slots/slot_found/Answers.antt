use Rattle.dom_base.proofs.Std.{ap, sym, ◌∙◌, option_map}
use Rattle.dom_tree.specs.Definitions.{name_at}
use Rattle.dom_slots.specs.Definitions.{shadows}
use Rattle.dom_slots.proofs.Hosted.{root-named, root-node, slot-rootless, slot-searched}
use Rattle.dom_slots.proofs.slots.Slots.slot_found.Goals as goal

pub returns-in_err-root-clause-value : goal.returns-in_err-root-clause-value
returns-in_err-root-clause-value c =
    ap (option_map (name_at c.args.forest.now.names)) c.from_residual-in_err-root.ensures
    ∙ slot-rootless c.args.forest.now c.law_nodes_stand_once.ensures.distinct c.args.self.now.hosts c.requires.hosts
    (name_at c.args.forest.now.names c.args.node) c.in_ok-parent.ensures.value (c.parent.ensures.node c.in_ok-parent.parent c.in_ok-parent.was)
    c.in_err-root.ensures

pub first_called-requires-clause-root : goal.first_called-requires-clause-root
first_called-requires-clause-root c = root-node c.args.forest.now.names c.args.self.now.hosts c.requires.hosts c.in_ok-parent.parent c.in_ok-root.root
    (sym c.in_ok-root.ensures)

pub returns-clause-value : goal.returns-clause-value
returns-clause-value c =
    let f = c.args.forest.now in
    let hosts = c.args.self.now.hosts in
    let p = c.in_ok-parent.parent in
    c.first_called.ensures.value
    ∙ slot-searched (shadows f hosts) (name_at f.names c.args.node) (name_at f.names p) c.in_ok-parent.ensures.value
    (name_at f.names c.in_ok-root.root) c.in_ok-name.name.now
    (ap (option_map (name_at f.names)) c.in_ok-root.ensures ∙ root-named f.names c.law_nodes_stand_once.ensures.distinct hosts c.requires.hosts p
    (c.parent.ensures.node p c.in_ok-parent.was))
    c.in_ok-name.ensures
