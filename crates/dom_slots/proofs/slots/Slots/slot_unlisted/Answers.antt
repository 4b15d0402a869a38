use Rattle.dom_base.proofs.Std.{◌≡◌, false, None, Some, Option, refl, sym, ap, ◌∙◌, true≢false, is_some, option_map}
use Rattle.dom_tree.specs.Definitions.{name_at}
use Rattle.dom_tree.proofs.Standing.{Once-forest, Has-forest}
use Rattle.dom_slots.proofs.Hosted.{root-named, root-node, host-found, slot-rootless}
use Rattle.dom_slots.proofs.Joining.{same-option}
use Rattle.dom_slots.proofs.Unlisted.{unlisted-none}
use Rattle.dom_slots.proofs.slots.Slots.slot_unlisted.Goals as goal

pub returns-in_err-root-clause-value : goal.returns-in_err-root-clause-value
returns-in_err-root-clause-value c =
    ap (option_map (name_at c.args.forest.now.names)) c.from_residual-in_err-root.ensures
    ∙ slot-rootless c.args.forest.now c.law_nodes_stand_once.ensures.distinct c.args.self.now.hosts c.requires.slots.hosts
    (name_at c.args.forest.now.names c.args.node) c.in_ok-parent.ensures.value (c.parent.ensures.node c.in_ok-parent.parent c.in_ok-parent.was)
    c.in_err-root.ensures

pub parent-requires-2 : goal.parent-requires-2
parent-requires-2 c = root-node c.args.forest.now.names c.args.self.now.hosts c.requires.slots.hosts c.in_ok-parent.parent c.in_ok-root.root
    (sym c.in_ok-root.ensures)

-- what is not there is none
absent : {X : Type 0} (o : Option X) → is_some o ≡ false → o ≡ None
absent None e = refl
absent (Some x) e = absurd (true≢false e)

pub returns-then-eq-clause-value : goal.returns-then-eq-clause-value
returns-then-eq-clause-value c =
    let f = c.args.forest.now in
    let hosts = c.args.self.now.hosts in
    let e = c.law_nodes_stand_once.ensures in
    let name = name_at f.names in
    let n = c.args.node in
    let p = c.in_ok-parent.parent in
    let r = c.in_ok-root.root in
    let within = root-node f.names hosts c.requires.slots.hosts p r (sym c.in_ok-root.ensures) in
    let host_is = same-option c.host_of.result (Some p) (sym c.eq.ensures ∙ c.if-eq.true) in
    unlisted-none f record { once = e.once; only = e.only } (Once-forest f e.once e.only) e.distinct hosts c.args.self.now.table
    c.requires.slots.table n c.requires.node_is_node c.requires.unlisted (Has-forest f e.once n c.requires.node_is_node) (name p) (name r)
    (sym c.in_ok-parent.ensures.value) (sym
    (ap (option_map name) c.in_ok-root.ensures ∙ root-named f.names e.distinct hosts c.requires.slots.hosts p
    (c.parent.ensures.node p c.in_ok-parent.was)))
    (sym (host-found f.names e.distinct hosts c.requires.slots.hosts (sym host_is ∙ c.host_of.ensures) within refl))
    (Has-forest f e.once r within)
    (sym c.parent-2.ensures.value ∙ ap (option_map name) (absent c.parent-2.result c.if-is_none.ensures))
