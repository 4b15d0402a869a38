use Rattle.dom_base.proofs.Std.{◌≡◌, [], map, ap, sym, subst, ◌∙◌, IfOk, option_map_or}
use Rattle.dom_tree.specs.Definitions.{name_at}
use Rattle.dom_slots.specs.Definitions.{shadows, assigned_under}
use Rattle.dom_slots.proofs.Hosted.{host-found, host-node}
use Rattle.dom_slots.proofs.slots.Slots.assigned_now.Goals as goal

pub assigned_under-requires-clause-host_is_node : goal.assigned_under-requires-clause-host_is_node
assigned_under-requires-clause-host_is_node c =
    host-node c.args.forest.now.names c.args.self.now.hosts c.requires.hosts c.root.result c.in-Some.host (sym c.host_of.ensures ∙ c.in-Some.is)

pub returns-in-Some-clause-value : goal.returns-in-Some-clause-value
returns-in-Some-clause-value c =
    let f = c.args.forest.now in
    let hosts = c.args.self.now.hosts in
    subst (λ xs. IfOk c.assigned_under.result (λ keys. map (name_at f.names) keys.items ≡ xs))
    (ap (λ o. option_map_or (assigned_under (shadows f hosts) (name_at f.names c.args.slot)) o [])
    (host-found f.names c.law_nodes_stand_once.ensures.distinct hosts c.requires.hosts (sym c.in-Some.is ∙ c.host_of.ensures) c.root.ensures.node
    c.root.ensures.value)) c.assigned_under.ensures.value

pub returns-in-None-clause-value : goal.returns-in-None-clause-value
returns-in-None-clause-value c =
    let f = c.args.forest.now in
    let hosts = c.args.self.now.hosts in
    ap (map (name_at f.names)) c.new.ensures.items ∙ ap (λ o. option_map_or (assigned_under (shadows f hosts) (name_at f.names c.args.slot)) o [])
    (host-found f.names c.law_nodes_stand_once.ensures.distinct hosts c.requires.hosts (sym c.in-None.is ∙ c.host_of.ensures) c.root.ensures.node
    c.root.ensures.value)
