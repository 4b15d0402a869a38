use Rattle.std.proofs.Common.{None, length, sym, ap, ◌∙◌}
use Rattle.std.proofs.lemmas.List.{length-map}
use Rattle.dom_tree.specs.Definitions.{name_at}
use Rattle.dom_slots.specs.Definitions.{shadows}
use Rattle.dom_path.specs.Definitions.{item_named}
use Rattle.dom_callers.proofs.Hosting.{widgets-attached, items-long}
use Rattle.dom_callers.proofs.widgets.count_widget_visits.Goals as goal

pub returns : goal.returns
returns c =
    let f = c.args.forest.now in
    let hosts = c.args.slots.now.hosts in
    let hosted = c.law_hosts_nest.ensures.attached f hosts 1 (widgets-attached f hosts c.law_nodes_stand_once.ensures.order c.requires.widgets) in
    let p = c.in_ok-path.ensures.hosted 1 hosted in (
      p.shown.nodes,
      p.shown.path,
      ap length c.items.ensures.items ∙ sym (length-map c.in_ok-path.path.items (item_named f.names)) ∙ ap length p.items_are
          ∙ items-long (shadows f hosts) 1 (name_at f.names c.args.target) None None p.shown.nodes,
    )
