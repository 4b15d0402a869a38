use Rattle.dom_base.proofs.Std.{Some, sym, ap, ◌∙◌, option_map}
use Rattle.dom_tree.specs.Definitions.{name_at}
use Rattle.dom_slots.proofs.Hosted.{host-found}
use Rattle.dom_slots.proofs.Joining.{same-option}
use Rattle.dom_slots.proofs.slots.Slots.is_of_parent.Goals as goal

pub returns-in-Some : goal.returns-in-Some
returns-in-Some c =
    λ told.
    let f = c.args.forest.now in
    let up = same-option c.parent.result (Some c.in-Some.host) (sym c.eq.ensures ∙ told) in (
      name_at f.names c.in-Some.host,
      sym (host-found f.names c.law_nodes_stand_once.ensures.distinct c.args.self.now.hosts c.requires.hosts (sym c.in-Some.is ∙ c.host_of.ensures)
          c.root.ensures.node c.root.ensures.value),
      sym c.parent.ensures.value ∙ ap (option_map (name_at f.names)) up,
    )
