use Rattle.dom_base.proofs.Std.{◌≡◌, true, ◌&&◌, refl, sym, ap, ◌∙◌, true≢false, is_none, option_map}
use Rattle.dom_model.proofs.Model.{parent_of}
use Rattle.dom_tree.specs.Definitions.{name_at}
use Rattle.dom_slots.specs.Definitions.{host_named, host_of_root, shadows, step_node, is_outside}
use Rattle.dom_slots.proofs.Choices.{all-three, second-fails}
use Rattle.dom_slots.proofs.Ended.{node-within}
use Rattle.dom_slots.proofs.Hosted.{none-found}
use Rattle.dom_slots.proofs.slots.Slots.is_apart.Goals as goal
use Rattle.dom_slots.proofs.slots.Slots.is_apart.Goals.{then-is_none, else-is_none}

pub returns-then-is_outside : goal.returns-then-is_outside
returns-then-is_outside c =
    let f = c.args.forest.now in
    let hosts = c.args.self.now.hosts in
    let x = name_at f.names (step_node c.args.step) in
    let last = is_outside (shadows f hosts) (parent_of f.trees x) in
    let up : c.is_outside-then-is_outside.result ≡ last =
    c.is_outside-then-is_outside.ensures ∙
    (ap (is_outside (shadows f hosts)) c.parent.ensures.value ∙ ap (λ k. is_outside (shadows f hosts) (parent_of f.trees (name_at f.names k)))
    c.node-node.ensures) in
    elim c.if-is_none.branch [
      | then-is_none w ↦
          let first : is_none (host_named f.names hosts x) ≡ true =
          sym (none-found f.names c.law_nodes_stand_once.ensures.distinct hosts c.requires.hosts
          (c.host_of.ensures ∙ ap (host_of_root hosts) c.node-node.ensures) (node-within f.names c.args.step c.requires.nodes) refl c.is_none.ensures)
          ∙ w.if-is_none.true in
          let second : is_outside (shadows f hosts) (option_map (name_at f.names) c.args.left) ≡ true =
          sym w.is_outside.ensures ∙ (sym w.value-is ∙ c.if-is_outside.true) in
          up ∙ all-three (is_none (host_named f.names hosts x)) (is_outside (shadows f hosts) (option_map (name_at f.names) c.args.left)) last first second
      | else-is_none w ↦ absurd (true≢false (sym c.if-is_outside.true ∙ (w.value-is ∙ w.if-is_none.false)))
    ]

pub returns-else-is_outside : goal.returns-else-is_outside
returns-else-is_outside c =
    let s = shadows c.args.forest.now c.args.self.now.hosts in
    let name = name_at c.args.forest.now.names in
    let x = name (step_node c.args.step) in
    let second = is_outside s (option_map name c.args.left) in
    let last = is_outside s (parent_of c.args.forest.now.trees x) in
    elim c.if-is_none.branch [
      | then-is_none w ↦
          c.if-is_outside.false ∙ second-fails (is_none (s.host_of x)) second last (sym w.is_outside.ensures ∙ (sym w.value-is ∙ c.if-is_outside.false))
      | else-is_none w ↦ c.if-is_outside.false ∙ ap (λ b. b && (second && last)) (sym w.if-is_none.false
          ∙ none-found c.args.forest.now.names c.law_nodes_stand_once.ensures.distinct c.args.self.now.hosts c.requires.hosts
          (c.host_of.ensures ∙ ap (host_of_root c.args.self.now.hosts) c.node-node.ensures) (node-within c.args.forest.now.names c.args.step c.requires.nodes)
          refl c.is_none.ensures)
    ]
