use Rattle.dom_path.proofs.Cited.{◌≡◌, None, refl, sym, ap, subst, ◌∙◌, option_map, name_at, root_named, shadows, root-named, root-node, slot-no_root}
use Rattle.dom_path.proofs.Cited.{SlotBelow, IsSlotBelow}
use Rattle.dom_path.proofs.path_node.PathNode.slot_below.Goals as goal

pub returns-in_err-root-clause-value : goal.returns-in_err-root-clause-value
returns-in_err-root-clause-value c =
    let f = c.args.forest.now in
    let hosts = c.args.slots.now.hosts in
    let none : c.root_of.result ≡ None = c.in_err-root.was in
    let no_root : None ≡ root_named f.names hosts (name_at f.names c.args.parent) =
    ap (option_map (name_at f.names)) (sym none ∙ c.root_of.ensures) ∙ root-named f.names c.law_nodes_stand_once.ensures.distinct hosts
    c.requires.slots.hosts c.args.parent c.requires.parent_is_node in
    ap (option_map (λ (x : SlotBelow). name_at f.names x.slot)) c.from_residual.ensures
    ∙ slot-no_root (shadows f hosts) (name_at f.names c.args.self.now.node) (name_at f.names c.args.parent) c.requires.parent no_root

pub returns-clause-below : goal.returns-clause-below
returns-clause-below c = λ p e.
    let f = c.args.forest.now in
    let hosts = c.args.slots.now.hosts in
    let found : SlotBelow = record { root = c.in_ok-root.root; slot = c.in_ok-slot.slot } in
    let same : found ≡ p = cc in
    subst (IsSlotBelow f hosts c.args.parent) same (record {
      slot_node = c.in_ok-slot.ensures.node c.in_ok-slot.slot refl;
      root_node = root-node f.names hosts c.requires.slots.hosts c.args.parent c.in_ok-root.root (sym c.in_ok-root.ensures);
      attached = sym (root-named f.names c.law_nodes_stand_once.ensures.distinct hosts c.requires.slots.hosts c.args.parent c.requires.parent_is_node)
          ∙ ap (option_map (name_at f.names)) (sym c.in_ok-root.ensures);
    })
