use Rattle.dom_base.proofs.Std.{◌≡◌, ◌++◌, map, filter, sym, ap, subst, ◌∙◌, eqb-true, or_right, list_any-append, on_ok_weaker}
use Rattle.dom_model.proofs.Model.{name_eq, is_in, slots_among, root_of, subtree}
use Rattle.dom_tree.specs.Definitions.{name_at}
use Rattle.dom_tree.proofs.Standing.{Once-forest, Has-forest}
use Rattle.dom_laws.proofs.Laws.{In, is_in-from}
use Rattle.dom_slots.specs.Definitions.{tree_slots, Renews}
use Rattle.dom_slots.proofs.Attaching.{to_filter}
use Rattle.dom_slots.proofs.Renewing.{renewed-again}
use Rattle.dom_slots.proofs.TreeSlots.{below-root}
use Rattle.dom_slots.proofs.slots.Slots.renew_below.Goals as goal

pub returns-clause-renewed : goal.returns-clause-renewed
returns-clause-renewed c =
    λ p q old done told pass r.
    let f = c.args.forest.now in
    on_ok_weaker c.renew.result
    (λ (h : Renews f c.args.self.now.hosts (map (name_at f.names) c.args.moved.now) c.args.self.now.table c.args.signals.now.items
    c.renew.new.self.table c.renew.new.signals.items).
    h p old (done ++ filter q (tree_slots f.trees (name_at f.names c.args.around))) told r) c.renew.ensures.renewed

pub returns-then-eq-clause-renewed : goal.returns-then-eq-clause-renewed
returns-then-eq-clause-renewed c =
    λ p q old done told pass r.
    let f = c.args.forest.now in
    let e = c.law_nodes_stand_once.ensures in
    let x = name_at f.names c.args.node in
    let around = name_at f.names c.args.around in
    let same : root_of f.trees x ≡ root_of f.trees around =
    sym c.root.ensures.value ∙ (ap (name_at f.names) (eqb-true c.root.result c.root-2.result (sym c.eq.ensures ∙ c.if-eq.true)) ∙ c.root-2.ensures.value) in
    renewed-again r (map (name_at f.names) c.args.moved.now)
    (λ y i.
    let there : In y (tree_slots f.trees around) =
    subst (λ t. In y (slots_among (subtree f.trees t))) same
    (below-root f (Once-forest f e.once e.only) x y (Has-forest f e.once c.args.node c.requires.node) (subst (In y) c.requires.moved i)) in
    let slots = filter q (tree_slots f.trees around) in
    list_any-append (name_eq y) done slots ∙ or_right (is_in name_eq y done) _
    (is_in-from y slots (to_filter q y (tree_slots f.trees around) (pass y (is_in-from y (map (name_at f.names) c.args.moved.now) i)) there)))
