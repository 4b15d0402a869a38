use Rattle.dom_base.proofs.Std.{◌≡◌, [], filter, sym, ap, subst, ◌∙◌, OnOk, option_map, option_map_or, eqb-true, on_ok_weaker}
use Rattle.dom_model.proofs.Model.{slots_among, root_of, subtree}
use Rattle.dom_tree.specs.Definitions.{name_at}
use Rattle.dom_slots.specs.Definitions.{is_called, tree_slots, AreSilent, AreRenewed, Renews}
use Rattle.dom_slots.proofs.Attaching.{in_filter}
use Rattle.dom_slots.proofs.Renewing.{renewed-right}
use Rattle.dom_slots.proofs.TreeSlots.{slot-key}
use Rattle.dom_slots.proofs.slots.Slots.renew_left.Goals as goal

pub returns-clause-renewed : goal.returns-clause-renewed
returns-clause-renewed c =
    λ right.
    let f = c.args.forest.now in
    let hosts = c.args.self.now.hosts in
    let old = c.args.self.now.table in
    let table = c.renew_tree.new.self.table in
    let keys = c.renew_tree.new.signals.items in
    let q = is_called f.trees (option_map (λ a. a.now) c.args.name) in
    let slots = filter q (tree_slots f.trees (name_at f.names c.in-Some.left)) in
    let is = ap (λ o. filter q (option_map_or (λ k. tree_slots f.trees (name_at f.names k)) o [])) (sym c.in-Some.is ∙ c.left_behind.ensures) in
    subst (λ ys. OnOk c.renew_tree.result (AreSilent f hosts ys old table)) is
    (on_ok_weaker c.renew_tree.result
    (λ (h : Renews f hosts slots old c.new-signals.result.items table keys).
    λ p start. (keys, h p old [] [] (subst (AreRenewed f hosts p old [] [] old) (sym c.new-signals.ensures.items) start))) c.renew_tree.ensures.renewed)

pub returns-then-eq-clause-renewed : goal.returns-then-eq-clause-renewed
returns-then-eq-clause-renewed c =
    λ right p start.
    let f = c.args.forest.now in
    let hosts = c.args.self.now.hosts in
    let old = c.args.self.now.table in
    let e = c.law_nodes_stand_once.ensures in
    let around = name_at f.names c.args.around in
    let same : root_of f.trees (name_at f.names c.in-Some.left) ≡ root_of f.trees around =
    sym c.root.ensures.value ∙ (ap (name_at f.names) (eqb-true c.root.result c.root-2.result (sym c.eq.ensures ∙ c.if-eq.true)) ∙ c.root-2.ensures.value) in
    let q = is_called f.trees (option_map (λ a. a.now) c.args.name) in
    let is = ap (λ o. filter q (option_map_or (λ k. tree_slots f.trees (name_at f.names k)) o [])) (sym c.left_behind.ensures ∙ c.in-Some.is) ∙
    ap (λ r. filter q (slots_among (subtree f.trees r))) same in (
      [],
      subst (λ ys. AreRenewed f hosts p old ys (filter p ys) old []) (sym is)
          (renewed-right (filter q (tree_slots f.trees around))
          (λ y i. slot-key f record { once = e.once; only = e.only } (root_of f.trees around) y (in_filter q y (tree_slots f.trees around) i).1) right start),
    )
