use Rattle.dom_base.proofs.Std.{◌≡◌, ℕ, true, false, [], ◌∷◌, filter, option_map, Option, Some, None, sym, ap, subst, ◌∙◌, eqb-true, eq-eqb, true≢false}
use Rattle.dom_base.proofs.Std.{is_some}
use Rattle.dom_model.proofs.Model.{slots_among, subtree}
use Rattle.dom_tree.specs.Definitions.{name_at}
use Rattle.dom_tree.proofs.Standing.{Has-forest}
use Rattle.dom_slots.specs.Definitions.{bearer_at, is_called, name_code, SlotsNow}
use Rattle.dom_slots.proofs.Indexed.{nobody-called, only-called, other-called, same-only}
use Rattle.dom_slots.proofs.Rooted.{root-alone}
use Rattle.dom_slots.proofs.slots.Slots.called.Goals.{else-has_name-via-then-has_name+else-eq, else-has_name-via-else-has_name}
use Rattle.dom_slots.proofs.slots.Slots.called.Goals as goal

-- a root that has a host, and one that has no parent, as the code tests it
host-there : (o : Option ℕ) {q : Option ℕ} → o ≡ q → is_some o ≡ true → (h : ℕ) × (q ≡ Some h)
host-there None e is = absurd (true≢false (sym is))
host-there (Some h) e is = (h, sym e)

no-parent : {X : Type 0} (g : ℕ → X) (o : Option ℕ) {p : Option X} → option_map g o ≡ p → false ≡ is_some o → p ≡ None
no-parent g None e is = sym e
no-parent g (Some x) e is = absurd (true≢false (sym is))

pub returns-in_err-bearer-clause-none : goal.returns-in_err-bearer-clause-none
returns-in_err-bearer-clause-none c = λ is.
    let f = c.args.forest.now in
    let e = c.law_nodes_stand_once.ensures in
    let host = host-there c.host_of.result c.host_of.ensures c.if-is_none.ensures in
    nobody-called f record { once = e.once; only = e.only } c.args.self.now.hosts c.args.self.now.index c.requires.indexed c.args.root c.requires.root
    c.args.name.now host.0 host.1
    (root-alone f.trees (name_at f.names c.args.root) (Has-forest f e.once c.args.root c.requires.root)
    (no-parent (name_at f.names) c.parent.result c.parent.ensures.value c.if-is_some.ensures))
    (ap (λ (s : SlotsNow). bearer_at s.index (name_code c.args.root c.args.name.now)) (sym c.self.view_is) ∙ sym c.in_err-bearer.ensures)

pub returns-then-eq-clause-only : goal.returns-then-eq-clause-only
returns-then-eq-clause-only c = λ s is.
    let f = c.args.forest.now in
    let e = c.law_nodes_stand_once.ensures in
    let host = host-there c.host_of.result c.host_of.ensures c.if-is_none.ensures in
    subst (λ k. name_at f.names k ∷ [] ≡ filter (is_called f.trees (Some c.args.name.now)) (slots_among (subtree f.trees (name_at f.names c.args.root))))
    (same-only is)
    (only-called f record { once = e.once; only = e.only } c.args.self.now.hosts c.args.self.now.index c.requires.indexed c.args.root c.requires.root
    c.args.name.now host.0 host.1
    (root-alone f.trees (name_at f.names c.args.root) (Has-forest f e.once c.args.root c.requires.root)
    (no-parent (name_at f.names) c.parent.result c.parent.ensures.value c.if-is_some.ensures)) c.in-Only.slot
    (ap (λ (s : SlotsNow). bearer_at s.index (name_code c.args.root c.args.name.now)) (sym c.self.view_is)
    ∙ (sym c.in_ok-bearer.ensures ∙ ap Some c.in-Only.is))
    (sym c.has_name.ensures ∙ c.if-has_name.true)
    (sym c.root.ensures.value ∙ ap (name_at f.names) (eqb-true c.root.result c.args.root (sym c.if-eq.ensures))))

pub returns-clause-none : goal.returns-clause-none
returns-clause-none c = λ is.
    let f = c.args.forest.now in
    let e = c.law_nodes_stand_once.ensures in
    let host = host-there c.host_of.result c.host_of.ensures c.if-is_none.ensures in
    other-called f record { once = e.once; only = e.only } c.args.self.now.hosts c.args.self.now.index c.requires.indexed c.args.root c.requires.root
    c.args.name.now host.0 host.1
    (root-alone f.trees (name_at f.names c.args.root) (Has-forest f e.once c.args.root c.requires.root)
    (no-parent (name_at f.names) c.parent.result c.parent.ensures.value c.if-is_some.ensures)) c.in-Only.slot
    (ap (λ (s : SlotsNow). bearer_at s.index (name_code c.args.root c.args.name.now)) (sym c.self.view_is)
    ∙ (sym c.in_ok-bearer.ensures ∙ ap Some c.in-Only.is))
    (λ hit at. elim c.else-has_name.branch [
      | else-has_name-via-then-has_name+else-eq w ↦
          true≢false (sym (eq-eqb w.root.result c.args.root
          (c.law_nodes_stand_once.ensures.distinct w.root.result c.args.root w.root.ensures.node c.requires.root (w.root.ensures.value ∙ at)))
          ∙ sym w.if-eq.ensures)
      | else-has_name-via-else-has_name w ↦ true≢false (sym (c.has_name.ensures ∙ hit) ∙ w.if-has_name.false)
    ])
