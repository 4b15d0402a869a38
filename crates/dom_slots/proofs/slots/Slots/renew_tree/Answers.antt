use Rattle.dom_base.proofs.Std.{◌≡◌, ℕ, ◌<◌, Bool, List, filter, Some, length, map, refl, sym, ap, subst, ◌∙◌, OnOk, option_map}
use Rattle.dom_model.proofs.Model.{NodeName, slots_among, root_of, subtree}
use Rattle.dom_tree.specs.Definitions.{NamedTrees, name_at}
use Rattle.dom_tree.proofs.Standing.{Once-forest, Has-forest}
use Rattle.dom_laws.proofs.Laws.{In}
use Rattle.dom_slots.specs.Definitions.{host_named, root_named, tree_slots, Renews, waiting_under}
use Rattle.dom_slots.proofs.Hosted.{host-found, root-named, host-node}
use Rattle.dom_slots.proofs.Joining.{same-option}
use Rattle.dom_slots.proofs.Serving.{all-served}
use Rattle.dom_slots.proofs.TreeSlots.{slot-root}
use Rattle.dom_slots.proofs.slots.Slots.renew_tree.Goals as goal

-- the keys of the slots of the tree of a node
of-tree : (f : NamedTrees) (q : NodeName → Bool) (x : NodeName) {ks js : List ℕ} {top : NodeName} → ks ≡ js →
    map (name_at f.names) js ≡ filter q (slots_among (subtree f.trees top)) → top ≡ root_of f.trees x →
    map (name_at f.names) ks ≡ filter q (tree_slots f.trees x)
of-tree f q x same are root = ap (map (name_at f.names)) same ∙ (are ∙ ap (λ r. filter q (slots_among (subtree f.trees r))) root)

pub waiting_for-requires-clause-host : goal.waiting_for-requires-clause-host
waiting_for-requires-clause-host c =
    host-node c.args.forest.now.names c.args.self.now.hosts c.requires.hosts c.root-root.result c.in-Some.host (sym c.host_of.ensures ∙ c.in-Some.is)

pub renew_waiting-requires-clause-served : goal.renew_waiting-requires-clause-served
renew_waiting-requires-clause-served c =
    let f = c.args.forest.now in
    let hosts = c.args.self.now.hosts in
    let e = c.law_nodes_stand_once.ensures in
    let once = Once-forest f e.once e.only in
    let x = name_at f.names c.args.node in
    let key = c.root-root.result in
    let host = c.in-Some.host in
    let root = name_at f.names key in
    let node : host < length f.names = host-node f.names hosts c.requires.hosts key host (sym c.host_of.ensures ∙ c.in-Some.is) in
    let hosted : host_named f.names hosts root ≡ Some (name_at f.names host) =
    sym (host-found f.names e.distinct hosts c.requires.hosts (sym c.in-Some.is ∙ c.host_of.ensures) c.root-root.ensures.node refl) in
    let shadow : root_named f.names hosts (name_at f.names host) ≡ Some root =
    sym (root-named f.names e.distinct hosts c.requires.hosts host node) ∙
    ap (option_map (name_at f.names)) (sym c.root_of.ensures ∙ same-option c.root_of.result (Some key) (sym c.eq.ensures ∙ c.if-eq.true)) in
    all-served f once hosts root (name_at f.names host) (Has-forest f e.once host node) hosted shadow
    (λ y i.
    slot-root f once x y (Has-forest f e.once c.args.node c.requires.node)
    (subst (λ t. In y (slots_among (subtree f.trees t))) c.root-root.ensures.value i)
    ∙ sym c.root-root.ensures.value)
    (waiting_under c.in_ok-waiting-in-Some.waiting) (option_map (λ a. a.now) c.args.name) c.in_ok-waiting-in-Some.ensures.names c.deref.result.now
    (ap (map (name_at f.names)) c.deref.ensures.value ∙ c.in_ok-slots.ensures.value)

pub returns-in-Some-clause-renewed : goal.returns-in-Some-clause-renewed
returns-in-Some-clause-renewed c =
    subst (λ xs. OnOk c.renew_waiting.result (Renews c.args.forest.now c.args.self.now.hosts xs c.args.self.now.table c.args.signals.now.items
    c.renew_waiting.new.self.table c.renew_waiting.new.signals.items))
    (of-tree c.args.forest.now _ _ c.deref.ensures.value c.in_ok-slots.ensures.value c.root-root.ensures.value) c.renew_waiting.ensures.renewed

pub returns-clause-renewed : goal.returns-clause-renewed
returns-clause-renewed c =
    subst (λ xs. OnOk c.renew.result (Renews c.args.forest.now c.args.self.now.hosts xs c.args.self.now.table c.args.signals.now.items
    c.renew.new.self.table c.renew.new.signals.items))
    (of-tree c.args.forest.now _ _ c.deref-in_default.ensures.value c.in_ok-slots.ensures.value c.root-root.ensures.value) c.renew.ensures.renewed
