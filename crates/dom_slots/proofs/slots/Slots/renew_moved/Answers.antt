use Rattle.dom_base.proofs.Std.{◌≡◌, inr, true, ◌++◌, map, filter, sym, ap, subst, ◌∙◌, append_assoc, true≢false, or_left, or_right, true_from_ne_false}
use Rattle.dom_base.proofs.Std.{filter-append, list_any-append, on_ok_weaker, option_map}
use Rattle.dom_model.proofs.Model.{NodeName, name_eq, is_in, slots_among, subtree}
use Rattle.dom_tree.specs.Definitions.{name_at}
use Rattle.dom_laws.proofs.Laws.{filter-all, is_in-from}
use Rattle.dom_slots.specs.Definitions.{is_called, tree_slots, slots_around, left_slots, AreRight, AreSilent, AreRenewed, step_node}
use Rattle.dom_slots.proofs.Parked.{parked-same}
use Rattle.dom_slots.proofs.slots.Slots.renew_moved.Goals as goal

pub returns-clause-renewed : goal.returns-clause-renewed
returns-clause-renewed c =
    λ p old done told r.
    let f = c.args.forest.now in
    let hosts = c.args.self.now.hosts in
    let step = c.args.change.step in
    let around = name_at f.names c.args.around in
    let name = option_map (λ a. a.now) c.moved_name-name.result in
    let q = is_called f.trees name in
    let a = filter q (tree_slots f.trees around) in
    let b = slots_among (subtree f.trees (name_at f.names (step_node step))) in
    let mid = c.renew_below.new.self.table in
    let keys = c.renew_below.new.signals.items in
    let below : map (name_at f.names) c.args.moved.now ≡ b = c.requires.moved in
    let hosts_then : c.renew_tree.new.self.hosts ≡ hosts = c.in_ok-renew_tree.ensures.hosts in
    let hosts_now : c.renew_below.new.self.hosts ≡ hosts = c.in_ok-renew_below.ensures.hosts ∙ hosts_then in
    let called : (y : NodeName) → is_in name_eq y b ≡ true → q y ≡ true =
    λ y i. true_from_ne_false _ (λ off. true≢false (sym ((c.moved_name-name.ensures y off).1 y i) ∙ off)) in
    let first = c.in_ok-renew_tree.ensures.renewed p old done told r in
    let second : AreRenewed f hosts p old ((done ++ a) ++ b) ((told ++ filter p a) ++ filter p b) mid keys =
    subst (λ ys. AreRenewed f hosts p old ((done ++ a) ++ ys) ((told ++ filter p a) ++ filter p ys) mid keys) below
    (subst (λ hs. AreRenewed f hs p old ((done ++ a) ++ map (name_at f.names) c.args.moved.now)
    ((told ++ filter p a) ++ filter p (map (name_at f.names) c.args.moved.now)) mid keys) hosts_then
    (c.in_ok-renew_below.ensures.renewed p q old done (told ++ filter p a) (λ y i. called y (ap (is_in name_eq y) (sym below) ∙ i))
    (subst (λ hs. AreRenewed f hs p old (done ++ a) (told ++ filter p a) c.renew_tree.new.self.table c.renew_tree.new.signals.items)
    (sym hosts_then) first))) in
    let slots : a ++ b ≡ filter q (slots_around f hosts step around) =
    ap (λ ys. a ++ ys) (sym (filter-all q b (λ y i. called y (is_in-from y b i)))) ∙ sym (filter-append q (tree_slots f.trees around) b) in
    let both : AreRenewed f hosts p old (done ++ filter q (slots_around f hosts step around)) (told ++ filter p (filter q (slots_around f hosts step around)))
    mid keys =
    subst (λ ys. AreRenewed f hosts p old (done ++ ys) (told ++ filter p ys) mid keys) slots
    (subst (λ ys. AreRenewed f hosts p old ys (told ++ filter p (a ++ b)) mid keys) (append_assoc done a b)
    (subst (λ ys. AreRenewed f hosts p old ((done ++ a) ++ b) ys mid keys)
    (append_assoc told (filter p a) (filter p b) ∙ ap (λ ys. told ++ ys) (sym (filter-append p a b))) second)) in
    let right : AreRight f c.renew_below.new.self.hosts a mid =
    subst (λ hs. AreRight f hs a mid) (sym hosts_now)
    (λ k within i.
    second.renewed k within
    (list_any-append (name_eq (name_at f.names k)) (done ++ a) b
    ∙ or_left _ _ (list_any-append (name_eq (name_at f.names k)) done a ∙ or_right (is_in name_eq (name_at f.names k) done) _ i))) in
    on_ok_weaker c.renew_left.result
    (λ (h : AreSilent f c.renew_below.new.self.hosts (filter q (left_slots f c.renew_below.new.self.hosts step c.args.change.left)) mid
    c.renew_left.new.self.table).
    inr (
      name,
      c.moved_name-name.ensures,
      mid,
      both,
      subst (λ hs. AreSilent f hs (filter q (left_slots f hs step c.args.change.left)) mid c.renew_left.new.self.table) hosts_now h,
    ))
    (c.renew_left.ensures.renewed right)

pub renew_left-requires-clause-parked : goal.renew_left-requires-clause-parked
renew_left-requires-clause-parked c =
    parked-same c.args.self.now c.renew_below.new.self (c.in_ok-renew_below.ensures.hosts ∙ c.in_ok-renew_tree.ensures.hosts)
    (c.in_ok-renew_below.ensures.hints ∙ c.in_ok-renew_tree.ensures.hints) c.requires.parked
