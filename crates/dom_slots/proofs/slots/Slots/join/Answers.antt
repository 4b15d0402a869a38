use Rattle.dom_base.proofs.Std.{◌≡◌, ℕ, ◌++◌, true, not, filter, sym, ap, subst, ◌∙◌, nat_eq, if◌then◌else◌, option_to_list, OnOk, option_map, on_ok_weaker}
use Rattle.dom_model.proofs.Model.{append_once, list_eq}
use Rattle.dom_tree.specs.Definitions.{name_at}
use Rattle.dom_tree.proofs.Standing.{Once-forest, Has-forest}
use Rattle.node_arena.specs.Nodes.{insert_before}
use Rattle.dom_slots.specs.Definitions.{SlotsNow, AreRenewed, Renews, SlotTable, list_of}
use Rattle.dom_slots.proofs.Joining.{inserted-differs, joined, not-listed, joined-inside}
use Rattle.dom_slots.proofs.Leaving.{at-slot}
use Rattle.dom_slots.proofs.Renewing.{renewed-more}
use Rattle.dom_slots.proofs.slots.Slots.join.Goals as goal

pub returns-then-not-is_of_parent-clause-renewed : goal.returns-then-not-is_of_parent-clause-renewed
returns-then-not-is_of_parent-clause-renewed c =
    λ right.
    subst (λ o. OnOk c.renew.result (Renews c.args.forest.now c.args.self.now.hosts (option_to_list (option_map (name_at c.args.forest.now.names) o))
    c.args.self.now.table c.args.signals.now.items c.renew.new.self.table c.renew.new.signals.items)) (sym c.in-Some.is) c.renew.ensures.renewed

pub returns-clause-renewed : goal.returns-clause-renewed
returns-clause-renewed c =
    λ right.
    let f = c.args.forest.now in
    let e = c.law_nodes_stand_once.ensures in
    let once = Once-forest f e.once e.only in
    let s = c.args.self.now in
    let k = c.in-Some.key in
    let node = c.args.node in
    let x = name_at f.names node in
    let list = list_of s.table k in
    let before = c.sibling_behind-before.result in
    let new = insert_before list node before in
    let keys = c.args.signals.now.items in
    let tables : c.self.inside.table ≡ s.table = ap (λ (t : SlotsNow). t.table) c.self.view_is in
    let under = c.is_of_parent.ensures c.if-not-is_of_parent.false in
    let at = Has-forest f e.once node c.requires.node in
    let own = sym c.requires.own ∙ ap (option_map (name_at f.names)) c.in-Some.is in
    let is = c.sibling_behind-before.ensures.value in
    let lists = λ (j : ℕ). c.in_ok-put.ensures j ∙ ap (λ (t : SlotTable). if nat_eq k j then insert_before (list_of t j) node before else list_of t j) tables in
    on_ok_weaker c.add_once.result
    (λ (told_is : c.add_once.new.signals.items ≡ append_once nat_eq keys k).
    λ p old done told r.
    let names = joined f once e.distinct s.hosts node k under.0 at under.2 under.1 own list (r.nodes k) (right k c.in-Some.is) before
    c.sibling_behind-before.ensures.node is in
    let within = joined-inside f once e.distinct s.hosts node k under.0 at under.2 under.1 own list (r.nodes k) (right k c.in-Some.is) before
    c.sibling_behind-before.ensures.node is c.requires.node in
    let off = not-listed f once e.distinct s.hosts node k under.0 at under.2 under.1 own list (r.nodes k) (right k c.in-Some.is) before
    c.sibling_behind-before.ensures.node is in
    let differs : true ≡ not (list_eq nat_eq list new) = inserted-differs node before list off in
    subst (λ o. AreRenewed f s.hosts p old (done ++ option_to_list (option_map (name_at f.names) o))
    (told ++ filter p (option_to_list (option_map (name_at f.names) o))) c.put.new.self c.add_once.new.signals.items) (sym c.in-Some.is)
    (renewed-more f e.distinct s.hosts p old done told s.table keys r k (c.requires.slot k c.in-Some.is) new names within c.put.new.self
    (at-slot (λ xs. insert_before xs node before) k s.table c.put.new.self lists) c.add_once.new.signals.items
    (told_is ∙ ap (λ b. if b then append_once nat_eq keys k else keys) differs))) c.add_once.ensures
