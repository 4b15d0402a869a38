use Rattle.dom_base.proofs.Std.{◌≡◌, ℕ, Bool, List, not, refl, sym, ap, ◌∙◌, nat_eq, if◌then◌else◌}
use Rattle.dom_model.proofs.Model.{append_once, list_eq}
use Rattle.dom_slots.specs.Definitions.{SlotsNow, SlotTable, list_of}
use Rattle.dom_slots.proofs.Renewing.{renewed-more, renewed-stays}
use Rattle.dom_slots.proofs.slots.Slots.renew_as.Goals as goal

-- whether the list is another one, as the code tests it
tested : {inside table : SlotTable} {nodes list : List ℕ} {b : Bool} (k : ℕ) → inside ≡ table → nodes ≡ list →
    b ≡ not (list_eq nat_eq (list_of inside k) nodes) → b ≡ not (list_eq nat_eq (list_of table k) list)
tested {inside} {table} {nodes} {list} k same are e =
    e ∙ (ap (λ (t : SlotTable). not (list_eq nat_eq (list_of t k) nodes)) same ∙ ap (λ ks. not (list_eq nat_eq (list_of table k) ks)) are)

pub returns-in_ok-add_once-clause-renewed : goal.returns-in_ok-add_once-clause-renewed
returns-in_ok-add_once-clause-renewed c =
    λ p old done told r.
    let s = c.args.self.now in
    let k = c.args.slot in
    let list = c.args.list.items in
    let keys = c.args.signals.now.items in
    let tables : c.self.inside.table ≡ s.table = ap (λ (t : SlotsNow). t.table) c.self.view_is in
    renewed-more c.args.forest.now c.law_nodes_stand_once.ensures.distinct s.hosts p old done told s.table keys r k c.requires.node list
    c.requires.right c.requires.nodes c.insert.new.self
    (λ j. c.in_ok-insert.ensures j ∙ ap (λ (t : SlotTable). if nat_eq k j then list else list_of t j) tables)
    c.add_once.new.signals.items
    (c.in_ok-add_once.ensures ∙ ap (λ b. if b then append_once nat_eq keys k else keys) (sym c.if-has_other.true ∙
    tested k tables c.deref.ensures.value c.has_other.ensures))

pub returns-else-has_other-clause-renewed : goal.returns-else-has_other-clause-renewed
returns-else-has_other-clause-renewed c =
    λ p old done told r.
    renewed-stays c.args.forest.now c.law_nodes_stand_once.ensures.distinct c.args.self.now.hosts p old done told c.args.self.now.table
    c.args.signals.now.items r c.args.slot c.requires.node c.args.list.items c.requires.right c.requires.nodes
    (sym (tested c.args.slot (ap (λ (t : SlotsNow). t.table) c.self.view_is) c.deref.ensures.value c.has_other.ensures) ∙ c.if-has_other.false)
    c.args.signals.now.items refl
