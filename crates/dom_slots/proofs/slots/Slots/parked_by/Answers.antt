use Rattle.dom_base.proofs.Std.{Some, ap, sym, subst, ◌∙◌, same_Some, option_map_or}
use Rattle.dom_model.proofs.Model.{root_of, slot_name, node_in}
use Rattle.dom_tree.specs.Definitions.{name_at}
use Rattle.dom_slots.specs.Definitions.{bearer_at, IsParked, list_of, name_code, SlotsNow, step_node}
use Rattle.dom_slots.proofs.Hosted.{host-node}
use Rattle.dom_slots.proofs.Joining.{same-option}
use Rattle.dom_slots.proofs.Parked.{parked-at}
use Rattle.dom_slots.proofs.slots.Slots.parked_by.Goals as goal

pub returns-then-has_only : goal.returns-then-has_only
returns-then-has_only c = λ p is.
    let f = c.args.forest.now in
    let s = c.args.self.now in
    let was = c.requires.ended.0 in
    let h = c.requires.ended.1 in
    let l = c.law_nodes_stand_once.ensures in
    let k = c.node-slot.result in
    let top = c.root-root.result in
    let host = c.in-Some-host_of.host in
    let hosted = sym c.host_of.ensures ∙ c.in-Some-host_of.is in
    let w = c.is_beside.ensures was s h (host-node f.names s.hosts h.slots.hosts top host hosted) c.if-is_beside.true in
    let list = c.in_ok-list.ensures ∙ (c.list.ensures ∙ ap (λ (t : SlotsNow). list_of t.table k) c.self.view_is) in
    subst (IsParked f s.hosts) ((λ j. record { slot = k; host = host; list = sym list j }) ∙ same_Some _ p is)
    (parked-at was f s c.args.change h record { once = l.once; only = l.only } l.distinct k (sym c.node-slot.ensures) top host w.0
    (sym c.is_slot.ensures ∙ c.if-not-is_slot.false) c.root-root.ensures.node
    (c.root-root.ensures.value ∙ sym (ap (λ o. option_map_or (λ j. root_of f.trees (name_at f.names j)) o (name_at f.names (step_node c.args.change.step)))
    c.in-Some.is))
    hosted (sym c.root_of.ensures ∙ same-option c.root_of.result (Some top) (sym c.eq.ensures ∙ c.if-eq.true)) w.1
    (ap (λ (t : SlotsNow). bearer_at t.index (name_code top (slot_name (node_in f.trees (name_at f.names k))))) (sym c.self.view_is)
    ∙ (ap (λ a. bearer_at c.self.inside.index.bearers.entries (name_code top a)) (sym c.slot_name.ensures) ∙ c.has_only.ensures c.if-has_only.true)))
