use Rattle.dom_base.proofs.Std.{◌<◌, length, ap, sym, subst, ◌∙◌, same_Some}
use Rattle.dom_tree.specs.Definitions.{name_at}
use Rattle.dom_slots.specs.Definitions.{IsBeside, ParkedNow, SlotsNow, step_node}
use Rattle.dom_slots.proofs.Parked.{parked-stays}
use Rattle.dom_slots.proofs.slots.Slots.is_kept.Goals as goal

pub returns-then-is_some : goal.returns-then-is_some
returns-then-is_some c = λ e p is.
    let f = c.args.forest.now in
    let s = c.args.self.now in
    let was = c.requires.ended.0 in
    let h = c.requires.ended.1 in
    let l = c.law_nodes_stand_once.ensures in
    let host = ap (λ (q : ParkedNow). q.host)
    (c.parked.view_is ∙ same_Some c.in-Some.parked p (sym c.in-Some.is ∙ (ap (λ (t : SlotsNow). t.parked) c.self.view_is ∙ is))) in
    let w = c.is_beside.ensures was s h (subst (λ k. k < length f.names) (sym host) (h.slots.parked p is).host) e in
    parked-stays was f s c.args.change h record { once = l.once; only = l.only } p w.0
    (subst (λ k. IsBeside was f.trees (name_at f.names (step_node c.args.change.step)) (name_at f.names k)) host w.1) is
