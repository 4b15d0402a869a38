use Rattle.dom_base.proofs.Std.{sym, ap, subst, ◌∙◌, nat_eq, if◌then◌else◌}
use Rattle.dom_slots.specs.Definitions.{list_at, slots_in, SlotTable, list_of}
use Rattle.dom_slots.proofs.Mapping.{AreTaken, AreGiven, IsRelisted, agree-inserted}
use Rattle.dom_slots.proofs.Tables.{changed-found, when-ok}
use Rattle.dom_slots.proofs.table.Table.insert.Goals as goal

pub invariant_of-self-else-is_err-2 : goal.invariant_of-self-else-is_err-2
invariant_of-self-else-is_err-2 c =
    let step : IsRelisted c.args.slot c.args.list.items (list_at c.self.inside.lists.rows.items) (list_at c.set.new.self.rows.items)
    (slots_in c.self.inside.slots) (slots_in c.remember.new.slots) =
    (record {
      mid = slots_in c.forget.new.slots;
      by_slot = when-ok c.set.result _ (sym c.is_err-2.ensures.value ∙ c.if-is_err-2.false) c.set.ensures.ok;
      taken = subst (λ xs. AreTaken (slots_in c.self.inside.slots) c.args.slot xs (slots_in c.forget.new.slots)) c.of.ensures
          c.forget.ensures;
      given = subst (λ xs. AreGiven (slots_in c.forget.new.slots) c.args.slot xs (slots_in c.remember.new.slots)) c.deref.ensures.value
          (when-ok c.remember.result _ (sym c.is_err.ensures.value ∙ c.if-is_err.false) c.remember.ensures);
    }) in
    agree-inserted step c.self.invariant

pub returns : goal.returns
returns c = λ k.
    changed-found (λ xs. c.args.list.items) c.args.slot c.self.inside.lists.rows.items c.set.new.self.rows.items
    (when-ok c.set.result _ (sym c.is_err-2.ensures.value ∙ c.if-is_err-2.false) c.set.ensures.ok) k
    ∙ ap (λ (t : SlotTable). if nat_eq c.args.slot k then c.args.list.items else list_of t k) c.self.view_is
