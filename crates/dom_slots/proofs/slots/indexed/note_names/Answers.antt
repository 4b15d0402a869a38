use Rattle.dom_base.proofs.Std.{inl, inr, ap, subst, ◌∙◌, nat_eq}
use Rattle.dom_model.proofs.Model.{is_in, slot_name, node_in}
use Rattle.dom_tree.specs.Definitions.{name_at}
use Rattle.dom_slots.specs.Definitions.{bearer_at, MayHave, name_code}
use Rattle.dom_slots.proofs.Indexed.{noted-more}
use Rattle.dom_slots.proofs.Mapping.{listed-at}
use Rattle.dom_slots.proofs.slots.indexed.note_names.Goals as goal

pub loop-slot-preserved : goal.loop-slot-preserved
loop-slot-preserved c = record {
  kept = λ h k may. c.in_ok-note.ensures.kept h k (c.loop-slot.invariant.kept h k may);
  inside = λ h k only. elim (c.in_ok-note.ensures.inside h k only) [
    | inl old ↦ c.loop-slot.invariant.inside h k old
    | inr here ↦ inr (ap (λ j. is_in nat_eq j c.args.slots.now) here ∙ listed-at c.slot-item.result c.args.slots.now c.loop-slot.slot-index c.slot-item.is
        c.loop-slot-test.true)
  ];
  noted = noted-more c.args.slots.now c.loop-slot.slot-index c.slot-item.result c.slot-item.is c.loop-slot-test.true
      c.loop-slot.index.bearers.entries c.note.new.self.bearers.entries
      (λ k. name_code c.in-Some.root (slot_name (node_in c.args.forest.now.trees (name_at c.args.forest.now.names k))))
      c.in_ok-note.ensures.kept (subst (λ a. MayHave (bearer_at c.note.new.self.bearers.entries (name_code c.in-Some.root a)) c.slot-item.result)
      c.slot_name.ensures c.in_ok-note.ensures.noted) c.loop-slot.invariant.noted;
}
