use Rattle.dom_slots.proofs.Indexed.{forgot}
use Rattle.dom_slots.proofs.slots.indexed.forget_names.Goals as goal

pub loop-slot-preserved : goal.loop-slot-preserved
loop-slot-preserved c = record {
  kept = forgot c.args.slots.now c.loop-slot.slot-index c.slot-item.result c.slot-item.is c.loop-slot-test.true c.args.index.now.bearers.entries
      c.loop-slot.index.bearers.entries c.forget.new.self.bearers.entries c.forget.ensures.kept
      c.loop-slot.invariant.kept;
  inside = λ h k only. c.loop-slot.invariant.inside h k (c.forget.ensures.inside h k only);
}
