use Rattle.std.specs.BTreeMap.{get_by}
use Rattle.std.specs.Cmp.Lexicographic.{slice_cmp}
use Rattle.std.specs.Ordering.{nat_cmp}
use Rattle.dom_slots.proofs.Waited.{taken-away}
use Rattle.dom_slots.proofs.waiting.Waiting.take.Goals as goal

pub returns-in-Some-clause-others : goal.returns-in-Some-clause-others
returns-in-Some-clause-others c = λ other.
    taken-away c.args.name.now other (get_by (λ k. slice_cmp nat_cmp other k.now) c.args.self.now.lists)
    (get_by (λ k. slice_cmp nat_cmp other k.now) c.remove.new.self) (c.remove.ensures.updates.0 record { ref_ptr = (0, 0); now = other })

pub returns-in-None-clause-others : goal.returns-in-None-clause-others
returns-in-None-clause-others c = λ other.
    taken-away c.args.name.now other (get_by (λ k. slice_cmp nat_cmp other k.now) c.args.self.now.lists)
    (get_by (λ k. slice_cmp nat_cmp other k.now) c.remove.new.self) (c.remove.ensures.updates.0 record { ref_ptr = (0, 0); now = other })
