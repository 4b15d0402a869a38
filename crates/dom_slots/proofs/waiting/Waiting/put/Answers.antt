use Rattle.dom_base.proofs.Std.{◌++◌, ◌∷◌, [], ap, ◌∙◌}
use Rattle.dom_slots.specs.Definitions.{waiting_under}
use Rattle.std.specs.BTreeMap.{get_by}
use Rattle.std.specs.Cmp.Lexicographic.{slice_cmp}
use Rattle.std.specs.Ordering.{nat_cmp}
use Rattle.dom_slots.proofs.Waited.{put-back}
use Rattle.dom_slots.proofs.waiting.Waiting.put.Goals as goal

pub returns : goal.returns
returns c = λ other.
    put-back c.args.name.now other (get_by (λ k. slice_cmp nat_cmp other k.now) c.take-list.new.self.lists)
    (get_by (λ k. slice_cmp nat_cmp other k.now) c.insert.new.self) c.push.new.self
    (c.in_ok-insert.ensures.updates.0 record { ref_ptr = (0, 0); now = other }) (waiting_under c.args.self.now) c.args.child
    (c.in_ok-push.ensures.items ∙ ap (λ ks. ks ++ c.args.child ∷ []) c.take-list.ensures.list) (c.take-list.ensures.others other)
