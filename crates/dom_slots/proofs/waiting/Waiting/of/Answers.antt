use Rattle.dom_base.proofs.Std.{[], ap, ◌∙◌, if◌then◌else◌}
use Rattle.dom_model.proofs.Model.{text_eq}
use Rattle.std.specs.BTreeMap.{get_by}
use Rattle.std.specs.Cmp.Lexicographic.{slice_cmp}
use Rattle.std.specs.Ordering.{nat_cmp}
use Rattle.dom_slots.proofs.Waited.{put-in}
use Rattle.dom_slots.proofs.waiting.Waiting.of.Goals as goal

pub returns : goal.returns
returns c = λ other.
    put-in c.args.name.now other (get_by (λ k. slice_cmp nat_cmp other k.now) c.new-waiting.result.lists)
    (get_by (λ k. slice_cmp nat_cmp other k.now) c.insert.new.self) c.in_ok-list.list
    (c.in_ok-insert.ensures.updates.0 record { ref_ptr = (0, 0); now = other }) (c.new-waiting.ensures other)
    ∙ ap (λ ks. if text_eq c.args.name.now other then ks else []) c.in_ok-list.ensures
