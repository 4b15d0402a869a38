-- Lines and scripts as a group has them that keeps makers.
use Rattle.dom_base.proofs.Std.{ℕ, Bool, List, [], sym, ap}
use Rattle.dom_model.proofs.Model.{Owner, Page, KeepsMakers, group_world, first_world, Part, part_of}
use Rattle.dom_isolation.proofs.GroupSlots.{filter-here}
use Rattle.dom_live.specs.Lines.{LiveLine}
use Rattle.dom_live.specs.Documents.{silent_documents}
use Rattle.dom_live.proofs.OneStep.{group-agrees, group-step_agrees}
use Rattle.dom_live.proofs.GroupLines.{group-obeys, group-leaves}
use Rattle.dom_live.proofs.Scripts.{HasMachine, line-agrees}

-- A group has its silent run, which begins as all begins.
pub group-machine : (read : List ℕ → LiveLine) (g : Owner → Bool) → KeepsMakers g → HasMachine g (group_world g) (silent_documents g) read first_world
group-machine read g closed = record {
  beginning = ap (λ ps. record first_world { parts = ps }) (sym (filter-here (λ (p : Part). g p.owner) (part_of first_world Page) [] closed.page));
  step = group-step_agrees read g closed;
  line = line-agrees (group-agrees g closed) (group-obeys g closed) (group-leaves g closed) read;
}
