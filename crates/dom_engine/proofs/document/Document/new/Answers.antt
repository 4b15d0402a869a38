use Rattle.dom_base.proofs.Std.{◌≡◌, List, [], sym, subst}
use Rattle.dom_model.proofs.Model.{Task}
use Rattle.dom_commands.specs.Machine.{MachineNow, IsAtRest}
use Rattle.dom_engine.specs.Documents.{IsReady}
use Rattle.dom_engine.proofs.document.Document.new.Goals as goal

-- no task waits
without_tasks : (m : MachineNow) (waiting : List Task) → IsAtRest m → waiting ≡ [] → IsReady m waiting
without_tasks m waiting rest none = subst (IsReady m) (sym none) (record { machine = rest; there = tt })

pub invariant_of-result : goal.invariant_of-result
invariant_of-result c = λ h. without_tasks _ _ c.in_ok-machine.ensures.sound c.new-2.ensures
