-- After a checkpoint no task waits and no turn is open.
use Rattle.dom_base.proofs.Std.{◌≡◌, [], None, sym, ap, ◌∙◌}
use Rattle.dom_model.proofs.Model.{World, ending_turn, turn-ending_turn}
use Rattle.dom_isolation.proofs.GroupTurns.{tasks-ending_turn}
use Rattle.dom_engine.specs.Documents.{queued, without_turn, turnless}

-- no turn
pub still-ended : (w : World) → (ending_turn w).0 ≡ without_turn (ending_turn w).0
still-ended w = ap (λ t. record (ending_turn w).0 { turn = t }) (turn-ending_turn w)

-- and no task
pub turnless-ended : (w : World) → turnless (ending_turn w).0 [] ≡ (ending_turn w).0
turnless-ended w =
    ap (λ ts. record (ending_turn w).0 { tasks = ts; turn = None }) (ap (queued []) (tasks-ending_turn w) ∙ sym (tasks-ending_turn w)) ∙ sym (still-ended w)
