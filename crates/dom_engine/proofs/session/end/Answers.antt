use Rattle.dom_base.proofs.Std.{ap, ◌∙◌}
use Rattle.dom_model.proofs.Model.{World}
use Rattle.dom_engine.proofs.ForeignLines.{turn-finish}
use Rattle.dom_engine.proofs.session.end.Goals as goal

pub returns-clause-closed : goal.returns-clause-closed
returns-clause-closed c = ap (λ (w : World). w.turn) c.in_ok-close_any_turn.ensures.world ∙ turn-finish c.args.machine.now.world
