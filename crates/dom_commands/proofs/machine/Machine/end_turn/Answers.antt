use Rattle.dom_commands.proofs.Cited.{[], refl, may_act, refused, namings}
use Rattle.dom_model.proofs.Model.{Command}
use Rattle.dom_commands.proofs.EventCommands.{stopped, unrefused}
use Rattle.dom_commands.proofs.machine.Machine.end_turn.Goals as goal

pub returns-in_err-admit-clause-handled : goal.returns-in_err-admit-clause-handled
returns-in_err-admit-clause-handled g c =
    stopped c.self.inside.state c.self.inside.listeners _ c.self.view_is c.requires c.law_names_tell_nodes.ensures.there _ _ g.A.Answers.adds _ _ _
    c.from_residual.ensures.1
    (refused g.A.Answers.adds _ c.args.owner Command.end_turn [] _ _ (search namings) c.admit.ensures c.in_err-admit.was c.from_residual.ensures.1)

pub returns-clause-handled : goal.returns-clause-handled
returns-clause-handled g c = (
  unrefused c.self.inside.state c.self.inside.listeners _ c.self.view_is c.requires c.law_names_tell_nodes.ensures.there _ _
      (may_act _ _ _ [] (search namings) c.admit.ensures c.in_ok-admit.was) refl,
  c.in_ok-close_turn.ensures.world,
  g.met.A.Answers.more _ _ _ _ _ c.in_ok-close_turn.ensures.told c.in_ok-reply.ensures.ok,
)
