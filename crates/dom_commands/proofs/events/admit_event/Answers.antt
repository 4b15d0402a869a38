use Rattle.dom_commands.proofs.Cited.{ap, ◌∙◌, let_pass}
use Rattle.dom_commands.proofs.Admitting.{target_passes}
use Rattle.dom_commands.proofs.events.admit_event.Goals as goal

pub returns-in-None-clause-refusal : goal.returns-in-None-clause-refusal
returns-in-None-clause-refusal c = λ e. rw c.in-None.is (c.admit.ensures ∙ ap let_pass (target_passes c.args.state.now.world c.args.owner c.args.target e))
