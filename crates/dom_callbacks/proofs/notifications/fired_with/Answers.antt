use Rattle.dom_base.proofs.Std.{ap, map}
use Rattle.dom_live.specs.SmallSteps.{fired_at}
use Rattle.dom_callbacks.specs.Bare.{bare_event}
use Rattle.dom_callbacks.specs.Views.{visit_view}
use Rattle.dom_callbacks.proofs.NotificationRuns.{with_words}
use Rattle.dom_callbacks.proofs.notifications.fired_with.Goals as goal

pub returns : goal.returns
returns c = λ x e. ap (with_words (bare_event (fired_at x (map visit_view c.args.visits.items)))) e
