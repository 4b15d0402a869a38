use Rattle.dom_callbacks.proofs.Readiness.{all-stay}
use Rattle.dom_callbacks.proofs.state.LiveState.start_notification.Goals as goal

pub push-requires-clause-ready : goal.push-requires-clause-ready
push-requires-clause-ready g c =
    all-stay (g.D.Documents.world c.args.self.now.documents) (g.D.Documents.world c.take_pending.new.self) c.in_ok-pending.ensures.nodes
    c.args.self.now.frames.items c.requires
