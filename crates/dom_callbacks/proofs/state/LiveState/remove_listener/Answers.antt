use Rattle.dom_base.proofs.Std.{◌∙◌, ap, sym, subst, length, AllByRecursion}
use Rattle.dom_live.specs.Frames.{without_calls}
use Rattle.dom_callbacks.specs.States.{HasSlots}
use Rattle.dom_callbacks.specs.Views.{frame_view}
use Rattle.dom_callbacks.proofs.Readiness.{all-stay}
use Rattle.dom_callbacks.proofs.Removing.{as-many}
use Rattle.dom_callbacks.proofs.state.LiveState.remove_listener.Goals as goal

pub returns-clause-ready : goal.returns-clause-ready
returns-clause-ready g c =
    let before = g.D.Documents.world c.args.self.now.documents in
    let after = g.D.Documents.world c.unlisten.new.self in
    let frames = c.args.self.now.frames in
    let left = c.remove_calls.new.frames in
    subst (AllByRecursion (HasSlots after)) (sym (c.make_contiguous.ensures.writes_back left
    (as-many frame_view (without_calls c.args.node.now c.args.event.now c.args.label.now c.args.capture) c.make_contiguous.result.now left
    c.remove_calls.ensures.view ∙ ap length c.make_contiguous.ensures.value ∙ sym frames.ok.0)))
    (c.remove_calls.ensures.slots after (subst (AllByRecursion (HasSlots after)) (sym c.make_contiguous.ensures.value)
    (all-stay before after c.unlisten.ensures.nodes frames.items c.requires)))
