use Rattle.dom_live.specs.Frames.{without_calls}
use Rattle.dom_base.proofs.Std.{map}
use Rattle.dom_callbacks.specs.Views.{frame_view}
use Rattle.dom_callbacks.specs.States.{HasSlots}
use Rattle.dom_callbacks.proofs.Walked.{next-view, all-changed}
use Rattle.dom_callbacks.proofs.removal.remove_calls.Goals as goal

pub loop-frame-preserved : goal.loop-frame-preserved
loop-frame-preserved c = record {
  view = next-view (without_calls c.args.node.now c.args.event.now c.args.label.now c.args.capture) frame_view (map frame_view c.args.frames.now)
      c.loop-frame.frames c.loop-frame.frame-index c.frame-item.result c.without_calls.new.self c.loop-frame.invariant.view
      c.without_calls.ensures.view;
  slots = λ w h. all-changed (HasSlots w) c.loop-frame.frames c.loop-frame.frame-index c.frame-item.result c.without_calls.new.self
      (c.without_calls.ensures.slots w) (c.loop-frame.invariant.slots w h);
}
