use Rattle.dom_base.proofs.Std.{◌≡◌, map}
use Rattle.dom_live.specs.Frames.{without_calls}
use Rattle.dom_callbacks.specs.Views.{frame_view}
use Rattle.dom_callbacks.specs.States.{HaveSameSlots}
use Rattle.dom_callbacks.proofs.Walked.{so_far}
use Rattle.dom_callbacks.proofs.removal.remove_calls.Given as goal

abbrev pub invariant-loop-frame : goal.invariant-loop-frame
invariant-loop-frame l = record {
  view : map frame_view l.frames ≡ so_far (without_calls l.fn.node l.fn.event l.fn.label l.fn.capture) (map frame_view l.fn.frames) l.frame-index;
  slots : HaveSameSlots l.fn.frames l.frames;
}
