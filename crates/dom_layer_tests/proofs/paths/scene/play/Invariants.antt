use Rattle.dom_slots.specs.Definitions.{AreSlotsOf}
use Rattle.dom_layer_tests.proofs.paths.scene.play.Given as goal

abbrev pub invariant-loop-line : goal.invariant-loop-line
invariant-loop-line g l = record {
  slots : AreSlotsOf l.forest l.slots;
}
