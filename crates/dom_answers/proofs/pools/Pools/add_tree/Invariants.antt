-- The rows so far.
use Rattle.std.specs.Prelude.{◌≡◌, length, map, take}
use Rattle.dom_printer.specs.Steps.{step_view}
use Rattle.dom_answers.specs.Arrays.{Adds, AreSound, Grows, step_of}
use Rattle.dom_answers.proofs.pools.Pools.add_tree.Given as goal

abbrev pub invariant-loop-step : goal.invariant-loop-step
invariant-loop-step l = record {
  grown : Grows l.fn.self l.self;
  sound : AreSound l.self;
  at : l.at ≡ length l.fn.self.rows;
  added : Adds (step_of l.self) l.fn.self.rows l.self.rows (map step_view (take l.step-index l.steps));
}
