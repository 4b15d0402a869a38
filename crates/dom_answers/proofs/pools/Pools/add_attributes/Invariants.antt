-- The attributes so far.
use Rattle.std.specs.Prelude.{◌≡◌, length, map, take}
use Rattle.dom_printer.specs.Steps.{attribute_view}
use Rattle.dom_answers.specs.Arrays.{Adds, AreSound, Grows, attribute_of}
use Rattle.dom_answers.proofs.pools.Pools.add_attributes.Given as goal

abbrev pub invariant-loop-attribute : goal.invariant-loop-attribute
invariant-loop-attribute l = record {
  grown : Grows l.fn.self l.self;
  rows : l.self.rows ≡ l.fn.self.rows;
  sound : AreSound l.self;
  at : l.at ≡ length l.fn.self.attributes;
  added : Adds (attribute_of l.self) l.fn.self.attributes l.self.attributes (map attribute_view (take l.attribute-index l.attributes));
}
