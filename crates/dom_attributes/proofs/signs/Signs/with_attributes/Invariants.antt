-- The attributes so far are covered.
use Rattle.dom_base.proofs.Std.{take, []}
use Rattle.dom_model.specs.Names.{Word}
use Rattle.dom_attributes.specs.Attributes.{attributes_from}
use Rattle.dom_attributes.specs.Signs.{Cover}
use Rattle.dom_attributes.proofs.signs.Signs.with_attributes.Given as goal

abbrev pub invariant-loop-index : goal.invariant-loop-index
invariant-loop-index l = (element : Word) → Cover l.fn.self element [] → Cover l.signs element (take l.index (attributes_from l.attributes.entries))
