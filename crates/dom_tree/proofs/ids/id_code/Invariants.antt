use Rattle.dom_base.proofs.Std.{◌≡◌, fold, take}
use Rattle.dom_attributes.specs.Signs.{mix}
use Rattle.dom_tree.specs.Ids.{owner_code}
use Rattle.dom_tree.proofs.ids.id_code.Given as goal

abbrev pub invariant-loop-unit : goal.invariant-loop-unit
invariant-loop-unit l = l.number ≡ fold mix (owner_code l.fn.owner) (take l.unit-index l.id)
