use Rattle.dom_base.proofs.Std.{◌≡◌, fold, take}
use Rattle.dom_attributes.specs.Signs.{mix}
use Rattle.dom_tree.proofs.ids.owner_code.Given as goal

abbrev pub invariant-loop-part : goal.invariant-loop-part
invariant-loop-part l = l.number ≡ fold mix 1 (take l.part-index l.part-items)
