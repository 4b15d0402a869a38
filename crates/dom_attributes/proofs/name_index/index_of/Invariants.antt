use Rattle.dom_base.proofs.Std.{take}
use Rattle.dom_attributes.specs.Attributes.{IsIndexOf}
use Rattle.dom_attributes.proofs.name_index.index_of.Given as goal

-- those so far are noted
abbrev pub invariant-loop-place : goal.invariant-loop-place
invariant-loop-place l = IsIndexOf l.index (take l.place l.list)
