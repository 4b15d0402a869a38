-- What is left of the part stands in front of the units left where the whole part stands in front of all.
use Rattle.dom_selectors.proofs.Cited.{◌≡◌, drop, nat_eq, starts_with}
use Rattle.dom_selectors.proofs.values.begins_with.Given as goal

abbrev pub invariant-loop-unit : goal.invariant-loop-unit
invariant-loop-unit l = starts_with nat_eq l.rest (drop l.unit-index l.part) ≡ starts_with nat_eq l.text l.part
