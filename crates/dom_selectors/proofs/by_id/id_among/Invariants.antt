use Rattle.dom_selectors.proofs.Cited.{⊤}
use Rattle.dom_selectors.proofs.by_id.id_among.Given as goal

abbrev pub invariant-loop-part : goal.invariant-loop-part
invariant-loop-part l = ⊤
