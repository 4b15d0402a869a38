use Rattle.dom_ranges.proofs.Cited.{inl, inr, arith, cases_lt}
use Rattle.dom_ranges.proofs.searching.part_near.Goals as goal

pub returns-then-are_behind-clause-all : goal.returns-then-are_behind-clause-all
returns-then-are_behind-clause-all c = λ k d l e. elim (cases_lt k c.args.place) [
  | inl m ↦ let less = c.are_before.ensures c.if-are_before.true k d m in absurd (omega (arith, less, e))
  | inr m ↦ let more = c.are_behind.ensures c.if-are_behind.true k d m l in absurd (omega (arith, more, e))
]
