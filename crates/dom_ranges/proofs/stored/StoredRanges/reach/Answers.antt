use Rattle.dom_ranges.proofs.Cited.{inl, inr, List, subst, at, IsListedAt, IsUpTo, RangeEnd}
use Rattle.dom_ranges.proofs.Vacant.{end-shown}
use Rattle.dom_ranges.proofs.Leaving.{each-seen}
use Rattle.dom_ranges.proofs.Writing.{Shows-view}
use Rattle.dom_ranges.proofs.stored.StoredRanges.reach.Goals as goal

pub returns-clause-up_to : goal.returns-clause-up_to
returns-clause-up_to c =
    each-seen (IsUpTo c.args.node c.reach.result)
    c.self.inside.live c.self.inside.numbers _ (Shows-view c.self.inside.live c.self.inside.numbers _ c.self.view_is) c.self.inside.ends.items
    c.as_slice.result.now c.self.invariant.1 c.as_slice.ensures.value c.reach.ensures.up_to

pub returns-clause-reached : goal.returns-clause-reached
returns-clause-reached c = elim c.reach.ensures.reached [
  | inl none ↦ inl none
  | inr there ↦ inr (end-shown c.self.inside.live c.self.inside.numbers _ (Shows-view c.self.inside.live c.self.inside.numbers _ c.self.view_is)
      c.self.invariant.0 c.self.inside.ends.items c.self.invariant.1 (at c.args.node c.reach.result)
      (subst (λ (es : List RangeEnd). IsListedAt es (at c.args.node c.reach.result)) c.as_slice.ensures.value there))
]
