use Rattle.dom_ranges.proofs.Cited.{ℕ, Option, inl, inr, refl, ap, sym, ◌∙◌, subst, arith, Boundary, at, after_insertion, BothEnds, CanFollow, EachRange}
use Rattle.dom_ranges.proofs.Cited.{HasEndAt, Insertion, IsUpTo, RangeList, ranges_of, shown_after}
use Rattle.dom_ranges.proofs.Leaving.{insert-none}
use Rattle.dom_ranges.proofs.Naming.{EachRange-ends}
use Rattle.dom_ranges.proofs.Pending.{ranges-by, end-by, moved-up_to, moved-at, fits-reached}
use Rattle.dom_ranges.proofs.table.RangeTable.reach.Goals as goal

pub moved-moved-requires : goal.moved-moved-requires
moved-moved-requires c =
    fits-reached c.in-Some.insertion c.self.inside.stored c.args.node c.reach-offset.result
    (subst (λ (p : Option Insertion). CanFollow p c.self.inside.stored) c.in-Some.is c.self.invariant) c.reach-offset.ensures.reached

pub returns-clause-up_to : goal.returns-clause-up_to
returns-clause-up_to c o =
    let s = c.in-Some.insertion in
    let shown = ap (λ (p : Option Insertion). shown_after p c.self.inside.stored) (sym c.in-Some.is) ∙ c.self.view_is in
    subst (λ (rs : RangeList). EachRange (BothEnds (IsUpTo c.args.node c.moved-moved.result.1)) rs)
    (sym (ranges-by (after_insertion s) (sym shown) refl o))
    (EachRange-ends (IsUpTo c.args.node c.reach-offset.result) (IsUpTo c.args.node c.moved-moved.result.1) (after_insertion s)
    (moved-up_to s c.args.node c.reach-offset.result c.moved-moved.ensures.moved) (ranges_of c.self.inside.stored o) (c.reach-offset.ensures.up_to o))

pub returns-clause-reached : goal.returns-clause-reached
returns-clause-reached c =
    let s = c.in-Some.insertion in
    let shown = ap (λ (p : Option Insertion). shown_after p c.self.inside.stored) (sym c.in-Some.is) ∙ c.self.view_is in
    let was = at c.args.node c.reach-offset.result in
    elim c.reach-offset.ensures.reached [
      | inl none ↦ inl (ap (λ (p : Boundary ℕ). p.offset) (c.moved-moved.ensures.moved ∙ insert-none s.parent s.index s.count was (λ _. omega (arith, none)))
          ∙ none)
      | inr there ↦ inr (subst (HasEndAt c.args.self.now) (sym (moved-at s c.args.node c.reach-offset.result c.moved-moved.ensures.moved))
          (end-by (after_insertion s) c.self.inside.stored c.args.self.now shown was there))
    ]
