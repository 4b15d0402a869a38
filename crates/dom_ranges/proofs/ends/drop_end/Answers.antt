use Rattle.dom_ranges.proofs.Cited.{◌≡◌, ◌<◌, List, ◌∷◌, length, get_or, sym, subst, IsPermutation, IsPermutation-remove, IsSortedByPoint, RangeEnd}
use Rattle.dom_ranges.proofs.Placing.{IsSortedByPoint-removed}
use Rattle.dom_ranges.proofs.ends.drop_end.Goals as goal

pub returns-clause-dropped : goal.returns-clause-dropped
returns-clause-dropped c =
    let es = c.args.ends.now.items in
    let within : c.find-place.result < length es =
    subst (λ (xs : List RangeEnd). c.find-place.result < length xs) c.as_slice.ensures.value c.find-place.ensures.within in
    let found : c.args.end ≡ get_or es c.find-place.result c.args.end =
    sym (subst (λ (xs : List RangeEnd). get_or xs c.find-place.result c.args.end ≡ c.args.end) c.as_slice.ensures.value
    (c.find-place.ensures.found c.args.end)) in
    subst (λ (xs : List RangeEnd). IsPermutation es (c.args.end ∷ xs)) (sym c.remove.ensures.items)
    (IsPermutation-remove es c.find-place.result c.args.end within found)

pub returns-clause-sorted : goal.returns-clause-sorted
returns-clause-sorted c =
    let es = c.args.ends.now.items in
    let within : c.find-place.result < length es =
    subst (λ (xs : List RangeEnd). c.find-place.result < length xs) c.as_slice.ensures.value c.find-place.ensures.within in
    subst IsSortedByPoint (sym c.remove.ensures.items) (IsSortedByPoint-removed es c.find-place.result within c.requires.sorted)
