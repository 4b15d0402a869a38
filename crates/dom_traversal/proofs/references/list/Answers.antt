use Rattle.dom_traversal.proofs.Cited.{ℕ, ◌<◌, ◌≤◌, List, length, get_or, get_or_default, sym, subst, arith, of_ok, AreSorted, IsBefore, IsUpTo, Reference}
use Rattle.dom_traversal.proofs.Cited.{reference_at}
use Rattle.dom_traversal.proofs.Standing.{AreSorted-inserted}
use Rattle.dom_traversal.proofs.references.list.Goals as goal

pub returns-clause-sorted : goal.returns-clause-sorted
returns-clause-sorted c =
    let xs = c.args.references.now.items in
    let y = reference_at c.args.node c.args.number in
    let place = c.place_of-place.result in
    let from = subst (λ (ys : List Reference). (k : ℕ) (d : Reference) → place ≤ k → k < length ys → IsUpTo y (get_or ys k d)) c.as_slice.ensures.value
    c.place_of-place.ensures.from in
    let behind : (k : ℕ) (d : Reference) → place ≤ k → k < length xs → IsBefore y (get_or xs k d) = λ k d l m.
    let up = from k d l m in
    (up.0, λ s. let less = up.1 s in omega (arith, less, c.requires.unlisted (get_or xs k d) (k, m, get_or_default xs k _ d m))) in
    let before = subst (λ (ys : List Reference). (k : ℕ) (d : Reference) → k < place → IsBefore (get_or ys k d) y) c.as_slice.ensures.value
    c.place_of-place.ensures.before in
    let within = subst (λ (ys : List Reference). place ≤ length ys) c.as_slice.ensures.value c.place_of-place.ensures.within in
    let items = of_ok c.insert.result _ _ _ (c.insert.ensures.succeeds c.requires.room) c.insert.ensures.items in
    subst AreSorted (sym items) (AreSorted-inserted xs place y within c.requires.sorted before behind)
