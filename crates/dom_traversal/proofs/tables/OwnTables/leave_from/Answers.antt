use Rattle.dom_traversal.proofs.Cited.{◌≡◌, ℕ, ◌<◌, List, Some, length, refl, ap, sym, subst, ◌∙◌, arith, true≢false, slice_get, slice_get_within, Contains}
use Rattle.dom_traversal.proofs.Cited.{AreListed, IsLeftIf, KeyedIterator, KeyedTables, Reference, reference_at}
use Rattle.dom_traversal.proofs.Leaving.{may-items, have_left-more, have_left-all}
use Rattle.dom_traversal.proofs.tables.OwnTables.leave_from.Goals as goal

-- an iterator that is found is one
found_is : {is all : List KeyedIterator} {xs ys : List Reference} {key n : ℕ} → is ≡ all → AreListed is xs → ys ≡ xs → Contains ys (reference_at key n) →
    n < length all
found_is {is} {all} {xs} {ys} {key} {n} items listed same w =
    let i = listed.only (reference_at key n) (subst (λ (zs : List Reference). Contains zs (reference_at key n)) same w) in
    subst (λ (js : List KeyedIterator). n < length js) items (slice_get_within is n i.0 i.1)

-- an iterator at the key is listed
listed_at : {is all : List KeyedIterator} {xs ys : List Reference} {key k : ℕ} {i : KeyedIterator} → is ≡ all → AreListed is xs → ys ≡ xs
    → slice_get all k ≡ Some i → i.reference ≡ key → Contains ys (reference_at key k)
listed_at {is} {all} {xs} {ys} {key} {k} {i} items listed same e at =
    subst (λ (zs : List Reference). Contains zs (reference_at key k)) (sym same)
    (subst (λ (n : ℕ). Contains xs (reference_at n k)) at (listed.all k i (ap (λ js. slice_get js k) items ∙ e)))

pub leave_one-requires-clause-there : goal.leave_one-requires-clause-there
leave_one-requires-clause-there c =
    let items = ap (λ (t : KeyedTables). t.iterators) c.self.view_is in
    found_is items c.self.invariant.1 c.as_slice.ensures.value (c.in-Some.ensures.found c.in-Some.number refl).1

pub leave_one-requires-clause-iterators : goal.leave_one-requires-clause-iterators
leave_one-requires-clause-iterators c =
    may-items c.args.forest.now c.args.node c.args.self.now.iterators c.loop-number.self.iterators c.loop-number.invariant.left.may c.requires.iterators

pub overflow_add-least : goal.overflow_add-least
overflow_add-least c =
    let items = ap (λ (t : KeyedTables). t.iterators) c.self.view_is in
    let size : length c.self.inside.iterators.items ≡ length c.loop-number.self.iterators = ap (λ (t : KeyedTables). length t.iterators) c.self.view_is in
    let there = found_is items c.self.invariant.1 c.as_slice.ensures.value (c.in-Some.ensures.found c.in-Some.number refl).1 in
    omega (arith, there, size, c.self.inside.iterators.ok.0, c.self.inside.iterators.ok.1)

pub loop-number-smaller : goal.loop-number-smaller
loop-number-smaller c =
    let items = ap (λ (t : KeyedTables). t.iterators) c.self.view_is in
    let there = found_is items c.self.invariant.1 c.as_slice.ensures.value (c.in-Some.ensures.found c.in-Some.number refl).1 in
    omega (arith, there, c.leave_one.ensures.len, (c.in-Some.ensures.found c.in-Some.number refl).0)

pub loop-number-preserved : goal.loop-number-preserved
loop-number-preserved c =
    let items = ap (λ (t : KeyedTables). t.iterators) c.self.view_is in
    record {
      left = have_left-more c.args.forest.now c.args.node (λ i. i.reference ≡ c.args.key) c.args.self.now.iterators
          c.leave_one.new.self.iterators c.in-Some.number c.loop-number.invariant.left
          (λ k i le l e at.
          let no_less = (c.in-Some.ensures.least k le (listed_at items c.self.invariant.1 c.as_slice.ensures.value e at)).1 c.in-Some.number refl in
          omega (arith, no_less, l))
          (c.leave_one.ensures.may, c.leave_one.ensures.len, c.leave_one.ensures.left);
      same = c.leave_one.ensures.walkers ∙ c.loop-number.invariant.same;
    }

pub returns-clause-left : goal.returns-clause-left
returns-clause-left c k x e at =
    let items = ap (λ (t : KeyedTables). t.iterators) c.self.view_is in
    subst (λ o. IsLeftIf c.args.forest.now c.args.node o (slice_get c.loop-number.self.iterators k)) e
    (have_left-all c.args.forest.now c.args.node (λ i. i.reference ≡ c.args.key) c.args.self.now.iterators
    c.loop-number.invariant.left
    (λ j i le there same.
    true≢false (sym (c.in_default.ensures.least j le (listed_at items c.self.invariant.1 c.as_slice.ensures.value there same)).0)) k e at)
