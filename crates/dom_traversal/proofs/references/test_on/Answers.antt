use Rattle.dom_traversal.proofs.Cited.{◌≡◌, inl, inr, ℕ, ◌<◌, ◌≤◌, false, List, length, get_or, refl, ap, subst, ◌∙◌, arith, cases_lt, get_or_default}
use Rattle.dom_traversal.proofs.Cited.{same_Some, NamedTrees, AreOutside, AreSorted, AreTested, is_inside, IsBefore, Reference, reference_at}
use Rattle.dom_tree.proofs.Inside.{inside-up, inside-root}
use Rattle.dom_traversal.proofs.Standing.{AreSorted-up_to}
use Rattle.dom_traversal.proofs.references.test_on.Goals as goal

module _ (f : NamedTrees) (top : ℕ) (xs : List Reference) (place behind : ℕ) (r : Reference) (sorted : AreSorted xs) (within : behind ≤ length xs) where
  -- the references before a place are outside, and those at the node of the one there are outside with it
  passed : {n : ℕ} → AreOutside f top xs place → (place < length xs) × (is_inside f top (get_or xs place r).node ≡ false) →
      ((k : ℕ) (d : Reference) → k < behind → IsBefore (get_or xs k d) (reference_at (get_or xs place r).node n)) → AreOutside f top xs behind
  passed before out less k d l = elim (cases_lt k place) [
    | inl m ↦ before k d m
    | inr m ↦
        let low = (AreSorted-up_to xs d sorted m (omega (arith, l, within))).0 in
        let read = ap (λ (e : Reference). e.node) (get_or_default xs place d r out.0) in
        let same : (get_or xs k d).node ≡ (get_or xs place r).node = omega (arith, low, (less k d l).0, read) in
        ap (is_inside f top) same ∙ out.1
  ]

pub returns-in-Some-clause-tested : goal.returns-in-Some-clause-tested
returns-in-Some-clause-tested c = λ x is.
    let f = c.args.forest.now in
    let e = c.law_nodes_stand_once.ensures in
    let was = c.requires.tested in
    subst (λ (next : ℕ × ℕ). AreTested f c.args.top c.args.references.now next.0 next.1) (same_Some _ x is)
    (record {
      within = was.within;
      node = c.in-Some.ensures.node c.in-Some.above refl;
      before = was.before;
      same = λ d. was.same d ∙ inside-up f e.once e.only e.distinct c.args.top c.args.at c.requires.top_is_node was.node c.requires.other
          c.in-Some.above c.in-Some.ensures.value;
    })

pub returns-then-behind-references-clause-none : goal.returns-then-behind-references-clause-none
returns-then-behind-references-clause-none c = λ _ k d l.
    let f = c.args.forest.now in
    let e = c.law_nodes_stand_once.ensures in
    let was = c.requires.tested in
    let r = c.index-references-place.result in
    let out = was.same r ∙ inside-root f e.once e.only e.distinct c.args.top c.args.at c.requires.top_is_node was.node c.requires.other
    c.in_default.ensures.value in
    passed f c.args.top c.args.references.now c.args.place c.place_of-behind.result r c.requires.sorted c.place_of-behind.ensures.within was.before
    (was.within, out) c.place_of-behind.ensures.before k d (omega (arith, l, c.if-behind-references.true))

pub returns-clause-tested : goal.returns-clause-tested
returns-clause-tested c = λ x is.
    let f = c.args.forest.now in
    let e = c.law_nodes_stand_once.ensures in
    let was = c.requires.tested in
    let xs = c.args.references.now in
    let behind = c.place_of-behind.result in
    let r = c.index-references-place.result in
    let out = was.same r ∙ inside-root f e.once e.only e.distinct c.args.top c.args.at c.requires.top_is_node was.node c.requires.other
    c.in_default.ensures.value in
    let within : behind < length xs = omega (arith, c.place_of-behind.ensures.within, c.if-behind-references.false) in
    subst (λ (next : ℕ × ℕ). AreTested f c.args.top xs next.0 next.1) (same_Some _ x is)
    (record {
      within = within;
      node = c.requires.nodes behind c.index-references-behind.result within;
      before = passed f c.args.top xs c.args.place behind r c.requires.sorted c.place_of-behind.ensures.within was.before (was.within, out)
          c.place_of-behind.ensures.before;
      same = λ d. ap (λ (z : Reference). is_inside f c.args.top z.node) (get_or_default xs behind d c.index-references-behind.result within);
    })
