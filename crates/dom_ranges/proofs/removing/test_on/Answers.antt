use Rattle.dom_ranges.proofs.Cited.{◌≡◌, inl, inr, ℕ, ◌<◌, ◌≤◌, false, List, length, get_or, refl, ap, subst, ◌∙◌, arith, cases_lt, get_or_default, same_Some}
use Rattle.dom_ranges.proofs.Cited.{at, NamedTrees, AreTested, end_in, is_inside, IsSortedByPoint, RangeEnd}
use Rattle.dom_tree.proofs.Inside.{inside-up, inside-root}
use Rattle.dom_ranges.proofs.removing.test_on.Goals as goal

module _ (f : NamedTrees) (top : ℕ) (es : List RangeEnd) (place behind : ℕ) (r : RangeEnd) (sorted : IsSortedByPoint es) (within : behind ≤ length es) where
  -- the ends before a place are outside, and those at the node of the one there are outside with it
  passed : ((k : ℕ) (d : RangeEnd) → k < place → is_inside f top (get_or es k d).node ≡ false) →
      (place < length es) × (is_inside f top (get_or es place r).node ≡ false) →
      ((k : ℕ) (d : RangeEnd) → k < behind → (get_or es place r).node ≤ (get_or es k d).node) →
      (k : ℕ) (d : RangeEnd) → k < behind → is_inside f top (get_or es k d).node ≡ false
  passed before out less k d l = elim (cases_lt k place) [
    | inl m ↦ before k d m
    | inr m ↦
        let low = (sorted place k d m (omega (arith, l, within))).0 in
        let read = ap (λ (e : RangeEnd). e.node) (get_or_default es place d r out.0) in
        let same : (get_or es k d).node ≡ (get_or es place r).node = omega (arith, low, less k d l, read) in
        ap (is_inside f top) same ∙ out.1
  ]

pub returns-in-Some-clause-tested : goal.returns-in-Some-clause-tested
returns-in-Some-clause-tested c = λ x is.
    let f = c.args.forest.now in
    let e = c.law_nodes_stand_once.ensures in
    let was = c.requires.tested in
    subst (λ (next : ℕ × ℕ). AreTested f c.args.top c.args.ends.now next.0 next.1) (same_Some _ x is)
    (record {
      within = was.within;
      node = c.in-Some.ensures.node c.in-Some.above refl;
      before = was.before;
      same = λ d. was.same d ∙ inside-up f e.once e.only e.distinct c.args.top c.args.at
          (c.requires.nodes c.args.place (end_in 0 false (at 0 0)) was.within).0 was.node c.requires.other c.in-Some.above c.in-Some.ensures.value;
    })

pub returns-then-behind-ends-clause-none : goal.returns-then-behind-ends-clause-none
returns-then-behind-ends-clause-none c = λ _ k d l.
    let f = c.args.forest.now in
    let e = c.law_nodes_stand_once.ensures in
    let was = c.requires.tested in
    let r = c.index-ends-place.result in
    let out = was.same r ∙ inside-root f e.once e.only e.distinct c.args.top c.args.at (c.requires.nodes c.args.place r was.within).0 was.node c.requires.other
    c.in_default.ensures.value in
    passed f c.args.top c.args.ends.now c.args.place c.behind_node-behind.result r c.requires.sorted c.behind_node-behind.ensures.within was.before
    (was.within, out) c.behind_node-behind.ensures.less k d (omega (arith, l, c.if-behind-ends.true))

pub returns-clause-tested : goal.returns-clause-tested
returns-clause-tested c = λ x is.
    let f = c.args.forest.now in
    let e = c.law_nodes_stand_once.ensures in
    let was = c.requires.tested in
    let es = c.args.ends.now in
    let behind = c.behind_node-behind.result in
    let r = c.index-ends-place.result in
    let out = was.same r ∙ inside-root f e.once e.only e.distinct c.args.top c.args.at (c.requires.nodes c.args.place r was.within).0 was.node c.requires.other
    c.in_default.ensures.value in
    let within : behind < length es = omega (arith, c.behind_node-behind.ensures.within, c.if-behind-ends.false) in
    subst (λ (next : ℕ × ℕ). AreTested f c.args.top es next.0 next.1) (same_Some _ x is)
    (record {
      within = within;
      node = (c.requires.nodes behind c.index-ends-behind.result within).1;
      before = passed f c.args.top es c.args.place behind r c.requires.sorted c.behind_node-behind.ensures.within was.before (was.within, out)
          c.behind_node-behind.ensures.less;
      same = λ d. ap (λ (z : RangeEnd). is_inside f c.args.top z.node) (get_or_default es behind d c.index-ends-behind.result within);
    })
