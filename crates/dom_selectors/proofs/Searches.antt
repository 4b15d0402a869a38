-- Where a search stops, and why the nearest node at which it holds answers for all that are farther.
use Rattle.dom_selectors.proofs.Cited.{◌≡◌, inl, inr, Bool, true, false, List, [], ◌∷◌, ◌++◌, refl, ap, sym, subst, ◌∙◌, true≢false, list_any, or_left}
use Rattle.dom_selectors.proofs.Cited.{or_right, or_cases, false_from_ne_true, list_any-append, NodeName, Trees, ancestors, Complex, alone, joined, Combinator}
use Rattle.dom_selectors.proofs.Cited.{descendant, child, next, later, CompoundPart, complex_matches, elements_before, In, In-left, In-right, In-parts, Has}
use Rattle.dom_selectors.proofs.Cited.{Once, elements_to, MatchesAbove, IsDescendant, IsSearched, StopsAt, ChainEnds, ChainIsBefore, SegmentEnds}
use Rattle.dom_selectors.proofs.Cited.{SegmentIsAbove}
use Rattle.dom_selectors.proofs.Earlier.{any-passes, passes-any, stands-matching, earlier-in, ancestor-in}
use Rattle.dom_selectors.proofs.Chains.{Leads, combined, matches-parts}

-- two answers that follow from one another are the same
same_answer : (a b : Bool) → (a ≡ true → b ≡ true) → (b ≡ true → a ≡ true) → a ≡ b
same_answer true b f g = sym (f refl)
same_answer false b f g = sym (false_from_ne_true b (λ e. true≢false (sym (g e))))

-- ---- what answers where a search stops

-- an element before a node, or the node
pub record IsBeside (ts : Trees) (u x : NodeName) : Type 0 where
  pub above : ancestors ts u ≡ ancestors ts x
  pub before : (v : NodeName) → In v (elements_before ts u) → In v (elements_before ts x)

module _ (ts : Trees) (once : Once ts) where
  beside-in : (u x : NodeName) → Has ts x → In u (elements_to ts x) → IsBeside ts u x
  beside-in u x h i = elim (In-parts u (elements_before ts x) (x ∷ []) i) [
    | inl j ↦
        let w = earlier-in ts u x once h j in
        record { above = w.its.above; before = λ v k. subst (In v) (sym w.split) (In-left v (elements_before ts u) (u ∷ w.behind) k) }
    | inr j ↦ elim j [
      | inl same ↦ record { above = ap (ancestors ts) same; before = λ v k. subst (λ y. In v (elements_before ts y)) same k }
      | inr no_more ↦ absurd no_more
    ]
  ]

  -- it answers for the elements before
  stop-beside : (d : Complex) (z : NodeName) → Has ts z → StopsAt IsSearched ts d z → list_any (complex_matches ts d) (elements_to ts z) ≡ true →
      complex_matches ts d z ≡ true
  stop-beside (alone c) z h stops e = stops
  stop-beside (joined l descendant k) z h stops e =
      let w = any-passes (complex_matches ts (joined l descendant k)) (elements_to ts z) e in
      let its = beside-in w.node z h w.among in
      combined ts l descendant k z stops.1 ∙ (ap (list_any (complex_matches ts l)) (sym its.above) ∙ (matches-parts ts l descendant k w.node w.passes).1)
  stop-beside (joined l child k) z h stops e = absurd stops.0
  stop-beside (joined l next k) z h stops e = absurd stops.0
  stop-beside (joined l later k) z h stops e =
      let w = any-passes (complex_matches ts (joined l later k)) (elements_to ts z) e in
      let its = beside-in w.node z h w.among in
      let v = any-passes (complex_matches ts l) (elements_before ts w.node) (matches-parts ts l later k w.node w.passes).1 in
      combined ts l later k z stops.1 ∙ passes-any (complex_matches ts l) (elements_before ts z) v.node (its.before v.node v.among) v.passes

-- and for what is above
pub stop-above : (ts : Trees) (d : Complex) (z : NodeName) → StopsAt IsDescendant ts d z → MatchesAbove ts d z → complex_matches ts d z ≡ true
stop-above ts (alone c) z stops w = stops
stop-above ts (joined l descendant k) z stops w =
    combined ts l descendant k z stops.1
    ∙ (ap (list_any (complex_matches ts l)) w.above
    ∙ (list_any-append (complex_matches ts l) w.front (ancestors ts w.node)
    ∙ or_right (list_any (complex_matches ts l) w.front) _ (matches-parts ts l descendant k w.node w.matches).1))
stop-above ts (joined l how k) z stops w = absurd stops.0

-- ---- chains

-- a chain ends where a search along it stops
pub chain-ends : {ts : Trees} {c d : Complex} {x z : NodeName} → Once ts → Has ts z → Leads ts c x d z → StopsAt IsSearched ts d z → ChainEnds ts c x d z
chain-ends {ts} {d} {z} once h l stops = record { same = l.same; beside = λ e. stop-beside ts once d z h stops (l.beside e); above = l.above; stops = stops }

-- the nearest element before at which it holds answers for those that are farther
pub chain-before : {ts : Trees} {c d : Complex} {y z : NodeName} (x : NodeName) → ancestors ts y ≡ ancestors ts x →
    list_any (complex_matches ts c) (elements_to ts y) ≡ list_any (complex_matches ts c) (elements_before ts x) → ChainEnds ts c y d z →
    ChainIsBefore ts c x d z
chain-before {ts} {c} {y} x up all w = record {
  same = sym all ∙ same_answer _ _ w.beside
      (λ e. passes-any (complex_matches ts c) (elements_to ts y) y (In-right y (elements_before ts y) (y ∷ []) (inl refl)) (w.same ∙ e));
  above = λ m. w.above (record { node = m.node; front = m.front; above = up ∙ m.above; matches = m.matches });
  stops = w.stops;
}

-- ---- segments

-- what is above a node and has a matching element before it
later-above : (ts : Trees) (l : Complex) (k : List CompoundPart) (x : NodeName) → Once ts → MatchesAbove ts (joined l later k) x → MatchesAbove ts l x
later-above ts l k x once w =
    let parts = matches-parts ts l later k w.node w.matches in
    let v = any-passes (complex_matches ts l) (elements_before ts w.node) parts.1 in
    let its = (earlier-in ts v.node w.node once (stands-matching ts k w.node parts.0) v.among).its in
    record { node = v.node; front = w.front; above = w.above ∙ ap (λ xs. w.front ++ xs) (sym its.above); matches = v.passes }

-- a search that has come to d at z, and stops there
pub record Comes (ts : Trees) (c : Complex) (x : NodeName) (d : Complex) (z : NodeName) : Type 0 where
  pub same : complex_matches ts c x ≡ complex_matches ts d z
  pub above : MatchesAbove ts c x → MatchesAbove ts d z
  pub stops : StopsAt IsSearched ts d z

-- at the end of a chain
pub comes-first : (ts : Trees) (c d : Complex) (x z : NodeName) → ChainEnds ts c x d z → Comes ts c x d z
comes-first ts c d x z w = record { same = w.same; above = w.above; stops = w.stops }

-- it has come to a selector whose last compound stands behind `~`
module _ {ts : Trees} {c d l : Complex} {x y : NodeName} (w : Comes ts c x d y) (k : List CompoundPart) (is : d ≡ joined l later k) where
  -- at the end of a chain before it
  pub comes-before : (e : Complex) (z : NodeName) → Once ts → ChainIsBefore ts l y e z → Comes ts c x e z
  comes-before e z once v =
      let stops = subst (λ b. StopsAt IsSearched ts b y) is w.stops in
      record {
        same = w.same ∙ (ap (λ b. complex_matches ts b y) is ∙ (combined ts l later k y stops.1 ∙ v.same));
        above = λ m. v.above (later-above ts l k y once (subst (λ b. MatchesAbove ts b y) is (w.above m)));
        stops = v.stops;
      }

  -- where there is none, nothing matches
  pub none-before : list_any (complex_matches ts l) (elements_before ts y) ≡ false → complex_matches ts c x ≡ false
  none-before e =
      let stops = subst (λ b. StopsAt IsSearched ts b y) is w.stops in
      w.same ∙ (ap (λ b. complex_matches ts b y) is ∙ (combined ts l later k y stops.1 ∙ e))

-- it stops before white space where it does not stop before `~`
not_later : (how : Combinator) → IsSearched how → (how ≡ later → ⊥) → IsDescendant how
not_later descendant s other = tt
not_later child s other = s
not_later next s other = s
not_later later s other = other refl

pub stops-white : {d l : Complex} {how : Combinator} {k : List CompoundPart} (ts : Trees) (z : NodeName) → d ≡ joined l how k → (how ≡ later → ⊥) →
    StopsAt IsSearched ts d z → StopsAt IsDescendant ts d z
stops-white {how} ts z is other stops =
    let s = subst (λ b. StopsAt IsSearched ts b z) is stops in
    subst (λ b. StopsAt IsDescendant ts b z) (sym is) (not_later how s.0 other, s.1)

-- a segment ends there
pub segment-ends : {ts : Trees} {c d : Complex} {x z : NodeName} → Comes ts c x d z → StopsAt IsDescendant ts d z → SegmentEnds ts c x d z
segment-ends {ts} {d} {z} w stops = record { same = w.same; above = λ m. stop-above ts d z stops (w.above m); stops = stops }

-- the nearest ancestor at which it holds answers for those that are farther
pub segment-above : {ts : Trees} {c d : Complex} {y z : NodeName} (x : NodeName) → Once ts → Has ts y →
    list_any (complex_matches ts c) (y ∷ ancestors ts y) ≡ list_any (complex_matches ts c) (ancestors ts x) → SegmentEnds ts c y d z → SegmentIsAbove ts c x d z
segment-above {ts} {c} {d} {y} {z} x once h all w =
    record { same = sym all ∙ same_answer _ _ found (λ e. or_left (complex_matches ts c y) _ (w.same ∙ e)); stops = w.stops }
  where
    found : list_any (complex_matches ts c) (y ∷ ancestors ts y) ≡ true → complex_matches ts d z ≡ true
    found e = elim (or_cases (complex_matches ts c y) _ e) [
      | inl here ↦ sym w.same ∙ here
      | inr there ↦
          let v = any-passes (complex_matches ts c) (ancestors ts y) there in
          let up = ancestor-in ts v.node y once h v.among in
          w.above (record { node = v.node; front = up.front; above = up.above; matches = v.passes })
    ]

-- ---- the whole

-- a segment above, left of white space
pub goes-above : {ts : Trees} {d l e : Complex} {how : Combinator} {k : List CompoundPart} {y z : NodeName} → d ≡ joined l how k → StopsAt IsDescendant ts d y →
    SegmentIsAbove ts l y e z → complex_matches ts d y ≡ complex_matches ts e z
goes-above {ts} {l} {how = descendant} {k} {y} is stops v =
    ap (λ b. complex_matches ts b y) is ∙ (combined ts l descendant k y (subst (λ b. StopsAt IsDescendant ts b y) is stops).1 ∙ v.same)
goes-above {ts} {how} {y} is stops v = absurd (subst (λ b. StopsAt IsDescendant ts b y) is stops).0

-- where there is none, nothing matches
pub none-above : {d l : Complex} {how : Combinator} {k : List CompoundPart} (ts : Trees) (y : NodeName) → d ≡ joined l how k → StopsAt IsDescendant ts d y →
    list_any (complex_matches ts l) (ancestors ts y) ≡ false → complex_matches ts d y ≡ false
none-above {l} {how = descendant} {k} ts y is stops e =
    ap (λ b. complex_matches ts b y) is ∙ (combined ts l descendant k y (subst (λ b. StopsAt IsDescendant ts b y) is stops).1 ∙ e)
none-above {how} ts y is stops e = absurd (subst (λ b. StopsAt IsDescendant ts b y) is stops).0
