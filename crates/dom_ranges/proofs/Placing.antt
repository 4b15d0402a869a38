-- Ends that are brought to their place in a sorted list.
use Rattle.dom_ranges.proofs.Cited.{◌≡◌, ◌≢◌, ◌⊎◌, inl, inr, ℕ, ◌+◌, ◌-◌, ◌<◌, ◌≤◌, List, [], ◌∷◌, zero, suc, set, length, get_or, ◌++◌, refl, sym, ap, ◌∙◌}
use Rattle.dom_ranges.proofs.Cited.{subst, arith, true, true≢false, remove, IsNonDecreasingBy, IsPermutation, cases_lt, get_or_append_left, get_or-append_right}
use Rattle.dom_ranges.proofs.Cited.{length-append, length-set, get_or-set_same, get_or-set_other, length-remove, get_or-remove_below, get_or-remove_above}
use Rattle.dom_ranges.proofs.Cited.{All-permutation, length_permutation, IsPermutation-put_mid, Boundary, AreAt, AtMost, AtMostBut, is_in, IsOrdered}
use Rattle.dom_ranges.proofs.Cited.{IsSortedBeside, IsSortedBut, IsSortedByPoint, IsTurned, LessThan, offset_of, point_of, RangeEnd, Span}
use Rattle.dom_ranges.proofs.Gathering.{IsOrdered-turned, length-mid, mid-outside, mid-part, mid-was}
use Rattle.dom_ranges.proofs.Orders.{AtMostBut-nodes, points_same}
use Rattle.dom_ranges.proofs.Parts.{outside-part}
use borrow.Rule.Slice.PartMut.{put_mid, mid_of}

-- a group of ends in a list, where the ends outside it are in order among themselves, and those of the group too
pub record HasGroup (R : Boundary ℕ → Boundary ℕ → Type 0) (es : List RangeEnd) (first high : ℕ) : Type 0 where
  pub order : first ≤ high
  pub within : high ≤ length es
  pub outside : (i j : ℕ) (d : RangeEnd) → i ≤ j → j < length es → (i < first) ⊎ (high ≤ i) → (j < first) ⊎ (high ≤ j) →
      R (point_of (get_or es i d)) (point_of (get_or es j d))
  pub inside : (i j : ℕ) (d : RangeEnd) → first ≤ i → i ≤ j → j < high → R (point_of (get_or es i d)) (point_of (get_or es j d))

-- the group comes behind an end, or before it
abbrev pub IsBehind : (Boundary ℕ → Boundary ℕ → Type 0) → List RangeEnd → ℕ → ℕ → ℕ → Type 0
IsBehind R es first high i = (j : ℕ) (d : RangeEnd) → first ≤ j → j < high → R (point_of (get_or es i d)) (point_of (get_or es j d))

abbrev pub IsAhead : (Boundary ℕ → Boundary ℕ → Type 0) → List RangeEnd → ℕ → ℕ → ℕ → Type 0
IsAhead R es first high j = (i : ℕ) (d : RangeEnd) → first ≤ i → i < high → R (point_of (get_or es i d)) (point_of (get_or es j d))

module _ (R : Boundary ℕ → Boundary ℕ → Type 0) (es now : List RangeEnd) (first high : ℕ) (group : HasGroup R es first high)
    (same : length now ≡ length es) where
  -- the group comes to an earlier place
  pub placed-earlier : (to : ℕ) → to ≤ first → ((i : ℕ) → i < to → IsBehind R es first high i)
      → ((j : ℕ) → ((to ≤ j) × (j < first)) ⊎ (high ≤ j) → j < length es → IsAhead R es first high j) → IsTurned es now to first high → IsOrdered R now
  placed-earlier to before less more turned =
      IsOrdered-turned es now to first high before group.order group.within same turned R
      (λ i j d le l off. elim (cases_lt j first) [
        | inl m ↦ group.outside i j d le l (inl (omega (arith, m, le))) (inl m)
        | inr m ↦ elim (cases_lt j high) [
          | inl n ↦ elim (cases_lt i first) [
            | inl p ↦ elim (cases_lt i to) [ inl q ↦ less i q j d m n | inr q ↦ absurd (off q p m n) ]
            | inr p ↦ group.inside i j d p le n
          ]
          | inr n ↦ elim (cases_lt i first) [
            | inl p ↦ group.outside i j d le l (inl p) (inr n)
            | inr p ↦ elim (cases_lt i high) [ inl q ↦ more j (inr n) l i d p q | inr q ↦ group.outside i j d le l (inr q) (inr n) ]
          ]
        ]
      ])
      (λ i j d f g h k. more i (inl (f, g)) (omega (arith, g, group.order, group.within)) j d h k)

  -- the group comes to a later place
  pub placed-later : (to : ℕ) → high ≤ to → to ≤ length es → ((i : ℕ) → (i < first) ⊎ ((high ≤ i) × (i < to)) → IsBehind R es first high i)
      → ((j : ℕ) → to ≤ j → j < length es → IsAhead R es first high j) → IsTurned es now first high to → IsOrdered R now
  placed-later to behind in_list less more turned =
      IsOrdered-turned es now first high to group.order behind in_list same turned R
      (λ i j d le l off. elim (cases_lt j first) [
        | inl m ↦ group.outside i j d le l (inl (omega (arith, m, le))) (inl m)
        | inr m ↦ elim (cases_lt j high) [
          | inl n ↦ elim (cases_lt i first) [ inl p ↦ less i (inl p) j d m n | inr p ↦ group.inside i j d p le n ]
          | inr n ↦ elim (cases_lt i first) [
            | inl p ↦ group.outside i j d le l (inl p) (inr n)
            | inr p ↦ elim (cases_lt i high) [
              | inl q ↦ elim (cases_lt j to) [ inl r ↦ absurd (off p q n r) | inr r ↦ more j r l i d p q ]
              | inr q ↦ group.outside i j d le l (inr q) (inr n)
            ]
          ]
        ]
      ])
      (λ i j d f g h k. less j (inr (h, k)) i d f g)

-- ---- ends at one node, whatever their offsets

-- the end at a place is at this node or a lesser one
abbrev pub IsFrom : ℕ → List RangeEnd → ℕ → Type 0
IsFrom node es k = (d : RangeEnd) → (get_or es k d).node ≤ node

module _ (es : List RangeEnd) (first high node : ℕ) (order : first ≤ high) (within : high ≤ length es) (gathered : AreAt es first high node)
    (sorted : IsSortedBeside es first high node) where
  pub group-gathered : HasGroup (AtMostBut node) es first high
  group-gathered =
      record {
        order = order;
        within = within;
        outside = λ i j d le l p q. sorted i j d le l (firm (get_or es i d) i p) (firm (get_or es j d) j q);
        inside = λ i j d from le to. AtMostBut-nodes node _ _
            (omega (arith, gathered i d from (omega (arith, le, to)), gathered j d (omega (arith, from, le)) to))
            (λ _. gathered i d from (omega (arith, le, to)));
      }
    where
      firm : (e : RangeEnd) (k : ℕ) → (k < first) ⊎ (high ≤ k) → (k < first) ⊎ ((high ≤ k) ⊎ (e.node ≢ node))
      firm e k p = elim p [ inl l ↦ inl l | inr l ↦ inr (inl l) ]

  -- an end at no lesser node, or at no greater one
  pub behind-node : (i : ℕ) → ((d : RangeEnd) → node ≤ (get_or es i d).node) → IsBehind (AtMostBut node) es first high i
  behind-node i l j d from to = AtMostBut-nodes node _ _ (omega (arith, l d, gathered j d from to)) (λ e. e ∙ gathered j d from to)

  pub ahead-node : (j : ℕ) → IsFrom node es j → IsAhead (AtMostBut node) es first high j
  ahead-node j l i d from to = AtMostBut-nodes node _ _ (omega (arith, l d, gathered i d from to)) (λ _. gathered i d from to)

  -- an end behind the group is at no greater node where one before it is
  pub past-node : (i j : ℕ) → i < first → high ≤ j → j < length es → IsFrom node es i → IsFrom node es j
  past-node i j l m n up d = omega (arith, up d, (sorted i j d (omega (arith, l, m, order)) n (inl l) (inr (inl m))).0)

-- ---- one end with another boundary point

module _ (es : List RangeEnd) (place : ℕ) (y : RangeEnd) (within : place < length es) (sorted : IsSortedByPoint es) where
  kept : (k : ℕ) (d : RangeEnd) → (k < place) ⊎ (place + 1 ≤ k) → get_or (set es place y) k d ≡ get_or es k d
  kept k d p = get_or-set_other es place k y d (λ e. elim p [ inl l ↦ omega (arith, l, e) | inr l ↦ omega (arith, l, e) ])

  it : (k : ℕ) (d : RangeEnd) → place ≤ k → k < place + 1 → get_or (set es place y) k d ≡ y
  it k d l m = ap (λ (t : ℕ). get_or (set es place y) t d) (omega (arith, l, m)) ∙ get_or-set_same es place y d within

  pub group-set : HasGroup AtMost (set es place y) place (place + 1)
  group-set =
      record {
        order = omega arith;
        within = omega (arith, within, length-set es place y);
        outside = λ i j d le l p q. points_same AtMost (kept i d p) (kept j d q) (sorted i j d le (omega (arith, l, length-set es place y)));
        inside = λ i j d from le to. points_same AtMost (it i d from (omega (arith, le, to))) (it j d (omega (arith, from, le)) to)
            (omega arith, λ _. omega arith);
      }

  pub behind-set : (i : ℕ) → (i < place) ⊎ (place + 1 ≤ i) → ((d : RangeEnd) → AtMost (point_of (get_or es i d)) (point_of y)) →
      IsBehind AtMost (set es place y) place (place + 1) i
  behind-set i p l j d from to = points_same AtMost (kept i d p) (it j d from to) (l d)

  pub ahead-set : (j : ℕ) → (j < place) ⊎ (place + 1 ≤ j) → ((d : RangeEnd) → LessThan (point_of y) (point_of (get_or es j d))) →
      IsAhead AtMost (set es place y) place (place + 1) j
  ahead-set j p l i d from to = points_same AtMost (it i d from to) (kept j d p) (let h = l d in (h.0, λ e. omega (arith, h.1 e)))

-- ---- two ends with one boundary point behind a sorted list

module _ (es : List RangeEnd) (x y : RangeEnd) (alike : point_of x ≡ point_of y) (sorted : IsSortedByPoint es) where
  two : (k : ℕ) (d : RangeEnd) → length es ≤ k → k < length es + 2 → point_of (get_or (es ++ x ∷ y ∷ []) k d) ≡ point_of x
  two k d l m = ap (λ (e : RangeEnd). point_of e) (get_or-append_right es (x ∷ y ∷ []) (length es) k d refl l) ∙ by (k - length es) (omega (arith, l, m))
    where
      by : (j : ℕ) → j < 2 → point_of (get_or (x ∷ y ∷ []) j d) ≡ point_of x
      by zero n = refl
      by (suc zero) n = sym alike
      by (suc (suc j)) n = absurd (omega (arith, n))

  low : (k : ℕ) → k < length (es ++ x ∷ y ∷ []) → (k < length es) ⊎ (length es + 2 ≤ k) → k < length es
  low k l p = elim p [ inl m ↦ m | inr m ↦ absurd (omega (arith, l, m, length-append es (x ∷ y ∷ []))) ]

  was : (k : ℕ) (d : RangeEnd) → k < length es → get_or (es ++ x ∷ y ∷ []) k d ≡ get_or es k d
  was k d l = get_or_append_left es (x ∷ y ∷ []) d k l

  at_two : (R : Boundary ℕ → Boundary ℕ → Type 0) (b c : Boundary ℕ) → b ≡ point_of x → c ≡ point_of x → R (point_of x) (point_of x) → R b c
  at_two R b c e f h = subst (λ t. R t c) (sym e) (subst (R (point_of x)) (sym f) h)

  pub group-pushed : HasGroup AtMost (es ++ x ∷ y ∷ []) (length es) (length es + 2)
  group-pushed =
      record {
        order = omega arith;
        within = omega (arith, length-append es (x ∷ y ∷ []));
        outside = λ i j d le l p q. points_same AtMost (was i d (low i (omega (arith, le, l)) p)) (was j d (low j l q)) (sorted i j d le (low j l q));
        inside = λ i j d from le to. at_two AtMost _ _ (two i d from (omega (arith, le, to))) (two j d (omega (arith, from, le)) to)
            (omega arith, λ _. omega arith);
      }

  pub behind-pushed : (i : ℕ) → i < length es → ((d : RangeEnd) → AtMost (point_of (get_or es i d)) (point_of x)) →
      IsBehind AtMost (es ++ x ∷ y ∷ []) (length es) (length es + 2) i
  behind-pushed i l up j d from to = subst (λ b. AtMost b (point_of (get_or (es ++ x ∷ y ∷ []) j d))) (sym (ap (λ (e : RangeEnd). point_of e) (was i d l)))
      (subst (AtMost (point_of (get_or es i d))) (sym (two j d from to)) (up d))

  pub ahead-pushed : (j : ℕ) → (j < length es) ⊎ (length es + 2 ≤ j) → j < length (es ++ x ∷ y ∷ []) →
      ((d : RangeEnd) → j < length es → LessThan (point_of x) (point_of (get_or es j d))) →
      IsAhead AtMost (es ++ x ∷ y ∷ []) (length es) (length es + 2) j
  ahead-pushed j p l up i d from to =
      let h = up d (low j l p) in
      subst (λ b. AtMost b (point_of (get_or (es ++ x ∷ y ∷ []) j d))) (sym (two i d from to))
      (subst (AtMost (point_of x)) (sym (ap (λ (e : RangeEnd). point_of e) (was j d (low j l p)))) (h.0, λ e. omega (arith, h.1 e)))

-- ---- the ends at one node, sorted by their offsets

module _ (es ys : List RangeEnd) (node : ℕ) (part : Span) (order : part.first ≤ part.behind) (within : part.behind ≤ length es)
    (all : (k : ℕ) (d : RangeEnd) → k < length es → (get_or es k d).node ≡ node → is_in part k ≡ true)
    (only : (k : ℕ) (d : RangeEnd) → part.first ≤ k → k < part.behind → (get_or es k d).node ≡ node)
    (moved : IsPermutation (mid_of part.first (part.behind - part.first) es) ys) where
  abbrev now : List RangeEnd
  now = put_mid part.first (part.behind - part.first) es ys

  size : length ys ≡ length (mid_of part.first (part.behind - part.first) es)
  size = length_permutation _ _ moved

  whole : length (mid_of part.first (part.behind - part.first) es) ≡ part.behind - part.first
  whole = length-mid es part.first part.behind order within

  -- what is in the part is at the node
  at-node : (k : ℕ) (d : RangeEnd) → part.first ≤ k → k < part.behind → (get_or now k d).node ≡ node
  at-node k d l m =
      ap (λ (e : RangeEnd). e.node) (mid-part es part.first part.behind order within ys size k d l m) ∙
      All-permutation (λ (e : RangeEnd). e.node ≡ node) _ _ moved
      (λ j f n. ap (λ (e : RangeEnd). e.node) (mid-was es part.first part.behind j (part.first + j) f refl (omega (arith, n, whole))) ∙
      only (part.first + j) f (omega arith) (omega (arith, n, whole, order))) (k - part.first) d (omega (arith, size, whole, l, m))

  -- what is outside is not
  off-node : (k : ℕ) (d : RangeEnd) → k < length es → (k < part.first) ⊎ (part.behind ≤ k) → (get_or es k d).node ≢ node
  off-node k d l p e = true≢false (sym (all k d l e) ∙ outside-part part k p)

  pub IsSortedByPoint-ordered : IsSortedBut node es → IsNonDecreasingBy offset_of ys → IsSortedByPoint now
  IsSortedByPoint-ordered sorted up i j d le l = elim (cases i) [
    | inl p ↦ elim (cases j) [
      | inl q ↦ points_same AtMost (stays i p) (stays j q)
          (let s = sorted i j d le in_list in (s.0, λ e. s.1 e (off-node i d (omega (arith, le, in_list)) p)))
      | inr q ↦
          let s = sorted i j d le in_list in
          let apart = off-node i d (omega (arith, le, in_list)) p in
          let first : (get_or now i d).node ≡ (get_or es i d).node = ap (λ (e : RangeEnd). e.node) (stays i p) in
          let second : (get_or now j d).node ≡ (get_or es j d).node = at-node j d q.0 q.1 ∙ sym (only j d q.0 q.1) in
          (omega (arith, s.0, first, second), λ e. absurd (apart (sym first ∙ (e ∙ at-node j d q.0 q.1))))
    ]
    | inr p ↦ elim (cases j) [
      | inl q ↦
          let s = sorted i j d le in_list in
          let apart = off-node j d in_list q in
          let first : (get_or now i d).node ≡ (get_or es i d).node = at-node i d p.0 p.1 ∙ sym (only i d p.0 p.1) in
          let second : (get_or now j d).node ≡ (get_or es j d).node = ap (λ (e : RangeEnd). e.node) (stays j q) in
          (omega (arith, s.0, first, second), λ e. absurd (apart (sym second ∙ (sym e ∙ at-node i d p.0 p.1))))
      | inr q ↦ (
        omega (arith, at-node i d p.0 p.1, at-node j d q.0 q.1),
        λ _. omega (
          arith,
          ap (λ (e : RangeEnd). e.offset) (mid-part es part.first part.behind order within ys size i d p.0 p.1),
          ap (λ (e : RangeEnd). e.offset) (mid-part es part.first part.behind order within ys size j d q.0 q.1),
          up (i - part.first) (j - part.first) d (omega (arith, le, p.0)) (omega (arith, q.0, q.1, size, whole)),
        ),
      )
    ]
  ]
    where
      cases : (k : ℕ) → ((k < part.first) ⊎ (part.behind ≤ k)) ⊎ ((part.first ≤ k) × (k < part.behind))
      cases k = elim (cases_lt k part.first) [
        | inl m ↦ inl (inl m)
        | inr m ↦ elim (cases_lt k part.behind) [ inl n ↦ inr (m, n) | inr n ↦ inl (inr n) ]
      ]

      stays : (k : ℕ) → (k < part.first) ⊎ (part.behind ≤ k) → get_or now k d ≡ get_or es k d
      stays k p = mid-outside es part.first part.behind order within ys size k d p

      in_list : j < length es
      in_list = omega (arith, l, length_permutation es now (IsPermutation-put_mid part.first _ es ys moved))

-- ---- a list without one end

pub IsSortedByPoint-removed : (es : List RangeEnd) (i : ℕ) → i < length es → IsSortedByPoint es → IsSortedByPoint (remove es i)
IsSortedByPoint-removed es i within sorted a b d le l =
    let size = length-remove es i within in
    elim (cases_lt b i) [
      | inl m ↦ points_same AtMost (get_or-remove_below es i d a (omega (arith, m, le)) within) (get_or-remove_below es i d b m within)
          (sorted a b d le (omega (arith, m, within)))
      | inr m ↦ elim (cases_lt a i) [
        | inl n ↦ points_same AtMost (get_or-remove_below es i d a n within) (get_or-remove_above es i d b m within)
            (sorted a (b + 1) d (omega (arith, le)) (omega (arith, l, size)))
        | inr n ↦ points_same AtMost (get_or-remove_above es i d a n within) (get_or-remove_above es i d b m within)
            (sorted (a + 1) (b + 1) d (omega (arith, le)) (omega (arith, l, size)))
      ]
    ]
