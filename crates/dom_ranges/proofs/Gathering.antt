-- Listed ends that change places while those at one node are brought together and put back in order.
use Rattle.dom_ranges.proofs.Cited.{◌≡◌, ◌≢◌, ◌⊎◌, inl, inr, ℕ, ◌+◌, ◌-◌, ◌<◌, ◌≤◌, List, [], ◌∷◌, suc, set, length, get_or, take, drop, ◌++◌, sym, ap, ◌∙◌}
use Rattle.dom_ranges.proofs.Cited.{subst, arith, SwappedAt, RotatedLeft, remove, IsPermutation, IsPermutation-remove, IsPermutation-trans, IsPermutation-sym}
use Rattle.dom_ranges.proofs.Cited.{true, cases_eq, cases_lt, cases_order, le-leb, lt-ltb, append-nil, drop_at, take_all, get_or-take, get_or-drop, length-drop}
use Rattle.dom_ranges.proofs.Cited.{length-set, get_or-set_same, take-set-le, drop-set-lt, get_or_append_left, get_or-append_right, length-take-le, AreAt}
use Rattle.dom_ranges.proofs.Cited.{AtMostBut, HasChanged, is_in, IsFirm, IsOrdered, IsSortedBeside, IsTurned, point_of, RangeEnd, Span, Boundary}
use Rattle.dom_ranges.proofs.Orders.{points_same}
use borrow.Rule.Slice.PartMut.{put_mid, mid_of}

-- an end that is not at the node was put before those that are
module _ (es now : List RangeEnd) (low node kept i : ℕ) (behind : kept ≤ i) (swapped : SwappedAt es now kept i)
    (other : (d : RangeEnd) → (get_or es i d).node ≢ node) where
  -- one end more is not at the node
  pub others-more : ((k : ℕ) (d : RangeEnd) → low ≤ k → k < kept → (get_or es k d).node ≢ node) → (k : ℕ) (d : RangeEnd) → low ≤ k → k < kept + 1 →
      (get_or now k d).node ≢ node
  others-more others k d from to e = elim (cases_eq k kept) [
    | inl f ↦ other d (sym (ap (λ (x : RangeEnd). x.node) (ap (λ (t : ℕ). get_or now t d) f ∙ swapped.0 d)) ∙ e)
    | inr off ↦ others k d from (omega (arith, off)) (sym (ap (λ (x : RangeEnd). x.node) (swapped.2 k d off (λ g. omega (arith, g, off)))) ∙ e)
  ]

  module _ (high : ℕ) (order : low ≤ kept) (inside : i < high) (within : high ≤ length es) (same : length now ≡ length es)
      (sorted : IsSortedBeside es low high node) (gathered : AreAt es kept i node) where
    -- one end more stands before those at the node
    pub AreAt-more : AreAt now (kept + 1) (i + 1) node
    AreAt-more k d from to = elim (cases_eq k i) [
      | inl e ↦ ap (λ (t : ℕ). (get_or now t d).node) e ∙ (ap (λ (x : RangeEnd). x.node) (swapped.1 d) ∙ gathered kept d (omega arith) (omega (arith, e)))
      | inr off ↦ ap (λ (x : RangeEnd). x.node) (swapped.2 k d (λ e. omega (arith, e)) off) ∙ gathered k d (omega arith) (omega (arith, off))
    ]

    -- what stands at a place now stood at another, where it was no end at the node if it is none
    stood : (k : ℕ) (d : RangeEnd) → IsFirm low high node k (get_or now k d) → ((k ≡ kept) × (get_or now k d ≡ get_or es i d)) ⊎
        (((k < kept) ⊎ (i < k)) × (get_or now k d ≡ get_or es k d))
    stood k d firm = elim (cases_eq k kept) [
      | inl e ↦ inl (e, ap (λ (t : ℕ). get_or now t d) e ∙ swapped.0 d)
      | inr off ↦ elim (cases_eq k i) [
        | inl e ↦ absurd
            (loose kept (ap (λ (t : ℕ). get_or now t d) e ∙ swapped.1 d) (omega arith) (omega (arith, e, off)) (omega (arith, e)) (omega (arith, e)))
        | inr away ↦ here off away
      ]
    ]
      where
        loose : (j : ℕ) → get_or now k d ≡ get_or es j d → kept ≤ j → j < i → low ≤ k → k < high → ⊥
        loose j e from to above below = elim firm [
          | inl f ↦ omega (arith, f, above)
          | inr f ↦ elim f [
            | inl g ↦ omega (arith, g, below)
            | inr g ↦ g (ap (λ (x : RangeEnd). x.node) e ∙ gathered j d from to)
          ]
        ]

        here : k ≢ kept → k ≢ i → ((k ≡ kept) × (get_or now k d ≡ get_or es i d)) ⊎ (((k < kept) ⊎ (i < k)) × (get_or now k d ≡ get_or es k d))
        here off away = let stays = swapped.2 k d off away in elim (apart k kept off) [
          | inl l ↦ inr (inl l, stays)
          | inr l ↦ elim (apart k i away) [
            | inl m ↦ absurd (loose k stays (omega (arith, l)) m (omega (arith, l)) (omega (arith, m)))
            | inr m ↦ inr (inr m, stays)
          ]
        ]
          where
            apart : (a b : ℕ) → a ≢ b → (a < b) ⊎ (b < a)
            apart a b ne = elim (cases_order a b) [ inl e ↦ absurd (ne e) | inr l ↦ l ]

    -- the others are sorted still
    pub IsSortedBeside-more : IsSortedBeside now low high node
    IsSortedBeside-more a b d le in_list firm_a firm_b = elim (stood a d firm_a) [
      | inl p ↦ elim (stood b d firm_b) [
        | inl q ↦ by p.1 q.1 (omega arith, λ _ _. omega arith)
        | inr q ↦ by p.1 q.1 (sorted i b d (order_of p.0 q.0) (omega (arith, same)) (inr (inr (other d))) (firm_at b q.1 firm_b))
      ]
      | inr p ↦ elim (stood b d firm_b) [
        | inl q ↦ by p.1 q.1 (sorted a i d (omega (arith, le, q.0)) (omega arith) (firm_at a p.1 firm_a) (inr (inr (other d))))
        | inr q ↦ by p.1 q.1 (sorted a b d le (omega (arith, same)) (firm_at a p.1 firm_a) (firm_at b q.1 firm_b))
      ]
    ]
      where
        by : {x y : RangeEnd} → get_or now a d ≡ x → get_or now b d ≡ y → AtMostBut node (point_of x) (point_of y) →
            AtMostBut node (point_of (get_or now a d)) (point_of (get_or now b d))
        by e f h = points_same (AtMostBut node) e f h

        order_of : a ≡ kept → (b < kept) ⊎ (i < b) → i ≤ b
        order_of e f = elim f [ inl l ↦ absurd (omega (arith, e, l, le)) | inr l ↦ omega (arith, l) ]

        firm_at : (k : ℕ) → get_or now k d ≡ get_or es k d → IsFirm low high node k (get_or now k d) → IsFirm low high node k (get_or es k d)
        firm_at k e f = subst (IsFirm low high node k) e f

-- a part of a list
module _ (es : List RangeEnd) (first behind : ℕ) where
  -- what the part held
  pub mid-was : (j i : ℕ) (d : RangeEnd) → first + j ≡ i → j < behind - first → get_or (mid_of first (behind - first) es) j d ≡ get_or es i d
  mid-was j i d e l = get_or-take (behind - first) (drop first es) j d l ∙ (get_or-drop first es j d ∙ ap (λ (t : ℕ). get_or es t d) e)

  module _ (order : first ≤ behind) (within : behind ≤ length es) where
    pub length-mid : length (mid_of first (behind - first) es) ≡ behind - first
    length-mid = length-take-le (behind - first) (drop first es) (omega (arith, length-drop first es))

    front : length (take first es) ≡ first
    front = length-take-le first es (omega arith)

    -- the part was written
    module _ (ys : List RangeEnd) (same : length ys ≡ length (mid_of first (behind - first) es)) where
      pub mid-outside : (k : ℕ) (d : RangeEnd) → (k < first) ⊎ (behind ≤ k) → get_or (put_mid first (behind - first) es ys) k d ≡ get_or es k d
      mid-outside k d (inl l) =
          get_or_append_left (take first es) (ys ++ drop (behind - first) (drop first es)) d k (omega (arith, front, l)) ∙ get_or-take first es k d l
      mid-outside k d (inr l) =
          get_or-append_right (take first es) (ys ++ drop (behind - first) (drop first es)) first k d front (omega (arith, l))
          ∙ (get_or-append_right ys (drop (behind - first) (drop first es)) (behind - first) (k - first) d (same ∙ length-mid) (omega (arith, l))
          ∙ (get_or-drop (behind - first) (drop first es) (k - first - (behind - first)) d
          ∙ (get_or-drop first es (behind - first + (k - first - (behind - first))) d ∙ ap (λ (t : ℕ). get_or es t d) (omega (arith, l)))))

      pub mid-part : (k : ℕ) (d : RangeEnd) → first ≤ k → k < behind → get_or (put_mid first (behind - first) es ys) k d ≡ get_or ys (k - first) d
      mid-part k d l m =
          get_or-append_right (take first es) (ys ++ drop (behind - first) (drop first es)) first k d front l
          ∙ get_or_append_left ys (drop (behind - first) (drop first es)) d (k - first) (omega (arith, same, length-mid, l, m))

-- a part of a list that was rotated
pub IsTurned-rotated : {es : List RangeEnd} (ys : List RangeEnd) {first middle behind : ℕ} → first ≤ middle → middle ≤ behind → behind ≤ length es →
    RotatedLeft (mid_of first (behind - first) es) ys (length (mid_of first (behind - first) es)) (middle - first)
    → length ys ≡ length (mid_of first (behind - first) es) → IsTurned es (put_mid first (behind - first) es ys) first middle behind
IsTurned-rotated {es} ys {first} {middle} {behind} one two within rotated same =
    record {
      outside = mid-outside es first behind (omega arith) within ys same;
      second = λ k d l m. mid-part es first behind (omega arith) within ys same k d l (omega (arith, m, one)) ∙
          (rotated.0 (k - first) d (omega (arith, size, m, l)) ∙
          mid-was es first behind (k - first + (middle - first)) (k + middle - first) d (omega (arith, l)) (omega (arith, m, l)));
      first_part = λ k d l m. mid-part es first behind (omega arith) within ys same k d (omega (arith, m, two)) l ∙
          (rotated.1 (k - first) d (omega (arith, size, m, two)) (omega (arith, size, l, m, two)) ∙
          mid-was es first behind (k - first + (middle - first) - length (mid_of first (behind - first) es)) (k + middle - behind) d
          (omega (arith, size, l, m)) (omega (arith, size, l, m)));
    }
  where
    size : length (mid_of first (behind - first) es) ≡ behind - first
    size = length-mid es first behind (omega arith) within

-- what stands between two places of a list, as it is turned
module _ (es now : List RangeEnd) (first middle behind : ℕ) (one : first ≤ middle) (two : middle ≤ behind) (within : behind ≤ length es)
    (same : length now ≡ length es) (turned : IsTurned es now first middle behind) where
  -- where what stands at a place stood before
  stood_before : (k : ℕ) (d : RangeEnd)
      → (((k < first) ⊎ (behind ≤ k)) × (get_or now k d ≡ get_or es k d))
      ⊎ (((first ≤ k) × (k + middle < behind + first) × (get_or now k d ≡ get_or es (k + middle - first) d))
      ⊎ ((k < behind) × (behind + first ≤ k + middle) × (get_or now k d ≡ get_or es (k + middle - behind) d)))
  stood_before k d = elim (cases_lt k first) [
    | inl l ↦ inl (inl l, turned.outside k d (inl l))
    | inr l ↦ elim (cases_lt k behind) [
      | inr m ↦ inl (inr m, turned.outside k d (inr m))
      | inl m ↦ elim (cases_lt (k + middle) (behind + first)) [
        | inl n ↦ inr (inl (l, n, turned.second k d l n))
        | inr n ↦ inr (inr (m, n, turned.first_part k d m n))
      ]
    ]
  ]

  -- the list is sorted then, where it was but for these two parts
  pub IsOrdered-turned : (R : Boundary ℕ → Boundary ℕ → Type 0)
      → ((i j : ℕ) (d : RangeEnd) → i ≤ j → j < length es → (first ≤ i → i < middle → middle ≤ j → j < behind → ⊥) →
      R (point_of (get_or es i d)) (point_of (get_or es j d)))
      → ((i j : ℕ) (d : RangeEnd) → first ≤ i → i < middle → middle ≤ j → j < behind → R (point_of (get_or es j d)) (point_of (get_or es i d)))
      → IsOrdered R now
  IsOrdered-turned R keeps turns a b d le in_list = elim (stood_before a d) [
    | inl p ↦ elim (stood_before b d) [
      | inl q ↦ by a b p.1 q.1 (keeps a b d le (omega (arith, same)) (λ f g h i. out a p.0 f (omega (arith, g))))
      | inr q ↦ elim q [
        | inl r ↦ by a (b + middle - first) p.1 r.2
            (keeps a (b + middle - first) d (omega (arith, le, r.0)) (omega (arith, r.1)) (λ f g h i. out a p.0 f (omega (arith, g))))
        | inr r ↦ by a (b + middle - behind) p.1 r.2
            (keeps a (b + middle - behind) d (below a p.0 (omega (arith, le, r.0)) (b + middle - behind) (omega (arith, r.1)))
            (omega (arith, r.0)) (λ f g h i. out a p.0 f (omega (arith, g))))
      ]
    ]
    | inr p ↦ elim p [
      | inl p ↦ elim (stood_before b d) [
        | inl q ↦ by (a + middle - first) b p.2 q.1
            (keeps (a + middle - first) b d (above b q.0 (omega (arith, le, p.0)) (a + middle - first) (omega (arith, p.1))) (omega (arith, same))
            (λ f g h i. omega (arith, g, p.0)))
        | inr q ↦ elim q [
          | inl r ↦ by (a + middle - first) (b + middle - first) p.2 r.2
              (keeps (a + middle - first) (b + middle - first) d (omega (arith, le)) (omega (arith, r.1)) (λ f g h i. omega (arith, g, p.0)))
          | inr r ↦ by (a + middle - first) (b + middle - behind) p.2 r.2
              (turns (b + middle - behind) (a + middle - first) d (omega (arith, r.1)) (omega (arith, r.0)) (omega (arith, p.0)) (omega (arith, p.1)))
        ]
      ]
      | inr p ↦ elim (stood_before b d) [
        | inl q ↦ by (a + middle - behind) b p.2 q.1
            (keeps (a + middle - behind) b d (above b q.0 (omega (arith, le, p.1)) (a + middle - behind) (omega (arith, p.0)))
            (omega (arith, same)) (λ f g h i. out b q.0 (omega (arith, h)) i))
        | inr q ↦ elim q [
          | inl r ↦ absurd (omega (arith, le, p.1, r.1))
          | inr r ↦ by (a + middle - behind) (b + middle - behind) p.2 r.2
              (keeps (a + middle - behind) (b + middle - behind) d (omega (arith, le)) (omega (arith, r.0)) (λ f g h i. omega (arith, h, r.0)))
        ]
      ]
    ]
  ]
    where
      by : (i j : ℕ) → get_or now a d ≡ get_or es i d → get_or now b d ≡ get_or es j d → R (point_of (get_or es i d)) (point_of (get_or es j d)) →
          R (point_of (get_or now a d)) (point_of (get_or now b d))
      by i j e f l = points_same R e f l

      out : (k : ℕ) → (k < first) ⊎ (behind ≤ k) → first ≤ k → k < behind → ⊥
      out k p f g = elim p [ inl l ↦ omega (arith, l, f) | inr l ↦ omega (arith, l, g) ]

      below : (k : ℕ) → (k < first) ⊎ (behind ≤ k) → k < behind → (j : ℕ) → first ≤ j → k ≤ j
      below k p l j m = elim p [ inl f ↦ omega (arith, f, m) | inr f ↦ absurd (omega (arith, f, l)) ]

      above : (k : ℕ) → (k < first) ⊎ (behind ≤ k) → first ≤ k → (j : ℕ) → j < behind → j ≤ k
      above k p l j m = elim p [ inl f ↦ absurd (omega (arith, f, l)) | inr f ↦ omega (arith, f, m) ]

-- a place between two is in the part
pub is_in-between : (part : Span) (k : ℕ) → part.first ≤ k → k < part.behind → is_in part k ≡ true
is_in-between part k l m = rw (le-leb part.first k l) (lt-ltb k part.behind m)

-- one end more is at the node
pub AreAt-grown : (es : List RangeEnd) (kept i node : ℕ) → ((d : RangeEnd) → (get_or es i d).node ≡ node) → AreAt es kept i node → AreAt es kept (i + 1) node
AreAt-grown es kept i node here gathered k d from to = elim (cases_eq k i) [
  | inl e ↦ ap (λ (t : ℕ). (get_or es t d).node) e ∙ here d
  | inr off ↦ gathered k d from (omega (arith, off))
]

-- an end that was set and then taken out
pub remove-set : (es : List RangeEnd) (i : ℕ) (x : RangeEnd) → remove (set es i x) i ≡ remove es i
remove-set es i x = ap (λ xs. xs ++ drop (suc i) (set es i x)) (take-set-le i es i x (omega arith)) ∙
    ap (λ xs. take i es ++ xs) (drop-set-lt (suc i) es i x (omega arith))

-- an end that changed, in a list that was put in order
pub HasChanged-set : {es now : List RangeEnd} (i : ℕ) {x y : RangeEnd} → i < length es → ((d : RangeEnd) → get_or es i d ≡ x) →
    IsPermutation (set es i y) now → HasChanged es now (x ∷ []) (y ∷ [])
HasChanged-set {es} i {x} {y} within here moved =
    let inside : i < length (set es i y) = omega (arith, within, length-set es i y) in
    record {
      rest = remove es i;
      before = IsPermutation-remove es i x within (sym (here x));
      after = IsPermutation-trans _ _ _ (subst (λ (xs : List RangeEnd). IsPermutation (y ∷ xs) (set es i y)) (remove-set es i y)
          (IsPermutation-sym _ _ (IsPermutation-remove (set es i y) i y inside (sym (get_or-set_same es i y y within))))) moved;
    }

-- a list whose slice was written whole
pub written-back : (xs ys : List RangeEnd) (n : ℕ) → length ys ≡ length xs → length xs ≤ n → take n (ys ++ drop (length ys) xs) ≡ ys
written-back xs ys n same fits =
    ap (λ zs. take n (ys ++ zs)) (ap (drop (length ys)) (sym (append-nil xs)) ∙ drop_at xs [] (length ys) (sym same)) ∙
    (ap (take n) (append-nil ys) ∙ take_all n ys (omega (arith, same, fits)))
