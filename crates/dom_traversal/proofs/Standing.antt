-- The order of references in their list, and what taking one out leaves.
use Rattle.dom_traversal.proofs.Cited.{◌≡◌, inl, inr, ℕ, zero, suc, ◌+◌, ◌<◌, ◌≤◌, Bool, true, false, List, [], ◌∷◌, length, get_or, eqb, ltb, refl, sym, subst}
use Rattle.dom_traversal.proofs.Cited.{ap, ◌∙◌, arith, ◌&&◌, ◌||◌, Contains, remove, IsPartitionedBy, cases_Bool, cases_lt, eqb-true, eqb-false, ltb-true}
use Rattle.dom_traversal.proofs.Cited.{ltb-false, cases_eq, get_or_default, length-remove, get_or-remove_below, get_or-remove_above, Contains-append_cases}
use Rattle.dom_traversal.proofs.Cited.{Contains-append_right, Contains-permutation, IsPermutation-remove, IsPermutation-sym, insert, ◌⊎◌, ◌-◌, cases_order}
use Rattle.dom_traversal.proofs.Cited.{AreSorted, IsBefore, IsUpTo, Reference, reference_at}
use Rattle.std.proofs.lemmas.List.Edits.{get_or-insert_above, get_or-insert_at, get_or-insert_below, length-insert}

-- whether a reference comes before another one
abbrev pub is_before : Reference → Reference → Bool
is_before y x = ltb y.node x.node || (eqb x.node y.node && ltb x.number y.number)

-- none comes after a later one
pub AreSorted-up_to : (xs : List Reference) {j k : ℕ} (d : Reference) → AreSorted xs → j ≤ k → k < length xs → IsUpTo (get_or xs j d) (get_or xs k d)
AreSorted-up_to xs {j} {k} d sorted le l = elim (cases_eq j k) [
  | inl e ↦ subst (λ (n : ℕ). IsUpTo (get_or xs j d) (get_or xs n d)) e (omega arith, λ _. omega arith)
  | inr off ↦ let b = sorted j k d (omega (arith, le, off)) l in (b.0, λ s. let less = b.1 s in omega (arith, less))
]

-- ---- what the test says

pub before-true : (y x : Reference) → is_before y x ≡ true → IsBefore x y
before-true y x = by (ltb y.node x.node) (eqb x.node y.node) refl refl refl
  where
    by : (a b : Bool) {c : Bool} → ltb y.node x.node ≡ a → eqb x.node y.node ≡ b → ltb x.number y.number ≡ c → a || (b && c) ≡ true → IsBefore x y
    by true b f g h i = (omega (arith, ltb-true y.node x.node f), λ s. absurd (omega (arith, ltb-true y.node x.node f, s)))
    by false true {c = true} f g h i = (omega (arith, eqb-true x.node y.node g), λ _. ltb-true x.number y.number h)
    by false true {c = false} f g h i = cc
    by false false f g h i = cc

pub before-false : (y x : Reference) → is_before y x ≡ false → IsUpTo y x
before-false y x = by (ltb y.node x.node) (eqb x.node y.node) refl refl refl
  where
    by : (a b : Bool) {c : Bool} → ltb y.node x.node ≡ a → eqb x.node y.node ≡ b → ltb x.number y.number ≡ c → a || (b && c) ≡ false → IsUpTo y x
    by true b f g h i = cc
    by false true {c = true} f g h i = cc
    by false true {c = false} f g h i = (ltb-false y.node x.node f, λ _. ltb-false x.number y.number h)
    by false false f g h i = (ltb-false y.node x.node f, λ s. absurd (eqb-false x.node y.node g (sym s)))

-- it parts a sorted list
pub IsPartitionedBy-before : (y : Reference) (xs : List Reference) → AreSorted xs → IsPartitionedBy (is_before y) xs
IsPartitionedBy-before y xs sorted i j d le l e = elim (cases_Bool (is_before y (get_or xs i d))) [
  | inl f ↦ f
  | inr f ↦
      let up = before-true y (get_or xs j d) e in
      let past = before-false y (get_or xs i d) f in
      let s = AreSorted-up_to xs d sorted le l in
      absurd (let same : y.node ≡ (get_or xs i d).node = omega (arith, up.0, past.0, s.0) in
      omega (arith, past.1 same, s.1 (omega (arith, up.0, s.0, same)), up.1 (omega (arith, up.0, s.0, same))))
]

-- ---- where a reference stands in a sorted list that has it

module _ (xs : List Reference) (y : Reference) (place : ℕ) (sorted : AreSorted xs)
    (before : (k : ℕ) (d : Reference) → k < place → IsBefore (get_or xs k d) y)
    (from : (k : ℕ) (d : Reference) → place ≤ k → k < length xs → IsUpTo y (get_or xs k d)) where
  -- one at the same node with no lesser number is listed there or later
  place-up_to : (z : Reference) → y.node ≡ z.node → y.number ≤ z.number → (w : Contains xs z) → place ≤ w.0
  place-up_to z node le w = elim (cases_lt w.0 place) [
    | inl l ↦
        let b : IsBefore z y = subst (λ (x : Reference). IsBefore x y) w.2 (before w.0 z l) in
        let less = b.1 (sym node) in
        absurd (omega (arith, le, less))
    | inr l ↦ l
  ]

  -- and what is listed at the place is between both
  pub place-between : (z : Reference) → y.node ≡ z.node → y.number ≤ z.number → Contains xs z →
      (place < length xs) × ((d : Reference) → ((get_or xs place d).node ≡ y.node) × ((get_or xs place d).number ≤ z.number))
  place-between z node le w =
      let up = place-up_to z node le w in
      let within : place < length xs = omega (arith, up, w.1) in (
        within,
        λ d.
            let low = from place d (omega arith) within in
            let high = subst (λ (x : Reference). IsUpTo (get_or xs place d) x) (get_or_default xs w.0 d z w.1 ∙ w.2) (AreSorted-up_to xs d sorted up w.1) in
            let same : (get_or xs place d).node ≡ z.node = omega (arith, low.0, high.0, node) in
            (same ∙ sym node, high.1 same),
      )

  -- the reference itself is there if it is listed
  pub place-is : Contains xs y → (place < length xs) × ((d : Reference) → get_or xs place d ≡ y)
  place-is w =
      let found = place-between y refl (omega arith) w in (
        found.0,
        λ d.
            let low = from place d (omega arith) found.0 in
            let node = (found.1 d).0 in
            same (get_or xs place d) node (omega (arith, (found.1 d).1, low.1 (sym node))),
      )
    where
      same : (x : Reference) → x.node ≡ y.node → x.number ≡ y.number → x ≡ y
      same x e f = (λ i. reference_at (e i) (f i))

-- the same references in the same order
kept : {x y z w : Reference} → x ≡ z → y ≡ w → IsBefore z w → IsBefore x y
kept {x} {y} {z} {w} e f h = subst (λ (t : Reference). IsBefore t y) (sym e) (subst (λ (t : Reference). IsBefore z t) (sym f) h)

-- ---- a reference is taken out

module _ (xs : List Reference) (place : ℕ) (within : place < length xs) where
  -- the others are sorted still
  pub AreSorted-removed : AreSorted xs → AreSorted (remove xs place)
  AreSorted-removed sorted a b d le l =
      let size = length-remove xs place within in
      elim (cases_lt b place) [
        | inl m ↦ kept (get_or-remove_below xs place d a (omega (arith, m, le)) within) (get_or-remove_below xs place d b m within)
            (sorted a b d le (omega (arith, m, within)))
        | inr m ↦ elim (cases_lt a place) [
          | inl n ↦ kept (get_or-remove_below xs place d a n within) (get_or-remove_above xs place d b m within)
              (sorted a (b + 1) d (omega (arith, le)) (omega (arith, l, size)))
          | inr n ↦ kept (get_or-remove_above xs place d a n within) (get_or-remove_above xs place d b m within)
              (sorted (a + 1) (b + 1) d (omega (arith, le)) (omega (arith, l, size)))
        ]
      ]

  -- and all listed
  pub Contains-removed : (y x : Reference) → y ≡ get_or xs place y → (x ≡ y → ⊥) → Contains xs x → Contains (remove xs place) x
  Contains-removed y x is other w =
      elim (Contains-append_cases (y ∷ []) (remove xs place) x
      (Contains-permutation xs (y ∷ remove xs place) x (IsPermutation-remove xs place y within is) w)) [
        | inl v ↦ absurd (other (alone v))
        | inr v ↦ v
      ]
    where
      alone : Contains (y ∷ []) x → x ≡ y
      alone (zero, l, e) = sym e
      alone (suc k, l, e) = absurd (omega (arith, l))

  -- and no other ones
  pub Contains-was : (y x : Reference) → y ≡ get_or xs place y → Contains (remove xs place) x → Contains xs x
  Contains-was y x is w =
      Contains-permutation (y ∷ remove xs place) xs x (IsPermutation-sym xs (y ∷ remove xs place) (IsPermutation-remove xs place y within is))
      (Contains-append_right (y ∷ []) (remove xs place) x w)

  -- and not that one
  pub Contains-gone : (y x : Reference) → y ≡ get_or xs place y → AreSorted xs → Contains (remove xs place) x → x ≡ y → ⊥
  Contains-gone y x is sorted w same = elim (cases_lt w.0 place) [
    | inl m ↦ twice (sym (get_or-remove_below xs place x w.0 m within) ∙ w.2) here (sorted w.0 place x m within)
    | inr m ↦ let size = length-remove xs place within in
        twice here (sym (get_or-remove_above xs place x w.0 m within) ∙ w.2) (sorted place (w.0 + 1) x (omega (arith, m)) (omega (arith, w.1, size)))
  ]
    where
      here : get_or xs place x ≡ x
      here = get_or_default xs place x y within ∙ (sym is ∙ sym same)

      twice : {z v : Reference} → z ≡ x → v ≡ x → IsBefore z v → ⊥
      twice e f b =
          let number = ap (λ (r : Reference). r.number) (e ∙ sym f) in
          omega (arith, b.1 (ap (λ (r : Reference). r.node) (e ∙ sym f)), number)

-- ---- a reference is put in

module _ (xs : List Reference) (place : ℕ) (y : Reference) (within : place ≤ length xs) where
  -- what stands at a place then
  stands : (k : ℕ) (d : Reference) → ((k ≡ place) × (get_or (insert xs place y) k d ≡ y)) ⊎
      (((k < place) × (get_or (insert xs place y) k d ≡ get_or xs k d)) ⊎ ((place < k) × (get_or (insert xs place y) k d ≡ get_or xs (k - 1) d)))
  stands k d = elim (cases_order k place) [
    | inl e ↦ inl (e, ap (λ n. get_or (insert xs place y) n d) e ∙ get_or-insert_at xs place y d within)
    | inr f ↦ inr (elim f [
      | inl l ↦ inl (l, get_or-insert_below xs place y d k l within)
      | inr l ↦
          let up : k ≡ k - 1 + 1 = omega (arith, l) in
          inr (l, ap (λ n. get_or (insert xs place y) n d) up ∙ get_or-insert_above xs place y d (k - 1) (omega (arith, l)) within)
    ])
  ]

  -- the references are sorted where it stands behind those before it, and before the others
  pub AreSorted-inserted : AreSorted xs → ((k : ℕ) (d : Reference) → k < place → IsBefore (get_or xs k d) y) →
      ((k : ℕ) (d : Reference) → place ≤ k → k < length xs → IsBefore y (get_or xs k d)) → AreSorted (insert xs place y)
  AreSorted-inserted sorted before behind a b d less m =
      let size = length-insert xs place y within in
      elim (stands a d) [
        | inl p ↦ elim (stands b d) [
          | inl q ↦ absurd (omega (arith, less, p.0, q.0))
          | inr q ↦ elim q [
            | inl r ↦ absurd (omega (arith, less, p.0, r.0))
            | inr r ↦ kept p.1 r.1 (behind (b - 1) d (omega (arith, r.0)) (omega (arith, r.0, m, size)))
          ]
        ]
        | inr p ↦ elim p [
          | inl r ↦ elim (stands b d) [
            | inl q ↦ kept r.1 q.1 (before a d r.0)
            | inr q ↦ elim q [
              | inl t ↦ kept r.1 t.1 (sorted a b d less (omega (arith, t.0, within)))
              | inr t ↦ kept r.1 t.1 (sorted a (b - 1) d (omega (arith, r.0, t.0)) (omega (arith, t.0, m, size)))
            ]
          ]
          | inr r ↦ elim (stands b d) [
            | inl q ↦ absurd (omega (arith, less, r.0, q.0))
            | inr q ↦ elim q [
              | inl t ↦ absurd (omega (arith, less, r.0, t.0))
              | inr t ↦ kept r.1 t.1 (sorted (a - 1) (b - 1) d (omega (arith, less, r.0)) (omega (arith, t.0, m, size)))
            ]
          ]
        ]
      ]
