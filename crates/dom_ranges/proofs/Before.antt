-- The order of boundary points by the places of their nodes: it is decided where the places part.
use Rattle.dom_ranges.proofs.Cited.{◌≡◌, inl, inr, ℕ, ◌+◌, ◌*◌, ◌<◌, Bool, true, false, List, [], ◌∷◌, ◌++◌, map, eqb, ltb, nat_lt, nat_le, refl, sym, ap, ◌∙◌}
use Rattle.dom_ranges.proofs.Cited.{arith, true≢false, ◌&&◌, ◌||◌, eq-eqb, eqb-true, lt-ltb, ltb-true, leb-true, leb-false, cases_Bool, false_from_ne_true}
use Rattle.dom_ranges.proofs.Cited.{map-append, append_assoc, NodeName, place_of, list_before, is_before, at, Trees}

-- a child number as the order of boundary points writes it
abbrev odd : ℕ → ℕ
odd k = 2 * k + 1

-- a number is not below itself
below_self : (m : ℕ) → nat_lt m m ≡ false
below_self m = false_from_ne_true (ltb m m) (λ e. omega (arith, ltb-true m m e))

-- a common beginning
before-common : (zs xs ys : List ℕ) → list_before (zs ++ xs) (zs ++ ys) ≡ list_before xs ys
before-common [] xs ys = refl
before-common (z ∷ zs) xs ys = rw (below_self z, eq-eqb z z refl) (before-common zs xs ys)

-- lists that part at their first items
before-parted : (m n : ℕ) (xs ys : List ℕ) → (m ≡ n → ⊥) → list_before (m ∷ xs) (n ∷ ys) ≡ nat_lt m n
before-parted m n xs ys off = by (ltb m n)
  where
    by : (b : Bool) → (b || (eqb m n && list_before xs ys)) ≡ b
    by true = refl
    by false = rw (false_from_ne_true (eqb m n) (λ e. off (eqb-true m n e))) refl

-- the comparison of written numbers
lt-same : (a b c d : ℕ) → (a < b → c < d) → (c < d → a < b) → nat_lt a b ≡ nat_lt c d
lt-same a b c d f g = elim (cases_Bool (ltb c d)) [
  | inl e ↦ lt-ltb a b (g (ltb-true c d e)) ∙ sym e
  | inr e ↦ false_from_ne_true (ltb a b) (λ h. not_both (lt-ltb c d (f (ltb-true a b h))) e) ∙ sym e
]
  where
    not_both : ltb c d ≡ true → ltb c d ≡ false → ⊥
    not_both h e = true≢false (sym h ∙ e)

-- behind equal items stands nothing
one_item : (b c : Bool) → (b || (c && false)) ≡ b
one_item true c = refl
one_item false true = refl
one_item false false = refl

-- offset i stands before child c where it is c at most
lt-le : (i c : ℕ) → nat_lt (2 * i) (2 * c + 1) ≡ nat_le i c
lt-le i c = elim (cases_Bool (nat_le i c)) [
  | inl e ↦ lt-ltb (2 * i) (2 * c + 1) (omega (arith, leb-true i c e)) ∙ sym e
  | inr e ↦ false_from_ne_true (ltb (2 * i) (2 * c + 1)) (λ h. omega (arith, leb-false i c e, ltb-true (2 * i) (2 * c + 1) h)) ∙ sym e
]

-- a place that begins with the numbers given and goes on with another
abbrev pub GoesOn : Trees → NodeName → List ℕ → ℕ → Type 0
GoesOn ts x zs c = (rest : List ℕ) × (place_of ts x ≡ zs ++ c ∷ rest)

module _ (ts : Trees) (x y : NodeName) (i j : ℕ) where
  -- points of one node
  pub before-same : x ≡ y → is_before ts (at x i) (at y j) ≡ nat_lt i j
  before-same e =
      ap (λ (z : NodeName). list_before (map odd (place_of ts x) ++ (2 * i) ∷ []) (map odd (place_of ts z) ++ (2 * j) ∷ [])) (sym e)
      ∙ (before-common (map odd (place_of ts x)) ((2 * i) ∷ []) ((2 * j) ∷ []) ∙ ends)
    where
      ends : list_before ((2 * i) ∷ []) ((2 * j) ∷ []) ≡ nat_lt i j
      ends = one_item (ltb (2 * i) (2 * j)) (eqb (2 * i) (2 * j)) ∙ lt-same (2 * i) (2 * j) i j (λ l. omega (arith, l)) (λ l. omega (arith, l))

  -- the first node is below the second, in or below its child c
  pub before-up : (c : ℕ) (rest : List ℕ) → place_of ts x ≡ place_of ts y ++ c ∷ rest → is_before ts (at x i) (at y j) ≡ nat_lt c j
  before-up c rest e =
      ap (λ xs. list_before (map odd xs ++ (2 * i) ∷ []) (map odd (place_of ts y) ++ (2 * j) ∷ [])) e
      ∙ (ap (λ xs. list_before (xs ++ (2 * i) ∷ []) (map odd (place_of ts y) ++ (2 * j) ∷ [])) (map-append odd (place_of ts y) (c ∷ rest))
      ∙ (ap (λ xs. list_before xs (map odd (place_of ts y) ++ (2 * j) ∷ [])) (append_assoc (map odd (place_of ts y)) (odd c ∷ map odd rest) ((2 * i) ∷ []))
      ∙ (before-common (map odd (place_of ts y)) (odd c ∷ (map odd rest ++ (2 * i) ∷ [])) ((2 * j) ∷ [])
      ∙ (before-parted (odd c) (2 * j) (map odd rest ++ (2 * i) ∷ []) [] (λ f. omega (arith, f)) ∙
      lt-same (odd c) (2 * j) c j (λ l. omega (arith, l)) (λ l. omega (arith, l))))))

  -- the second node is below the first, in or below its child c
  pub before-down : (c : ℕ) (rest : List ℕ) → place_of ts y ≡ place_of ts x ++ c ∷ rest → is_before ts (at x i) (at y j) ≡ nat_le i c
  before-down c rest e =
      ap (λ xs. list_before (map odd (place_of ts x) ++ (2 * i) ∷ []) (map odd xs ++ (2 * j) ∷ [])) e
      ∙ (ap (λ xs. list_before (map odd (place_of ts x) ++ (2 * i) ∷ []) (xs ++ (2 * j) ∷ [])) (map-append odd (place_of ts x) (c ∷ rest))
      ∙ (ap (list_before (map odd (place_of ts x) ++ (2 * i) ∷ [])) (append_assoc (map odd (place_of ts x)) (odd c ∷ map odd rest) ((2 * j) ∷ []))
      ∙ (before-common (map odd (place_of ts x)) ((2 * i) ∷ []) (odd c ∷ (map odd rest ++ (2 * j) ∷ []))
      ∙ (before-parted (2 * i) (odd c) [] (map odd rest ++ (2 * j) ∷ []) (λ f. omega (arith, f)) ∙ lt-le i c))))

  -- they stand in or below different children of one node
  pub before-beside : (zs : List ℕ) (c d : ℕ) → GoesOn ts x zs c → GoesOn ts y zs d → (c ≡ d → ⊥) → is_before ts (at x i) (at y j) ≡ nat_lt c d
  before-beside zs c d one two off =
      let xs = one.0 in
      let ys = two.0 in
      ap (λ ps. list_before (map odd ps ++ (2 * i) ∷ []) (map odd (place_of ts y) ++ (2 * j) ∷ [])) one.1
      ∙ (ap (λ ps. list_before (map odd (zs ++ c ∷ xs) ++ (2 * i) ∷ []) (map odd ps ++ (2 * j) ∷ [])) two.1
      ∙ (ap (λ ps. list_before ps (map odd (zs ++ d ∷ ys) ++ (2 * j) ∷ [])) (shape c xs i)
      ∙ (ap (list_before (map odd zs ++ odd c ∷ (map odd xs ++ (2 * i) ∷ []))) (shape d ys j)
      ∙ (before-common (map odd zs) (odd c ∷ (map odd xs ++ (2 * i) ∷ [])) (odd d ∷ (map odd ys ++ (2 * j) ∷ []))
      ∙ (before-parted (odd c) (odd d) (map odd xs ++ (2 * i) ∷ []) (map odd ys ++ (2 * j) ∷ []) (λ g. off (omega (arith, g))) ∙
      lt-same (odd c) (odd d) c d (λ l. omega (arith, l)) (λ l. omega (arith, l)))))))
    where
      shape : (m : ℕ) (ms : List ℕ) (n : ℕ) → map odd (zs ++ m ∷ ms) ++ (2 * n) ∷ [] ≡ map odd zs ++ odd m ∷ (map odd ms ++ (2 * n) ∷ [])
      shape m ms n = ap (λ ps. ps ++ (2 * n) ∷ []) (map-append odd zs (m ∷ ms)) ∙ append_assoc (map odd zs) (odd m ∷ map odd ms) ((2 * n) ∷ [])
