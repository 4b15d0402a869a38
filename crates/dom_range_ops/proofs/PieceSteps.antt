-- Steps along a path, and counts of pieces.
use Rattle.dom_range_ops.proofs.Cited.{◌≡◌, ℕ, suc, ◌+◌, ◌-◌, ◌<◌, ◌≤◌, Bool, not, List, [], ◌∷◌, ◌++◌, length, map, drop, get_or, Some, refl, sym, ap, ◌∙◌}
use Rattle.dom_range_ops.proofs.Cited.{append_assoc, arith, length-drop, slice_get, drop-cons, NodeName, Pieces, whole, cut, clone, clone_count, name_eq}
use Rattle.dom_range_ops.proofs.Cited.{last_of, items_before, items_after, Boundary, Trees, children_of, siblings, nothing, name_at, Item, whole_item, cut_item}
use Rattle.dom_range_ops.proofs.Cited.{clone_item, end_item, items_of, made_by, wholes_if, heads, tails, end_items, side_items, None}

-- ---- along a path

module _ (ts : Trees) (names : List NodeName) (path : List ℕ) where
  abbrev from : ℕ → List NodeName
  from i = map (name_at names) (drop i path)

  abbrev at : ℕ → NodeName
  at i = name_at names (get_or path i 0)

  two : (i : ℕ) → suc i < length path → from i ≡ at i ∷ at (suc i) ∷ map (name_at names) (drop (suc (suc i)) path)
  two i l = ap (map (name_at names)) (drop-cons path i 0 (omega (arith, l)) ∙ ap (λ ks. get_or path i 0 ∷ ks) (drop-cons path (suc i) 0 l))

  one : (i : ℕ) → suc i < length path → from (suc i) ≡ at (suc i) ∷ map (name_at names) (drop (suc (suc i)) path)
  one i l = ap (map (name_at names)) (drop-cons path (suc i) 0 l)

  -- one node further in
  pub heads-step : (before : Bool) (i : ℕ) → suc i < length path →
      heads ts before (from i) ≡ heads ts before (from (suc i)) ++
      (clone_item (at (suc i)) ∷ wholes_if before (items_before name_eq (at i) (children_of ts (at (suc i)))))
  heads-step before i l =
      ap (heads ts before) (two i l) ∙ ap
      (λ xs. heads ts before xs ++ (clone_item (at (suc i)) ∷ wholes_if before (items_before name_eq (at i) (children_of ts (at (suc i))))))
      (sym (one i l))

  -- one node further out
  pub tails-step : (behind : Bool) (i : ℕ) → suc i < length path →
      tails ts behind (from i) ≡ (wholes_if behind (items_after name_eq (at i) (siblings ts (at i))) ++ end_item ∷ []) ++
      tails ts behind (from (suc i))
  tails-step behind i l =
      let taken = wholes_if behind (items_after name_eq (at i) (siblings ts (at i))) in
      ap (tails ts behind) (two i l) ∙ (ap (λ xs. taken ++ end_item ∷ tails ts behind xs) (sym (one i l)) ∙
      sym (append_assoc taken (end_item ∷ []) (tails ts behind (from (suc i)))))

  -- a turn of the loop in front of the first child, by the keys that were read
  pub heads-keys : (before : Bool) {i j node child : ℕ} → suc i < length path → suc i ≡ j → node ≡ get_or path j 0 → child ≡ get_or path i 0
      → heads ts before (from j) ++ (clone_item (name_at names node) ∷ wholes_if before
      (items_before name_eq (name_at names child) (children_of ts (name_at names node)))) ≡ heads ts before (from i)
  heads-keys before {i} {j} {child} l up node_is child_is =
      let all = λ (k n m : ℕ). heads ts before (from k) ++
      (clone_item (name_at names n) ∷ wholes_if before (items_before name_eq (name_at names m) (children_of ts (name_at names n)))) in
      ap (λ n. all j n child) node_is ∙ (ap (all j (get_or path j 0)) child_is ∙
      (ap (λ k. all k (get_or path k 0) (get_or path i 0)) (sym up) ∙ sym (heads-step before i l)))

  pub tails-keys : (behind : Bool) {i j child : ℕ} → suc i < length path → suc i ≡ j → child ≡ get_or path i 0
      → tails ts behind (from i) ≡ (wholes_if behind (items_after name_eq (name_at names child) (siblings ts (name_at names child))) ++
      end_item ∷ []) ++ tails ts behind (from j)
  tails-keys behind {i} {child} l up child_is =
      let all = λ (k m : ℕ). (wholes_if behind (items_after name_eq (name_at names m) (siblings ts (name_at names m))) ++ end_item ∷ []) ++
      tails ts behind (from k) in
      tails-step behind i l ∙ (ap (all (suc i)) (sym child_is) ∙ ap (λ k. all k child) up)

  -- of the last node, or none, there are none
  none-last : (items : List NodeName → List Item) → items [] ≡ [] → ((x : NodeName) → items (x ∷ []) ≡ []) →
      (i : ℕ) → length path ≤ suc i → items (from i) ≡ []
  none-last items none one i l = by (drop i path) (let long = length-drop i path in omega (arith, l, long))
    where
      by : (ks : List ℕ) → length ks ≤ 1 → items (map (name_at names) ks) ≡ []
      by [] few = none
      by (k ∷ []) few = one (name_at names k)
      by (k ∷ j ∷ ks) few = absurd (omega (arith, few))

  pub heads-last : (before : Bool) (i : ℕ) → length path ≤ suc i → heads ts before (from i) ≡ []
  heads-last before = none-last (heads ts before) refl (λ x. refl)

  pub tails-last : (behind : Bool) (i : ℕ) → length path ≤ suc i → tails ts behind (from i) ≡ []
  tails-last behind = none-last (tails ts behind) refl (λ x. refl)

-- what is taken along a path that is not empty
pub side-some : (ts : Trees) (b : Boundary NodeName) (behind : Bool) (names : List NodeName) (ks : List ℕ) → 0 < length ks
    → side_items ts b behind (map (name_at names) ks) ≡ heads ts (not behind) (map (name_at names) ks) ++
    (end_items ts b behind ++ tails ts behind (map (name_at names) ks))
side-some ts b behind names [] l = absurd (omega (arith, l))
side-some ts b behind names (k ∷ ks) l = refl

-- the last name of a path, by the last key
pub last-named : (names : List NodeName) (ks : List ℕ) (k : ℕ) → slice_get ks (length ks - 1) ≡ Some k →
    last_of (map (name_at names) ks) ≡ Some (name_at names k)
last-named names [] k e = cc
last-named names (j ∷ []) k e = let same : j ≡ k = cc in ap (λ i. Some (name_at names i)) same
last-named names (j ∷ i ∷ ks) k e = last-named names (i ∷ ks) k
    (ap (slice_get (j ∷ i ∷ ks)) (let here : suc (length (i ∷ ks) - 1) ≡ length (j ∷ i ∷ ks) - 1 = omega arith in here) ∙ e)

-- without a last key there is none
pub none-named : (ks : List ℕ) → slice_get ks (length ks - 1) ≡ None → ks ≡ []
none-named [] e = refl
none-named (j ∷ []) e = cc
none-named (j ∷ i ∷ ks) e =
    let here : suc (length (i ∷ ks) - 1) ≡ length (j ∷ i ∷ ks) - 1 = omega arith in
    let none = none-named (i ∷ ks) (ap (slice_get (j ∷ i ∷ ks)) here ∙ e) in
    cc

-- ---- counts

-- the items of two lists
pub made-append : (xs ys : List Item) → made_by (xs ++ ys) ≡ made_by xs + made_by ys
made-append [] ys = omega arith
made-append (whole_item x ∷ xs) ys = made-append xs ys
made-append (cut_item x from to ∷ xs) ys = let more = made-append xs ys in omega (arith, more)
made-append (clone_item x ∷ xs) ys = let more = made-append xs ys in omega (arith, more)
made-append (end_item ∷ xs) ys = made-append xs ys

-- the items of pieces ask for as many nodes as the pieces
pub made-pieces : (q : Pieces) → made_by (items_of q) ≡ clone_count q
made-pieces nothing = refl
made-pieces (whole x rest) = made-pieces rest
made-pieces (cut x from to rest) = ap suc (made-pieces rest)
made-pieces (clone x inside rest) =
    let all = made-append (items_of inside) (end_item ∷ items_of rest) in
    let first = made-pieces inside in
    let later = made-pieces rest in
    omega (arith, all, first, later)
