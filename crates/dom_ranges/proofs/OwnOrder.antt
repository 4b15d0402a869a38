-- The order of an owner's boundary points of one tree is the same among all trees and among the owner's own.
use Rattle.dom_ranges.proofs.Cited.{◌≡◌, ◌⊎◌, ℕ, ◌+◌, ◌*◌, Bool, true, false, not, cond, ltb, ◌&&◌, List, [], ◌∷◌, ◌++◌, drop, map, Option, Some, None, refl}
use Rattle.dom_ranges.proofs.Cited.{sym, ap, ◌∙◌, inl, inr, arith, option_map, unwrap_or, option_or, cases_Bool, eq-eqb, ltb-true, false_from_ne_true}
use Rattle.dom_ranges.proofs.Cited.{same_Some, NodeName, Owner, owner_eq, name_eq, first_of, Boundary, place_from, place_of, list_before, is_before, same_root}
use Rattle.dom_ranges.proofs.Cited.{Range, from_to, with_start, with_end, Trees, none, tree, root_of, owner_eq-false, name_eq-turned, once_own, AreOf}
use Rattle.dom_ranges.proofs.Cited.{HaveOwners, AreOwned, trees_of_owner, Has, Once, name_apart, read_own}
use Rattle.dom_ranges.proofs.Places.{place-at_root, known, path-tree}

-- ---- places

-- no place among another owner's trees
place-none : (k : ℕ) (p : Owner) (x : NodeName) → owner_eq p x.owner ≡ false → (ts : Trees) → AreOf p ts → place_from k ts x ≡ None
place-none k p x apart none of = refl
place-none k p x apart (tree n c r) of =
    rw (name_apart x.owner p apart x n.name refl of.0, place-none 0 p x apart c of.1) (place-none (k + 1) p x apart r of.2)

-- the way down from the root is the same
way-own : (j k : ℕ) {o : Owner} (x : NodeName) → x.owner ≡ o → (ts : Trees) → HaveOwners ts →
    option_map (drop 1) (place_from k ts x) ≡ option_map (drop 1) (place_from j (trees_of_owner o ts) x)
way-own j k x own none have = refl
way-own j k {o} x own (tree n c r) have = elim (cases_Bool (owner_eq n.name.owner o)) [
  | inl e ↦ rw e (both (name_eq n.name x) (place_from 0 c x) (way-own (j + 1) (k + 1) x own r have.1))
  | inr e ↦
      rw (e, name_apart o n.name.owner e x n.name own refl, place-none 0 n.name.owner x (ap (owner_eq n.name.owner) own ∙ e) c have.0)
      (way-own j (k + 1) x own r have.1)
]
  where
    both : (t : Bool) (below : Option (List ℕ)) → option_map (drop 1) (place_from (k + 1) r x) ≡ option_map (drop 1) (place_from (j + 1) (trees_of_owner o r) x)
        → option_map (drop 1) (cond t (Some (k ∷ [])) (option_or (option_map (λ path. k ∷ path) below) (place_from (k + 1) r x)))
        ≡ option_map (drop 1) (cond t (Some (j ∷ [])) (option_or (option_map (λ path. j ∷ path) below) (place_from (j + 1) (trees_of_owner o r) x)))
    both true below rest = refl
    both false (Some path) rest = refl
    both false None rest = rest

-- of places too
ways_same : (m n : Option (List ℕ)) → option_map (drop 1) m ≡ option_map (drop 1) n → drop 1 (unwrap_or m []) ≡ drop 1 (unwrap_or n [])
ways_same None None e = refl
ways_same None (Some n) e = cc
ways_same (Some m) None e = cc
ways_same (Some m) (Some n) e = cc

-- ---- which nodes stand in an owner's trees

pub has_owner : (p : Owner) (ts : Trees) → AreOf p ts → (x : NodeName) → Has ts x → x.owner ≡ p
has_owner p none of x h = absurd h
has_owner p (tree n c r) of x (inl e) = ap (λ (y : NodeName). y.owner) (sym e) ∙ of.0
has_owner p (tree n c r) of x (inr (inl h)) = has_owner p c of.1 x h
has_owner p (tree n c r) of x (inr (inr h)) = has_owner p r of.2 x h

pub has_own : (o : Owner) (ts : Trees) → HaveOwners ts → (x : NodeName) → x.owner ≡ o → Has ts x → Has (trees_of_owner o ts) x
has_own o none have x own h = h
has_own o (tree n c r) have x own h = elim (cases_Bool (owner_eq n.name.owner o)) [
  | inl e ↦ rw e (kept (has_own o r have.1 x own) h)
  | inr e ↦ rw e (behind (has_own o r have.1 x own) e h)
]
  where
    kept : (Has r x → Has (trees_of_owner o r) x) → (n.name ≡ x) ⊎ (Has c x ⊎ Has r x) → (n.name ≡ x) ⊎ (Has c x ⊎ Has (trees_of_owner o r) x)
    kept rest (inl e) = inl e
    kept rest (inr (inl h)) = inr (inl h)
    kept rest (inr (inr h)) = inr (inr (rest h))

    behind : (Has r x → Has (trees_of_owner o r) x) → owner_eq n.name.owner o ≡ false → (n.name ≡ x) ⊎ (Has c x ⊎ Has r x) → Has (trees_of_owner o r) x
    behind rest other (inl e) = absurd (owner_eq-false n.name.owner o other (ap (λ (y : NodeName). y.owner) e ∙ own))
    behind rest other (inr (inl h)) = absurd (owner_eq-false n.name.owner o other (sym (has_owner n.name.owner c have.0 x h) ∙ own))
    behind rest other (inr (inr h)) = rest h

-- ---- the order

abbrev odd : ℕ → ℕ
odd k = 2 * k + 1

-- behind one number
behind_one : (m : ℕ) (xs ys : List ℕ) → list_before (m ∷ xs) (m ∷ ys) ≡ list_before xs ys
behind_one m xs ys = rw (false_from_ne_true (ltb m m) (λ e. omega (arith, ltb-true m m e)), eq-eqb m m refl) refl

before_shown : (us : Trees) (b c : Boundary NodeName) {m : ℕ} {p q : List ℕ} → place_of us b.node ≡ m ∷ p → place_of us c.node ≡ m ∷ q
    → is_before us b c ≡ list_before (map odd p ++ (2 * b.offset) ∷ []) (map odd q ++ (2 * c.offset) ∷ [])
before_shown us b c {m} {p} {q} e f =
    ap (λ path. list_before (map odd path ++ (2 * b.offset) ∷ []) (map odd (place_of us c.node) ++ (2 * c.offset) ∷ [])) e
    ∙ (ap (λ path. list_before (map odd (m ∷ p) ++ (2 * b.offset) ∷ []) (map odd path ++ (2 * c.offset) ∷ [])) f
    ∙ behind_one (odd m) (map odd p ++ (2 * b.offset) ∷ []) (map odd q ++ (2 * c.offset) ∷ []))

module _ (ts : Trees) (owned : AreOwned ts) (once : Once ts) (o : Owner) where
  -- a node of the owner
  pub record IsOwnIn (x : NodeName) : Type 0 where
    pub owner : x.owner ≡ o
    pub there : Has ts x

  -- the way down to it
  way : (x : NodeName) → IsOwnIn x → drop 1 (place_of ts x) ≡ drop 1 (place_of (trees_of_owner o ts) x)
  way x h = ways_same (place_from 0 ts x) (place_from 0 (trees_of_owner o ts) x) (way-own 0 0 x h.owner ts owned.owners)

  -- whether two have one root
  pub same_root-own : (x y : NodeName) → IsOwnIn x → IsOwnIn y → same_root ts x y ≡ same_root (trees_of_owner o ts) x y
  same_root-own x y h g =
      ap (λ r. name_eq r (root_of ts y)) (read_own ts owned o x h.owner).root ∙ ap (name_eq (root_of (trees_of_owner o ts) x))
      (read_own ts owned o y g.owner).root

  -- which of two points of one tree is first
  pub is_before-own : (b c : Boundary NodeName) → IsOwnIn b.node → IsOwnIn c.node → same_root ts b.node c.node ≡ true →
      is_before ts b c ≡ is_before (trees_of_owner o ts) b c
  is_before-own b c h g root =
      let us = trees_of_owner o ts in
      let single = once_own o ts once in
      let there = λ (x : NodeName) (k : IsOwnIn x). has_own o ts owned.owners x k.owner k.there in
      let v = placed ts once b.node h.there in let w = placed ts once c.node g.there in
      let v_own = placed us single b.node (there b.node h) in let w_own = placed us single c.node (there c.node g) in
      let first : v.0 ≡ w.0 = same_Some v.0 w.0 (ap first_of (sym v.2) ∙ (path-tree ts once b.node c.node h.there g.there root ∙ ap first_of w.2)) in
      let first_own : v_own.0 ≡ w_own.0 =
      same_Some v_own.0 w_own.0 (ap first_of (sym v_own.2) ∙
      (path-tree us single b.node c.node (there b.node h) (there c.node g) (sym (same_root-own b.node c.node h g) ∙ root) ∙
      ap first_of w_own.2)) in
      let way_b : v.1 ≡ v_own.1 = ap (drop 1) (sym v.2) ∙ (way b.node h ∙ ap (drop 1) v_own.2) in
      let way_c : w.1 ≡ w_own.1 = ap (drop 1) (sym w.2) ∙ (way c.node g ∙ ap (drop 1) w_own.2) in
      before_shown ts b c v.2 (w.2 ∙ ap (λ m. m ∷ w.1) (sym first))
      ∙ (ap (λ p. list_before (map odd p ++ (2 * b.offset) ∷ []) (map odd w.1 ++ (2 * c.offset) ∷ [])) way_b
      ∙ (ap (λ q. list_before (map odd v_own.1 ++ (2 * b.offset) ∷ []) (map odd q ++ (2 * c.offset) ∷ [])) way_c
      ∙ sym (before_shown us b c v_own.2 (w_own.2 ∙ ap (λ m. m ∷ w_own.1) (sym first_own)))))
    where
      placed : (us : Trees) → Once us → (x : NodeName) → Has us x → (m : ℕ) × (p : List ℕ) × (place_of us x ≡ m ∷ p)
      placed us single x h = let v = place-at_root us 0 x single h in (v.0, v.1, known us single x (v.0 ∷ v.1) v.2)

  -- a start that is set, and an end
  pub with_start-own : (b : Boundary NodeName) (r : Range NodeName) → IsOwnIn b.node → IsOwnIn r.end.node →
      with_start ts b r ≡ with_start (trees_of_owner o ts) b r
  with_start-own b r h g = elim (cases_Bool (same_root ts b.node r.end.node)) [
    | inl e ↦
        ap (λ t. cond (t && not (is_before ts r.end b)) (from_to b r.end) (from_to b b)) (same_root-own b.node r.end.node h g)
        ∙ ap (λ t. cond (same_root (trees_of_owner o ts) b.node r.end.node && not t) (from_to b r.end) (from_to b b))
        (is_before-own r.end b g h (name_eq-turned (root_of ts r.end.node) (root_of ts b.node) ∙ e))
    | inr e ↦
        ap (λ t. cond (t && not (is_before ts r.end b)) (from_to b r.end) (from_to b b)) e
        ∙ sym (ap (λ t. cond (t && not (is_before (trees_of_owner o ts) r.end b)) (from_to b r.end) (from_to b b))
        (sym (same_root-own b.node r.end.node h g) ∙ e))
  ]

  pub with_end-own : (b : Boundary NodeName) (r : Range NodeName) → IsOwnIn b.node → IsOwnIn r.start.node → with_end ts b r ≡ with_end (trees_of_owner o ts) b r
  with_end-own b r h g = elim (cases_Bool (same_root ts b.node r.start.node)) [
    | inl e ↦
        ap (λ t. cond (t && not (is_before ts b r.start)) (from_to r.start b) (from_to b b)) (same_root-own b.node r.start.node h g)
        ∙ ap (λ t. cond (same_root (trees_of_owner o ts) b.node r.start.node && not t) (from_to r.start b) (from_to b b)) (is_before-own b r.start h g e)
    | inr e ↦
        ap (λ t. cond (t && not (is_before ts b r.start)) (from_to r.start b) (from_to b b)) e
        ∙ sym (ap (λ t. cond (t && not (is_before (trees_of_owner o ts) b r.start)) (from_to r.start b) (from_to b b))
        (sym (same_root-own b.node r.start.node h g) ∙ e))
  ]
