-- Folds and filters, and sets of numbers in order.
use Rattle.dom_base.proofs.Std.{◌≡◌, ℕ, Bool, true, false, not, ◌&&◌, ◌||◌, eqb, List, [], ◌∷◌, ◌++◌, map, inl, inr, refl, sym, ap, ◌∙◌, subst, fold, filter}
use Rattle.dom_base.proofs.Std.{list_any, flat_map, append_assoc, append-nil, filter-append, filter_agree, list_any-append, cond-true, cond-false, eqb-true}
use Rattle.dom_base.proofs.Std.{eq-eqb, ne_eqb, cases_Bool, cases_eq, fold-append, or_left, not_from_true, not_from_false}
use Rattle.dom_model.proofs.Model.{is_in, append_once, distinct}

-- a fold over what passes in lists joined end to end
pub fold-flat_map : {A B C : Type 0} (f : B → A → B) (p : A → Bool) (h : C → List A) (b : B) (cs : List C)
    → fold f b (filter p (flat_map h cs)) ≡ fold (λ d c. fold f d (filter p (h c))) b cs
fold-flat_map f p h b [] = refl
fold-flat_map f p h b (c ∷ cs) =
    ap (fold f b) (filter-append p (h c) (flat_map h cs))
    ∙ fold-append f b (filter p (h c)) (filter p (flat_map h cs))
    ∙ fold-flat_map f p h (fold f b (filter p (h c))) cs

-- a filter of what passes another
pub filter-filter : {A : Type 0} (p q : A → Bool) (xs : List A) → filter p (filter q xs) ≡ filter (λ x. q x && p x) xs
filter-filter p q [] = refl
filter-filter p q (x ∷ xs) = elim (cases_Bool (q x)) [
  | inl e ↦ elim (cases_Bool (p x)) [
    | inl g ↦ rw (e, g) (ap (λ ys. x ∷ ys) (filter-filter p q xs))
    | inr g ↦ rw (e, g) (filter-filter p q xs)
  ]
  | inr e ↦ rw e (filter-filter p q xs)
]

-- equality of numbers read the other way round
pub eqb-turned : (j k : ℕ) → eqb j k ≡ eqb k j
eqb-turned j k = elim (cases_eq j k) [
  | inl e ↦ eq-eqb j k e ∙ sym (eq-eqb k j (sym e))
  | inr other ↦ ne_eqb j k other ∙ sym (ne_eqb k j (λ e. other (sym e)))
]

-- a test or one that fails
pub or_no : (x y : Bool) → y ≡ false → (x || y) ≡ x
or_no true y e = refl
or_no false y e = e

-- whether a number is in a set with one more
pub is_in-append_once : (k j : ℕ) (ks : List ℕ) → is_in eqb k (append_once eqb ks j) ≡ (is_in eqb k ks || eqb k j)
is_in-append_once k j ks = by (is_in eqb j ks) refl
  where
    here : is_in eqb j ks ≡ true → (b : Bool) → eqb k j ≡ b → is_in eqb k ks ≡ (is_in eqb k ks || eqb k j)
    here e true h =
        let same : is_in eqb k ks ≡ true = subst (λ (i : ℕ). is_in eqb i ks ≡ true) (sym (eqb-true k j h)) e in
        same ∙ sym (or_left (is_in eqb k ks) (eqb k j) same)
    here e false h = sym (or_no (is_in eqb k ks) (eqb k j) h)

    by : (b : Bool) → is_in eqb j ks ≡ b → is_in eqb k (append_once eqb ks j) ≡ (is_in eqb k ks || eqb k j)
    by true e = ap (is_in eqb k) (cond-true (is_in eqb j ks) ks (ks ++ j ∷ []) e) ∙ here e (eqb k j) refl
    by false e =
        ap (is_in eqb k) (cond-false (is_in eqb j ks) ks (ks ++ j ∷ []) e)
        ∙ (list_any-append (eqb k) ks (j ∷ []) ∙ ap (λ b. is_in eqb k ks || b) (or_no (eqb k j) false refl))

-- the tests of being another number, and in neither
another : (x y : ℕ) (ks : List ℕ) → is_in eqb x ks ≡ true → (not (eqb x y) && not (is_in eqb y ks)) ≡ not (is_in eqb y ks)
another x y ks e = by (eqb x y) refl
  where
    by : (b : Bool) → eqb x y ≡ b → (not (eqb x y) && not (is_in eqb y ks)) ≡ not (is_in eqb y ks)
    by true h =
        let there : is_in eqb y ks ≡ true = subst (λ (i : ℕ). is_in eqb i ks ≡ true) (eqb-true x y h) e in
        ap (λ b. not b && not (is_in eqb y ks)) h ∙ sym (ap not there)
    by false h = ap (λ b. not b && not (is_in eqb y ks)) h

neither : (a b c : Bool) → b ≡ c → not (a || (b || false)) ≡ (not c && not a)
neither true b true e = refl
neither true b false e = refl
neither false b true e = ap (λ d. not (d || false)) e
neither false b false e = ap (λ d. not (d || false)) e

-- each number once, put into a set one after the other
pub fold-append_once : (ks xs : List ℕ) → fold (append_once eqb) ks xs ≡ ks ++ filter (λ y. not (is_in eqb y ks)) (distinct eqb xs)
fold-append_once ks [] = sym (append-nil ks)
fold-append_once ks (x ∷ xs) = by (is_in eqb x ks) refl (fold-append_once ks xs) (fold-append_once (ks ++ x ∷ []) xs)
  where
    by : (b : Bool) → is_in eqb x ks ≡ b → fold (append_once eqb) ks xs ≡ ks ++ filter (λ y. not (is_in eqb y ks)) (distinct eqb xs)
        → fold (append_once eqb) (ks ++ x ∷ []) xs ≡ (ks ++ x ∷ []) ++ filter (λ y. not (is_in eqb y (ks ++ x ∷ []))) (distinct eqb xs)
        → fold (append_once eqb) ks (x ∷ xs) ≡ ks ++ filter (λ y. not (is_in eqb y ks)) (distinct eqb (x ∷ xs))
    by true e rest more =
        ap (λ js. fold (append_once eqb) js xs) (cond-true (is_in eqb x ks) ks (ks ++ x ∷ []) e)
        ∙ (rest
        ∙ ap (λ js. ks ++ js) (sym (cond-false (not (is_in eqb x ks))
        (x ∷ filter (λ y. not (is_in eqb y ks)) (filter (λ y. not (eqb x y)) (distinct eqb xs)))
        (filter (λ y. not (is_in eqb y ks)) (filter (λ y. not (eqb x y)) (distinct eqb xs))) (not_from_true _ e)
        ∙ (filter-filter (λ y. not (is_in eqb y ks)) (λ y. not (eqb x y)) (distinct eqb xs)
        ∙ filter_agree (λ y. not (eqb x y) && not (is_in eqb y ks)) (λ y. not (is_in eqb y ks)) (λ y. another x y ks e) (distinct eqb xs)))))
    by false e rest more =
        ap (λ js. fold (append_once eqb) js xs) (cond-false (is_in eqb x ks) ks (ks ++ x ∷ []) e)
        ∙ (more
        ∙ (append_assoc ks (x ∷ []) (filter (λ y. not (is_in eqb y (ks ++ x ∷ []))) (distinct eqb xs))
        ∙ ap (λ js. ks ++ js)
        (ap (λ js. x ∷ js)
        (filter_agree (λ y. not (is_in eqb y (ks ++ x ∷ []))) (λ y. not (eqb x y) && not (is_in eqb y ks))
        (λ y. ap not (list_any-append (eqb y) ks (x ∷ [])) ∙ neither (is_in eqb y ks) (eqb y x) (eqb x y) (eqb-turned y x)) (distinct eqb xs)
        ∙ sym (filter-filter (λ y. not (is_in eqb y ks)) (λ y. not (eqb x y)) (distinct eqb xs)))
        ∙ sym (cond-true (not (is_in eqb x ks)) (x ∷ filter (λ y. not (is_in eqb y ks)) (filter (λ y. not (eqb x y)) (distinct eqb xs)))
        (filter (λ y. not (is_in eqb y ks)) (filter (λ y. not (eqb x y)) (distinct eqb xs))) (not_from_false _ e)))))

-- so the set of a list is its numbers, each once
pub fold-distinct : (xs : List ℕ) → fold (append_once eqb) [] xs ≡ distinct eqb xs
fold-distinct xs = fold-append_once [] xs ∙ all_pass (distinct eqb xs)
  where
    all_pass : (ys : List ℕ) → filter (λ y. not (is_in eqb y [])) ys ≡ ys
    all_pass [] = refl
    all_pass (y ∷ ys) = ap (λ js. y ∷ js) (all_pass ys)

-- a test of a list's images
pub list_any_of_map : {X Y : Type 0} (p : X → Bool) (h : Y → X) (ys : List Y) → list_any p (map h ys) ≡ list_any (λ y. p (h y)) ys
list_any_of_map p h [] = refl
list_any_of_map p h (y ∷ ys) = ap (λ b. p (h y) || b) (list_any_of_map p h ys)
