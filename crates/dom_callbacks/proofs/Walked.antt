-- A loop that changes each item, seen through views.
use Rattle.dom_base.proofs.Std.{◌≡◌, List, [], ◌∷◌, ◌++◌, map, refl, sym, ap, ◌∙◌, ℕ, zero, suc, ◌+◌, take, drop, set, get_or, slice_set, AllByRecursion}
use Rattle.dom_base.proofs.Std.{add-one, map-set}

-- the view of an item
seen : {X Y : Type 0} (view : X → Y) (xs : List X) (i : ℕ) (d : X) → get_or (map view xs) i (view d) ≡ view (get_or xs i d)
seen view [] i d = refl
seen view (x ∷ xs) zero d = refl
seen view (x ∷ xs) (suc i) d = seen view xs i d

-- where one item has changed, and has what it had, all have it
module _ {X : Type 0} (P : X → Type 0) where
  pub all-changed : (xs : List X) (i : ℕ) (d y : X) → (P (get_or xs i d) → P y) → AllByRecursion P xs → AllByRecursion P (slice_set xs i y)
  all-changed [] i d y k h = tt
  all-changed (z ∷ xs) zero d y k h = (k h.0, h.1)
  all-changed (z ∷ xs) (suc i) d y k h = (h.0, all-changed xs i d y k h.1)

module _ {Y : Type 0} (change : Y → Y) where
  -- the views so far
  abbrev pub so_far : List Y → ℕ → List Y
  so_far vs i = map change (take i vs) ++ drop i vs

  -- the next item has not changed
  here : (vs : List Y) (i : ℕ) (d : Y) → get_or (so_far vs i) i d ≡ get_or vs i d
  here [] zero d = refl
  here [] (suc i) d = refl
  here (v ∷ vs) zero d = refl
  here (v ∷ vs) (suc i) d = here vs i d

  -- it changes
  walked : (vs : List Y) (i : ℕ) (d : Y) → set (so_far vs i) i (change (get_or vs i d)) ≡ so_far vs (suc i)
  walked [] zero d = refl
  walked [] (suc i) d = refl
  walked (v ∷ vs) zero d = refl
  walked (v ∷ vs) (suc i) d = ap (λ t. change v ∷ t) (walked vs i d)

  -- the views once the next item has changed
  module _ {X : Type 0} (view : X → Y) (vs : List Y) (xs : List X) (i : ℕ) (d y : X) where
    pub next-view : map view xs ≡ so_far vs i → view y ≡ change (view (get_or xs i d)) → map view (slice_set xs i y) ≡ so_far vs (i + 1)
    next-view e changed =
        let there : view (get_or xs i d) ≡ get_or vs i (view d) =
        sym (seen view xs i d) ∙ ap (λ l. get_or l i (view d)) e ∙ here vs i (view d) in
        map-set view xs i y ∙ ap (λ l. set l i (view y)) e ∙ ap (set (so_far vs i) i) (changed ∙ ap change there)
        ∙ walked vs i (view d) ∙ ap (so_far vs) (sym (add-one i))
