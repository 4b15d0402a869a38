-- What the walk over the registrations on a path gathers is what the rules say.
use Rattle.dom_base.proofs.Std.{◌≡◌, ℕ, Bool, true, false, ◌&&◌, ◌||◌, cond, eqb, List, [], ◌∷◌, ◌++◌, map, refl, sym, ap, ◌∙◌, fold, filter, list_any}
use Rattle.dom_base.proofs.Std.{inl, inr, cases_Bool, and_right, append_assoc, append-nil, cond-true, cond-false, or_parts}
use Rattle.dom_model.proofs.Model.{is_in, append_once, distinct, is_empty, Change, Registration, registrations_on, fits, fitting, interested, asks_for_old}
use Rattle.dom_model.proofs.Model.{transients_for}
use Rattle.dom_observers.specs.Definitions.{Found, none_found, and_found, found_by, transient_copy, copied_by}
use Rattle.dom_observers.proofs.Folds.{fold-flat_map, or_no, eqb-turned, is_in-append_once, fold-distinct}

-- Two folds over one list.
module _ {A B : Type 0} (f g : B → A → B) where
  -- a fold that passes over what a test rejects
  pub fold-passing : (p : A → Bool) → ((b : B) (x : A) → p x ≡ true → f b x ≡ g b x) → ((b : B) (x : A) → p x ≡ false → f b x ≡ b)
      → (b : B) (xs : List A) → fold f b xs ≡ fold g b (filter p xs)
  fold-passing p takes stays b [] = refl
  fold-passing p takes stays b (x ∷ xs) = elim (cases_Bool (p x)) [
    | inl e ↦ rw (e, takes b x e) (fold-passing p takes stays (g b x) xs)
    | inr e ↦ rw (e, stays b x e) (fold-passing p takes stays b xs)
  ]

  -- two folds whose steps agree
  pub fold-agree : ((b : B) (x : A) → f b x ≡ g b x) → (b : B) (xs : List A) → fold f b xs ≡ fold g b xs
  fold-agree same b [] = refl
  fold-agree same b (x ∷ xs) = ap (λ c. fold f c xs) (same b x) ∙ fold-agree same (g b x) xs

-- A fold over numbers, which of others than k changes nothing where a test rejects them.
module _ {B : Type 0} (f : B → ℕ → B) (p : ℕ → Bool) (k : ℕ) (stays : (b : B) (x : ℕ) → eqb k x ≡ false → p x ≡ false → f b x ≡ b) where
  -- where k is not there it passes over these
  pub fold-lacking : (b : B) (xs : List ℕ) → is_in eqb k xs ≡ false → fold f b xs ≡ fold f b (filter p xs)
  fold-lacking b [] apart = refl
  fold-lacking b (x ∷ xs) apart =
      let parts = or_parts (eqb k x) (is_in eqb k xs) apart in
      elim (cases_Bool (p x)) [
        | inl e ↦ rw e (fold-lacking (f b x) xs parts.1)
        | inr e ↦ rw (e, stays b x parts.0 e) (fold-lacking b xs parts.1)
      ]

-- what a fitting registration adds
abbrev adds : Change ℕ → Found → Registration ℕ → Found
adds c f r = and_found f r.observer (asks_for_old r.options c)

-- the observers that it finds
found-observers : (c : Change ℕ) (f : Found) (rs : List (Registration ℕ)) →
    (fold (adds c) f rs).observers ≡ fold (append_once eqb) f.observers (map (λ r. r.observer) rs)
found-observers c f [] = refl
found-observers c f (r ∷ rs) = found-observers c (adds c f r) rs

-- a registration of an observer that asks for the old value
abbrev wants_old : Change ℕ → ℕ → Registration ℕ → Bool
wants_old c k r = eqb r.observer k && asks_for_old r.options c

-- those that it finds to ask for the old value
one_more : (ks : List ℕ) (k j : ℕ) (old : Bool) → is_in eqb k (cond old (append_once eqb ks j) ks) ≡ (is_in eqb k ks || (eqb j k && old))
one_more ks k j true = is_in-append_once k j ks ∙ ap (λ b. is_in eqb k ks || b) (eqb-turned k j ∙ sym (and_true (eqb j k)))
  where
    and_true : (b : Bool) → (b && true) ≡ b
    and_true true = refl
    and_true false = refl
one_more ks k j false = sym (or_no (is_in eqb k ks) (eqb j k && false) (and_right (eqb j k) false refl))

or-assoc : (x y z : Bool) → ((x || y) || z) ≡ (x || (y || z))
or-assoc true y z = refl
or-assoc false y z = refl

found-with_old : (c : Change ℕ) (k : ℕ) (f : Found) (rs : List (Registration ℕ)) →
    is_in eqb k (fold (adds c) f rs).with_old ≡ (is_in eqb k f.with_old || list_any (wants_old c k) rs)
found-with_old c k f [] = sym (or_no (is_in eqb k f.with_old) false refl)
found-with_old c k f (r ∷ rs) =
    found-with_old c k (adds c f r) rs
    ∙ (ap (λ b. b || list_any (wants_old c k) rs) (one_more f.with_old k r.observer (asks_for_old r.options c))
    ∙ or-assoc (is_in eqb k f.with_old) (wants_old c k r) (list_any (wants_old c k) rs))

-- ---- transient copies

-- a fold that puts each item's image behind others
fold-behind : {A B : Type 0} (f : A → B) (ys : List B) (xs : List A) → fold (λ zs x. zs ++ f x ∷ []) ys xs ≡ ys ++ map f xs
fold-behind f ys [] = sym (append-nil ys)
fold-behind f ys (x ∷ xs) = fold-behind f (ys ++ f x ∷ []) xs ∙ append_assoc ys (f x ∷ []) (map f xs)

-- ---- whole walks

-- The walk over the registrations on the nodes of a path.
module _ (rs : List (Registration ℕ)) (on : ℕ → List (Registration ℕ)) (is : (x : ℕ) → on x ≡ filter (λ r. eqb r.node x) rs) where
  -- it goes over the fitting ones
  walk-fitting : (c : Change ℕ) (path : List ℕ) → fold (λ f x. fold (found_by c) f (on x)) none_found path ≡ fold (adds c) none_found (fitting eqb path rs c)
  walk-fitting c path =
      fold-agree (λ f x. fold (found_by c) f (on x)) (λ f x. fold (adds c) f (filter (fits eqb c) (filter (λ r. eqb r.node x) rs)))
      (λ f x. ap (fold (found_by c) f) (is x)
      ∙ fold-passing (found_by c) (adds c) (fits eqb c) (λ g r e. cond-true (fits eqb c r) (adds c g r) g e)
      (λ g r e. cond-false (fits eqb c r) (adds c g r) g e) f (filter (λ r. eqb r.node x) rs)) none_found path
      ∙ sym (fold-flat_map (adds c) (fits eqb c) (λ x. filter (λ r. eqb r.node x) rs) none_found path)

  pub walk-observers : (c : Change ℕ) (path : List ℕ) → (fold (λ f x. fold (found_by c) f (on x)) none_found path).observers ≡ interested eqb path rs c
  walk-observers c path =
      ap (λ (f : Found). f.observers) (walk-fitting c path)
      ∙ (found-observers c none_found (fitting eqb path rs c) ∙ fold-distinct (map (λ r. r.observer) (fitting eqb path rs c)))

  pub walk-with_old : (c : Change ℕ) (path : List ℕ) (k : ℕ)
      → is_in eqb k (fold (λ f x. fold (found_by c) f (on x)) none_found path).with_old ≡ list_any (wants_old c k) (fitting eqb path rs c)
  walk-with_old c path k = ap (λ (f : Found). is_in eqb k f.with_old) (walk-fitting c path) ∙ found-with_old c k none_found (fitting eqb path rs c)

  -- the copies are those of the rule
  pub walk-copies : (node : ℕ) (path : List ℕ) → fold (λ copies x. fold (copied_by node) copies (on x)) [] path ≡ transients_for eqb node path rs
  walk-copies node path =
      fold-agree (λ copies x. fold (copied_by node) copies (on x)) (λ copies x. fold (λ zs r. zs ++ transient_copy node r ∷ []) copies
      (filter (λ r. r.options.subtree) (filter (λ r. eqb r.node x) rs)))
      (λ copies x. ap (fold (copied_by node) copies) (is x)
      ∙ fold-passing (copied_by node) (λ zs r. zs ++ transient_copy node r ∷ []) (λ r. r.options.subtree)
      (λ zs r e. cond-true r.options.subtree (zs ++ transient_copy node r ∷ []) zs e)
      (λ zs r e. cond-false r.options.subtree (zs ++ transient_copy node r ∷ []) zs e) copies (filter (λ r. eqb r.node x) rs)) [] path
      ∙ (sym (fold-flat_map (λ zs r. zs ++ transient_copy node r ∷ []) (λ r. r.options.subtree) (λ x. filter (λ r. eqb r.node x) rs) [] path)
      ∙ fold-behind (transient_copy node) [] (filter (λ r. r.options.subtree) (registrations_on eqb path rs)))

-- ---- an owner without registrations

-- none stands on a path
on_none : (path : List ℕ) → registrations_on eqb path [] ≡ []
on_none [] = refl
on_none (x ∷ path) = on_none path

-- nobody is interested
pub interested-none : (path : List ℕ) (rs : List (Registration ℕ)) (c : Change ℕ) → is_empty rs ≡ true → interested eqb path rs c ≡ []
interested-none path [] c e = ap (λ rs. distinct eqb (map (λ r. r.observer) (filter (fits eqb c) rs))) (on_none path)
interested-none path (r ∷ rs) c e = cc

-- and nothing is copied
pub copies-none : (node : ℕ) (path : List ℕ) (rs : List (Registration ℕ)) → is_empty rs ≡ true → transients_for eqb node path rs ≡ []
copies-none node path [] e = ap (λ rs. map (transient_copy node) (filter (λ r. r.options.subtree) rs)) (on_none path)
copies-none node path (r ∷ rs) e = cc
