-- Slots that are signalled already are not signalled again.
use Rattle.dom_base.proofs.Std.{◌≡◌, inl, inr, Bool, true, false, ◌||◌, List, [], ◌∷◌, ◌++◌, fold, filter, refl, sym, ap, ◌∙◌, true≢false, if◌then◌else◌}
use Rattle.dom_base.proofs.Std.{or_left, or_right, list_any-append, fold-append}
use Rattle.dom_model.proofs.Model.{NodeName, name_eq, is_in, append_once, distinct}
use Rattle.dom_laws.proofs.Laws.{In, is_in-from, In-from, name_eq-from, filter-yes, filter-no}
use Rattle.dom_slots.proofs.Signalled.{fold-distinct}

-- names that are there stay there
still_in : (y : NodeName) (done xs : List NodeName) → is_in name_eq y done ≡ true → is_in name_eq y (fold (append_once name_eq) done xs) ≡ true
still_in y done [] h = h
still_in y done (x ∷ xs) h = by (is_in name_eq x done) (λ next i. still_in y next xs i)
  where
    by : (b : Bool) → ((next : List NodeName) → is_in name_eq y next ≡ true → is_in name_eq y (fold (append_once name_eq) next xs) ≡ true)
        → is_in name_eq y (fold (append_once name_eq) (if b then done else done ++ x ∷ []) xs) ≡ true
    by true more = more done h
    by false more = more (done ++ x ∷ []) (list_any-append (name_eq y) done (x ∷ []) ∙ or_left (is_in name_eq y done) _ h)

-- and those that are added are there
pub added_in : (y : NodeName) (done xs : List NodeName) → In y xs → is_in name_eq y (fold (append_once name_eq) done xs) ≡ true
added_in y done [] i = absurd i
added_in y done (x ∷ xs) (inl e) = still_in y (append_once name_eq done x) xs (by (is_in name_eq x done) refl)
  where
    by : (b : Bool) → is_in name_eq x done ≡ b → is_in name_eq y (append_once name_eq done x) ≡ true
    by true there = ap (λ (b : Bool). is_in name_eq y (if b then done else done ++ x ∷ [])) there ∙ (ap (λ z. is_in name_eq z done) e ∙ there)
    by false off =
        ap (λ (b : Bool). is_in name_eq y (if b then done else done ++ x ∷ [])) off
        ∙ (list_any-append (name_eq y) done (x ∷ []) ∙ or_right (is_in name_eq y done) (name_eq y x || false)
        (or_left (name_eq y x) false (name_eq-from y x e)))
added_in y done (x ∷ xs) (inr i) = added_in y (append_once name_eq done x) xs i

-- who is there already adds nothing
none_added : (done xs : List NodeName) → ((y : NodeName) → In y xs → is_in name_eq y done ≡ true) → fold (append_once name_eq) done xs ≡ done
none_added done [] all = refl
none_added done (x ∷ xs) all = ap (λ (b : Bool). fold (append_once name_eq) (if b then done else done ++ x ∷ []) xs) (all x (inl refl)) ∙
    none_added done xs (λ y i. all y (inr i))

pub again_added : (xs ys : List NodeName) → ((y : NodeName) → In y ys → is_in name_eq y xs ≡ true) →
    fold (append_once name_eq) [] (xs ++ ys) ≡ fold (append_once name_eq) [] xs
again_added xs ys all = fold-append (append_once name_eq) [] xs ys ∙ none_added (fold (append_once name_eq) [] xs) ys
    (λ y i. added_in y [] xs (In-from y xs (all y i)))

-- those that a test leaves out add nothing where they are there
skipping : (p q : NodeName → Bool) (done xs : List NodeName) →
    ((y : NodeName) → In y xs → p y ≡ true → q y ≡ false → is_in name_eq y done ≡ true)
    → fold (append_once name_eq) done (filter p (filter q xs)) ≡ fold (append_once name_eq) done (filter p xs)
skipping p q done [] there = refl
skipping p q done (x ∷ xs) there =
    by (q x) refl (p x) refl (skipping p q (append_once name_eq done x) xs (λ y i hit miss. still_in y done (x ∷ []) (there y (inr i) hit miss)))
    (skipping p q done xs (λ y i. there y (inr i)))
  where
    by : (b : Bool) → q x ≡ b → (d : Bool) → p x ≡ d →
        fold (append_once name_eq) (append_once name_eq done x) (filter p (filter q xs)) ≡ fold (append_once name_eq) (append_once name_eq done x) (filter p xs)
        → fold (append_once name_eq) done (filter p (filter q xs)) ≡ fold (append_once name_eq) done (filter p xs)
        → fold (append_once name_eq) done (filter p (if b then x ∷ filter q xs else filter q xs)) ≡ fold (append_once name_eq) done
        (if d then x ∷ filter p xs else filter p xs)
    by true i true e more rest = ap (fold (append_once name_eq) done) (filter-yes p x (filter q xs) e) ∙ more
    by true i false e more rest = ap (fold (append_once name_eq) done) (filter-no p x (filter q xs) e) ∙ rest
    by false i true e more rest = rest ∙ ap (λ (b : Bool). fold (append_once name_eq) (if b then done else done ++ x ∷ []) (filter p xs))
        (sym (there x (inl refl) e i))
    by false i false e more rest = rest

-- so behind names where they are
pub skipped : (p q : NodeName → Bool) (told xs : List NodeName) → ((y : NodeName) → In y xs → p y ≡ true → q y ≡ false → In y told) →
    fold (append_once name_eq) [] (told ++ filter p (filter q xs)) ≡ fold (append_once name_eq) [] (told ++ filter p xs)
skipped p q told xs there =
    fold-append (append_once name_eq) [] told (filter p (filter q xs))
    ∙ (skipping p q (fold (append_once name_eq) [] told) xs (λ y i hit miss. added_in y [] told (there y i hit miss))
    ∙ sym (fold-append (append_once name_eq) [] told (filter p xs)))

-- who passes a test is one of these
pub passing : (p : NodeName → Bool) (y : NodeName) (xs : List NodeName) → In y (filter p xs) → In y xs × (p y ≡ true)
passing p y [] i = absurd i
passing p y (x ∷ xs) i = by (p x) refl i (passing p y xs)
  where
    by : (b : Bool) → p x ≡ b → In y (if b then x ∷ filter p xs else filter p xs) → (In y (filter p xs) → In y xs × (p y ≡ true)) → In y (x ∷ xs) × (p y ≡ true)
    by true e (inl same) deeper = (inl same, ap p same ∙ e)
    by true e (inr j) deeper = let d = deeper j in (inr d.0, d.1)
    by false e j deeper = let d = deeper j in (inr d.0, d.1)

pub passes : (p : NodeName → Bool) (y : NodeName) (xs : List NodeName) → In y xs → p y ≡ true → In y (filter p xs)
passes p y [] i e = absurd i
passes p y (x ∷ xs) i e = by (p x) refl i (passes p y xs)
  where
    by : (b : Bool) → p x ≡ b → In y (x ∷ xs) → (In y xs → p y ≡ true → In y (filter p xs)) → In y (if b then x ∷ filter p xs else filter p xs)
    by true h (inl same) deeper = inl same
    by true h (inr j) deeper = inr (deeper j e)
    by false h (inl same) deeper = absurd (true≢false (sym e ∙ (ap p same ∙ h)))
    by false h (inr j) deeper = deeper j e

-- where all others that pass are own slots, they add nothing
pub own-signalled : (p : NodeName → Bool) (own bare others : List NodeName) → ((y : NodeName) → In y others → p y ≡ true → is_in name_eq y own ≡ true)
    → distinct name_eq (filter p own ++ bare ++ filter p others) ≡ distinct name_eq (filter p own ++ bare)
own-signalled p own bare others all =
    sym (fold-distinct ((filter p own ++ bare) ++ filter p others))
    ∙ (again_added (filter p own ++ bare) (filter p others)
    (λ y i.
    let w = passing p y others i in
    list_any-append (name_eq y) (filter p own) bare ∙ or_left (is_in name_eq y (filter p own)) _
    (is_in-from y (filter p own) (passes p y own (In-from y own (all y w.0 w.1)) w.1)))
    ∙ fold-distinct (filter p own ++ bare))
