-- Lists: what holds of all items of lists made of others; and choices by a test.
use Rattle.dom_base.proofs.Std.{◌≡◌, Bool, true, false, ◌&&◌, ◌||◌, refl, sym, ◌∙◌, true≢false, ℕ, zero, ◌<◌, Some, length, not, List, [], ◌∷◌, ◌++◌, filter}
use Rattle.dom_base.proofs.Std.{map, None, Option, flat_map, fold, take_while, reverse, ap, arith, append-nil, take, drop, subst, suc, ◌+◌, if◌then◌else◌}
use Rattle.dom_base.proofs.Std.{is_some, slice_get, slice_set, option_flatten, cond-true, cond-false, reverse-append, AllByRecursion, prefix_len, filter-append}
use Rattle.dom_model.proofs.Model.{distinct}

-- by whether a test holds
pub by_cases : {P : Type 0} (b : Bool) → (b ≡ true → P) → (b ≡ false → P) → P
by_cases true f g = f refl
by_cases false f g = g refl

-- by whether there is something
pub by_some_is : {X : Type 0} (P : Option X → Type 0) (o : Option X) → (o ≡ None → P None) → ((x : X) → o ≡ Some x → P (Some x)) → P o
by_some_is P None f g = f refl
by_some_is P (Some x) f g = g x refl

-- where it does not matter that it is that
pub by_some : {X : Type 0} (P : Option X → Type 0) (o : Option X) → P None → ((x : X) → P (Some x)) → P o
by_some P o f g = by_some_is P o (λ e. f) (λ x e. g x)

-- what holds of both holds of either
pub either_way : {X : Type 0} (P : X → Type 0) (b : Bool) (x y : X) → P x → P y → P (if b then x else y)
either_way P true x y f g = f
either_way P false x y f g = g

-- the second, where the first fails
pub or-later : (a b : Bool) → a ≡ false → (a || b) ≡ true → b ≡ true
or-later true b e h = absurd (true≢false e)
or-later false b e h = h

-- the first, where the second fails
pub or-earlier : (a b : Bool) → b ≡ false → (a || b) ≡ true → a ≡ true
or-earlier true b e h = refl
or-earlier false b e h = absurd (true≢false (sym h ∙ e))

-- what holds of each where the test says so
pub which_way : {X : Type 0} (P : X → Type 0) (b : Bool) (x y : X) → (b ≡ true → P x) → (b ≡ false → P y) → P (if b then x else y)
which_way P true x y f g = f refl
which_way P false x y f g = g refl

-- what always holds beside it makes no test false
pub and-true_false : (b : Bool) → (b && true) ≡ false → b ≡ false
and-true_false true h = absurd (true≢false h)
and-true_false false h = refl

module _ {X : Type 0} where
  -- all of two lists
  pub all-append : (P : X → Type 0) (xs ys : List X) → AllByRecursion P xs → AllByRecursion P ys → AllByRecursion P (xs ++ ys)
  all-append P [] ys h g = g
  all-append P (x ∷ xs) ys h g = (h.0, all-append P xs ys h.1 g)

  -- all that pass a test
  pub all-filter : (P : X → Type 0) (test : X → Bool) (xs : List X) → AllByRecursion P xs → AllByRecursion P (filter test xs)
  all-filter P test [] h = tt
  all-filter P test (x ∷ xs) h = by_cases (test x) (λ e. rw e (h.0, all-filter P test xs h.1)) (λ e. rw e (all-filter P test xs h.1))

  -- what passes a test, where the test says it
  pub all-passed : (P : X → Type 0) (test : X → Bool) → ((x : X) → test x ≡ true → P x) → (xs : List X) → AllByRecursion P (filter test xs)
  all-passed P test f [] = tt
  all-passed P test f (x ∷ xs) = by_cases (test x) (λ e. rw e (f x e, all-passed P test f xs)) (λ e. rw e (all-passed P test f xs))

  -- all, each once
  pub all-distinct : (P : X → Type 0) (same : X → X → Bool) (xs : List X) → AllByRecursion P xs → AllByRecursion P (distinct same xs)
  all-distinct P same [] h = tt
  all-distinct P same (x ∷ xs) h = (h.0, all-filter P (λ y. not (same x y)) (distinct same xs) (all-distinct P same xs h.1))

  -- what holds of each item
  pub all-from : (P : X → Type 0) → ((x : X) → P x) → (xs : List X) → AllByRecursion P xs
  all-from P f [] = tt
  all-from P f (x ∷ xs) = (f x, all-from P f xs)

  -- what follows from what holds of each
  pub all-then : (P Q : X → Type 0) → ((x : X) → P x → Q x) → (xs : List X) → AllByRecursion P xs → AllByRecursion Q xs
  all-then P Q f [] h = tt
  all-then P Q f (x ∷ xs) h = (f x h.0, all-then P Q f xs h.1)

  -- where each item passes, all are kept
  pub filter_all : (test : X → Bool) (xs : List X) → AllByRecursion (λ x. test x ≡ true) xs → filter test xs ≡ xs
  filter_all test [] h = refl
  filter_all test (x ∷ xs) h = rw h.0 (ap (λ ys. x ∷ ys) (filter_all test xs h.1))

  -- where none does, none is
  pub filter_none : (test : X → Bool) (xs : List X) → AllByRecursion (λ x. test x ≡ false) xs → filter test xs ≡ []
  filter_none test [] h = refl
  filter_none test (x ∷ xs) h = rw h.0 (filter_none test xs h.1)

  -- two tests in either order
  pub filter-filter : (p q : X → Bool) (xs : List X) → filter p (filter q xs) ≡ filter q (filter p xs)
  filter-filter p q [] = refl
  filter-filter p q (x ∷ xs) =
      by_cases (p x)
      (λ a. by_cases (q x) (λ b. rw (a, b, a) (ap (λ ys. x ∷ ys) (filter-filter p q xs))) (λ b. rw (a, b) (filter-filter p q xs)))
      (λ a. by_cases (q x) (λ b. rw (a, b, a) (filter-filter p q xs)) (λ b. rw (a, b) (filter-filter p q xs)))

  -- a test of what is made of items
  pub filter-map : {Y : Type 0} (test : Y → Bool) (f : X → Y) (xs : List X) → filter test (map f xs) ≡ map f (filter (λ x. test (f x)) xs)
  filter-map test f [] = refl
  filter-map test f (x ∷ xs) = by_cases (test (f x)) (λ e. rw e (ap (λ ys. f x ∷ ys) (filter-map test f xs))) (λ e. rw e (filter-map test f xs))

  -- two functions that agree on the items
  pub map_same : {Y : Type 0} (f g : X → Y) (xs : List X) → AllByRecursion (λ x. f x ≡ g x) xs → map f xs ≡ map g xs
  map_same f g [] h = refl
  map_same f g (x ∷ xs) h = rw (h.0, map_same f g xs h.1)

  -- a test on the items in the other order
  pub filter-reverse : (test : X → Bool) (xs : List X) → filter test (reverse xs) ≡ reverse (filter test xs)
  filter-reverse test [] = refl
  filter-reverse test (x ∷ xs) =
      ap (filter test) (reverse-append (x ∷ []) xs) ∙ filter-append test (reverse xs) (x ∷ [])
      ∙ by_cases (test x) (λ e. rw (e, filter-reverse test xs) (sym (reverse-append (x ∷ []) (filter test xs))))
      (λ e. rw (e, filter-reverse test xs) (append-nil (reverse (filter test xs))))

  -- two tests that agree on the items
  pub filter_same : (p q : X → Bool) (xs : List X) → AllByRecursion (λ x. p x ≡ q x) xs → filter p xs ≡ filter q xs
  filter_same p q [] h = refl
  filter_same p q (x ∷ xs) h = rw (h.0, filter_same p q xs h.1) refl

  -- a first item that passes is taken
  pub take_while-yes : (p : X → Bool) (x : X) (xs : List X) → p x ≡ true → take_while p (x ∷ xs) ≡ x ∷ take_while p xs
  take_while-yes p x xs h =
      let more : 1 + prefix_len p xs ≡ suc (prefix_len p xs) = omega arith in
      ap (λ k. take k (x ∷ xs)) (cond-true (p x) (1 + prefix_len p xs) 0 h ∙ more)

  -- one that does not ends the list
  pub take_while-no : (p : X → Bool) (x : X) (xs : List X) → p x ≡ false → take_while p (x ∷ xs) ≡ []
  take_while-no p x xs h = ap (λ k. take k (x ∷ xs)) (cond-false (p x) (1 + prefix_len p xs) 0 h)

  -- where each item passes, all are taken
  pub take_while_all : (p : X → Bool) (xs : List X) → AllByRecursion (λ x. p x ≡ true) xs → take_while p xs ≡ xs
  take_while_all p [] h = refl
  take_while_all p (x ∷ xs) h = take_while-yes p x xs h.0 ∙ ap (λ ys. x ∷ ys) (take_while_all p xs h.1)

  -- all but the first
  pub all-dropped : (P : X → Type 0) (xs : List X) → AllByRecursion P xs → AllByRecursion P (drop 1 xs)
  all-dropped P [] h = tt
  all-dropped P (x ∷ xs) h = h.1

  -- Of what holds of each item, and a test.
  module _ (P : X → Type 0) (p : X → Bool) where
    -- all of a front
    pub all-take_while : (xs : List X) → AllByRecursion P xs → AllByRecursion P (take_while p xs)
    all-take_while [] h = tt
    all-take_while (x ∷ xs) h =
        by_cases (p x) (λ e. subst (AllByRecursion P) (sym (take_while-yes p x xs e)) (h.0, all-take_while xs h.1))
        (λ e. subst (AllByRecursion P) (sym (take_while-no p x xs e)) tt)

    -- what stands before an item that fails
    pub all-before : (xs : List X) (y : X) (ys : List X) → p y ≡ false → AllByRecursion P xs →
        AllByRecursion P (take_while p (xs ++ y ∷ ys))
    all-before [] y ys e h = subst (AllByRecursion P) (sym (take_while-no p y ys e)) tt
    all-before (x ∷ xs) y ys e h =
        by_cases (p x) (λ t. subst (AllByRecursion P) (sym (take_while-yes p x (xs ++ y ∷ ys) t)) (h.0, all-before xs y ys e h.1))
        (λ t. subst (AllByRecursion P) (sym (take_while-no p x (xs ++ y ∷ ys) t)) tt)

-- all of what is made of each item
pub all-flat_map : {X Y : Type 0} (P : Y → Type 0) (f : X → List Y) (xs : List X) → AllByRecursion (λ x. AllByRecursion P (f x)) xs →
    AllByRecursion P (flat_map f xs)
all-flat_map P f [] h = tt
all-flat_map P f (x ∷ xs) h = all-append P (f x) (flat_map f xs) h.0 (all-flat_map P f xs h.1)

-- all that is made of the items
pub all-map : {X Y : Type 0} (P : Y → Type 0) (f : X → Y) (xs : List X) → AllByRecursion (λ x. P (f x)) xs → AllByRecursion P (map f xs)
all-map P f [] h = tt
all-map P f (x ∷ xs) h = (h.0, all-map P f xs h.1)

-- the items in the other order
pub all-reverse : {X : Type 0} (P : X → Type 0) (xs : List X) → AllByRecursion P xs → AllByRecursion P (reverse xs)
all-reverse P [] h = tt
all-reverse P (x ∷ xs) h = subst (AllByRecursion P) (sym (reverse-append (x ∷ []) xs)) (all-append P (reverse xs) (x ∷ []) (all-reverse P xs h.1) (h.0, tt))

module _ {X : Type 0} where
  -- an item that is there has a place below the length
  pub get-below : (xs : List X) (k : ℕ) → is_some (slice_get xs k) ≡ true → k < length xs
  get-below [] k h = absurd (true≢false (sym h))
  get-below (x ∷ xs) zero h = omega arith
  get-below (x ∷ xs) (suc k) h = let g = get-below xs k h in omega arith

  -- and at a place below the length is an item
  pub get-there : (xs : List X) (k : ℕ) → k < length xs → is_some (slice_get xs k) ≡ true
  get-there [] k h = absurd (omega arith)
  get-there (x ∷ xs) zero h = refl
  get-there (x ∷ xs) (suc k) h = get-there xs k (omega arith)

  -- of which holds what holds of all
  pub get-all : (P : X → Type 0) (xs : List X) (k : ℕ) (x : X) → AllByRecursion P xs → slice_get xs k ≡ Some x → P x
  get-all P [] k x h e = cc
  get-all P (y ∷ xs) zero x h e = let same : y ≡ x = cc in subst P same h.0
  get-all P (y ∷ xs) (suc k) x h e = get-all P xs k x h.1 e

-- A list with one item set.
pub all-set : {X : Type 0} (P : X → Type 0) (xs : List X) (k : ℕ) (x : X) → AllByRecursion P xs → P x → AllByRecursion P (slice_set xs k x)
all-set P [] k x h g = tt
all-set P (y ∷ xs) zero x h g = (g, h.1)
all-set P (y ∷ xs) (suc k) x h g = (h.0, all-set P xs k x h.1 g)

-- What each step of a fold keeps holds at its end.
pub kept-fold : {A X : Type 0} (P : X → Type 0) (f : X → A → X) → ((x : X) (a : A) → P x → P (f x a)) → (items : List A) (x : X) → P x → P (fold f x items)
kept-fold P f keep [] x h = h
kept-fold P f keep (a ∷ items) x h = kept-fold P f keep items (f x a) (keep x a h)

-- An item of a list with holes.
pub at-each : {X : Type 0} (P : Option X → Type 0) → P None → (xs : List (Option X)) (k : ℕ) → AllByRecursion P xs → P (option_flatten (slice_get xs k))
at-each P n [] k h = n
at-each P n (None ∷ xs) zero h = n
at-each P n (Some x ∷ xs) zero h = h.0
at-each P n (x ∷ xs) (suc k) h = at-each P n xs k h.1
