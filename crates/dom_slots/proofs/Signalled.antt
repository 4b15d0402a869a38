-- Signalled slots by their keys and by their names.
use Rattle.dom_base.proofs.Std.{◌≡◌, ℕ, ◌<◌, Bool, true, false, ◌&&◌, ◌||◌, not, List, [], ◌∷◌, ◌++◌, All, map, fold, length, filter, refl, sym, ap, subst, ◌∙◌}
use Rattle.dom_base.proofs.Std.{append_assoc, nat_eq, if◌then◌else◌, Option, None, Some, MatchOption, option_to_list, option_map, append-nil, map-append}
use Rattle.dom_base.proofs.Std.{All-push, All-head, All-tail, list_any-append, fold-append}
use Rattle.dom_model.proofs.Model.{NodeName, name_eq, is_in, append_once, distinct, list_eq, name_eq-turned, name_eq-true}
use Rattle.dom_tree.specs.Definitions.{name_at, TellApart}
use Rattle.dom_laws.proofs.Laws.{name_eq-from, filter-yes, filter-no}
use Rattle.dom_slots.proofs.Hosted.{key-test}

-- ---- names added one by one are those of the list, each at its first place

-- two filters are one
filter_both : (p q r : NodeName → Bool) → ((y : NodeName) → (q y && p y) ≡ r y) → (xs : List NodeName) → filter p (filter q xs) ≡ filter r xs
filter_both p q r same [] = refl
filter_both p q r same (x ∷ xs) = by (q x) (p x) refl refl (filter_both p q r same xs)
  where
    by : (a b : Bool) → q x ≡ a → p x ≡ b → filter p (filter q xs) ≡ filter r xs → filter p (filter q (x ∷ xs)) ≡ filter r (x ∷ xs)
    by true true e f rest =
        let hit : r x ≡ true = sym (same x) ∙ ap (λ c. c && p x) e ∙ f in
        ap (filter p) (filter-yes q x xs e) ∙ (filter-yes p x (filter q xs) f ∙ (ap (λ ys. x ∷ ys) rest ∙ sym (filter-yes r x xs hit)))
    by true false e f rest =
        let miss : r x ≡ false = sym (same x) ∙ ap (λ c. c && p x) e ∙ f in
        ap (filter p) (filter-yes q x xs e) ∙ (filter-no p x (filter q xs) f ∙ (rest ∙ sym (filter-no r x xs miss)))
    by false b e f rest =
        let miss : r x ≡ false = sym (same x) ∙ ap (λ c. c && p x) e in
        ap (filter p) (filter-no q x xs e) ∙ (rest ∙ sym (filter-no r x xs miss))

-- a name that is not among these
abbrev is_new : List NodeName → NodeName → Bool
is_new done y = not (is_in name_eq y done)

there_is_old : (done : List NodeName) (x : NodeName) → is_in name_eq x done ≡ true → (y : NodeName) → (not (name_eq x y) && is_new done y) ≡ is_new done y
there_is_old done x there y = by (name_eq x y) refl
  where
    by : (b : Bool) → name_eq x y ≡ b → (not (name_eq x y) && is_new done y) ≡ is_new done y
    by true e = ap (λ b. not b && is_new done y) e ∙ sym (ap (λ z. not (is_in name_eq z done)) (sym (name_eq-true x y e)) ∙ ap not there)
    by false e = ap (λ b. not b && is_new done y) e

new_with : (a b : Bool) → (not a && not b) ≡ not (b || (a || false))
new_with true true = refl
new_with false true = refl
new_with a b = refl

new_beside : (done : List NodeName) (x y : NodeName) → (not (name_eq x y) && is_new done y) ≡ is_new (done ++ x ∷ []) y
new_beside done x y =
    new_with (name_eq x y) (is_in name_eq y done)
    ∙ (ap (λ b. not (is_in name_eq y done || (b || false))) (name_eq-turned x y) ∙ ap not (sym (list_any-append (name_eq y) done (x ∷ []))))

fold_once : (done xs : List NodeName) → fold (append_once name_eq) done xs ≡ done ++ filter (is_new done) (distinct name_eq xs)
fold_once done [] = sym (append-nil done)
fold_once done (x ∷ xs) = by (is_in name_eq x done) refl (fold_once done xs) (fold_once (done ++ x ∷ []) xs)
  where
    by : (b : Bool) → is_in name_eq x done ≡ b → fold (append_once name_eq) done xs ≡ done ++ filter (is_new done) (distinct name_eq xs)
        → fold (append_once name_eq) (done ++ x ∷ []) xs ≡ (done ++ x ∷ []) ++ filter (is_new (done ++ x ∷ [])) (distinct name_eq xs)
        → fold (append_once name_eq) done (x ∷ xs) ≡ done ++ filter (is_new done) (distinct name_eq (x ∷ xs))
    by true e rest longer =
        ap (λ (b : Bool). fold (append_once name_eq) (if b then done else done ++ x ∷ []) xs) e
        ∙ (rest ∙ ap (λ ys. done ++ ys) (sym (filter-no (is_new done) x (filter (λ y. not (name_eq x y)) (distinct name_eq xs)) (ap not e)
        ∙ filter_both (is_new done) (λ y. not (name_eq x y)) (is_new done) (there_is_old done x e) (distinct name_eq xs))))
    by false e rest longer =
        ap (λ (b : Bool). fold (append_once name_eq) (if b then done else done ++ x ∷ []) xs) e
        ∙ (longer ∙ (append_assoc done (x ∷ []) (filter (is_new (done ++ x ∷ [])) (distinct name_eq xs))
        ∙ ap (λ ys. done ++ ys) (sym (filter-yes (is_new done) x (filter (λ y. not (name_eq x y)) (distinct name_eq xs)) (ap not e)
        ∙ ap (λ ys. x ∷ ys) (filter_both (is_new done) (λ y. not (name_eq x y)) (is_new (done ++ x ∷ [])) (new_beside done x) (distinct name_eq xs))))))

filter_any : (p : NodeName → Bool) → ((y : NodeName) → p y ≡ true) → (xs : List NodeName) → filter p xs ≡ xs
filter_any p h [] = refl
filter_any p h (x ∷ xs) = filter-yes p x xs (h x) ∙ ap (λ ys. x ∷ ys) (filter_any p h xs)

-- from none on
pub fold-distinct : (xs : List NodeName) → fold (append_once name_eq) [] xs ≡ distinct name_eq xs
fold-distinct xs = fold_once [] xs ∙ filter_any (is_new []) (λ y. refl) (distinct name_eq xs)

-- a list is itself
pub list_eq-self : (xs : List NodeName) → list_eq name_eq xs xs ≡ true
list_eq-self [] = refl
list_eq-self (x ∷ xs) = rw (name_eq-from x x refl) (list_eq-self xs)

-- ---- the same by keys

module _ (names : List NodeName) (apart : TellApart names) where
  -- a key is among keys just where its name is among their names
  pub is_in-named : (k : ℕ) (ks : List ℕ) → k < length names → All (λ j. j < length names) ks →
      is_in nat_eq k ks ≡ is_in name_eq (name_at names k) (map (name_at names) ks)
  is_in-named k [] node nodes = refl
  is_in-named k (j ∷ ks) node nodes =
      ap (λ b. b || is_in nat_eq k ks) (key-test names apart k j node (All-head (λ i. i < length names) j ks nodes))
      ∙ ap (λ b. name_eq (name_at names k) (name_at names j) || b) (is_in-named k ks node (All-tail (λ i. i < length names) j ks nodes))

  -- lists are the same just where their names are
  pub list_eq-named : (js ks : List ℕ) → All (λ j. j < length names) js → All (λ j. j < length names) ks →
      list_eq nat_eq js ks ≡ list_eq name_eq (map (name_at names) js) (map (name_at names) ks)
  list_eq-named [] [] h i = refl
  list_eq-named [] (k ∷ ks) h i = refl
  list_eq-named (j ∷ js) [] h i = refl
  list_eq-named (j ∷ js) (k ∷ ks) h i =
      ap (λ b. b && list_eq nat_eq js ks) (key-test names apart j k (All-head (λ m. m < length names) j js h) (All-head (λ m. m < length names) k ks i))
      ∙ ap (λ b. name_eq (name_at names j) (name_at names k) && b)
      (list_eq-named js ks (All-tail (λ m. m < length names) j js h) (All-tail (λ m. m < length names) k ks i))

  -- these keys are the names of this list, each at its first place
  pub record AreSignalled (xs : List NodeName) (keys : List ℕ) : Type 0 where
    pub nodes : All (λ k. k < length names) keys
    pub are : map (name_at names) keys ≡ fold (append_once name_eq) [] xs

  -- one more
  pub one_signalled : (xs : List NodeName) (keys : List ℕ) {new : List ℕ} (k : ℕ) → AreSignalled xs keys → k < length names →
      new ≡ append_once nat_eq keys k → AreSignalled (xs ++ name_at names k ∷ []) new
  one_signalled xs keys {new} k s node e = by (is_in nat_eq k keys) refl
    where
      named : is_in nat_eq k keys ≡ is_in name_eq (name_at names k) (fold (append_once name_eq) [] xs)
      named = is_in-named k keys node s.nodes ∙ ap (is_in name_eq (name_at names k)) s.are

      by : (b : Bool) → is_in nat_eq k keys ≡ b → AreSignalled (xs ++ name_at names k ∷ []) new
      by true there =
          let same : new ≡ keys = e ∙ ap (λ (b : Bool). if b then keys else keys ++ k ∷ []) there in
          record {
            nodes = subst (All (λ j. j < length names)) (sym same) s.nodes;
            are = ap (map (name_at names)) same ∙
                (s.are ∙ (sym (ap (λ (b : Bool). if b then fold (append_once name_eq) [] xs else fold (append_once name_eq) [] xs ++
                name_at names k ∷ []) (sym named ∙ there))
                ∙ sym (fold-append (append_once name_eq) [] xs (name_at names k ∷ []))));
          }
      by false off =
          let longer : new ≡ keys ++ k ∷ [] = e ∙ ap (λ (b : Bool). if b then keys else keys ++ k ∷ []) off in
          record {
            nodes = subst (All (λ j. j < length names)) (sym longer) (All-push (λ j. j < length names) keys k s.nodes node);
            are = ap (map (name_at names)) longer ∙ (map-append (name_at names) keys (k ∷ []) ∙ (ap (λ ys. ys ++ name_at names k ∷ []) s.are
                ∙ (sym (ap (λ (b : Bool). if b then fold (append_once name_eq) [] xs else fold (append_once name_eq) [] xs ++
                name_at names k ∷ []) (sym named ∙ off))
                ∙ sym (fold-append (append_once name_eq) [] xs (name_at names k ∷ [])))));
          }

-- keys that are nodes stay so when one is added
pub node_added : (n : ℕ) (keys : List ℕ) (k : ℕ) → All (λ j. j < n) keys → k < n → All (λ j. j < n) (append_once nat_eq keys k)
node_added n keys k h node = by (is_in nat_eq k keys)
  where
    by : (b : Bool) → All (λ j. j < n) (if b then keys else keys ++ k ∷ [])
    by true = h
    by false = All-push (λ j. j < n) keys k h node

-- a value that may be there, as a list
pub listed : {X : Type 0} (o : Option X) (xs : List X) → MatchOption o (xs ≡ []) (λ x. xs ≡ x ∷ []) → xs ≡ option_to_list o
listed None xs e = e
listed (Some x) xs e = e

-- its names
pub listed-named : (names : List NodeName) (o : Option ℕ) → map (name_at names) (option_to_list o) ≡ option_to_list (option_map (name_at names) o)
listed-named names None = refl
listed-named names (Some k) = refl
