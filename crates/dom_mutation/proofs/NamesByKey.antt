-- Names of nodes, by their keys; and more of them.
use Rattle.dom_base.proofs.Std.{◌≡◌, ℕ, suc, ◌+◌, ◌<◌, Bool, true, false, ◌||◌, inl, inr, List, [], ◌∷◌, ◌++◌, All, map, filter, fold, take, length, Some}
use Rattle.dom_base.proofs.Std.{unwrap_or, get_or, sym, ap, subst, ◌∙◌, slice_get, if◌then◌else◌, get_or-map, length-map, map-append, take_more}
use Rattle.dom_base.proofs.Std.{unwrap_or-slice_get, cases_Bool, All-nil, All-cons, All-push, All-head, All-tail, All-filter, list_any_at, list_any-append}
use Rattle.dom_base.proofs.Std.{list_any}
use Rattle.dom_model.proofs.Model.{NodeName, Owner, Page, name_eq, is_in, append_once, node_of, is_owned_by, name_eq-same, name_eq-true}
use Rattle.dom_tree.specs.Definitions.{name_at}
use Rattle.dom_mutation.specs.Signalled.{AreNames}

-- what a node has is a name of a node
pub is_named : (names : List NodeName) (k : ℕ) → k < length names → is_in name_eq (name_at names k) names ≡ true
is_named names k within = list_any_at (name_eq (name_at names k)) names k (node_of Page 0) within (name_eq-same (name_at names k))

-- the key of a name
pub key_of_name : (names : List NodeName) (x : NodeName) → is_in name_eq x names ≡ true → (k : ℕ) × (slice_get names k ≡ Some x)
key_of_name [] x e = cc
key_of_name (y ∷ names) x e = elim (cases_Bool (name_eq x y)) [
  | inl same ↦ (0, ap Some (sym (name_eq-true x y same)))
  | inr other ↦ let rest = key_of_name names x (sym (ap (λ b. b || is_in name_eq x names) other) ∙ e) in (suc rest.0, rest.1)
]

-- the names of some keys
pub are_named : (names : List NodeName) (keys : List ℕ) → All (λ k. k < length names) keys → AreNames names (map (name_at names) keys)
are_named names [] all = All-nil (λ x. is_in name_eq x names ≡ true)
are_named names (k ∷ keys) all = All-cons (λ x. is_in name_eq x names ≡ true) (name_at names k) (map (name_at names) keys)
    (is_named names k (All-head (λ j. j < length names) k keys all)) (are_named names keys (All-tail (λ j. j < length names) k keys all))

-- names stay so, when some more are signalled, one after another
pub names_signalled : (names xs more : List NodeName) → AreNames names xs → AreNames names more → AreNames names (fold (append_once name_eq) xs more)
names_signalled names xs [] are all = are
names_signalled names xs (x ∷ more) are all =
    names_signalled names (append_once name_eq xs x) more (by (is_in name_eq x xs)) (All-tail (λ y. is_in name_eq y names ≡ true) x more all)
  where
    by : (b : Bool) → AreNames names (if b then xs else xs ++ x ∷ [])
    by true = are
    by false = All-push (λ y. is_in name_eq y names ≡ true) xs x are (All-head (λ y. is_in name_eq y names ≡ true) x more all)

-- the keys of an owner's nodes by the first of their numbers
module _ (names : List NodeName) (o : Owner) (ns : List ℕ) (i d : ℕ) (within : i < length ns) where
  -- each is that of a name, where they are signalled slots
  pub own_key : (xs : List NodeName) → AreNames names xs → map (node_of o) ns ≡ filter (is_owned_by o) xs →
      (k : ℕ) × (slice_get names k ≡ Some (node_of o (get_or ns i d)))
  own_key xs all own =
      let own_all = subst (AreNames names) (sym own) (All-filter (is_owned_by o) (λ x. is_in name_eq x names ≡ true) xs all) in
      key_of_name names (node_of o (get_or ns i d))
      (subst (λ x. is_in name_eq x names ≡ true) (get_or-map (node_of o) ns i d (node_of o d) within)
      (own_all i (node_of o d) (subst (λ n. i < n) (sym (length-map ns (node_of o))) within)))

  -- and one more
  pub one_more : (keys : List ℕ) (k : ℕ) → slice_get names k ≡ Some (node_of o (get_or ns i d)) → k < length names →
      (map (name_at names) keys ≡ map (node_of o) (take i ns)) × All (λ j. j < length names) keys → {more : List ℕ} → more ≡ keys ++ k ∷ []
      → (map (name_at names) more ≡ map (node_of o) (take (i + 1) ns)) × All (λ j. j < length names) more
  one_more keys k found node so_far is = (
    ap (map (name_at names)) is
        ∙ (map-append (name_at names) keys (k ∷ [])
        ∙ (ap (λ xs. xs ++ name_at names k ∷ []) so_far.0
        ∙ (ap (λ x. map (node_of o) (take i ns) ++ x ∷ [])
        (sym (unwrap_or-slice_get names k (node_of Page 0)) ∙ ap (λ s. unwrap_or s (node_of Page 0)) found)
        ∙ (sym (map-append (node_of o) (take i ns) (get_or ns i d ∷ [])) ∙ ap (map (node_of o)) (sym (take_more ns i d within)))))),
    subst (All (λ j. j < length names)) (sym is) (All-push (λ j. j < length names) keys k so_far.1 node),
  )

-- names of nodes stay so where there is one node more
pub names_grown : (names : List NodeName) (x : NodeName) (xs : List NodeName) → AreNames names xs → AreNames (names ++ x ∷ []) xs
names_grown names x xs all = λ i d h.
    list_any-append (name_eq (get_or xs i d)) names (x ∷ [])
    ∙ ap (λ b. b || list_any (name_eq (get_or xs i d)) (x ∷ [])) (all i d h)
