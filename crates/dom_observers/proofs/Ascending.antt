-- The keys of a node's inclusive ancestors, from the node upwards.
use Rattle.dom_base.proofs.Std.{inl, inr, ◌≡◌, ℕ, zero, suc, ◌<◌, Bool, true, false, eqb, List, [], ◌∷◌, ◌++◌, length, map, Option, Some, None, refl, sym}
use Rattle.dom_base.proofs.Std.{ap, ◌∙◌, subst, arith, option_map, slice_get, same_Some, none-some, ForSome, cond-true, cond-false, append_assoc, append-nil}
use Rattle.dom_base.proofs.Std.{or_parts, or_from, cases_eq, ne_eqb, true≢false}
use Rattle.dom_model.proofs.Model.{NodeName, name_eq, is_in, inclusive_ancestors, is_inclusive_ancestor, parent_of, nodes, names_of, name_eq-same}
use Rattle.dom_model.proofs.Model.{name_eq-other, name_eq-true}
use Rattle.dom_tree.specs.Definitions.{NamedTrees, name_at, TellApart}
use Rattle.dom_tree.proofs.Standing.{StandOnce, StandAlone, Once-forest, Has-forest}
use Rattle.dom_laws.proofs.Laws.{above-parent, above-root, Has-above, In, is_in-from, In-names, name_eq-from}
use Rattle.dom_observers.specs.Definitions.{key_of, keys_from, path_keys, IsKey, AreAll}

-- a name has its key back
pub key_of-name : (names : List NodeName) → TellApart names → (k : ℕ) → k < length names → key_of names (name_at names k) ≡ k
key_of-name [] apart k short = absurd (omega arith)
key_of-name (y ∷ ys) apart zero short = cond-true (name_eq y y) zero (suc (key_of ys y)) (name_eq-same y)
key_of-name (y ∷ ys) apart (suc k) short =
    let other : name_at ys k ≡ y → ⊥ = λ e. absurd (omega (arith, apart (suc k) zero short (omega arith) e)) in
    cond-false (name_eq (name_at ys k) y) zero (suc (key_of ys (name_at ys k))) (name_eq-other (name_at ys k) y other)
    ∙ ap suc (key_of-name ys (λ i j at_i at_j e. omega (arith, apart (suc i) (suc j) (omega arith) (omega arith) e)) k (omega arith))

-- what a walk has done: the nodes so far and those from the next one on are the inclusive ancestors
pub record HasClimbed (f : NamedTrees) (key : ℕ) (path : List ℕ) (at : Option ℕ) : Type 0 where
  pub next : ForSome at (IsKey f.names)
  pub whole : path ++ keys_from f at ≡ path_keys f key

-- the beginning
pub climbs-first : (f : NamedTrees) (key : ℕ) → key < length f.names → HasClimbed f key [] (Some key)
climbs-first f key node = record { next = λ k e. subst (IsKey f.names) (same_Some key k e) node; whole = refl }

-- One step of a walk, in a forest in which each node stands once, by a name of its own.
module _ (f : NamedTrees) (once : StandOnce f) (only : StandAlone f) (apart : TellApart f.names) where
  -- a node stands before those above its parent
  pub climbs : (k : ℕ) (next : Option ℕ) → k < length f.names → option_map (name_at f.names) next ≡ parent_of f.trees (name_at f.names k)
      → path_keys f k ≡ k ∷ keys_from f next
  climbs k None node is =
      ap (map (key_of f.names)) (above-root f.trees (name_at f.names k) (Has-forest f once k node) (sym is))
      ∙ ap (λ j. j ∷ []) (key_of-name f.names apart k node)
  climbs k (Some p) node is =
      ap (map (key_of f.names)) (above-parent f.trees (name_at f.names k) (name_at f.names p) (Once-forest f once only) (Has-forest f once k node) (sym is)).0
      ∙ ap (λ j. j ∷ path_keys f p) (key_of-name f.names apart k node)

  -- a step
  pub climbs-more : {key k : ℕ} {path : List ℕ} {at : Option ℕ} (next : Option ℕ) → HasClimbed f key path at → at ≡ Some k →
      option_map (name_at f.names) next ≡ parent_of f.trees (name_at f.names k)
      → ForSome next (IsKey f.names) → HasClimbed f key (path ++ k ∷ []) next
  climbs-more {k = k} {path = path} next done here is nodes =
      record {
        next = nodes;
        whole =
            append_assoc path (k ∷ []) (keys_from f next)
            ∙ (ap (λ ks. path ++ ks) (sym (ap (keys_from f) here ∙ climbs k next (done.next k here) is)) ∙ done.whole);
      }

  -- fewer are left above
  pub climbs-fewer : {k : ℕ} {at : Option ℕ} (next : Option ℕ) → at ≡ Some k → k < length f.names
      → option_map (name_at f.names) next ≡ parent_of f.trees (name_at f.names k) → length (keys_from f next) < length (keys_from f at)
  climbs-fewer {k = k} next here node is =
      let longer = ap (λ o. length (keys_from f o)) here ∙ ap (length {A = ℕ}) (climbs k next node is) in
      omega (arith, longer)

-- the end
pub climbs-all : (f : NamedTrees) (key : ℕ) (path : List ℕ) → HasClimbed f key path None → path ≡ path_keys f key
climbs-all f key path done = sym (append-nil path) ∙ done.whole

-- ---- the keys of the path stand for its names

-- a name that has a key
keyed : (names : List NodeName) (x : NodeName) (j : ℕ) → slice_get names j ≡ Some x → (name_at names (key_of names x) ≡ x) × (key_of names x < length names)
keyed [] x j e = absurd (none-some x e)
keyed (y ∷ ys) x zero e =
    let same : name_eq x y ≡ true = subst (λ (z : NodeName). name_eq x z ≡ true) (sym (same_Some y x e)) (name_eq-same x) in
    let at : key_of (y ∷ ys) x ≡ zero = cond-true (name_eq x y) zero (suc (key_of ys x)) same in
    (ap (name_at (y ∷ ys)) at ∙ same_Some y x e, omega (arith, at))
keyed (y ∷ ys) x (suc j) e = by (name_eq x y) refl (keyed ys x j e)
  where
    by : (b : Bool) → name_eq x y ≡ b → (name_at ys (key_of ys x) ≡ x) × (key_of ys x < length ys) → (name_at (y ∷ ys) (key_of (y ∷ ys) x) ≡ x) ×
        (key_of (y ∷ ys) x < length (y ∷ ys))
    by true h rest =
        let at : key_of (y ∷ ys) x ≡ zero = cond-true (name_eq x y) zero (suc (key_of ys x)) h in
        (ap (name_at (y ∷ ys)) at ∙ sym (name_eq-true x y h), omega (arith, at))
    by false h rest =
        let at : key_of (y ∷ ys) x ≡ suc (key_of ys x) = cond-false (name_eq x y) zero (suc (key_of ys x)) h in
        (ap (name_at (y ∷ ys)) at ∙ rest.0, omega (arith, at, rest.1))

-- and many
all_keyed : (names xs : List NodeName) → ((x : NodeName) → In x xs → (j : ℕ) × (slice_get names j ≡ Some x)) →
    (map (name_at names) (map (key_of names) xs) ≡ xs) × AreAll (IsKey names) (map (key_of names) xs)
all_keyed names [] found = (refl, tt)
all_keyed names (x ∷ xs) found =
    let first = found x (inl refl) in
    let here = keyed names x first.0 first.1 in
    let rest = all_keyed names xs (λ y i. found y (inr i)) in
    (ap (λ y. y ∷ map (name_at names) (map (key_of names) xs)) here.0 ∙ ap (λ ys. x ∷ ys) rest.0, (here.1, rest.1))

pub path_keys-named : (f : NamedTrees) → StandOnce f → StandAlone f → (k : ℕ) → k < length f.names
    → (map (name_at f.names) (path_keys f k) ≡ inclusive_ancestors f.trees (name_at f.names k)) × AreAll (IsKey f.names) (path_keys f k)
path_keys-named f once only k node =
    all_keyed f.names (inclusive_ancestors f.trees (name_at f.names k))
    (λ x i. only x (is_in-from x (names_of (nodes f.trees))
    (In-names f.trees x (Has-above f.trees x (name_at f.names k) (Once-forest f once only) (Has-forest f once k node) i))))

module _ (f : NamedTrees) (once : StandOnce f) (only : StandAlone f) (k : ℕ) where
  -- a node does not stand above its parent
  pub proper-lack : (next : Option ℕ) → ForSome next (IsKey f.names)
      → ForSome next (λ p. is_inclusive_ancestor f.trees (name_at f.names k) (name_at f.names p) ≡ false) → is_in eqb k (keys_from f next) ≡ false
  proper-lack None nodes off = refl
  proper-lack (Some p) nodes off =
      by (path_keys f p) (subst (λ names. is_in name_eq (name_at f.names k) names ≡ false) (sym (path_keys-named f once only p (nodes p refl)).0) (off p refl))
    where
      differs : (j : ℕ) → name_eq (name_at f.names k) (name_at f.names j) ≡ false → eqb k j ≡ false
      differs j e = elim (cases_eq k j) [
        | inl same ↦ absurd (true≢false (sym (name_eq-from (name_at f.names k) (name_at f.names j) (ap (name_at f.names) same)) ∙ e))
        | inr other ↦ ne_eqb k j other
      ]

      by : (ks : List ℕ) → is_in name_eq (name_at f.names k) (map (name_at f.names) ks) ≡ false → is_in eqb k ks ≡ false
      by [] e = refl
      by (j ∷ js) e =
          let parts = or_parts (name_eq (name_at f.names k) (name_at f.names j)) (is_in name_eq (name_at f.names k) (map (name_at f.names) js)) e in
          or_from (eqb k j) (is_in eqb k js) (differs j parts.0) (by js parts.1)
