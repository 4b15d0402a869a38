-- A walk along the children of a node.
use Rattle.dom_base.proofs.Std.{◌≡◌, inl, ℕ, ◌<◌, List, [], ◌∷◌, ◌++◌, length, Option, Some, None, suc, refl, sym, ap, subst, ◌∙◌, append_assoc, arith}
use Rattle.dom_base.proofs.Std.{option_map, option_map_or, ForSome, same_Some}
use Rattle.dom_model.proofs.Model.{NodeName, name_eq, first_of, items_after, items_before, Trees, parent_of, children_of, siblings, next_sibling}
use Rattle.dom_model.proofs.Model.{inclusive_descendants, subtree}
use Rattle.dom_tree.specs.Definitions.{NamedTrees, name_at}
use Rattle.dom_tree.proofs.Standing.{StandOnce, StandAlone, Once-forest, Has-forest}
use Rattle.dom_laws.proofs.Laws.{In, Single, Single-apart, no_first, first_split, split_at, after-split, after-in, name_eq-from, Once, Has, above-present}
use Rattle.dom_laws.proofs.Laws.{above-parent, below-from_above, In-names, parent-of_child, child-of_parent, children-single}

-- the items from one on; none where there is none
abbrev pub from_item : List NodeName → Option NodeName → List NodeName
from_item xs None = []
from_item xs (Some x) = x ∷ items_after name_eq x xs

-- from the first on are all
pub from-first : (xs : List NodeName) → from_item xs (first_of xs) ≡ xs
from-first [] = refl
from-first (x ∷ xs) = rw (name_eq-from x x refl) refl

-- behind an item comes the next one, with all behind that one
pub from-next : (x : NodeName) (xs : List NodeName) → Single xs → In x xs → (o : Option NodeName) → o ≡ first_of (items_after name_eq x xs) →
    items_after name_eq x xs ≡ from_item xs o
from-next x xs single i None e = no_first (items_after name_eq x xs) (sym e)
from-next x xs single i (Some y) e =
    let s = first_split (items_after name_eq x xs) y (sym e) in
    let front = items_before name_eq x xs ++ x ∷ [] in
    let whole : xs ≡ front ++ y ∷ s.0 =
    split_at x xs i ∙ (ap (λ ys. items_before name_eq x xs ++ x ∷ ys) s.1 ∙ sym (append_assoc (items_before name_eq x xs) (x ∷ []) (y ∷ s.0))) in
    let apart : In y front → ⊥ = λ j. Single-apart y front (y ∷ s.0) (subst Single whole single) j (inl refl) in
    s.1 ∙ ap (λ ys. y ∷ ys) (sym (ap (items_after name_eq y) whole ∙ after-split y front s.0 apart))

-- a node in its own tree
itself : (ts : Trees) (x : NodeName) → Once ts → Has ts x → In x (inclusive_descendants ts x)
itself ts x once h = In-names (subtree ts x) x (below-from_above ts x x once h (subst (In x) (sym (above-present ts x h).1) (inl refl)))

-- a parent stands where its child does
pub parent-stands : (ts : Trees) → Once ts → (x h : NodeName) → Has ts x → parent_of ts x ≡ Some h → Has ts h
parent-stands ts once x h at e = (above-parent ts x h once at e).1

-- a key of a child of h
pub record IsChild (f : NamedTrees) (h : NodeName) (k : ℕ) : Type 0 where
  pub node : k < length f.names
  pub parent : parent_of f.trees (name_at f.names k) ≡ Some h

module _ (f : NamedTrees) (once : Once f.trees) (h : NodeName) (stands : Has f.trees h) where
  -- the key of a child found by its name
  child_found : (o : Option ℕ) → ForSome o (λ k. k < length f.names) →
      ((y : NodeName) → option_map (name_at f.names) o ≡ Some y → In y (children_of f.trees h)) → ForSome o (IsChild f h)
  child_found o node among = λ k e. record {
    node = node k e;
    parent = (parent-of_child f.trees h (name_at f.names k) once stands (among (name_at f.names k) (ap (option_map (name_at f.names)) e))).0;
  }

  -- from the first child on are all
  pub first_step : (o : Option ℕ) → option_map (name_at f.names) o ≡ first_of (children_of f.trees h) → ForSome o (λ k. k < length f.names)
      → (from_item (children_of f.trees h) (option_map (name_at f.names) o) ≡ children_of f.trees h) × ForSome o (IsChild f h)
  first_step o e node = (
    ap (from_item (children_of f.trees h)) e ∙ from-first (children_of f.trees h),
    child_found o node (λ y is. let s = first_split (children_of f.trees h) y (sym e ∙ is) in subst (In y) (sym s.1) (inl refl)),
  )

  -- behind a child come the next one and all behind that one
  pub next_step : (k : ℕ) → IsChild f h k → Has f.trees (name_at f.names k) → (next : Option ℕ) →
      option_map (name_at f.names) next ≡ next_sibling f.trees (name_at f.names k) → ForSome next (λ j. j < length f.names)
      → (items_after name_eq (name_at f.names k) (children_of f.trees h) ≡ from_item (children_of f.trees h) (option_map (name_at f.names) next))
      × ForSome next (IsChild f h)
  next_step k child at next e node =
      let x = name_at f.names k in
      let all : siblings f.trees x ≡ children_of f.trees h = ap (λ o. option_map_or (children_of f.trees) o (x ∷ [])) child.parent in
      let first : option_map (name_at f.names) next ≡ first_of (items_after name_eq x (children_of f.trees h)) =
      e ∙ ap (λ xs. first_of (items_after name_eq x xs)) all in
      let among = (child-of_parent f.trees x h once at child.parent).1 in (
        from-next x (children_of f.trees h) (children-single f.trees h once stands) among (option_map (name_at f.names) next) first,
        child_found next node (λ y is. let s = first_split (items_after name_eq x (children_of f.trees h)) y (sym first ∙ is) in after-in x y
            (children_of f.trees h) (subst (In y) (sym s.1) (inl refl))),
      )

-- of a child that is among the siblings of another one, behind which the walk is
module _ (f : NamedTrees) (once : Once f.trees) (x h : NodeName) (at : Has f.trees x) (up : parent_of f.trees x ≡ Some h) where
  pub siblings-children : siblings f.trees x ≡ children_of f.trees h
  siblings-children = ap (λ o. option_map_or (children_of f.trees) o (x ∷ [])) up

  -- behind a child come the next one and all behind that one
  pub next_sibling-step : (k : ℕ) → IsChild f h k → Has f.trees (name_at f.names k) → (next : Option ℕ) →
      option_map (name_at f.names) next ≡ next_sibling f.trees (name_at f.names k) → ForSome next (λ j. j < length f.names)
      → (items_after name_eq (name_at f.names k) (siblings f.trees x) ≡ from_item (siblings f.trees x) (option_map (name_at f.names) next)) ×
      ((g : NodeName) → parent_of f.trees x ≡ Some g → ForSome next (IsChild f g))
  next_sibling-step k child here next e node =
      let step = next_step f once h (parent-stands f.trees once x h at up) k child here next e node in (
        subst (λ xs. items_after name_eq (name_at f.names k) xs ≡ from_item xs (option_map (name_at f.names) next)) (sym siblings-children) step.0,
        λ g also. subst (λ p. ForSome next (IsChild f p)) (same_Some h g (sym up ∙ also)) step.1,
      )

-- what is left is less
pub length-next : (f : NamedTrees) (xs : List NodeName) {k : ℕ} {at : Option ℕ} (next : Option ℕ) → at ≡ Some k →
    items_after name_eq (name_at f.names k) xs ≡ from_item xs (option_map (name_at f.names) next)
    → length (from_item xs (option_map (name_at f.names) next)) < length (from_item xs (option_map (name_at f.names) at))
length-next f xs {k} {at} next is e =
    let longer : length (from_item xs (option_map (name_at f.names) at)) ≡ suc (length (items_after name_eq (name_at f.names k) xs)) =
    ap (λ o. length (from_item xs (option_map (name_at f.names) o))) is in
    omega (arith, longer, ap (length {A = NodeName}) e)

-- a walk along the children of h goes on from a child to the next one: what is left is less, and begins there
pub record GoesOn (f : NamedTrees) (h : NodeName) (k : ℕ) (at next : Option ℕ) : Type 0 where
  pub left : items_after name_eq (name_at f.names k) (children_of f.trees h) ≡ from_item (children_of f.trees h) (option_map (name_at f.names) next)
  pub child : ForSome next (IsChild f h)
  pub less : length (from_item (children_of f.trees h) (option_map (name_at f.names) next)) < length
      (from_item (children_of f.trees h) (option_map (name_at f.names) at))

module _ (f : NamedTrees) (once : StandOnce f) (only : StandAlone f) (host : ℕ) (node : host < length f.names) where
  pub goes-on : {k : ℕ} {at next : Option ℕ} → at ≡ Some k → ForSome at (IsChild f (name_at f.names host))
      → option_map (name_at f.names) next ≡ next_sibling f.trees (name_at f.names k) → ForSome next (λ j. j < length f.names)
      → GoesOn f (name_at f.names host) k at next
  goes-on {k} {at} {next} is children found nodes =
      let h = name_at f.names host in
      let child = children k is in
      let step = next_step f (Once-forest f once only) h (Has-forest f once host node) k child (Has-forest f once k child.node) next found nodes in
      record { left = step.0; child = step.1; less = length-next f (children_of f.trees h) next is step.0 }
