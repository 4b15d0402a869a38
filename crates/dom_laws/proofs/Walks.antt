-- Walks along a list by what comes behind an item, as over the tree of a node in tree order.
use Rattle.dom_base.proofs.Std.{◌≡◌, ℕ, suc, ◌<◌, ◌≤◌, inl, inr, true, false, List, [], ◌∷◌, ◌++◌, length, Option, Some, None, refl, sym, ap, subst, ◌∙◌, arith}
use Rattle.dom_base.proofs.Std.{true≢false, cases_Bool, cond-true, cond-false}
use Rattle.dom_model.proofs.Model.{NodeName, name_eq, is_in, first_of, items_before, items_after, Trees, none, tree, nodes, names_of, subtree, or_else}
use Rattle.dom_model.proofs.Model.{inclusive_ancestors, is_inclusive_ancestor, times_in, inclusive_descendants, name_eq-same, name_eq-true, name_eq-turned}
use Rattle.dom_laws.proofs.Counts.{times_in-none, times_in-tree, one-false, Once, none_or_some}
use Rattle.dom_laws.proofs.Paths.{path_gone, Lacks, lacks_from, lacks_to, subtree_gone}
use Rattle.dom_laws.proofs.Relatives.{NoTwice, names_lack}
use Rattle.dom_laws.proofs.Moves.{path_below_none}

-- ---- a walk along a list, by what comes behind an item

-- the items up to where a walk stands, and how many are left
abbrev pub walked : List NodeName → Option NodeName → List NodeName
walked xs None = xs
walked xs (Some y) = items_before name_eq y xs

abbrev pub left : List NodeName → Option NodeName → ℕ
left xs None = 0
left xs (Some y) = suc (length (items_after name_eq y xs))

-- where a walk stands is one of the items
abbrev pub StandsIn : List NodeName → Option NodeName → Type 0
StandsIn xs None = Unit {0}
StandsIn xs (Some y) = is_in name_eq y xs ≡ true

pub record Walks (xs : List NodeName) (y : NodeName) (next : Option NodeName) : Type 0 where
  pub stands : StandsIn xs next
  pub more : walked xs next ≡ items_before name_eq y xs ++ y ∷ []
  pub fewer : left xs next < left xs (Some y)

-- an item that a list has is not one that it lacks
apart_in : (x y : NodeName) (xs : List NodeName) → Lacks x xs → is_in name_eq y xs ≡ true → name_eq y x ≡ false
apart_in x y xs lacks h = elim (cases_Bool (name_eq y x)) [
  | inl e ↦ let same = name_eq-true y x e in absurd (true≢false (sym h ∙ lacks_to y xs (subst (λ z. Lacks z xs) (sym same) lacks)))
  | inr e ↦ e
]

walks_first : (x y : NodeName) (xs : List NodeName) → name_eq y x ≡ true → NoTwice (x ∷ xs) → Walks (x ∷ xs) y (first_of xs)
walks_first x y [] e once = record { stands = tt; more = rw e (ap (λ z. z ∷ []) (sym (name_eq-true y x e))); fewer = rw e (omega arith) }
walks_first x y (z ∷ xs) e once =
    let apart : name_eq z x ≡ false = name_eq-turned z x ∙ once.0.0 in
    let same : x ≡ y = sym (name_eq-true y x e) in
    let is = name_eq-same z in
    record { stands = rw (apart, is) refl; more = rw (apart, is, e) (ap (λ w. w ∷ []) same); fewer = rw (apart, is, e) (omega arith) }

walks_behind : (x : NodeName) {y : NodeName} {xs : List NodeName} (o : Option NodeName) → name_eq y x ≡ false → Lacks x xs → Walks xs y o → Walks (x ∷ xs) y o
walks_behind x None e lacks w = record { stands = tt; more = rw e (ap (λ zs. x ∷ zs) w.more); fewer = rw e (w.fewer) }
walks_behind x {xs} (Some z) e lacks w =
    let apart = apart_in x z xs lacks w.stands in
    record { stands = rw apart (w.stands); more = rw (apart, e) (ap (λ zs. x ∷ zs) w.more); fewer = rw (apart, e) (w.fewer) }

pub walks : (xs : List NodeName) → NoTwice xs → (y : NodeName) → is_in name_eq y xs ≡ true → Walks xs y (first_of (items_after name_eq y xs))
walks [] once y h = cc
walks (x ∷ xs) once y h = elim (cases_Bool (name_eq y x)) [
  | inl e ↦ subst (λ o. Walks (x ∷ xs) y o) (ap first_of (sym (cond-true (name_eq y x) xs (items_after name_eq y xs) e))) (walks_first x y xs e once)
  | inr e ↦ subst (λ o. Walks (x ∷ xs) y o) (ap first_of (sym (cond-false (name_eq y x) xs (items_after name_eq y xs) e)))
      (walks_behind x (first_of (items_after name_eq y xs)) e once.0 (walks xs once.1 y (rw e at h)))
]

-- ---- the tree of a node as a list

-- Of trees in which each name stands once.
module _ (ts : Trees) (once : Once ts) where
  -- what stands in a tree has the tree's root above it
  pub above_inside : (x y : NodeName) → is_in name_eq y (inclusive_descendants ts x) ≡ true → is_inclusive_ancestor ts x y ≡ true
  above_inside x y h = elim (cases_Bool (is_inclusive_ancestor ts x y)) [
    | inl e ↦ e
    | inr e ↦
        let gone = path_gone (subtree ts x) y (path_below_none ts once x y (lacks_from x (inclusive_ancestors ts y) e)) in
        absurd (true≢false (sym h ∙ lacks_to y (inclusive_descendants ts x) (names_lack (subtree ts x) y gone)))
  ]

-- a node that is there is the first in its tree
pub first_inside : (ts : Trees) (x : NodeName) → 1 ≤ times_in ts x → (xs : List NodeName) × (inclusive_descendants ts x ≡ x ∷ xs)
first_inside none x there = let none = times_in-none x in absurd (omega arith)
first_inside (tree n c r) x there = elim (cases_Bool (name_eq n.name x)) [
  | inl h ↦ (
    names_of (nodes c ++ []),
    ap (λ t. names_of (nodes t))
        (cond-true (name_eq n.name x) (tree n c none) (or_else (subtree c x) (subtree r x)) h) ∙
        ap (λ y. y ∷ names_of (nodes c ++ [])) (name_eq-true n.name x h),
  )
  | inr h ↦
      let is = ap (λ t. names_of (nodes t)) (cond-false (name_eq n.name x) (tree n c none) (or_else (subtree c x) (subtree r x)) h) in
      elim (none_or_some (times_in c x)) [
        | inl e ↦
            let m = times_in-tree n c r x in let b = one-false _ h in
            let more = first_inside r x (omega arith) in
            (more.0, is ∙ ap (λ t. names_of (nodes (or_else t (subtree r x)))) (subtree_gone c x e) ∙ more.1)
        | inr e ↦ let more = first_inside c x e in (more.0, is ∙ here (subtree c x) more.0 more.1)
      ]
]
  where
    here : (t : Trees) (xs : List NodeName) → names_of (nodes t) ≡ x ∷ xs → names_of (nodes (or_else t (subtree r x))) ≡ x ∷ xs
    here none xs e = cc
    here (tree m d s) xs e = e
