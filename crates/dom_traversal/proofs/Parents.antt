-- The search for the nearest accepted node above.
use Rattle.dom_traversal.proofs.Cited.{◌≡◌, ◌⊎◌, inl, inr, Bool, true, false, ◌&&◌, List, [], ◌∷◌, Option, Some, None, refl, sym, ap, ◌∙◌, find, if◌then◌else◌}
use Rattle.dom_traversal.proofs.Cited.{and_left, and_right, and_from, above-within, accepts, ancestors, In, inclusive_ancestors, is_in-not}
use Rattle.dom_traversal.proofs.Cited.{is_inclusive_ancestor, IsWithin, name_eq, name_eq-from, name_eq-other, NodeName, parent_of, proper-parent, same_or_not}
use Rattle.dom_traversal.proofs.Cited.{stands_in, Trees, Walker, within-parent, within-top}
use Rattle.dom_traversal.proofs.Opening.{not_around}

-- a node that is accepted and stands in the tree of the root
abbrev pub is_parent : Trees → Walker → NodeName → Bool
is_parent ts w y = accepts ts w.filter y && is_inclusive_ancestor ts w.root y

-- the answer of the search from x
abbrev pub above_from : Trees → Walker → NodeName → Option NodeName
above_from ts w x = if name_eq x w.root then None else find (is_parent ts w) (ancestors ts x)

-- where no member passes, none is found
find-none : (p : NodeName → Bool) (xs : List NodeName) → ((a : NodeName) → In a xs → p a ≡ false) → find p xs ≡ None
find-none p [] h = refl
find-none p (x ∷ xs) h = rw (h x (inl refl)) (find-none p xs (λ a i. h a (inr i)))

-- above the root none is found
pub above-root_none : (ts : Trees) (w : Walker) → IsWithin ts w.root w.root → find (is_parent ts w) (ancestors ts w.root) ≡ None
above-root_none ts w at =
    find-none (is_parent ts w) (ancestors ts w.root)
    (λ a i. and_right (accepts ts w.filter a) _ (is_in-not w.root (inclusive_ancestors ts a) (not_around ts w.root at.once at.top_stands a i)))

module _ (ts : Trees) (w : Walker) (x p : NodeName) (at : IsWithin ts w.root x) (other : x ≡ w.root → ⊥) (up : parent_of ts x ≡ Some p) where
  -- above x stands first its parent
  path_above : ancestors ts x ≡ p ∷ ancestors ts p
  path_above = (proper-parent ts x p at.once (stands_in ts w.root x at) up).0

  -- which stands in the tree of the root
  inside : is_inclusive_ancestor ts w.root p ≡ true
  inside = above-within ts w.root p (within-parent ts w.root x p at other up)

  -- an accepted parent is found
  pub above-hit : accepts ts w.filter p ≡ true → above_from ts w x ≡ Some p
  above-hit e = rw (name_eq-other x w.root other) (ap (find (is_parent ts w)) path_above ∙ first (and_from (accepts ts w.filter p) _ e inside))
    where
      first : is_parent ts w p ≡ true → find (is_parent ts w) (p ∷ ancestors ts p) ≡ Some p
      first yes_p = rw yes_p refl

  -- from another one the search goes on
  pub above-miss : accepts ts w.filter p ≡ false → above_from ts w x ≡ above_from ts w p
  above-miss e = rw (name_eq-other x w.root other)
      (ap (find (is_parent ts w)) path_above ∙ (later (and_left (accepts ts w.filter p) _ e) ∙ sym (from_parent (same_or_not p w.root))))
    where
      later : is_parent ts w p ≡ false → find (is_parent ts w) (p ∷ ancestors ts p) ≡ find (is_parent ts w) (ancestors ts p)
      later no_p = rw no_p refl

      at_root : name_eq p w.root ≡ true → above_from ts w p ≡ None
      at_root yes_p = rw yes_p refl

      not_root : name_eq p w.root ≡ false → above_from ts w p ≡ find (is_parent ts w) (ancestors ts p)
      not_root no_p = rw no_p refl

      from_parent : (p ≡ w.root) ⊎ (p ≡ w.root → ⊥) → above_from ts w p ≡ find (is_parent ts w) (ancestors ts p)
      from_parent (inl same) = at_root (name_eq-from p w.root same) ∙
          sym (ap (λ z. find (is_parent ts w) (ancestors ts z)) same ∙ above-root_none ts w (within-top ts w.root x at))
      from_parent (inr apart) = not_root (name_eq-other p w.root apart)

-- from the root none is found
pub above-end : (ts : Trees) (w : Walker) (x : NodeName) → x ≡ w.root → above_from ts w x ≡ None
above-end ts w x same = by (name_eq-from x w.root same)
  where
    by : name_eq x w.root ≡ true → above_from ts w x ≡ None
    by yes_x = rw yes_x refl
