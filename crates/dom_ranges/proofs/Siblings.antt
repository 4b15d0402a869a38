-- The index of a node by the sibling before it.
use Rattle.dom_ranges.proofs.Cited.{◌≡◌, inl, ℕ, ◌+◌, ◌<◌, true, [], ◌∷◌, ◌++◌, length, Option, Some, None, refl, sym, ap, subst, ◌∙◌, arith, append_assoc}
use Rattle.dom_ranges.proofs.Cited.{length-append, option_map, option_map_or, none-some, NodeName, name_eq, last_of, items_before, items_after, name_eq-same}
use Rattle.dom_ranges.proofs.Cited.{Trees, children_of, parent_of, siblings, previous_sibling, index_of, NamedTrees, name_at, In, In-right, Single}
use Rattle.dom_ranges.proofs.Cited.{Single-apart, no_last, last_split, split_at, before-split, Has, Once, parent-of_child, child-of_parent, children-single}
use Rattle.dom_ranges.proofs.Cited.{StandOnce, StandAlone, Once-forest, Has-forest}

module _ (ts : Trees) (once : Once ts) where
  -- without a sibling before it its index is 0
  pub index-first : (x : NodeName) → previous_sibling ts x ≡ None → index_of ts x ≡ 0
  index-first x e = ap (length {A = NodeName}) (no_last (items_before name_eq x (siblings ts x)) e)

  -- the siblings of a child
  siblings_are : (x p : NodeName) → parent_of ts x ≡ Some p → siblings ts x ≡ children_of ts p
  siblings_are x p e = ap (λ (o : Option NodeName). option_map_or (children_of ts) o (x ∷ [])) e

  -- with one it is one more than that one's
  pub index-behind : (x s : NodeName) → Has ts x → previous_sibling ts x ≡ Some s → index_of ts x ≡ index_of ts s + 1
  index-behind x s h e = by (parent_of ts x) refl
    where
      by : (o : Option NodeName) → parent_of ts x ≡ o → index_of ts x ≡ index_of ts s + 1
      by None up =
          let alone : siblings ts x ≡ x ∷ [] = ap (λ (o : Option NodeName). option_map_or (children_of ts) o (x ∷ [])) up in
          absurd (none-some s (sym (ap (λ ys. last_of (items_before name_eq x ys)) alone ∙ nothing (name_eq-same x)) ∙ e))
        where
          nothing : name_eq x x ≡ true → last_of (items_before name_eq x (x ∷ [])) ≡ None
          nothing same = rw same refl
      by (Some p) up =
          let at = child-of_parent ts x p once h up in
          let kids = children_of ts p in
          let front = last_split (items_before name_eq x kids) s (ap (λ ys. last_of (items_before name_eq x ys)) (sym (siblings_are x p up)) ∙ e) in
          let split : kids ≡ front.0 ++ s ∷ (x ∷ items_after name_eq x kids) =
          split_at x kids at.1 ∙ (ap (λ ys. ys ++ x ∷ items_after name_eq x kids) front.1 ∙ append_assoc front.0 (s ∷ []) (x ∷ items_after name_eq x kids)) in
          let among : In s kids = subst (In s) (sym split) (In-right s front.0 (s ∷ (x ∷ items_after name_eq x kids)) (inl refl)) in
          let single : Single (front.0 ++ s ∷ (x ∷ items_after name_eq x kids)) = subst Single split (children-single ts p once at.0) in
          let its : index_of ts s ≡ length front.0 =
          ap (λ ys. length (items_before name_eq s ys)) (siblings_are s p (parent-of_child ts p s once at.0 among).0 ∙ split)
          ∙ ap (length {A = NodeName}) (before-split s front.0 (x ∷ items_after name_eq x kids)
          (λ i. Single-apart s front.0 (s ∷ (x ∷ items_after name_eq x kids)) single i (inl refl))) in
          let own : index_of ts x ≡ length (front.0 ++ s ∷ []) =
          ap (λ ys. length (items_before name_eq x ys)) (siblings_are x p up) ∙ ap (length {A = NodeName}) front.1 in
          omega (arith, its, own, length-append front.0 (s ∷ []))

  -- there is one child more than the last one's index
  pub length-last : (p x : NodeName) → Has ts p → parent_of ts x ≡ Some p → last_of (children_of ts p) ≡ Some x →
      length (children_of ts p) ≡ index_of ts x + 1
  length-last p x at up e =
      let front = last_split (children_of ts p) x e in
      let single : Single (front.0 ++ x ∷ []) = subst Single front.1 (children-single ts p once at) in
      let its : index_of ts x ≡ length front.0 =
      ap (λ ys. length (items_before name_eq x ys)) (siblings_are x p up ∙ front.1)
      ∙ ap (length {A = NodeName}) (before-split x front.0 [] (λ i. Single-apart x front.0 (x ∷ []) single i (inl refl))) in
      omega (arith, its, ap (length {A = NodeName}) front.1, length-append front.0 (x ∷ []))

-- a walk from sibling to sibling, by keys
module _ (f : NamedTrees) (once : StandOnce f) (only : StandAlone f) (k : ℕ) (node : k < length f.names) (before : Option ℕ)
    (is : option_map (name_at f.names) before ≡ previous_sibling f.trees (name_at f.names k)) where
  pub index-none : before ≡ None → index_of f.trees (name_at f.names k) ≡ 0
  index-none e = index-first f.trees (Once-forest f once only) (name_at f.names k) (sym is ∙ ap (option_map (name_at f.names)) e)

  pub index-some : (j : ℕ) → before ≡ Some j → index_of f.trees (name_at f.names k) ≡ index_of f.trees (name_at f.names j) + 1
  index-some j e =
      index-behind f.trees (Once-forest f once only) (name_at f.names k) (name_at f.names j) (Has-forest f once k node)
      (sym is ∙ ap (option_map (name_at f.names)) e)
