-- The siblings before a node and behind it, by the links.
use Rattle.dom_selectors.proofs.Cited.{◌≡◌, List, [], ◌∷◌, ◌++◌, Option, Some, None, refl, ap, sym, subst, ◌∙◌, append_assoc, inl, option_map_or, none-some}
use Rattle.dom_selectors.proofs.Cited.{NodeName, name_eq, first_of, last_of, items_before, items_after, Trees, children_of, siblings, parent_of}
use Rattle.dom_selectors.proofs.Cited.{previous_sibling, next_sibling, In, In-right, Single, Single-apart, split_at, before-split, after-split, first_split}
use Rattle.dom_selectors.proofs.Cited.{last_split, no_first, no_last, Has, Once, parent-of_child, child-of_parent, children-single}

-- the siblings before a node
abbrev pub before_list : Trees → NodeName → List NodeName
before_list ts x = items_before name_eq x (siblings ts x)

-- the siblings behind a node
abbrev pub after_list : Trees → NodeName → List NodeName
after_list ts x = items_after name_eq x (siblings ts x)

-- the siblings up to a node; none where there is no node
abbrev pub up_to : Trees → Option NodeName → List NodeName
up_to ts None = []
up_to ts (Some x) = before_list ts x ++ x ∷ []

-- the siblings from a node on; none where there is no node
abbrev pub from : Trees → Option NodeName → List NodeName
from ts None = []
from ts (Some x) = x ∷ after_list ts x

-- how the children of a node's parent split at it
record Splits (ts : Trees) (x p : NodeName) : Type 0 where
  all : siblings ts x ≡ children_of ts p
  parts : children_of ts p ≡ before_list ts x ++ x ∷ after_list ts x
  single : Single (children_of ts p)
  its : (s : NodeName) → In s (children_of ts p) → siblings ts s ≡ children_of ts p

-- the siblings of a child
siblings_are : (ts : Trees) (x p : NodeName) → parent_of ts x ≡ Some p → siblings ts x ≡ children_of ts p
siblings_are ts x p up = ap (λ o. option_map_or (children_of ts) o (x ∷ [])) up

splits : (ts : Trees) (x p : NodeName) → Once ts → Has ts x → parent_of ts x ≡ Some p → Splits ts x p
splits ts x p once h up =
    let child = child-of_parent ts x p once h up in
    let same = siblings_are ts x p up in
    record {
      all = same;
      parts = sym same ∙ split_at x (siblings ts x) (subst (In x) (sym same) child.1);
      single = children-single ts p once child.0;
      its = λ s i. siblings_are ts s p (parent-of_child ts p s once child.0 i).0;
    }

-- the siblings of a root are itself alone
root_before : (ts : Trees) (x : NodeName) → parent_of ts x ≡ None → (before_list ts x ≡ []) × (after_list ts x ≡ [])
root_before ts x up =
    let alone : siblings ts x ≡ x ∷ [] = ap (λ o. option_map_or (children_of ts) o (x ∷ [])) up in (
      ap (items_before name_eq x) alone ∙ before-split x [] [] (λ i. i),
      ap (items_after name_eq x) alone ∙ after-split x [] [] (λ i. i),
    )

-- a sibling before a node: the siblings before it, its parent, and that it stands in the trees
pub record IsBefore (ts : Trees) (s x : NodeName) (front : List NodeName) : Type 0 where
  pub before : before_list ts s ≡ front
  pub parent : parent_of ts s ≡ parent_of ts x
  pub stands : Has ts s

module _ (ts : Trees) (x : NodeName) (once : Once ts) (h : Has ts x) where
  -- where the siblings before a node split
  pub before-at : (s : NodeName) (front back : List NodeName) → before_list ts x ≡ front ++ s ∷ back → IsBefore ts s x front
  before-at s front back split = by (parent_of ts x) refl
    where
      by : (o : Option NodeName) → parent_of ts x ≡ o → IsBefore ts s x front
      by None up = absurd (subst (In s) (sym split ∙ (root_before ts x up).0) (In-right s front (s ∷ back) (inl refl)))
      by (Some p) up =
          let at = splits ts x p once h up in
          let whole : children_of ts p ≡ front ++ s ∷ (back ++ x ∷ after_list ts x) =
          at.parts ∙ (ap (λ xs. xs ++ x ∷ after_list ts x) split ∙ append_assoc front (s ∷ back) (x ∷ after_list ts x)) in
          let among : In s (children_of ts p) = subst (In s) (sym whole) (In-right s front (s ∷ (back ++ x ∷ after_list ts x)) (inl refl)) in
          let apart : In s front → ⊥ = λ i. Single-apart s front (s ∷ (back ++ x ∷ after_list ts x)) (subst Single whole at.single) i (inl refl) in
          let its = parent-of_child ts p s once (child-of_parent ts x p once h up).0 among in
          record {
            before = ap (items_before name_eq s) (at.its s among ∙ whole) ∙ before-split s front (back ++ x ∷ after_list ts x) apart;
            parent = its.0 ∙ sym up;
            stands = its.1;
          }

  -- the siblings before a node are those up to the sibling just before it
  pub before-previous : before_list ts x ≡ up_to ts (previous_sibling ts x)
  before-previous = by (last_of (before_list ts x)) refl
    where
      by : (o : Option NodeName) → last_of (before_list ts x) ≡ o → before_list ts x ≡ up_to ts (last_of (before_list ts x))
      by None e = no_last (before_list ts x) e ∙ ap (up_to ts) (sym e)
      by (Some s) e =
          let front = last_split (before_list ts x) s e in
          front.1 ∙ (ap (λ xs. xs ++ s ∷ []) (sym (before-at s front.0 [] front.1).before) ∙ ap (up_to ts) (sym e))

-- the siblings behind a node are those from the sibling just behind it on
pub after-next : (ts : Trees) (x : NodeName) → Once ts → Has ts x → after_list ts x ≡ from ts (next_sibling ts x)
after-next ts x once h = by (first_of (after_list ts x)) refl
  where
    child : (s p : NodeName) → first_of (after_list ts x) ≡ Some s → parent_of ts x ≡ Some p → after_list ts x ≡ s ∷ after_list ts s
    child s p e up =
        let at = splits ts x p once h up in
        let back = first_split (after_list ts x) s e in
        let front = before_list ts x ++ x ∷ [] in
        let whole : children_of ts p ≡ front ++ s ∷ back.0 =
        at.parts ∙ (ap (λ xs. before_list ts x ++ x ∷ xs) back.1 ∙ sym (append_assoc (before_list ts x) (x ∷ []) (s ∷ back.0))) in
        let among : In s (children_of ts p) = subst (In s) (sym whole) (In-right s front (s ∷ back.0) (inl refl)) in
        let apart : In s front → ⊥ = λ i. Single-apart s front (s ∷ back.0) (subst Single whole at.single) i (inl refl) in
        let mine : after_list ts s ≡ back.0 = ap (items_after name_eq s) (at.its s among ∙ whole) ∙ after-split s front back.0 apart in
        back.1 ∙ ap (λ xs. s ∷ xs) (sym mine)

    has_parent : (s : NodeName) → first_of (after_list ts x) ≡ Some s → (o : Option NodeName) → parent_of ts x ≡ o → after_list ts x ≡ s ∷ after_list ts s
    has_parent s e None up = absurd (none-some s (sym (ap first_of (root_before ts x up).1) ∙ e))
    has_parent s e (Some p) up = child s p e up

    by : (o : Option NodeName) → first_of (after_list ts x) ≡ o → after_list ts x ≡ from ts (first_of (after_list ts x))
    by None e = no_first (after_list ts x) e ∙ ap (from ts) (sym e)
    by (Some s) e = has_parent s e (parent_of ts x) refl ∙ ap (from ts) (sym e)
