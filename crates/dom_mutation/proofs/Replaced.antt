-- Replacements: the reference is another child, which stays one when the child that gives way is taken out.
use Rattle.dom_mutation.proofs.Cited.{◌≡◌, ℕ, ◌<◌, inl, inr, false, List, [], ◌∷◌, ◌++◌, length, Option, Some, None, option_map, refl, sym, ap, subst, ◌∙◌}
use Rattle.dom_mutation.proofs.Cited.{ForSome, cases_Bool, cond-true, cond-false, NodeName, name_eq, first_of, items_after, Trees, none, tree, parent_of}
use Rattle.dom_mutation.proofs.Cited.{children_of, next_sibling, inclusive_ancestors, is_inclusive_ancestor, part_of, suppressed, remove_plan, reference_child}
use Rattle.dom_mutation.proofs.Cited.{name_eq-true, name_at, DocState, planned, name_in, owner_in, trees_in, IsChild, IsAlone, Lacks, lacks_both, lacks_to}
use Rattle.dom_mutation.proofs.Cited.{swapped, path_here, path_after, path_below, path_lacks, Once, once_parts, NoTwice, parent_path, children_once, next_child}
use Rattle.dom_mutation.proofs.Cited.{next_walked, first_lacks}
use Rattle.dom_mutation.proofs.Placed.{Counted, once_in, removal_keeps}
use Rattle.dom_mutation.proofs.Turns.{Stays}

-- ---- a child is not above its parent

twice_push : (xs : List NodeName) (y : NodeName) → NoTwice xs → Lacks y xs → NoTwice (xs ++ y ∷ [])
twice_push [] y once lacks = (tt, tt)
twice_push (x ∷ xs) y once lacks = (lacks_both x xs (y ∷ []) once.0 (swapped y x lacks.0, tt), twice_push xs y once.1 lacks.1)

-- no name stands twice among a node's inclusive ancestors
pub path_once : (ts : Trees) → Once ts → (x : NodeName) → NoTwice (inclusive_ancestors ts x)
path_once none once x = tt
path_once (tree n c r) once x =
    let parts = once_parts n c r once in
    elim (cases_Bool (name_eq n.name x)) [
      | inl h ↦ subst NoTwice (sym (path_here n c r x h)) (tt, tt)
      | inr h ↦ by_path (inclusive_ancestors c x) refl h (path_once c parts.below x) (path_once r parts.after x) (path_lacks c x n.name parts.root_below)
    ]
  where
    by_path : (path : List NodeName) → inclusive_ancestors c x ≡ path → name_eq n.name x ≡ false → NoTwice (inclusive_ancestors c x) →
        NoTwice (inclusive_ancestors r x) → Lacks n.name (inclusive_ancestors c x)
        → NoTwice (inclusive_ancestors (tree n c r) x)
    by_path [] is h below rest lacks = subst NoTwice (sym (path_after n c r x h is)) rest
    by_path (a ∷ path) is h below rest lacks =
        subst NoTwice (sym (path_below n c r x a path h is)) (twice_push (a ∷ path) n.name (subst NoTwice is below) (subst (Lacks n.name) is lacks))

-- so a child is not above its parent
pub child_below : (ts : Trees) → Once ts → (x p : NodeName) → parent_of ts x ≡ Some p → Lacks x (inclusive_ancestors ts p)
child_below ts once x p up = (subst NoTwice (parent_path ts once x p up) (path_once ts once x)).0

-- ---- the reference

-- what a list lacks, what stands behind a name lacks
lacks_after : (x z : NodeName) (xs : List NodeName) → Lacks x xs → Lacks x (items_after name_eq z xs)
lacks_after x z [] h = tt
lacks_after x z (y ∷ ys) h = elim (cases_Bool (name_eq z y)) [
  | inl e ↦ rw e h.1
  | inr e ↦ rw e (lacks_after x z ys h.1)
]

-- what comes after the next one is another one
after_next : (x : NodeName) {z y : NodeName} (xs : List NodeName) → NoTwice xs → first_of (items_after name_eq x xs) ≡ Some z →
    first_of (items_after name_eq z xs) ≡ Some y → name_eq x y ≡ false
after_next x [] once e f = cc
after_next x {z} {y} (w ∷ ws) once e f = elim (cases_Bool (name_eq x w)) [
  | inl h ↦
      let found : first_of ws ≡ Some z = rw h at e in
      let off = swapped w z (first_lacks w ws once.0 z found) in
      let then : first_of (items_after name_eq z ws) ≡ Some y = rw off at f in
      let same = name_eq-true x w h in
      first_lacks x (items_after name_eq z ws) (lacks_after x z ws (subst (λ v. Lacks v ws) (sym same) once.0)) y then
  | inr h ↦
      let found : first_of (items_after name_eq x ws) ≡ Some z = rw h at e in
      let off = swapped w z (first_lacks w (items_after name_eq x ws) (lacks_after w x ws once.0) z found) in
      let then : first_of (items_after name_eq z ws) ≡ Some y = rw off at f in
      after_next x ws once.1 found then
]

-- the reference of a replacement is not the child that gives way
pub reference_apart : (ts : Trees) → Once ts → (x : NodeName) {p : NodeName} (node : NodeName) {y : NodeName} → parent_of ts x ≡ Some p →
    reference_child ts node (next_sibling ts x) ≡ Some y → name_eq x y ≡ false
reference_apart ts once x {p} node {y} up e = by_next (next_sibling ts x) refl e
  where
    by_next : (o : Option NodeName) → next_sibling ts x ≡ o → reference_child ts node o ≡ Some y → name_eq x y ≡ false
    by_next None is e = cc
    by_next (Some z) is e = elim (cases_Bool (name_eq z node)) [
      | inl h ↦
          let found : next_sibling ts z ≡ Some y =
          ap (next_sibling ts) (name_eq-true z node h) ∙ sym (cond-true (name_eq z node) (next_sibling ts node) (Some z) h) ∙ e in
          let both = next_child ts once x p z up is in
          after_next x (children_of ts p) (children_once ts p once) (sym (next_walked ts once x p up) ∙ is) (sym (next_walked ts once z p both.0) ∙ found)
      | inr h ↦
          let same : Some z ≡ Some y = sym (cond-false (name_eq z node) (next_sibling ts node) (Some z) h) ∙ e in
          let at : z ≡ y = cc in
          subst (λ v. name_eq x v ≡ false) at (next_child ts once x p z up is).1
    ]

-- the next sibling of a child is a child
pub next_is_near : {d : DocState} → Counted d → {parent child : ℕ} (next : Option ℕ) → IsChild d parent child
    → option_map (name_in d) next ≡ next_sibling (trees_in d child) (name_in d child) → ForSome next (λ k. k < length d.names) →
    ForSome next (λ k. owner_in d k ≡ owner_in d child)
    → ForSome next (IsChild d parent)
next_is_near {d} counted {parent} {child} next child_is found near own b is =
    (Rattle.dom_mutation.proofs.Placed.next_is_child d counted parent child child next child_is refl found near own b is).0

-- the state e after the child is taken out
module _ (d e : DocState) (counted : Counted d) (alone : (k : ℕ) → k < length d.names → IsAlone d.world (owner_in d k)) (parent node child : ℕ)
    (next reference : Option ℕ) (child_is : IsChild d parent child)
    (found : option_map (name_in d) next ≡ next_sibling (trees_in d child) (name_in d child))
    (referred : option_map (name_in d) reference ≡ reference_child (trees_in d parent) (name_in d node) (option_map (name_in d) next))
    (removed : e ≡ planned (owner_in d child) (remove_plan suppressed (name_in d child)) d) where
  off : (b : ℕ) → reference ≡ Some b → name_eq (name_in d child) (name_in d b) ≡ false
  off b is =
      reference_apart (trees_in d parent) (once_in d counted (owner_in d parent)) (name_in d child) (name_in d node)
      child_is.child
      (ap (reference_child (trees_in d parent) (name_in d node))
      (ap (λ o. next_sibling (part_of d.world o).trees (name_in d child)) (sym child_is.owner) ∙ sym found) ∙ sym referred ∙
      ap (option_map (name_in d)) is)

  same_names : e.names ≡ d.names
  same_names = ap (λ (s : DocState). s.names) removed

  below : Lacks (name_in d child) (inclusive_ancestors (trees_in d parent) (name_in d parent))
  below = child_below (trees_in d parent) (once_in d counted (owner_in d parent)) (name_in d child) (name_in d parent) child_is.child

  kept : (y : NodeName) → Lacks (name_in d child) (inclusive_ancestors (trees_in d parent) y) →
      inclusive_ancestors (trees_in e parent) y ≡ inclusive_ancestors (trees_in d parent) y
  kept y lacks =
      let own : trees_in d child ≡ trees_in d parent = ap (λ o. (part_of d.world o).trees) child_is.owner in
      let owned : trees_in e parent ≡ trees_in e child =
      ap (λ (ns : List NodeName). (part_of e.world (name_at ns parent).owner).trees) same_names ∙
      ap (λ o. (part_of e.world o).trees) (sym child_is.owner) ∙ ap (λ (ns : List NodeName). (part_of e.world (name_at ns child).owner).trees)
      (sym same_names) in
      ap (λ t. inclusive_ancestors t y) owned
      ∙ removal_keeps d counted child (alone child child_is.node) suppressed removed y
      (ap (λ t. is_inclusive_ancestor t (name_in d child) y) own ∙ lacks_to (name_in d child) (inclusive_ancestors (trees_in d parent) y) lacks)
      ∙ ap (λ t. inclusive_ancestors t y) own

  -- what was asked of the parent and the reference still holds
  pub stays_removed : ForSome reference (IsChild d parent) → Stays parent reference d e
  stays_removed children = record {
    names = same_names;
    parent_path = kept (name_in d parent) below;
    before_path = λ b is.
        kept (name_in d b) (subst (Lacks (name_in d child))
        (sym (parent_path (trees_in d parent) (once_in d counted (owner_in d parent)) (name_in d b) (name_in d parent) (children b is).child))
        (off b is, below));
  }

-- ---- the whole
