-- What stands above a node stays above it when trees are placed, added and given other contents.
use Rattle.dom_base.proofs.Std.{◌≡◌, inl, inr, true, false, cond, List, [], ◌∷◌, Option, None, refl, sym, ap, subst, ◌∙◌, cases_Bool, both_ways}
use Rattle.dom_model.proofs.Model.{NodeName, name_eq, is_in, Trees, none, tree, Node, subtree, on_top, inclusive_ancestors, is_inclusive_ancestor}
use Rattle.dom_model.proofs.Model.{inclusive_descendants, parent_of, without, put_before, put_below, placed, with_node, is_given, map_nodes, change_node}
use Rattle.dom_model.proofs.Model.{change_subtree, name_eq-other}
use Rattle.dom_laws.proofs.Lists.{In, In-from, is_in-from, In-left, same_or_not, name_eq-from}
use Rattle.dom_laws.proofs.Shapes.{Has, IsTreeOf, has_or_not, above-absent, above-present, Has-above, above-root, subtree-present, subtree-within}
use Rattle.dom_laws.proofs.Shapes.{once_apart, above-from_below, below-from_above}
use Rattle.dom_laws.proofs.Counts.{Once, once_subtree}
use Rattle.dom_laws.proofs.Removal.{without-apart, above-without, above-put_others, Once-without, above-in_first}
use Rattle.dom_laws.proofs.Chains.{above-chain}
use Rattle.dom_laws.proofs.Paths.{lacks_from}
use Rattle.dom_laws.proofs.Moves.{path_placed}
use Rattle.dom_laws.proofs.Relatives.{path_mapped, same_if}

-- whoever stands above a node still does
abbrev pub KeepsAbove : Trees → Trees → Type 0
KeepsAbove ts us = (a y : NodeName) → is_inclusive_ancestor ts a y ≡ true → is_inclusive_ancestor us a y ≡ true

-- ---- a node with ancestors stands in the trees

Has-from_above : (ts : Trees) (a y : NodeName) → In a (inclusive_ancestors ts y) → Has ts y
Has-from_above ts a y i = elim (has_or_not ts y) [ inl h ↦ h | inr off ↦ absurd (subst (In a) (above-absent ts y off) i) ]

-- ---- contents

pub keeps_mapped : (f : Node → Node) → ((n : Node) → (f n).name ≡ n.name) → (ts : Trees) → KeepsAbove ts (map_nodes f ts)
keeps_mapped f same ts a y h = ap (is_in name_eq a) (path_mapped f same ts y) ∙ h

pub keeps_changed : (f : Node → Node) → ((n : Node) → (f n).name ≡ n.name) → (x : NodeName) (ts : Trees) → KeepsAbove ts (change_node f x ts)
keeps_changed f same x ts = keeps_mapped (λ n. cond (name_eq n.name x) (f n) n) (λ n. same_if (name_eq n.name x) f same n) ts

pub keeps_changed_below : (f : Node → Node) → ((n : Node) → (f n).name ≡ n.name) → (x : NodeName) (ts : Trees) → KeepsAbove ts (change_subtree f x ts)
keeps_changed_below f same x ts = keeps_mapped (λ n. cond (is_in name_eq n.name (inclusive_descendants ts x)) (f n) n)
    (λ n. same_if (is_in name_eq n.name (inclusive_descendants ts x)) f same n) ts

-- ---- a new node

-- a node of another name
pub above_added : (n : Node) (ts : Trees) (a y : NodeName) → (n.name ≡ y → ⊥) → is_inclusive_ancestor ts a y ≡ true →
    is_inclusive_ancestor (with_node n ts) a y ≡ true
above_added n ts a y other h = ap (is_in name_eq a) (above-put_others n.name n none ts y off) ∙ h
  where
    off : Has (tree n none none) y → ⊥
    off (inl e) = other e
    off (inr (inl i)) = i
    off (inr (inr i)) = i

-- ---- a tree placed

-- put below a parent that is not there
put_below-absent : (parent : NodeName) (before : Option NodeName) (new ts : Trees) → (Has ts parent → ⊥) → put_below parent before new ts ≡ ts
put_below-absent parent before new none off = refl
put_below-absent parent before new (tree n c r) off =
    ap (λ b. tree n (cond b (put_before before new (put_below parent before new c)) (put_below parent before new c))
    (put_below parent before new r)) (name_eq-other n.name parent (λ e. off (inl e)))
    ∙ (ap (λ us. tree n us (put_below parent before new r)) (put_below-absent parent before new c (λ h. off (inr (inl h)))) ∙
    ap (tree n c) (put_below-absent parent before new r (λ h. off (inr (inr h)))))

-- the path of a node below a root
In-on_top : (a top : NodeName) (path others : List NodeName) → In a path → In a (on_top path top others)
In-on_top a top [] others h = absurd h
In-on_top a top (p ∷ path) others h = In-left a (p ∷ path) (top ∷ []) h

-- trees in which each name stands once, a parent among them, and y not
record Hosts (ts : Trees) (parent y : NodeName) : Type 0 where
  once : Once ts
  parent_there : Has ts parent
  gone : Has ts y → ⊥

-- A tree that is put among others, and a node y in it.
module _ (before : Option NodeName) (m : Node) (d : Trees) (y : NodeName) (h : Has (tree m d none) y) where
  -- a tree among others: above a node of its own
  above-put_before : (ts : Trees) → (Has ts y → ⊥) →
      inclusive_ancestors (put_before before (tree m d none) ts) y ≡ inclusive_ancestors (tree m d none) y
  above-put_before none off = refl
  above-put_before (tree n c r) off = elim (cases_Bool (is_given before n.name)) [
    | inl e ↦ rw e (above-in_first m d (tree n c r) y h)
    | inr e ↦ rw e (later (name_eq-other n.name y (λ same. off (inl same))) (above-absent c y (λ i. off (inr (inl i)))) ∙
        above-put_before r (λ i. off (inr (inr i))))
  ]
    where
      later : name_eq n.name y ≡ false → inclusive_ancestors c y ≡ [] →
          inclusive_ancestors (tree n c (put_before before (tree m d none) r)) y ≡ inclusive_ancestors (put_before before (tree m d none) r) y
      later no_n empty =
          ap (λ b. cond b (y ∷ []) (on_top (inclusive_ancestors c y) n.name (inclusive_ancestors (put_before before (tree m d none) r) y))) no_n
          ∙ ap (λ path. on_top path n.name (inclusive_ancestors (put_before before (tree m d none) r) y)) empty

  -- what is above a node of a tree is above it where that tree was put
  above-put_below : (parent : NodeName) (ts : Trees) (a : NodeName) → Hosts ts parent y →
      In a (inclusive_ancestors (tree m d none) y) → In a (inclusive_ancestors (put_below parent before (tree m d none) ts) y)
  above-put_below parent none a o i = absurd o.parent_there
  above-put_below parent (tree n c r) a o i = elim (same_or_not n.name parent) [
    | inl e ↦ here e
    | inr other ↦ rw (name_eq-other n.name parent other) (rw (name_eq-other n.name y (λ same. o.gone (inl same))) (elim o.parent_there [
      | inl e ↦ absurd (other e)
      | inr g ↦ elim g [
        | inl in_c ↦ In-on_top a n.name (inclusive_ancestors (put_below parent before (tree m d none) c) y) _
            (above-put_below parent c a (record { once = (once_apart n c r o.once).3; parent_there = in_c; gone = λ j. o.gone (inr (inl j)) }) i)
        | inr in_r ↦ beside (put_below-absent parent before (tree m d none) c (λ j. (once_apart n c r o.once).2 parent j in_r))
            (above-put_below parent r a (record { once = (once_apart n c r o.once).4; parent_there = in_r; gone = λ j. o.gone (inr (inr j)) }) i)
      ]
    ]))
  ]
    where
      here : n.name ≡ parent → In a (inclusive_ancestors (put_below parent before (tree m d none) (tree n c r)) y)
      here e =
          let same : put_below parent before (tree m d none) c ≡ c =
          put_below-absent parent before (tree m d none) c (λ j. (once_apart n c r o.once).0 (subst (Has c) (sym e) j)) in
          let own : inclusive_ancestors (put_before before (tree m d none) (put_below parent before (tree m d none) c)) y ≡ inclusive_ancestors
          (tree m d none) y =
          ap (λ us. inclusive_ancestors (put_before before (tree m d none) us) y) same ∙ above-put_before c (λ j. o.gone (inr (inl j))) in
          rw (name_eq-from n.name parent e)
          (rw (name_eq-other n.name y (λ same. o.gone (inl same)))
          (In-on_top a n.name (inclusive_ancestors (put_before before (tree m d none) (put_below parent before (tree m d none) c)) y) _
          (subst (In a) (sym own) i)))

      beside : put_below parent before (tree m d none) c ≡ c → In a (inclusive_ancestors (put_below parent before (tree m d none) r) y)
          → In a (on_top (inclusive_ancestors (put_below parent before (tree m d none) c) y) n.name
          (inclusive_ancestors (put_below parent before (tree m d none) r) y))
      beside same j = subst (λ path. In a (on_top path n.name (inclusive_ancestors (put_below parent before (tree m d none) r) y)))
          (sym (ap (λ us. inclusive_ancestors us y) same ∙ above-absent c y (λ k. o.gone (inr (inl k))))) j

module _ (ts : Trees) (once : Once ts) (x parent : NodeName) (before : Option NodeName) (at_x : Has ts x) (at_parent : Has ts parent)
    (unlinked : parent_of ts x ≡ None) (apart : is_inclusive_ancestor ts x parent ≡ false) where
  -- the parent is not in the tree that is placed
  parent_stays : Has (without x ts) parent
  parent_stays =
      let off : Has (subtree ts x) parent → ⊥ =
      λ h. both_ways _ apart (is_in-from x (inclusive_ancestors ts parent) (above-from_below ts x parent once at_x h)) in
      let w = above-present ts parent at_parent in
      Has-from_above (without x ts) parent parent
      (subst (In parent) (sym (above-without ts x parent once at_parent off)) (subst (In parent) (sym w.1) (inl refl)))

  -- who stands in that tree keeps what is above it there
  moved_keeps : (a y : NodeName) → In a (inclusive_ancestors ts y) → In x (inclusive_ancestors ts y) → In a (inclusive_ancestors (placed x parent before ts) y)
  moved_keeps a y i j =
      let at_y = Has-from_above ts a y i in
      let at_a = Has-above ts a y once at_y i in
      let above_a : In x (inclusive_ancestors ts a) = elim (above-chain ts x a y once at_y j i) [
        | inl k ↦ k
        | inr k ↦ elim (subst (In a) (above-root ts x at_x unlinked) k) [
          | inl same ↦ subst (λ z. In x (inclusive_ancestors ts z)) (sym same) (subst (In x) (sym (above-root ts x at_x unlinked)) (inl refl))
          | inr none_left ↦ absurd none_left
        ]
      ] in
      let a_in = below-from_above ts x a once at_a above_a in
      let y_in = below-from_above ts x y once at_y j in
      let y_below : Has (subtree (subtree ts x) a) y =
      subst (λ (us : Trees). Has us y) (sym (subtree-within ts x a once at_x a_in)) (below-from_above ts a y once at_y i) in
      let there : In a (inclusive_ancestors (subtree ts x) y) = above-from_below (subtree ts x) a y (once_subtree ts x once) a_in y_below in
      by (subtree-present ts x at_x) y_in there
    where
      by : IsTreeOf x (subtree ts x) → Has (subtree ts x) y → In a (inclusive_ancestors (subtree ts x) y) →
          In a (inclusive_ancestors (placed x parent before ts) y)
      by t y_in there =
          subst (λ us. In a (inclusive_ancestors (put_below parent before us (without x ts)) y)) (sym t.2)
          (above-put_below before t.0 t.1 y (subst (λ (us : Trees). Has us y) t.2 y_in) parent (without x ts) a (record {
            once = Once-without ts x once;
            parent_there = parent_stays;
            gone = λ g. without-apart ts x y once g y_in;
          }) (subst (λ (us : Trees). In a (inclusive_ancestors us y)) t.2 there))

  pub keeps_placed : KeepsAbove ts (placed x parent before ts)
  keeps_placed a y h = elim (cases_Bool (is_inclusive_ancestor ts x y)) [
    | inl e ↦ is_in-from a (inclusive_ancestors (placed x parent before ts) y)
        (moved_keeps a y (In-from a (inclusive_ancestors ts y) h) (In-from x (inclusive_ancestors ts y) e))
    | inr e ↦ ap (is_in name_eq a) (path_placed ts once x parent before y (lacks_from x (inclusive_ancestors ts y) e)) ∙ h
  ]
