-- Trees in which each name stands once: what is below a node, what is above it, and its parent.
use Rattle.dom_base.proofs.Std.{◌≡◌, ◌⊎◌, inl, inr, ◌≤◌, arith, true, false, List, [], ◌∷◌, ◌++◌, Some, None, refl, sym, ap, subst, ◌∙◌, count_by, drop}
use Rattle.dom_base.proofs.Std.{cases_Bool, same_Some, none-some}
use Rattle.dom_model.proofs.Model.{NodeName, name_eq, first_of, Trees, none, tree, Node, or_else, subtree, times_in, ancestors, on_top, inclusive_ancestors}
use Rattle.dom_model.proofs.Model.{parent_of, nodes, is_inclusive_ancestor, name_eq-other, name_eq-true}
use Rattle.dom_laws.proofs.Paths.{path_none, subtree_gone}
use Rattle.dom_laws.proofs.Counts.{Once, one-true, one-false, times_in-none, times_in-tree, once_parts, once_subtree, times_count}
use Rattle.dom_laws.proofs.Lists.{In, In-left, In-right, In-parts, same_or_not, name_eq-from, no_first, is_in-from}

-- x stands in trees
abbrev pub Has : Trees → NodeName → Type 0
Has none x = ⊥
Has (tree n c r) x = (n.name ≡ x) ⊎ (Has c x ⊎ Has r x)

-- a name stands in trees or not
pub has_or_not : (ts : Trees) (x : NodeName) → Has ts x ⊎ (Has ts x → ⊥)
has_or_not none x = inr (λ h. h)
has_or_not (tree n c r) x = elim (same_or_not n.name x) [
  | inl e ↦ inl (inl e)
  | inr other ↦ elim (has_or_not c x) [
    | inl h ↦ inl (inr (inl h))
    | inr off ↦ elim (has_or_not r x) [ inl h ↦ inl (inr (inr h)) | inr away ↦ inr (none_of other off away) ]
  ]
]
  where
    none_of : (n.name ≡ x → ⊥) → (Has c x → ⊥) → (Has r x → ⊥) → Has (tree n c r) x → ⊥
    none_of other off away (inl e) = other e
    none_of other off away (inr (inl h)) = off h
    none_of other off away (inr (inr h)) = away h

-- ---- a name stands in trees where it is counted

-- a name that stands in trees is counted
pub times-present : (x : NodeName) (ts : Trees) → Has ts x → 1 ≤ times_in ts x
times-present x none h = absurd h
times-present x (tree n c r) (inl e) = omega (arith, times_in-tree n c r x, one-true (name_eq n.name x) (name_eq-from n.name x e))
times-present x (tree n c r) (inr (inl h)) = omega (arith, times_in-tree n c r x, times-present x c h)
times-present x (tree n c r) (inr (inr h)) = omega (arith, times_in-tree n c r x, times-present x r h)

-- and no other
pub times-absent : (x : NodeName) (ts : Trees) → (Has ts x → ⊥) → times_in ts x ≡ 0
times-absent x none off = times_in-none x
times-absent x (tree n c r) off = elim (cases_Bool (name_eq n.name x)) [
  | inl e ↦ absurd (off (inl (name_eq-true n.name x e)))
  | inr e ↦
      let off_below = times-absent x c (λ h. off (inr (inl h))) in
      let off_behind = times-absent x r (λ h. off (inr (inr h))) in
      omega (arith, times_in-tree n c r x, one-false (name_eq n.name x) e)
]

-- a first root, what is below it and what is behind it, none of which has a name of another one
abbrev pub OnceApart : Node → Trees → Trees → Type 0
OnceApart n c r = (Has c n.name → ⊥) × (Has r n.name → ⊥) × ((x : NodeName) → Has c x → Has r x → ⊥) × Once c × Once r

-- so they are where each name stands once
pub once_apart : (n : Node) (c r : Trees) → Once (tree n c r) → OnceApart n c r
once_apart n c r once =
    let parts = once_parts n c r once in (
      λ h. omega (arith, parts.root_below, times-present n.name c h),
      λ h. omega (arith, parts.root_after, times-present n.name r h),
      λ x h i. omega (arith, parts.apart x, times-present x c h, times-present x r i),
      parts.below,
      parts.after,
    )

-- and then each name stands once
pub once_joined : (n : Node) (c r : Trees) → OnceApart n c r → Once (tree n c r)
once_joined n c r apart x = elim (cases_Bool (name_eq n.name x)) [
  | inl e ↦
      let same = name_eq-true n.name x e in
      let off_below = times-absent x c (λ h. apart.0 (subst (Has c) (sym same) h)) in
      let off_behind = times-absent x r (λ h. apart.1 (subst (Has r) (sym same) h)) in
      omega (arith, times_in-tree n c r x, one-true (name_eq n.name x) e)
  | inr e ↦ elim (has_or_not c x) [
    | inl h ↦
        let off_behind = times-absent x r (apart.2 x h) in
        omega (arith, times_in-tree n c r x, one-false (name_eq n.name x) e, apart.3 x)
    | inr off ↦ omega (arith, times_in-tree n c r x, one-false (name_eq n.name x) e, times-absent x c off, apart.4 x)
  ]
]

-- a node below the first root, or behind its tree, is not that root
off_first : (n : Node) (c r : Trees) (x : NodeName) → Once (tree n c r) → Has c x → name_eq n.name x ≡ false
off_first n c r x once h = name_eq-other n.name x (λ e. (once_apart n c r once).0 (subst (Has c) (sym e) h))

-- nor is one behind its tree
off_last : (n : Node) (c r : Trees) (x : NodeName) → Once (tree n c r) → Has r x → name_eq n.name x ≡ false
off_last n c r x once h = name_eq-other n.name x (λ e. (once_apart n c r once).1 (subst (Has r) (sym e) h))

-- ---- the tree of a node

-- a name that stands nowhere has no tree
pub subtree-absent : (ts : Trees) (x : NodeName) → (Has ts x → ⊥) → subtree ts x ≡ none
subtree-absent ts x off = subtree_gone ts x (times-absent x ts off)

-- one tree, with x at its root
abbrev pub IsTreeOf : NodeName → Trees → Type 0
IsTreeOf x ts = (n : Node) × (c : Trees) × (ts ≡ tree n c none) × (n.name ≡ x)

-- the tree of a node is one
pub subtree-present : (ts : Trees) (x : NodeName) → Has ts x → IsTreeOf x (subtree ts x)
subtree-present none x h = absurd h
subtree-present (tree n c r) x h = elim (same_or_not n.name x) [
  | inl e ↦ rw (name_eq-from n.name x e) (n, c, refl, e)
  | inr other ↦ rw (name_eq-other n.name x other) (by other (has_or_not c x) (subtree-present c x) (subtree-present r x))
]
  where
    by : (n.name ≡ x → ⊥) → Has c x ⊎ (Has c x → ⊥) → (Has c x → IsTreeOf x (subtree c x)) → (Has r x → IsTreeOf x (subtree r x)) →
        IsTreeOf x (or_else (subtree c x) (subtree r x))
    by other (inl i) in_c in_r = let w = in_c i in (w.0, w.1, ap (λ (us : Trees). or_else us (subtree r x)) w.2, w.3)
    by other (inr off) in_c in_r = rw (subtree-absent c x off)
        (in_r (elim h [ inl e ↦ absurd (other e) | inr g ↦ elim g [ inl i ↦ absurd (off i) | inr j ↦ j ] ]))

-- that of the first root
pub subtree-here : (n : Node) (c r : Trees) (x : NodeName) → n.name ≡ x → subtree (tree n c r) x ≡ tree n c none
subtree-here n c r x e = rw (name_eq-from n.name x e) refl

-- that of a node below it
pub subtree-below : (n : Node) (c r : Trees) (x : NodeName) → Once (tree n c r) → Has c x → subtree (tree n c r) x ≡ subtree c x
subtree-below n c r x once h =
    let w = subtree-present c x h in
    rw (off_first n c r x once h) (ap (λ (us : Trees). or_else us (subtree r x)) w.2 ∙ sym w.2)

-- that of a node behind its tree
pub subtree-beside : (n : Node) (c r : Trees) (x : NodeName) → Once (tree n c r) → Has r x → subtree (tree n c r) x ≡ subtree r x
subtree-beside n c r x once h = rw (off_last n c r x once h, subtree-absent c x (λ i. (once_apart n c r once).2 x i h)) refl

-- it is a part of the trees
pub Has-subtree : (ts : Trees) (x y : NodeName) → Once ts → Has (subtree ts x) y → Has ts y
Has-subtree none x y once h = h
Has-subtree (tree n c r) x y once h = elim (same_or_not n.name x) [
  | inl e ↦ by_here (rw (subtree-here n c r x e) at h)
  | inr other ↦ elim (has_or_not c x) [
    | inl i ↦ inr (inl (Has-subtree c x y (once_apart n c r once).3 (rw (subtree-below n c r x once i) at h)))
    | inr off ↦ elim (has_or_not r x) [
      | inl j ↦ inr (inr (Has-subtree r x y (once_apart n c r once).4 (rw (subtree-beside n c r x once j) at h)))
      | inr away ↦ absurd (subst (λ (us : Trees). Has us y) (subtree-absent (tree n c r) x (none_of other off away)) h)
    ]
  ]
]
  where
    by_here : Has (tree n c none) y → Has (tree n c r) y
    by_here (inl e) = inl e
    by_here (inr (inl i)) = inr (inl i)
    by_here (inr (inr no_more)) = absurd no_more

    none_of : (n.name ≡ x → ⊥) → (Has c x → ⊥) → (Has r x → ⊥) → Has (tree n c r) x → ⊥
    none_of other off away (inl e) = other e
    none_of other off away (inr (inl i)) = off i
    none_of other off away (inr (inr i)) = away i

-- a node in it has the same tree there
pub subtree-within : (ts : Trees) (x y : NodeName) → Once ts → Has ts x → Has (subtree ts x) y → subtree (subtree ts x) y ≡ subtree ts y
subtree-within none x y once at h = absurd at
subtree-within (tree n c r) x y once (inl e) h = rw (subtree-here n c r x e) (by (rw (subtree-here n c r x e) at h))
  where
    by : Has (tree n c none) y → subtree (tree n c none) y ≡ subtree (tree n c r) y
    by (inl i) = subtree-here n c none y i ∙ sym (subtree-here n c r y i)
    by (inr (inl i)) = subtree-below n c none y (subst Once (subtree-here n c r x e) (once_subtree (tree n c r) x once)) i ∙ sym (subtree-below n c r y once i)
    by (inr (inr no_more)) = absurd no_more
subtree-within (tree n c r) x y once (inr (inl at)) h =
    let e = subtree-below n c r x once at in
    let i : Has (subtree c x) y = subst (λ (us : Trees). Has us y) e h in
    let below = (once_apart n c r once).3 in
    ap (λ (us : Trees). subtree us y) e ∙ (subtree-within c x y below at i ∙ sym (subtree-below n c r y once (Has-subtree c x y below i)))
subtree-within (tree n c r) x y once (inr (inr at)) h =
    let e = subtree-beside n c r x once at in
    let i : Has (subtree r x) y = subst (λ (us : Trees). Has us y) e h in
    let rest = (once_apart n c r once).4 in
    ap (λ (us : Trees). subtree us y) e ∙ (subtree-within r x y rest at i ∙ sym (subtree-beside n c r y once (Has-subtree r x y rest i)))

-- ---- what is above a node

-- a name that stands nowhere has none above it
pub above-absent : (ts : Trees) (x : NodeName) → (Has ts x → ⊥) → inclusive_ancestors ts x ≡ []
above-absent ts x off = path_none ts x (times-absent x ts off)

-- x is the first item
abbrev pub BeginsWith : NodeName → List NodeName → Type 0
BeginsWith x xs = (ys : List NodeName) × (xs ≡ x ∷ ys)

-- a node is the first of its inclusive ancestors
pub above-present : (ts : Trees) (x : NodeName) → Has ts x → BeginsWith x (inclusive_ancestors ts x)
above-present none x h = absurd h
above-present (tree n c r) x h = elim (same_or_not n.name x) [
  | inl e ↦ rw (name_eq-from n.name x e) ([], refl)
  | inr other ↦ rw (name_eq-other n.name x other) (by other (has_or_not c x) (above-present c x) (above-present r x))
]
  where
    by : (n.name ≡ x → ⊥) → Has c x ⊎ (Has c x → ⊥) → (Has c x → BeginsWith x (inclusive_ancestors c x)) → (Has r x → BeginsWith x (inclusive_ancestors r x))
        → BeginsWith x (on_top (inclusive_ancestors c x) n.name (inclusive_ancestors r x))
    by other (inl i) in_c in_r = let w = in_c i in (w.0 ++ n.name ∷ [], ap (λ path. on_top path n.name (inclusive_ancestors r x)) w.1)
    by other (inr off) in_c in_r = rw (above-absent c x off)
        (in_r (elim h [ inl e ↦ absurd (other e) | inr g ↦ elim g [ inl i ↦ absurd (off i) | inr j ↦ j ] ]))

-- the inclusive ancestors of the first root
pub above-here : (n : Node) (c r : Trees) (x : NodeName) → n.name ≡ x → inclusive_ancestors (tree n c r) x ≡ x ∷ []
above-here n c r x e = rw (name_eq-from n.name x e) refl

-- the inclusive ancestors of a node below the first root
pub above-below : (n : Node) (c r : Trees) (x : NodeName) → Once (tree n c r) → Has c x →
    inclusive_ancestors (tree n c r) x ≡ inclusive_ancestors c x ++ n.name ∷ []
above-below n c r x once h =
    let w = above-present c x h in
    rw (off_first n c r x once h) (ap (λ path. on_top path n.name (inclusive_ancestors r x)) w.1 ∙ sym (ap (λ path. path ++ n.name ∷ []) w.1))

-- the inclusive ancestors of a node behind the first root's tree
pub above-beside : (n : Node) (c r : Trees) (x : NodeName) → Once (tree n c r) → Has r x → inclusive_ancestors (tree n c r) x ≡ inclusive_ancestors r x
above-beside n c r x once h = rw (off_last n c r x once h, above-absent c x (λ i. (once_apart n c r once).2 x i h)) refl

-- what stands above a node is in the trees
pub Has-above : (ts : Trees) (a x : NodeName) → Once ts → Has ts x → In a (inclusive_ancestors ts x) → Has ts a
Has-above none a x once h i = absurd h
Has-above (tree n c r) a x once (inl e) i = elim (rw (above-here n c r x e) at i) [ inl j ↦ inl (e ∙ sym j) | inr j ↦ absurd j ]
Has-above (tree n c r) a x once (inr (inl h)) i = elim (In-parts a (inclusive_ancestors c x) (n.name ∷ []) (rw (above-below n c r x once h) at i)) [
  | inl j ↦ inr (inl (Has-above c a x (once_apart n c r once).3 h j))
  | inr j ↦ elim j [ inl k ↦ inl (sym k) | inr k ↦ absurd k ]
]
Has-above (tree n c r) a x once (inr (inr h)) i = inr (inr (Has-above r a x (once_apart n c r once).4 h (rw (above-beside n c r x once h) at i)))

-- ---- below and above are the same said twice

-- a node stands above those of its tree
pub above-from_below : (ts : Trees) (a x : NodeName) → Once ts → Has ts a → Has (subtree ts a) x → In a (inclusive_ancestors ts x)
above-from_below none a x once at h = absurd at
above-from_below (tree n c r) a x once (inl e) h = by (rw (subtree-here n c r a e) at h)
  where
    by : Has (tree n c none) x → In a (inclusive_ancestors (tree n c r) x)
    by (inl i) = rw (above-here n c r x i) (inl (sym e ∙ i))
    by (inr (inl i)) = rw (above-below n c r x once i) (In-right a (inclusive_ancestors c x) (n.name ∷ []) (inl (sym e)))
    by (inr (inr no_more)) = absurd no_more
above-from_below (tree n c r) a x once (inr (inl at)) h =
    let i : Has (subtree c a) x = subst (λ (us : Trees). Has us x) (subtree-below n c r a once at) h in
    let below = (once_apart n c r once).3 in
    rw (above-below n c r x once (Has-subtree c a x below i)) (In-left a (inclusive_ancestors c x) (n.name ∷ []) (above-from_below c a x below at i))
above-from_below (tree n c r) a x once (inr (inr at)) h =
    let i : Has (subtree r a) x = subst (λ (us : Trees). Has us x) (subtree-beside n c r a once at) h in
    rw (above-beside n c r x once (Has-subtree r a x (once_apart n c r once).4 i)) (above-from_below r a x (once_apart n c r once).4 at i)

-- and the other way round
pub below-from_above : (ts : Trees) (a x : NodeName) → Once ts → Has ts x → In a (inclusive_ancestors ts x) → Has (subtree ts a) x
below-from_above none a x once h i = absurd h
below-from_above (tree n c r) a x once (inl e) i = elim (rw (above-here n c r x e) at i) [
  | inl j ↦ rw (subtree-here n c r a (e ∙ sym j)) (inl e)
  | inr j ↦ absurd j
]
below-from_above (tree n c r) a x once (inr (inl h)) i = elim (In-parts a (inclusive_ancestors c x) (n.name ∷ []) (rw (above-below n c r x once h) at i)) [
  | inl j ↦ rw (subtree-below n c r a once (Has-above c a x (once_apart n c r once).3 h j)) (below-from_above c a x (once_apart n c r once).3 h j)
  | inr j ↦ elim j [ inl k ↦ rw (subtree-here n c r a (sym k)) (inr (inl h)) | inr k ↦ absurd k ]
]
below-from_above (tree n c r) a x once (inr (inr h)) i =
    let j : In a (inclusive_ancestors r x) = subst (In a) (above-beside n c r x once h) i in
    rw (subtree-beside n c r a once (Has-above r a x (once_apart n c r once).4 h j)) (below-from_above r a x (once_apart n c r once).4 h j)

-- ---- parents

-- above a child stands its parent with all above that one
pub above-parent : (ts : Trees) (x p : NodeName) → Once ts → Has ts x → parent_of ts x ≡ Some p →
    (inclusive_ancestors ts x ≡ x ∷ inclusive_ancestors ts p) × Has ts p
above-parent none x p once h e = absurd h
above-parent (tree n c r) x p once (inl i) e = absurd (none-some p (rw (above-here n c r x i) at e))
above-parent (tree n c r) x p once (inr (inl h)) e =
    let w = above-present c x h in
    let whole : inclusive_ancestors (tree n c r) x ≡ x ∷ (w.0 ++ n.name ∷ []) = above-below n c r x once h ∙ ap (λ path. path ++ n.name ∷ []) w.1 in
    by (above-parent c x p (once_apart n c r once).3 h) w.0 w.1 whole (ap (λ path. first_of (drop 1 path)) (sym whole) ∙ e)
  where
    by : (parent_of c x ≡ Some p → (inclusive_ancestors c x ≡ x ∷ inclusive_ancestors c p) × Has c p)
        → (path : List NodeName) → inclusive_ancestors c x ≡ x ∷ path → inclusive_ancestors (tree n c r) x ≡ x ∷ (path ++ n.name ∷ []) →
        first_of (path ++ n.name ∷ []) ≡ Some p
        → (inclusive_ancestors (tree n c r) x ≡ x ∷ inclusive_ancestors (tree n c r) p) × Has (tree n c r) p
    by deeper [] is whole f =
        let same : n.name ≡ p = same_Some _ _ f in
        (whole ∙ (ap (λ z. x ∷ z ∷ []) same ∙ ap (λ path. x ∷ path) (sym (above-here n c r p same))), inl same)
    by deeper (q ∷ path) is whole f =
        let up = deeper (ap (λ l. first_of (drop 1 l)) is ∙ f) in (
          above-below n c r x once h ∙ (ap (λ l. l ++ n.name ∷ []) up.0 ∙ ap (λ l. x ∷ l) (sym (above-below n c r p once up.1))),
          inr (inl up.1),
        )
above-parent (tree n c r) x p once (inr (inr h)) e =
    let same = above-beside n c r x once h in
    let up = above-parent r x p (once_apart n c r once).4 h (ap (λ path. first_of (drop 1 path)) (sym same) ∙ e) in
    (same ∙ (up.0 ∙ ap (λ l. x ∷ l) (sym (above-beside n c r p once up.1))), inr (inr up.1))

-- above a root stands none
pub above-root : (ts : Trees) (x : NodeName) → Has ts x → parent_of ts x ≡ None → inclusive_ancestors ts x ≡ x ∷ []
above-root ts x h e =
    let w = above-present ts x h in
    w.1 ∙ ap (λ path. x ∷ path) (no_first w.0 (ap (λ path. first_of (drop 1 path)) (sym w.1) ∙ e))

-- above x stands x, and then its proper ancestors
pub above-proper : (ts : Trees) (x : NodeName) → Has ts x → inclusive_ancestors ts x ≡ x ∷ ancestors ts x
above-proper ts x h = let w = above-present ts x h in w.1 ∙ ap (λ xs. x ∷ xs) (sym (ap (drop 1) w.1))

-- the proper ancestors of a node with a parent
pub proper-parent : (ts : Trees) (x p : NodeName) → Once ts → Has ts x → parent_of ts x ≡ Some p → (ancestors ts x ≡ p ∷ ancestors ts p) × Has ts p
proper-parent ts x p once h e =
    let up = above-parent ts x p once h e in
    (ap (drop 1) up.0 ∙ above-proper ts p up.1, up.1)

-- a node that stands once in trees stands in its own tree
pub above-itself : (ts : Trees) (x : NodeName) → count_by (λ n. name_eq n.name x) (nodes ts) ≡ 1 → is_inclusive_ancestor ts x x ≡ true
above-itself ts x one_time = by (has_or_not ts x)
  where
    by : Has ts x ⊎ (Has ts x → ⊥) → is_inclusive_ancestor ts x x ≡ true
    by (inl h) = let w = above-present ts x h in is_in-from x (inclusive_ancestors ts x) (subst (In x) (sym w.1) (inl refl))
    by (inr off) = absurd (omega (arith, one_time, times_count ts x, times-absent x ts off))
