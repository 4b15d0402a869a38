-- What taking a tree out and placing it do to the inclusive ancestors of other nodes.
use Rattle.dom_base.proofs.Std.{◌≡◌, ◌≤◌, ◌⊎◌, inl, inr, true, false, cond, List, [], ◌∷◌, drop, Option, None, refl, sym, ap, subst, ◌∙◌, arith, cases_Bool}
use Rattle.dom_base.proofs.Std.{cond-true, cond-false}
use Rattle.dom_model.proofs.Model.{NodeName, name_eq, name_before, first_of, Trees, none, tree, Node, subtree, or_else, on_top, inclusive_ancestors, parent_of}
use Rattle.dom_model.proofs.Model.{times_in, without, followed_by, put_before, put_below, put_root, taken_out, placed, is_given, name_eq-true}
use Rattle.dom_laws.proofs.Counts.{times_in-none, times_in-tree, one-true, one-false, Once, once_parts, times_none, times_or_else, times_subtree}
use Rattle.dom_laws.proofs.Counts.{none_or_some}
use Rattle.dom_laws.proofs.Paths.{Lacks, lacks_front, lacks_back, lacks_both, apart_not, swapped, path_here, path_after, path_below, path_none}
use Rattle.dom_laws.proofs.Paths.{path_gone, path_lacks, path_head, path_without}

-- ---- below a node that is not above y, nothing is above y

-- A tree in front of others whose root is x, which is not above y.
module _ (n : Node) (c r : Trees) (x y : NodeName) (lacks : Lacks x (inclusive_ancestors (tree n c r) y)) (g : name_eq n.name x ≡ true) where
  -- y is not that root
  not_root : {P : Type 0} → name_eq n.name y ≡ true → P
  not_root h =
      apart_not n.name x g (subst (λ (w : NodeName). name_eq w x ≡ false) (sym (name_eq-true n.name y h))
      (swapped x y (subst (Lacks x) (path_here n c r y h) lacks).0))

  -- nor below it
  not_above : {P : Type 0} (a : NodeName) (path : List NodeName) → name_eq n.name y ≡ false → inclusive_ancestors c y ≡ a ∷ path → P
  not_above a path h e =
      apart_not n.name x g (swapped x n.name (lacks_back x (a ∷ path) (n.name ∷ []) (subst (Lacks x) (path_below n c r y a path h e) lacks)).0)

-- Three nodes.
module _ (x y z : NodeName) where
  -- A tree in front of others.
  module _ (n : Node) (c r : Trees) where
    -- the node itself is the first root
    below_first : name_eq n.name x ≡ true → Lacks x (inclusive_ancestors (tree n c r) y) → times_in r z ≡ 0 → Lacks z (inclusive_ancestors (tree n c r) y)
    below_first g lacks gone = elim (cases_Bool (name_eq n.name y)) [
      | inl h ↦ not_root n c r x y lacks g h
      | inr h ↦ by_path (inclusive_ancestors c y) refl h
    ]
      where
        by_path : (path : List NodeName) → inclusive_ancestors c y ≡ path → name_eq n.name y ≡ false → Lacks z (inclusive_ancestors (tree n c r) y)
        by_path [] e h = subst (Lacks z) (sym (path_after n c r y h e)) (path_lacks r y z gone)
        by_path (a ∷ path) e h = not_above n c r x y lacks g a path h e

    -- the node is below the first root, or behind it
    below_other : name_eq n.name z ≡ false → Lacks x (inclusive_ancestors (tree n c r) y) →
        (Lacks x (inclusive_ancestors c y) → Lacks z (inclusive_ancestors c y)) → (Lacks x (inclusive_ancestors r y) → Lacks z (inclusive_ancestors r y)) →
        Lacks z (inclusive_ancestors (tree n c r) y)
    below_other apart lacks below rest = elim (cases_Bool (name_eq n.name y)) [
      | inl h ↦ subst (Lacks z) (sym (path_here n c r y h)) (swapped y z (subst (λ (w : NodeName). name_eq w z ≡ false) (name_eq-true n.name y h) apart), tt)
      | inr h ↦ by_path (inclusive_ancestors c y) refl h
    ]
      where
        by_path : (path : List NodeName) → inclusive_ancestors c y ≡ path → name_eq n.name y ≡ false → Lacks z (inclusive_ancestors (tree n c r) y)
        by_path [] e h = subst (Lacks z) (sym (path_after n c r y h e)) (rest (subst (Lacks x) (path_after n c r y h e) lacks))
        by_path (a ∷ path) e h =
            let off = subst (Lacks x) (path_below n c r y a path h e) lacks in
            subst (Lacks z) (sym (path_below n c r y a path h e))
            (lacks_both z (a ∷ path) (n.name ∷ []) (subst (Lacks z) e (below (subst (Lacks x) (sym e) (lacks_front x (a ∷ path) (n.name ∷ []) off))))
            (swapped n.name z apart, tt))

  -- what is in the tree of x is not above y, where x is not
  pub below_lacks : (ts : Trees) → Once ts → Lacks x (inclusive_ancestors ts y) → 1 ≤ times_in (subtree ts x) z → Lacks z (inclusive_ancestors ts y)
  below_lacks none once lacks there = tt
  below_lacks (tree n c r) once lacks there =
      let parts = once_parts n c r once in
      let all = times_in-tree n c r z in
      let most = once z in
      elim (cases_Bool (name_eq n.name x)) [
        | inl g ↦
            let e : times_in (subtree (tree n c r) x) z ≡ times_in (tree n c none) z =
            ap (λ t. times_in t z) (cond-true (name_eq n.name x) (tree n c none) (or_else (subtree c x) (subtree r x)) g) in
            let alone = times_in-tree n c none z in let empty = times_in-none z in
            below_first n c r g lacks (omega arith)
        | inr g ↦
            let e : times_in (subtree (tree n c r) x) z ≡ times_in (or_else (subtree c x) (subtree r x)) z =
            ap (λ t. times_in t z) (cond-false (name_eq n.name x) (tree n c none) (or_else (subtree c x) (subtree r x)) g) in
            let either = times_or_else (subtree c x) (subtree r x) z in
            let in_c = times_subtree c x z in let in_r = times_subtree r x z in
            let apart : name_eq n.name z ≡ false = elim (cases_Bool (name_eq n.name z)) [ inl h ↦ let b = one-true _ h in absurd (omega arith) | inr h ↦ h ] in
            below_other n c r apart lacks
            (λ l. elim (none_or_some (times_in (subtree c x) z)) [ inl k ↦ path_lacks c y z (omega arith) | inr k ↦ below_lacks c parts.below l k ])
            (λ l. elim (none_or_some (times_in (subtree r x) z)) [ inl k ↦ path_lacks r y z (omega arith) | inr k ↦ below_lacks r parts.after l k ])
      ]

-- so y is not below it
pub path_below_none : (ts : Trees) → Once ts → (x y : NodeName) → Lacks x (inclusive_ancestors ts y) → inclusive_ancestors (subtree ts x) y ≡ []
path_below_none ts once x y lacks = elim (none_or_some (times_in (subtree ts x) y)) [
  | inl e ↦ path_none (subtree ts x) y e
  | inr there ↦ let within = times_subtree ts x y in by_path (inclusive_ancestors ts y) refl (below_lacks x y y ts once lacks there) (omega arith)
]
  where
    by_path : (path : List NodeName) → inclusive_ancestors ts y ≡ path → Lacks y (inclusive_ancestors ts y) → 1 ≤ times_in ts y →
        inclusive_ancestors (subtree ts x) y ≡ []
    by_path [] e off there = let gone = path_gone ts y e in absurd (omega arith)
    by_path (a ∷ path) e off there = apart_not y a
        (subst (λ (w : NodeName). name_eq y w ≡ true) (sym (path_head ts y a path e)) (Rattle.dom_model.proofs.OwnerLaws.name_eq-same y))
        (subst (Lacks y) e off).0

-- ---- trees put among others

-- in two lists of trees, one after the other
path_followed : (new ts : Trees) (y : NodeName) → inclusive_ancestors new y ≡ [] → inclusive_ancestors (followed_by new ts) y ≡ inclusive_ancestors ts y
path_followed none ts y e = refl
path_followed (tree n c r) ts y e =
    let gone = times_none n c r y (path_gone (tree n c r) y e) in
    path_after n c (followed_by r ts) y gone.0 (path_none c y gone.1) ∙ path_followed r ts y (path_none r y gone.2)

-- the same first tree, with others behind it
path_behind : (n : Node) (c r s : Trees) (y : NodeName) → inclusive_ancestors r y ≡ inclusive_ancestors s y →
    inclusive_ancestors (tree n c r) y ≡ inclusive_ancestors (tree n c s) y
path_behind n c r s y e = ap (λ rest. cond (name_eq n.name y) (y ∷ []) (on_top (inclusive_ancestors c y) n.name rest)) e

pub path_put_root : (x : NodeName) (new ts : Trees) (y : NodeName) → inclusive_ancestors new y ≡ [] →
    inclusive_ancestors (put_root x new ts) y ≡ inclusive_ancestors ts y
path_put_root x new none y e = e
path_put_root x new (tree n c r) y e = elim (cases_Bool (name_before x n.name)) [
  | inl h ↦ rw h (path_followed new (tree n c r) y e)
  | inr h ↦ rw h (path_behind n c (put_root x new r) r y (path_put_root x new r y e))
]

path_put_before : (before : Option NodeName) (new ts : Trees) (y : NodeName) → inclusive_ancestors new y ≡ [] →
    inclusive_ancestors (put_before before new ts) y ≡ inclusive_ancestors ts y
path_put_before before new none y e = e
path_put_before before new (tree n c r) y e = elim (cases_Bool (is_given before n.name)) [
  | inl h ↦ rw h (path_followed new (tree n c r) y e)
  | inr h ↦ rw h (path_behind n c (put_before before new r) r y (path_put_before before new r y e))
]

path_put_below : (parent : NodeName) (before : Option NodeName) (new ts : Trees) (y : NodeName) → inclusive_ancestors new y ≡ [] →
    inclusive_ancestors (put_below parent before new ts) y ≡ inclusive_ancestors ts y
path_put_below parent before new none y e = refl
path_put_below parent before new (tree n c r) y e =
    ap (λ rest. cond (name_eq n.name y) (y ∷ [])
    (on_top (inclusive_ancestors (cond (name_eq n.name parent) (put_before before new (put_below parent before new c))
    (put_below parent before new c)) y) n.name rest)) (path_put_below parent before new r y e)
    ∙ ap (λ below. cond (name_eq n.name y) (y ∷ []) (on_top below n.name (inclusive_ancestors r y)))
    (here (cases_Bool (name_eq n.name parent)) (path_put_below parent before new c y e))
  where
    here : (name_eq n.name parent ≡ true) ⊎ (name_eq n.name parent ≡ false) → inclusive_ancestors (put_below parent before new c) y ≡ inclusive_ancestors c y
        → inclusive_ancestors (cond (name_eq n.name parent) (put_before before new (put_below parent before new c))
        (put_below parent before new c)) y ≡ inclusive_ancestors c y
    here (inl h) below = rw h (path_put_before before new (put_below parent before new c) y e ∙ below)
    here (inr h) below = rw h below

-- ---- the steps

-- Of a node x: what it is not above stays.
module _ (ts : Trees) (once : Once ts) (x : NodeName) where
  -- it leaves its parent
  pub path_taken : (y : NodeName) → Lacks x (inclusive_ancestors ts y) → inclusive_ancestors (taken_out x ts) y ≡ inclusive_ancestors ts y
  path_taken y lacks = path_put_root x (subtree ts x) (without x ts) y (path_below_none ts once x y lacks) ∙ path_without ts x y lacks

  -- it is placed
  pub path_placed : (parent : NodeName) (before : Option NodeName) (y : NodeName) → Lacks x (inclusive_ancestors ts y) →
      inclusive_ancestors (placed x parent before ts) y ≡ inclusive_ancestors ts y
  path_placed parent before y lacks =
      path_put_below parent before (subtree ts x) (without x ts) y (path_below_none ts once x y lacks) ∙ path_without ts x y lacks

-- it has no parent any more
times_without : (ts : Trees) (x : NodeName) → times_in (without x ts) x ≡ 0
times_without none x = times_in-none x
times_without (tree n c r) x = elim (cases_Bool (name_eq n.name x)) [
  | inl h ↦ rw h (times_without r x)
  | inr h ↦ rw h (let a = times_in-tree n (without x c) (without x r) x in let b = one-false _ h in let d = times_without c x in
      let f = times_without r x in omega arith)
]

-- the tree of a node is none, or the node is its root
subtree_root : (ts : Trees) (x : NodeName) → (subtree ts x ≡ none) ⊎ ((n : Node) × (c : Trees) × (subtree ts x ≡ tree n c none) × (name_eq n.name x ≡ true))
subtree_root none x = inl refl
subtree_root (tree n c r) x = elim (cases_Bool (name_eq n.name x)) [
  | inl h ↦ inr (n, c, cond-true (name_eq n.name x) (tree n c none) (or_else (subtree c x) (subtree r x)) h, h)
  | inr h ↦ either (cond-false (name_eq n.name x) (tree n c none) (or_else (subtree c x) (subtree r x)) h) (subtree_root c x) (subtree_root r x)
]
  where
    IsRooted : Trees → Type 0
    IsRooted ts = (ts ≡ none) ⊎ ((n : Node) × (c : Trees) × (ts ≡ tree n c none) × (name_eq n.name x ≡ true))

    either : subtree (tree n c r) x ≡ or_else (subtree c x) (subtree r x) → IsRooted (subtree c x) → IsRooted (subtree r x) → IsRooted (subtree (tree n c r) x)
    either e (inl a) rest = subst IsRooted (sym (e ∙ ap (λ t. or_else t (subtree r x)) a)) rest
    either e (inr (m, d, is, h)) rest = inr (m, d, e ∙ ap (λ t. or_else t (subtree r x)) is, h)

-- A root that has the name.
pub record RootNamed (x : NodeName) : Type 0 where
  pub node : Node
  pub below : Trees
  pub named : name_eq node.name x ≡ true

-- put among others that have it not, it is a root
pub path_root : (x y : NodeName) (root : RootNamed x) (ts : Trees) → times_in ts x ≡ 0 →
    inclusive_ancestors (put_root y (tree root.node root.below none) ts) x ≡ x ∷ []
path_root x y root none gone = path_here root.node root.below none x root.named
path_root x y root (tree m d r) gone =
    let off = times_none m d r x gone in
    elim (cases_Bool (name_before y m.name)) [
      | inl g ↦ rw g (path_here root.node root.below (tree m d r) x root.named)
      | inr g ↦
          rw g (path_after m d (put_root y (tree root.node root.below none) r) x off.0 (path_none d x off.1) ∙ path_root x y root r off.2)
    ]

pub parent_taken : (ts : Trees) (x : NodeName) → parent_of (taken_out x ts) x ≡ None
parent_taken ts x = elim (subtree_root ts x) [
  | inl e ↦ ap (λ path. first_of (drop 1 path))
      (ap (λ t. inclusive_ancestors (put_root x t (without x ts)) x) e ∙ path_put_root x none (without x ts) x refl ∙
      path_none (without x ts) x (times_without ts x))
  | inr h ↦ ap (λ path. first_of (drop 1 path))
      (ap (λ t. inclusive_ancestors (put_root x t (without x ts)) x) h.2 ∙
      path_root x x (record { node = h.0; below = h.1; named = h.3 }) (without x ts) (times_without ts x))
]
