-- Trees into which one more tree was put: what is read of its nodes, and of the others.
use Rattle.dom_base.proofs.Std.{◌≡◌, inl, inr, List, [], ◌∷◌, not, None, Option, refl, sym, ap, subst, ◌∙◌, if◌then◌else◌, drop, cases_Bool}
use Rattle.dom_model.proofs.Model.{NodeName, name_eq, name_before, first_of, Trees, none, tree, Node, roots, names_of, or_else, subtree, on_top}
use Rattle.dom_model.proofs.Model.{inclusive_ancestors, parent_of, without, is_given, put_before, put_below, put_root, name_eq-other}
use Rattle.dom_slots.specs.Definitions.{names_but}
use Rattle.dom_laws.proofs.Laws.{name_eq-from, filter-no, once_apart, Has, above-absent, subtree-absent, subtree-here, subtree-below, subtree-beside, Once}

-- where a tree is put into others: before the first of them, or below or behind that one's root
pub data Spot : Type 0 where
  Before : Spot
  Below : Spot → Spot
  Behind : Spot → Spot

-- a list without a name
abbrev pub others : NodeName → List NodeName → List NodeName
others x ys = names_but x ys

others-here : (x : NodeName) (ys : List NodeName) → others x (x ∷ ys) ≡ others x ys
others-here x ys = filter-no (λ y. not (name_eq x y)) x ys (ap not (name_eq-from x x refl))

or_else-none : (ts : Trees) → or_else ts none ≡ ts
or_else-none none = refl
or_else-none (tree n c r) = refl

or_else-has : (ts us : Trees) (x : NodeName) → Has ts x → or_else ts us ≡ ts
or_else-has none us x h = absurd h
or_else-has (tree n c r) us x h = refl

-- the tree that is put in has the root m and below it the trees d
module _ (m : Node) (d : Trees) where
  -- the trees with it
  abbrev pub grafted : Spot → Trees → Trees
  grafted Before us = tree m d us
  grafted (Below p) none = tree m d none
  grafted (Below p) (tree n c r) = tree n (grafted p c) r
  grafted (Behind p) none = tree m d none
  grafted (Behind p) (tree n c r) = tree n c (grafted p r)

  pub Has-grafted : (p : Spot) (us : Trees) → Has (grafted p us) m.name
  Has-grafted Before us = inl refl
  Has-grafted (Below p) none = inl refl
  Has-grafted (Below p) (tree n c r) = inr (inl (Has-grafted p c))
  Has-grafted (Behind p) none = inl refl
  Has-grafted (Behind p) (tree n c r) = inr (inr (Has-grafted p r))

  -- what stands above a node of the others stays
  pub above-others : (p : Spot) (us : Trees) (y : NodeName) → (Has (tree m d none) y → ⊥) → inclusive_ancestors (grafted p us) y ≡ inclusive_ancestors us y
  above-others Before us y off = rw (name_eq-other m.name y (λ e. off (inl e)), above-absent d y (λ i. off (inr (inl i)))) refl
  above-others (Below p) none y off = above-absent (tree m d none) y off
  above-others (Below p) (tree n c r) y off =
      ap (λ path. if name_eq n.name y then y ∷ [] else on_top path n.name (inclusive_ancestors r y)) (above-others p c y off)
  above-others (Behind p) none y off = above-absent (tree m d none) y off
  above-others (Behind p) (tree n c r) y off =
      ap (λ path. if name_eq n.name y then y ∷ [] else on_top (inclusive_ancestors c y) n.name path) (above-others p r y off)

  -- so does its tree, where the new one is not put into it
  pub tree-others : (p : Spot) (us : Trees) (y : NodeName) → (Has (tree m d none) y → ⊥) → (Has (subtree (grafted p us) y) m.name → ⊥) →
      subtree (grafted p us) y ≡ subtree us y
  tree-others Before us y off apart = rw (name_eq-other m.name y (λ e. off (inl e)), subtree-absent d y (λ i. off (inr (inl i)))) refl
  tree-others (Below p) none y off apart = subtree-absent (tree m d none) y off
  tree-others (Below p) (tree n c r) y off apart = elim (cases_Bool (name_eq n.name y)) [
    | inl e ↦ absurd ((rw e at apart) (inr (inl (Has-grafted p c))))
    | inr e ↦ rw e (below (rw e at apart) (tree-others p c y off))
  ]
    where
      below : (Has (or_else (subtree (grafted p c) y) (subtree r y)) m.name → ⊥) →
          ((Has (subtree (grafted p c) y) m.name → ⊥) → subtree (grafted p c) y ≡ subtree c y)
          → or_else (subtree (grafted p c) y) (subtree r y) ≡ or_else (subtree c y) (subtree r y)
      below away deeper =
          ap (λ (ts : Trees). or_else ts (subtree r y))
          (deeper (λ i. away (subst (λ (ts : Trees). Has ts m.name) (sym (or_else-has (subtree (grafted p c) y) (subtree r y) m.name i)) i)))
  tree-others (Behind p) none y off apart = subtree-absent (tree m d none) y off
  tree-others (Behind p) (tree n c r) y off apart = elim (cases_Bool (name_eq n.name y)) [
    | inl e ↦ rw e refl
    | inr e ↦ rw e (behind (subtree c y) (rw e at apart) (tree-others p r y off))
  ]
    where
      behind : (ts : Trees) → (Has (or_else ts (subtree (grafted p r) y)) m.name → ⊥) →
          ((Has (subtree (grafted p r) y) m.name → ⊥) → subtree (grafted p r) y ≡ subtree r y)
          → or_else ts (subtree (grafted p r) y) ≡ or_else ts (subtree r y)
      behind none away deeper = deeper away
      behind (tree k b s) away deeper = refl

  -- the tree of a node of its own is that alone
  pub tree-own : (p : Spot) (us : Trees) (y : NodeName) → (Has us y → ⊥) → subtree (grafted p us) y ≡ subtree (tree m d none) y
  tree-own Before us y off = ap (λ (ts : Trees). if name_eq m.name y then tree m d none else or_else (subtree d y) ts) (subtree-absent us y off)
  tree-own (Below p) none y off = refl
  tree-own (Below p) (tree n c r) y off =
      rw (name_eq-other n.name y (λ e. off (inl e)), tree-own p c y (λ i. off (inr (inl i))), subtree-absent r y (λ i. off (inr (inr i))))
      (or_else-none (subtree (tree m d none) y))
  tree-own (Behind p) none y off = refl
  tree-own (Behind p) (tree n c r) y off =
      rw (name_eq-other n.name y (λ e. off (inl e)), subtree-absent c y (λ i. off (inr (inl i)))) (tree-own p r y (λ i. off (inr (inr i))))

  -- both have no node, or the same root, with the same children but for the new tree
  abbrev pub ReadAlike : Trees → Trees → Type 0
  ReadAlike none none = Unit {0}
  ReadAlike none (tree k b s) = ⊥
  ReadAlike (tree n c r) none = ⊥
  ReadAlike (tree n c r) (tree k b s) = (n ≡ k) × (others m.name (names_of (roots c)) ≡ others m.name (names_of (roots b)))

  ReadAlike-same : (ts : Trees) → ReadAlike ts ts
  ReadAlike-same none = tt
  ReadAlike-same (tree n c r) = (refl, refl)

  roots-others : (p : Spot) (us : Trees) → others m.name (names_of (roots (grafted p us))) ≡ others m.name (names_of (roots us))
  roots-others Before us = others-here m.name (names_of (roots us))
  roots-others (Below p) none = others-here m.name []
  roots-others (Below p) (tree n c r) = refl
  roots-others (Behind p) none = others-here m.name []
  roots-others (Behind p) (tree n c r) = ap (λ ys. if not (name_eq m.name n.name) then n.name ∷ ys else ys) (roots-others p r)

  -- so are the trees of each other node
  pub ReadAlike-others : (p : Spot) (us : Trees) (y : NodeName) → (Has (tree m d none) y → ⊥) → ReadAlike (subtree (grafted p us) y) (subtree us y)
  ReadAlike-others Before us y off = rw (name_eq-other m.name y (λ e. off (inl e)), subtree-absent d y (λ i. off (inr (inl i)))) (ReadAlike-same (subtree us y))
  ReadAlike-others (Below p) none y off = subst (λ (ts : Trees). ReadAlike ts none) (sym (subtree-absent (tree m d none) y off)) tt
  ReadAlike-others (Below p) (tree n c r) y off = elim (cases_Bool (name_eq n.name y)) [
    | inl e ↦ rw e (refl, roots-others p c)
    | inr e ↦ rw e (below (subtree (grafted p c) y) (subtree c y) (ReadAlike-others p c y off))
  ]
    where
      below : (ts us : Trees) → ReadAlike ts us → ReadAlike (or_else ts (subtree r y)) (or_else us (subtree r y))
      below none none h = ReadAlike-same (subtree r y)
      below none (tree k b s) h = absurd h
      below (tree k b s) none h = absurd h
      below (tree k b s) (tree l a t) h = h
  ReadAlike-others (Behind p) none y off = subst (λ (ts : Trees). ReadAlike ts none) (sym (subtree-absent (tree m d none) y off)) tt
  ReadAlike-others (Behind p) (tree n c r) y off = elim (cases_Bool (name_eq n.name y)) [
    | inl e ↦ rw e (refl, refl)
    | inr e ↦ rw e (behind (subtree c y) (ReadAlike-others p r y off))
  ]
    where
      behind : (ts : Trees) → ReadAlike (subtree (grafted p r) y) (subtree r y) → ReadAlike (or_else ts (subtree (grafted p r) y)) (or_else ts (subtree r y))
      behind none h = h
      behind (tree k b s) h = (refl, refl)

-- ---- trees that are such

-- a name that stands nowhere leaves all
without-absent : (ts : Trees) (x : NodeName) → (Has ts x → ⊥) → without x ts ≡ ts
without-absent none x off = refl
without-absent (tree n c r) x off =
    rw (name_eq-other n.name x (λ e. off (inl e)), without-absent c x (λ i. off (inr (inl i))), without-absent r x (λ i. off (inr (inr i)))) refl

-- trees that have x are the others with the tree of x
pub record Splits (ts : Trees) (x : NodeName) : Type 0 where
  pub node : Node
  pub below : Trees
  pub spot : Spot
  pub name : node.name ≡ x
  pub alone : subtree ts x ≡ tree node below none
  pub whole : ts ≡ grafted node below spot (without x ts)

-- where they split as a part of them does
split-in : {ts us : Trees} {x : NodeName} (s : Splits us x) (spot : Spot) → subtree ts x ≡ subtree us x → ts ≡ grafted s.node s.below spot (without x ts) →
    Splits ts x
split-in s spot same whole = record { node = s.node; below = s.below; spot = spot; name = s.name; alone = same ∙ s.alone; whole = whole }

pub splits : (ts : Trees) (x : NodeName) → Once ts → Has ts x → Splits ts x
splits none x once h = absurd h
splits (tree n c r) x once (inl e) = record {
  node = n;
  below = c;
  spot = Before;
  name = e;
  alone = subtree-here n c r x e;
  whole = rw (name_eq-from n.name x e) (ap (tree n c) (sym (without-absent r x (λ i. (once_apart n c r once).1 (subst (Has r) (sym e) i)))));
}
splits (tree n c r) x once (inr (inl h)) =
    let s = splits c x (once_apart n c r once).3 h in
    split-in s (Below s.spot) (subtree-below n c r x once h)
    (rw (name_eq-other n.name x (λ e. (once_apart n c r once).0 (subst (Has c) (sym e) h)))
    (ap (λ (ts : Trees). tree n ts r) s.whole ∙
    ap (tree n (grafted s.node s.below s.spot (without x c))) (sym (without-absent r x (λ i. (once_apart n c r once).2 x h i)))))
splits (tree n c r) x once (inr (inr h)) =
    let s = splits r x (once_apart n c r once).4 h in
    split-in s (Behind s.spot) (subtree-beside n c r x once h)
    (rw (name_eq-other n.name x (λ e. (once_apart n c r once).1 (subst (Has r) (sym e) h)))
    (ap (tree n c) s.whole ∙
    ap (λ (ts : Trees). tree n ts (grafted s.node s.below s.spot (without x r))) (sym (without-absent c x (λ i. (once_apart n c r once).2 x i h)))))

module _ (m : Node) (d : Trees) where
  -- a tree put in by the order of names
  pub root-grafts : (y : NodeName) (us : Trees) → (p : Spot) × (put_root y (tree m d none) us ≡ grafted m d p us)
  root-grafts y none = (Before, refl)
  root-grafts y (tree n c r) = elim (cases_Bool (name_before y n.name)) [
    | inl e ↦ rw e (Before, refl)
    | inr e ↦ rw e (let w = root-grafts y r in (Behind w.0, ap (tree n c) w.1))
  ]

  -- and then has no parent
  pub root-unparented : (y : NodeName) (us : Trees) → (Has us m.name → ⊥) → parent_of (put_root y (tree m d none) us) m.name ≡ None
  root-unparented y us off = ap (λ path. first_of (drop 1 path)) (path us off)
    where
      path : (vs : Trees) → (Has vs m.name → ⊥) → inclusive_ancestors (put_root y (tree m d none) vs) m.name ≡ m.name ∷ []
      path none away = rw (name_eq-from m.name m.name refl) refl
      path (tree n c r) away = elim (cases_Bool (name_before y n.name)) [
        | inl e ↦ rw (e, name_eq-from m.name m.name refl) refl
        | inr e ↦ rw (
          e,
          name_eq-other n.name m.name (λ same. away (inl same)),
          above-absent c m.name (λ i. away (inr (inl i))),
          path r
              (λ i. away (inr (inr i))),
        ) refl
      ]

  -- or before a node
  before-grafts : (before : Option NodeName) (us : Trees) → (p : Spot) × (put_before before (tree m d none) us ≡ grafted m d p us)
  before-grafts before none = (Before, refl)
  before-grafts before (tree n c r) = elim (cases_Bool (is_given before n.name)) [
    | inl e ↦ rw e (Before, refl)
    | inr e ↦ rw e (let w = before-grafts before r in (Behind w.0, ap (tree n c) w.1))
  ]

  module _ (parent : NodeName) (before : Option NodeName) where
    -- below a node that is not there nothing is put
    pub below-absent : (us : Trees) → (Has us parent → ⊥) → put_below parent before (tree m d none) us ≡ us
    below-absent none off = refl
    below-absent (tree n c r) off =
        rw (name_eq-other n.name parent (λ e. off (inl e)), below-absent c (λ i. off (inr (inl i))), below-absent r (λ i. off (inr (inr i)))) refl

    -- or below a node
    pub below-grafts : (us : Trees) → Once us → Has us parent → (p : Spot) × (put_below parent before (tree m d none) us ≡ grafted m d p us)
    below-grafts none once h = absurd h
    below-grafts (tree n c r) once (inl e) =
        let w = before-grafts before c in (
          Below w.0,
          rw (
            name_eq-from n.name parent e,
            below-absent c (λ i. (once_apart n c r once).0 (subst (Has c) (sym e) i)),
            below-absent r
                (λ i. (once_apart n c r once).1 (subst (Has r) (sym e) i)),
          ) (ap (λ (ts : Trees). tree n ts r) w.1),
        )
    below-grafts (tree n c r) once (inr (inl h)) =
        let apart = once_apart n c r once in
        let w = below-grafts c apart.3 h in (
          Below w.0,
          rw (name_eq-other n.name parent (λ e. apart.0 (subst (Has c) (sym e) h)), below-absent r (λ i. apart.2 parent h i))
              (ap (λ (ts : Trees). tree n ts r) w.1),
        )
    below-grafts (tree n c r) once (inr (inr h)) =
        let apart = once_apart n c r once in
        let w = below-grafts r apart.4 h in (
          Behind w.0,
          rw (name_eq-other n.name parent (λ e. apart.1 (subst (Has r) (sym e) h)), below-absent c (λ i. apart.2 parent i h)) (ap (tree n c) w.1),
        )

    Has-put_before : (us : Trees) → Has (put_before before (tree m d none) us) m.name
    Has-put_before none = inl refl
    Has-put_before (tree n c r) = elim (cases_Bool (is_given before n.name)) [
      | inl e ↦ rw e (inl refl)
      | inr e ↦ rw e (inr (inr (Has-put_before r)))
    ]

    -- it is below that node
    pub Has-put_below : (us : Trees) → Once us → Has us parent → Has (subtree (put_below parent before (tree m d none) us) parent) m.name
    Has-put_below none once h = absurd h
    Has-put_below (tree n c r) once (inl e) = rw (name_eq-from n.name parent e) (inr (inl (Has-put_before (put_below parent before (tree m d none) c))))
    Has-put_below (tree n c r) once (inr (inl h)) =
        let i = Has-put_below c (once_apart n c r once).3 h in
        rw (name_eq-other n.name parent (λ e. (once_apart n c r once).0 (subst (Has c) (sym e) h)))
        (subst (λ (ts : Trees). Has ts m.name) (sym (or_else-has (subtree (put_below parent before (tree m d none) c) parent) _ m.name i)) i)
    Has-put_below (tree n c r) once (inr (inr h)) =
        let apart = once_apart n c r once in
        let off : Has c parent → ⊥ = λ i. apart.2 parent i h in
        rw (name_eq-other n.name parent (λ e. apart.1 (subst (Has r) (sym e) h)), below-absent c off, subtree-absent c parent off)
        (Has-put_below r apart.4 h)
