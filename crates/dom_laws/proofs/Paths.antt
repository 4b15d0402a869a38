-- The inclusive ancestors of a node, in trees where each name stands once: how they hang together, and which changes of
-- trees keep them.
use Rattle.dom_base.proofs.Std.{◌≡◌, ◌≢◌, inl, inr, true, false, List, [], ◌∷◌, ◌++◌, refl, sym, ap, subst, ◌∙◌, arith, true≢false, cases_Bool, cond-true}
use Rattle.dom_base.proofs.Std.{cond-false, or_parts, or_from}
use Rattle.dom_model.proofs.Model.{NodeName, name_eq, is_in, Trees, none, tree, Node, subtree, on_top, inclusive_ancestors, times_in, without, name_eq-true}
use Rattle.dom_model.proofs.Model.{name_eq-turned}
use Rattle.dom_laws.proofs.Counts.{times_in-none, times_in-tree, one-false, times_none}

-- ---- names that a list has not

abbrev pub Lacks : NodeName → List NodeName → Type 0
Lacks x [] = Unit {0}
Lacks x (y ∷ ys) = (name_eq x y ≡ false) × Lacks x ys

pub lacks_from : (x : NodeName) (xs : List NodeName) → is_in name_eq x xs ≡ false → Lacks x xs
lacks_from x [] e = tt
lacks_from x (y ∷ ys) e = let parts = or_parts (name_eq x y) (is_in name_eq x ys) e in (parts.0, lacks_from x ys parts.1)

pub lacks_to : (x : NodeName) (xs : List NodeName) → Lacks x xs → is_in name_eq x xs ≡ false
lacks_to x [] h = refl
lacks_to x (y ∷ ys) h = or_from (name_eq x y) (is_in name_eq x ys) h.0 (lacks_to x ys h.1)

pub lacks_front : (x : NodeName) (xs ys : List NodeName) → Lacks x (xs ++ ys) → Lacks x xs
lacks_front x [] ys h = tt
lacks_front x (z ∷ xs) ys h = (h.0, lacks_front x xs ys h.1)

pub lacks_back : (x : NodeName) (xs ys : List NodeName) → Lacks x (xs ++ ys) → Lacks x ys
lacks_back x [] ys h = h
lacks_back x (z ∷ xs) ys h = lacks_back x xs ys h.1

pub lacks_both : (x : NodeName) (xs ys : List NodeName) → Lacks x xs → Lacks x ys → Lacks x (xs ++ ys)
lacks_both x [] ys h g = g
lacks_both x (z ∷ xs) ys h g = (h.0, lacks_both x xs ys h.1 g)

-- a name is not apart from itself
pub apart_not : {P : Type 0} (x y : NodeName) → name_eq x y ≡ true → name_eq x y ≡ false → P
apart_not x y e h = absurd (true≢false (sym e ∙ h))

-- equal names are apart from the same ones
pub swapped : (x y : NodeName) → name_eq x y ≡ false → name_eq y x ≡ false
swapped x y e = name_eq-turned y x ∙ e

-- ---- the inclusive ancestors

-- A tree in front of others, and a name.
module _ (n : Node) (c r : Trees) (x : NodeName) where
  pub path_here : name_eq n.name x ≡ true → inclusive_ancestors (tree n c r) x ≡ x ∷ []
  path_here e = cond-true (name_eq n.name x) (x ∷ []) (on_top (inclusive_ancestors c x) n.name (inclusive_ancestors r x)) e

  pub path_beside : name_eq n.name x ≡ false →
      inclusive_ancestors (tree n c r) x ≡ on_top (inclusive_ancestors c x) n.name (inclusive_ancestors r x)
  path_beside e = cond-false (name_eq n.name x) (x ∷ []) (on_top (inclusive_ancestors c x) n.name (inclusive_ancestors r x)) e

  pub path_after : name_eq n.name x ≡ false → inclusive_ancestors c x ≡ [] →
      inclusive_ancestors (tree n c r) x ≡ inclusive_ancestors r x
  path_after e none_below = path_beside e ∙ ap (λ path. on_top path n.name (inclusive_ancestors r x)) none_below

  pub path_below : (a : NodeName) (path : List NodeName) → name_eq n.name x ≡ false →
      inclusive_ancestors c x ≡ a ∷ path → inclusive_ancestors (tree n c r) x ≡ (a ∷ path) ++ n.name ∷ []
  path_below a path e is = path_beside e ∙ ap (λ path. on_top path n.name (inclusive_ancestors r x)) is

-- a name that is not there has none
pub path_none : (ts : Trees) (x : NodeName) → times_in ts x ≡ 0 → inclusive_ancestors ts x ≡ []
path_none none x e = refl
path_none (tree n c r) x e =
    let parts = times_none n c r x e in
    path_after n c r x parts.0 (path_none c x parts.1) ∙ path_none r x parts.2

-- nor a tree
pub subtree_gone : (ts : Trees) (x : NodeName) → times_in ts x ≡ 0 → subtree ts x ≡ none
subtree_gone none x e = refl
subtree_gone (tree n c r) x e = let gone = times_none n c r x e in rw (gone.0, subtree_gone c x gone.1) (subtree_gone r x gone.2)

-- a name that has none is not there
pub path_gone : (ts : Trees) (x : NodeName) → inclusive_ancestors ts x ≡ [] → times_in ts x ≡ 0
path_gone none x e = times_in-none x
path_gone (tree n c r) x e = elim (cases_Bool (name_eq n.name x)) [
  | inl h ↦ let is = path_here n c r x h in cc
  | inr h ↦ parts (inclusive_ancestors c x) refl (sym (path_beside n c r x h) ∙ e) h (path_gone c x) (path_gone r x)
]
  where
    parts : (path : List NodeName) → inclusive_ancestors c x ≡ path → on_top path n.name (inclusive_ancestors r x) ≡ [] → name_eq n.name x ≡ false
        → (inclusive_ancestors c x ≡ [] → times_in c x ≡ 0) → (inclusive_ancestors r x ≡ [] → times_in r x ≡ 0) → times_in (tree n c r) x ≡ 0
    parts [] is gone h below rest = let a = times_in-tree n c r x in let b = one-false _ h in let d = below is in let f = rest gone in omega arith
    parts (a ∷ path) is gone h below rest = cc

-- what is in none of the trees is on no path there
pub path_lacks : (ts : Trees) (x y : NodeName) → times_in ts y ≡ 0 → Lacks y (inclusive_ancestors ts x)
path_lacks none x y e = tt
path_lacks (tree n c r) x y e =
    let parts = times_none n c r y e in
    elim (cases_Bool (name_eq n.name x)) [
      | inl h ↦ subst (Lacks y) (sym (path_here n c r x h))
          (let same = name_eq-true n.name x h in (swapped x y (subst (λ (z : NodeName). name_eq z y ≡ false) same parts.0), tt))
      | inr h ↦ subst (Lacks y) (sym (path_beside n c r x h)) (top (inclusive_ancestors c x) parts.0 (path_lacks c x y parts.1) (path_lacks r x y parts.2))
    ]
  where
    top : (path : List NodeName) → name_eq n.name y ≡ false → Lacks y path → Lacks y (inclusive_ancestors r x) →
        Lacks y (on_top path n.name (inclusive_ancestors r x))
    top [] e h g = g
    top (a ∷ path) e h g = lacks_both y (a ∷ path) (n.name ∷ []) h (swapped n.name y e, tt)

-- they begin with the node
pub path_head : (ts : Trees) (x a : NodeName) (path : List NodeName) → inclusive_ancestors ts x ≡ a ∷ path → a ≡ x
path_head none x a path is = cc
path_head (tree n c r) x a path is = elim (cases_Bool (name_eq n.name x)) [
  | inl h ↦ let e = path_here n c r x h in cc
  | inr h ↦ top (inclusive_ancestors c x) (λ b below e. path_head c x b below e) (path_head r x a path) refl (sym (path_beside n c r x h) ∙ is)
]
  where
    top : (below : List NodeName) → ((b : NodeName) (below : List NodeName) → inclusive_ancestors c x ≡ b ∷ below → b ≡ x) →
        (inclusive_ancestors r x ≡ a ∷ path → a ≡ x)
        → inclusive_ancestors c x ≡ below → on_top below n.name (inclusive_ancestors r x) ≡ a ∷ path → a ≡ x
    top [] head rest e is = rest is
    top (b ∷ below) head rest e is = let same = head b below e in cc

-- ---- changes of trees

-- trees without the tree of x: the others stand as they stood
pub path_without : (ts : Trees) (x y : NodeName) → Lacks x (inclusive_ancestors ts y) → inclusive_ancestors (without x ts) y ≡ inclusive_ancestors ts y
path_without none x y lacks = refl
path_without (tree n c r) x y lacks = elim (cases_Bool (name_eq n.name y)) [
  | inl h ↦
      let other : name_eq n.name x ≡ false = let same = name_eq-true n.name y h in let off =
      (subst (Lacks x) (path_here n c r y h) lacks).0 in subst (λ (z : NodeName). name_eq z x ≡ false) (sym same) (swapped x y off) in
      rw (other, h) refl
  | inr h ↦ elim (cases_Bool (name_eq n.name x)) [
    | inl g ↦ top_here (inclusive_ancestors c y) refl (subst (Lacks x) (path_beside n c r y h) lacks) h g (path_without r x y)
    | inr g ↦ rw (g, h) (top_beside (inclusive_ancestors c y) refl (subst (Lacks x) (path_beside n c r y h) lacks) (path_without c x y) (path_without r x y))
  ]
]
  where
    top_here : (path : List NodeName) → inclusive_ancestors c y ≡ path → Lacks x (on_top path n.name (inclusive_ancestors r y)) →
        name_eq n.name y ≡ false → name_eq n.name x ≡ true
        → (Lacks x (inclusive_ancestors r y) → inclusive_ancestors (without x r) y ≡ inclusive_ancestors r y)
        → inclusive_ancestors (without x (tree n c r)) y ≡ inclusive_ancestors (tree n c r) y
    top_here [] e lacks h g rest = rw g (rest lacks ∙ sym (path_after n c r y h e))
    top_here (a ∷ path) e lacks h g rest = apart_not n.name x g (swapped x n.name (lacks_back x (a ∷ path) (n.name ∷ []) lacks).0)

    top_beside : (path : List NodeName) → inclusive_ancestors c y ≡ path → Lacks x (on_top path n.name (inclusive_ancestors r y))
        → (Lacks x (inclusive_ancestors c y) → inclusive_ancestors (without x c) y ≡ inclusive_ancestors c y)
        → (Lacks x (inclusive_ancestors r y) → inclusive_ancestors (without x r) y ≡ inclusive_ancestors r y)
        → on_top (inclusive_ancestors (without x c) y) n.name (inclusive_ancestors (without x r) y) ≡ on_top (inclusive_ancestors c y) n.name
        (inclusive_ancestors r y)
    top_beside [] e lacks below rest =
        ap (λ p. on_top p n.name (inclusive_ancestors (without x r) y)) (below (subst (Lacks x) (sym e) tt))
        ∙ ap (λ p. on_top p n.name (inclusive_ancestors (without x r) y)) e ∙ rest lacks ∙ ap (λ p. on_top p n.name (inclusive_ancestors r y)) (sym e)
    top_beside (a ∷ path) e lacks below rest =
        ap (λ p. on_top p n.name (inclusive_ancestors (without x r) y)) (below (subst (Lacks x) (sym e) (lacks_front x (a ∷ path) (n.name ∷ []) lacks)) ∙ e)
        ∙ ap (λ p. on_top p n.name (inclusive_ancestors r y)) (sym e)
