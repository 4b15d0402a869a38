-- Which node stands in whose tree stays where nothing leaves it; and where a node leaves, what was before it or behind its
-- tree stays.
use Rattle.dom_base.proofs.Std.{◌≡◌, ◌+◌, ◌≤◌, true, false, List, [], ◌∷◌, ◌++◌, Option, refl, sym, ap, ◌∙◌, arith, true≢false, subst, ◌||◌, AllByRecursion}
use Rattle.dom_base.proofs.Std.{cond-true, cond-false}
use Rattle.dom_model.proofs.Model.{NodeName, name_eq, is_in, items_before, Trees, none, tree, Node, nodes, names_of, roots, subtree, or_else}
use Rattle.dom_model.proofs.Model.{trees_below, inclusive_ancestors, times_in, is_inclusive_ancestor, on_top, without, put_before, put_below, placed}
use Rattle.dom_model.proofs.Model.{with_node, name_eq-same, name_eq-turned, name_eq-true}
use Rattle.dom_worlds.proofs.Lists.{all-then, all-append, by_cases, or-later}
use Rattle.dom_laws.proofs.Laws.{Once, by_times, times-here, times-elsewhere, times-more, times-parts, once_parts, subtree_gone, path_none}
use Rattle.dom_worlds.proofs.Trees.{root-there, nodes-there, ancestors-present}
use Rattle.dom_worlds.proofs.TreeChangeLaws.{HasRoot, without-here, without-elsewhere, subtree-here, subtree-elsewhere, put_below-here, put_below-elsewhere}
use Rattle.dom_worlds.proofs.TreeChangeLaws.{times-put_below_all, put_below-absent, times-put_before}
use Rattle.dom_worlds.proofs.Insides.{CanPlace, inside, inside-here, inside-elsewhere, inside-times, inside-absent, times-inside, inside-put_root}
use Rattle.dom_worlds.proofs.Insides.{inside-put_before, without-absent, or_else-none, times-parted}
use Rattle.dom_worlds.proofs.InsideAncestors.{inside-no_ancestor}

-- By ancestors.
among-two : (a b : NodeName) (xs : List NodeName) → is_in name_eq a (xs ++ b ∷ []) ≡ true → (is_in name_eq a xs ≡ true → ⊥) → name_eq a b ≡ true
among-two a b [] h f = by_cases (name_eq a b) (λ e. e) (λ e. absurd (true≢false (sym (or-later (name_eq a b) false e h))))
among-two a b (x ∷ xs) h f =
    by_cases (name_eq a x) (λ e. absurd (f (ap (λ t. t || is_in name_eq a xs) e)))
    (λ e. among-two a b xs (or-later (name_eq a x) (is_in name_eq a (xs ++ b ∷ [])) e h) (λ k. f (ap (λ t. t || is_in name_eq a xs) e ∙ k)))

-- an inclusive ancestor has the node in its tree
pub ancestor-inside : (ts : Trees) (a z : NodeName) → is_inclusive_ancestor ts a z ≡ true → 1 ≤ inside ts a z
ancestor-inside none a z h = absurd (true≢false (sym h))
ancestor-inside (tree n c r) a z h =
    let top = on_top (inclusive_ancestors c z) n.name (inclusive_ancestors r z) in
    let more = times-more n c none z in
    by_cases (name_eq n.name z)
    (λ e. let is = cond-true (name_eq n.name z) (z ∷ []) top e in
    let same : name_eq a z ≡ true = by_cases (name_eq a z) (λ k. k)
    (λ k. absurd (true≢false (sym (or-later (name_eq a z) false k (sym (ap (is_in name_eq a) is) ∙ h))))) in
    let named : name_eq n.name a ≡ true = ap (name_eq n.name) (name_eq-true a z same) ∙ e in
    let i = inside-here n c r a z named in let g = times-here n c none z e in omega arith)
    (λ e. let is = cond-false (name_eq n.name z) (z ∷ []) top e in
    let g = times-elsewhere n c none z e in
    let k : is_in name_eq a top ≡ true = sym (ap (is_in name_eq a) is) ∙ h in
    by_times (times_in c z)
    (λ t. let behind = ancestor-inside r a z (sym (ap (λ p. is_in name_eq a (on_top p n.name (inclusive_ancestors r z))) (path_none c z t)) ∙ k) in
    by_cases (name_eq n.name a) (λ f. let i = inside-here n c r a z f in omega arith) (λ f. let i = inside-elsewhere n c r a z f in omega arith))
    (λ t. by_cases (name_eq n.name a) (λ f. let i = inside-here n c r a z f in omega arith)
    (λ f. let i = inside-elsewhere n c r a z f in
    let at = ancestors-present c z t in
    by_cases (is_in name_eq a (inclusive_ancestors c z)) (λ j. let below = ancestor-inside c a z j in omega arith)
    (λ j. absurd (true≢false (sym (among-two a n.name (z ∷ at.0)
    (sym (ap (λ p. is_in name_eq a (on_top p n.name (inclusive_ancestors r z))) at.1) ∙ k)
    (λ l. true≢false (sym (ap (is_in name_eq a) at.1 ∙ l) ∙ j))) ∙ name_eq-turned a n.name ∙ f))))))

-- and the other way round
pub inside-ancestor : (ts : Trees) (a z : NodeName) → Once ts → 1 ≤ inside ts a z → is_inclusive_ancestor ts a z ≡ true
inside-ancestor ts a z u h = by_cases (is_inclusive_ancestor ts a z) (λ e. e) (λ e. absurd (let k = inside-no_ancestor ts a z u e in omega arith))

-- below roots stands no more than in their trees
pub inside-below : (ts : Trees) (a z : NodeName) → inside (trees_below ts) a z ≤ inside ts a z
inside-below none a z = omega arith
inside-below (tree n c r) a z =
    by_cases (name_eq n.name a) (λ e. let i = inside-here n c r a z e in let t = inside-times c a z in let m = times-more n c none z in omega
    arith) (λ e. let i = inside-elsewhere n c r a z e in omega arith)

-- What stands below a root that is taken out, and what is left, is all.
inside-parted : (ts : Trees) (y a z : NodeName) → Once ts → HasRoot ts y → inside (without y ts) a z + inside (subtree ts y) a z ≡ inside ts a z
inside-parted none y a z u h = absurd (true≢false (sym h))
inside-parted (tree n c r) y a z u h =
    let once = u y in
    by_cases (name_eq n.name y)
    (λ e. let g = times-here n c r y e in
    let s = ap (λ t. inside t a z) (without-here n c r y e ∙ without-absent r y (omega arith)) in let t =
    ap (λ t. inside t a z) (subtree-here n c r y e) in omega arith)
    (λ e. let g = times-elsewhere n c r y e in
    let later = or-later (name_eq y n.name) (is_in name_eq y (names_of (roots r))) (name_eq-turned y n.name ∙ e) h in
    let there = root-there r y later in
    let s = ap (λ t. inside t a z) (without-elsewhere n c r y e ∙ ap (λ t. tree n t (without y r)) (without-absent c y (omega arith))) in
    let t = ap (λ t. inside t a z) (subtree-elsewhere n c r y e ∙ ap (λ t. or_else t (subtree r y)) (subtree_gone c y (omega arith))) in
    let behind = inside-parted r y a z (λ k. let o = u k in let m = times-more n c r k in omega arith) later in omega arith)

-- What stands in the tree of a stays there.
module _ (before : Option NodeName) (a z : NodeName) where
  -- what is put below a node that is there
  inside-put_below_all : (parent : NodeName) (new ts : Trees) → times_in ts parent ≡ 1 →
      inside new a z + inside ts a z ≤ inside (put_below parent before new ts) a z
  inside-put_below_all parent new none h = absurd (omega arith)
  inside-put_below_all parent new (tree n c r) h =
      let small = inside-times new a z in
      by_cases (name_eq n.name parent)
      (λ e. let s = ap (λ t. inside t a z) (put_below-here parent before new n c r e) in
      let g = times-here n c r parent e in
      let dc = put_below-absent parent before new c (omega arith) in
      let d = ap (λ t. inside (put_before before new t) a z) dc in
      let dt = ap (λ t. times_in (put_before before new t) z) dc in
      let f = ap (λ t. inside t a z) (put_below-absent parent before new r (omega arith)) in
      let b = inside-put_before before new a z c in
      let bt = times-put_before before new c z in
      by_cases (name_eq n.name a)
      (λ k. let i = inside-here n c r a z k in let j = inside-here n (put_before before new (put_below parent before new c))
      (put_below parent before new r) a z k in
      let p = times-parts n c none z in let q = times-parts n (put_before before new (put_below parent before new c)) none z in omega arith)
      (λ k. let i = inside-elsewhere n c r a z k in let j = inside-elsewhere n (put_before before new (put_below parent before new c))
      (put_below parent before new r) a z k in omega arith))
      (λ e. let s = ap (λ t. inside t a z) (put_below-elsewhere parent before new n c r e) in
      let g = times-elsewhere n c r parent e in
      by_times (times_in c parent)
      (λ t. let dc = put_below-absent parent before new c t in
      let d = ap (λ t. inside t a z) dc in let dt = ap (λ t. times_in (tree n t none) z) dc in
      let behind = inside-put_below_all parent new r (omega arith) in
      by_cases (name_eq n.name a)
      (λ k. let i = inside-here n c r a z k in let j = inside-here n (put_below parent before new c) (put_below parent before new r) a z k in omega arith)
      (λ k. let i = inside-elsewhere n c r a z k in let j = inside-elsewhere n (put_below parent before new c) (put_below parent before new r) a z
      k in omega arith))
      (λ t. let d = ap (λ t. inside t a z) (put_below-absent parent before new r (omega arith)) in
      let below = inside-put_below_all parent new c (omega arith) in
      let all = times-put_below_all parent before new c z (omega arith) in
      by_cases (name_eq n.name a)
      (λ k. let i = inside-here n c r a z k in let j = inside-here n (put_below parent before new c) (put_below parent before new r) a z k in
      let p = times-parts n c none z in let q = times-parts n (put_below parent before new c) none z in omega arith)
      (λ k. let i = inside-elsewhere n c r a z k in let j = inside-elsewhere n (put_below parent before new c) (put_below parent before new r) a z
      k in omega arith)))

  -- a root that is placed
  pub inside-placed_all : {ts : Trees} {y parent : NodeName} → CanPlace ts y parent → HasRoot ts y →
      inside ts a z ≤ inside (placed y parent before ts) a z
  inside-placed_all {ts} {y} {parent} c k =
      let u = c.unique in let t = c.below.there in let h = c.below.apart in
      let once = u parent in
      let s = times-inside ts y parent in
      let w = times-parted ts y parent u in
      let p = inside-put_below_all parent (subtree ts y) (without y ts) (omega arith) in
      let q = inside-parted ts y a z u k in omega arith

-- beside a new node
pub inside-with_node_all : (n : Node) (ts : Trees) (a z : NodeName) → inside ts a z ≤ inside (with_node n ts) a z
inside-with_node_all n ts a z = let p = inside-put_root n.name (tree n none none) ts a z in omega arith

-- Removals. What does not stand in the tree that leaves is left where it was
pub inside-left : (ts : Trees) (x a z : NodeName) → Once ts → inside ts x z ≡ 0 → inside ts a z ≤ inside (without x ts) a z
inside-left none x a z u h = omega arith
inside-left (tree n c r) x a z u h =
    let once = u x in
    let parts = once_parts n c r u in
    by_cases (name_eq n.name x)
    (λ e. let g = times-here n c r x e in
    let s = ap (λ t. inside t a z) (without-here n c r x e ∙ without-absent r x (omega arith)) in
    let i = inside-here n c r x z e in
    let below = inside-times c a z in let more = times-more n c none z in
    by_cases (name_eq n.name a) (λ k. let j = inside-here n c r a z k in omega arith) (λ k. let j = inside-elsewhere n c r a z k in omega arith))
    (λ e. let s = ap (λ t. inside t a z) (without-elsewhere n c r x e) in
    let i = inside-elsewhere n c r x z e in
    let below = inside-left c x a z parts.below (omega arith) in
    let behind = inside-left r x a z parts.after (omega arith) in
    by_cases (name_eq n.name a)
    (λ k. let j = inside-here n c r a z k in let l = inside-here n (without x c) (without x r) a z k in
    let w = times-parted c x z parts.below in let v = times-inside c x z in
    let p = times-parts n c none z in let q = times-parts n (without x c) none z in omega arith)
    (λ k. let j = inside-elsewhere n c r a z k in let l = inside-elsewhere n (without x c) (without x r) a z k in omega arith))

-- a node z that stands in the trees of two others, the first of which is not in that of the second
pub record IsInBoth (ts : Trees) (a x z : NodeName) : Type 0 where
  pub first : 1 ≤ inside ts a z
  pub second : 1 ≤ inside ts x z
  pub apart : inside ts x a ≡ 0

-- of two nodes in whose trees a third one stands, one stands in the tree of the other
pub inside-comparable : (ts : Trees) (a x z : NodeName) → Once ts → IsInBoth ts a x z → 1 ≤ times_in (subtree ts a) x
inside-comparable none a x z u both = absurd (let h = both.first in omega arith)
inside-comparable (tree n c r) a x z u both =
    let h = both.first in
    let g = both.second in
    let k = both.apart in
    let once = u z in
    let once_a = u a in
    let parts = once_parts n c r u in
    let zr = inside-times r x z in
    let zc = inside-times c x z in
    let ar = inside-times r a z in
    let ac = inside-times c a z in
    let pz = times-parts n c r z in
    let mz = times-more n c none z in
    by_cases (name_eq n.name a)
    (λ e. let i = inside-here n c r a z e in
    let s = ap (λ t. times_in t x) (subtree-here n c r a e) in
    let ga = times-here n c none a e in
    by_cases (name_eq n.name x) (λ f. absurd (let j = inside-here n c r x a f in omega arith))
    (λ f. let j = inside-elsewhere n c r x z f in
    let t = times-elsewhere n c none x f in
    let there = by_times (times_in c x) (λ q. absurd
    (let none_there = inside-absent c x z q in let gr = inside-absent r a z (let gh = times-here n c r a e in omega arith) in omega
    arith)) (λ q. q) in omega arith))
    (λ e. let i = inside-elsewhere n c r a z e in
    let ga = times-elsewhere n c r a e in
    by_cases (name_eq n.name x)
    (λ f. absurd (let j = inside-here n c r x z f in let l = inside-here n c r x a f in let ta = times-elsewhere n c none a e in
    let m = inside-absent c a z (omega arith) in let o = u x in let gx = times-here n c r x f in let q =
    inside-absent r x z (omega arith) in omega arith))
    (λ f. let j = inside-elsewhere n c r x z f in
    let l = inside-elsewhere n c r x a f in
    by_times (times_in c a)
    (λ t. let ca = inside-absent c a z t in
    let same = subtree-elsewhere n c r a e ∙ ap (λ t. or_else t (subtree r a)) (subtree_gone c a t) in
    let s = ap (λ t. times_in t x) same in
    let behind = inside-comparable r a x z parts.after (record { first = omega arith; second = omega arith; apart = omega arith }) in omega arith)
    (λ t. let ra = inside-absent r a z (omega arith) in
    let same = subtree-elsewhere n c r a e ∙ ap (or_else (subtree c a)) (subtree_gone r a (omega arith)) ∙ or_else-none (subtree c a) in
    let s = ap (λ t. times_in t x) same in
    let below = inside-comparable c a x z parts.below (record { first = omega arith; second = omega arith; apart = omega arith }) in omega arith)))

-- What comes before a node in tree order does not stand in its tree.
before-front : (x : NodeName) (ns ms : List Node) → is_in name_eq x (names_of ns) ≡ true →
    items_before name_eq x (names_of (ns ++ ms)) ≡ items_before name_eq x (names_of ns)
before-front x [] ms h = absurd (true≢false (sym h))
before-front x (n ∷ ns) ms h =
    by_cases (name_eq x n.name)
    (λ e. cond-true (name_eq x n.name) [] (n.name ∷ items_before name_eq x (names_of (ns ++ ms))) e ∙
    sym (cond-true (name_eq x n.name) [] (n.name ∷ items_before name_eq x (names_of ns)) e))
    (λ e. cond-false (name_eq x n.name) [] (n.name ∷ items_before name_eq x (names_of (ns ++ ms))) e ∙
    ap (λ ys. n.name ∷ ys) (before-front x ns ms (or-later (name_eq x n.name) (is_in name_eq x (names_of ns)) e h))
    ∙ sym (cond-false (name_eq x n.name) [] (n.name ∷ items_before name_eq x (names_of ns)) e))

-- behind nodes among which it is not
before-back : (x : NodeName) (ns ms : List Node) → is_in name_eq x (names_of ns) ≡ false →
    items_before name_eq x (names_of (ns ++ ms)) ≡ names_of ns ++ items_before name_eq x (names_of ms)
before-back x [] ms h = refl
before-back x (n ∷ ns) ms h =
    by_cases (name_eq x n.name) (λ e. absurd (true≢false (sym (ap (λ t. t || is_in name_eq x (names_of ns)) e) ∙ h)))
    (λ e. cond-false (name_eq x n.name) [] (n.name ∷ items_before name_eq x (names_of (ns ++ ms))) e ∙
    ap (λ ys. n.name ∷ ys) (before-back x ns ms (sym (ap (λ t. t || is_in name_eq x (names_of ns)) e) ∙ h)))

-- all names of nodes
all-named : (P : NodeName → Type 0) (ns : List Node) → AllByRecursion (λ (n : Node). P n.name) ns → AllByRecursion P (names_of ns)
all-named P [] h = tt
all-named P (n ∷ ns) h = (h.0, all-named P ns h.1)

-- those before
pub before-apart : (ts : Trees) (x : NodeName) → Once ts →
    AllByRecursion (λ y. (1 ≤ times_in ts y) × (inside ts x y ≡ 0)) (items_before name_eq x (names_of (nodes ts)))
before-apart none x u = tt
before-apart (tree n c r) x u =
    let T : NodeName → Type 0 = λ y. (1 ≤ times_in (tree n c r) y) × (inside (tree n c r) x y ≡ 0) in
    let parts = once_parts n c r u in
    let rest = items_before name_eq x (names_of (nodes c ++ nodes r)) in
    by_cases (name_eq x n.name)
    (λ e. subst (AllByRecursion T) (sym (cond-true (name_eq x n.name) [] (n.name ∷ rest) e)) tt)
    (λ e. let other : name_eq n.name x ≡ false = name_eq-turned n.name x ∙ e in
    let here : T n.name = (
      (let g = times-here n c r n.name (name_eq-same n.name) in omega arith),
      (let once = u n.name in let g = times-here n c r n.name (name_eq-same n.name) in let i = inside-elsewhere n c r x n.name other in
          let a = inside-times c x n.name in let b = inside-times r x n.name in omega arith),
    ) in
    let below : (y : NodeName) → (1 ≤ times_in c y) × (inside c x y ≡ 0) → T y = λ y h. (
      (let h0 = h.0 in let g = times-more n c r y in omega arith),
      (let h0 = h.0 in let h1 = h.1 in let once = u y in let p = times-parts n c r y in let m = times-more n c none y in let i = inside-elsewhere
          n c r x y other in let b = inside-times r x y in omega arith),
    ) in
    subst (AllByRecursion T) (sym (cond-false (name_eq x n.name) [] (n.name ∷ rest) e)) (
      here,
      by_cases (is_in name_eq x (names_of (nodes c)))
          (λ k. subst (AllByRecursion T) (sym (before-front x (nodes c) (nodes r) k))
          (all-then (λ y. (1 ≤ times_in c y) × (inside c x y ≡ 0)) T below (items_before name_eq x (names_of (nodes c))) (before-apart c x parts.below)))
          (λ k. let gone : times_in c x ≡ 0 = by_times (times_in c x) (λ z. z)
          (λ z. absurd (true≢false (sym (Rattle.dom_worlds.proofs.InsideAncestors.times-has_node c x z) ∙ k))) in
          subst (AllByRecursion T) (sym (before-back x (nodes c) (nodes r) k))
          (all-append T (names_of (nodes c)) (items_before name_eq x (names_of (nodes r)))
          (all-named T (nodes c) (all-then (λ (m : Node). 1 ≤ times_in c m.name) (λ m. T m.name)
          (λ m h. below m.name (h, inside-absent c x m.name gone)) (nodes c) (nodes-there c)))
          (all-then (λ y. (1 ≤ times_in r y) × (inside r x y ≡ 0)) T
          (λ y h. (
            (let h0 = h.0 in let g = times-more n c r y in omega arith),
            (let h1 = h.1 in let i = inside-elsewhere n c r x y other in let b = inside-absent c x y gone in omega arith),
          )) (items_before name_eq x (names_of (nodes r))) (before-apart r x parts.after)))),
    ))
