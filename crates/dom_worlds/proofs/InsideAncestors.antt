-- Which nodes stand in the tree of another one, by ancestors, children and counts.
use Rattle.dom_base.proofs.Std.{◌≡◌, ◌≤◌, true, false, List, [], ◌∷◌, ◌++◌, Some, None, refl, sym, ap, ◌∙◌, arith, true≢false, subst, drop, ◌||◌}
use Rattle.dom_base.proofs.Std.{AllByRecursion, cond-true, cond-false, or_right, or_left}
use Rattle.dom_model.proofs.Model.{NodeName, name_eq, is_in, first_of, Trees, none, tree, Node, nodes, names_of, roots, has_node, subtree, or_else, trees_below}
use Rattle.dom_model.proofs.Model.{children_of, times_in, inclusive_ancestors, is_inclusive_ancestor, on_top, parent_of, name_eq-same, name_eq-turned}
use Rattle.dom_model.proofs.Model.{name_eq-true}
use Rattle.dom_worlds.proofs.Lists.{all-then, by_cases, or-later}
use Rattle.dom_laws.proofs.Laws.{Once, by_times, times-here, times-elsewhere, times-more, times-parts, times_subtree, once_parts, subtree_gone, path_none}
use Rattle.dom_worlds.proofs.Trees.{ancestors-present, ancestors-there}
use Rattle.dom_worlds.proofs.TreeChangeLaws.{subtree-here, subtree-elsewhere, HasRoot, root-first, root-second, times-below}
use Rattle.dom_worlds.proofs.Insides.{inside, inside-here, inside-elsewhere, inside-times, inside-absent, or_else-none}

-- Ancestors.
not-first : (a b : _) → (a || b) ≡ false → a ≡ false
not-first true b h = absurd (true≢false h)
not-first false b h = refl

-- nor the second
not-second : (a b : _) → (a || b) ≡ false → b ≡ false
not-second true b h = absurd (true≢false h)
not-second false b h = h

-- not among two lists
not_in-front : (x : NodeName) (xs ys : List NodeName) → is_in name_eq x (xs ++ ys) ≡ false → is_in name_eq x xs ≡ false
not_in-front x [] ys h = refl
not_in-front x (y ∷ xs) ys h =
    by_cases (is_in name_eq x (y ∷ xs))
    (λ e. absurd (by_cases (name_eq x y)
    (λ f. true≢false (sym (or_left (name_eq x y) (is_in name_eq x (xs ++ ys)) f) ∙ h))
    (λ f. true≢false (sym (or-later (name_eq x y) (is_in name_eq x xs) f e) ∙ not_in-front x xs ys (not-second (name_eq x y) (is_in name_eq x (xs ++ ys)) h)))))
    (λ e. e)

-- nor in the second
not_in-back : (x : NodeName) (xs ys : List NodeName) → is_in name_eq x (xs ++ ys) ≡ false → is_in name_eq x ys ≡ false
not_in-back x [] ys h = h
not_in-back x (y ∷ xs) ys h = not_in-back x xs ys (not-second (name_eq x y) (is_in name_eq x (xs ++ ys)) h)

-- below a node that is no inclusive ancestor of z, z does not stand
pub inside-no_ancestor : (ts : Trees) (a z : NodeName) → Once ts → is_inclusive_ancestor ts a z ≡ false → inside ts a z ≡ 0
inside-no_ancestor none a z u h = refl
inside-no_ancestor (tree n c r) a z u h =
    let once = u z in
    let parts = once_parts n c r u in
    let top = on_top (inclusive_ancestors c z) n.name (inclusive_ancestors r z) in
    by_cases (name_eq n.name z)
    (λ e. let is = cond-true (name_eq n.name z) (z ∷ []) top e in
    let other : name_eq a z ≡ false = not-first (name_eq a z) false (sym (ap (is_in name_eq a) is) ∙ h) in
    let other_name : name_eq n.name a ≡ false = ap (λ y. name_eq y a) (name_eq-true n.name z e) ∙ name_eq-turned z a ∙ other in
    let g = times-here n c r z e in
    let k = inside-elsewhere n c r a z other_name in let below = inside-times c a z in let behind = inside-times r a z in omega arith)
    (λ e. let is = cond-false (name_eq n.name z) (z ∷ []) top e in
    let g = times-elsewhere n c r z e in
    let k : is_in name_eq a top ≡ false = sym (ap (is_in name_eq a) is) ∙ h in
    by_times (times_in c z)
    (λ t. let behind = inside-no_ancestor r a z parts.after (sym (ap (λ p. is_in name_eq a (on_top p n.name (inclusive_ancestors r z)))
    (path_none c z t)) ∙ k) in
    let below = inside-times c a z in
    by_cases (name_eq n.name a)
    (λ f. let i = inside-here n c r a z f in let j = times-elsewhere n c none z e in omega arith)
    (λ f. let i = inside-elsewhere n c r a z f in omega arith))
    (λ t. let at = ancestors-present c z t in
    let split : is_in name_eq a ((z ∷ at.0) ++ n.name ∷ []) ≡ false = sym (ap (λ p. is_in name_eq a (on_top p n.name (inclusive_ancestors r z))) at.1) ∙ k in
    let below = inside-no_ancestor c a z parts.below (ap (is_in name_eq a) at.1 ∙ not_in-front a (z ∷ at.0) (n.name ∷ []) split) in
    let other = not-first (name_eq a n.name) false (not_in-back a (z ∷ at.0) (n.name ∷ []) split) in
    let i = inside-elsewhere n c r a z (name_eq-turned n.name a ∙ other) in
    let behind = inside-times r a z in omega arith))

-- the tree of a node in the tree of another one
pub inside-subtree : (ts : Trees) (a y z : NodeName) → Once ts → 1 ≤ times_in (subtree ts a) y → inside ts y z ≡ inside (subtree ts a) y z
inside-subtree none a y z u h = absurd (omega arith)
inside-subtree (tree n c r) a y z u h =
    let once = u y in
    let once_a = u a in
    let parts = once_parts n c r u in
    let p = times-parts n c r y in
    by_cases (name_eq n.name a)
    (λ e. let s = ap (λ t. inside t y z) (subtree-here n c r a e) in
    let t = ap (λ t. times_in t y) (subtree-here n c r a e) in
    let behind = inside-absent r y z (omega arith) in omega arith)
    (λ e. let g = times-elsewhere n c r a e in
    by_times (times_in c a)
    (λ t. let same = subtree-elsewhere n c r a e ∙ ap (λ t. or_else t (subtree r a)) (subtree_gone c a t) in
    let k : 1 ≤ times_in (subtree r a) y = subst (λ t. 1 ≤ times_in t y) same h in
    let s = ap (λ t. inside t y z) same in
    let there = times_subtree r a y in
    let behind = inside-subtree r a y z parts.after k in
    let below = inside-absent c y z (let m = times-more n c none y in omega arith) in
    by_cases (name_eq n.name y) (λ f. absurd (let q = times-here n c r y f in omega arith)) (λ f. let i = inside-elsewhere n c r y z f in omega arith))
    (λ t. let same = subtree-elsewhere n c r a e ∙ ap (or_else (subtree c a)) (subtree_gone r a (omega arith)) ∙ or_else-none (subtree c a) in
    let k : 1 ≤ times_in (subtree c a) y = subst (λ t. 1 ≤ times_in t y) same h in
    let s = ap (λ t. inside t y z) same in
    let there = times_subtree c a y in
    let below = inside-subtree c a y z parts.below k in
    let m = times-more n c r y in
    let behind = inside-absent r y z (omega arith) in
    by_cases (name_eq n.name y) (λ f. absurd (let q = times-here n c r y f in omega arith)) (λ f. let i = inside-elsewhere n c r y z f in omega arith)))

-- it has no more nodes
pub inside-nested : (ts : Trees) (a y z : NodeName) → Once ts → 1 ≤ times_in (subtree ts a) y → inside ts y z ≤ times_in (subtree ts a) z
inside-nested ts a y z u h = omega (arith, inside-subtree ts a y z u h, inside-times (subtree ts a) y z)

-- Children and parents are there.
pub roots-there : (ts : Trees) → AllByRecursion (λ y. 1 ≤ times_in ts y) (names_of (roots ts))
roots-there none = tt
roots-there (tree n c r) = (
  (let g = times-here n c r n.name (name_eq-same n.name) in omega arith),
  all-then (λ y. 1 ≤ times_in r y) (λ y. 1 ≤ times_in (tree n c r) y)
      (λ y h. let g = times-more n c r y in omega arith) (names_of (roots r)) (roots-there r),
)

-- children stand in the tree of their parent
pub children-inside : (ts : Trees) (x : NodeName) → AllByRecursion (λ y. 1 ≤ times_in (subtree ts x) y) (children_of ts x)
children-inside ts x =
    let below = trees_below (subtree ts x) in
    all-then (λ y. 1 ≤ times_in below y) (λ y. 1 ≤ times_in (subtree ts x) y) (λ y h. let b = times-below (subtree ts x) y in omega arith)
    (names_of (roots below)) (roots-there below)

-- of what is found second in a list of nodes that are there
second-there : (P : NodeName → Type 0) (xs : List NodeName) (y : NodeName) → AllByRecursion P xs → first_of (drop 1 xs) ≡ Some y → P y
second-there P [] y h e = cc
second-there P (x ∷ []) y h e = cc
second-there P (x ∷ z ∷ xs) y h e = let same : Some z ≡ Some y = e in let is : z ≡ y = cc in subst P is h.1.0

-- a parent is there
pub parent-there : (ts : Trees) (x y : NodeName) → parent_of ts x ≡ Some y → 1 ≤ times_in ts y
parent-there ts x y e = second-there (λ z. 1 ≤ times_in ts z) (inclusive_ancestors ts x) y (ancestors-there ts x) e

-- no node is found in an empty list
second-none : (xs : List NodeName) (y : NodeName) → xs ≡ [] → first_of (drop 1 xs) ≡ Some y → ⊥
second-none [] y h e = cc
second-none (x ∷ xs) y h e = cc

-- and so is its child
pub child-there : (ts : Trees) (x y : NodeName) → parent_of ts x ≡ Some y → 1 ≤ times_in ts x
child-there ts x y e = by_times (times_in ts x) (λ z. absurd (second-none (inclusive_ancestors ts x) y (path_none ts x z) e)) (λ z. z)

-- A node that is counted is a node: a name behind other nodes
pub in-later : (x : NodeName) (ns ms : List Node) → is_in name_eq x (names_of ms) ≡ true → is_in name_eq x (names_of (ns ++ ms)) ≡ true
in-later x [] ms h = h
in-later x (n ∷ ns) ms h = or_right (name_eq x n.name) (is_in name_eq x (names_of (ns ++ ms))) (in-later x ns ms h)

-- a name in front of other nodes
in-front : (x : NodeName) (ns ms : List Node) → is_in name_eq x (names_of ns) ≡ true → is_in name_eq x (names_of (ns ++ ms)) ≡ true
in-front x [] ms h = absurd (true≢false (sym h))
in-front x (n ∷ ns) ms h =
    by_cases (name_eq x n.name) (λ e. or_left (name_eq x n.name) (is_in name_eq x (names_of (ns ++ ms))) e)
    (λ e. or_right (name_eq x n.name) (is_in name_eq x (names_of (ns ++ ms)))
    (in-front x ns ms (or-later (name_eq x n.name) (is_in name_eq x (names_of ns)) e h)))

-- by its count
pub times-has_node : (ts : Trees) (x : NodeName) → 1 ≤ times_in ts x → has_node ts x ≡ true
times-has_node none x h = absurd (omega arith)
times-has_node (tree n c r) x h =
    let others = is_in name_eq x (names_of (nodes c ++ nodes r)) in
    by_cases (name_eq x n.name) (λ e. or_left (name_eq x n.name) others e)
    (λ e. let g = times-elsewhere n c r x (name_eq-turned n.name x ∙ e) in
    or_right (name_eq x n.name) others
    (by_times (times_in c x) (λ z. in-later x (nodes c) (nodes r) (times-has_node r x (omega arith)))
    (λ z. in-front x (nodes c) (nodes r) (times-has_node c x z))))

-- A node without a parent is a root.
pub no_parent-root : (ts : Trees) (x : NodeName) → 1 ≤ times_in ts x → parent_of ts x ≡ None → HasRoot ts x
no_parent-root none x h e = absurd (omega arith)
no_parent-root (tree n c r) x h e =
    let top = on_top (inclusive_ancestors c x) n.name (inclusive_ancestors r x) in
    by_cases (name_eq n.name x) (λ k. root-first n c r x (name_eq-turned x n.name ∙ k))
    (λ k. let g = times-elsewhere n c r x k in
    let is = cond-false (name_eq n.name x) (x ∷ []) top k in
    by_times (times_in c x)
    (λ z. root-second n c r x (no_parent-root r x (omega arith)
    (sym (ap (λ path. first_of (drop 1 path)) (is ∙ ap (λ path. on_top path n.name (inclusive_ancestors r x)) (path_none c x z))) ∙ e)))
    (λ z. let at = ancestors-present c x z in
    absurd (longer at.0 n.name (sym (ap (λ path. first_of (drop 1 path)) (is ∙ ap (λ path. on_top path n.name (inclusive_ancestors r x)) at.1)) ∙ e))))
  where
    longer : (path : List NodeName) (y : NodeName) → first_of (path ++ y ∷ []) ≡ None → ⊥
    longer [] y e = cc
    longer (x ∷ path) y e = cc
