-- What the start of a range does not come before: its start node with the first children, or a node above it with those up to
-- the one that holds the start.
use Rattle.dom_base.proofs.Std.{zero, suc, ◌≡◌, ◌≤◌, ◌<◌, ℕ, ◌+◌, ◌*◌, Bool, true, false, ◌&&◌, ◌||◌, eqb, List, [], ◌∷◌, ◌++◌, map, take, Some, None}
use Rattle.dom_base.proofs.Std.{option_map, unwrap_or, refl, sym, ap, ◌∙◌, arith, true≢false, subst, nat_lt, ◌==◌, AllByRecursion, option_or, cond-true}
use Rattle.dom_base.proofs.Std.{cond-false, ltb-true, eqb-true, false_from_ne_true, eq-eqb}
use Rattle.dom_model.proofs.Model.{NodeName, times_in, Trees, none, tree, Node, names_of, roots, subtree, or_else, trees_below, children_of, parent_of}
use Rattle.dom_model.proofs.Model.{is_inclusive_ancestor, name_eq, is_in, items_before, place_from, list_before, boundary_place, is_before, Range, at}
use Rattle.dom_model.proofs.Model.{name_eq-same, name_eq-turned, name_eq-true}
use Rattle.dom_worlds.proofs.Descents.{ancestor-inside}
use Rattle.dom_worlds.proofs.Insides.{or_else-none}
use Rattle.dom_worlds.proofs.InsideAncestors.{child-there, parent-there}
use Rattle.dom_worlds.proofs.ChildCounts.{root-below}
use Rattle.dom_worlds.proofs.Lists.{all-then, by_cases, or-later}
use Rattle.dom_worlds.proofs.Roots.{self-above, parent-above}
use Rattle.dom_worlds.proofs.TableRecords.{inside-alone, above-above}
use Rattle.dom_worlds.proofs.TreeChangeLaws.{HasRoot, subtree-here, subtree-elsewhere, times-below}
use Rattle.dom_laws.proofs.Laws.{Once, by_times, times-here, times-elsewhere, times-more, times_subtree, once_parts, subtree_gone}
use Rattle.dom_worlds.proofs.Trees.{root-there}

-- Places. A name without a node has none.
place-absent : (k : ℕ) (ts : Trees) (x : NodeName) → times_in ts x ≡ 0 → place_from k ts x ≡ None
place-absent k none x h = refl
place-absent k (tree n c r) x h =
    by_cases (name_eq n.name x) (λ e. absurd (let g = times-here n c r x e in omega arith))
    (λ e. let g = times-elsewhere n c r x e in
    cond-false (name_eq n.name x) (Some (k ∷ [])) (option_or (option_map (λ path. k ∷ path) (place_from 0 c x)) (place_from (k + 1) r x)) e
    ∙ ap (λ o. option_or (option_map (λ path. k ∷ path) o) (place_from (k + 1) r x)) (place-absent 0 c x (omega arith)) ∙
    place-absent (k + 1) r x (omega arith))

-- Places in a first tree with others behind it.
module _ (n : Node) (c r : Trees) (x : NodeName) where
  -- at the first root
  place-here : (k : ℕ) → name_eq n.name x ≡ true → place_from k (tree n c r) x ≡ Some (k ∷ [])
  place-here k e = cond-true (name_eq n.name x) (Some (k ∷ [])) (option_or (option_map (λ path. k ∷ path) (place_from 0 c x)) (place_from (k + 1) r x)) e

  -- below it
  place-below : {path : List ℕ} {k : ℕ} → name_eq n.name x ≡ false → place_from 0 c x ≡ Some path → place_from k (tree n c r) x ≡ Some (k ∷ path)
  place-below {path} {k} e h =
      cond-false (name_eq n.name x) (Some (k ∷ [])) (option_or (option_map (λ path. k ∷ path) (place_from 0 c x)) (place_from (k + 1) r x)) e
      ∙ ap (λ o. option_or (option_map (λ path. k ∷ path) o) (place_from (k + 1) r x)) h

  -- behind it
  place-behind : (k : ℕ) → name_eq n.name x ≡ false → times_in c x ≡ 0 → place_from k (tree n c r) x ≡ place_from (k + 1) r x
  place-behind k e z =
      cond-false (name_eq n.name x) (Some (k ∷ [])) (option_or (option_map (λ path. k ∷ path) (place_from 0 c x)) (place_from (k + 1) r x)) e
      ∙ ap (λ o. option_or (option_map (λ path. k ∷ path) o) (place_from (k + 1) r x)) (place-absent 0 c x z)

-- what has a place is there
has-place : (k : ℕ) (ts : Trees) (x : NodeName) (path : List ℕ) → place_from k ts x ≡ Some path → 1 ≤ times_in ts x
has-place k ts x path p = by_times (times_in ts x) (λ z. let none_there : None ≡ Some path = sym (place-absent k ts x z) ∙ p in cc) (λ z. z)

-- a node that is there has a place
place-there : (k : ℕ) (ts : Trees) (x : NodeName) → 1 ≤ times_in ts x → (path : List ℕ) × (place_from k ts x ≡ Some path)
place-there k none x h = absurd (omega arith)
place-there k (tree n c r) x h =
    by_cases (name_eq n.name x) (λ e. (k ∷ [], place-here n c r x k e))
    (λ e. let g = times-elsewhere n c r x e in
    by_times (times_in c x) (λ z. let at = place-there (k + 1) r x (omega arith) in (at.0, place-behind n c r x k e z ∙ at.1))
    (λ z. let at = place-there 0 c x z in (k ∷ at.0, place-below n c r x e at.1)))

-- the places of a node, and of another one among the trees below it
record AreNested (k : ℕ) (ts : Trees) (a z : NodeName) (path rest : List ℕ) : Type 0 where
  outer : place_from k ts a ≡ Some path
  inner : place_from 0 (trees_below (subtree ts a)) z ≡ Some rest

-- the place of a node below another one
place-nested : (k : ℕ) (ts : Trees) (a z : NodeName) {path rest : List ℕ} → Once ts → AreNested k ts a z path rest →
    place_from k ts z ≡ Some (path ++ rest)
place-nested k none a z u at = let p = at.outer in cc
place-nested k (tree n c r) a z {path} {rest} u places =
    let p = places.outer in
    let q = places.inner in
    let t = has-place k (tree n c r) a path p in
    let b = has-place 0 (trees_below (subtree (tree n c r) a)) z rest q in
    let once = u a in
    let once_z = u z in
    let parts = once_parts n c r u in
    by_cases (name_eq n.name a)
    (λ e. let same = ap trees_below (subtree-here n c r a e) in
    let inner = subst (λ us. 1 ≤ times_in us z) same b in
    let at = subst (λ us. place_from 0 us z ≡ Some rest) same q in
    let one : Some (k ∷ []) ≡ Some path = sym (place-here n c r a k e) ∙ p in
    let is : k ∷ [] ≡ path = cc in
    let other : name_eq n.name z ≡ false = by_cases (name_eq n.name z) (λ f. absurd (let g = times-here n c r z f in omega arith)) (λ f. f) in
    place-below n c r z other at ∙ ap (λ xs. Some (xs ++ rest)) is)
    (λ e. let g = times-elsewhere n c r a e in
    by_times (times_in c a)
    (λ y. let same = ap trees_below (subtree-elsewhere n c r a e ∙ ap (λ t. or_else t (subtree r a)) (subtree_gone c a y)) in
    let inner = subst (λ us. 1 ≤ times_in us z) same b in
    let at = subst (λ us. place_from 0 us z ≡ Some rest) same q in
    let there : 1 ≤ times_in r z = let s = times-below (subtree r a) z in let t = times_subtree r a z in omega arith in
    let other : name_eq n.name z ≡ false = by_cases (name_eq n.name z) (λ f. absurd (let g = times-here n c r z f in omega arith)) (λ f. f) in
    let gz = times-elsewhere n c r z other in
    place-behind n c r z k other (omega arith) ∙ place-nested (k + 1) r a z parts.after (record { outer = sym (place-behind n c r a k e y) ∙ p; inner = at }))
    (λ y. let same = ap trees_below (subtree-elsewhere n c r a e ∙ ap (or_else (subtree c a)) (subtree_gone r a (omega arith)) ∙
    or_else-none (subtree c a)) in
    let inner = subst (λ us. 1 ≤ times_in us z) same b in
    let at = subst (λ us. place_from 0 us z ≡ Some rest) same q in
    let there : 1 ≤ times_in c z = let s = times-below (subtree c a) z in let t = times_subtree c a z in omega arith in
    let other : name_eq n.name z ≡ false = by_cases (name_eq n.name z) (λ f. absurd (let g = times-here n c r z f in omega arith)) (λ f. f) in
    let own = place-there 0 c a y in
    let one : Some (k ∷ own.0) ≡ Some path = sym (place-below n c r a e own.1) ∙ p in
    let is : k ∷ own.0 ≡ path = cc in
    place-below n c r z other (place-nested 0 c a z parts.below (record { outer = own.1; inner = at })) ∙ ap (λ xs. Some (xs ++ rest)) is))

-- Roots of a list, by their numbers: those before a number, and those up to one of them.
record IsRootAt (k : ℕ) (us : Trees) (bound : ℕ) (x : NodeName) : Type 0 where
  there : 1 ≤ times_in us x
  index : ℕ
  place : place_from k us x ≡ Some ((k + index) ∷ [])
  below : index ≤ bound

-- behind a first root
later-root : {r : Trees} {bound : ℕ} (k : ℕ) (n : Node) (c : Trees) → Once (tree n c r) → (x : NodeName) → IsRootAt (k + 1) r bound x →
    IsRootAt k (tree n c r) (suc bound) x
later-root {r} k n c u x h =
    let once = u x in
    let t = h.there in
    let g = times-more n c r x in
    let other : name_eq n.name x ≡ false = by_cases (name_eq n.name x) (λ f. absurd (let q = times-here n c r x f in omega arith)) (λ f. f) in
    let q = times-elsewhere n c r x other in
    let number : (k + 1) + h.index ≡ k + suc h.index = omega arith in
    record {
      there = omega arith;
      index = suc h.index;
      place = place-behind n c r x k other (omega arith) ∙ h.place ∙ ap (λ i. Some (i ∷ [])) number;
      below = let b = h.below in omega arith;
    }

-- the first root
first-root : (k : ℕ) (n : Node) (c r : Trees) (bound : ℕ) → IsRootAt k (tree n c r) bound n.name
first-root k n c r bound =
    let g = times-here n c r n.name (name_eq-same n.name) in
    let number : k ≡ k + 0 = omega arith in
    record { there = omega arith; index = 0; place = place-here n c r n.name k (name_eq-same n.name) ∙ ap (λ i. Some (i ∷ [])) number; below = omega arith }

-- the first roots
roots-taken : (k : ℕ) (us : Trees) (m : ℕ) → Once us → AllByRecursion (IsRootAt k us m) (take (suc m) (names_of (roots us)))
roots-taken k none m u = tt
roots-taken k (tree n c r) zero u = (first-root k n c r 0, tt)
roots-taken k (tree n c r) (suc m) u = (
  first-root k n c r (suc m),
  all-then (IsRootAt (k + 1) r m) (IsRootAt k (tree n c r) (suc m)) (later-root k n c u) (take (suc m) (names_of (roots r)))
      (roots-taken (k + 1) r m (λ y. let o = u y in let g = times-more n c r y in omega arith)),
)

-- the roots up to one
roots-up_to : (k : ℕ) (us : Trees) (a : NodeName) → Once us → HasRoot us a → (j : ℕ) × (place_from k us a ≡ Some ((k + j) ∷ [])) ×
    AllByRecursion (IsRootAt k us j) (items_before name_eq a (names_of (roots us)) ++ a ∷ [])
roots-up_to k none a u h = absurd (true≢false (sym h))
roots-up_to k (tree n c r) a u h =
    let rest = names_of (roots r) in
    by_cases (name_eq a n.name)
    (λ e. let same = name_eq-true a n.name e in
    let number : k ≡ k + 0 = omega arith in (
      0,
      place-here n c r a k (name_eq-turned n.name a ∙ e) ∙ ap (λ i. Some (i ∷ [])) number,
      subst (λ xs. AllByRecursion (IsRootAt k (tree n c r) 0) (xs ++ a ∷ []))
          (sym (cond-true (name_eq a n.name) [] (n.name ∷ items_before name_eq a rest) e))
          (subst (IsRootAt k (tree n c r) 0) (sym same) (first-root k n c r 0), tt),
    ))
    (λ e. let later = or-later (name_eq a n.name) (is_in name_eq a rest) e h in
    let more = roots-up_to (k + 1) r a (λ y. let o = u y in let g = times-more n c r y in omega arith) later in
    let there = root-there r a later in
    let once = u a in
    let other = name_eq-turned n.name a ∙ e in
    let q = times-elsewhere n c r a other in
    let number : (k + 1) + more.0 ≡ k + suc more.0 = omega arith in (
      suc more.0,
      place-behind n c r a k other (omega arith) ∙ more.1 ∙ ap (λ i. Some (i ∷ [])) number,
      subst (λ xs. AllByRecursion (IsRootAt k (tree n c r) (suc more.0)) (xs ++ a ∷ []))
          (sym (cond-false (name_eq a n.name) [] (n.name ∷ items_before name_eq a rest) e)) (
            first-root k n c r (suc more.0),
            all-then (IsRootAt (k + 1) r more.0) (IsRootAt k (tree n c r) (suc more.0))
                (later-root k n c u) (items_before name_eq a rest ++ a ∷ []) more.2,
          ),
    ))

-- Orders of places.
abbrev odd : ℕ → ℕ
odd k = 2 * k + 1

-- a common beginning
before-common : (path xs ys : List ℕ) → list_before (map odd path ++ xs) (map odd path ++ ys) ≡ list_before xs ys
before-common [] xs ys = refl
before-common (p ∷ path) xs ys = step (nat_lt (odd p) (odd p)) (odd p == odd p)
    (false_from_ne_true (nat_lt (odd p) (odd p)) (λ t. let l = ltb-true (odd p) (odd p) t in absurd (omega arith))) (eq-eqb (odd p) (odd p) refl)
    (before-common path xs ys)
  where
    step : (a b : Bool) → a ≡ false → b ≡ true → list_before (map odd path ++ xs) (map odd path ++ ys) ≡ list_before xs ys →
        (a || (b && list_before (map odd path ++ xs) (map odd path ++ ys))) ≡ list_before xs ys
    step true b e f h = absurd (true≢false e)
    step false true e f h = h
    step false false e f h = absurd (true≢false (sym f))

-- nothing stands before an empty list
before-none : (xs : List ℕ) → list_before xs [] ≡ false
before-none [] = refl
before-none (x ∷ xs) = refl

-- nor before the place of a node's own beginning
before-zero : (x : ℕ) (xs : List ℕ) → list_before (x ∷ xs) (0 ∷ []) ≡ false
before-zero x xs = step (nat_lt x 0) (x == 0) (false_from_ne_true (nat_lt x 0) (λ t. let l = ltb-true x 0 t in absurd (omega arith)))
  where
    step : (a b : Bool) → a ≡ false → (a || (b && list_before xs [])) ≡ false
    step true b e = absurd (true≢false e)
    step false true e = before-none xs
    step false false e = refl

-- a later number comes behind
before-later : (t u : ℕ) (xs ys : List ℕ) → u < t → list_before (t ∷ xs) (u ∷ ys) ≡ false
before-later t u xs ys h =
    step (nat_lt t u) (t == u) (false_from_ne_true (nat_lt t u) (λ k. let l = ltb-true t u k in absurd (omega arith)))
    (false_from_ne_true (eqb t u) (λ k. let l = eqb-true t u k in absurd (omega arith)))
  where
    step : (a b : Bool) → a ≡ false → b ≡ false → (a || (b && list_before xs ys)) ≡ false
    step true b e f = absurd (true≢false e)
    step false true e f = absurd (true≢false f)
    step false false e f = refl

-- the same number leaves it to the others
before-same : (t : ℕ) (xs ys : List ℕ) → list_before xs ys ≡ false → list_before (t ∷ xs) (t ∷ ys) ≡ false
before-same t xs ys h = step (nat_lt t t) (t == t) (false_from_ne_true (nat_lt t t) (λ k. let l = ltb-true t t k in absurd (omega arith)))
  where
    step : (a b : Bool) → a ≡ false → (a || (b && list_before xs ys)) ≡ false
    step true b e = absurd (true≢false e)
    step false true e = h
    step false false e = refl

-- the place of a boundary
place-is : (ts : Trees) (x : NodeName) (path : List ℕ) (i : ℕ) → place_from 0 ts x ≡ Some path → boundary_place ts (at x i) ≡ map odd path ++ (2 * i) ∷ []
place-is ts x path i h = ap (λ o. map odd (unwrap_or o []) ++ (2 * i) ∷ []) h

-- one path and then another
map-two : (xs ys : List ℕ) (zs : List ℕ) → map odd (xs ++ ys) ++ zs ≡ map odd xs ++ (map odd ys ++ zs)
map-two [] ys zs = refl
map-two (x ∷ xs) ys zs = ap (λ l. odd x ∷ l) (map-two xs ys zs)

-- An inclusive ancestor q of the start node, and some children of it: the start does not come before them, nor before q.
pub record IsSpared (ts : Trees) (r : Range NodeName) (q : NodeName) (xs : List NodeName) : Type 0 where
  pub above : is_inclusive_ancestor ts q r.start.node ≡ true
  pub parent : is_before ts r.start (at q 0) ≡ false
  pub children : AllByRecursion (λ x. is_before ts r.start (at x 0) ≡ false) xs

-- the place of a child
child-place : {path : List ℕ} (ts : Trees) (q : NodeName) → Once ts → 1 ≤ times_in ts q → place_from 0 ts q ≡ Some path → {bound : ℕ} {x : NodeName} →
    IsRootAt 0 (trees_below (subtree ts q)) bound x → (i : ℕ) × (place_from 0 ts x ≡ Some (path ++ i ∷ [])) × (i ≤ bound)
child-place {path} ts q u t p {x} h =
    let zero_first : 0 + h.index ≡ h.index = omega arith in
    (h.index, place-nested 0 ts q x u (record { outer = p; inner = h.place ∙ ap (λ i. Some (i ∷ [])) zero_first }), h.below)

-- The first children of the start node.
pub spared-first : (ts : Trees) (r : Range NodeName) → Once ts → 1 ≤ times_in ts r.start.node →
    IsSpared ts r r.start.node (take r.start.offset (children_of ts r.start.node))
spared-first ts r u t =
    let q = r.start.node in
    let at_q = place-there 0 ts q t in
    let path = at_q.0 in
    let begins = place-is ts q path r.start.offset at_q.1 in
    record {
      above = self-above ts q t;
      parent = ap (λ a. list_before a (boundary_place ts (at q 0))) begins ∙ ap (list_before (map odd path ++ (2 * r.start.offset) ∷ []))
          (place-is ts q path 0 at_q.1) ∙ before-common path ((2 * r.start.offset) ∷ []) (0 ∷ []) ∙ before-zero (2 * r.start.offset) [];
      children = from r.start.offset refl path at_q.1 begins;
    }
  where
    from : (m : ℕ) → r.start.offset ≡ m → (path : List ℕ) → place_from 0 ts r.start.node ≡ Some path →
        boundary_place ts r.start ≡ map odd path ++ (2 * r.start.offset) ∷ [] →
        AllByRecursion (λ x. is_before ts r.start (at x 0) ≡ false) (take m (children_of ts r.start.node))
    from zero e path p begins = tt
    from (suc m) e path p begins =
        let below = trees_below (subtree ts r.start.node) in
        let ub : Once below = λ y. let a = times-below (subtree ts r.start.node) y in let b = times_subtree ts r.start.node y in let o =
        u y in omega arith in
        all-then (IsRootAt 0 below m) (λ x. is_before ts r.start (at x 0) ≡ false)
        (λ x h. let c = child-place ts r.start.node u t p h in
        let i = c.0 in let le = c.2 in
        ap (λ a. list_before a (boundary_place ts (at x 0))) begins ∙ ap (list_before (map odd path ++ (2 * r.start.offset) ∷ []))
        (place-is ts x (path ++ i ∷ []) 0 c.1 ∙ map-two path (i ∷ []) (0 ∷ []))
        ∙ before-common path ((2 * r.start.offset) ∷ []) (odd i ∷ 0 ∷ []) ∙ before-later (2 * r.start.offset) (odd i) [] (0 ∷ []) (omega arith))
        (take (suc m) (names_of (roots below))) (roots-taken 0 below m ub)

-- what stands in the tree of a node, and is another one, stands below it
pub below-rest : (ts : Trees) (a z : NodeName) → name_eq a z ≡ false → times_in (subtree ts a) z ≤ times_in (trees_below (subtree ts a)) z
below-rest none a z d = omega arith
below-rest (tree n c r) a z d =
    by_cases (name_eq n.name a)
    (λ e. let s = subtree-here n c r a e in let x = ap (λ t. times_in t z) s in let y = ap (λ t. times_in (trees_below t) z) s in
    let k = times-elsewhere n c none z (ap (λ m. name_eq m z) (name_eq-true n.name a e) ∙ d) in omega arith)
    (λ e. subst (λ t. times_in t z ≤ times_in (trees_below t) z) (sym (subtree-elsewhere n c r a e))
    (either (subtree c a) (subtree r a) (below-rest c a z d) (below-rest r a z d)))
  where
    either : (s t : Trees) → times_in s z ≤ times_in (trees_below s) z → times_in t z ≤ times_in (trees_below t) z →
        times_in (or_else s t) z ≤ times_in (trees_below (or_else s t)) z
    either none t h g = g
    either (tree m e q) t h g = h

-- The children up to a node above the start node, or up to the start node.
pub spared-up_to : {q : NodeName} (ts : Trees) (r : Range NodeName) (a : NodeName) → Once ts → parent_of ts a ≡ Some q →
    is_inclusive_ancestor ts a r.start.node ≡ true → IsSpared ts r q (items_before name_eq a (children_of ts q) ++ a ∷ [])
spared-up_to {q} ts r a u e above =
    let t = child-there ts a q e in
    let start = r.start.node in
    let tq = parent-there ts a q e in
    let at_q = place-there 0 ts q tq in
    let path = at_q.0 in
    let below = trees_below (subtree ts q) in
    let ub : Once below = λ y. let x = times-below (subtree ts q) y in let b = times_subtree ts q y in let o = u y in omega arith in
    let up = roots-up_to 0 below a ub (root-below ts a q u e) in
    let j = up.0 in
    let zero_first : 0 + j ≡ j = omega arith in
    let there = root-there below a (root-below ts a q u e) in
    let at_a : place_from 0 ts a ≡ Some (path ++ j ∷ []) = place-nested 0 ts q a u (record {
      outer = at_q.1;
      inner = up.1 ∙ ap (λ i. Some (i ∷ [])) zero_first;
    }) in
    let tail = start-place t j path at_a in
    let rest = tail.0 in
    let begins : boundary_place ts r.start ≡ map odd path ++ (odd j ∷ rest) = tail.1 in
    record {
      above = above-above ts q a start u (parent-above ts a u e) above;
      parent = ap (λ b. list_before b (boundary_place ts (at q 0))) begins ∙ ap (list_before (map odd path ++ (odd j ∷ rest)))
          (place-is ts q path 0 at_q.1) ∙ before-common path (odd j ∷ rest) (0 ∷ []) ∙ before-zero (odd j) rest;
      children = all-then (IsRootAt 0 below j) (λ x. is_before ts r.start (at x 0) ≡ false)
          (λ x h. let c = child-place ts q u tq at_q.1 h in
          let i = c.0 in
          ap (λ b. list_before b (boundary_place ts (at x 0))) begins ∙ ap (list_before (map odd path ++ (odd j ∷ rest)))
          (place-is ts x (path ++ i ∷ []) 0 c.1 ∙ map-two path (i ∷ []) (0 ∷ []))
          ∙ before-common path (odd j ∷ rest) (odd i ∷ 0 ∷ []) ∙ behind i j rest tail.2 c.2)
          (items_before name_eq a (names_of (roots below)) ++ a ∷ []) up.2;
    }
  where
    behind : (i j : ℕ) (rest : List ℕ) → list_before rest (0 ∷ []) ≡ false → i ≤ j → list_before (odd j ∷ rest) (odd i ∷ 0 ∷ []) ≡ false
    behind i j rest h le =
        by_cases (i == j) (λ k. let same = eqb-true i j k in subst (λ m. list_before (odd j ∷ rest) (odd m ∷ 0 ∷ []) ≡ false) (sym same)
        (before-same (odd j) rest (0 ∷ []) h))
        (λ k. before-later (odd j) (odd i) rest (0 ∷ [])
        (by_cases (nat_lt i j) (λ l. let m = ltb-true i j l in omega arith)
        (λ l. absurd (let m = Rattle.std.proofs.lemmas.Bool.ltb-false i j l in true≢false (sym (eq-eqb i j (omega arith)) ∙ k)))))

    first_is : (xs : List ℕ) (o : ℕ) → list_before (map odd xs ++ o ∷ []) (0 ∷ []) ≡ false
    first_is [] o = before-zero o []
    first_is (x ∷ xs) o = before-zero (odd x) (map odd xs ++ o ∷ [])

    start-place : 1 ≤ times_in ts a → (j : ℕ) (path : List ℕ) → place_from 0 ts a ≡ Some (path ++ j ∷ []) → (rest : List ℕ) ×
        (boundary_place ts r.start ≡ map odd path ++ (odd j ∷ rest)) × (list_before rest (0 ∷ []) ≡ false)
    start-place t j path h =
        let o = 2 * r.start.offset in
        by_cases (name_eq a r.start.node)
        (λ k. let same = name_eq-true a r.start.node k in (
          o ∷ [],
          place-is ts r.start.node (path ++ j ∷ []) r.start.offset (ap (place_from 0 ts) (sym same) ∙ h) ∙
              map-two path (j ∷ []) (o ∷ []),
          before-zero o [],
        ))
        (λ k. let inner = inside-alone ts a r.start.node u in
        let held = ancestor-inside ts a r.start.node above in
        let b = below-rest ts a r.start.node k in
        let there : 1 ≤ times_in (trees_below (subtree ts a)) r.start.node = omega arith in
        let at_s = place-there 0 (trees_below (subtree ts a)) r.start.node there in
        let whole = place-nested 0 ts a r.start.node u (record { outer = h; inner = at_s.1 }) in (
          map odd at_s.0 ++ o ∷ [],
          place-is ts r.start.node ((path ++ j ∷ []) ++ at_s.0) r.start.offset whole ∙
              map-two (path ++ j ∷ []) at_s.0 (o ∷ []) ∙ map-two path (j ∷ []) (map odd at_s.0 ++ o ∷ []),
          first_is at_s.0 o,
        ))
