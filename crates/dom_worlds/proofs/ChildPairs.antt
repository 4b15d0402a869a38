-- Which node is a child of which, counted, through the elementary changes.
use Rattle.dom_base.proofs.Std.{◌≡◌, ℕ, ◌+◌, ◌≤◌, true, false, List, [], ◌∷◌, ◌++◌, length, Option, Some, refl, sym, ap, ◌∙◌, arith, true≢false, subst, drop}
use Rattle.dom_base.proofs.Std.{if◌then◌else◌, AllByRecursion, cond-true, cond-false}
use Rattle.dom_model.proofs.Model.{NodeName, times_in, Trees, none, tree, Node, names_of, roots, subtree, or_else, trees_below, children_of, parent_of}
use Rattle.dom_model.proofs.Model.{inclusive_ancestors, on_top, name_eq, is_in, first_of, without, put_below, put_root, taken_out, placed, with_node, map_nodes}
use Rattle.dom_model.proofs.Model.{name_eq-same, name_eq-turned, name_eq-true}
use Rattle.dom_worlds.specs.Definitions.{times_among}
use Rattle.dom_worlds.proofs.Insides.{CanPlace, times-inside, times-parted, without-absent, or_else-none}
use Rattle.dom_worlds.proofs.ChildCounts.{rooted, kids}
use Rattle.dom_worlds.proofs.Reached.{root-alone}
use Rattle.dom_worlds.proofs.Lists.{all-then, by_cases, or-later}
use Rattle.dom_worlds.proofs.TreeChangeLaws.{HasRoot, root-first, root-second, without-here, without-elsewhere, subtree-here, subtree-elsewhere, put_below-here}
use Rattle.dom_worlds.proofs.TreeChangeLaws.{IsNodeSum, sum-put_below_name, put_below-elsewhere}
use Rattle.dom_laws.proofs.Laws.{Once, by_times, times-here, times-elsewhere, once_parts, subtree_gone, path_none}
use Rattle.dom_worlds.proofs.Trees.{ancestors-present, IsSum, sum-put_root}

-- how often a name is a root's
abbrev pub root_times : Trees → NodeName → ℕ
root_times none x = 0
root_times (tree n c r) x = (if name_eq n.name x then 1 else 0) + root_times r x

-- how often x is a child of nodes named y
abbrev pub childs : Trees → NodeName → NodeName → ℕ
childs none x y = 0
childs (tree n c r) x y = (if name_eq n.name y then root_times c x else 0) + childs c x y + childs r x y

-- below the first root, and elsewhere
childs-here : (n : Node) (c r : Trees) (x y : NodeName) → name_eq n.name y ≡ true → childs (tree n c r) x y ≡ root_times c x + childs c x y + childs r x y
childs-here n c r x y e = ap (λ k. k + childs c x y + childs r x y) (cond-true (name_eq n.name y) (root_times c x) 0 e)

-- below another root
childs-elsewhere : (n : Node) (c r : Trees) (x y : NodeName) → name_eq n.name y ≡ false → childs (tree n c r) x y ≡ childs c x y + childs r x y
childs-elsewhere n c r x y e = let g = ap (λ k. k + childs c x y + childs r x y) (cond-false (name_eq n.name y) (root_times c x) 0 e) in omega arith

-- nor children, and none is a root beside
childs-times : (ts : Trees) (x y : NodeName) → childs ts x y + root_times ts x ≤ times_in ts x
childs-times none x y = omega arith
childs-times (tree n c r) x y =
    let a = childs-times c x y in let b = childs-times r x y in
    by_cases (name_eq n.name y) (λ e. let k = childs-here n c r x y e in omega arith) (λ e. let k = childs-elsewhere n c r x y e in omega arith)

-- Trees put into a list: their roots.
roots-sum : (x : NodeName) → IsSum (λ ts. root_times ts x)
roots-sum x = record { nothing = refl; more = λ n c r. omega arith }

-- their children
childs-sum : (x y : NodeName) → IsSum (λ ts. childs ts x y)
childs-sum x y = record { nothing = refl; more = λ n c r. omega arith }

-- by the order of names
childs-put_root : (z : NodeName) (new ts : Trees) (x y : NodeName) → childs (put_root z new ts) x y ≡ childs new x y + childs ts x y
childs-put_root z new ts x y = sum-put_root (childs-sum x y) z new ts

-- Another node that is taken out leaves children and roots.
roots-without : (ts : Trees) (z x : NodeName) → name_eq z x ≡ false → root_times (without z ts) x ≡ root_times ts x
roots-without none z x d = refl
roots-without (tree n c r) z x d =
    let h = roots-without r z x d in
    by_cases (name_eq n.name z)
    (λ e. let s = ap (λ t. root_times t x) (without-here n c r z e) in
    let o : root_times (tree n c r) x ≡ 0 + root_times r x =
    ap (λ k. k + root_times r x) (cond-false (name_eq n.name x) 1 0 (ap (λ y. name_eq y x) (name_eq-true n.name z e) ∙ d)) in omega arith)
    (λ e. let s = ap (λ t. root_times t x) (without-elsewhere n c r z e) in omega arith)

-- what is taken out and what is left
childs-parted : (ts : Trees) (z x y : NodeName) → Once ts → name_eq z x ≡ false → childs (without z ts) x y + childs (subtree ts z) x y ≡ childs ts x y
childs-parted none z x y u d = refl
childs-parted (tree n c r) z x y u d =
    let once = u z in
    let parts = once_parts n c r u in
    by_cases (name_eq n.name z)
    (λ e. let g = times-here n c r z e in
    let s = ap (λ t. childs t x y) (without-here n c r z e ∙ without-absent r z (omega arith)) in let t =
    ap (λ t. childs t x y) (subtree-here n c r z e) in omega arith)
    (λ e. let g = times-elsewhere n c r z e in
    let s = ap (λ t. childs t x y) (without-elsewhere n c r z e) in
    let q = roots-without c z x d in
    let sum : childs (without z c) x y + childs (without z r) x y + childs (subtree (tree n c r) z) x y ≡ childs c x y + childs r x y =
    by_times (times_in c z)
    (λ k. let t = ap (λ t. childs t x y) (subtree-elsewhere n c r z e ∙ ap (λ t. or_else t (subtree r z)) (subtree_gone c z k)) in
    let w = ap (λ t. childs t x y) (without-absent c z k) in let b = childs-parted r z x y parts.after d in omega arith)
    (λ k. let t = ap (λ t. childs t x y)
    (subtree-elsewhere n c r z e ∙ ap (or_else (subtree c z)) (subtree_gone r z (omega arith)) ∙ or_else-none (subtree c z)) in
    let w = ap (λ t. childs t x y) (without-absent r z (omega arith)) in let b = childs-parted c z x y parts.below d in omega arith) in
    by_cases (name_eq n.name y)
    (λ f. let i = childs-here n c r x y f in let j = childs-here n (without z c) (without z r) x y f in omega arith)
    (λ f. let i = childs-elsewhere n c r x y f in let j = childs-elsewhere n (without z c) (without z r) x y f in omega arith))

-- so other children stay where a node leaves
pub childs-taken_out : (ts : Trees) (z x y : NodeName) → Once ts → name_eq z x ≡ false → childs (taken_out z ts) x y ≡ childs ts x y
childs-taken_out ts z x y u d = let p = childs-put_root z (subtree ts z) (without z ts) x y in let q = childs-parted ts z x y u d in omega arith

-- Trees that are put among others: how often x is a child of y, and a root.
module _ (before : Option NodeName) (new : Trees) (x y : NodeName) where
  -- what is put below a node
  childs-put_below : (parent : NodeName) (ts : Trees) → times_in ts parent ≡ 1 →
      (childs new x y + childs ts x y + (if name_eq parent y then root_times new x else 0) ≤ childs (put_below parent before new ts) x y) ×
      (root_times (put_below parent before new ts) x ≡ root_times ts x)
  childs-put_below parent ts h =
      let all = sum-put_below_name y parent before new {m = λ ts. childs ts x y} {f = λ ts. root_times ts x} sum (roots-sum x) (same parent) ts h in
      (omega arith, same parent ts)
    where
      sum : IsNodeSum (λ ts. childs ts x y) (λ n c. if name_eq n.name y then root_times c x else 0)
      sum = record { nothing = refl; each = λ n c r. refl }

      same : (parent : NodeName) (ts : Trees) → root_times (put_below parent before new ts) x ≡ root_times ts x
      same parent none = refl
      same parent (tree n c r) =
          let h = same parent r in
          by_cases (name_eq n.name parent) (λ e. let s = ap (λ t. root_times t x) (put_below-here parent before new n c r e) in omega arith)
          (λ e. let s = ap (λ t. root_times t x) (put_below-elsewhere parent before new n c r e) in omega arith)

-- A node that is placed below a parent.
module _ {ts : Trees} {z parent : NodeName} (before : Option NodeName) (place : CanPlace ts z parent) where
  -- other children stay where a node is placed
  pub childs-placed : (x y : NodeName) → name_eq z x ≡ false → childs ts x y ≤ childs (placed z parent before ts) x y
  childs-placed x y d =
      let u = place.unique in let t = place.below.there in let h = place.below.apart in
      let once = u parent in
      let s = times-inside ts z parent in
      let w = times-parted ts z parent u in
      let p = (childs-put_below before (subtree ts z) x y parent (without z ts) (omega arith)).0 in
      let q = childs-parted ts z x y u d in omega arith

  -- and it is a child then
  pub child-placed : 1 ≤ times_in ts z → 1 ≤ childs (placed z parent before ts) z parent
  child-placed k =
      let u = place.unique in let t = place.below.there in let h = place.below.apart in
      let once = u parent in
      let s = times-inside ts z parent in
      let w = times-parted ts z parent u in
      let p = (childs-put_below before (subtree ts z) z parent parent (without z ts) (omega arith)).0 in
      let one : (if name_eq parent parent then root_times (subtree ts z) z else 0) ≡ root_times (subtree ts z) z =
      cond-true (name_eq parent parent) (root_times (subtree ts z) z) 0 (name_eq-same parent) in
      let top = root-counted (subtree ts z) z (Rattle.dom_worlds.proofs.TreeChangeLaws.root-subtree ts z k) in omega arith
    where
      root-counted : (us : Trees) (x : NodeName) → HasRoot us x → 1 ≤ root_times us x
      root-counted none x h = absurd (true≢false (sym h))
      root-counted (tree n c r) x h =
          by_cases (name_eq x n.name)
          (λ e. let o : root_times (tree n c r) x ≡ 1 + root_times r x = ap (λ k. k + root_times r x)
          (cond-true (name_eq n.name x) 1 0 (name_eq-turned n.name x ∙ e)) in omega arith)
          (λ e. let b = root-counted r x (or-later (name_eq x n.name) (is_in name_eq x (names_of (roots r))) e h) in omega arith)

-- beside a new node
pub childs-with_node : (n : Node) (ts : Trees) (x y : NodeName) → childs ts x y ≤ childs (with_node n ts) x y
childs-with_node n ts x y = let p = childs-put_root n.name (tree n none none) ts x y in omega arith

-- of nodes with other contents
pub childs-map_nodes : (f : Node → Node) → ((n : Node) → (f n).name ≡ n.name) → (ts : Trees) (x y : NodeName) → childs (map_nodes f ts) x y ≡ childs ts x y
childs-map_nodes f h none x y = refl
childs-map_nodes f h (tree n c r) x y =
    let a = childs-map_nodes f h c x y in let b = childs-map_nodes f h r x y in let q = roots-map c in
    by_cases (name_eq n.name y)
    (λ e. let i = childs-here n c r x y e in let j = childs-here (f n) (map_nodes f c) (map_nodes f r) x y (ap (λ z. name_eq z y) (h n) ∙ e) in omega arith)
    (λ e. let i = childs-elsewhere n c r x y e in let j = childs-elsewhere (f n) (map_nodes f c) (map_nodes f r) x y
    (ap (λ z. name_eq z y) (h n) ∙ e) in omega arith)
  where
    roots-map : (ts : Trees) → root_times (map_nodes f ts) x ≡ root_times ts x
    roots-map none = refl
    roots-map (tree n c r) = let g = roots-map r in let k = ap (λ z. (if name_eq z x then 1 else 0) + root_times (map_nodes f r) x) (h n) in omega arith

-- A child has its parent.
pub childs-parent : (ts : Trees) (x y : NodeName) → Once ts → 1 ≤ childs ts x y → parent_of ts x ≡ Some y
childs-parent none x y u h = absurd (omega arith)
childs-parent (tree n c r) x y u h =
    let once = u x in
    let parts = once_parts n c r u in
    let a = childs-times c x y in let b = childs-times r x y in
    let top = on_top (inclusive_ancestors c x) n.name (inclusive_ancestors r x) in
    let bound : childs (tree n c r) x y ≤ root_times c x + childs c x y + childs r x y =
    by_cases (name_eq n.name y) (λ e. let i = childs-here n c r x y e in omega arith)
    (λ e. let i = childs-elsewhere n c r x y e in omega arith) in
    by_cases (name_eq n.name x)
    (λ e. absurd (let g = times-here n c r x e in omega arith))
    (λ e. let g = times-elsewhere n c r x e in
    let here = cond-false (name_eq n.name x) (x ∷ []) top e in
    by_times (times_in c x)
    (λ z. ap (λ p. first_of (drop 1 p)) (here ∙ ap (λ p. on_top p n.name (inclusive_ancestors r x)) (path_none c x z)) ∙
    childs-parent r x y parts.after (omega arith))
    (λ z. let at = ancestors-present c x z in
    let all : inclusive_ancestors (tree n c r) x ≡ (x ∷ at.0) ++ n.name ∷ [] = here ∙ ap (λ p. on_top p n.name (inclusive_ancestors r x)) at.1 in
    let up = ap (λ p. first_of (drop 1 p)) all in
    by_times (root_times c x)
    (λ k. let inner = childs-parent c x y parts.below (omega arith) in up ∙ deeper at.0 n.name y (sym (ap (λ p. first_of (drop 1 p)) at.1) ∙ inner))
    (λ k. let root : HasRoot c x = counted-root c x k in
    let alone : x ∷ at.0 ≡ x ∷ [] = sym at.1 ∙ root-alone c parts.below x root in
    let path : at.0 ≡ [] = ap (drop 1) alone in
    let named : name_eq n.name y ≡ true = by_cases (name_eq n.name y) (λ q. q) (λ q. absurd (let i = childs-elsewhere n c r x y q in omega arith)) in
    up ∙ ap (λ p. first_of (p ++ n.name ∷ [])) path ∙ ap Some (name_eq-true n.name y named))))
  where
    deeper : (path : List NodeName) (m y : NodeName) → first_of path ≡ Some y → first_of (path ++ m ∷ []) ≡ Some y
    deeper [] m y e = cc
    deeper (q ∷ path) m y e = e

    counted-root : (us : Trees) (x : NodeName) → 1 ≤ root_times us x → HasRoot us x
    counted-root none x h = absurd (omega arith)
    counted-root (tree n c r) x h =
        by_cases (name_eq n.name x) (λ e. root-first n c r x (name_eq-turned x n.name ∙ e))
        (λ e. let o : root_times (tree n c r) x ≡ 0 + root_times r x = ap (λ k. k + root_times r x) (cond-false (name_eq n.name x) 1 0 e) in
        root-second n c r x (counted-root r x (omega arith)))

-- Children of a node, as a list.
pub children-childs : (ts : Trees) (y : NodeName) → AllByRecursion (λ x. 1 ≤ childs ts x y) (children_of ts y)
children-childs none y = tt
children-childs (tree n c r) y =
    by_cases (name_eq n.name y)
    (λ e. subst (λ t. AllByRecursion (λ x. 1 ≤ childs (tree n c r) x y) (names_of (roots (trees_below t)))) (sym (subtree-here n c r y e))
    (all-then (λ x. 1 ≤ root_times c x) (λ x. 1 ≤ childs (tree n c r) x y) (λ x h. let i = childs-here n c r x y e in omega arith)
    (names_of (roots c)) (roots-counted c)))
    (λ e. subst (λ t. AllByRecursion (λ x. 1 ≤ childs (tree n c r) x y) (names_of (roots (trees_below t)))) (sym (subtree-elsewhere n c r y e))
    (either (subtree c y) (subtree r y)
    (all-then (λ x. 1 ≤ childs c x y) (λ x. 1 ≤ childs (tree n c r) x y) (λ x h. let i = childs-elsewhere n c r x y e in omega arith)
    (children_of c y) (children-childs c y))
    (all-then (λ x. 1 ≤ childs r x y) (λ x. 1 ≤ childs (tree n c r) x y) (λ x h. let i = childs-elsewhere n c r x y e in omega arith)
    (children_of r y) (children-childs r y))))
  where
    roots-counted : (us : Trees) → AllByRecursion (λ x. 1 ≤ root_times us x) (names_of (roots us))
    roots-counted none = tt
    roots-counted (tree n c r) = (
      (let o : root_times (tree n c r) n.name ≡ 1 + root_times r n.name = ap (λ k. k + root_times r n.name)
          (cond-true (name_eq n.name n.name) 1 0 (name_eq-same n.name)) in omega arith),
      all-then (λ x. 1 ≤ root_times r x) (λ x. 1 ≤ root_times (tree n c r) x) (λ x h. omega arith) (names_of (roots r)) (roots-counted r),
    )

    either : (a b : Trees) → AllByRecursion (λ x. 1 ≤ childs (tree n c r) x y) (names_of (roots (trees_below a))) →
        AllByRecursion (λ x. 1 ≤ childs (tree n c r) x y) (names_of (roots (trees_below b))) →
        AllByRecursion (λ x. 1 ≤ childs (tree n c r) x y) (names_of (roots (trees_below (or_else a b))))
    either none b h g = g
    either (tree m d q) b h g = h

-- Some children, each once, are no more than all.
abbrev pub held : Trees → List NodeName → NodeName → ℕ
held ts [] y = 0
held ts (x ∷ xs) y = childs ts x y + held ts xs y

-- among roots
abbrev held_roots : Trees → List NodeName → ℕ
held_roots ts [] = 0
held_roots ts (x ∷ xs) = root_times ts x + held_roots ts xs

-- of the first root and others
held_roots-split : (n : Node) (c r : Trees) (xs : List NodeName) → held_roots (tree n c r) xs ≡ times_among xs n.name + held_roots r xs
held_roots-split n c r [] = omega arith
held_roots-split n c r (x ∷ xs) =
    let h = held_roots-split n c r xs in
    by_cases (name_eq n.name x)
    (λ e. let a : root_times (tree n c r) x ≡ 1 + root_times r x = ap (λ k. k + root_times r x) (cond-true (name_eq n.name x) 1 0 e) in
    let b : times_among (x ∷ xs) n.name ≡ 1 + times_among xs n.name =
    ap (λ k. k + times_among xs n.name) (cond-true (name_eq x n.name) 1 0 (name_eq-turned x n.name ∙ e)) in omega arith)
    (λ e. let a : root_times (tree n c r) x ≡ 0 + root_times r x = ap (λ k. k + root_times r x) (cond-false (name_eq n.name x) 1 0 e) in
    let b : times_among (x ∷ xs) n.name ≡ 0 + times_among xs n.name =
    ap (λ k. k + times_among xs n.name) (cond-false (name_eq x n.name) 1 0 (name_eq-turned x n.name ∙ e)) in omega arith)

-- no more than roots
held_roots-rooted : (ts : Trees) (xs : List NodeName) → ((z : NodeName) → times_among xs z ≤ 1) → held_roots ts xs ≤ rooted ts
held_roots-rooted none xs u = none-held xs
  where
    none-held : (xs : List NodeName) → held_roots none xs ≤ 0
    none-held [] = omega arith
    none-held (x ∷ xs) = let h = none-held xs in omega arith
held_roots-rooted (tree n c r) xs u = let a = held_roots-split n c r xs in let b = held_roots-rooted r xs u in let o = u n.name in omega arith

-- below a root and elsewhere
held-here : (n : Node) (c r : Trees) (xs : List NodeName) (y : NodeName) → name_eq n.name y ≡ true →
    held (tree n c r) xs y ≡ held_roots c xs + held c xs y + held r xs y
held-here n c r [] y e = refl
held-here n c r (x ∷ xs) y e = let h = held-here n c r xs y e in let k = childs-here n c r x y e in omega arith

-- elsewhere
held-elsewhere : (n : Node) (c r : Trees) (xs : List NodeName) (y : NodeName) → name_eq n.name y ≡ false → held (tree n c r) xs y ≡ held c xs y + held r xs y
held-elsewhere n c r [] y e = refl
held-elsewhere n c r (x ∷ xs) y e = let h = held-elsewhere n c r xs y e in let k = childs-elsewhere n c r x y e in omega arith

-- no more than all children
pub held-kids : (ts : Trees) (xs : List NodeName) (y : NodeName) → ((z : NodeName) → times_among xs z ≤ 1) → held ts xs y ≤ kids ts y
held-kids none xs y u = none-held xs
  where
    none-held : (xs : List NodeName) → held none xs y ≤ 0
    none-held [] = omega arith
    none-held (x ∷ xs) = let h = none-held xs in omega arith
held-kids (tree n c r) xs y u =
    let a = held-kids c xs y u in let b = held-kids r xs y u in
    by_cases (name_eq n.name y)
    (λ e. let h = held-here n c r xs y e in let k = held_roots-rooted c xs u in let l : (if name_eq n.name y then rooted c else 0) ≡ rooted
    c = cond-true (name_eq n.name y) (rooted c) 0 e in omega arith)
    (λ e. let h = held-elsewhere n c r xs y e in omega arith)

-- so many children, each once, are no more than a node has
pub held-length : (ts : Trees) (xs : List NodeName) (y : NodeName) → ((z : NodeName) → times_among xs z ≤ 1) →
    AllByRecursion (λ x. 1 ≤ childs ts x y) xs → length xs ≤ kids ts y
held-length ts xs y u h = let a = held-kids ts xs y u in let b = held-each xs h in omega arith
  where
    held-each : (xs : List NodeName) → AllByRecursion (λ x. 1 ≤ childs ts x y) xs → length xs ≤ held ts xs y
    held-each [] h = omega arith
    held-each (x ∷ xs) h = let a = held-each xs h.1 in let b = h.0 in omega arith
