-- The roots of trees, and the nodes that are read under their names, with their lengths, through the elementary changes.
use Rattle.dom_base.proofs.Std.{◌≡◌, ◌≤◌, true, false, List, [], ◌∷◌, ◌++◌, drop, Some, None, unwrap_or, sym, ap, ◌∙◌, arith, subst, length, map, find, Option}
use Rattle.dom_base.proofs.Std.{option_map, refl, true≢false, last_or, AllByRecursion, cond-true, cond-false, or_right, or_left}
use Rattle.dom_model.proofs.Model.{NodeName, name_eq, is_in, first_of, same_root, Trees, none, tree, inclusive_ancestors, is_inclusive_ancestor, on_top}
use Rattle.dom_model.proofs.Model.{parent_of, root_of, subtree, times_in, Node, nodes, node_in, no_node, kind_of, has_data, children_of, length_of, taken_out}
use Rattle.dom_model.proofs.Model.{without, placed, with_node, map_nodes, name_eq-same, name_eq-true}
use Rattle.dom_worlds.proofs.Descents.{ancestor-inside, inside-ancestor, inside-left}
use Rattle.dom_worlds.proofs.Insides.{IsOutside, unique-taken_out, inside, inside-absent, inside-elsewhere, inside-times, inside-put_root, CanPlace}
use Rattle.dom_worlds.proofs.Insides.{times-taken_out_all, times-placed_all}
use Rattle.dom_worlds.proofs.InsideAncestors.{parent-there}
use Rattle.dom_worlds.proofs.Lists.{by_cases, or-later}
use Rattle.dom_laws.proofs.Laws.{Once, by_times, times-here, times-elsewhere, once_parts, path_none}
use Rattle.dom_worlds.proofs.Trees.{all-in, last_from, last-is, last-in, ancestors-present, ancestors-root}
use Rattle.dom_worlds.specs.Definitions.{AllNodes}
use Rattle.dom_worlds.proofs.KindLines.{all-found}
use Rattle.dom_worlds.proofs.PartSteps.{name-node_in}
use Rattle.dom_worlds.proofs.ShadowRoots.{found-absent, found-there}
use Rattle.dom_worlds.proofs.TreeChangeLaws.{nodes-with_node, nodes-taken_out, nodes-placed, nodes-listed}
use Rattle.dom_worlds.proofs.ChildCounts.{kids, kids-absent, length-children}

-- Ancestors: a node's are it and its parent's.
pub ancestors-step : (ts : Trees) (x y : NodeName) → Once ts → parent_of ts x ≡ Some y → inclusive_ancestors ts x ≡ x ∷ inclusive_ancestors ts y
ancestors-step none x y u h = cc
ancestors-step (tree n c r) x y u h =
    let parts = once_parts n c r u in
    let once = u x in
    let once_y = u y in
    let top = on_top (inclusive_ancestors c x) n.name (inclusive_ancestors r x) in
    let top_y = on_top (inclusive_ancestors c y) n.name (inclusive_ancestors r y) in
    by_cases (name_eq n.name x)
    (λ e. let is : first_of (drop 1 (x ∷ [])) ≡ Some y = sym (ap (λ p. first_of (drop 1 p)) (cond-true (name_eq n.name x) (x ∷ []) top e)) ∙ h in cc)
    (λ e. let g = times-elsewhere n c r x e in
    let here = cond-false (name_eq n.name x) (x ∷ []) top e in
    by_times (times_in c x)
    (λ z. let all : inclusive_ancestors (tree n c r) x ≡ inclusive_ancestors r x = here ∙ ap (λ p. on_top p n.name (inclusive_ancestors r x))
    (path_none c x z) in
    let up : parent_of r x ≡ Some y = sym (ap (λ p. first_of (drop 1 p)) all) ∙ h in
    let there = parent-there r x y up in
    let other : name_eq n.name y ≡ false = by_cases (name_eq n.name y) (λ k. absurd (let q = times-here n c r y k in omega arith)) (λ k. k) in
    let gy = times-elsewhere n c r y other in
    all ∙ ancestors-step r x y parts.after up ∙ ap (λ p. x ∷ p)
    (sym (cond-false (name_eq n.name y) (y ∷ []) top_y other ∙ ap (λ p. on_top p n.name (inclusive_ancestors r y))
    (path_none c y (omega arith)))))
    (λ z. let at = ancestors-present c x z in
    let all : inclusive_ancestors (tree n c r) x ≡ (x ∷ at.0) ++ n.name ∷ [] = here ∙ ap (λ p. on_top p n.name (inclusive_ancestors r x)) at.1 in
    from (λ e. ancestors-step c x y parts.below e) at.0 at.1 all (sym (ap (λ p. first_of (drop 1 p)) all) ∙ h) once_y))
  where
    from : (parent_of c x ≡ Some y → inclusive_ancestors c x ≡ x ∷ inclusive_ancestors c y) → (path : List NodeName) →
        inclusive_ancestors c x ≡ x ∷ path → inclusive_ancestors (tree n c r) x ≡ (x ∷ path) ++ n.name ∷ [] →
        first_of (path ++ n.name ∷ []) ≡ Some y → times_in (tree n c r) y ≤ 1 →
        inclusive_ancestors (tree n c r) x ≡ x ∷ inclusive_ancestors (tree n c r) y
    from f [] at all up once =
        let both : Some n.name ≡ Some y = up in
        let same : n.name ≡ y = cc in
        all ∙ ap (λ p. x ∷ p) (ap (λ z. z ∷ []) same ∙
        sym (cond-true (name_eq n.name y) (y ∷ []) (on_top (inclusive_ancestors c y) n.name (inclusive_ancestors r y))
        (ap (name_eq n.name) (sym same) ∙ name_eq-same n.name)))
    from f (q ∷ path) at all up once =
        let inner : parent_of c x ≡ Some y = ap (λ p. first_of (drop 1 p)) at ∙ up in
        let there = parent-there c x y inner in
        let other : name_eq n.name y ≡ false = by_cases (name_eq n.name y) (λ k. absurd (let g = times-here n c r y k in omega arith)) (λ k. k) in
        let rest = ancestors-present c y there in
        let behind : x ∷ q ∷ path ≡ x ∷ y ∷ rest.0 = sym at ∙ f inner ∙ ap (λ p. x ∷ p) rest.1 in
        all ∙ ap (λ p. p ++ n.name ∷ []) behind
        ∙ ap (λ p. x ∷ p) (sym (cond-false (name_eq n.name y) (y ∷ []) (on_top (inclusive_ancestors c y) n.name (inclusive_ancestors r y)) other ∙
        ap (λ p. on_top p n.name (inclusive_ancestors r y)) rest.1))

-- a node is an inclusive ancestor of itself
pub self-above : (ts : Trees) (x : NodeName) → 1 ≤ times_in ts x → is_inclusive_ancestor ts x x ≡ true
self-above ts x t = let at = ancestors-present ts x t in ap (is_in name_eq x) at.1 ∙ or_left (name_eq x x) (is_in name_eq x at.0) (name_eq-same x)

-- A child of a parent.
module _ {y : NodeName} (ts : Trees) (x : NodeName) (u : Once ts) (h : parent_of ts x ≡ Some y) where
  -- the parent is an inclusive ancestor of it
  pub parent-above : is_inclusive_ancestor ts y x ≡ true
  parent-above = ap (is_in name_eq y) (ancestors-step ts x y u h) ∙ or_right (name_eq y x) (is_inclusive_ancestor ts y y)
      (self-above ts y (parent-there ts x y h))

  -- an ancestor of it is an inclusive ancestor of the parent
  pub above-parent : (a : NodeName) → is_inclusive_ancestor ts a x ≡ true → name_eq a x ≡ false → is_inclusive_ancestor ts a y ≡ true
  above-parent a k d = or-later (name_eq a x) (is_inclusive_ancestor ts a y) d (sym (ap (is_in name_eq a) (ancestors-step ts x y u h)) ∙ k)

-- a parent does not stand in its child's tree
pub parent-apart : (ts : Trees) (x y : NodeName) → Once ts → parent_of ts x ≡ Some y → inside ts x y ≡ 0
parent-apart none x y u h = cc
parent-apart (tree n c r) x y u h =
    let parts = once_parts n c r u in
    let once = u x in
    let top = on_top (inclusive_ancestors c x) n.name (inclusive_ancestors r x) in
    by_cases (name_eq n.name x)
    (λ e. let is : first_of (drop 1 (x ∷ [])) ≡ Some y = sym (ap (λ p. first_of (drop 1 p)) (cond-true (name_eq n.name x) (x ∷ []) top e)) ∙ h in cc)
    (λ e. let g = times-elsewhere n c r x e in
    let i = inside-elsewhere n c r x y e in
    let here = cond-false (name_eq n.name x) (x ∷ []) top e in
    by_times (times_in c x)
    (λ z. let all : inclusive_ancestors (tree n c r) x ≡ inclusive_ancestors r x = here ∙ ap (λ p. on_top p n.name (inclusive_ancestors r x))
    (path_none c x z) in
    let behind = parent-apart r x y parts.after (sym (ap (λ p. first_of (drop 1 p)) all) ∙ h) in
    let below = inside-absent c x y z in omega arith)
    (λ z. let at = ancestors-present c x z in
    let all : inclusive_ancestors (tree n c r) x ≡ (x ∷ at.0) ++ n.name ∷ [] = here ∙ ap (λ p. on_top p n.name (inclusive_ancestors r x)) at.1 in
    let behind = inside-absent r x y (omega arith) in
    let below = from (λ up. parent-apart c x y parts.below up) at.0 at.1 (sym (ap (λ p. first_of (drop 1 p)) all) ∙ h) (u y) in omega arith))
  where
    from : (parent_of c x ≡ Some y → inside c x y ≡ 0) → (path : List NodeName) → inclusive_ancestors c x ≡ x ∷ path →
        first_of (path ++ n.name ∷ []) ≡ Some y → times_in (tree n c r) y ≤ 1 → inside c x y ≡ 0
    from f [] at up once =
        let both : Some n.name ≡ Some y = up in
        let same : n.name ≡ y = cc in
        let g = times-here n c r y (ap (name_eq n.name) (sym same) ∙ name_eq-same n.name) in
        let i = inside-times c x y in omega arith
    from f (q ∷ path) at up once = f (ap (λ p. first_of (drop 1 p)) at ∙ up)

-- Roots: that of a node that is there is above it.
pub root-above : (ts : Trees) (z : NodeName) → 1 ≤ times_in ts z → is_inclusive_ancestor ts (root_of ts z) z ≡ true
root-above ts z t =
    let up = ancestors-present ts z t in
    let root : root_of ts z ≡ last_from z up.0 = ap (λ p. unwrap_or (last_or None p) z) up.1 ∙ ap (λ o. unwrap_or o z) (last-is z up.0) in
    ap (λ p. is_in name_eq (root_of ts z) p) up.1 ∙ ap (λ y. is_in name_eq y (z ∷ up.0)) root ∙ last-in z up.0

-- a node has the root of what is above it
pub root-one : (ts : Trees) → Once ts → (a z : NodeName) → is_inclusive_ancestor ts a z ≡ true → root_of ts a ≡ root_of ts z
root-one ts u a z h = all-in (λ y. root_of ts y ≡ root_of ts z) a (inclusive_ancestors ts z) (ancestors-root ts u z) h

-- so a child has its parent's
pub root-parent_of : (ts : Trees) → Once ts → (x y : NodeName) → parent_of ts x ≡ Some y → root_of ts y ≡ root_of ts x
root-parent_of ts u x y h = root-one ts u y x (parent-above ts x u h)

-- one root, as the model tests it
pub roots-equal : (ts : Trees) (a b : NodeName) → same_root ts a b ≡ true → root_of ts a ≡ root_of ts b
roots-equal ts a b h = name_eq-true (root_of ts a) (root_of ts b) h

-- and back
pub roots-same : (ts : Trees) (a b : NodeName) → root_of ts a ≡ root_of ts b → same_root ts a b ≡ true
roots-same ts a b e = ap (name_eq (root_of ts a)) (sym e) ∙ name_eq-same (root_of ts a)

-- Nodes of one tree are still in one.
abbrev pub KeepsRoots : Trees → Trees → Type 0
KeepsRoots ts us = (a b : NodeName) → 1 ≤ times_in ts a → 1 ≤ times_in ts b → root_of ts a ≡ root_of ts b → root_of us a ≡ root_of us b

-- A node that is there, and whose inclusive ancestors stay such.
record KeepsAncestors (ts us : Trees) (a : NodeName) : Type 0 where
  there : 1 ≤ times_in ts a
  ancestors : (x : NodeName) → is_inclusive_ancestor ts x a ≡ true → is_inclusive_ancestor us x a ≡ true

-- by the root above both
root-kept : {ts us : Trees} {a b : NodeName} → Once us → KeepsAncestors ts us a → KeepsAncestors ts us b → root_of ts a ≡ root_of ts b →
    root_of us a ≡ root_of us b
root-kept {ts} {us} {a} {b} u f g e =
    let x = root_of ts a in
    let first = root-one us u x a (f.ancestors x (root-above ts a f.there)) in
    let second = root-one us u x b (g.ancestors x (subst (λ y. is_inclusive_ancestor ts y b ≡ true) (sym e) (root-above ts b g.there))) in
    sym first ∙ second

-- where ancestors stay
pub roots-stay : (ts us : Trees) → Once us → ((a z : NodeName) → is_inclusive_ancestor ts a z ≡ true → is_inclusive_ancestor us a z ≡ true) →
    KeepsRoots ts us
roots-stay ts us u k a b s t e =
    root-kept u (record { there = s; ancestors = λ x. k x a }) (record { there = t; ancestors = λ x. k x b }) e

-- where a node leaves: of two nodes that do not stand in its tree
pub roots-left : {ts : Trees} {x a b : NodeName} → Once ts → IsOutside ts x a → IsOutside ts x b → root_of ts a ≡ root_of ts b →
    root_of (taken_out x ts) a ≡ root_of (taken_out x ts) b
roots-left {ts} {x} {a} {b} u f g e = root-kept v (kept a f) (kept b g) e
  where
    v : Once (taken_out x ts)
    v = unique-taken_out ts x u

    left : (z : NodeName) → inside ts x z ≡ 0 → (y : NodeName) → is_inclusive_ancestor ts y z ≡ true → is_inclusive_ancestor (taken_out x ts) y z ≡ true
    left z h y k =
        inside-ancestor (taken_out x ts) y z v
        (let g = ancestor-inside ts y z k in let l = inside-left ts x y z u h in let p = inside-put_root x (subtree ts x) (without x ts) y
        z in omega arith)

    kept : (z : NodeName) → IsOutside ts x z → KeepsAncestors ts (taken_out x ts) z
    kept z f = record { there = f.there; ancestors = left z f.apart }

-- Nodes themselves. All nodes of a name are the one that is read.
read-same : (ts us : Trees) (y : NodeName) → 1 ≤ times_in us y → (m : Node) → AllNodes (λ n. name_eq n.name y ≡ true → n ≡ m) us → node_in us y ≡ m
read-same ts us y h m a =
    let at = found-there us y h in
    let found : node_in us y ≡ at.0 = ap (λ (o : Option Node). unwrap_or o (no_node y)) at.1 in
    let named : name_eq (node_in us y).name y ≡ true = ap (λ z. name_eq z y) (name-node_in us y) ∙ name_eq-same y in
    found ∙ listed (nodes us) at.0 (nodes-listed (λ n. name_eq n.name y ≡ true → n ≡ m) us a) at.1 (ap (λ (k : Node). name_eq k.name y) (sym found) ∙ named)
  where
    listed : (ns : List Node) (k : Node) → AllByRecursion (λ (n : Node). name_eq n.name y ≡ true → n ≡ m) ns →
        find (λ (n : Node). name_eq n.name y) ns ≡ Some k → name_eq k.name y ≡ true → k ≡ m
    listed [] k h e t = cc
    listed (n ∷ ns) k h e t =
        by_cases (name_eq n.name y)
        (λ f. let is : Some n ≡ Some k = sym (cond-true (name_eq n.name y) (Some n) (find (λ (n : Node). name_eq n.name y) ns) f) ∙
        e in let same : n ≡ k = cc in sym same ∙ h.0 f)
        (λ f. listed ns k h.1 (sym (cond-false (name_eq n.name y) (Some n) (find (λ (n : Node). name_eq n.name y) ns) f) ∙ e) t)

-- the one that is read is all of them
pub read-all : (ts : Trees) (y : NodeName) → Once ts → 1 ≤ times_in ts y → AllNodes (λ n. name_eq n.name y ≡ true → n ≡ node_in ts y) ts
read-all ts y u h =
    let at = found-there ts y h in
    let found : at.0 ≡ node_in ts y = sym (ap (λ (o : Option Node). unwrap_or o (no_node y)) at.1) in
    subst (λ m. AllNodes (λ n. name_eq n.name y ≡ true → n ≡ m) ts) found (all-found ts y at.0 (u y) at.1)

-- they stay where a node leaves
pub node-taken_out : (ts : Trees) (x y : NodeName) → Once ts → 1 ≤ times_in ts y → node_in (taken_out x ts) y ≡ node_in ts y
node-taken_out ts x y u h =
    let P : Node → Type 0 = λ n. name_eq n.name y ≡ true → n ≡ node_in ts y in
    read-same ts (taken_out x ts) y (let t = times-taken_out_all ts x y u in omega arith) (node_in ts y) (nodes-taken_out P x ts (read-all ts y u h))

-- or is placed
pub node-placed : {ts : Trees} {x parent : NodeName} (before : Option NodeName) (y : NodeName) → CanPlace ts x parent → 1 ≤ times_in ts y →
    node_in (placed x parent before ts) y ≡ node_in ts y
node-placed {ts} {x} {parent} before y c h =
    let P : Node → Type 0 = λ n. name_eq n.name y ≡ true → n ≡ node_in ts y in
    read-same ts (placed x parent before ts) y (let t = times-placed_all before y c in omega arith) (node_in ts y)
    (nodes-placed P x parent before ts (read-all ts y c.unique h))

-- or is new
pub node-with_node : (n : Node) (ts : Trees) (y : NodeName) → Once ts → 1 ≤ times_in ts y → name_eq n.name y ≡ false →
    node_in (with_node n ts) y ≡ node_in ts y
node-with_node n ts y u h e =
    let P : Node → Type 0 = λ n. name_eq n.name y ≡ true → n ≡ node_in ts y in
    read-same ts (with_node n ts) y (let t = Rattle.dom_worlds.proofs.TreeChangeLaws.times-with_node n ts y in omega arith) (node_in ts y)
    (nodes-with_node P n ts (λ f. absurd (true≢false (sym f ∙ e))) (read-all ts y u h))

-- the new one
pub node-new : (n : Node) (ts : Trees) → times_in ts n.name ≡ 0 → node_in (with_node n ts) n.name ≡ n
node-new n ts z =
    let P : Node → Type 0 = λ m. name_eq m.name n.name ≡ true → m ≡ n in
    read-same ts (with_node n ts) n.name
    (let t = Rattle.dom_worlds.proofs.TreeChangeLaws.times-with_node n ts n.name in let g = times-here n none none n.name
    (name_eq-same n.name) in omega arith) n
    (nodes-with_node P n ts (λ f. refl) (Rattle.dom_worlds.proofs.KindLines.absent-any (λ m. m ≡ n) ts n.name z))

-- or has other contents
pub node-map_nodes : (f : Node → Node) → ((n : Node) → (f n).name ≡ n.name) → (ts : Trees) (y : NodeName) → 1 ≤ times_in ts y →
    node_in (map_nodes f ts) y ≡ f (node_in ts y)
node-map_nodes f h ts y t =
    let at = found-there ts y t in
    ap (λ ns. unwrap_or (find (λ (n : Node). name_eq n.name y) ns) (no_node y)) (nodes-mapped ts) ∙
    ap (λ (o : Option Node). unwrap_or o (no_node y)) (find-mapped (nodes ts) ∙ ap (option_map f) at.1)
    ∙ sym (ap f (ap (λ (o : Option Node). unwrap_or o (no_node y)) at.1))
  where
    map-append : (xs ys : List Node) → map f (xs ++ ys) ≡ map f xs ++ map f ys
    map-append [] ys = refl
    map-append (x ∷ xs) ys = ap (λ zs. f x ∷ zs) (map-append xs ys)

    nodes-mapped : (ts : Trees) → nodes (map_nodes f ts) ≡ map f (nodes ts)
    nodes-mapped none = refl
    nodes-mapped (tree n c r) = ap (λ zs. f n ∷ zs)
        (ap (λ xs. xs ++ nodes (map_nodes f r)) (nodes-mapped c) ∙ ap (λ ys. map f (nodes c) ++ ys) (nodes-mapped r) ∙
        sym (map-append (nodes c) (nodes r)))

    find-mapped : (ns : List Node) → find (λ (n : Node). name_eq n.name y) (map f ns) ≡ option_map f (find (λ (n : Node). name_eq n.name y) ns)
    find-mapped [] = refl
    find-mapped (n ∷ ns) =
        by_cases (name_eq n.name y)
        (λ e. cond-true (name_eq (f n).name y) (Some (f n)) (find (λ (n : Node). name_eq n.name y) (map f ns)) (ap (λ z. name_eq z y) (h n) ∙ e) ∙
        sym (ap (option_map f) (cond-true (name_eq n.name y) (Some n) (find (λ (n : Node). name_eq n.name y) ns) e)))
        (λ e. cond-false (name_eq (f n).name y) (Some (f n)) (find (λ (n : Node). name_eq n.name y) (map f ns))
        (ap (λ z. name_eq z y) (h n) ∙ e) ∙ find-mapped ns ∙
        sym (ap (option_map f) (cond-false (name_eq n.name y) (Some n) (find (λ (n : Node). name_eq n.name y) ns) e)))

-- Lengths.
pub length-data : (ts : Trees) (y : NodeName) → has_data (kind_of ts y) ≡ true → length_of ts y ≡ length (node_in ts y).text
length-data ts y e = cond-true (has_data (kind_of ts y)) (length (node_in ts y).text) (length (children_of ts y)) e

-- of others the children
pub length-kids : (ts : Trees) (y : NodeName) → Once ts → has_data (kind_of ts y) ≡ false → length_of ts y ≡ kids ts y
length-kids ts y u e = cond-false (has_data (kind_of ts y)) (length (node_in ts y).text) (length (children_of ts y)) e ∙ length-children ts y u

-- a name without a node reads as empty
pub length-absent : (ts : Trees) (y : NodeName) → Once ts → times_in ts y ≡ 0 → length_of ts y ≡ 0
length-absent ts y u z =
    let read : node_in ts y ≡ no_node y = ap (λ (o : Option Node). unwrap_or o (no_node y)) (found-absent ts y z) in
    length-kids ts y u (ap (λ (n : Node). has_data n.kind) read) ∙ kids-absent ts y z
