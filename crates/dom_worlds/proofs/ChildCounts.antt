-- How many children nodes have, and what the elementary changes do to that and to the nodes themselves.
use Rattle.dom_base.proofs.Std.{◌≡◌, ℕ, ◌+◌, ◌≤◌, ◌<◌, true, false, List, [], ◌∷◌, ◌++◌, length, Option, Some, None, refl, sym, ap, ◌∙◌, arith, true≢false}
use Rattle.dom_base.proofs.Std.{subst, drop, if◌then◌else◌, option_map_or, cond-true, cond-false}
use Rattle.dom_model.proofs.Model.{NodeName, name_eq, is_in, items_before, first_of, Trees, none, tree, Node, names_of, roots, subtree, or_else, trees_below}
use Rattle.dom_model.proofs.Model.{children_of, parent_of, index_of, times_in, inclusive_ancestors, on_top, without, put_below, put_root, taken_out, placed}
use Rattle.dom_model.proofs.Model.{with_node, map_nodes, name_eq-same, name_eq-turned}
use Rattle.dom_worlds.proofs.Insides.{CanPlace, times-inside, times-parted, without-absent, or_else-none}
use Rattle.dom_worlds.proofs.InsideAncestors.{parent-there, no_parent-root}
use Rattle.dom_worlds.proofs.Lists.{by_cases, or-later}
use Rattle.dom_worlds.proofs.TreeChangeLaws.{HasRoot, without-here, without-elsewhere, subtree-here, subtree-elsewhere, IsNodeSum, sum-put_below_name}
use Rattle.dom_laws.proofs.Laws.{once_parts, Once, by_times, times-here, times-elsewhere, times-more, subtree_gone, path_none}
use Rattle.dom_worlds.proofs.Trees.{root-there, ancestors-present, IsSum, sum-put_root}

-- how many roots there are
abbrev pub rooted : Trees → ℕ
rooted none = 0
rooted (tree n c r) = 1 + rooted r

-- how many children the nodes of a name have
abbrev pub kids : Trees → NodeName → ℕ
kids none y = 0
kids (tree n c r) y = (if name_eq n.name y then rooted c else 0) + kids c y + kids r y

-- at the first root, and elsewhere
kids-here : (n : Node) (c r : Trees) (y : NodeName) → name_eq n.name y ≡ true → kids (tree n c r) y ≡ rooted c + kids c y + kids r y
kids-here n c r y e = ap (λ k. k + kids c y + kids r y) (cond-true (name_eq n.name y) (rooted c) 0 e)

-- at another root
kids-elsewhere : (n : Node) (c r : Trees) (y : NodeName) → name_eq n.name y ≡ false → kids (tree n c r) y ≡ kids c y + kids r y
kids-elsewhere n c r y e = let g = ap (λ k. k + kids c y + kids r y) (cond-false (name_eq n.name y) (rooted c) 0 e) in omega arith

-- a name without a node has none
pub kids-absent : (ts : Trees) (y : NodeName) → times_in ts y ≡ 0 → kids ts y ≡ 0
kids-absent none y h = refl
kids-absent (tree n c r) y h =
    by_cases (name_eq n.name y) (λ e. absurd (let g = times-here n c r y e in omega arith))
    (λ e. let g = times-elsewhere n c r y e in let k = kids-elsewhere n c r y e in let a = kids-absent c y (omega arith) in let b = kids-absent r
    y (omega arith) in omega arith)

-- roots, read as a list
length-roots : (ts : Trees) → length (names_of (roots ts)) ≡ rooted ts
length-roots none = refl
length-roots (tree n c r) = let h = length-roots r in omega arith

-- the children of a node, read alone
pub kids-below : (ts : Trees) (y : NodeName) → Once ts → rooted (trees_below (subtree ts y)) ≡ kids ts y
kids-below none y u = refl
kids-below (tree n c r) y u =
    let once = u y in
    let parts = once_parts n c r u in
    by_cases (name_eq n.name y)
    (λ e. let g = times-here n c r y e in let s = ap (λ t. rooted (trees_below t)) (subtree-here n c r y e) in
    let k = kids-here n c r y e in let a = kids-absent c y (omega arith) in let b = kids-absent r y (omega arith) in omega arith)
    (λ e. let g = times-elsewhere n c r y e in let k = kids-elsewhere n c r y e in
    by_times (times_in c y)
    (λ z. let s = ap (λ t. rooted (trees_below t)) (subtree-elsewhere n c r y e ∙ ap (λ t. or_else t (subtree r y)) (subtree_gone c y z)) in
    let a = kids-absent c y z in let b = kids-below r y parts.after in omega arith)
    (λ z. let s = ap (λ t. rooted (trees_below t))
    (subtree-elsewhere n c r y e ∙ ap (or_else (subtree c y)) (subtree_gone r y (omega arith)) ∙ or_else-none (subtree c y)) in
    let a = kids-absent r y (omega arith) in let b = kids-below c y parts.below in omega arith))

-- so the list of children has that length
pub length-children : (ts : Trees) (y : NodeName) → Once ts → length (children_of ts y) ≡ kids ts y
length-children ts y u = length-roots (trees_below (subtree ts y)) ∙ kids-below ts y u

-- Trees put into a list: their roots.
rooted-sum : IsSum rooted
rooted-sum = record { nothing = refl; more = λ n c r. omega arith }

-- their children
kids-sum : (y : NodeName) → IsSum (λ ts. kids ts y)
kids-sum y = record { nothing = refl; more = λ n c r. omega arith }

-- by the order of names
kids-put_root : (x : NodeName) (new ts : Trees) (y : NodeName) → kids (put_root x new ts) y ≡ kids new y + kids ts y
kids-put_root x new ts y = sum-put_root (kids-sum y) x new ts

-- one more, at a node
abbrev pub one_at : NodeName → NodeName → ℕ
one_at x y = if name_eq x y then 1 else 0

-- what is put below a node
kids-put_below : (parent : NodeName) (before : Option NodeName) (new ts : Trees) (y : NodeName) → times_in ts parent ≡ 1 →
    kids (put_below parent before new ts) y ≡ kids new y + kids ts y + (if name_eq parent y then rooted new else 0)
kids-put_below parent before new ts y h = sum-put_below_name y parent before new {m = λ ts. kids ts y} {f = rooted} sum rooted-sum same ts h
  where
    sum : IsNodeSum (λ ts. kids ts y) (λ n c. if name_eq n.name y then rooted c else 0)
    sum = record { nothing = refl; each = λ n c r. refl }

    same : (ts : Trees) → rooted (put_below parent before new ts) ≡ rooted ts
    same none = refl
    same (tree n c r) = let h = same r in omega arith

-- A root that is taken out of a list.
rooted-without : (ts : Trees) (x : NodeName) → Once ts → HasRoot ts x → 1 + rooted (without x ts) ≡ rooted ts
rooted-without none x u h = absurd (true≢false (sym h))
rooted-without (tree n c r) x u h =
    let once = u x in
    by_cases (name_eq n.name x)
    (λ e. let g = times-here n c r x e in let s = ap rooted (without-here n c r x e ∙ without-absent r x (omega arith)) in omega arith)
    (λ e. let s = ap rooted (without-elsewhere n c r x e) in
    let later = or-later (name_eq x n.name) (is_in name_eq x (names_of (roots r))) (name_eq-turned x n.name ∙ e) h in
    let b = rooted-without r x (λ k. let o = u k in let m = times-more n c r k in omega arith) later in omega arith)

-- and its children, and all others
kids-parted : (ts : Trees) (x y : NodeName) → Once ts → HasRoot ts x → kids (without x ts) y + kids (subtree ts x) y ≡ kids ts y
kids-parted none x y u h = absurd (true≢false (sym h))
kids-parted (tree n c r) x y u h =
    let once = u x in
    by_cases (name_eq n.name x)
    (λ e. let g = times-here n c r x e in
    let s = ap (λ t. kids t y) (without-here n c r x e ∙ without-absent r x (omega arith)) in let t =
    ap (λ t. kids t y) (subtree-here n c r x e) in omega arith)
    (λ e. let g = times-elsewhere n c r x e in
    let later = or-later (name_eq x n.name) (is_in name_eq x (names_of (roots r))) (name_eq-turned x n.name ∙ e) h in
    let there = root-there r x later in
    let s = ap (λ t. kids t y) (without-elsewhere n c r x e ∙ ap (λ t. tree n t (without x r)) (without-absent c x (omega arith))) in
    let t = ap (λ t. kids t y) (subtree-elsewhere n c r x e ∙ ap (λ t. or_else t (subtree r x)) (subtree_gone c x (omega arith))) in
    let b = kids-parted r x y (λ k. let o = u k in let m = times-more n c r k in omega arith) later in omega arith)

-- the parent in the trees below a root
below-parent : {x : NodeName} {path : List NodeName} (n : Node) (c r : Trees) → name_eq n.name x ≡ false → inclusive_ancestors c x ≡ x ∷ path →
    parent_of (tree n c r) x ≡ first_of (path ++ n.name ∷ [])
below-parent {x} n c r e h =
    ap (λ p. first_of (drop 1 p)) (cond-false (name_eq n.name x) (x ∷ []) (on_top (inclusive_ancestors c x) n.name (inclusive_ancestors r x)) e ∙
    ap (λ p. on_top p n.name (inclusive_ancestors r x)) h)

module _ (n : Node) (c r : Trees) (x parent : NodeName) where
  -- a root has none
  root-orphan : name_eq n.name x ≡ true → parent_of (tree n c r) x ≡ Some parent → ⊥
  root-orphan e h =
      let is : first_of (drop 1 (x ∷ [])) ≡ Some parent = sym
      (ap (λ p. first_of (drop 1 p)) (cond-true (name_eq n.name x) (x ∷ []) (on_top (inclusive_ancestors c x) n.name (inclusive_ancestors r x)) e)) ∙ h in cc

  -- the parent in the trees after the first
  beside-parent : name_eq n.name x ≡ false → times_in c x ≡ 0 → parent_of (tree n c r) x ≡ Some parent → parent_of r x ≡ Some parent
  beside-parent e z h =
      sym (ap (λ p. first_of (drop 1 p)) (cond-false (name_eq n.name x) (x ∷ []) (on_top (inclusive_ancestors c x) n.name (inclusive_ancestors r x))
      e ∙ ap (λ p. on_top p n.name (inclusive_ancestors r x)) (path_none c x z))) ∙ h

-- A child that is taken out of its tree: one less of its parent's.
kids-taken : (ts : Trees) (x parent y : NodeName) → Once ts → parent_of ts x ≡ Some parent →
    (kids (without x ts) y + kids (subtree ts x) y + one_at parent y ≡ kids ts y) × (rooted (without x ts) ≡ rooted ts)
kids-taken none x parent y u h = cc
kids-taken (tree n c r) x parent y u h =
    let once = u x in
    let parts = once_parts n c r u in
    by_cases (name_eq n.name x)
    (λ e. absurd (root-orphan n c r x parent e h))
    (λ e. let g = times-elsewhere n c r x e in
    let s = without-elsewhere n c r x e in
    by_times (times_in c x)
    (λ z. let up = beside-parent n c r x parent e z h in
    let b = kids-taken r x parent y parts.after up in
    let b0 = b.0 in let b1 = b.1 in
    let whole = s ∙ ap (λ t. tree n t (without x r)) (without-absent c x z) in
    let w = ap (λ t. kids t y) whole in
    let t = ap (λ t. kids t y) (subtree-elsewhere n c r x e ∙ ap (λ t. or_else t (subtree r x)) (subtree_gone c x z)) in
    ((omega arith), (let v = ap rooted whole in omega arith)))
    (λ z. let at = ancestors-present c x z in
    let up = sym (below-parent n c r e at.1) ∙ h in
    let whole = s ∙ ap (tree n (without x c)) (without-absent r x (omega arith)) in
    let own = subtree-elsewhere n c r x e ∙ ap (or_else (subtree c x)) (subtree_gone r x (omega arith)) ∙ or_else-none (subtree c x) in
    from (λ e. kids-taken c x parent y parts.below e) up at.1 z whole own))
  where
    from : (parent_of c x ≡ Some parent → (kids (without x c) y + kids (subtree c x) y + one_at parent y ≡ kids c y) × (rooted (without x c) ≡ rooted c)) →
        {path : List NodeName} → first_of (path ++ n.name ∷ []) ≡ Some parent → inclusive_ancestors c x ≡ x ∷ path → 1 ≤ times_in c x →
        without x (tree n c r) ≡ tree n (without x c) r → subtree (tree n c r) x ≡ subtree c x →
        (kids (without x (tree n c r)) y + kids (subtree (tree n c r) x) y + one_at parent y ≡ kids (tree n c r) y) ×
        (rooted (without x (tree n c r)) ≡ rooted (tree n c r))
    from f {path = []} up path z whole own =
        let uc = (once_parts n c r u).below in
        let w = ap (λ t. kids t y) whole in let t = ap (λ t. kids t y) own in let v = ap rooted whole in
        let both : Some n.name ≡ Some parent = up in
        let same : n.name ≡ parent = cc in
        let alone : parent_of c x ≡ None = ap (λ p. first_of (drop 1 p)) path in
        let root = no_parent-root c x z alone in
        let a = rooted-without c x uc root in
        let b = kids-parted c x y uc root in
        let o : one_at parent y ≡ one_at n.name y = ap (λ q. one_at q y) (sym same) in (
          by_cases (name_eq n.name y)
              (λ k. let i = kids-here n c r y k in let j = kids-here n (without x c) r y k in let l : one_at n.name y ≡ 1 = cond-true
              (name_eq n.name y) 1 0 k in omega arith)
              (λ k. let i = kids-elsewhere n c r y k in let j = kids-elsewhere n (without x c) r y k in let l : one_at n.name y ≡ 0 = cond-false
              (name_eq n.name y) 1 0 k in omega arith),
          omega arith,
        )
    from f {path = q ∷ path} up h z whole own =
        let w = ap (λ t. kids t y) whole in let t = ap (λ t. kids t y) own in let v = ap rooted whole in
        let inner : parent_of c x ≡ Some parent = ap (λ p. first_of (drop 1 p)) h ∙ up in
        let b = f inner in
        let b0 = b.0 in let b1 = b.1 in (
          by_cases (name_eq n.name y)
              (λ k. let i = kids-here n c r y k in let j = kids-here n (without x c) r y k in omega arith)
              (λ k. let i = kids-elsewhere n c r y k in let j = kids-elsewhere n (without x c) r y k in omega arith),
          omega arith,
        )

-- Elementary changes.
pub kids-taken_out : (ts : Trees) (x parent y : NodeName) → Once ts → parent_of ts x ≡ Some parent → kids (taken_out x ts) y + one_at parent y ≡ kids ts y
kids-taken_out ts x parent y u h = let p = kids-put_root x (subtree ts x) (without x ts) y in let t = (kids-taken ts x parent y u h).0 in omega arith

-- of a tree alone there is one root
rooted-subtree : (ts : Trees) (x : NodeName) → 1 ≤ times_in ts x → rooted (subtree ts x) ≡ 1
rooted-subtree none x h = absurd (omega arith)
rooted-subtree (tree n c r) x h =
    by_cases (name_eq n.name x) (λ e. ap rooted (subtree-here n c r x e))
    (λ e. let g = times-elsewhere n c r x e in
    by_times (times_in c x)
    (λ z. ap rooted (subtree-elsewhere n c r x e ∙ ap (λ t. or_else t (subtree r x)) (subtree_gone c x z)) ∙ rooted-subtree r x (omega arith))
    (λ z. let b = rooted-subtree c x z in ap rooted (subtree-elsewhere n c r x e) ∙ left (subtree c x) (subtree r x) b))
  where
    left : (a b : Trees) → rooted a ≡ 1 → rooted (or_else a b) ≡ 1
    left none b h = absurd (omega arith)
    left (tree n c r) b h = h

-- a root that is placed
pub kids-placed : {ts : Trees} {x parent : NodeName} (before : Option NodeName) (y : NodeName) → CanPlace ts x parent → HasRoot ts x →
    kids (placed x parent before ts) y ≡ kids ts y + one_at parent y
kids-placed {ts} {x} {parent} before y c k =
    let u = c.unique in let t = c.below.there in let h = c.below.apart in
    let once = u parent in
    let s = times-inside ts x parent in
    let w = times-parted ts x parent u in
    let p = kids-put_below parent before (subtree ts x) (without x ts) y (omega arith) in
    let q = kids-parted ts x y u k in
    let one = ap (λ m. if name_eq parent y then m else 0) (rooted-subtree ts x (root-there ts x k)) in omega arith

-- a new node
pub kids-with_node : (n : Node) (ts : Trees) (y : NodeName) → kids (with_node n ts) y ≡ kids ts y
kids-with_node n ts y =
    let p = kids-put_root n.name (tree n none none) ts y in
    by_cases (name_eq n.name y) (λ e. let k = kids-here n none none y e in omega arith) (λ e. let k = kids-elsewhere n none none y e in omega arith)

-- nodes with other contents
pub kids-map_nodes : (f : Node → Node) → ((n : Node) → (f n).name ≡ n.name) → (ts : Trees) (y : NodeName) → kids (map_nodes f ts) y ≡ kids ts y
kids-map_nodes f h none y = refl
kids-map_nodes f h (tree n c r) y =
    let g = h n in
    let a = kids-map_nodes f h c y in let b = kids-map_nodes f h r y in
    let q = rooted-map c in
    by_cases (name_eq n.name y)
    (λ e. let i = kids-here n c r y e in let j = kids-here (f n) (map_nodes f c) (map_nodes f r) y (ap (λ z. name_eq z y) g ∙ e) in omega arith)
    (λ e. let i = kids-elsewhere n c r y e in let j = kids-elsewhere (f n) (map_nodes f c) (map_nodes f r) y (ap (λ z. name_eq z y) g ∙ e) in omega arith)
  where
    rooted-map : (ts : Trees) → rooted (map_nodes f ts) ≡ rooted ts
    rooted-map none = refl
    rooted-map (tree n c r) = let h = rooted-map r in omega arith

-- A child among the children of its parent, and its index.
pub root-below : (ts : Trees) (x parent : NodeName) → Once ts → parent_of ts x ≡ Some parent → HasRoot (trees_below (subtree ts parent)) x
root-below none x parent u h = cc
root-below (tree n c r) x parent u h =
    let once = u x in
    let once_p = u parent in
    let parts = once_parts n c r u in
    by_cases (name_eq n.name x)
    (λ e. absurd (root-orphan n c r x parent e h))
    (λ e. let g = times-elsewhere n c r x e in
    by_times (times_in c x)
    (λ z. let up = beside-parent n c r x parent e z h in
    let there = parent-there r x parent up in
    let other : name_eq n.name parent ≡ false = by_cases (name_eq n.name parent) (λ k. absurd (let q = times-here n c r parent k in omega arith)) (λ k. k) in
    let m = times-elsewhere n c r parent other in
    subst (λ t. HasRoot (trees_below t) x)
    (sym (subtree-elsewhere n c r parent other ∙ ap (λ t. or_else t (subtree r parent)) (subtree_gone c parent (omega arith))))
    (root-below r x parent parts.after up))
    (λ z. let at = ancestors-present c x z in from (λ e. root-below c x parent parts.below e) (sym (below-parent n c r e at.1) ∙ h) at.1 parts.below z once_p))
  where
    from : (parent_of c x ≡ Some parent → HasRoot (trees_below (subtree c parent)) x) → {path : List NodeName} → first_of (path ++ n.name ∷ []) ≡ Some parent →
        inclusive_ancestors c x ≡ x ∷ path → Once c → 1 ≤ times_in c x → times_in (tree n c r) parent ≤ 1 →
        HasRoot (trees_below (subtree (tree n c r) parent)) x
    from f {path = []} up path uc z once =
        let both : Some n.name ≡ Some parent = up in
        let same : n.name ≡ parent = cc in
        let alone : parent_of c x ≡ None = ap (λ p. first_of (drop 1 p)) path in
        subst (λ t. HasRoot (trees_below t) x) (sym (subtree-here n c r parent (ap (λ q. name_eq n.name q) (sym same) ∙ name_eq-same n.name)))
        (no_parent-root c x z alone)
    from f {path = q ∷ path} up h uc z once =
        let inner : parent_of c x ≡ Some parent = ap (λ p. first_of (drop 1 p)) h ∙ up in
        let there = parent-there c x parent inner in
        let other : name_eq n.name parent ≡ false =
        by_cases (name_eq n.name parent) (λ k. absurd (let q = times-here n c r parent k in omega arith)) (λ k. k) in
        let m = times-elsewhere n c r parent other in
        subst (λ t. HasRoot (trees_below t) x)
        (sym (subtree-elsewhere n c r parent other ∙ ap (or_else (subtree c parent)) (subtree_gone r parent (omega arith)) ∙
        or_else-none (subtree c parent))) (f inner)

-- what comes before an item that is there is shorter
before-shorter : (x : NodeName) (xs : List NodeName) → is_in name_eq x xs ≡ true → length (items_before name_eq x xs) < length xs
before-shorter x [] h = absurd (true≢false (sym h))
before-shorter x (y ∷ xs) h =
    by_cases (name_eq x y) (λ e. let g = ap length (cond-true (name_eq x y) [] (y ∷ items_before name_eq x xs) e) in omega arith)
    (λ e. let g = ap length (cond-false (name_eq x y) [] (y ∷ items_before name_eq x xs) e) in let b = before-shorter x xs
    (or-later (name_eq x y) (is_in name_eq x xs) e h) in omega arith)

-- an index is below the number of children
pub index-below : (ts : Trees) (x parent : NodeName) → Once ts → parent_of ts x ≡ Some parent → index_of ts x < kids ts parent
index-below ts x parent u h =
    let same : index_of ts x ≡ length (items_before name_eq x (children_of ts parent)) =
    ap (λ (o : Option NodeName). length (items_before name_eq x (option_map_or (children_of ts) o (x ∷ [])))) h in
    let b = before-shorter x (children_of ts parent) (root-below ts x parent u h) in
    let c = length-children ts parent u in omega arith
