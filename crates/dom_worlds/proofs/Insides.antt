-- Which nodes stand in the tree of another one, how elementary changes shrink that, and that they lose no node.
use Rattle.dom_base.proofs.Std.{◌≡◌, ℕ, ◌+◌, ◌≤◌, true, false, Option, refl, ap, ◌∙◌, arith, if◌then◌else◌, cond-true, cond-false}
use Rattle.dom_model.proofs.Model.{NodeName, name_eq, Trees, none, tree, Node, subtree, or_else, times_in, without, put_before, put_below, put_root, taken_out}
use Rattle.dom_model.proofs.Model.{placed, with_node, map_nodes, name_eq-same}
use Rattle.dom_worlds.proofs.Lists.{by_cases}
use Rattle.dom_laws.proofs.Laws.{Once, by_times, times-here, times-elsewhere, times-more, times-parts, times_or_else, once_parts, subtree_gone}
use Rattle.dom_worlds.proofs.TreeChangeLaws.{without-here, without-elsewhere, times-put_below_all, subtree-here, subtree-elsewhere, put_below-here}
use Rattle.dom_worlds.proofs.TreeChangeLaws.{put_below-elsewhere, put_below-absent, times-put_root, times-without, times-map_nodes}
use Rattle.dom_worlds.proofs.Trees.{IsSum, sum-put_before, sum-put_root}

-- how often z stands in the trees of nodes named a
abbrev pub inside : Trees → NodeName → NodeName → ℕ
inside none a z = 0
inside (tree n c r) a z = (if name_eq n.name a then times_in (tree n c none) z else inside c a z) + inside r a z

-- at the first root, and elsewhere
pub inside-here : (n : Node) (c r : Trees) (a z : NodeName) → name_eq n.name a ≡ true → inside (tree n c r) a z ≡ times_in (tree n c none) z + inside r a z
inside-here n c r a z e = ap (λ k. k + inside r a z) (cond-true (name_eq n.name a) (times_in (tree n c none) z) (inside c a z) e)

-- at another root
pub inside-elsewhere : (n : Node) (c r : Trees) (a z : NodeName) → name_eq n.name a ≡ false → inside (tree n c r) a z ≡ inside c a z + inside r a z
inside-elsewhere n c r a z e = ap (λ k. k + inside r a z) (cond-false (name_eq n.name a) (times_in (tree n c none) z) (inside c a z) e)

-- there are no more than in all
pub inside-times : (ts : Trees) (a z : NodeName) → inside ts a z ≤ times_in ts z
inside-times none a z = omega arith
inside-times (tree n c r) a z =
    let below = inside-times c a z in
    let behind = inside-times r a z in
    let parts = times-parts n c r z in
    let more = times-more n c none z in
    by_cases (name_eq n.name a) (λ e. let g = inside-here n c r a z e in omega arith)
    (λ e. let g = inside-elsewhere n c r a z e in let m = times-more n c r z in omega arith)

-- in the tree of a node that is not there stands none
pub inside-absent : (ts : Trees) (a z : NodeName) → times_in ts a ≡ 0 → inside ts a z ≡ 0
inside-absent none a z h = refl
inside-absent (tree n c r) a z h =
    by_cases (name_eq n.name a) (λ e. absurd (let g = times-here n c r a e in omega arith))
    (λ e. let g = times-elsewhere n c r a e in let k = inside-elsewhere n c r a z e in
    let below = inside-absent c a z (omega arith) in let behind = inside-absent r a z (omega arith) in omega arith)

-- the tree of a node that is there holds it
pub inside-itself : (ts : Trees) (a : NodeName) → 1 ≤ times_in ts a → 1 ≤ inside ts a a
inside-itself none a h = absurd (omega arith)
inside-itself (tree n c r) a h =
    by_cases (name_eq n.name a) (λ e. let g = times-here n c none a e in let k = inside-here n c r a a e in omega arith)
    (λ e. let g = times-elsewhere n c r a e in let k = inside-elsewhere n c r a a e in
    by_times (times_in c a) (λ z. let behind = inside-itself r a (omega arith) in omega arith) (λ z. let below = inside-itself c a z in omega arith))

-- the tree of a node, read alone
pub times-inside : (ts : Trees) (a z : NodeName) → times_in (subtree ts a) z ≤ inside ts a z
times-inside none a z = omega arith
times-inside (tree n c r) a z =
    by_cases (name_eq n.name a)
    (λ e. let g = inside-here n c r a z e in let s = ap (λ t. times_in t z) (subtree-here n c r a e) in omega arith)
    (λ e. let g = inside-elsewhere n c r a z e in let s = ap (λ t. times_in t z) (subtree-elsewhere n c r a e) in
    let o = times_or_else (subtree c a) (subtree r a) z in let below = times-inside c a z in let behind = times-inside r a z in omega arith)

-- trees put into a list
inside-sum : (a z : NodeName) → IsSum (λ ts. inside ts a z)
inside-sum a z = record { nothing = refl; more = λ n c r. omega arith }

-- by the order of names
pub inside-put_root : (y : NodeName) (new ts : Trees) (a z : NodeName) → inside (put_root y new ts) a z ≡ inside new a z + inside ts a z
inside-put_root y new ts a z = sum-put_root (inside-sum a z) y new ts

-- of the first list that is there
inside-or_else : (ts us : Trees) (a z : NodeName) → inside (or_else ts us) a z ≤ inside ts a z + inside us a z
inside-or_else none us a z = omega arith
inside-or_else (tree n c r) us a z = omega arith

-- what is taken out and what is left hold no more than all
pub inside-without : (ts : Trees) (y a z : NodeName) → inside (without y ts) a z + inside (subtree ts y) a z ≤ inside ts a z
inside-without none y a z = omega arith
inside-without (tree n c r) y a z =
    by_cases (name_eq n.name y)
    (λ e. let s = ap (λ t. inside t a z) (without-here n c r y e) in let t = ap (λ t. inside t a z) (subtree-here n c r y e) in
    let behind = inside-without r y a z in omega arith)
    (λ e. let s = ap (λ t. inside t a z) (without-elsewhere n c r y e) in let t = ap (λ t. inside t a z) (subtree-elsewhere n c r y e) in
    let o = inside-or_else (subtree c y) (subtree r y) a z in
    let below = inside-without c y a z in let behind = inside-without r y a z in
    by_cases (name_eq n.name a)
    (λ f. let k = inside-here n c r a z f in let l = inside-here n (without y c) (without y r) a z f in
    let w = times-without c y z in let v = inside-times (subtree c y) a z in
    let p = times-parts n c none z in let q = times-parts n (without y c) none z in omega arith)
    (λ f. let k = inside-elsewhere n c r a z f in let l = inside-elsewhere n (without y c) (without y r) a z f in omega arith))

-- Trees that are put among others.
module _ (before : Option NodeName) (new : Trees) (a z : NodeName) where
  -- before the node given
  pub inside-put_before : (ts : Trees) → inside (put_before before new ts) a z ≡ inside new a z + inside ts a z
  inside-put_before ts = sum-put_before (inside-sum a z) before new ts

  -- what is put below a node that does not stand in the tree of a
  inside-put_below : (parent : NodeName) (ts : Trees) → times_in ts parent ≤ 1 →
      inside ts a parent ≡ 0 → inside (put_below parent before new ts) a z ≤ inside new a z + inside ts a z
  inside-put_below parent none u h = omega arith
  inside-put_below parent (tree n c r) u h =
      by_cases (name_eq n.name parent)
      (λ e. let s = ap (λ t. inside t a z) (put_below-here parent before new n c r e) in
      let g = times-here n c r parent e in
      let d = ap (λ t. inside (put_before before new t) a z) (put_below-absent parent before new c (omega arith)) in
      let f = ap (λ t. inside t a z) (put_below-absent parent before new r (omega arith)) in
      let b = inside-put_before c in
      by_cases (name_eq n.name a)
      (λ k. absurd (let i = inside-here n c r a parent k in let j = times-here n c none parent e in omega arith))
      (λ k. let i = inside-elsewhere n c r a z k in let j = inside-elsewhere n (put_before before new (put_below parent before new c))
      (put_below parent before new r) a z k in omega arith))
      (λ e. let s = ap (λ t. inside t a z) (put_below-elsewhere parent before new n c r e) in
      let g = times-elsewhere n c r parent e in
      by_cases (name_eq n.name a)
      (λ k. let i = inside-here n c r a parent k in let j = times-more n c none parent in
      let d = put_below-absent parent before new c (omega arith) in
      let q = inside-here n (put_below parent before new c) (put_below parent before new r) a z k in
      let w = ap (λ t. times_in (tree n t none) z) d in
      let v = inside-here n c r a z k in
      let behind = inside-put_below parent r (omega arith) (omega arith) in omega arith)
      (λ k. let i = inside-elsewhere n c r a parent k in
      let q = inside-elsewhere n (put_below parent before new c) (put_below parent before new r) a z k in
      let v = inside-elsewhere n c r a z k in
      by_times (times_in c parent)
      (λ t. let d = ap (λ t. inside t a z) (put_below-absent parent before new c t) in let behind = inside-put_below parent r
      (omega arith) (omega arith) in omega arith)
      (λ t. let d = ap (λ t. inside t a z) (put_below-absent parent before new r (omega arith)) in
      let below = inside-put_below parent c (omega arith) (omega arith) in omega arith)))

-- Elementary changes. Of a node y.
module _ (ts : Trees) (y a z : NodeName) where
  -- it leaves its parent
  pub inside-taken_out : inside (taken_out y ts) a z ≤ inside ts a z
  inside-taken_out = let p = inside-put_root y (subtree ts y) (without y ts) a z in let w = inside-without ts y a z in omega arith

  -- it is placed
  pub inside-placed : (parent : NodeName) (before : Option NodeName) → Once ts → inside ts a parent ≡ 0 →
      inside (placed y parent before ts) a z ≤ inside ts a z
  inside-placed parent before u h =
      let once = u parent in
      let w = times-without ts y parent in
      let v = inside-without ts y a parent in
      let p = inside-put_below before (subtree ts y) a z parent (without y ts) (omega arith) (omega arith) in
      let q = inside-without ts y a z in omega arith

-- a new node
pub inside-with_node : (n : Node) (ts : Trees) (a z : NodeName) → name_eq n.name a ≡ false → inside (with_node n ts) a z ≡ inside ts a z
inside-with_node n ts a z e = let p = inside-put_root n.name (tree n none none) ts a z in let q = inside-elsewhere n none none a z e in omega arith

-- in the tree of a new node stands nothing else
pub inside-new : (n : Node) (ts : Trees) (z : NodeName) → times_in ts n.name ≡ 0 → name_eq n.name z ≡ false → inside (with_node n ts) n.name z ≡ 0
inside-new n ts z h e =
    let p = inside-put_root n.name (tree n none none) ts n.name z in let q = inside-here n none none n.name z (name_eq-same n.name) in
    let k = times-elsewhere n none none z e in let a = inside-absent ts n.name z h in omega arith

-- nodes with other contents
pub inside-map_nodes : (f : Node → Node) → ((n : Node) → (f n).name ≡ n.name) → (ts : Trees) (a z : NodeName) → inside (map_nodes f ts) a z ≡ inside ts a z
inside-map_nodes f h none a z = refl
inside-map_nodes f h (tree n c r) a z =
    let g = h n in
    let t = times-map_nodes f h (tree n c none) z in
    let below = inside-map_nodes f h c a z in let behind = inside-map_nodes f h r a z in
    by_cases (name_eq n.name a)
    (λ e. let i = inside-here n c r a z e in let j = inside-here (f n) (map_nodes f c) (map_nodes f r) a z (ap (λ y. name_eq y a) g ∙ e) in omega arith)
    (λ e. let i = inside-elsewhere n c r a z e in let j = inside-elsewhere (f n) (map_nodes f c) (map_nodes f r) a z
    (ap (λ y. name_eq y a) g ∙ e) in omega arith)

-- No node is lost.
pub without-absent : (ts : Trees) (y : NodeName) → times_in ts y ≡ 0 → without y ts ≡ ts
without-absent none y h = refl
without-absent (tree n c r) y h =
    by_cases (name_eq n.name y) (λ e. absurd (let g = times-here n c r y e in omega arith))
    (λ e. let g = times-elsewhere n c r y e in
    without-elsewhere n c r y e ∙ ap (λ t. tree n t (without y r)) (without-absent c y (omega arith)) ∙ ap (tree n c) (without-absent r y (omega arith)))

-- these trees, or none
pub or_else-none : (ts : Trees) → or_else ts none ≡ ts
or_else-none none = refl
or_else-none (tree n c r) = refl

-- what is taken out and what is left are all
pub times-parted : (ts : Trees) (y x : NodeName) → Once ts → times_in (without y ts) x + times_in (subtree ts y) x ≡ times_in ts x
times-parted none y x u = refl
times-parted (tree n c r) y x u =
    let once = u y in
    by_cases (name_eq n.name y)
    (λ e. let g = times-here n c r y e in
    let s = ap (λ t. times_in t x) (without-here n c r y e ∙ without-absent r y (omega arith)) in let t = ap (λ t. times_in t x) (subtree-here n c r y e) in
    let p = times-parts n c r x in omega arith)
    (λ e. let g = times-elsewhere n c r y e in
    let s = ap (λ t. times_in t x) (without-elsewhere n c r y e) in
    let parts = once_parts n c r u in
    by_times (times_in c y)
    (λ z. let t = ap (λ t. times_in t x) (subtree-elsewhere n c r y e ∙ ap (λ t. or_else t (subtree r y)) (subtree_gone c y z)) in
    let w = ap (λ t. times_in t x) (without-absent c y z) in let behind = times-parted r y x parts.after in omega arith)
    (λ z. let t = ap (λ t. times_in t x)
    (subtree-elsewhere n c r y e ∙ ap (or_else (subtree c y)) (subtree_gone r y (omega arith)) ∙ or_else-none (subtree c y)) in
    let w = ap (λ t. times_in t x) (without-absent r y (omega arith)) in let below = times-parted c y x parts.below in omega arith))

-- a node that leaves its parent
pub times-taken_out_all : (ts : Trees) (y x : NodeName) → Once ts → times_in (taken_out y ts) x ≡ times_in ts x
times-taken_out_all ts y x u = let p = times-put_root y (subtree ts y) (without y ts) x in let w = times-parted ts y x u in omega arith

-- so each still stands once
pub unique-taken_out : (ts : Trees) (y : NodeName) → Once ts → Once (taken_out y ts)
unique-taken_out ts y u = λ x. let once = u x in let same = times-taken_out_all ts y x u in omega arith

-- A node that is there, and does not stand in the tree of another one.
pub record IsOutside (ts : Trees) (x y : NodeName) : Type 0 where
  pub there : 1 ≤ times_in ts y
  pub apart : inside ts x y ≡ 0

-- Where a node may be placed: below one that is there, once, and does not stand in its tree.
pub record CanPlace (ts : Trees) (x parent : NodeName) : Type 0 where
  pub unique : Once ts
  pub below : IsOutside ts x parent

-- a node that is placed below one that does not stand in its tree
pub times-placed_all : {ts : Trees} {y parent : NodeName} (before : Option NodeName) (x : NodeName) → CanPlace ts y parent →
    times_in (placed y parent before ts) x ≡ times_in ts x
times-placed_all {ts} {y} {parent} before x c =
    let u = c.unique in let t = c.below.there in let h = c.below.apart in
    let once = u parent in
    let s = times-inside ts y parent in
    let w = times-parted ts y parent u in
    let p = times-put_below_all parent before (subtree ts y) (without y ts) x (omega arith) in
    let v = times-parted ts y x u in omega arith
