-- What the elementary changes do to how often a name is there, to all nodes, and to the roots.
use Rattle.dom_base.proofs.Std.{◌≡◌, ◌+◌, ◌≤◌, Bool, true, false, Option, refl, sym, ap, ◌∙◌, arith, true≢false, subst, ℕ, if◌then◌else◌, AllByRecursion}
use Rattle.dom_base.proofs.Std.{cond-true, cond-false, or_right, or_left}
use Rattle.dom_model.proofs.Model.{NodeName, name_eq, name_before, is_in, Trees, none, tree, Node, nodes, names_of, roots, subtree, or_else, trees_below}
use Rattle.dom_model.proofs.Model.{times_in, followed_by, without, is_given, put_before, put_below, put_root, taken_out, placed, with_node, map_nodes}
use Rattle.dom_model.proofs.Model.{name_eq-same, name_eq-turned, name_eq-true}
use Rattle.dom_worlds.specs.Definitions.{AllNodes}
use Rattle.dom_worlds.proofs.Lists.{all-append, by_cases, or-later}
use Rattle.dom_laws.proofs.Laws.{Once, by_times, times-here, times-elsewhere, times-more, times-parts, times_subtree, times_or_else, subtree_gone}
use Rattle.dom_worlds.proofs.Trees.{root-there, IsSum, put_before-where, put_root-where, sum-put_before, sum-put_root, where-here, where-later, put_where}

-- a tree at hand, by whether its first root is the one
pub without-here : (n : Node) (c r : Trees) (y : NodeName) → name_eq n.name y ≡ true → without y (tree n c r) ≡ without y r
without-here n c r y e = cond-true (name_eq n.name y) (without y r) (tree n (without y c) (without y r)) e

-- at another root
pub without-elsewhere : (n : Node) (c r : Trees) (y : NodeName) → name_eq n.name y ≡ false → without y (tree n c r) ≡ tree n (without y c) (without y r)
without-elsewhere n c r y e = cond-false (name_eq n.name y) (without y r) (tree n (without y c) (without y r)) e

-- the tree of a first root
pub subtree-here : (n : Node) (c r : Trees) (y : NodeName) → name_eq n.name y ≡ true → subtree (tree n c r) y ≡ tree n c none
subtree-here n c r y e = cond-true (name_eq n.name y) (tree n c none) (or_else (subtree c y) (subtree r y)) e

-- and of another node
pub subtree-elsewhere : (n : Node) (c r : Trees) (y : NodeName) → name_eq n.name y ≡ false → subtree (tree n c r) y ≡ or_else (subtree c y) (subtree r y)
subtree-elsewhere n c r y e = cond-false (name_eq n.name y) (tree n c none) (or_else (subtree c y) (subtree r y)) e

-- what is taken out and what is left are no more than all
pub times-without : (ts : Trees) (y x : NodeName) → times_in (without y ts) x + times_in (subtree ts y) x ≤ times_in ts x
times-without none y x = omega arith
times-without (tree n c r) y x =
    by_cases (name_eq n.name y)
    (λ e. let a = ap (λ t. times_in t x) (without-here n c r y e) in let b = ap (λ t. times_in t x) (subtree-here n c r y e) in
    let d = times-without r y x in omega arith)
    (λ e. let a = ap (λ t. times_in t x) (without-elsewhere n c r y e) in let b = ap (λ t. times_in t x) (subtree-elsewhere n c r y e) in
    let d = times_or_else (subtree c y) (subtree r y) x in let f = times-without c y x in let g = times-without r y x in omega arith)

-- how often a node is there
times-sum : (x : NodeName) → IsSum (λ ts. times_in ts x)
times-sum x = record { nothing = refl; more = λ n c r. omega arith }

-- how often a name is there after trees were put before the node given
pub times-put_before : (before : Option NodeName) (new ts : Trees) (x : NodeName) → times_in (put_before before new ts) x ≡ times_in new x + times_in ts x
times-put_before before new ts x = sum-put_before (times-sum x) before new ts

-- and by the order of names
pub times-put_root : (y : NodeName) (new ts : Trees) (x : NodeName) → times_in (put_root y new ts) x ≡ times_in new x + times_in ts x
times-put_root y new ts x = sum-put_root (times-sum x) y new ts

-- a new node
pub times-with_node : (n : Node) (ts : Trees) (x : NodeName) → times_in (with_node n ts) x ≡ times_in (tree n none none) x + times_in ts x
times-with_node n ts x = times-put_root n.name (tree n none none) ts x

-- a node that leaves its parent
pub times-taken_out : (y : NodeName) (ts : Trees) (x : NodeName) → times_in (taken_out y ts) x ≤ times_in ts x
times-taken_out y ts x = let a = times-put_root y (subtree ts y) (without y ts) x in let b = times-without ts y x in omega arith

-- New trees that are put below a parent, at one tree and the others.
module _ (parent : NodeName) (before : Option NodeName) (new : Trees) (n : Node) (c r : Trees) where
  -- below a first root
  pub put_below-here : name_eq n.name parent ≡ true → put_below parent before new (tree n c r)
      ≡ tree n (put_before before new (put_below parent before new c)) (put_below parent before new r)
  put_below-here e =
      let below = put_below parent before new c in
      ap (λ t. tree n t (put_below parent before new r)) (cond-true (name_eq n.name parent) (put_before before new below) below e)

  -- below another node
  pub put_below-elsewhere : name_eq n.name parent ≡ false → put_below parent before new (tree n c r)
      ≡ tree n (put_below parent before new c) (put_below parent before new r)
  put_below-elsewhere e =
      let below = put_below parent before new c in
      ap (λ t. tree n t (put_below parent before new r)) (cond-false (name_eq n.name parent) (put_before before new below) below e)

-- below a node that is not there nothing is put
pub put_below-absent : (parent : NodeName) (before : Option NodeName) (new ts : Trees) → times_in ts parent ≡ 0 → put_below parent before new ts ≡ ts
put_below-absent parent before new none h = refl
put_below-absent parent before new (tree n c r) h =
    by_cases (name_eq n.name parent) (λ e. absurd (let g = times-here n c r parent e in omega arith))
    (λ e. let g = times-elsewhere n c r parent e in
    put_below-elsewhere parent before new n c r e ∙ ap (λ t. tree n t (put_below parent before new r))
    (put_below-absent parent before new c (omega arith)) ∙ ap (tree n c) (put_below-absent parent before new r (omega arith)))

-- A count of what each node gives, by itself and its children.
pub record IsNodeSum (m : Trees → ℕ) (g : Node → Trees → ℕ) : Type 0 where
  pub nothing : m none ≡ 0
  pub each : (n : Node) (c r : Trees) → m (tree n c r) ≡ g n c + m c + m r

-- What is put below a node: the node gives so much more, and others as much as before.
module _ {m : Trees → ℕ} {g : Node → Trees → ℕ} (sum : IsNodeSum m g) (parent : NodeName) (before : Option NodeName) (new : Trees) (d : ℕ)
    (here : (n : Node) (c : Trees) → name_eq n.name parent ≡ true → g n (put_before before new c) ≡ g n c + d)
    (elsewhere : (n : Node) (c : Trees) → g n (put_below parent before new c) ≡ g n c) where
  -- it goes from tree to tree
  along : IsSum m
  along = record {
    nothing = sum.nothing;
    more = λ n c r. let a = sum.each n c r in let b = sum.each n c none in let z = sum.nothing in omega arith;
  }

  -- all that is put in, and all that was there
  pub sum-put_below : (ts : Trees) → times_in ts parent ≡ 1 → m (put_below parent before new ts) ≡ m new + m ts + d
  sum-put_below none h = absurd (omega arith)
  sum-put_below (tree n c r) h =
      let was = sum.each n c r in
      by_cases (name_eq n.name parent)
      (λ e. let t = times-here n c r parent e in
      let s = put_below-here parent before new n c r e in
      let a = ap m (s ∙ ap (λ t. tree n (put_before before new t) (put_below parent before new r)) (put_below-absent parent before new c (omega arith)) ∙
      ap (tree n (put_before before new c)) (put_below-absent parent before new r (omega arith))) in
      let now = sum.each n (put_before before new c) r in let more = here n c e in let p = sum-put_before along before new c in omega arith)
      (λ e. let t = times-elsewhere n c r parent e in
      let s = put_below-elsewhere parent before new n c r e in
      by_times (times_in c parent)
      (λ z. let a = ap m (s ∙ ap (λ t. tree n t (put_below parent before new r)) (put_below-absent parent before new c z)) in
      let now = sum.each n c (put_below parent before new r) in let b = sum-put_below r (omega arith) in omega arith)
      (λ z. let a = ap m (s ∙ ap (tree n (put_below parent before new c)) (put_below-absent parent before new r (omega arith))) in
      let now = sum.each n (put_below parent before new c) r in let same = elsewhere n c in let b = sum-put_below c (omega arith) in omega arith))

-- What is counted among the children of nodes of a name.
module _ (y parent : NodeName) (before : Option NodeName) (new : Trees) where
  -- more, where it is the name of the node below which something is put
  pub sum-put_below_name : {m f : Trees → ℕ} → IsNodeSum m (λ n c. if name_eq n.name y then f c else 0) → IsSum f →
      ((c : Trees) → f (put_below parent before new c) ≡ f c) → (ts : Trees) → times_in ts parent ≡ 1 →
      m (put_below parent before new ts) ≡ m new + m ts + (if name_eq parent y then f new else 0)
  sum-put_below_name {m} {f} sum along same ts h =
      sum-put_below sum parent before new (if name_eq parent y then f new else 0) here (λ n c. ap (λ k. if name_eq n.name y then k else 0) (same c)) ts h
    where
      here : (n : Node) (c : Trees) → name_eq n.name parent ≡ true → (if name_eq n.name y then f (put_before before new c) else 0) ≡
          (if name_eq n.name y then f c else 0) + (if name_eq parent y then f new else 0)
      here n c e = rw (name_eq-true n.name parent e) (from (name_eq parent y))
        where
          from : (b : Bool) → (if b then f (put_before before new c) else 0) ≡ (if b then f c else 0) + (if b then f new else 0)
          from true = let p = sum-put_before along before new c in omega arith
          from false = refl

-- all that is put below a node
pub times-put_below_all : (parent : NodeName) (before : Option NodeName) (new ts : Trees) (x : NodeName) → times_in ts parent ≡ 1 →
    times_in (put_below parent before new ts) x ≡ times_in new x + times_in ts x
times-put_below_all parent before new ts x h =
    let sum : IsNodeSum (λ ts. times_in ts x) (λ n c. times_in (tree n none none) x) = record { nothing = refl; each = λ n c r. omega arith } in
    let all = sum-put_below sum parent before new 0 (λ n c e. omega arith) (λ n c. refl) ts h in omega arith

-- at most that, where the node is not there
times-put_below : (parent : NodeName) (before : Option NodeName) (new ts : Trees) (x : NodeName) → times_in ts parent ≤ 1 →
    times_in (put_below parent before new ts) x ≤ times_in new x + times_in ts x
times-put_below parent before new ts x h =
    by_times (times_in ts parent) (λ z. let a = ap (λ t. times_in t x) (put_below-absent parent before new ts z) in omega arith)
    (λ z. let a = times-put_below_all parent before new ts x (omega arith) in omega arith)

-- a node that is placed
pub times-placed : (y parent : NodeName) (before : Option NodeName) (ts : Trees) (x : NodeName) → times_in ts parent ≤ 1 →
    times_in (placed y parent before ts) x ≤ times_in ts x
times-placed y parent before ts x h =
    let a = times-without ts y parent in
    let b = times-put_below parent before (subtree ts y) (without y ts) x (omega arith) in
    let d = times-without ts y x in omega arith

-- nodes with other contents
pub times-map_nodes : (f : Node → Node) → ((n : Node) → (f n).name ≡ n.name) → (ts : Trees) (x : NodeName) → times_in (map_nodes f ts) x ≡ times_in ts x
times-map_nodes f h none x = refl
times-map_nodes f h (tree n c r) x =
    ap (λ y. (if name_eq y x then 1 else 0) + times_in (map_nodes f c) x + times_in (map_nodes f r) x) (h n)
    ∙ ap (λ k. (if name_eq n.name x then 1 else 0) + k + times_in (map_nodes f r) x) (times-map_nodes f h c x)
    ∙ ap (λ k. (if name_eq n.name x then 1 else 0) + times_in c x + k) (times-map_nodes f h r x)

-- All nodes.
module _ (P : Node → Type 0) where
  -- two lists
  pub nodes-followed : (a b : Trees) → AllNodes P a → AllNodes P b → AllNodes P (followed_by a b)
  nodes-followed none b h g = g
  nodes-followed (tree n c r) b h g = (h.0, h.1, nodes-followed r b h.2 g)

  -- the first that is there
  nodes-or_else : (a b : Trees) → AllNodes P a → AllNodes P b → AllNodes P (or_else a b)
  nodes-or_else none b h g = g
  nodes-or_else (tree n c r) b h g = h

  -- the tree of a node
  pub nodes-subtree : (ts : Trees) (y : NodeName) → AllNodes P ts → AllNodes P (subtree ts y)
  nodes-subtree none y h = tt
  nodes-subtree (tree n c r) y h =
      by_cases (name_eq n.name y) (λ e. subst (AllNodes P) (sym (subtree-here n c r y e)) (h.0, h.1, tt))
      (λ e. subst (AllNodes P) (sym (subtree-elsewhere n c r y e)) (nodes-or_else (subtree c y) (subtree r y) (nodes-subtree c y h.1) (nodes-subtree r y h.2)))

  -- all but the tree of a node
  nodes-without : (ts : Trees) (y : NodeName) → AllNodes P ts → AllNodes P (without y ts)
  nodes-without none y h = tt
  nodes-without (tree n c r) y h =
      by_cases (name_eq n.name y) (λ e. subst (AllNodes P) (sym (without-here n c r y e)) (nodes-without r y h.2))
      (λ e. subst (AllNodes P) (sym (without-elsewhere n c r y e)) (h.0, nodes-without c y h.1, nodes-without r y h.2))

  -- trees put into a list
  nodes-where : (test : NodeName → Bool) (new ts : Trees) → AllNodes P new → AllNodes P ts → AllNodes P (put_where test new ts)
  nodes-where test new none h g = h
  nodes-where test new (tree n c r) h g =
      by_cases (test n.name) (λ e. subst (AllNodes P) (sym (where-here test new n c r e)) (nodes-followed new (tree n c r) h g))
      (λ e. subst (AllNodes P) (sym (where-later test new n c r e)) (g.0, g.1, nodes-where test new r h g.2))

  -- before the node given
  nodes-put_before : (before : Option NodeName) (new ts : Trees) → AllNodes P new → AllNodes P ts → AllNodes P (put_before before new ts)
  nodes-put_before before new ts h g = subst (AllNodes P) (sym (put_before-where before new ts)) (nodes-where (is_given before) new ts h g)

  -- by the order of names
  nodes-put_root : (y : NodeName) (new ts : Trees) → AllNodes P new → AllNodes P ts → AllNodes P (put_root y new ts)
  nodes-put_root y new ts h g = subst (AllNodes P) (sym (put_root-where y new ts)) (nodes-where (name_before y) new ts h g)

  -- trees put below a node
  nodes-put_below : (parent : NodeName) (before : Option NodeName) (new ts : Trees) → AllNodes P new → AllNodes P ts →
      AllNodes P (put_below parent before new ts)
  nodes-put_below parent before new none h g = tt
  nodes-put_below parent before new (tree n c r) h g =
      let below = nodes-put_below parent before new c h g.1 in
      let behind = nodes-put_below parent before new r h g.2 in
      by_cases (name_eq n.name parent)
      (λ e. subst (AllNodes P) (sym (put_below-here parent before new n c r e))
      (g.0, nodes-put_before before new (put_below parent before new c) h below, behind))
      (λ e. subst (AllNodes P) (sym (put_below-elsewhere parent before new n c r e)) (g.0, below, behind))

  -- a new node
  pub nodes-with_node : (n : Node) (ts : Trees) → P n → AllNodes P ts → AllNodes P (with_node n ts)
  nodes-with_node n ts h g = nodes-put_root n.name (tree n none none) ts (h, tt, tt) g

  -- a node that leaves its parent
  pub nodes-taken_out : (y : NodeName) (ts : Trees) → AllNodes P ts → AllNodes P (taken_out y ts)
  nodes-taken_out y ts h = nodes-put_root y (subtree ts y) (without y ts) (nodes-subtree ts y h) (nodes-without ts y h)

  -- a node that is placed
  pub nodes-placed : (y parent : NodeName) (before : Option NodeName) (ts : Trees) → AllNodes P ts → AllNodes P (placed y parent before ts)
  nodes-placed y parent before ts h = nodes-put_below parent before (subtree ts y) (without y ts) (nodes-subtree ts y h) (nodes-without ts y h)

  -- nodes with other contents
  pub nodes-map_nodes : (f : Node → Node) → ((n : Node) → P n → P (f n)) → (ts : Trees) → AllNodes P ts → AllNodes P (map_nodes f ts)
  nodes-map_nodes f g none h = tt
  nodes-map_nodes f g (tree n c r) h = (g n h.0, nodes-map_nodes f g c h.1, nodes-map_nodes f g r h.2)

  -- the nodes in tree order
  pub nodes-listed : (ts : Trees) → AllNodes P ts → AllByRecursion P (nodes ts)
  nodes-listed none h = tt
  nodes-listed (tree n c r) h = (h.0, all-append P (nodes c) (nodes r) (nodes-listed c h.1) (nodes-listed r h.2))

-- what follows from what holds of each
pub nodes-then : (P Q : Node → Type 0) → ((n : Node) → P n → Q n) → (ts : Trees) → AllNodes P ts → AllNodes Q ts
nodes-then P Q f none h = tt
nodes-then P Q f (tree n c r) h = (f n h.0, nodes-then P Q f c h.1, nodes-then P Q f r h.2)

-- what holds of each name that is there
pub nodes-named : (P : NodeName → Type 0) (ts : Trees) → ((x : NodeName) → 1 ≤ times_in ts x → P x) → AllNodes (λ n. P n.name) ts
nodes-named P none f = tt
nodes-named P (tree n c r) f =
    let below = nodes-named P c (λ x h. f x (let g = times-more n c r x in omega arith)) in
    let behind = nodes-named P r (λ x h. f x (let g = times-more n c r x in omega arith)) in
    (f n.name (let g = times-here n c r n.name (name_eq-same n.name) in omega arith), below, behind)

-- Roots.
abbrev pub HasRoot : Trees → NodeName → Type 0
HasRoot ts x = is_in name_eq x (names_of (roots ts)) ≡ true

-- Of a first root and others.
module _ (n : Node) (c r : Trees) (x : NodeName) where
  -- one that is there is the first or one of the others
  pub root-cases : {P : Type 0} → HasRoot (tree n c r) x → (name_eq x n.name ≡ true → P) → (HasRoot r x → P) → P
  root-cases h f g = by_cases (name_eq x n.name) f (λ e. g (or-later (name_eq x n.name) (is_in name_eq x (names_of (roots r))) e h))

  -- the first root
  pub root-first : name_eq x n.name ≡ true → HasRoot (tree n c r) x
  root-first e = or_left (name_eq x n.name) (is_in name_eq x (names_of (roots r))) e

  -- a root behind it
  pub root-second : HasRoot r x → HasRoot (tree n c r) x
  root-second e = or_right (name_eq x n.name) (is_in name_eq x (names_of (roots r))) e

-- a root of the first list
root-followed_left : (a b : Trees) (x : NodeName) → HasRoot a x → HasRoot (followed_by a b) x
root-followed_left none b x h = absurd (true≢false (sym h))
root-followed_left (tree n c r) b x h =
    root-cases n c r x h (λ e. root-first n c (followed_by r b) x e) (λ g. root-second n c (followed_by r b) x (root-followed_left r b x g))

-- a root of the second
root-followed_right : (a b : Trees) (x : NodeName) → HasRoot b x → HasRoot (followed_by a b) x
root-followed_right none b x h = h
root-followed_right (tree n c r) b x h = root-second n c (followed_by r b) x (root-followed_right r b x h)

-- a root that was there
root-where_old : (test : NodeName → Bool) (new ts : Trees) (x : NodeName) → HasRoot ts x → HasRoot (put_where test new ts) x
root-where_old test new none x h = absurd (true≢false (sym h))
root-where_old test new (tree n c r) x h =
    by_cases (test n.name) (λ e. subst (λ t. HasRoot t x) (sym (where-here test new n c r e)) (root-followed_right new (tree n c r) x h))
    (λ e. subst (λ t. HasRoot t x) (sym (where-later test new n c r e))
    (root-cases n c r x h (λ f. root-first n c (put_where test new r) x f) (λ g. root-second n c (put_where test new r) x (root-where_old test new r x g))))

-- a root that was put in
root-where_new : (test : NodeName → Bool) (new ts : Trees) (x : NodeName) → HasRoot new x → HasRoot (put_where test new ts) x
root-where_new test new none x h = h
root-where_new test new (tree n c r) x h =
    by_cases (test n.name) (λ e. subst (λ t. HasRoot t x) (sym (where-here test new n c r e)) (root-followed_left new (tree n c r) x h))
    (λ e. subst (λ t. HasRoot t x) (sym (where-later test new n c r e)) (root-second n c (put_where test new r) x (root-where_new test new r x h)))

-- a root that was there
pub root-put_root_old : (y : NodeName) (new ts : Trees) (x : NodeName) → HasRoot ts x → HasRoot (put_root y new ts) x
root-put_root_old y new ts x h = subst (λ t. HasRoot t x) (sym (put_root-where y new ts)) (root-where_old (name_before y) new ts x h)

-- a root that was put in
pub root-put_root_new : (y : NodeName) (new ts : Trees) (x : NodeName) → HasRoot new x → HasRoot (put_root y new ts) x
root-put_root_new y new ts x h = subst (λ t. HasRoot t x) (sym (put_root-where y new ts)) (root-where_new (name_before y) new ts x h)

-- beside a new node
pub root-with_node : (n : Node) (ts : Trees) (x : NodeName) → HasRoot ts x → HasRoot (with_node n ts) x
root-with_node n ts x h = root-put_root_old n.name (tree n none none) ts x h

-- without another tree
pub root-without : (ts : Trees) (y x : NodeName) → name_eq y x ≡ false → HasRoot ts x → HasRoot (without y ts) x
root-without none y x d h = h
root-without (tree n c r) y x d h =
    by_cases (name_eq n.name y)
    (λ e. subst (λ t. HasRoot t x) (sym (without-here n c r y e))
    (root-cases n c r x h (λ f. absurd (true≢false (sym f ∙ ap (name_eq x) (name_eq-true n.name y e) ∙ name_eq-turned x y ∙ d))) (λ g. root-without r y x d g)))
    (λ e. subst (λ t. HasRoot t x) (sym (without-elsewhere n c r y e))
    (root-cases n c r x h (λ f. root-first n (without y c) (without y r) x f) (λ g. root-second n (without y c) (without y r) x (root-without r y x d g))))

-- a root of the first list that is there
root-or_else_left : (a b : Trees) (x : NodeName) → HasRoot a x → HasRoot (or_else a b) x
root-or_else_left none b x h = absurd (true≢false (sym h))
root-or_else_left (tree n c r) b x h = h

-- the root of a node's tree is the node
pub root-subtree : (ts : Trees) (x : NodeName) → 1 ≤ times_in ts x → HasRoot (subtree ts x) x
root-subtree none x h = absurd (omega arith)
root-subtree (tree n c r) x h =
    by_cases (name_eq n.name x) (λ e. subst (λ t. HasRoot t x) (sym (subtree-here n c r x e)) (root-first n c none x (name_eq-turned x n.name ∙ e)))
    (λ e. subst (λ t. HasRoot t x) (sym (subtree-elsewhere n c r x e))
    (let g = times-elsewhere n c r x e in
    by_times (times_in c x) (λ z. subst (λ t. HasRoot (or_else t (subtree r x)) x) (sym (subtree_gone c x z)) (root-subtree r x (omega arith)))
    (λ z. root-or_else_left (subtree c x) (subtree r x) x (root-subtree c x z))))

-- beside, or as, a node that leaves its parent
pub root-taken_out : (y : NodeName) (ts : Trees) (x : NodeName) → HasRoot ts x → HasRoot (taken_out y ts) x
root-taken_out y ts x h =
    by_cases (name_eq y x)
    (λ e. let same = name_eq-true y x e in
    root-put_root_new y (subtree ts y) (without y ts) x (subst (λ z. HasRoot (subtree ts z) x) (sym same) (root-subtree ts x (root-there ts x h))))
    (λ e. root-put_root_old y (subtree ts y) (without y ts) x (root-without ts y x e h))

-- A root stays one where something goes below a node.
module _ (parent : NodeName) (before : Option NodeName) where
  -- where trees are put
  root-put_below : (new ts : Trees) (x : NodeName) → HasRoot ts x → HasRoot (put_below parent before new ts) x
  root-put_below new none x h = h
  root-put_below new (tree n c r) x h =
      let below = put_below parent before new c in
      let behind = put_below parent before new r in
      root-cases n c r x h (λ f. root-first n (if name_eq n.name parent then put_before before new below else below) behind x f)
      (λ g. root-second n (if name_eq n.name parent then put_before before new below else below) behind x (root-put_below new r x g))

  -- beside another node that is placed
  pub root-placed : (y : NodeName) (ts : Trees) (x : NodeName) → name_eq y x ≡ false → HasRoot ts x →
      HasRoot (placed y parent before ts) x
  root-placed y ts x d h = root-put_below (subtree ts y) (without y ts) x (root-without ts y x d h)

-- of nodes with other contents
pub root-map_nodes : (f : Node → Node) → ((n : Node) → (f n).name ≡ n.name) → (ts : Trees) (x : NodeName) → HasRoot ts x → HasRoot (map_nodes f ts) x
root-map_nodes f h none x g = g
root-map_nodes f h (tree n c r) x g =
    root-cases n c r x g (λ e. root-first (f n) (map_nodes f c) (map_nodes f r) x (ap (name_eq x) (h n) ∙ e))
    (λ k. root-second (f n) (map_nodes f c) (map_nodes f r) x (root-map_nodes f h r x k))

-- a root is below no node
pub times-below : (ts : Trees) (x : NodeName) → times_in (trees_below ts) x ≤ times_in ts x
times-below none x = omega arith
times-below (tree n c r) x = let g = times-more n c r x in omega arith

-- below the first list of trees that is there
below-or_else : (a b : Trees) (x : NodeName) → times_in a x ≡ 0 → times_in (trees_below b) x ≡ 0 → times_in (trees_below (or_else a b)) x ≡ 0
below-or_else none b x h g = g
below-or_else (tree n c r) b x h g = let d = times-more n c r x in omega arith

-- so it is in no list of children
pub root-below_none : (ts : Trees) → Once ts → (x : NodeName) → HasRoot ts x → (y : NodeName) → times_in (trees_below (subtree ts y)) x ≡ 0
root-below_none none u x h y = refl
root-below_none (tree n c r) u x h y =
    let once = u x in
    let parts = times-parts n c r x in
    let not_inside : times_in c x ≡ 0 =
    root-cases n c r x h (λ e. let g = times-here n c r x (name_eq-turned n.name x ∙ e) in omega arith)
    (λ k. let there = root-there r x k in let g = times-more n c none x in omega arith) in
    by_cases (name_eq n.name y) (λ e. ap (λ t. times_in (trees_below t) x) (subtree-here n c r y e) ∙ not_inside)
    (λ e. ap (λ t. times_in (trees_below t) x) (subtree-elsewhere n c r y e)
    ∙ below-or_else (subtree c y) (subtree r y) x (let s = times_subtree c y x in omega arith)
    (root-cases n c r x h
    (λ f. let g = times-here n c r x (name_eq-turned n.name x ∙ f) in let s = times_subtree r y x in let b = times-below (subtree r y) x in omega arith)
    (λ k. root-below_none r (λ z. let p = times-parts n c r z in let o = u z in omega arith) x k y)))
