-- Where the nodes of a list of trees stand, by how often their names are there.
use Rattle.dom_base.proofs.Std.{◌≡◌, ◌≤◌, ◌||◌, Bool, true, false, List, [], ◌∷◌, ◌++◌, Option, Some, unwrap_or, refl, sym, ap, ◌∙◌, arith, true≢false, subst}
use Rattle.dom_base.proofs.Std.{◌+◌, ℕ, AllByRecursion, last_or, cond-true, cond-false, if◌then◌else◌, or_left}
use Rattle.dom_model.proofs.Model.{NodeName, name_eq, is_in, last_of, name_before, Trees, none, tree, Node, nodes, names_of, roots, subtree, or_else}
use Rattle.dom_model.proofs.Model.{inclusive_ancestors, on_top, root_of, times_in, name_eq-same, name_eq-true, name_eq-turned, followed_by, is_given}
use Rattle.dom_model.proofs.Model.{put_before, put_root}
use Rattle.dom_laws.proofs.Laws.{Once, once_parts, by_times, times-here, times-elsewhere, times-more, times-parts, times_subtree, path_none, subtree_gone}
use Rattle.dom_worlds.proofs.Lists.{all-append, all-then, by_cases, or-later}

-- What holds of all nodes of a list holds of one of them.
pub all-in : (P : NodeName → Type 0) (x : NodeName) (ys : List NodeName) → AllByRecursion P ys → is_in name_eq x ys ≡ true → P x
all-in P x [] h e = absurd (true≢false (sym e))
all-in P x (y ∷ ys) h e =
    by_cases (name_eq x y) (λ t. subst P (sym (name_eq-true x y t)) h.0) (λ t. all-in P x ys h.1 (or-later (name_eq x y) (is_in name_eq x ys) t e))

-- the last node of a list that begins with y
abbrev pub last_from : NodeName → List NodeName → NodeName
last_from y [] = y
last_from y (z ∷ zs) = last_from z zs

-- the same, as the model says it
pub last-is : (y : NodeName) (ys : List NodeName) → last_or (Some y) ys ≡ Some (last_from y ys)
last-is y [] = refl
last-is y (z ∷ zs) = last-is z zs

-- the last of a list is in it
pub last-in : (y : NodeName) (ys : List NodeName) → is_in name_eq (last_from y ys) (y ∷ ys) ≡ true
last-in y [] = or_left (name_eq y y) false (name_eq-same y)
last-in y (z ∷ zs) = by (name_eq (last_from z zs) y) (last-in z zs)
  where
    by : (t : Bool) → is_in name_eq (last_from z zs) (z ∷ zs) ≡ true → (t || is_in name_eq (last_from z zs) (z ∷ zs)) ≡ true
    by true h = refl
    by false h = h

-- the ancestors of a first root
path_here : (n : Node) (c r : Trees) (x : NodeName) → name_eq n.name x ≡ true → inclusive_ancestors (tree n c r) x ≡ x ∷ []
path_here n c r x e = cond-true (name_eq n.name x) (x ∷ []) (on_top (inclusive_ancestors c x) n.name (inclusive_ancestors r x)) e

-- those of another node
path_beside : (n : Node) (c r : Trees) (x : NodeName) → name_eq n.name x ≡ false →
    inclusive_ancestors (tree n c r) x ≡ on_top (inclusive_ancestors c x) n.name (inclusive_ancestors r x)
path_beside n c r x e = cond-false (name_eq n.name x) (x ∷ []) (on_top (inclusive_ancestors c x) n.name (inclusive_ancestors r x)) e

-- of a node that is there the ancestors begin with it
pub ancestors-present : (ts : Trees) (x : NodeName) → 1 ≤ times_in ts x → (path : List NodeName) × (inclusive_ancestors ts x ≡ x ∷ path)
ancestors-present none x h = absurd (omega arith)
ancestors-present (tree n c r) x h =
    by_cases (name_eq n.name x) (λ e. ([], path_here n c r x e))
    (λ e. let g = times-elsewhere n c r x e in
    by_times (times_in c x)
    (λ z. let at = ancestors-present r x (omega arith) in
    (at.0, path_beside n c r x e ∙ ap (λ p. on_top p n.name (inclusive_ancestors r x)) (path_none c x z) ∙ at.1))
    (λ z. let at = ancestors-present c x z in (at.0 ++ n.name ∷ [], path_beside n c r x e ∙ ap (λ p. on_top p n.name (inclusive_ancestors r x)) at.1)))

-- each ancestor is there
all-on_top : (P : NodeName → Type 0) (path : List NodeName) (a : NodeName) (others : List NodeName) → AllByRecursion P path →
    AllByRecursion P (a ∷ others) → AllByRecursion P (on_top path a others)
all-on_top P [] a others h k = k.1
all-on_top P (x ∷ path) a others h k = all-append P (x ∷ path) (a ∷ []) h (k.0, tt)

-- all of them
pub ancestors-there : (ts : Trees) (x : NodeName) → AllByRecursion (λ y. 1 ≤ times_in ts y) (inclusive_ancestors ts x)
ancestors-there none x = tt
ancestors-there (tree n c r) x =
    by_cases (name_eq n.name x) (λ e. let g = times-here n c r x e in let here : 1 ≤ times_in (tree n c r) x = omega arith in
    subst (AllByRecursion (λ y. 1 ≤ times_in (tree n c r) y)) (sym (path_here n c r x e)) (here, tt))
    (λ e. let P : NodeName → Type 0 = λ y. 1 ≤ times_in (tree n c r) y in
    let top : P n.name = let g = times-here n c r n.name (name_eq-same n.name) in omega arith in
    let below = all-then (λ y. 1 ≤ times_in c y) P (λ y h. let g = times-more n c r y in omega arith) (inclusive_ancestors c x) (ancestors-there c x) in
    let beside = all-then (λ y. 1 ≤ times_in r y) P (λ y h. let g = times-more n c r y in omega arith) (inclusive_ancestors r x) (ancestors-there r x) in
    subst (AllByRecursion P) (sym (path_beside n c r x e))
    (all-on_top P (inclusive_ancestors c x) n.name (inclusive_ancestors r x) below (top, beside)))

-- Roots.
pub last-push : (o : Option NodeName) (xs : List NodeName) (x : NodeName) → last_or o (xs ++ x ∷ []) ≡ Some x
last-push o [] x = refl
last-push o (y ∷ xs) x = last-push (Some y) xs x

-- the root of a node in the first tree
root-in_tree : (n : Node) (c r : Trees) (y : NodeName) → 1 ≤ times_in (tree n c none) y → root_of (tree n c r) y ≡ n.name
root-in_tree n c r y h =
    by_cases (name_eq n.name y) (λ e. ap (λ p. unwrap_or (last_of p) y) (path_here n c r y e) ∙ sym (name_eq-true n.name y e))
    (λ e. let g = times-elsewhere n c none y e in
    let at = ancestors-present c y (omega arith) in
    ap (λ p. unwrap_or (last_of p) y) (path_beside n c r y e ∙ ap (λ p. on_top p n.name (inclusive_ancestors r y)) at.1) ∙
    ap (λ o. unwrap_or o y) (last-push (Some y) at.0 n.name))

-- and of one behind it
root-in_rest : (n : Node) (c r : Trees) (y : NodeName) → times_in (tree n c none) y ≡ 0 → root_of (tree n c r) y ≡ root_of r y
root-in_rest n c r y h =
    by_cases (name_eq n.name y) (λ e. absurd (let g = times-here n c none y e in omega arith))
    (λ e. let g = times-elsewhere n c none y e in
    ap (λ p. unwrap_or (last_of p) y) (path_beside n c r y e ∙ ap (λ p. on_top p n.name (inclusive_ancestors r y))
    (path_none c y (omega arith))))

-- what holds of each, taken together
pub all-both : (P Q : NodeName → Type 0) (xs : List NodeName) → AllByRecursion P xs → AllByRecursion Q xs → AllByRecursion (λ x. P x × Q x) xs
all-both P Q [] h g = tt
all-both P Q (x ∷ xs) h g = ((h.0, g.0), all-both P Q xs h.1 g.1)

-- a node's ancestors have its root
pub ancestors-root : (ts : Trees) → Once ts → (s : NodeName) → AllByRecursion (λ y. root_of ts y ≡ root_of ts s) (inclusive_ancestors ts s)
ancestors-root none u s = tt
ancestors-root (tree n c r) u s =
    let P : NodeName → Type 0 = λ y. root_of (tree n c r) y ≡ root_of (tree n c r) s in
    by_cases (name_eq n.name s) (λ e. subst (AllByRecursion P) (sym (path_here n c r s e)) (refl, tt))
    (λ e. let g = times-elsewhere n c none s e in
    subst (AllByRecursion P) (sym (path_beside n c r s e))
    (by_times (times_in c s)
    (λ z. let there = all-both (λ y. 1 ≤ times_in r y) (λ y. root_of r y ≡ root_of r s) (inclusive_ancestors r s) (ancestors-there r s)
    (ancestors-root r (once_parts n c r u).after s) in
    let up : (y : NodeName) → (1 ≤ times_in r y) × (root_of r y ≡ root_of r s) → P y =
    λ y h. let k = u y in let t = times-parts n c r y in root-in_rest n c r y (let h0 = h.0 in omega arith) ∙ h.1 ∙ sym (root-in_rest n c r s (omega arith)) in
    subst (λ path. AllByRecursion P (on_top path n.name (inclusive_ancestors r s))) (sym (path_none c s z))
    (all-then (λ y. (1 ≤ times_in r y) × (root_of r y ≡ root_of r s)) P up (inclusive_ancestors r s) there))
    (λ z. let top : root_of (tree n c r) s ≡ n.name = root-in_tree n c r s (omega arith) in
    let below = all-then (λ y. 1 ≤ times_in c y) P (λ y h. let t = times-more n c none y in root-in_tree n c r y (omega arith) ∙ sym top)
    (inclusive_ancestors c s) (ancestors-there c s) in
    let at = ancestors-present c s z in
    let own : P n.name = let t = times-here n c none n.name (name_eq-same n.name) in root-in_tree n c r n.name (omega arith) ∙ sym top in
    subst (λ path. AllByRecursion P (on_top path n.name (inclusive_ancestors r s))) (sym at.1)
    (all-append P (s ∷ at.0) (n.name ∷ []) (subst (AllByRecursion P) at.1 below) (own, tt)))))

-- a root is there
pub root-there : (ts : Trees) (r : NodeName) → is_in name_eq r (names_of (roots ts)) ≡ true → 1 ≤ times_in ts r
root-there none r h = absurd (true≢false (sym h))
root-there (tree n c rest) r h =
    by_cases (name_eq n.name r) (λ e. let g = times-here n c rest r e in omega arith)
    (λ e. let g = times-elsewhere n c rest r e in
    let later = root-there rest r (or-later (name_eq r n.name) (is_in name_eq r (names_of (roots rest))) (name_eq-turned r n.name ∙ e) h) in omega arith)

-- the nodes of a root's tree have that root
pub root-of-root : (ts : Trees) → Once ts → (x : NodeName) → is_in name_eq x (names_of (roots ts)) ≡ true → (s : NodeName) →
    1 ≤ times_in (subtree ts x) s → root_of ts s ≡ x
root-of-root none u x h s t = absurd (true≢false (sym h))
root-of-root (tree n c r) u x h s t =
    by_cases (name_eq n.name x)
    (λ e. root-in_tree n c r s (subst (λ ts. 1 ≤ times_in ts s)
    (cond-true (name_eq n.name x) (tree n c none) (or_else (subtree c x) (subtree r x)) e) t) ∙ name_eq-true n.name x e)
    (λ e. let later = or-later (name_eq x n.name) (is_in name_eq x (names_of (roots r))) (name_eq-turned x n.name ∙ e) h in
    let there = root-there r x later in
    let once = u x in
    let g = times-elsewhere n c r x e in
    let here : subtree (tree n c r) x ≡ subtree r x =
    cond-false (name_eq n.name x) (tree n c none) (or_else (subtree c x) (subtree r x)) e ∙
    ap (λ t. or_else t (subtree r x)) (subtree_gone c x (omega arith)) in
    let t' = subst (λ ts. 1 ≤ times_in ts s) here t in
    let below = times_subtree r x s in
    let parts = times-parts n c r s in
    let once_s = u s in
    root-in_rest n c r s (omega arith) ∙ root-of-root r (once_parts n c r u).after x later s t')

-- all that a list of trees has is there
pub nodes-there : (ts : Trees) → AllByRecursion (λ m. 1 ≤ times_in ts m.name) (nodes ts)
nodes-there none = tt
nodes-there (tree n c r) =
    let P : Node → Type 0 = λ m. 1 ≤ times_in (tree n c r) m.name in
    let top : P n = let g = times-here n c r n.name (name_eq-same n.name) in omega arith in (
      top,
      all-append P (nodes c) (nodes r)
          (all-then (λ m. 1 ≤ times_in c m.name) P (λ m h. let g = times-more n c r m.name in omega arith) (nodes c) (nodes-there c))
          (all-then (λ m. 1 ≤ times_in r m.name) P (λ m h. let g = times-more n c r m.name in omega arith) (nodes r) (nodes-there r)),
    )

-- trees put into a list before the first root that passes a test, or behind all
abbrev pub put_where : (NodeName → Bool) → Trees → Trees → Trees
put_where test new none = new
put_where test new (tree n c r) = if test n.name then followed_by new (tree n c r) else tree n c (put_where test new r)

-- put before this root
pub where-here : (test : NodeName → Bool) (new : Trees) (n : Node) (c r : Trees) → test n.name ≡ true →
    put_where test new (tree n c r) ≡ followed_by new (tree n c r)
where-here test new n c r e = cond-true (test n.name) (followed_by new (tree n c r)) (tree n c (put_where test new r)) e

-- put further on
pub where-later : (test : NodeName → Bool) (new : Trees) (n : Node) (c r : Trees) → test n.name ≡ false →
    put_where test new (tree n c r) ≡ tree n c (put_where test new r)
where-later test new n c r e = cond-false (test n.name) (followed_by new (tree n c r)) (tree n c (put_where test new r)) e

-- before the node given
pub put_before-where : (before : Option NodeName) (new ts : Trees) → put_before before new ts ≡ put_where (is_given before) new ts
put_before-where before new none = refl
put_before-where before new (tree n c r) = ap (λ t. if is_given before n.name then followed_by new (tree n c r) else tree n c t) (put_before-where before new r)

-- by the order of names
pub put_root-where : (y : NodeName) (new ts : Trees) → put_root y new ts ≡ put_where (name_before y) new ts
put_root-where y new none = refl
put_root-where y new (tree n c r) = ap (λ t. if name_before y n.name then followed_by new (tree n c r) else tree n c t) (put_root-where y new r)

-- A count that goes from tree to tree of a list.
pub record IsSum (m : Trees → ℕ) : Type 0 where
  pub nothing : m none ≡ 0
  pub more : (n : Node) (c r : Trees) → m (tree n c r) ≡ m (tree n c none) + m r

-- It counts what is put into a list, and what was there.
module _ {m : Trees → ℕ} (sum : IsSum m) where
  -- one list behind another
  sum-followed : (a b : Trees) → m (followed_by a b) ≡ m a + m b
  sum-followed none b = let z = sum.nothing in omega arith
  sum-followed (tree n c r) b =
      let h = sum-followed r b in let g = sum.more n c r in let k = sum.more n c (followed_by r b) in omega arith

  -- where a test holds
  sum-where : (test : NodeName → Bool) (new ts : Trees) → m (put_where test new ts) ≡ m new + m ts
  sum-where test new none = let z = sum.nothing in omega arith
  sum-where test new (tree n c r) =
      by_cases (test n.name) (λ e. ap m (where-here test new n c r e) ∙ sum-followed new (tree n c r))
      (λ e. let s = ap m (where-later test new n c r e) in let h = sum-where test new r in let g = sum.more n c r in
      let k = sum.more n c (put_where test new r) in omega arith)

  -- before the node given
  pub sum-put_before : (before : Option NodeName) (new ts : Trees) → m (put_before before new ts) ≡ m new + m ts
  sum-put_before before new ts = ap m (put_before-where before new ts) ∙ sum-where (is_given before) new ts

  -- by the order of names
  pub sum-put_root : (y : NodeName) (new ts : Trees) → m (put_root y new ts) ≡ m new + m ts
  sum-put_root y new ts = ap m (put_root-where y new ts) ∙ sum-where (name_before y) new ts
