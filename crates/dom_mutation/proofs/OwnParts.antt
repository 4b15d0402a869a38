-- Each owner's part of what is held is a part as every reached world has them: its nodes are its own, numbered below their count,
-- each once; and no node of it has more children than it has nodes.
use Rattle.dom_mutation.proofs.Cited.{◌≡◌, ℕ, zero, suc, ◌+◌, ◌≤◌, ◌<◌, ◌⊎◌, true, length, Some, refl, sym, ap, subst, ◌∙◌, inl, inr, arith, eq-or-lt_of_le}
use Rattle.dom_mutation.proofs.Cited.{slice_get, count_by, if◌then◌else◌, cases_Bool, NodeName, Owner, name_eq, node_of, Part, Trees, none, tree, Node, nodes}
use Rattle.dom_mutation.proofs.Cited.{has_node, children_of, times_in, name_eq-same, name_eq-true, IsPart, times-has_node, kids, kids-absent, rooted}
use Rattle.dom_mutation.proofs.Cited.{length-children, name_at, count_of, AreOf, AreOwned, trees_of_owner, own_trees, Contents, part_in, AreNumbered}
use Rattle.dom_mutation.proofs.Cited.{name_found, Once-forest, once_own, times_own}
use Rattle.dom_mutation.proofs.Numbers.{pick_first, pick_second}

-- ---- an owner's part

-- a name in an owner's trees is the owner's
times_of : (o : Owner) (ts : Trees) → AreOf o ts → (x : NodeName) → 1 ≤ times_in ts x → x.owner ≡ o
times_of o none of x there = absurd (omega arith)
times_of o (tree n c r) of x there = elim (cases_Bool (name_eq n.name x)) [
  | inl h ↦ ap (λ (y : NodeName). y.owner) (sym (name_eq-true n.name x h)) ∙ of.0
  | inr h ↦
      let f = pick_second (name_eq n.name x) 1 0 h in
      elim (either (times_in c x) (times_in r x) (omega arith)) [ inl g ↦ times_of o c of.1 x g | inr g ↦ times_of o r of.2 x g ]
]
  where
    either : (a b : ℕ) → 1 ≤ a + b → (1 ≤ a) ⊎ (1 ≤ b)
    either zero b h = inr (omega arith)
    either (suc a) b h = inl (omega arith)

module _ (c : Contents) (owned : AreOwned c.trees)
    (once : (k : ℕ) → k < length c.names → count_by (λ n. name_eq n.name (name_at c.names k)) (nodes c.trees) ≡ 1)
    (only : (x : NodeName) → has_node c.trees x ≡ true → (k : ℕ) × (slice_get c.names k ≡ Some x)) (numbered : AreNumbered c.names) (o : Owner) where
  pub own_part : IsPart (part_in c o)
  own_part = record {
    unique = λ x. let a = once_own o c.trees (Once-forest (record { names = c.names; trees = c.trees }) once only) x in omega arith;
    owned = of;
    numbered = λ x there.
        let key = only x (times-has_node c.trees x (let more = times_own o c.trees x in omega arith)) in
        let found = name_found c.names key.0 x key.1 in
        let below : x.number < count_of x.owner c.names = subst (λ (y : NodeName). y.number < count_of y.owner c.names) found.1 (numbered key.0 found.0) in
        subst (λ p. x.number < count_of p c.names) (of x there) below;
  }
    where
      of : (x : NodeName) → 1 ≤ times_in (trees_of_owner o c.trees) x → x.owner ≡ o
      of = times_of o (trees_of_owner o c.trees) (own_trees c.trees owned o).1

-- ---- how many children a node has

-- the nodes of trees
size : Trees → ℕ
size none = 0
size (tree n c r) = 1 + size c + size r

-- how often the first names of an owner stand in trees
total : Owner → ℕ → Trees → ℕ
total o zero ts = 0
total o (suc k) ts = total o k ts + times_in ts (node_of o k)

-- and how often one name is among them
among : Owner → ℕ → NodeName → ℕ
among o zero x = 0
among o (suc k) x = among o k x + (if name_eq x (node_of o k) then 1 else 0)

among_one : (o : Owner) (k : ℕ) (x : NodeName) → x.owner ≡ o → x.number < k → 1 ≤ among o k x
unfolding among
among_one o zero x own below = absurd (omega arith)
among_one o (suc k) x own below = at (among_one o k x own) (let within : x.number ≤ k = omega arith in eq-or-lt_of_le within)
  where
    at : (x.number < k → 1 ≤ among o k x) → (x.number ≡ k) ⊎ (x.number < k) → 1 ≤ among o k x + (if name_eq x (node_of o k) then 1 else 0)
    at more (inl same) =
        let is : name_eq x (node_of o k) ≡ true =
        ap (λ j. name_eq x (node_of o j)) (sym same) ∙ (ap (λ p. name_eq x (node_of p x.number)) (sym own) ∙ name_eq-same x) in
        let f = pick_first (name_eq x (node_of o k)) 1 0 is in omega arith
    at more (inr h) = let less = more h in omega arith

total-none : (o : Owner) (k : ℕ) → total o k none ≡ 0
unfolding total
total-none o zero = refl
total-none o (suc k) = let h = total-none o k in omega arith

total-tree : (o : Owner) (k : ℕ) (n : Node) (c r : Trees) → total o k (tree n c r) ≡ among o k n.name + total o k c + total o k r
unfolding total among
total-tree o zero n c r = refl
total-tree o (suc k) n c r = let h = total-tree o k n c r in omega arith

total_few : (o : Owner) (k : ℕ) (ts : Trees) → ((x : NodeName) → times_in ts x ≤ 1) → total o k ts ≤ k
unfolding total
total_few o zero ts once = omega arith
total_few o (suc k) ts once = let h = total_few o k ts once in let a = once (node_of o k) in omega arith

size_total : (o : Owner) (k : ℕ) (ts : Trees) → ((x : NodeName) → 1 ≤ times_in ts x → (x.owner ≡ o) × (x.number < k)) → size ts ≤ total o k ts
unfolding size
size_total o k none all = let h = total-none o k in omega arith
size_total o k (tree n c r) all =
    let one = pick_first (name_eq n.name n.name) 1 0 (name_eq-same n.name) in
    let here = all n.name (omega arith) in
    let a = among_one o k n.name here.0 here.1 in
    let below = size_total o k c (λ x h. all x (omega arith)) in
    let rest = size_total o k r (λ x h. all x (omega arith)) in
    let h = total-tree o k n c r in omega arith

rooted_few : (ts : Trees) → rooted ts ≤ size ts
unfolding size
rooted_few none = omega arith
rooted_few (tree n c r) = let h = rooted_few r in omega arith

kids_few : (ts : Trees) (y : NodeName) → ((x : NodeName) → times_in ts x ≤ 1) → kids ts y ≤ size ts
unfolding size
kids_few none y once = omega arith
kids_few (tree n c r) y once = elim (cases_Bool (name_eq n.name y)) [
  | inl h ↦
      let f = pick_first (name_eq n.name y) 1 0 h in
      let g = pick_first (name_eq n.name y) (rooted c) 0 h in
      let u = once y in
      let a = kids-absent c y (omega arith) in let b = kids-absent r y (omega arith) in let d = rooted_few c in omega arith
  | inr h ↦
      let g = pick_second (name_eq n.name y) (rooted c) 0 h in
      let a = kids_few c y (λ x. let u = once x in omega arith) in let b = kids_few r y (λ x. let u = once x in omega arith) in omega arith
]

-- no more than its owner has nodes
pub children_few : (p : Part) → IsPart p → (y : NodeName) → length (children_of p.trees y) ≤ p.node_count
children_few p part y =
    let a = length-children p.trees y part.unique in let b = kids_few p.trees y part.unique in
    let d = size_total p.owner p.node_count p.trees (λ x there. (part.owned x there, part.numbered x there)) in
    let e = total_few p.owner p.node_count p.trees part.unique in omega arith
