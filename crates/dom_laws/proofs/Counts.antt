-- How often a name stands in trees, and trees in which each name stands once.
use Rattle.dom_base.proofs.Std.{◌≡◌, ◌⊎◌, inl, inr, ℕ, zero, suc, ◌+◌, ◌≤◌, Bool, true, false, cond, List, ◌∷◌, ◌++◌, refl, ap, arith, count_by, cases_Bool}
use Rattle.dom_base.proofs.Std.{cond-true, cond-false, sum_by-cons, sum_by-append}
use Rattle.dom_model.proofs.Model.{NodeName, name_eq, Trees, none, tree, Node, nodes, subtree, or_else, times_in, name_eq-same}

-- 1 where a test holds
pub one : Bool → ℕ
one b = cond b 1 0

-- where it holds
pub one-true : (b : Bool) → b ≡ true → one b ≡ 1
unfolding one
one-true b e = rw e refl

-- and where it does not
pub one-false : (b : Bool) → b ≡ false → one b ≡ 0
unfolding one
one-false b e = rw e refl

-- a count with one more item
pub count-cons : {X : Type 0} (p : X → Bool) (x : X) (xs : List X) → count_by p (x ∷ xs) ≡ one (p x) + count_by p xs
unfolding one
count-cons p x xs = sum_by-cons (λ y. cond (p y) 1 0) x xs

-- a count over two lists
pub count-append : {X : Type 0} (p : X → Bool) (xs ys : List X) → count_by p (xs ++ ys) ≡ count_by p xs + count_by p ys
count-append p xs ys = sum_by-append (λ y. cond (p y) 1 0) xs ys

-- by whether a count is 0
pub none_or_some : (n : ℕ) → (n ≡ 0) ⊎ (1 ≤ n)
none_or_some zero = inl refl
none_or_some (suc n) = inr (omega arith)

-- the same, as two ways on
pub by_times : {P : Type 0} (k : ℕ) → (k ≡ 0 → P) → (1 ≤ k → P) → P
by_times zero f g = f refl
by_times (suc k) f g = g (omega arith)

-- ---- how often a name stands in trees

-- in none
pub times_in-none : (x : NodeName) → times_in none x ≡ 0
times_in-none x = refl

-- at a first root, below it and behind it
pub times_in-tree : (n : Node) (c r : Trees) (x : NodeName) → times_in (tree n c r) x ≡ one (name_eq n.name x) + (times_in c x + times_in r x)
unfolding one
times_in-tree n c r x = omega arith

-- how many nodes of trees have a name, as a clause says it
pub times_count : (ts : Trees) (x : NodeName) → times_in ts x ≡ count_by (λ n. name_eq n.name x) (nodes ts)
times_count none x = refl
times_count (tree n c r) x =
    let below = times_count c x in
    let rest = times_count r x in
    let all = count-cons (λ (m : Node). name_eq m.name x) n (nodes c ++ nodes r) in
    let apart = count-append (λ (m : Node). name_eq m.name x) (nodes c) (nodes r) in
    omega (arith, times_in-tree n c r x)

-- where the first root has the name
pub times-here : (n : Node) (c r : Trees) (x : NodeName) → name_eq n.name x ≡ true → times_in (tree n c r) x ≡ 1 + times_in c x + times_in r x
times-here n c r x e = ap (λ k. k + times_in c x + times_in r x) (cond-true (name_eq n.name x) 1 0 e)

-- where it has another one
pub times-elsewhere : (n : Node) (c r : Trees) (x : NodeName) → name_eq n.name x ≡ false → times_in (tree n c r) x ≡ 0 + times_in c x + times_in r x
times-elsewhere n c r x e = ap (λ k. k + times_in c x + times_in r x) (cond-false (name_eq n.name x) 1 0 e)

-- below and behind a root there is no more than in all
pub times-more : (n : Node) (c r : Trees) (x : NodeName) → times_in c x + times_in r x ≤ times_in (tree n c r) x
times-more n c r x = omega arith

-- how often in a first tree and behind it
pub times-parts : (n : Node) (c r : Trees) (y : NodeName) → times_in (tree n c r) y ≡ times_in (tree n c none) y + times_in r y
times-parts n c r y = omega arith

-- trees without a name
pub times_none : (n : Node) (c r : Trees) (x : NodeName) → times_in (tree n c r) x ≡ 0 → (name_eq n.name x ≡ false) × (times_in c x ≡ 0) × (times_in r x ≡ 0)
times_none n c r x e =
    let a = times_in-tree n c r x in (
      elim (cases_Bool (name_eq n.name x)) [
        | inl h ↦ let b = one-true _ h in absurd (omega arith)
        | inr h ↦ h
      ],
      omega arith,
      omega arith,
    )

-- what stands in one list of trees or the other
pub times_or_else : (ts us : Trees) (x : NodeName) → times_in (or_else ts us) x ≤ times_in ts x + times_in us x
times_or_else none us x = omega arith
times_or_else (tree n c r) us x = omega arith

-- the tree of a node has no more than all
pub times_subtree : (ts : Trees) (x y : NodeName) → times_in (subtree ts x) y ≤ times_in ts y
times_subtree none x y = omega arith
times_subtree (tree n c r) x y =
    let a = times_in-tree n c r y in
    elim (cases_Bool (name_eq n.name x)) [
      | inl h ↦ let b = times_in-tree n c none y in let z = times_in-none y in rw h (omega arith)
      | inr h ↦ let b = times_subtree c x y in let d = times_subtree r x y in let e = times_or_else (subtree c x) (subtree r x) y in rw h (omega arith)
    ]

-- ---- each name stands once

-- no name stands twice
abbrev pub Once : Trees → Type 0
Once ts = (x : NodeName) → times_in ts x ≤ 1

-- as a clause says it
pub once_counted : (ts : Trees) → ((x : NodeName) → count_by (λ n. name_eq n.name x) (nodes ts) ≤ 1) → Once ts
once_counted ts h x = let a = times_count ts x in let b = h x in omega arith

-- a root, what is below it and what is after it
pub record OncePart (n : Node) (c r : Trees) : Type 0 where
  pub below : (x : NodeName) → times_in c x ≤ 1
  pub after : (x : NodeName) → times_in r x ≤ 1
  pub apart : (x : NodeName) → times_in c x + times_in r x ≤ 1
  pub root_below : times_in c n.name ≡ 0
  pub root_after : times_in r n.name ≡ 0

-- none of them has a name of another one
pub once_parts : (n : Node) (c r : Trees) → ((x : NodeName) → times_in (tree n c r) x ≤ 1) → OncePart n c r
once_parts n c r once =
    let root : one (name_eq n.name n.name) ≡ 1 = one-true _ (name_eq-same n.name) in
    record {
      below = λ x. let a = times_in-tree n c r x in let b = once x in omega arith;
      after = λ x. let a = times_in-tree n c r x in let b = once x in omega arith;
      apart = λ x. let a = times_in-tree n c r x in let b = once x in omega arith;
      root_below = let a = times_in-tree n c r n.name in let b = once n.name in omega arith;
      root_after = let a = times_in-tree n c r n.name in let b = once n.name in omega arith;
    }

-- the tree of a node
pub once_subtree : (ts : Trees) (x : NodeName) → Once ts → Once (subtree ts x)
once_subtree ts x once y = let a = times_subtree ts x y in let b = once y in omega arith
