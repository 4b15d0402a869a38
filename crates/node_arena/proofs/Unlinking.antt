-- A node taken out of its list: it has no parent then, and what stands above a node stood above it before.
use Rattle.std.proofs.Common.{◌≡◌, ◌≢◌, inl, inr, ℕ, zero, suc, true, eqb, List, map, length, Some, None, refl, sym, ap, ◌∙◌, true≢false}
use Rattle.std.proofs.lemmas.Bool.{or_cases, or_right}
use Rattle.node_arena.specs.Nodes.{children_of, contains, parent_of, ancestors_within, ancestors_of, without, IsForest, IsInclusiveAncestor}
use Rattle.node_arena.proofs.Lists.{contains-without, contains-without_same, contains-without_other}
use Rattle.node_arena.proofs.Forests.{cases_Option, contains-parent, parent_of_none, parent_of_is, parent_of_same, children_of-without, ancestors_of-child}

pub no_parent-without : (lists : List (List ℕ)) (k : ℕ) → parent_of (map (without k) lists) k ≡ None
no_parent-without lists k = parent_of_none (map (without k) lists) k (λ p. rw (children_of-without lists k p) (contains-without_same k (children_of lists p)))

pub parent_of-without : (lists : List (List ℕ)) (c k : ℕ) → c ≢ k → parent_of (map (without c) lists) k ≡ parent_of lists k
parent_of-without lists c k other =
    parent_of_same (map (without c) lists) lists k
    (λ p. rw (children_of-without lists c p) (contains-without_other c (children_of lists p) k other))

-- a parent that a node still has is its parent of before
parent-before : (lists : List (List ℕ)) → IsForest lists → (c k p : ℕ) → parent_of (map (without c) lists) k ≡ Some p → parent_of lists k ≡ Some p
parent-before lists forest c k p e =
    parent_of_is lists forest.one_list p k
    (contains-without c (children_of lists p) k (rw (children_of-without lists c p) at (contains-parent (map (without c) lists) k p e)))

above-before : {lists : List (List ℕ)} → IsForest lists → (c n a k : ℕ) → contains (ancestors_within n (map (without c) lists) k) a ≡ true →
    contains (ancestors_of lists k) a ≡ true
above-before forest c zero a k found = absurd (true≢false (sym found))
above-before {lists} forest c (suc n) a k found = elim (cases_Option (parent_of (map (without c) lists) k)) [
  | inl e ↦ absurd (true≢false (sym (rw e at found)))
  | inr w ↦
      let p = w.0 in
      let up = ancestors_of-child lists forest k p (parent-before lists forest c k p w.1) in
      elim (or_cases (eqb p a) (contains (ancestors_within n (map (without c) lists) p) a) (rw w.1 at found)) [
        | inl h ↦ rw (up, h) refl
        | inr h ↦ rw up (or_right (eqb p a) (contains (ancestors_of lists p) a) (above-before forest c n a p h))
      ]
]

pub above-without : (lists : List (List ℕ)) → IsForest lists → (c a k : ℕ) → IsInclusiveAncestor (map (without c) lists) a k → IsInclusiveAncestor lists a k
unfolding ancestors_of
above-without lists forest c a k found = elim (or_cases (eqb k a) (contains (ancestors_of (map (without c) lists) k) a) found) [
  | inl h ↦ rw h refl
  | inr h ↦ or_right (eqb k a) (contains (ancestors_of lists k) a) (above-before forest c (length (map (without c) lists)) a k h)
]

-- no node is its parent, or stands above it
pub parent-not_below : (lists : List (List ℕ)) → IsForest lists → (k p : ℕ) → parent_of lists k ≡ Some p → ¬ IsInclusiveAncestor lists k p
parent-not_below lists forest k p e found =
    true≢false (sym found ∙ (ap (λ xs. contains xs k) (sym (ancestors_of-child lists forest k p e)) ∙ forest.acyclic k))
