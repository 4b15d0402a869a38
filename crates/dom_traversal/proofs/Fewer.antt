-- A node that a search forward finds has fewer nodes behind it.
use Rattle.dom_traversal.proofs.Cited.{◌≡◌, ◌⊎◌, inl, inr, ℕ, ◌<◌, Bool, true, false, cond, List, [], ◌∷◌, length, Some, sym, ap, subst, ◌∙◌, arith, ◌≤◌}
use Rattle.dom_traversal.proofs.Cited.{length-append, filter, cases_Bool, none-some, same_Some, accepts, after-in, all_single, behind, filter-no, filter-yes}
use Rattle.dom_traversal.proofs.Cited.{first_of, In, inclusive_descendants, is_inclusive_ancestor, IsWithin-key, items_after, items_before, iterator_next_node}
use Rattle.dom_traversal.proofs.Cited.{name_at, name_eq, name_eq-from, name_eq-other, NamedTrees, NodeName, nodes_ahead, same_or_not, Single, split_at}
use Rattle.dom_traversal.proofs.Cited.{StandAlone, StandOnce, StandsIn, walker_move, IsIteratorOf, IsWalkerOf, iterator_left, iterator_view, KeyedIterator}
use Rattle.dom_traversal.proofs.Cited.{KeyedWalker, walker_left, walker_view}
use Rattle.dom_model.proofs.Model.{Next}

-- ---- in a list in which no name stands twice

after-shorter : (y : NodeName) (xs : List NodeName) → In y xs → length (items_after name_eq y xs) < length xs
after-shorter y xs i =
    let front = items_before name_eq y xs in
    let back = items_after name_eq y xs in
    let whole = ap (length {A = NodeName}) (split_at y xs i) in
    omega (arith, whole, length-append front (y ∷ back))

after-fewer : (x y : NodeName) (xs : List NodeName) → Single xs → In y (items_after name_eq x xs) →
    length (items_after name_eq y xs) < length (items_after name_eq x xs)
after-fewer x y [] s i = absurd i
after-fewer x y (z ∷ zs) s i = elim (same_or_not y z) [
  | inl same ↦ absurd (s.0 (subst (λ v. In v zs) same (inside (same_or_not x z) i)))
  | inr other ↦ elim (same_or_not x z) [
    | inl e ↦ rw (name_eq-from x z e, name_eq-other y z other) (after-shorter y zs (rw (name_eq-from x z e) at i))
    | inr apart ↦
        rw (name_eq-other x z apart, name_eq-other y z other) (after-fewer x y zs s.1 (rw (name_eq-other x z apart) at i))
  ]
]
  where
    inside : (x ≡ z) ⊎ (x ≡ z → ⊥) → In y (items_after name_eq x (z ∷ zs)) → In y zs
    inside (inl e) i = rw (name_eq-from x z e) at i
    inside (inr apart) i = after-in x y zs (rw (name_eq-other x z apart) at i)

-- the first node that passes a test is one of the list
pub first-in : (p : NodeName → Bool) (y : NodeName) (xs : List NodeName) → Some y ≡ first_of (filter p xs) → In y xs
first-in p y [] e = absurd (none-some y (sym e))
first-in p y (x ∷ xs) e = elim (cases_Bool (p x)) [
  | inl h ↦ inl (same_Some y x (e ∙ ap first_of (filter-yes p x xs h)))
  | inr h ↦ inr (first-in p y xs (e ∙ ap first_of (filter-no p x xs h)))
]

-- ---- in a forest

behind_fewer : {f : NamedTrees} → StandOnce f → StandAlone f → {top k : ℕ} (y : NodeName) → StandsIn f top k →
    In y (behind f.trees (name_at f.names top) (name_at f.names k)) →
    length (behind f.trees (name_at f.names top) y) < length (behind f.trees (name_at f.names top) (name_at f.names k))
behind_fewer {f} once only {top} {k} y stands i =
    after-fewer (name_at f.names k) y (inclusive_descendants f.trees (name_at f.names top))
    (all_single f.trees (name_at f.names top) (name_at f.names k) (IsWithin-key f once only top k stands)) i

pub walker_fewer : {f : NamedTrees} → StandOnce f → StandAlone f → {w : KeyedWalker} → IsWalkerOf f w → (k : ℕ) →
    Some (name_at f.names k) ≡ walker_move f.trees (walker_view f.names w) Next → walker_left f record w { current = k } < walker_left f w
walker_fewer {f} once only {w} placed k e = by (cases_Bool above)
  where
    above : Bool
    above = is_inclusive_ancestor f.trees (name_at f.names w.root) (name_at f.names w.current)

    by : (above ≡ true) ⊎ (above ≡ false) → walker_left f record w { current = k } < walker_left f w
    by (inl h) =
        behind_fewer once only (name_at f.names k) record { node = placed.current; within = h }
        (first-in _ (name_at f.names k) (behind f.trees (name_at f.names w.root) (name_at f.names w.current)) (rw h at e))
    by (inr h) = absurd (none-some (name_at f.names k) (sym (rw h at e)))

pub iterator_fewer : {f : NamedTrees} → StandOnce f → StandAlone f → {i : KeyedIterator} → IsIteratorOf f i → (k : ℕ) →
    Some (name_at f.names k) ≡ iterator_next_node f.trees (iterator_view f.names i) →
    iterator_left f record i { reference = k; before = false } < iterator_left f i
iterator_fewer {f} once only {i} placed k e = by (cases_Bool i.before)
  where
    y : NodeName
    y = name_at f.names k

    back : List NodeName
    back = behind f.trees (name_at f.names i.root) (name_at f.names i.reference)

    found : In y (nodes_ahead f.trees (iterator_view f.names i))
    found = first-in (accepts f.trees i.filter) y (nodes_ahead f.trees (iterator_view f.names i)) e

    further : In y back → length (behind f.trees (name_at f.names i.root) y) < length back
    further h = behind_fewer once only y placed.reference h

    here : In y (name_at f.names i.reference ∷ back) → length (behind f.trees (name_at f.names i.root) y) ≤ length back
    here (inl same) = let alike = ap (λ v. length (behind f.trees (name_at f.names i.root) v)) same in omega (arith, alike)
    here (inr h) = let less = further h in omega (arith, less)

    by : (i.before ≡ true) ⊎ (i.before ≡ false) → iterator_left f record i { reference = k; before = false } < iterator_left f i
    by (inl h) =
        let all = ap (λ b. length (cond b (name_at f.names i.reference ∷ back) back)) h in
        let less = here (subst (λ b. In y (cond b (name_at f.names i.reference ∷ back) back)) h found) in
        omega (arith, all, less)
    by (inr h) =
        let all = ap (λ b. length (cond b (name_at f.names i.reference ∷ back) back)) h in
        let less = further (subst (λ b. In y (cond b (name_at f.names i.reference ∷ back) back)) h found) in
        omega (arith, all, less)
