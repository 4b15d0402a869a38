-- Iterators that leave the tree of a node, in any order and as often as they are asked.
use Rattle.dom_traversal.proofs.Cited.{◌≡◌, ℕ, ◌+◌, ◌<◌, ◌≤◌, Bool, true, false, not, cond, inl, inr, List, [], ◌∷◌, length, Option, Some, None, refl, sym}
use Rattle.dom_traversal.proofs.Cited.{subst, ◌∙◌}
use Rattle.dom_traversal.proofs.Cited.{arith, slice_get, slice_set, ◌||◌, cases_eq, cases_lt, none-some, adjusted_iterator, is_inclusive_ancestor, name_at}
use Rattle.dom_traversal.proofs.Cited.{NamedTrees, AreLeft, EachItem, IsIteratorOf, IsLeft, IsLeftIf, iterator_view, KeyedIterator, MayHaveLeft}
use Rattle.dom_traversal.proofs.Items.{get_set, get_set_other}

-- of the iterators of a kind those before a place have left, and each has left or is as it was
pub record HaveLeft (f : NamedTrees) (node : ℕ) (P : KeyedIterator → Type 0) (was now : List KeyedIterator) (at : ℕ) : Type 0 where
  pub may : MayHaveLeft f node was now
  pub len : length now ≡ length was
  pub done : (k : ℕ) (i : KeyedIterator) → k < at → slice_get was k ≡ Some i → P i → IsLeftIf f node (slice_get was k) (slice_get now k)

-- Iterators of a forest that leave the tree of a node.
module _ (f : NamedTrees) (node : ℕ) where
  -- whether a key's node is in the tree that is left
  abbrev pub inside : ℕ → Bool
  inside k = is_inclusive_ancestor f.trees (name_at f.names node) (name_at f.names k)

  -- the removal leaves an iterator as it is whose root is in the tree, or whose reference is not
  not-adjusted : (i : KeyedIterator) → inside i.root || not (inside i.reference) ≡ true
      → adjusted_iterator f.trees (name_at f.names node) (iterator_view f.names i) ≡ iterator_view f.names i
  not-adjusted i e = by _ _ _ e
    where
      by : {X : Type 0} (b : Bool) (x y : X) → b ≡ true → cond b x y ≡ x
      by true x y e = refl
      by false x y e = cc

  -- so it is with one whose reference is outside
  pub left-outside : (i : KeyedIterator) → IsIteratorOf f i → inside i.reference ≡ false → IsLeft f node i i
  left-outside i of_forest outside = record {
    value = sym (not-adjusted i (by (inside i.root) (inside i.reference) outside));
    root = refl;
    kept = of_forest;
    left = λ _. outside;
  }
    where
      by : (a b : Bool) → b ≡ false → a || not b ≡ true
      by true b e = refl
      by false true e = cc
      by false false e = refl

  -- and with one that has left
  left-twice : (i j k : KeyedIterator) → IsLeft f node i j → IsLeft f node j k → IsLeft f node i k
  left-twice i j k h g = record {
    value = g.value ∙ (not-adjusted j (by (inside j.root) (inside j.reference) h.left) ∙ h.value);
    root = g.root ∙ h.root;
    kept = g.kept;
    left = g.left;
  }
    where
      by : (a b : Bool) → (a ≡ false → b ≡ false) → a || not b ≡ true
      by true b e = refl
      by false true e = let h = e refl in cc
      by false false e = refl

  -- the same where it is not known that there is one
  left_if-twice : (a b c : Option KeyedIterator) → IsLeftIf f node a b → IsLeftIf f node b c → IsLeftIf f node a c
  left_if-twice (Some i) (Some j) (Some k) h g = left-twice i j k h g
  left_if-twice (Some i) (Some j) None h g = g
  left_if-twice (Some i) None c h g = absurd h
  left_if-twice None (Some j) c h g = absurd h
  left_if-twice None None (Some k) h g = g
  left_if-twice None None None h g = tt

  -- what has left is an iterator of the forest
  kept_if : (a b : Option KeyedIterator) (i : KeyedIterator) → IsLeftIf f node a b → b ≡ Some i → IsIteratorOf f i
  kept_if (Some j) (Some k) i h e = subst (λ (o : Option KeyedIterator). by o) e h.kept
    where
      by : Option KeyedIterator → Type 0
      by (Some x) = IsIteratorOf f x
      by None = ⊥
  kept_if (Some j) None i h e = absurd h
  kept_if None (Some k) i h e = absurd h
  kept_if None None i h e = absurd (none-some i e)

  -- ---- first some leave, then some again

  module _ (was mid now : List KeyedIterator) where
    -- one leaves in the second step
    pub may-left : MayHaveLeft f node was mid → (k : ℕ) → IsLeftIf f node (slice_get mid k) (slice_get now k) →
        IsLeftIf f node (slice_get was k) (slice_get now k)
    may-left may k h = elim (may k) [
      | inl l ↦ left_if-twice (slice_get was k) (slice_get mid k) (slice_get now k) l h
      | inr same ↦ subst (λ o. IsLeftIf f node o (slice_get now k)) same h
    ]

    -- or in the first one
    pub left-may : MayHaveLeft f node mid now → (k : ℕ) → IsLeftIf f node (slice_get was k) (slice_get mid k) →
        IsLeftIf f node (slice_get was k) (slice_get now k)
    left-may may k h = elim (may k) [
      | inl l ↦ left_if-twice (slice_get was k) (slice_get mid k) (slice_get now k) h l
      | inr same ↦ subst (IsLeftIf f node (slice_get was k)) (sym same) h
    ]

    -- each may have left in either
    pub may-may : MayHaveLeft f node was mid → MayHaveLeft f node mid now → MayHaveLeft f node was now
    may-may first second k = elim (second k) [
      | inl l ↦ inl (may-left first k l)
      | inr same ↦ elim (first k) [
        | inl l ↦ inl (subst (IsLeftIf f node (slice_get was k)) (sym same) l)
        | inr e ↦ inr (same ∙ e)
      ]
    ]

  -- nobody has left yet
  pub may-none : (was : List KeyedIterator) → MayHaveLeft f node was was
  may-none was k = inr refl

  -- all have left where there are none
  pub none-there : (was : List KeyedIterator) → length was ≡ 0 → AreLeft f node was was
  none-there [] e k = tt
  none-there (i ∷ is) e k = absurd (omega (arith, e))

  -- all are iterators of the forest still
  pub may-items : (was now : List KeyedIterator) → MayHaveLeft f node was now → EachItem (IsIteratorOf f) was → EachItem (IsIteratorOf f) now
  may-items was now may each k i e = elim (may k) [
    | inl l ↦ kept_if (slice_get was k) (slice_get now k) i l e
    | inr same ↦ each k i (sym same ∙ e)
  ]

  -- all have left where each has that was there
  pub all-left : (was now : List KeyedIterator) → MayHaveLeft f node was now →
      ((k : ℕ) (i : KeyedIterator) → slice_get was k ≡ Some i → IsLeftIf f node (slice_get was k) (slice_get now k)) → AreLeft f node was now
  all-left was now may each k = by (slice_get was k) refl
    where
      by : (o : Option KeyedIterator) → slice_get was k ≡ o → IsLeftIf f node (slice_get was k) (slice_get now k)
      by (Some i) e = each k i e
      by None e = elim (may k) [
        | inl l ↦ l
        | inr same ↦ subst (λ o. IsLeftIf f node o (slice_get now k)) (sym e) (subst (IsLeftIf f node None) (sym (same ∙ e)) tt)
      ]

  -- ---- one iterator is asked

  module _ (was : List KeyedIterator) (at : ℕ) (i j : KeyedIterator) (here : slice_get was at ≡ Some i) (left : IsLeft f node i j) where
    -- it has left
    pub left-set : IsLeftIf f node (slice_get was at) (slice_get (slice_set was at j) at)
    left-set = subst (λ o. IsLeftIf f node o (slice_get (slice_set was at j) at)) (sym here)
        (subst (IsLeftIf f node (Some i)) (sym (get_set was at i j here)) left)

    -- and the others are as they were
    pub may-set : MayHaveLeft f node was (slice_set was at j)
    may-set k = elim (cases_eq k at) [
      | inl e ↦ inl (subst (λ (n : ℕ). IsLeftIf f node (slice_get was n) (slice_get (slice_set was at j) n)) (sym e) left-set)
      | inr off ↦ inr (get_set_other was at k j off)
    ]

  -- ---- those of a kind are asked one after the other

  module _ (P : KeyedIterator → Type 0) (was : List KeyedIterator) where
    -- the next one that is not passed over
    pub have_left-more : {mid : List KeyedIterator} (now : List KeyedIterator) {from : ℕ} (at : ℕ) → HaveLeft f node P was mid from →
        ((k : ℕ) (i : KeyedIterator) → from ≤ k → k < at → slice_get mid k ≡ Some i → P i → ⊥) →
        MayHaveLeft f node mid now × (length now ≡ length mid) × IsLeftIf f node (slice_get mid at) (slice_get now at) → HaveLeft f node P was now (at + 1)
    have_left-more {mid = mid} now {from = from} at h passed step = record {
      may = may-may was mid now h.may step.0;
      len = step.1 ∙ h.len;
      done = λ k i l e p. elim (cases_eq k at) [
        | inl same ↦ subst (λ (n : ℕ). IsLeftIf f node (slice_get was n) (slice_get now n)) (sym same) (may-left was mid now h.may at step.2)
        | inr off ↦ left-may was mid now step.0 k (elim (cases_lt k from) [
          | inl m ↦ h.done k i m e p
          | inr m ↦ elim (h.may k) [ inl left ↦ left | inr same ↦ absurd (passed k i m (omega (arith, l, off)) (same ∙ e) p) ]
        ])
      ];
    }

    -- none is left
    pub have_left-all : {now : List KeyedIterator} {at : ℕ} → HaveLeft f node P was now at →
        ((k : ℕ) (i : KeyedIterator) → at ≤ k → slice_get now k ≡ Some i → P i → ⊥) → (k : ℕ) {i : KeyedIterator} → slice_get was k ≡ Some i → P i →
        IsLeftIf f node (slice_get was k) (slice_get now k)
    have_left-all {at = at} h passed k {i = i} e p = elim (cases_lt k at) [
      | inl m ↦ h.done k i m e p
      | inr m ↦ elim (h.may k) [ inl left ↦ left | inr same ↦ absurd (passed k i m (same ∙ e) p) ]
    ]
