-- The list of the references of iterators that are added and moved.
use Rattle.dom_traversal.proofs.Cited.{◌≡◌, ◌≢◌, ◌⊎◌, inl, inr, ℕ, List, [], ◌∷◌, ◌++◌, length, true, get_or, Some, sym, ap, subst, ◌∙◌, is_some, slice_get}
use Rattle.dom_traversal.proofs.Cited.{slice_set, Contains, cases_eq, same_Some, slice_get-push, AreListed, KeyedIterator, Reference, reference_at}
use Rattle.dom_tree.proofs.Changes.{slice_get-push as slice_get-kept, slice_get-pushed}
use Rattle.dom_traversal.proofs.Items.{get_set, get_set_other, got}

-- an item that was read in a list that is known to have it
pub got_in : {X : Type 0} {xs all : List X} (k : ℕ) {x : X} → xs ≡ all → is_some (slice_get all k) ≡ true → x ≡ get_or xs k x → slice_get xs k ≡ Some x
got_in {xs = xs} k {x} same there value = got xs k x (ap (λ ys. is_some (slice_get ys k)) same ∙ there) value

-- one iterator more
pub AreListed-added : {is : List KeyedIterator} (i : KeyedIterator) {xs : List Reference} (ys : List Reference) → AreListed is xs →
    Contains ys (reference_at i.reference (length is)) → ((x : Reference) → Contains xs x → Contains ys x) →
    ((x : Reference) → Contains ys x → (x ≡ reference_at i.reference (length is)) ⊎ Contains xs x) → AreListed (is ++ i ∷ []) ys
AreListed-added {is = is} i ys listed here kept only = record {
  all = λ k j e. elim (slice_get-push is k i j e) [
    | inl h ↦ subst (Contains ys) (λ t. reference_at (sym h.1 t).reference (sym h.0 t)) here
    | inr h ↦ kept (reference_at j.reference k) (listed.all k j h)
  ];
  only = λ x w. elim (only x w) [
    | inl e ↦ (i, ap (λ (y : Reference). slice_get (is ++ i ∷ []) y.number) e ∙ slice_get-pushed is i, sym (ap (λ (y : Reference). y.node) e))
    | inr v ↦ let l = listed.only x v in (l.0, slice_get-kept is i l.0 x.number l.1, l.2)
  ];
}

-- one iterator at another node
pub AreListed-moved : {is : List KeyedIterator} {at : ℕ} {i : KeyedIterator} (j : KeyedIterator) {xs ys : List Reference} {from to : ℕ}
    → from ≡ i.reference → to ≡ j.reference
    → slice_get is at ≡ Some i → AreListed is xs
    → Contains ys (reference_at to at) ×
    ((x : Reference) → (x ≡ reference_at from at → ⊥) → Contains xs x → Contains ys x) ×
    ((x : Reference) → Contains ys x → (x ≡ reference_at to at) ⊎ (Contains xs x × (x.number ≢ at)))
    → AreListed (slice_set is at j) ys
AreListed-moved {is} {at} {i} j {xs} {ys} {from} {to} was now there listed (here, kept, only) = record {
  all = λ k m e. elim (cases_eq k at) [
    | inl same ↦
        let is_j : j ≡ m = same_Some j m (sym (get_set is at i j there) ∙ (ap (slice_get (slice_set is at j)) (sym same) ∙ e)) in
        let to_is : to ≡ m.reference = now ∙ ap (λ (y : KeyedIterator). y.reference) is_j in
        subst (Contains ys) (λ t. reference_at (to_is t) (sym same t)) here
    | inr off ↦
        kept (reference_at m.reference k) (λ same. off (ap (λ (y : Reference). y.number) same))
        (listed.all k m (sym (get_set_other is at k j off) ∙ e))
  ];
  only = λ x w. elim (only x w) [
    | inl e ↦ (j, ap (λ (y : Reference). slice_get (slice_set is at j) y.number) e ∙ get_set is at i j there, sym (ap (λ (y : Reference). y.node) e ∙ now))
    | inr v ↦ let l = listed.only x v.0 in (l.0, get_set_other is at x.number j v.1 ∙ l.1, l.2)
  ];
}

-- the reference of an iterator is listed alone
pub AreListed-alone : {is : List KeyedIterator} {at from : ℕ} {i : KeyedIterator} {xs : List Reference} → AreListed is xs → slice_get is at ≡ Some i →
    from ≡ i.reference → (x : Reference) → Contains xs x → x.number ≡ at → x.node ≡ from
AreListed-alone {is} {at} {from} {i} listed there was x w n =
    let l = listed.only x w in
    sym l.2 ∙ (ap (λ (y : KeyedIterator). y.reference) (same_Some l.0 i (sym l.1 ∙ (ap (slice_get is) n ∙ there))) ∙ sym was)
