use Rattle.dom_traversal.proofs.Cited.{◌≡◌, ◌≢◌, inl, inr, ℕ, ◌<◌, ◌≤◌, ◌∙◌, List, length, get_or, remove, sym, subst, Contains, cases_eq, eqb-true, AreSorted}
use Rattle.dom_traversal.proofs.Cited.{IsBefore, IsUpTo, Reference, reference_at}
use Rattle.dom_traversal.proofs.Standing.{place-is, AreSorted-removed, Contains-removed, Contains-was, Contains-gone}
use Rattle.dom_traversal.proofs.references.bring.Goals as goal

-- where the reference that goes is found
found : {xs ys : List Reference} {y : Reference} {place : ℕ} → ys ≡ xs → AreSorted xs → Contains xs y →
    ((k : ℕ) (d : Reference) → k < place → IsBefore (get_or ys k d) y)
    → ((k : ℕ) (d : Reference) → place ≤ k → k < length ys → IsUpTo y (get_or ys k d)) →
    (place < length xs) × ((d : Reference) → get_or xs place d ≡ y)
found {xs} {ys} {y} {place} same sorted there before from =
    place-is xs y place sorted
    (subst (λ (zs : List Reference). (k : ℕ) (d : Reference) → k < place → IsBefore (get_or zs k d) y) same before)
    (subst (λ (zs : List Reference). (k : ℕ) (d : Reference) → place ≤ k → k < length zs → IsUpTo y (get_or zs k d)) same from) there

-- what is listed without it has other numbers
others : (xs : List Reference) {zs : List Reference} {place from number : ℕ} →
    AreSorted xs × ((x : Reference) → Contains xs x → x.number ≡ number → x.node ≡ from) →
    (place < length xs) × ((d : Reference) → get_or xs place d ≡ reference_at from number) → zs ≡ remove xs place →
    (x : Reference) → Contains zs x → Contains xs x × (x.number ≢ number)
others xs {zs} {place} {from} {number} (sorted, alone) (within, at) is x w =
    let y = reference_at from number in
    let v : Contains (remove xs place) x = subst (λ (ys : List Reference). Contains ys x) is w in
    let was = Contains-was xs place within y x (sym (at y)) v in
    (was, λ n. Contains-gone xs place within y x (sym (at y)) sorted v (λ i. reference_at (alone x was n i) (n i)))

pub list-requires-clause-sorted : goal.list-requires-clause-sorted
list-requires-clause-sorted c =
    let f = found c.as_slice.ensures.value c.requires.sorted c.requires.there c.place_of-place.ensures.before c.place_of-place.ensures.from in
    subst AreSorted (sym c.remove.ensures.items) (AreSorted-removed c.args.references.now.items c.place_of-place.result f.0 c.requires.sorted)

pub list-requires-clause-unlisted : goal.list-requires-clause-unlisted
list-requires-clause-unlisted c x w =
    (others c.args.references.now.items (c.requires.sorted, c.requires.alone)
    (found c.as_slice.ensures.value c.requires.sorted c.requires.there c.place_of-place.ensures.before c.place_of-place.ensures.from)
    c.remove.ensures.items x w).1

pub returns-clause-kept : goal.returns-clause-kept
returns-clause-kept c x other w =
    let y = reference_at c.args.from c.args.number in
    let f = found c.as_slice.ensures.value c.requires.sorted c.requires.there c.place_of-place.ensures.before c.place_of-place.ensures.from in
    c.list.ensures.kept x (subst (λ (xs : List Reference). Contains xs x) (sym c.remove.ensures.items)
    (Contains-removed c.args.references.now.items c.place_of-place.result f.0 y x (sym (f.1 y)) other w))

pub returns-clause-only : goal.returns-clause-only
returns-clause-only c x w = elim (c.list.ensures.only x w) [
  | inl e ↦ inl e
  | inr v ↦ inr (others c.args.references.now.items (c.requires.sorted, c.requires.alone)
      (found c.as_slice.ensures.value c.requires.sorted c.requires.there c.place_of-place.ensures.before c.place_of-place.ensures.from)
      c.remove.ensures.items x v)
]

pub returns-then-eq-clause-only : goal.returns-then-eq-clause-only
returns-then-eq-clause-only c x w = elim (cases_eq x.number c.args.number) [
  | inl n ↦ inl (λ i. reference_at ((c.requires.alone x w n ∙ eqb-true _ _ (sym c.eq.ensures ∙ c.if-eq.true)) i) (n i))
  | inr off ↦ inr (w, off)
]
