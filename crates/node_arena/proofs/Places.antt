-- Where a cell lies among the others.
use Rattle.std.proofs.Common.{◌≡◌, inl, inr, true, eqb, List, [], ◌∷◌, ◌++◌, Some, IsSome, refl, sym, ap, true≢false}
use Rattle.std.proofs.lemmas.Bool.{eq-eqb, eqb-true, and_parts, cases_Bool}
use denote.RawPtr.{Ptr, block_ptr, null_ptr}
use Rattle.node_arena.specs.Owned.{Placed, placed, same_ptr, value_at, set_at, without_at}

-- pointers that are the same are equal
pub same_ptr_eq : (p q : Ptr) → same_ptr p q ≡ true → p ≡ q
same_ptr_eq (block_ptr b o) (block_ptr c p) h =
    let parts = and_parts (eqb b c) (eqb o p) h in
    let first : b ≡ c = eqb-true b c parts.0 in
    let second : o ≡ p = eqb-true o p parts.1 in
    cc
same_ptr_eq (block_ptr b o) null_ptr h = absurd (true≢false (sym h))
same_ptr_eq null_ptr (block_ptr c p) h = absurd (true≢false (sym h))
same_ptr_eq null_ptr null_ptr h = refl

module _ {V : Type 0} where
  -- the first cell at p
  pub record First (cells : List (Placed V)) (p : Ptr) : Type 0 where
    pub before : List (Placed V)
    pub cell : Placed V
    pub after : List (Placed V)
    pub is : cells ≡ before ++ cell ∷ after
    pub at : cell.at ≡ p
    pub value : value_at cells p ≡ Some cell.value
    pub set : (w : V) → set_at cells p w ≡ before ++ placed cell.at w ∷ after
    pub gone : without_at cells p ≡ before ++ after

  -- the first cell at a place where one lies
  pub first_at : (cells : List (Placed V)) (p : Ptr) → IsSome (value_at cells p) → First cells p
  first_at [] p h = absurd (true≢false (sym h))
  first_at (n ∷ ns) p h = elim (cases_Bool (same_ptr n.at p)) [
    | inl e ↦ record { before = []; cell = n; after = ns; is = refl; at = same_ptr_eq n.at p e; value = rw e refl; set = λ w. rw e refl; gone = rw e refl }
    | inr e ↦
        let rest = first_at ns p (rw e at h) in
        record {
          before = n ∷ rest.before;
          cell = rest.cell;
          after = rest.after;
          is = ap (λ ms. n ∷ ms) rest.is;
          at = rest.at;
          value = rw e rest.value;
          set = λ w. rw e (ap (λ ms. n ∷ ms) (rest.set w));
          gone = rw e (ap (λ ms. n ∷ ms) rest.gone);
        }
  ]

-- a pointer is the same as itself
pub same_ptr-refl : (p : Ptr) → same_ptr p p ≡ true
same_ptr-refl (block_ptr b o) = let first : eqb b b ≡ true = eq-eqb b b refl in let second : eqb o o ≡ true = eq-eqb o o refl in rw first (rw second refl)
same_ptr-refl null_ptr = refl
