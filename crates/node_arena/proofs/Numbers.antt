-- The numbers of places in a list of them, and what stands at a number of a list.
use Rattle.std.proofs.Common.{◌≡◌, ℕ, zero, suc, ◌⊎◌, true≢false, inl, inr, Bool, true, false, List, [], ◌∷◌, ◌++◌, length, set, Option, Some, None, IsSome}
use Rattle.std.proofs.Common.{slice_get, drop, refl, sym, ap, ◌∙◌, subst}
use Rattle.std.specs.Option.{option_map, is_some}
use Rattle.std.proofs.lemmas.Bool.{cases_Bool}
use Rattle.std.proofs.lemmas.Option.{none-some, same_Some}
use denote.RawPtr.{Ptr, block_ptr, null_ptr, InBlock}
use Rattle.node_arena.specs.Owned.{Placed, placed, same_ptr, value_at, set_at, without_at}
use Rattle.node_arena.specs.Store.{number_of, key_at, led_at, IsMarked, places_of}
use Rattle.node_arena.proofs.Places.{same_ptr_eq, same_ptr-refl}

module _ {X : Type 0} where
  -- what is read after a write is what was written, or what stood there
  pub slice_get-set : (xs : List X) (k j : ℕ) (x y : X) → slice_get (set xs k x) j ≡ Some y → ((j ≡ k) × (y ≡ x)) ⊎ (slice_get xs j ≡ Some y)
  slice_get-set [] k j x y h = inr h
  slice_get-set (z ∷ zs) zero zero x y h = inl (refl, sym (same_Some x y h))
  slice_get-set (z ∷ zs) zero (suc j) x y h = inr h
  slice_get-set (z ∷ zs) (suc k) zero x y h = inr h
  slice_get-set (z ∷ zs) (suc k) (suc j) x y h = elim (slice_get-set zs k j x y h) [ inl e ↦ inl (ap suc e.0, e.1) | inr e ↦ inr e ]

  -- what is read of a list with one more is that one, or what stood there
  pub slice_get-push : (xs : List X) (j : ℕ) (x y : X) → slice_get (xs ++ x ∷ []) j ≡ Some y → ((j ≡ length xs) × (y ≡ x)) ⊎ (slice_get xs j ≡ Some y)
  slice_get-push [] zero x y h = inl (refl, sym (same_Some x y h))
  slice_get-push [] (suc j) x y h = absurd (none-some y h)
  slice_get-push (z ∷ zs) zero x y h = inr h
  slice_get-push (z ∷ zs) (suc j) x y h = elim (slice_get-push zs j x y h) [ inl e ↦ inl (ap suc e.0, e.1) | inr e ↦ inr e ]

-- a number one higher is there where the number is
is_some-higher : (o : Option ℕ) → is_some (option_map suc o) ≡ is_some o
is_some-higher None = refl
is_some-higher (Some k) = refl

-- a number one higher is none only where the number is
none-higher : (o : Option ℕ) → option_map suc o ≡ None → o ≡ None
none-higher None h = refl
none-higher (Some k) h = absurd (none-some (suc k) (sym h))

-- a place that has a number keeps it where another place comes last
pub number-kept : (ps : List Ptr) (p q : Ptr) → IsSome (number_of ps q) → number_of (ps ++ p ∷ []) q ≡ number_of ps q
number-kept [] p q h = absurd (true≢false (sym h))
number-kept (r ∷ rs) p q h = elim (cases_Bool (same_ptr r q)) [
  | inl e ↦ rw e refl
  | inr e ↦
      let later : is_some (option_map suc (number_of rs q)) ≡ true = rw e at h in
      rw e (ap (option_map suc) (number-kept rs p q (sym (is_some-higher (number_of rs q)) ∙ later)))
]

-- a place that has no number gets the last one
pub number-last : (ps : List Ptr) (p : Ptr) → number_of ps p ≡ None → number_of (ps ++ p ∷ []) p ≡ Some (length ps)
number-last [] p h = rw (same_ptr-refl p) refl
number-last (r ∷ rs) p h = elim (cases_Bool (same_ptr r p)) [
  | inl e ↦ let wrong : Some 0 ≡ None = rw e at h in absurd (none-some 0 (sym wrong))
  | inr e ↦
      let later : option_map suc (number_of rs p) ≡ None = rw e at h in
      rw e (ap (option_map suc) (number-last rs p (none-higher (number_of rs p) later)))
]

-- a place where no cell lies has no number
pub number-absent : {V : Type 0} (cells : List (Placed V)) (p : Ptr) → value_at cells p ≡ None → number_of (places_of cells) p ≡ None
number-absent [] p h = refl
number-absent (n ∷ ns) p h = elim (cases_Bool (same_ptr n.at p)) [
  | inl e ↦ let wrong : Some n.value ≡ None = rw e at h in absurd (none-some n.value (sym wrong))
  | inr e ↦ let later : value_at ns p ≡ None = rw e at h in rw e (ap (option_map suc) (number-absent ns p later))
]

-- the key of a place in a block is its number
pub key-number : (ps : List Ptr) (p : Ptr) → InBlock p → key_at ps p ≡ number_of ps p
key-number ps (block_ptr b o) within = refl
key-number ps null_ptr within = absurd within

-- only a place with a number has a key
pub number-key : (ps : List Ptr) (p : Ptr) (k : ℕ) → key_at ps p ≡ Some k → number_of ps p ≡ Some k
number-key ps (block_ptr b o) k h = h
number-key ps null_ptr k h = absurd (none-some k h)

-- a place with a key is that of a cell
pub leads-key : (ps : List Ptr) (p : Ptr) (k : ℕ) → key_at ps p ≡ Some k → IsMarked ps true p
leads-key ps p k h = rw h refl

-- where another cell comes last each pointer to a cell leads where it did
pub key-kept : (ps : List Ptr) (p q : Ptr) → IsSome (key_at ps q) → key_at (ps ++ p ∷ []) q ≡ key_at ps q
key-kept ps p (block_ptr b o) h = number-kept ps p (block_ptr b o) h
key-kept ps p null_ptr h = refl

-- so does each link
pub led-kept : (ps : List Ptr) (p q : Ptr) (mark : Bool) → IsMarked ps mark q → led_at (ps ++ p ∷ []) mark q ≡ led_at ps mark q
led-kept ps p q true h = key-kept ps p q h
led-kept ps p q false h = refl

-- and leads to a cell as it did
pub leads-kept : (ps : List Ptr) (p q : Ptr) (mark : Bool) → IsMarked ps mark q → IsMarked (ps ++ p ∷ []) mark q
leads-kept ps p q true h = rw (key-kept ps p q h) h
leads-kept ps p q false h = h

module _ {V : Type 0} where
  -- the cell of a number, which is found by its place and written there
  pub record Found (cells : List (Placed V)) (k : ℕ) (p : Ptr) : Type 0 where
    pub cell : Placed V
    pub is : slice_get cells k ≡ Some cell
    pub at : cell.at ≡ p
    pub value : value_at cells p ≡ Some cell.value
    pub set : (w : V) → set_at cells p w ≡ set cells k (placed cell.at w)

  -- one place further on
  found-later : (n : Placed V) {ns : List (Placed V)} {k : ℕ} {p : Ptr} → same_ptr n.at p ≡ false →
      ((i : ℕ) → number_of (places_of ns) p ≡ Some i → Found ns i p) → (o : Option ℕ) → number_of (places_of ns) p ≡ o →
      option_map suc o ≡ Some k → Found (n ∷ ns) k p
  found-later n {k} e rest None is h = absurd (none-some k h)
  found-later n {ns} {k} {p} e rest (Some i) is h =
      let r = rest i is in
      subst (λ j. Found (n ∷ ns) j p) (same_Some (suc i) k h) (
      record {
        cell = r.cell;
        is = r.is;
        at = r.at;
        value = rw e r.value;
        set = λ w. rw e (ap (λ ms. n ∷ ms) (r.set w));
      }
      )

  -- a place with a number has a cell
  pub found : (cells : List (Placed V)) (k : ℕ) (p : Ptr) → number_of (places_of cells) p ≡ Some k → Found cells k p
  found [] k p h = absurd (none-some k h)
  found (n ∷ ns) k p h = elim (cases_Bool (same_ptr n.at p)) [
    | inl e ↦
        let here : Some 0 ≡ Some k = rw e at h in
        subst (λ j. Found (n ∷ ns) j p) (same_Some 0 k here)
        (record { cell = n; is = refl; at = same_ptr_eq n.at p e; value = rw e refl; set = λ w. rw e refl })
    | inr e ↦
        let later : option_map suc (number_of (places_of ns) p) ≡ Some k = rw e at h in
        found-later n e (λ i is. found ns i p is) (number_of (places_of ns) p) refl later
  ]

-- the cell at the first of the places, and the places of the others
pub first_placed : {V : Type 0} (cells : List (Placed V)) (p : Ptr) (ps : List Ptr) → p ∷ ps ≡ places_of cells → IsSome (value_at cells p) ×
    (ps ≡ places_of (without_at cells p))
first_placed [] p ps h = absurd (none-some p (sym (ap (λ qs. slice_get qs 0) h)))
first_placed (n ∷ ns) p ps h =
    let first : p ≡ n.at = same_Some p n.at (ap (λ qs. slice_get qs 0) h) in
    let here : same_ptr n.at p ≡ true = rw first (same_ptr-refl n.at) in
    rw here (refl, ap (drop 1) h)

-- without places there are no cells
pub none_placed : {V : Type 0} (cells : List (Placed V)) → [] ≡ places_of cells → cells ≡ []
none_placed [] h = refl
none_placed (n ∷ ns) h = absurd (none-some n.at (ap (λ qs. slice_get qs 0) h))
