-- The list of ends, each once, as ends come, go and change their nodes.
use Rattle.dom_ranges.proofs.Cited.{◌≡◌, ◌≢◌, ◌⊎◌, inl, inr, ℕ, zero, suc, ◌+◌, ◌<◌, ◌≤◌, Bool, true, false, cond, List, [], ◌∷◌, ◌++◌, length, get_or, ◌-◌}
use Rattle.dom_ranges.proofs.Cited.{Option, Some, None, is_some, IsSome, eqb, refl, sym, ap, ◌∙◌, subst, arith, true≢false, ◌&&◌, not, All, option_map}
use Rattle.dom_ranges.proofs.Cited.{IsPermutation, cases_Bool, cases_eq, cases_lt, eq-eqb, eqb-true, get_or-append_right, get_or_append_left, length-append}
use Rattle.dom_ranges.proofs.Cited.{sum_by-cons, sum_by-append, get_or-le-sum_by, IsPermutation-refl, IsPermutation-cons, IsPermutation-trans}
use Rattle.dom_ranges.proofs.Cited.{IsPermutation-append_comm, All-permutation, sum_by-IsPermutation, same_Some, Slab, get, Updates, Boundary, end_in, end_of}
use Rattle.dom_ranges.proofs.Cited.{HasChanged, is_end_of, IsListed, IsListedOnce, point_at, point_of, Points, RangeEnd, Stands, times, with_end_at}

-- one for true
abbrev bit : Bool → ℕ
bit b = cond b 1 0

-- one if a listed end is that end of a slot's range
abbrev pub one_if : ℕ → Bool → RangeEnd → ℕ
one_if slot is_end e = cond (is_end_of slot is_end e) 1 0

-- an end is itself
pub is_end_of-same : (e : RangeEnd) → is_end_of e.slot e.is_end e ≡ true
is_end_of-same e = by e.is_end refl
  where
    by : (b : Bool) → e.is_end ≡ b → is_end_of e.slot b e ≡ true
    by true f = rw (eq-eqb e.slot e.slot refl, f) refl
    by false f = rw (eq-eqb e.slot e.slot refl, f) refl

-- what the test says
pub is_end_of-true : (slot : ℕ) (is_end : Bool) (e : RangeEnd) → is_end_of slot is_end e ≡ true → (e.slot ≡ slot) × (e.is_end ≡ is_end)
is_end_of-true slot true e f = by (eqb e.slot slot) e.is_end refl refl f
  where
    by : (a b : Bool) → eqb e.slot slot ≡ a → e.is_end ≡ b → a && b ≡ true → (e.slot ≡ slot) × (e.is_end ≡ true)
    by true true g h i = (eqb-true e.slot slot g, h)
    by true false g h i = cc
    by false b g h i = cc
is_end_of-true slot false e f = by (eqb e.slot slot) e.is_end refl refl f
  where
    by : (a b : Bool) → eqb e.slot slot ≡ a → e.is_end ≡ b → a && not b ≡ true → (e.slot ≡ slot) × (e.is_end ≡ false)
    by true false g h i = (eqb-true e.slot slot g, h)
    by true true g h i = cc
    by false b g h i = cc

-- what is listed counts
pub listed-counts : (es : List RangeEnd) (k : ℕ) (d : RangeEnd) → k < length es → 1 ≤ times (get_or es k d).slot (get_or es k d).is_end es
listed-counts es k d l =
    let e = get_or es k d in
    let h = get_or-le-sum_by (one_if e.slot e.is_end) es k d l in
    omega (arith, h, ap bit (is_end_of-same e))

-- an end that is counted is listed
pub counts-listed : (slot : ℕ) (is_end : Bool) (es : List RangeEnd) → 1 ≤ times slot is_end es → (k : ℕ) × (k < length es) ×
    ((d : RangeEnd) → is_end_of slot is_end (get_or es k d) ≡ true)
counts-listed slot is_end [] l = absurd (omega (arith, l))
counts-listed slot is_end (e ∷ es) l = elim (cases_Bool (is_end_of slot is_end e)) [
  | inl f ↦ (0, omega arith, λ d. f)
  | inr f ↦
      let h = sum_by-cons (one_if slot is_end) e es in
      let w = counts-listed slot is_end es (omega (arith, l, h, ap bit f)) in
      (suc w.0, omega (arith, w.1), w.2)
]

module _ (live after : Slab Points) (es now xs ys : List RangeEnd) (listed : IsListed live es) (changed : HasChanged es now xs ys)
    (counts : (s : ℕ) (b : Bool) → times s b ys + cond (is_some (get live s)) 1 0 ≡ times s b xs + cond (is_some (get after s)) 1 0)
    (others : (s : ℕ) (b : Bool) → times s b xs ≡ 0 → (point_at after s b ≡ point_at live s b) ⊎ (get live s ≡ None)) (stands : All (Stands after) ys) where
  -- how often an end was listed
  was_times : (s : ℕ) (b : Bool) → times s b xs + times s b changed.rest ≡ cond (is_some (get live s)) 1 0
  was_times s b =
      sym (sum_by-append (one_if s b) xs changed.rest) ∙ (sum_by-IsPermutation (one_if s b) es (xs ++ changed.rest) changed.before ∙ listed.counted s b)

  -- what stays stands where it stood
  rest_stands : (k : ℕ) (d : RangeEnd) → k < length changed.rest → Stands after (get_or changed.rest k d)
  rest_stands k d l =
      let e = get_or changed.rest k d in
      let back = All-permutation (Stands live) es (xs ++ changed.rest) changed.before listed.standing in
      let stood : Stands live e =
      subst (Stands live) (get_or-append_right xs changed.rest (length xs) (length xs + k) d refl (omega arith) ∙
      ap (λ t. get_or changed.rest t d) (omega arith))
      (back (length xs + k) d (omega (arith, l, length-append xs changed.rest))) in
      let once = was_times e.slot e.is_end in
      let here = listed-counts changed.rest k d l in
      elim (others e.slot e.is_end (omega (arith, once, here, most (is_some (get live e.slot))))) [
        | inl f ↦ f ∙ stood
        | inr f ↦ absurd (omega (arith, once, here, ap (λ (t : Option Points). bit (is_some t)) f))
      ]
    where
      most : (b : Bool) → cond b 1 0 ≤ 1
      most true = omega arith
      most false = omega arith

  pub IsListed-changed : IsListed after now
  IsListed-changed =
      record {
        counted = λ s b. omega (
          arith,
          sum_by-IsPermutation (one_if s b) (ys ++ changed.rest) now changed.after,
          sum_by-append (one_if s b) ys
              changed.rest,
          was_times s b,
          counts s b,
        );
        standing = All-permutation (Stands after) (ys ++ changed.rest) now changed.after (λ k d l. elim (cases_lt k (length ys)) [
          | inl m ↦ subst (Stands after) (sym (get_or_append_left ys changed.rest d k m)) (stands k d m)
          | inr m ↦ subst (Stands after) (sym (get_or-append_right ys changed.rest (length ys) k d refl m))
              (rest_stands (k - length ys) d (omega (arith, l, m, length-append ys changed.rest)))
        ]);
      }

-- one end of a slot's range
module _ (slot : ℕ) where
  -- the test reads the slot and which end it is
  pub is_end_of-alike : (is_end : Bool) (x y : RangeEnd) → x.slot ≡ y.slot → x.is_end ≡ y.is_end → is_end_of slot is_end x ≡ is_end_of slot is_end y
  is_end_of-alike true x y g h = ap (λ n. eqb n slot && x.is_end) g ∙ ap (λ t. eqb y.slot slot && t) h
  is_end_of-alike false x y g h = ap (λ n. eqb n slot && not x.is_end) g ∙ ap (λ t. eqb y.slot slot && not t) h

  -- lists of the same ends
  pub times-same : (is_end : Bool) (xs ys : List RangeEnd) → length ys ≡ length xs →
      ((k : ℕ) (d : RangeEnd) → (get_or ys k d).slot ≡ (get_or xs k d).slot) →
      ((k : ℕ) (d : RangeEnd) → (get_or ys k d).is_end ≡ (get_or xs k d).is_end)
      → times slot is_end ys ≡ times slot is_end xs
  times-same is_end [] [] l e f = refl
  times-same is_end [] (y ∷ ys) l e f = absurd (omega (arith, l))
  times-same is_end (x ∷ xs) [] l e f = absurd (omega (arith, l))
  times-same is_end (x ∷ xs) (y ∷ ys) l e f =
      sum_by-cons (one_if slot is_end) y ys
      ∙ (ap (λ n. n + times slot is_end ys) (ap bit (is_end_of-alike is_end y x (e 0 x) (f 0 x)))
      ∙ (ap (λ n. one_if slot is_end x + n) (times-same is_end xs ys (omega (arith, l)) (λ k d. e (suc k) d) (λ k d. f (suc k) d)) ∙
      sym (sum_by-cons (one_if slot is_end) x xs)))

-- a list in another order
pub IsListed-permuted : (live : Slab Points) (es now : List RangeEnd) → IsListed live es → IsPermutation es now → IsListed live now
IsListed-permuted live es now listed moved =
    record {
      counted = λ s b. sum_by-IsPermutation (one_if s b) es now moved ∙ listed.counted s b;
      standing = All-permutation (Stands live) es now moved listed.standing;
    }

-- an end is its parts
pub end-same : (x y : RangeEnd) → x.slot ≡ y.slot → x.is_end ≡ y.is_end → point_of x ≡ point_of y → x ≡ y
end-same x y e f g = ap (λ b. end_in x.slot x.is_end b) g ∙ (ap (λ b. end_in x.slot b (point_of y)) f ∙ ap (λ s. end_in s y.is_end (point_of y)) e)

-- the end of a range that is there is listed once
pub listed-once : {live : Slab Points} {es : List RangeEnd} → IsListed live es → (slot : ℕ) (is_end : Bool) {p : Points} →
    get live slot ≡ Some p → IsListedOnce es (end_in slot is_end (end_of is_end p))
listed-once {live} {es} listed slot is_end {p} there =
    let w = counts-listed slot is_end es (omega (arith, listed.counted slot is_end, ap bit (ap is_some there))) in
    record {
      place = w.0;
      within = w.1;
      there = λ d. let f = is_end_of-true slot is_end (get_or es w.0 d) (w.2 d) in it w.0 d w.1 f.0 f.1;
      alone = λ k d l e f. it k d l e f;
    }
  where
    it : (k : ℕ) (d : RangeEnd) → k < length es → (get_or es k d).slot ≡ slot → (get_or es k d).is_end ≡ is_end →
        get_or es k d ≡ end_in slot is_end (end_of is_end p)
    it k d l e f =
        end-same (get_or es k d) (end_in slot is_end (end_of is_end p)) e f
        (same_Some _ _ (sym (listed.standing k d l) ∙ (ap (λ s. point_at live s (get_or es k d).is_end) e
        ∙ (ap (λ t. point_at live slot t) f ∙ ap (option_map (end_of is_end)) there))))

-- a range of which first the start and then the end was put
pub both-put : (m : Option Points) (p : Points) → IsSome m →
    option_map (with_end_at true p.end.0 p.end.1) (option_map (with_end_at false p.start.0 p.start.1) m) ≡ Some p
both-put None p i = absurd (true≢false (sym i))
both-put (Some q) p i = refl

-- one end of a slot's range is put at a boundary point, and the other slots stay
pub record IsPut (live after : Slab Points) (slot : ℕ) (is_end : Bool) (b : Boundary ℕ) : Type 0 where
  pub put : get after slot ≡ option_map (with_end_at is_end b.node b.offset) (get live slot)
  pub others : (s : ℕ) → s ≢ slot → get after s ≡ get live s

-- one end of a range was put
pub IsListed-put : {live after : Slab Points} {es now : List RangeEnd} {slot : ℕ} {is_end : Bool} {b : Boundary ℕ} {p : Points} → IsListed live es →
    get live slot ≡ Some p → IsPut live after slot is_end b →
    HasChanged es now (end_in slot is_end (end_of is_end p) ∷ []) (end_in slot is_end b ∷ []) → IsListed after now
IsListed-put {live} {after} {es} {now} {slot} {is_end} {b} {p} listed there step changed =
    IsListed-changed live after es now (end_in slot is_end (end_of is_end p) ∷ []) (end_in slot is_end b ∷ []) listed changed counts points stands
  where
    here : get after slot ≡ Some (with_end_at is_end b.node b.offset p)
    here = step.put ∙ ap (option_map (with_end_at is_end b.node b.offset)) there

    held : (s : ℕ) → is_some (get after s) ≡ is_some (get live s)
    held s = elim (cases_eq s slot) [
      | inl e ↦ ap (λ t. is_some (get after t)) e ∙
          (ap is_some here ∙ (sym (ap is_some there) ∙ ap (λ t. is_some (get live t)) (sym e)))
      | inr off ↦ ap is_some (step.others s off)
    ]

    counts : (s : ℕ) (e : Bool) → times s e (end_in slot is_end b ∷ []) + cond (is_some (get live s)) 1 0 ≡ times s e
        (end_in slot is_end (end_of is_end p) ∷ []) + cond (is_some (get after s)) 1 0
    counts s e =
        ap {B = ℕ} (λ t. 0 + cond t 1 0 + cond (is_some (get live s)) 1 0)
        (is_end_of-alike s e (end_in slot is_end b) (end_in slot is_end (end_of is_end p)) refl refl)
        ∙ ap {B = ℕ} (λ t. times s e (end_in slot is_end (end_of is_end p) ∷ []) + cond t 1 0) (sym (held s))

    same_ends : (e c : Bool) (q : Points) → e ≢ c → end_of e (with_end_at c b.node b.offset q) ≡ end_of e q
    same_ends true true q off = absurd (off refl)
    same_ends true false q off = refl
    same_ends false true q off = refl
    same_ends false false q off = absurd (off refl)

    points : (s : ℕ) (e : Bool) → times s e (end_in slot is_end (end_of is_end p) ∷ []) ≡ 0 → (point_at after s e ≡ point_at live s e) ⊎
        (get live s ≡ None)
    points s e none = elim (cases_eq s slot) [
      | inr off ↦ inl (ap (option_map (end_of e)) (step.others s off))
      | inl same ↦
          let apart : (e ≡ is_end → ⊥) =
          λ f. one_not_none (is_end_of s e (end_in slot is_end (end_of is_end p))) none
          (ap (λ t. is_end_of t e (end_in slot is_end (end_of is_end p))) same ∙
          (ap (λ (t : Bool). is_end_of slot t (end_in slot is_end (end_of is_end p))) f ∙
          is_end_of-same (end_in slot is_end (end_of is_end p)))) in
          inl (ap (λ t. point_at after t e) same ∙
          (ap (option_map (end_of e)) here ∙
          (ap Some (same_ends e is_end p apart) ∙ (sym (ap (option_map (end_of e)) there) ∙ ap (λ t. point_at live t e) (sym same)))))
    ]
      where
        one_not_none : (t : Bool) → 0 + cond t 1 0 ≡ 0 → t ≡ true → ⊥
        one_not_none true n f = omega (arith, n)
        one_not_none false n f = true≢false (sym f)

    put_point : (c : Bool) (q : Points) → end_of c (with_end_at c b.node b.offset q) ≡ b
    put_point true q = refl
    put_point false q = refl

    stands : All (Stands after) (end_in slot is_end b ∷ [])
    stands zero d l = ap (option_map (end_of is_end)) here ∙ ap Some (put_point is_end p)
    stands (suc k) d l = absurd (omega (arith, l))

-- both ends of a slot's range are listed once
pair-times : (slot s : ℕ) (n m : Boundary ℕ) (t : Bool) → times s t (end_in slot false n ∷ end_in slot true m ∷ []) ≡ cond (eqb slot s) 1 0
pair-times slot s n m true = by (eqb slot s)
  where
    by : (e : Bool) → 0 + cond (e && false) 1 0 + cond (e && true) 1 0 ≡ cond e 1 0
    by true = refl
    by false = refl
pair-times slot s n m false = by (eqb slot s)
  where
    by : (e : Bool) → 0 + cond (e && not false) 1 0 + cond (e && not true) 1 0 ≡ cond e 1 0
    by true = refl
    by false = refl

-- another slot
other-slot : (slot s : ℕ) → s ≢ slot → eqb slot s ≡ false
other-slot slot s off = elim (cases_Bool (eqb slot s)) [ inl e ↦ absurd (off (sym (eqb-true slot s e))) | inr e ↦ e ]

-- a range's start is taken out of the list
module _ (live : Slab Points) (es mid : List RangeEnd) (slot : ℕ) (n m : Boundary ℕ) (listed : IsListed live es) (there : is_some (get live slot) ≡ true)
    (one : IsPermutation es (end_in slot false n ∷ mid)) where
  -- the other end of the range is still listed
  pub listed-once-rest : IsListedOnce es (end_in slot true m) → IsListedOnce mid (end_in slot true m)
  listed-once-rest once =
      let w = counts-listed slot true mid (omega (
        arith,
        sum_by-IsPermutation (one_if slot true) es (end_in slot false n ∷ mid) one,
        sum_by-cons (one_if slot true)
            (end_in slot false n) mid,
        listed.counted slot true,
        ap bit there,
        ap bit (first (eqb slot slot)),
      )) in
      record {
        place = w.0;
        within = w.1;
        there = λ d. let f = is_end_of-true slot true (get_or mid w.0 d) (w.2 d) in apart w.0 d w.1 f.0 f.1;
        alone = apart;
      }
    where
      first : (e : Bool) → e && false ≡ false
      first true = refl
      first false = refl

      apart : (k : ℕ) (d : RangeEnd) → k < length mid → (get_or mid k d).slot ≡ slot → (get_or mid k d).is_end ≡ true → get_or mid k d ≡ end_in slot true m
      apart k d l = All-permutation (λ (x : RangeEnd). x.slot ≡ slot → x.is_end ≡ true → x ≡ end_in slot true m) es (end_in slot false n ∷ mid) one
          once.alone (suc k) d (omega (arith, l))

  -- the list after the range was dropped
  pub IsListed-dropped : (after : Slab Points) (now : List RangeEnd) → Updates live after slot None → IsPermutation mid (end_in slot true m ∷ now) →
      IsListed after now
  IsListed-dropped after now u two =
      IsListed-changed live after es now (end_in slot false n ∷ end_in slot true m ∷ []) [] listed
      (record {
        rest = now;
        before = IsPermutation-trans _ _ _ one (IsPermutation-cons (end_in slot false n) mid (end_in slot true m ∷ now) two);
        after = IsPermutation-refl now;
      })
      (λ s b. elim (cases_eq s slot) [
        | inl e ↦ omega (
          arith,
          pair-times slot s n m b,
          ap bit (eq-eqb slot s (sym e)),
          ap bit (ap (λ t. is_some (get live t)) e ∙ there),
          ap bit
              (ap (λ t. is_some (get after t)) e ∙ ap is_some u.changed),
        )
        | inr off ↦ omega (arith, pair-times slot s n m b, ap bit (other-slot slot s off), ap bit (ap is_some (u.others s off)))
      ])
      (λ s b none. elim (cases_eq s slot) [
        | inl e ↦ absurd (omega (arith, none, pair-times slot s n m b, ap bit (eq-eqb slot s (sym e))))
        | inr off ↦ inl (ap (option_map (end_of b)) (u.others s off))
      ])
      (λ k d l. absurd (omega (arith, l)))

-- the list after a range came
pub IsListed-added : {live after : Slab Points} {es now : List RangeEnd} {slot : ℕ} {at_first : Boundary ℕ} {p : Points} → IsListed live es →
    get live slot ≡ None → Updates live after slot (Some p) → end_of false p ≡ at_first → end_of true p ≡ at_first
    → IsPermutation (es ++ end_in slot false at_first ∷ end_in slot true at_first ∷ []) now → IsListed after now
IsListed-added {live} {after} {es} {now} {slot} {at_first} {p} listed free u start end moved =
    IsListed-changed live after es now [] (end_in slot false at_first ∷ end_in slot true at_first ∷ []) listed
    (record {
      rest = es;
      before = IsPermutation-refl es;
      after = IsPermutation-trans _ _ _ (IsPermutation-append_comm (end_in slot false at_first ∷ end_in slot true at_first ∷ []) es) moved;
    })
    (λ s b. elim (cases_eq s slot) [
      | inl e ↦ omega (
        arith,
        pair-times slot s at_first at_first b,
        ap bit (eq-eqb slot s (sym e)),
        ap bit
            (ap (λ t. is_some (get live t)) e ∙ ap is_some free),
        ap bit (ap (λ t. is_some (get after t)) e ∙ ap is_some u.changed),
      )
      | inr off ↦ omega (arith, pair-times slot s at_first at_first b, ap bit (other-slot slot s off), ap bit (ap is_some (u.others s off)))
    ])
    (λ s b none. elim (cases_eq s slot) [
      | inl e ↦ inr (ap (get live) e ∙ free)
      | inr off ↦ inl (ap (option_map (end_of b)) (u.others s off))
    ])
    stands
  where
    stands : All (Stands after) (end_in slot false at_first ∷ end_in slot true at_first ∷ [])
    stands zero d l = ap (option_map (end_of false)) u.changed ∙ ap Some start
    stands (suc zero) d l = ap (option_map (end_of true)) u.changed ∙ ap Some end
    stands (suc (suc k)) d l = absurd (omega (arith, l))

-- slots that hold the same
pub IsListed-same : (live after : Slab Points) (es : List RangeEnd) → ((s : ℕ) → get after s ≡ get live s) → IsListed live es → IsListed after es
IsListed-same live after es same listed =
    record {
      counted = λ s b. listed.counted s b ∙ ap bit (ap is_some (sym (same s)));
      standing = λ k d l. ap (option_map (end_of (get_or es k d).is_end)) (same (get_or es k d).slot) ∙ listed.standing k d l;
    }
