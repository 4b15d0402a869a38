-- The ends of all ranges after two parts of their list were moved.
use Rattle.dom_ranges.proofs.Cited.{◌≡◌, ◌⊎◌, inl, inr, ℕ, ◌<◌, ◌≤◌, Bool, true, false, not, cond, ◌&&◌, List, length, get_or, min, max, Option, Some, None}
use Rattle.dom_ranges.proofs.Cited.{is_some, refl, sym, ap, ◌∙◌, subst, arith, option_map, ForSome, cases_Bool, cases_lt, same_Some, Slab, get, Boundary, at}
use Rattle.dom_ranges.proofs.Cited.{from_to, map_ends, AreAllIn, BothEnds, end_in, end_of, is_chosen, is_in, IsFirm, IsListed, IsMovedPart, IsSortedBeside}
use Rattle.dom_ranges.proofs.Cited.{IsSortedBut, IsSortedByPoint, KeepsOrder, KeepsOrderBut, point_at, point_of, Points, range_from, RangeEnd, Span}
use Rattle.dom_ranges.proofs.Listing.{is_end_of-true, counts-listed, times-same}
use Rattle.dom_ranges.proofs.Parts.{outside-part}

-- ranges with the same ends
pub both_same : (a b c d : Boundary ℕ) → a ≡ c → b ≡ d → from_to a b ≡ from_to c d
both_same a b c d e f = ap (λ x. from_to x b) e ∙ ap (from_to c) f

-- no place
abbrev pub nowhere : Span
nowhere = record { first = 0; behind = 0 }

-- ranges of which each end was moved
ranges_by_ends : (rule : Boundary ℕ → Boundary ℕ) (a b : Option Points) → is_some b ≡ is_some a →
    (is_some a ≡ true → (e : Bool) → option_map (end_of e) b ≡ option_map rule (option_map (end_of e) a))
    → option_map range_from b ≡ option_map (λ p. map_ends rule (range_from p)) a
ranges_by_ends rule None None e h = refl
ranges_by_ends rule None (Some q) e h = cc
ranges_by_ends rule (Some p) None e h = cc
ranges_by_ends rule (Some p) (Some q) e h =
    ap Some (both_same (end_of false q) (end_of true q) (rule (end_of false p)) (rule (end_of true p)) (let f = h refl false in cc)
    (let f = h refl true in cc))

-- what holds of both ends of a range that is held holds of each that is listed
pub holds-listed : (Q : Boundary ℕ → Type 0) {live : Slab Points} {es : List RangeEnd} → IsListed live es →
    ((slot : ℕ) → ForSome (get live slot) (λ p. BothEnds Q (range_from p)))
    → (k : ℕ) (d : RangeEnd) → k < length es → Q (point_of (get_or es k d))
holds-listed Q {live} {es} listed each k d l = by (get_or es k d).is_end (get live (get_or es k d).slot) (each (get_or es k d).slot) (listed.standing k d l)
  where
    by : (b : Bool) (m : Option Points) → ((p : Points) → m ≡ Some p → BothEnds Q (range_from p)) → option_map (end_of b) m ≡ Some (point_of (get_or es k d)) →
        Q (point_of (get_or es k d))
    by b None h e = cc
    by true (Some p) h e = subst Q (same_Some _ _ e) (h p refl).1
    by false (Some p) h e = subst Q (same_Some _ _ e) (h p refl).0

-- a list of which each end was moved by a rule
pub record AreRuled (rule : Boundary ℕ → Boundary ℕ) (es now : List RangeEnd) : Type 0 where
  pub same_length : length now ≡ length es
  pub same_slot : (k : ℕ) (d : RangeEnd) → (get_or now k d).slot ≡ (get_or es k d).slot
  pub same_end : (k : ℕ) (d : RangeEnd) → (get_or now k d).is_end ≡ (get_or es k d).is_end
  pub moved : (k : ℕ) (d : RangeEnd) → k < length es → point_of (get_or now k d) ≡ rule (point_of (get_or es k d))

-- one for true, each
bit_same : (a b : Bool) → cond {A = ℕ} a 1 0 ≡ cond b 1 0 → a ≡ b
bit_same true true e = refl
bit_same true false e = absurd (omega (arith, e))
bit_same false true e = absurd (omega (arith, e))
bit_same false false e = refl

-- all ranges were moved then
pub ranges-ruled : {rule : Boundary ℕ → Boundary ℕ} {start after : Slab Points} {es now : List RangeEnd} → IsListed start es → IsListed after now →
    AreRuled rule es now → (slot : ℕ) → option_map range_from (get after slot) ≡ option_map (λ p. map_ends rule (range_from p)) (get start slot)
ranges-ruled {rule} {start} {after} {es} {now} listed then ruled slot =
    ranges_by_ends rule (get start slot) (get after slot)
    (bit_same _ _ (sym (then.counted slot true) ∙ (times-same slot true es now ruled.same_length ruled.same_slot ruled.same_end ∙ listed.counted slot true)))
    (λ there b.
    let w = counts-listed slot b es (omega (arith, listed.counted slot b, ap {B = ℕ} (λ t. cond t 1 0) there)) in
    let d = end_in 0 false (record { node = 0; offset = 0 }) in
    let x = get_or es w.0 d in
    let y = get_or now w.0 d in
    let its = is_end_of-true slot b x (w.2 d) in
    let was : point_at start slot b ≡ Some (point_of x) =
    ap (λ s. point_at start s b) (sym its.0) ∙ (ap (λ t. point_at start x.slot t) (sym its.1) ∙ listed.standing w.0 d w.1) in
    let is : point_at after slot b ≡ Some (point_of y) =
    ap (λ s. point_at after s b) (sym (ruled.same_slot w.0 d ∙ its.0)) ∙
    (ap (λ t. point_at after y.slot t) (sym (ruled.same_end w.0 d ∙ its.1)) ∙ then.standing w.0 d (omega (arith, w.1, ruled.same_length))) in
    is ∙ (ap Some (ruled.moved w.0 d w.1) ∙ ap (option_map rule) (sym was)))

-- an end outside a part that was moved is listed as it was
pub stays-outside : {rule : Boundary ℕ → Boundary ℕ} {target : ℕ} {es now : List RangeEnd} (one : Span) →
    IsMovedPart rule target es now (is_chosen one nowhere)
    → (k : ℕ) (d : RangeEnd) → is_in one k ≡ false → get_or now k d ≡ get_or es k d
stays-outside one first k d out = first.same_others k d (rw out refl)

module _ (rule : Boundary ℕ → Boundary ℕ) (target : ℕ) (es now last : List RangeEnd) (one two : Span)
    (first : IsMovedPart rule target es now (is_chosen one nowhere)) (second : IsMovedPart rule target now last (is_chosen two one))
    (all : AreAllIn rule es one two) where
  -- what is chosen
  in_one : (k : ℕ) → is_in one k ≡ true → is_chosen one nowhere k ≡ true
  in_one k e = rw (e, outside-part nowhere k (inr (omega arith))) refl

  in_two : (k : ℕ) → is_in one k ≡ false → is_in two k ≡ true → is_chosen two one k ≡ true
  in_two k e f = rw (f, e) refl

  in_none : (k : ℕ) → is_in two k ≡ false → is_chosen two one k ≡ false
  in_none k e = rw e refl

  -- each end was moved
  pub ruled-both : AreRuled rule es last
  ruled-both =
      record {
        same_length = second.same_length ∙ first.same_length;
        same_slot = λ k d. second.same_slot k d ∙ first.same_slot k d;
        same_end = λ k d. second.same_end k d ∙ first.same_end k d;
        moved = λ k d l. elim (cases_Bool (is_in one k)) [
          | inl e ↦ ap (λ (x : RangeEnd). point_of x) (second.same_others k d (by (is_in two k) (is_in one k) e)) ∙ first.moved k d l (in_one k e)
          | inr e ↦ elim (cases_Bool (is_in two k)) [
            | inl f ↦ second.moved k d (omega (arith, l, first.same_length)) (in_two k e f) ∙
                ap (λ (x : RangeEnd). rule (point_of x)) (stays-outside one first k d e)
            | inr f ↦ ap (λ (x : RangeEnd). point_of x) (second.same_others k d (in_none k f) ∙ stays-outside one first k d e) ∙
                sym (all k d l e f)
          ]
        ];
      }
    where
      by : (b c : Bool) → c ≡ true → (b && not c) ≡ false
      by true true e = refl
      by false true e = refl
      by b false e = cc

  -- a rule that keeps the order keeps the list sorted
  pub IsSortedByPoint-kept : KeepsOrder rule → IsSortedByPoint es → IsSortedByPoint last
  IsSortedByPoint-kept keeps sorted i j d le l =
      let m : j < length es = omega (arith, l, ruled-both.same_length) in
      let x = get_or es i d in
      let y = get_or es j d in
      let first_is = ruled-both.moved i d (omega (arith, le, m)) in
      let second_is = ruled-both.moved j d m in
      let a = ap (λ (b : Boundary ℕ). b.node) first_is ∙ (keeps x.node x.offset x.offset (omega arith)).0 in
      let b = ap (λ (b : Boundary ℕ). b.node) second_is ∙ (keeps y.node y.offset y.offset (omega arith)).0 in
      let s = sorted i j d le m in (
        omega (arith, a, b, s.0),
        λ e. omega (
          arith,
          ap (λ (b : Boundary ℕ). b.offset) first_is,
          ap (λ (b : Boundary ℕ). b.offset) second_is,
          subst (λ n. (rule (at x.node x.offset)).offset ≤ (rule (at n y.offset)).offset) (sym a ∙ (e ∙ b))
              (keeps x.node x.offset y.offset (s.1 (sym a ∙ (e ∙ b)))).1,
        ),
      )

  module _ (others : KeepsOrderBut target rule) (sorted : IsSortedByPoint es) (here there : Span)
      (nodes_first : (k : ℕ) (d : RangeEnd) → (k < here.first) ⊎ (here.behind ≤ k) → (get_or now k d).node ≡ (get_or es k d).node)
      (nodes_second : (k : ℕ) (d : RangeEnd) → (k < there.first) ⊎ (there.behind ≤ k) → (get_or last k d).node ≡ (get_or now k d).node)
      (low high : ℕ) (is_low : low ≡ min here.first there.first) (is_high : high ≡ max here.behind there.behind) where
    -- an end that did not go to the target is at its node
    stays_firm : (k : ℕ) (d : RangeEnd) → IsFirm low high target k (get_or last k d) → (get_or last k d).node ≡ (get_or es k d).node
    stays_firm k d p = elim p [
      | inl l ↦ nodes_second k d (inl (omega (arith, l, is_low))) ∙ nodes_first k d (inl (omega (arith, l, is_low)))
      | inr q ↦ elim q [
        | inl l ↦ nodes_second k d (inr (omega (arith, l, is_high))) ∙ nodes_first k d (inr (omega (arith, l, is_high)))
        | inr off ↦ elim (second.goes k d) [
          | inr e ↦ absurd (off e)
          | inl e ↦ elim (first.goes k d) [ inr f ↦ absurd (off (e ∙ f)) | inl f ↦ e ∙ f ]
        ]
      ]
    ]

    pub IsSortedBeside-both : IsSortedBeside last low high target
    IsSortedBeside-both i j d le l p q =
        let m : j < length es = omega (arith, l, ruled-both.same_length) in
        let n : i < length es = omega (arith, le, m) in
        let a = stays_firm i d p in
        let b = stays_firm j d q in
        let s = sorted i j d le m in (
          omega (arith, a, b, s.0),
          λ e off.
              let x = get_or es i d in
              let y = get_or es j d in
              let same : x.node ≡ y.node = sym a ∙ (e ∙ b) in
              let first_is = ruled-both.moved i d n in
              let second_is = ruled-both.moved j d m in
              omega (
                arith,
                ap (λ (b : Boundary ℕ). b.offset) first_is,
                ap (λ (b : Boundary ℕ). b.offset) second_is,
                subst (λ n. (rule (at x.node x.offset)).offset ≤ (rule (at n y.offset)).offset) same
                    (others x.node x.offset y.offset (λ f. off (a ∙ f)) (s.1 same) (sym (ap (λ (b : Boundary ℕ). b.node) first_is) ∙ a)
                    (subst (λ n. (rule (at n y.offset)).node ≡ n) (sym same) (sym (ap (λ (b : Boundary ℕ). b.node) second_is) ∙ b))),
              ),
        )

    -- where none left its node the list is sorted still
    pub IsSortedBut-both : high ≤ low → IsSortedBut target last
    IsSortedBut-both none i j d le l = IsSortedBeside-both i j d le l (out i) (out j)
      where
        out : (k : ℕ) → IsFirm low high target k (get_or last k d)
        out k = elim (cases_lt k low) [ inl m ↦ inl m | inr m ↦ inr (inl (omega (arith, m, none))) ]
