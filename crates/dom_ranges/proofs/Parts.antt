-- The ends that are listed in a part are moved, one after another.
use Rattle.dom_ranges.proofs.Cited.{◌≡◌, ◌≢◌, ◌⊎◌, inl, inr, ℕ, ◌+◌, ◌<◌, ◌≤◌, Bool, true, false, List, length, get_or, set, min, [], ◌∷◌, Option, Some, None}
use Rattle.dom_ranges.proofs.Cited.{ltb, leb, refl, sym, ap, ◌∙◌, subst, arith, true≢false, ◌&&◌, not, cases_Bool, cases_eq, leb-true, ltb-true, le-leb, lt-ltb}
use Rattle.dom_ranges.proofs.Cited.{option_map, get_or-set_same, get_or-set_other, length-set, IsPermutation-refl, same_Some, Slab, get, Boundary, end_in}
use Rattle.dom_ranges.proofs.Cited.{end_of, HasChanged, is_chosen, is_in, IsListed, IsMovedPart, point_of, Points, RangeEnd, Span, Stands}
use Rattle.dom_ranges.proofs.Gathering.{HasChanged-set}
use Rattle.dom_ranges.proofs.Listing.{IsPut, IsListed-put, end-same}

-- the part up to a place
abbrev pub up_to : ℕ → ℕ → Span
up_to first i = record { first = first; behind = i }

-- what is chosen
pub chosen-true : (part skipped : Span) (k : ℕ) → is_chosen part skipped k ≡ true → (part.first ≤ k) × (k < part.behind) × (is_in skipped k ≡ false)
chosen-true part skipped k e = by refl refl refl e
  where
    by : {a b c : Bool} → leb part.first k ≡ a → ltb k part.behind ≡ b → is_in skipped k ≡ c → (a && b) && not c ≡ true → (part.first ≤ k) ×
        (k < part.behind) × (is_in skipped k ≡ false)
    by {a = true} {b = true} {c = false} f g h i = (leb-true part.first k f, ltb-true k part.behind g, h)
    by {a = true} {b = true} {c = true} f g h i = cc
    by {a = true} {b = false} f g h i = cc
    by {a = false} f g h i = cc

pub chosen-made : (part skipped : Span) (k : ℕ) → part.first ≤ k → k < part.behind → is_in skipped k ≡ false → is_chosen part skipped k ≡ true
chosen-made part skipped k l m e = rw (le-leb part.first k l, lt-ltb k part.behind m, e) refl

-- a place outside a part
pub outside-part : (part : Span) (k : ℕ) → (k < part.first) ⊎ (part.behind ≤ k) → is_in part k ≡ false
outside-part part k p = by (is_in part k) refl
  where
    by : (b : Bool) → is_in part k ≡ b → is_in part k ≡ false
    by false e = e
    by true e = absurd (inside (leb part.first k) (ltb k part.behind) refl refl e)
      where
        inside : (a c : Bool) → leb part.first k ≡ a → ltb k part.behind ≡ c → a && c ≡ true → ⊥
        inside true true f g h = elim p [ inl l ↦ omega (arith, l, leb-true part.first k f) | inr l ↦ omega (arith, l, ltb-true k part.behind g) ]
        inside true false f g h = cc
        inside false c f g h = cc

module _ (rule : Boundary ℕ → Boundary ℕ) (target : ℕ) (es now : List RangeEnd) (first i : ℕ) (skipped : Span)
    (within : i < length es) (from : first ≤ i)
    (so_far : IsMovedPart rule target es now (is_chosen (up_to first i) skipped)) where
  -- a place that is chosen then was, or is this one
  earlier : (k : ℕ) → is_chosen (up_to first (i + 1)) skipped k ≡ true → k ≢ i → is_chosen (up_to first i) skipped k ≡ true
  earlier k e off = let w = chosen-true (up_to first (i + 1)) skipped k e in chosen-made (up_to first i) skipped k w.0 (omega (arith, w.1, off)) w.2

  later : (k : ℕ) → is_chosen (up_to first i) skipped k ≡ true → is_chosen (up_to first (i + 1)) skipped k ≡ true
  later k e = let w = chosen-true (up_to first i) skipped k e in chosen-made (up_to first (i + 1)) skipped k w.0 (omega (arith, w.1)) w.2

  not_yet : (k : ℕ) → is_chosen (up_to first (i + 1)) skipped k ≡ false → is_chosen (up_to first i) skipped k ≡ false
  not_yet k e = elim (cases_Bool (is_chosen (up_to first i) skipped k)) [ inl f ↦ absurd (true≢false (sym (later k f) ∙ e)) | inr f ↦ f ]

  -- this end is listed as it was
  pub here-still : (d : RangeEnd) → get_or now i d ≡ get_or es i d
  here-still d = so_far.same_others i d (elim (cases_Bool (is_chosen (up_to first i) skipped i))
      [ inl f ↦ absurd (let w = chosen-true (up_to first i) skipped i f in omega (arith, w.1)) | inr f ↦ f ])

  -- a place that is skipped
  pub IsMovedPart-skipped : is_in skipped i ≡ true → IsMovedPart rule target es now (is_chosen (up_to first (i + 1)) skipped)
  IsMovedPart-skipped here =
      record {
        same_length = so_far.same_length;
        same_slot = so_far.same_slot;
        same_end = so_far.same_end;
        same_others = λ k d e. so_far.same_others k d (not_yet k e);
        goes = so_far.goes;
        moved = λ k d l e. so_far.moved k d l
            (earlier k e (λ f. true≢false (sym here ∙ (ap (is_in skipped) (sym f) ∙ (chosen-true (up_to first (i + 1)) skipped k e).2))));
      }

  module _ (one : RangeEnd) (b : Boundary ℕ) (chosen : is_in skipped i ≡ false) (is_one : (d : RangeEnd) → get_or es i d ≡ one)
      (by_rule : b ≡ rule (point_of one)) (it_goes : (b.node ≡ one.node) ⊎ (b.node ≡ target)) where
    abbrev next : List RangeEnd
    next = set now i (end_in one.slot one.is_end b)

    -- what the list has at this place, and had
    has : (k : ℕ) (d : RangeEnd) → k ≡ i → get_or next k d ≡ end_in one.slot one.is_end b
    has k d e = ap (λ t. get_or next t d) e ∙ get_or-set_same now i (end_in one.slot one.is_end b) d (omega (arith, within, so_far.same_length))

    had : (k : ℕ) (d : RangeEnd) → k ≡ i → get_or es k d ≡ one
    had k d e = ap (λ t. get_or es t d) e ∙ is_one d

    elsewhere : (k : ℕ) (d : RangeEnd) → k ≢ i → get_or next k d ≡ get_or now k d
    elsewhere k d off = get_or-set_other now i k (end_in one.slot one.is_end b) d off

    pub IsMovedPart-more : IsMovedPart rule target es next (is_chosen (up_to first (i + 1)) skipped)
    IsMovedPart-more =
        record {
          same_length = length-set now i (end_in one.slot one.is_end b) ∙ so_far.same_length;
          same_slot = λ k d. elim (cases_eq k i) [
            | inl e ↦ ap (λ (x : RangeEnd). x.slot) (has k d e) ∙ sym (ap (λ (x : RangeEnd). x.slot) (had k d e))
            | inr off ↦ ap (λ (x : RangeEnd). x.slot) (elsewhere k d off) ∙ so_far.same_slot k d
          ];
          same_end = λ k d. elim (cases_eq k i) [
            | inl e ↦ ap (λ (x : RangeEnd). x.is_end) (has k d e) ∙ sym (ap (λ (x : RangeEnd). x.is_end) (had k d e))
            | inr off ↦ ap (λ (x : RangeEnd). x.is_end) (elsewhere k d off) ∙ so_far.same_end k d
          ];
          same_others = λ k d e. elim (cases_eq k i) [
            | inl f ↦ absurd (true≢false
                (sym (chosen-made (up_to first (i + 1)) skipped i from (omega arith) chosen) ∙
                (ap (is_chosen (up_to first (i + 1)) skipped) (sym f) ∙ e)))
            | inr off ↦ elsewhere k d off ∙ so_far.same_others k d (not_yet k e)
          ];
          goes = λ k d. elim (cases_eq k i) [
            | inl e ↦
                let here_node : (get_or next k d).node ≡ b.node = ap (λ (x : RangeEnd). x.node) (has k d e) in
                elim it_goes [
                  | inl f ↦ inl (here_node ∙ (f ∙ sym (ap (λ (x : RangeEnd). x.node) (had k d e))))
                  | inr f ↦ inr (here_node ∙ f)
                ]
            | inr off ↦
                let same : (get_or next k d).node ≡ (get_or now k d).node = ap (λ (x : RangeEnd). x.node) (elsewhere k d off) in
                elim (so_far.goes k d) [ inl f ↦ inl (same ∙ f) | inr f ↦ inr (same ∙ f) ]
          ];
          moved = λ k d l e. elim (cases_eq k i) [
            | inl f ↦ ap (λ (x : RangeEnd). point_of x) (has k d f) ∙ (by_rule ∙ ap (λ (x : RangeEnd). rule (point_of x)) (sym (had k d f)))
            | inr off ↦ ap (λ (x : RangeEnd). point_of x) (elsewhere k d off) ∙ so_far.moved k d l (earlier k e off)
          ];
        }

-- an end that was put is listed where it stands then
pub IsListed-set : {live after : Slab Points} {es : List RangeEnd} (i : ℕ) {one : RangeEnd} {b : Boundary ℕ} → IsListed live es → i < length es →
    ((d : RangeEnd) → get_or es i d ≡ one) → IsPut live after one.slot one.is_end b → IsListed after (set es i (end_in one.slot one.is_end b))
IsListed-set {live} {after} {es} i {one} {b} listed within is_one step =
    by (get live one.slot) refl (subst (Stands live) (is_one one) (listed.standing i one within))
  where
    by : (m : Option Points) → get live one.slot ≡ m → option_map (end_of one.is_end) m ≡ Some (point_of one) →
        IsListed after (set es i (end_in one.slot one.is_end b))
    by None e f = cc
    by (Some p) e f =
        let y = end_in one.slot one.is_end b in
        IsListed-put {p = p} listed e step
        (subst (λ (x : RangeEnd). HasChanged es (set es i y) (x ∷ []) (y ∷ []))
        (end-same one (end_in one.slot one.is_end (end_of one.is_end p)) refl refl (sym (same_Some _ _ f)))
        (HasChanged-set i within is_one (IsPermutation-refl (set es i y))))

-- a list in which one end changed, when no node had changed outside a part
module _ (es now next : List RangeEnd) (i first behind : ℕ) (elsewhere : (k : ℕ) (d : RangeEnd) → k ≢ i → get_or next k d ≡ get_or now k d)
    (nodes : (k : ℕ) (d : RangeEnd) → (k < first) ⊎ (behind ≤ k) → (get_or now k d).node ≡ (get_or es k d).node) where
  -- the part outside which no node changed, after one end more
  pub nodes-more : (least : ℕ) → least ≡ min first i → behind ≤ i → (k : ℕ) (d : RangeEnd) → (k < least) ⊎ (i + 1 ≤ k) →
      (get_or next k d).node ≡ (get_or es k d).node
  nodes-more least e up k d p = elim p [
    | inl l ↦ ap (λ (x : RangeEnd). x.node) (elsewhere k d (λ f. omega (arith, f, l, e))) ∙ nodes k d (inl (omega (arith, l, e)))
    | inr l ↦ ap (λ (x : RangeEnd). x.node) (elsewhere k d (λ f. omega (arith, f, l))) ∙ nodes k d (inr (omega (arith, l, up)))
  ]

  -- the same part, where the end's node did not change
  pub nodes-same : ((d : RangeEnd) → (get_or next i d).node ≡ (get_or now i d).node) → (k : ℕ) (d : RangeEnd) → (k < first) ⊎ (behind ≤ k) →
      (get_or next k d).node ≡ (get_or es k d).node
  nodes-same here k d p = elim (cases_eq k i) [
    | inl e ↦ ap (λ t. (get_or next t d).node) e ∙ (here d ∙ (ap (λ t. (get_or now t d).node) (sym e) ∙ nodes k d p))
    | inr off ↦ ap (λ (x : RangeEnd). x.node) (elsewhere k d off) ∙ nodes k d p
  ]
