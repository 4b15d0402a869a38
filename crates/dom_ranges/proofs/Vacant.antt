-- A table without live ranges: no rule rewrites anything there. And what is held, by what is shown.
use Rattle.dom_ranges.proofs.Cited.{◌≡◌, ◌⊎◌, inl, inr, ℕ, zero, suc, Bool, true, false, cond, List, [], ◌∷◌, Option, Some, None, is_some, refl, sym, ap, ◌∙◌}
use Rattle.dom_ranges.proofs.Cited.{arith, count_by, slice_index_or, option_map, option_flatten, same_Some, none-some, sum_by-cons, Slab, get, slab_len, Owner}
use Rattle.dom_ranges.proofs.Cited.{Boundary, end_in, end_of, ends_by, HasEndAt, HaveNumbers, IsListed, IsListedAt, Numbers, Points, range_from, range_in}
use Rattle.dom_ranges.proofs.Cited.{range_kept, RangeEnd, RangeList, RangeLists, ranges_of}
use Rattle.dom_ranges.proofs.Writing.{Shows, range-standing}

-- no rule rewrites anything
pub ends-none : (f : Boundary ℕ → Boundary ℕ) (rs : RangeList) → ((k : ℕ) → range_in rs k ≡ None) → ends_by f rs ≡ rs
ends-none f [] none = refl
ends-none f (None ∷ rs) none = ap (λ zs. None ∷ zs) (ends-none f rs (λ k. none (suc k)))
ends-none f (Some r ∷ rs) none = let h = none 0 in cc

-- a slab without values holds none at a slot
none-counted : (ms : List (Option Points)) → count_by is_some ms ≡ 0 → (s : ℕ) → slice_index_or ms s None ≡ None
none-counted [] e s = refl
none-counted (None ∷ ms) e zero = refl
none-counted (None ∷ ms) e (suc s) = none-counted ms (let h = sum_by-cons (λ (m : Option Points). cond (is_some m) 1 0) None ms in omega (arith, h, e)) s
none-counted (Some p ∷ ms) e s = absurd (let h = sum_by-cons (λ (m : Option Points). cond (is_some m) 1 0) (Some p) ms in omega (arith, h, e))

pub none-kept : (live : Slab Points) → slab_len live ≡ 0 → (m : Option ℕ) → range_kept live m ≡ None
none-kept live e None = refl
none-kept live e (Some slot) = ap (option_map range_from) (none-counted live.slots e slot)

-- and the other way round
counted-none : (ms : List (Option Points)) → ((s : ℕ) → slice_index_or ms s None ≡ None) → count_by is_some ms ≡ 0
counted-none [] none = refl
counted-none (None ∷ ms) none =
    let h = sum_by-cons (λ (m : Option Points). cond (is_some m) 1 0) None ms in
    let rest = counted-none ms (λ s. none (suc s)) in
    omega (arith, h, rest)
counted-none (Some p ∷ ms) none = let h = none 0 in cc

-- where no range is shown, none is held
module _ (live : Slab Points) (n : Numbers) (v : RangeLists) (shows : Shows live n v) (held : HaveNumbers live n) where
  pub none-held : ((o : Owner) (k : ℕ) → range_in (ranges_of v o) k ≡ None) → slab_len live ≡ 0
  none-held none = counted-none live.slots (λ s. by s (get live s) refl)
    where
      by : (s : ℕ) (m : Option Points) → get live s ≡ m → m ≡ None
      by s None e = refl
      by s (Some p) e =
          let w = held.used s (ap is_some e) in
          absurd (none-some (range_from p) (sym (none w.0 w.1) ∙ ap option_flatten (range-standing live n v shows s w.1 w.0 p w.2 e)))

-- ---- an end that is listed

module _ (live : Slab Points) (n : Numbers) (v : RangeLists) (shows : Shows live n v) (held : HaveNumbers live n) where
  pub end-shown : (es : List RangeEnd) → IsListed live es → (b : Boundary ℕ) → IsListedAt es b → HasEndAt v b
  end-shown es listed b at_b =
      let d = end_in 0 false b in
      let e = slice_index_or es at_b.0 d in
      by e.slot e.is_end (get live e.slot) refl (listed.standing at_b.0 d at_b.1 ∙ ap Some (at_b.2 d))
    where
      by : (slot : ℕ) (is_end : Bool) (m : Option Points) → get live slot ≡ m → option_map (end_of is_end) (get live slot) ≡ Some b → HasEndAt v b
      by slot is_end None e f = absurd (none-some b (ap (option_map (end_of is_end)) (sym e) ∙ f))
      by slot is_end (Some p) e f =
          let w = held.used slot (ap is_some e) in
          let here = same_Some _ _ (ap (option_map (end_of is_end)) (sym e) ∙ f) in
          (w.0, w.1, range_from p, range-standing live n v shows slot w.1 w.0 p w.2 e, side is_end here)
        where
          side : (is_end' : Bool) → end_of is_end' p ≡ b → ((range_from p).start ≡ b) ⊎ ((range_from p).end ≡ b)
          side true h = inr h
          side false h = inl h
