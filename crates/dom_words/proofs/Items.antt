-- A string without a backslash: its bytes up to the quote are its units.
use Rattle.dom_base.proofs.Std.{◌≡◌, ℕ, suc, ◌-◌, ◌≤◌, Bool, true, false, not, ◌&&◌, ◌==◌, cond, List, [], ◌∷◌, length, get_or, take, drop, Some}
use Rattle.dom_base.proofs.Std.{refl, sym, ap, ◌∙◌, arith, one-add, prefix_len, is_in_range, take_all}
use Rattle.dom_text.specs.Definitions.{between, escaped, closed, wrong, on, item, units_at, read_byte, with_unit}
use Rattle.dom_words.specs.Strings.{is_item}

-- an item is read as such
reads_item : (b : ℕ) → is_item b ≡ true → read_byte between b ≡ item b
reads_item b = go (b == 34) (b == 92) (is_in_range 0x20 0x7E b)
  where
    go : (q s r : Bool) → (not q && (not s && r)) ≡ true → cond q closed (cond s (on escaped) (cond r (item b) wrong)) ≡ item b
    go true s r h = absurd (cc)
    go false true r h = absurd (cc)
    go false false true h = refl
    go false false false h = absurd (cc)

-- the items in front, and the bytes behind the quote that follows them
items_closed : (bytes behind : List ℕ) → drop (prefix_len is_item bytes) bytes ≡ 34 ∷ behind →
    units_at between bytes ≡ Some (take (prefix_len is_item bytes) bytes, behind)
items_closed [] behind h = absurd (cc)
items_closed (b ∷ bytes) behind h = go (is_item b) refl (items_closed bytes behind)
  where
    go : (t : Bool) → is_item b ≡ t →
        (drop (prefix_len is_item bytes) bytes ≡ 34 ∷ behind → units_at between bytes ≡ Some (take (prefix_len is_item bytes) bytes, behind)) →
        units_at between (b ∷ bytes) ≡ Some (take (prefix_len is_item (b ∷ bytes)) (b ∷ bytes), behind)
    go true e more =
        let count : prefix_len is_item (b ∷ bytes) ≡ suc (prefix_len is_item bytes) = rw e (one-add (prefix_len is_item bytes)) in
        let rest : drop (prefix_len is_item bytes) bytes ≡ 34 ∷ behind = ap (λ n. drop n (b ∷ bytes)) (sym count) ∙ h in
        rw (count, reads_item b e) (ap (with_unit b) (more rest))
    go false e more =
        let count : prefix_len is_item (b ∷ bytes) ≡ 0 = rw e refl in
        let quote : b ∷ bytes ≡ 34 ∷ behind = ap (λ n. drop n (b ∷ bytes)) (sym count) ∙ h in
        rw count (ap (units_at between) quote)

-- the same of bytes as they are taken apart: the units, and the rest, which a quote begins
pub items_read : {units : List ℕ} (bytes rest : List ℕ) → units ≡ take (prefix_len is_item bytes) bytes → rest ≡ drop (prefix_len is_item bytes) bytes →
    1 ≤ length rest → get_or rest 0 0 ≡ 34 → units_at between bytes ≡ Some (units, take (length rest - 1) (drop 1 rest))
items_read bytes [] front back some quote = absurd (omega arith)
items_read {units = units} bytes (b ∷ behind) front back some quote =
    let all : take (length (b ∷ behind) - 1) behind ≡ behind = take_all (length (b ∷ behind) - 1) behind (omega arith) in
    items_closed bytes behind (sym back ∙ ap (λ x. x ∷ behind) quote)
    ∙ ap (λ (u : List ℕ). Some (u, behind)) (sym front) ∙ ap (λ (r : List ℕ). Some (units, r)) (sym all)
