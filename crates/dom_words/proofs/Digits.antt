-- Reading digits one after the other.
use Rattle.dom_base.proofs.Std.{◌≡◌, ℕ, ◌+◌, ◌-◌, ◌*◌, ◌^◌, ◌<◌, ◌≤◌, true, false, List, length, get_or, drop, refl, sym, ap, ◌∙◌, arith, add-one, one-add}
use Rattle.dom_base.proofs.Std.{drop_of_length-le, pow-le-pow_right, drop-cons, nat_tests, pow_more, prefix_len, take_while, digit_value, is_ascii_digit}
use Rattle.dom_base.proofs.Std.{digits_value_after}

-- the number with the digits in front of the bytes behind its own
abbrev pub read_on : ℕ → List ℕ → ℕ
read_on n bytes = digits_value_after 10 n (take_while is_ascii_digit bytes)

-- what a digit byte is worth
pub digit_is : (d : ℕ) → is_ascii_digit d ≡ true → (48 ≤ d) × (d ≤ 57) × (digit_value d ≡ d - 48)
digit_is d h = grind (arith, nat_tests)

-- a digit is read first
pub one_digit : (n i : ℕ) (digits : List ℕ) → i < length digits → is_ascii_digit (get_or digits i 0) ≡ true →
    read_on (n * 10 + (get_or digits i 0 - 48)) (drop (i + 1) digits) ≡ read_on n (drop i digits)
one_digit n i digits l h =
    let first : read_on n (drop i digits) ≡ read_on (n * 10 + digit_value (get_or digits i 0)) (drop (i + 1) digits) =
    rw (drop-cons digits i 0, h, one-add, add-one) refl in
    ap (λ (v : ℕ). read_on (n * 10 + v) (drop (i + 1) digits)) (sym (digit_is (get_or digits i 0) h).2) ∙ sym first

-- and counted
pub one_counted : (i : ℕ) (bytes : List ℕ) → i < length bytes → is_ascii_digit (get_or bytes i 0) ≡ true →
    prefix_len is_ascii_digit (drop i bytes) ≡ 1 + prefix_len is_ascii_digit (drop (i + 1) bytes)
one_counted i bytes l h = rw (drop-cons bytes i 0, h, add-one) refl

-- at another byte the number is read
pub no_digit : (n i : ℕ) (bytes : List ℕ) → i < length bytes → is_ascii_digit (get_or bytes i 0) ≡ false →
    (read_on n (drop i bytes) ≡ n) × (prefix_len is_ascii_digit (drop i bytes) ≡ 0)
no_digit n i bytes l h = (rw (drop-cons bytes i 0, h) refl, rw (drop-cons bytes i 0, h) refl)

-- and behind the last byte
pub no_more : (n i : ℕ) (bytes : List ℕ) → length bytes ≤ i → (read_on n (drop i bytes) ≡ n) × (prefix_len is_ascii_digit (drop i bytes) ≡ 0)
no_more n i bytes l = (rw (drop_of_length-le bytes l) refl, rw (drop_of_length-le bytes l) refl)

-- a number of up to eight digits, and of one more
pub few_digits : (i n d : ℕ) → i < 8 → n < 10 ^ (i + 1) → is_ascii_digit d ≡ true →
    (n < 10 ^ 8) × (48 ≤ d) × (d ≤ 57) × (n * 10 + (d - 48) < 10 ^ (i + 1 + 1))
few_digits i n d few h digit =
    let p : 10 ^ (i + 1) ≤ 10 ^ 8 = pow-le-pow_right {n = 10} (omega arith) {i = i + 1} {j = 8} (omega arith) in
    let v = digit_is d digit in
    (omega (arith, p), v.0, v.1, omega (arith, v.0, v.1, pow_more 10 (i + 1)))
