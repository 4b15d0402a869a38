-- Numbers read from the front of bytes, up to the end of the word.
use Rattle.dom_base.proofs.Std.{◌≡◌, ℕ, ◌+◌, ◌-◌, ◌≤◌, Bool, true, false, List, [], ◌∷◌, ◌++◌, length, get_or, take, drop, min, Option, Some, None, refl}
use Rattle.dom_base.proofs.Std.{sym, ap, ◌∙◌, arith, one-add, min_comm, drop-cons, and_from, ne_eqb, eq-eqb, le-leb, nat_tests, take-append-drop, take-take}
use Rattle.dom_base.proofs.Std.{take_min, take_rest, length-take, prefix_len-le-length, nat_le, ◌==◌, ◌&&◌, IfSome, Bor, list_all, prefix_len, take_while}
use Rattle.dom_base.proofs.Std.{bytes_eq, take_at, drop_at, is_in_range, digit_value, is_ascii_digit, is_ascii_graphic, digits_value_after}
use Rattle.dom_text.specs.Definitions.{is_positive, positive_of, number_of, numbered, next_as, begins_word, word_at, next_word, flag_found}
use Rattle.dom_text.proofs.NumberLaws.{bytes_eq-true, eq-bytes_eq}
use Rattle.dom_words.specs.Gives.{comes_next}
use Rattle.dom_text.proofs.WordLaws.{Passes, Stops, run, behind_run, run_complete, each_from, list_all_each, only_if_some, word_at_sound}
use Rattle.dom_words.proofs.Texts.{all_of_run}
use Rattle.dom_words.proofs.Digits.{read_on, digit_is}

-- where no byte of words stands in front, a word stops
stops_here : (bytes : List ℕ) → prefix_len is_ascii_graphic bytes ≡ 0 → Stops is_ascii_graphic bytes
stops_here [] h = tt
stops_here (b ∷ bytes) h = go (is_ascii_graphic b) refl
  where
    go : (t : Bool) → is_ascii_graphic b ≡ t → is_ascii_graphic b ≡ false
    go false e = e
    go true e = absurd (let more : prefix_len is_ascii_graphic (b ∷ bytes) ≡ 1 + prefix_len is_ascii_graphic bytes = rw e refl in omega (arith, h, more))

-- a word stands in front, where no byte of words comes behind it
pub word_in_front : (word rest : List ℕ) → list_all is_ascii_graphic word ≡ true → begins_word word ≡ true → prefix_len is_ascii_graphic rest ≡ 0
    → word_at (word ++ rest) ≡ Some (word, rest)
word_in_front word rest graphic begins stops =
    let c = run_complete is_ascii_graphic word rest (list_all_each is_ascii_graphic word graphic) (stops_here rest stops) in
    rw (c.0, c.1, begins) refl

-- no byte of words stands in front of what is behind them
behind_stops : (bytes : List ℕ) → prefix_len is_ascii_graphic (drop (prefix_len is_ascii_graphic bytes) bytes) ≡ 0
behind_stops [] = refl
behind_stops (b ∷ bytes) = go (is_ascii_graphic b) refl (behind_stops bytes)
  where
    go : (t : Bool) → is_ascii_graphic b ≡ t → prefix_len is_ascii_graphic (drop (prefix_len is_ascii_graphic bytes) bytes) ≡ 0 →
        prefix_len is_ascii_graphic (drop (prefix_len is_ascii_graphic (b ∷ bytes)) (b ∷ bytes)) ≡ 0
    go true e rest = rw (e, one-add) rest
    go false e rest = rw (e, e) refl

-- a word that is read stands in front, and no byte of words comes behind it
pub read_in_front : (word bytes rest : List ℕ) → word_at bytes ≡ Some (word, rest) →
    (take (length word) bytes ≡ word) × (prefix_len is_ascii_graphic (drop (length word) bytes) ≡ 0)
read_in_front word bytes rest read =
    let said = only_if_some (begins_word (run is_ascii_graphic bytes)) (run is_ascii_graphic bytes, behind_run is_ascii_graphic bytes) (word, rest) read in
    let whole = (word_at_sound bytes word rest read).1 in
    let behind : drop (length word) bytes ≡ rest = ap (drop (length word)) whole ∙ drop_at word rest (length word) refl in (
      ap (take (length word)) whole ∙ take_at word rest (length word) refl,
      ap (prefix_len is_ascii_graphic) (behind ∙ sym (ap (λ (x : List ℕ × List ℕ). x.1) said.1)) ∙ behind_stops bytes,
    )

-- a word that is read comes next
pub next-read : (word bytes : List ℕ) {rest : List ℕ} → next_word bytes ≡ Some (word, rest) → comes_next word bytes ≡ true
unfolding comes_next
next-read word bytes {rest} read = ap (λ (found : Option (List ℕ × List ℕ)). (flag_found word bytes found).0) read ∙ same (eq-bytes_eq word)
  where
    same : bytes_eq word word ≡ true → (flag_found word bytes (Some (word, rest))).0 ≡ true
    same e = rw e refl

-- a word that cannot be read does not
pub not_next-read : (word bytes : List ℕ) → ((rest : List ℕ) → next_word bytes ≡ Some (word, rest) → ⊥) → comes_next word bytes ≡ false
unfolding comes_next
not_next-read word bytes never = by (next_word bytes) never
  where
    by : (found : Option (List ℕ × List ℕ)) → ((rest : List ℕ) → found ≡ Some (word, rest) → ⊥) → (flag_found word bytes found).0 ≡ false
    by None never = refl
    by (Some found) never = test (bytes_eq found.0 word) refl
      where
        test : (b : Bool) → bytes_eq found.0 word ≡ b → (flag_found word bytes (Some found)).0 ≡ false
        test false e = rw e refl
        test true e = absurd (never found.1 (ap (λ (w : List ℕ). Some (w, found.1)) (bytes_eq-true found.0 word e)))

-- a digit is a byte of words
digit_graphic : (b : ℕ) → is_ascii_digit b ≡ true → is_ascii_graphic b ≡ true
digit_graphic b h = grind (arith, nat_tests)

-- a digit from 1 to 9 is a digit
leading_digit : (b : ℕ) → is_in_range 49 57 b ≡ true → is_ascii_digit b ≡ true
leading_digit b h = grind (arith, nat_tests)

-- a digit from 1 to 9 with at most eight digits behind it says a number
positive_is : (d : ℕ) (digits : List ℕ) → is_in_range 49 57 d ≡ true → list_all is_ascii_digit digits ≡ true → length digits ≤ 8 →
    positive_of (d ∷ digits) ≡ Some (digits_value_after 10 (d - 48) digits)
positive_is d digits first others few =
    let test : is_positive (d ∷ digits) ≡ true =
    and_from (is_in_range 49 57 d) (list_all is_ascii_digit digits && nat_le (length digits) 8) first
    (and_from (list_all is_ascii_digit digits) (nat_le (length digits) 8) others (le-leb (length digits) 8 few)) in
    let value : 0 + digit_value d ≡ d - 48 = omega (arith, (digit_is d (leading_digit d first)).2) in
    rw test (ap (λ (v : ℕ). Some (digits_value_after 10 v digits)) value)

-- what stands in front, up to the end of the word
pub positive_front : (d : ℕ) (others : List ℕ) → is_in_range 49 57 d ≡ true →
    prefix_len is_ascii_graphic (drop (prefix_len is_ascii_digit (take 8 others)) others) ≡ 0 →
    (positive_of (take_while is_ascii_graphic (d ∷ others)) ≡ Some (read_on (d - 48) (take 8 others))) ×
    (drop (prefix_len is_ascii_graphic (d ∷ others)) (d ∷ others) ≡ drop (prefix_len is_ascii_digit (take 8 others)) others)
positive_front d others first stops =
    let n = prefix_len is_ascii_digit (take 8 others) in
    let few : n ≤ 8 = omega (arith, prefix_len-le-length is_ascii_digit (take 8 others), length-take 8 others) in
    let front : take n (take 8 others) ≡ take n others = take-take n 8 others few in
    let digits : list_all is_ascii_digit (take n others) ≡ true = rw front at (all_of_run is_ascii_digit (take 8 others)) in
    let whole : take n others ++ drop n others ≡ others = take-append-drop n others in
    let passes : Passes is_ascii_graphic (d ∷ take n others) = (
      digit_graphic d (leading_digit d first),
      each_from digit_graphic (take n others) (list_all_each is_ascii_digit (take n others) digits),
    ) in
    let c = run_complete is_ascii_graphic (d ∷ take n others) (drop n others) passes (stops_here (drop n others) stops) in
    let short : length (take n others) ≤ 8 = omega (arith, length-take n others, few) in (
      ap (λ (bytes : List ℕ). positive_of (take_while is_ascii_graphic (d ∷ bytes))) (sym whole) ∙ ap positive_of c.0 ∙
          positive_is d (take n others) first digits short ∙ ap (λ (ds : List ℕ). Some (digits_value_after 10 (d - 48) ds)) (sym front),
      ap (λ (bytes : List ℕ). drop (prefix_len is_ascii_graphic (d ∷ bytes)) (d ∷ bytes)) (sym whole) ∙ c.1,
    )

-- Bytes that begin with such a digit, as the code takes them apart: the others, how many of them are looked at, how many of those
-- are digits, and that a word stops behind these.
pub record Front (bytes others : List ℕ) (m n : ℕ) : Type 0 where
  pub behind : others ≡ take (length bytes - 1) (drop 1 bytes)
  pub some : 1 ≤ length bytes
  pub first : is_in_range 49 57 (get_or bytes 0 0) ≡ true
  pub looked_at : m ≡ min (length others) 8
  pub digits : n ≡ prefix_len is_ascii_digit (take m others)
  pub stops : prefix_len is_ascii_graphic (take (length others - n) (drop n others)) ≡ 0

-- what is read of them
pub read_front : {bytes others : List ℕ} {m n : ℕ} → Front bytes others m n →
    (positive_of (take_while is_ascii_graphic bytes) ≡ Some (read_on (get_or bytes 0 0 - 48) (take m others))) ×
    (drop (prefix_len is_ascii_graphic bytes) bytes ≡ take (length others - n) (drop n others))
read_front {bytes = bytes} {others = others} {m = m} {n = n} f =
    let d = get_or bytes 0 0 in
    let whole : bytes ≡ d ∷ others = drop-cons bytes 0 0 (omega (arith, f.some)) ∙ ap (λ (xs : List ℕ). d ∷ xs) (sym (f.behind ∙ take_rest bytes 1)) in
    let few : take m others ≡ take 8 others = ap (λ (k : ℕ). take k others) (f.looked_at ∙ min_comm (length others) 8) ∙ take_min 8 others in
    let counted : n ≡ prefix_len is_ascii_digit (take 8 others) = f.digits ∙ ap (prefix_len is_ascii_digit) few in
    let rest : take (length others - n) (drop n others) ≡ drop (prefix_len is_ascii_digit (take 8 others)) others =
    take_rest others n ∙ ap (λ (k : ℕ). drop k others) counted in
    let front = positive_front d others f.first (ap (prefix_len is_ascii_graphic) (sym rest) ∙ f.stops) in (
      ap (λ (xs : List ℕ). positive_of (take_while is_ascii_graphic xs)) whole ∙ front.0 ∙ ap (λ (xs : List ℕ). Some (read_on (d - 48) xs)) (sym few),
      ap (λ (xs : List ℕ). drop (prefix_len is_ascii_graphic xs) xs) whole ∙ front.1 ∙ sym rest,
    )

-- a number behind a letter
read_lettered : {n : ℕ} {rest : List ℕ} (letter : ℕ) (text : List ℕ) → 97 ≤ letter → letter ≤ 122 → number_of (take_while is_ascii_graphic text) ≡ Some n →
    drop (prefix_len is_ascii_graphic text) text ≡ rest → next_as (numbered letter) (32 ∷ letter ∷ text) ≡ Some (n, rest)
read_lettered {n = n} letter text low high number behind =
    let graphic : is_ascii_graphic letter ≡ true = grind (arith, nat_tests) in
    let unquoted : (letter == 34) ≡ false = ne_eqb letter 34 (λ e. omega (arith, e)) in
    rw (graphic, one-add, unquoted, eq-eqb letter letter refl, number) (ap (λ (bytes : List ℕ). Some (n, bytes)) behind)

-- bytes that begin with a space and a letter
begun : (bytes : List ℕ) (letter : ℕ) → 2 ≤ length bytes → get_or bytes 0 0 ≡ 32 → get_or bytes 1 0 ≡ letter →
    bytes ≡ 32 ∷ letter ∷ take (length bytes - 2) (drop 2 bytes)
begun bytes letter two space first =
    drop-cons bytes 0 0 (omega (arith, two)) ∙ ap (λ (b : ℕ). b ∷ drop 1 bytes) space ∙
    ap (λ (xs : List ℕ). 32 ∷ xs) (drop-cons bytes 1 0 (omega (arith, two)) ∙ ap (λ (b : ℕ). b ∷ drop 2 bytes) first ∙
    ap (λ (xs : List ℕ). letter ∷ xs) (sym (take_rest bytes 2)))

-- the same, as the code takes the bytes apart, where a number is found
pub read_behind : {letter : ℕ} (bytes : List ℕ) (found : Option (ℕ × Bor (List ℕ))) → (97 ≤ letter) × (letter ≤ 122) →
    (2 ≤ length bytes) × (get_or bytes 0 0 ≡ 32) × (get_or bytes 1 0 ≡ letter) →
    IfSome found (λ x. number_of (take_while is_ascii_graphic (take (length bytes - 2) (drop 2 bytes))) ≡ Some x.0) →
    IfSome found (λ x. drop (prefix_len is_ascii_graphic (take (length bytes - 2) (drop 2 bytes))) (take (length bytes - 2) (drop 2 bytes)) ≡ x.1.now) →
    IfSome found (λ x. next_as (numbered letter) bytes ≡ Some (x.0, x.1.now))
read_behind bytes None range front number rest = tt
read_behind {letter = letter} bytes (Some x) range front number rest =
    ap (next_as (numbered letter)) (begun bytes letter front.0 front.1 front.2) ∙
    read_lettered letter (take (length bytes - 2) (drop 2 bytes)) range.0 range.1 number rest
