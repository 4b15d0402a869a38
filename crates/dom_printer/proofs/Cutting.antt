-- A buffer that got more bytes than it keeps.
use Rattle.dom_base.proofs.Std.{◌≡◌, ℕ, ◌∷◌, [], ◌+◌, ◌-◌, ◌<◌, ◌≤◌, List, ◌++◌, length, take, drop, sym, ap, ◌∙◌, arith, length-append, append_assoc}
use Rattle.dom_base.proofs.Std.{length-drop, length-take-le, take-append-add, take-append-drop, take-append-le, take-append_seam}

-- nineteen spaces
abbrev pub spaces : List ℕ
spaces = 32 ∷ 32 ∷ 32 ∷ 32 ∷ 32 ∷ 32 ∷ 32 ∷ 32 ∷ 32 ∷ 32 ∷ 32 ∷ 32 ∷ 32 ∷ 32 ∷ 32 ∷ 32 ∷ 32 ∷ 32 ∷ 32 ∷ []

-- a line's end and spaces, behind a text, parted behind none or one of these bytes
pub parted : (text : List ℕ) (n : ℕ) → n ≤ 1 → text ++ (10 ∷ spaces) ≡ (text ++ take n (10 ∷ [])) ++ drop n (10 ∷ spaces)
parted text n few =
    let tail = 10 ∷ spaces in
    ap (λ (t : List ℕ). text ++ t) (sym (take-append-drop n tail)) ∙ sym (append_assoc text (take n tail) (drop n tail))
    ∙ ap (λ (t : List ℕ). (text ++ t) ++ drop n tail) (take-append-le n (10 ∷ []) spaces few)

-- so many bytes stand behind a place where no fewer were found
module _ (xs front more : List ℕ) (s k : ℕ) where
  pub reaches : 0 < k → drop s xs ≡ front ++ more → k ≤ length more → s + k ≤ length xs
  reaches some e enough =
      let f : length xs - s ≡ length front + length more = sym (length-drop s xs) ∙ ap length e ∙ length-append front more in
      omega arith

-- of so many bytes that were put, a text and some behind it, those behind it are cut off
module _ (old text more : List ℕ) (s k : ℕ) where
  pub cut : s + length text ≡ k → s ≤ length more → take (length (old ++ take k (text ++ more)) - s) (old ++ take k (text ++ more)) ≡ old ++ text
  cut is few =
      let put = take k (text ++ more) in
      let whole = length-append text more in
      let long : length put ≡ k = length-take-le k (text ++ more) (omega arith) in
      let both = length-append old put in
      let count : length (old ++ put) - s ≡ length old + length text = omega arith in
      let front : take (length text) put ≡ text =
      sym (take-append-le (length text) put (drop k (text ++ more)) (omega arith)) ∙ ap (take (length text)) (take-append-drop k (text ++ more))
      ∙ take-append_seam text more in
      ap (λ (n : ℕ). take n (old ++ put)) count ∙ take-append-add old put (length text) ∙ ap (λ (x : List ℕ). old ++ x) front

-- a text that begins with a head and a letter, behind which other bytes are found
pub headed : (head : List ℕ) (letter : ℕ) {xs ys : List ℕ} (front more : List ℕ) → xs ≡ head ++ letter ∷ ys → ys ≡ front ++ more
    → xs ≡ (head ++ letter ∷ front) ++ more
headed head letter front more e f = e ∙ ap (λ (t : List ℕ). head ++ letter ∷ t) f ∙ sym (append_assoc head (letter ∷ front) more)
