-- Names are ASCII, and so bytes of words.
use Rattle.dom_base.proofs.Std.{◌≡◌, ℕ, true, List, [], ◌∷◌, refl, arith, ◌||◌, ◌==◌, list_all, is_ascii_graphic, and_parts, and_from, or_left, nat_tests}
use Rattle.dom_model.proofs.Model.{begins_name, continues_name, is_digit, is_name}

-- the bytes of a name are bytes of words
graphic_letter : (b : ℕ) → continues_name b ≡ true → is_ascii_graphic b ≡ true
graphic_letter b h = grind (arith, nat_tests)

-- the bytes behind the first byte of a name are bytes of words
graphic_rest : (bytes : List ℕ) → list_all continues_name bytes ≡ true → list_all is_ascii_graphic bytes ≡ true
graphic_rest [] h = refl
graphic_rest (b ∷ bytes) h =
    let both = and_parts (continues_name b) (list_all continues_name bytes) h in
    and_from (is_ascii_graphic b) (list_all is_ascii_graphic bytes) (graphic_letter b both.0) (graphic_rest bytes both.1)

-- a name is bytes of words
pub graphic_name : (bytes : List ℕ) → is_name bytes ≡ true → list_all is_ascii_graphic bytes ≡ true
graphic_name [] h = refl
graphic_name (b ∷ bytes) h =
    let both = and_parts (begins_name b) (list_all continues_name bytes) h in
    and_from (is_ascii_graphic b) (list_all is_ascii_graphic bytes)
    (graphic_letter b (or_left (begins_name b || is_digit b) (b == 45) (or_left (begins_name b) (is_digit b) both.0)))
    (graphic_rest bytes both.1)
