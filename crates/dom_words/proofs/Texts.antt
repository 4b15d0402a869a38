-- Words are ASCII, and so texts.
use Rattle.dom_base.proofs.Std.{◌≡◌, ℕ, zero, suc, ◌<◌, ◌≤◌, Bool, true, List, [], ◌∷◌, get_or, arith, take_while, list_all, is_ascii_graphic, IsAscii, IsUtf8}
use Rattle.dom_base.proofs.Std.{and_parts, IsUtf8-from_ascii}
use Rattle.dom_text.proofs.WordLaws.{run, run_sound, in_range_is, each_list_all}

-- each byte of a run passes its test
pub all_of_run : (p : ℕ → Bool) (bytes : List ℕ) → list_all p (take_while p bytes) ≡ true
all_of_run p bytes = each_list_all p (run p bytes) (run_sound p bytes).0

-- bytes of words are ASCII
graphic_ascii : (bytes : List ℕ) → list_all is_ascii_graphic bytes ≡ true → IsAscii bytes
graphic_ascii [] h = λ i. omega arith
graphic_ascii (b ∷ bytes) h =
    let both = and_parts (is_ascii_graphic b) (list_all is_ascii_graphic bytes) h in
    λ i. at i (in_range_is 33 126 b both.0).1 (graphic_ascii bytes both.1)
  where
    at : (i : ℕ) → b ≤ 126 → IsAscii bytes → get_or (b ∷ bytes) i 0 < 128
    at zero h more = omega arith
    at (suc i) h more = more i

-- and so text
pub graphic_utf8 : (bytes : List ℕ) → list_all is_ascii_graphic bytes ≡ true → IsUtf8 bytes
graphic_utf8 bytes h = IsUtf8-from_ascii bytes (graphic_ascii bytes h)
