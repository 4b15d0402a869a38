-- Laws of the cut into lines.
use Rattle.dom_base.proofs.Std.{◌≡◌, ℕ, Bool, true, false, List, [], ◌∷◌, ◌++◌, refl, ap, ◌∙◌, eqb, append_assoc, AllByRecursion}
use Rattle.dom_text.specs.Definitions.{line_feed, with_byte, lines_of, IsOneLine, Cut, byte_before, cut_of, last_line, text_of_lines}

-- a finished line, and then the lines of the bytes behind it
pub lines_of-line : (line rest : List ℕ) → IsOneLine line → lines_of (line ++ line_feed ∷ rest) ≡ line ∷ lines_of rest
lines_of-line [] rest h = refl
lines_of-line (b ∷ line) rest h = rw (h.0, lines_of-line line rest h.1) refl

step : (t : Bool) (b : ℕ) (finished : List (List ℕ)) (rest : List ℕ) →
    with_byte t b (finished ++ last_line rest) ≡ (byte_before t b (record { finished = finished; rest = rest })).finished ++
    last_line (byte_before t b (record { finished = finished; rest = rest })).rest
step true b finished rest = refl
step false b [] [] = refl
step false b [] (c ∷ rest) = refl
step false b (line ∷ lines) rest = refl

-- the lines are the finished ones and the rest, where there is any
pub lines_of-cut : (bytes : List ℕ) → lines_of bytes ≡ (cut_of bytes).finished ++ last_line (cut_of bytes).rest
lines_of-cut [] = refl
lines_of-cut (b ∷ bytes) = ap (with_byte (eqb b line_feed) b) (lines_of-cut bytes) ∙ step (eqb b line_feed) b (cut_of bytes).finished (cut_of bytes).rest

-- lines without line feeds are cut out of their text again
pub lines_of-text_of_lines : (lines : List (List ℕ)) → AllByRecursion IsOneLine lines → lines_of (text_of_lines lines) ≡ lines
lines_of-text_of_lines [] h = refl
lines_of-text_of_lines (line ∷ lines) h =
    ap lines_of (append_assoc line (line_feed ∷ []) (text_of_lines lines)) ∙ lines_of-line line (text_of_lines lines) h.0 ∙
    ap (λ (x : List (List ℕ)). line ∷ x) (lines_of-text_of_lines lines h.1)

-- what was cut stays as it is when more comes: the finished lines, and then those of the rest and of what comes
pub cut_of-append : (bytes more : List ℕ) → lines_of (bytes ++ more) ≡ (cut_of bytes).finished ++ lines_of ((cut_of bytes).rest ++ more)
cut_of-append [] more = refl
cut_of-append (b ∷ bytes) more = ap (with_byte (eqb b line_feed) b) (cut_of-append bytes more) ∙ go (eqb b line_feed) refl (cut_of bytes).finished
    (cut_of bytes).rest
  where
    go : (t : Bool) → eqb b line_feed ≡ t → (finished : List (List ℕ)) (rest : List ℕ) → with_byte t b (finished ++ lines_of (rest ++ more))
        ≡ (byte_before t b (record { finished = finished; rest = rest })).finished ++
        lines_of ((byte_before t b (record { finished = finished; rest = rest })).rest ++ more)
    go true h finished rest = refl
    go false h [] rest = rw h refl
    go false h (line ∷ lines) rest = refl

-- a cut, behind finished lines
abbrev pub behind_lines : List (List ℕ) → Cut → Cut
behind_lines lines cut = record { finished = lines ++ cut.finished; rest = cut.rest }

-- bytes are cut as their pieces are, the rest of one piece going in front of the next
pub cut_of-pieces : (bytes more : List ℕ) → cut_of (bytes ++ more) ≡ behind_lines (cut_of bytes).finished (cut_of ((cut_of bytes).rest ++ more))
cut_of-pieces [] more = refl
cut_of-pieces (b ∷ bytes) more = ap (byte_before (eqb b line_feed) b) (cut_of-pieces bytes more) ∙
    go (eqb b line_feed) refl (cut_of bytes).finished (cut_of bytes).rest
  where
    go : (t : Bool) → eqb b line_feed ≡ t → (finished : List (List ℕ)) (rest : List ℕ) → byte_before t b (behind_lines finished (cut_of (rest ++ more)))
        ≡ behind_lines (byte_before t b (record { finished = finished; rest = rest })).finished
        (cut_of ((byte_before t b (record { finished = finished; rest = rest })).rest ++ more))
    go true h finished rest = refl
    go false h [] rest = rw h refl
    go false h (line ∷ lines) rest = refl
