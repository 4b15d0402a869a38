-- Laws of what a view keeps of a text.
use Rattle.dom_base.proofs.Std.{◌≡◌, ℕ, ◌+◌, Bool, true, false, cond, List, [], ◌∷◌, ◌++◌, length, take, drop, filter, sym, ap, ◌∙◌, append-nil, arith}
use Rattle.dom_base.proofs.Std.{length-take, take-append-add}
use Rattle.dom_text.specs.Definitions.{line_feed, IsOneLine, cut_of, text_of_lines, begins_with}
use Rattle.dom_reader.proofs.StreamLaws.{cut_of-front, cut_of-one_line}
use Rattle.dom_streams.specs.Piece.{EndsAt}

-- the lines of the text that begin with the prefix
abbrev pub kept_by : List ℕ → List ℕ → List ℕ
kept_by prefix text = text_of_lines (filter (begins_with prefix) (cut_of text).finished)

-- a finished line, and then those of the bytes behind it
pub finished-line : (line more : List ℕ) → IsOneLine line → (cut_of (line ++ line_feed ∷ more)).finished ≡ line ∷ (cut_of more).finished
finished-line line more h =
    ap (λ cut. cut.finished) (cut_of-front line (line_feed ∷ more) h) ∙ ap (λ (x : List ℕ). x ∷ (cut_of more).finished) (append-nil line)

-- a first line that is kept
pub kept_by-kept : (prefix line more : List ℕ) → IsOneLine line → begins_with prefix line ≡ true →
    kept_by prefix (line ++ line_feed ∷ more) ≡ (line ++ line_feed ∷ []) ++ kept_by prefix more
kept_by-kept prefix line more h b =
    ap (λ (x : List (List ℕ)). text_of_lines (filter (begins_with prefix) x)) (finished-line line more h)
    ∙ ap (λ (t : Bool). text_of_lines (cond t (line ∷ filter (begins_with prefix) (cut_of more).finished)
    (filter (begins_with prefix) (cut_of more).finished))) b

-- a first line that is not
pub kept_by-left : (prefix line more : List ℕ) → IsOneLine line → begins_with prefix line ≡ false →
    kept_by prefix (line ++ line_feed ∷ more) ≡ kept_by prefix more
kept_by-left prefix line more h b =
    ap (λ (x : List (List ℕ)). text_of_lines (filter (begins_with prefix) x)) (finished-line line more h)
    ∙ ap (λ (t : Bool). text_of_lines (cond t (line ∷ filter (begins_with prefix) (cut_of more).finished)
    (filter (begins_with prefix) (cut_of more).finished))) b

-- no line is kept of bytes without a line feed
pub kept_by-none : (prefix text : List ℕ) → IsOneLine text → kept_by prefix text ≡ []
kept_by-none prefix text h = ap (λ cut. text_of_lines (filter (begins_with prefix) cut.finished)) (cut_of-one_line text h)

-- the first line with its end
first-line : (at : ℕ) (bytes : List ℕ) → EndsAt bytes at → take (at + 1) bytes ≡ take at bytes ++ line_feed ∷ []
first-line at bytes e =
    let n : at + 1 ≡ length (take at bytes) + 1 = omega (arith, length-take at bytes, e.within) in
    ap (take (at + 1)) e.split ∙ ap (λ k. take k (take at bytes ++ line_feed ∷ drop (at + 1) bytes)) n ∙
    take-append-add (take at bytes) (line_feed ∷ drop (at + 1) bytes) 1

-- the first line without its end
without-end : (at : ℕ) (bytes line : List ℕ) → EndsAt bytes at → line ≡ take (at + 1) bytes → take at line ≡ take at bytes
without-end at bytes line e here =
    let n : at ≡ length (take at bytes) + 0 = omega (arith, length-take at bytes, e.within) in
    ap (take at) (here ∙ first-line at bytes e) ∙ ap (λ k. take k (take at bytes ++ line_feed ∷ [])) n ∙
    take-append-add (take at bytes) (line_feed ∷ []) 0 ∙ append-nil (take at bytes)

-- A line of some bytes, up to its end, and the bytes behind it.
module _ (prefix bytes line later : List ℕ) (at : ℕ) (e : EndsAt bytes at) (here : line ≡ take (at + 1) bytes) (behind : later ≡ drop (at + 1) bytes) where
  -- the first line of the bytes is kept
  pub kept_by-first : begins_with prefix (take at line) ≡ true → kept_by prefix bytes ≡ line ++ kept_by prefix later
  kept_by-first b =
      ap (kept_by prefix) e.split
      ∙ kept_by-kept prefix (take at bytes) (drop (at + 1) bytes) e.one (ap (begins_with prefix) (sym (without-end at bytes line e here)) ∙ b)
      ∙ ap (λ (x : List ℕ). x ++ kept_by prefix (drop (at + 1) bytes)) (sym (here ∙ first-line at bytes e))
      ∙ ap (λ (x : List ℕ). line ++ kept_by prefix x) (sym behind)

  -- the first line of the bytes is not kept
  pub kept_by-later : begins_with prefix (take at line) ≡ false → kept_by prefix bytes ≡ kept_by prefix later
  kept_by-later b =
      ap (kept_by prefix) e.split
      ∙ kept_by-left prefix (take at bytes) (drop (at + 1) bytes) e.one (ap (begins_with prefix) (sym (without-end at bytes line e here)) ∙ b)
      ∙ ap (kept_by prefix) (sym behind)
