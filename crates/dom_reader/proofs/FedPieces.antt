-- A piece that is fed line by line.
use Rattle.dom_base.proofs.Std.{◌≡◌, ℕ, ◌+◌, List, [], ◌∷◌, ◌++◌, length, take, drop, map, refl, sym, ap, subst, ◌∙◌, append_assoc, append-nil, Result, Ok, Err}
use Rattle.dom_base.proofs.Std.{OnOk, OnErr, is_ok, if◌then◌else◌, map-append, take-append_seam}
use Rattle.memchr.specs.Find.{NoneBefore, Nowhere, Passes, is_byte}
use Rattle.dom_reader.proofs.Firsts.{cut_at_first, none_found}
use Rattle.dom_text.specs.Definitions.{line_feed, Cut, cut_of, kept_line, IsOneLine}
use Rattle.dom_reader.specs.Streams.{IsKept, kept_cut, fed, after_lines, IsFedPart}
use Rattle.dom_reader.proofs.StreamLaws.{kept_line-none, cut_of-front, cut_of-one_line, one_line-append, fed-none, fed-pieces, fed-is_kept}

-- what is left when bytes were kept, or nothing was done
pub grown : {X E : Type 0} (r : Result X E) (new old part : List ℕ) {want : List ℕ} → new ≡ (if is_ok r then old ++ part else old) →
    old ++ part ≡ want → OnOk r (new ≡ want)
grown (Ok x) new old part e f = e ∙ f
grown (Err x) new old part e f = tt

-- a front of the piece was fed: these are its lines, and these bytes are kept
pub record IsFedUpTo (old piece rest : List ℕ) (lines : List (List ℕ)) (kept : List ℕ) : Type 0 where
  pub front : List ℕ
  pub whole : piece ≡ front ++ rest
  pub so_far : fed old front ≡ record { finished = lines; rest = kept }

-- before the piece
pub fed_nothing : (old piece : List ℕ) → IsKept old → IsFedUpTo old piece piece [] old
fed_nothing old piece h = record { front = []; whole = refl; so_far = fed-none old h }

-- what more bytes make of a front that was fed
further : (old front more : List ℕ) (lines : List (List ℕ)) (kept : List ℕ) → fed old front ≡ record { finished = lines; rest = kept } →
    fed old (front ++ more) ≡ after_lines lines (fed kept more)
further old front more lines kept so_far = fed-pieces old front more ∙ ap (λ (c : Cut). after_lines c.finished (fed c.rest more)) so_far

-- one line and its end
pub line_fed : (kept line : List ℕ) → IsOneLine kept → IsOneLine line →
    fed kept (line ++ line_feed ∷ []) ≡ record { finished = kept_line (kept ++ line) ∷ []; rest = [] }
line_fed kept line h k =
    ap (λ (x : List ℕ). kept_cut (cut_of x)) (sym (append_assoc kept line (line_feed ∷ [])))
    ∙ ap kept_cut (cut_of-front (kept ++ line) (line_feed ∷ []) (one_line-append kept line h k))
    ∙ ap (λ (x : List ℕ). record { finished = kept_line x ∷ []; rest = kept_line [] }) (append-nil (kept ++ line))
    ∙ ap (λ (x : List ℕ). record { finished = kept_line (kept ++ line) ∷ []; rest = x }) kept_line-none

-- ---- what was fed up to a place

module _ {old piece rest : List ℕ} {lines : List (List ℕ)} {kept : List ℕ} (h : IsFedUpTo old piece rest lines kept) where
  -- what is kept then
  pub fed_kept : IsKept kept
  fed_kept = subst IsKept (ap (λ (c : Cut). c.rest) h.so_far) (fed-is_kept old h.front)

  -- and that it is what a front leaves
  pub fed_front : IsFedPart old piece kept
  fed_front =
      let part : take (length h.front) piece ≡ h.front = ap (take (length h.front)) h.whole ∙ take-append_seam h.front rest in
      (length h.front, sym (ap (λ (c : Cut). c.rest) h.so_far) ∙ ap (λ (x : List ℕ). (fed old x).rest) (sym part))

  -- one line more
  fed_line : (line more : List ℕ) → IsOneLine line → rest ≡ line ++ line_feed ∷ more → IsFedUpTo old piece more (lines ++ kept_line (kept ++ line) ∷ []) []
  fed_line line more one cut = record {
    front = h.front ++ (line ++ line_feed ∷ []);
    whole = h.whole ∙ ap (λ (x : List ℕ). h.front ++ x) (cut ∙ sym (append_assoc line (line_feed ∷ []) more)) ∙
        sym (append_assoc h.front (line ++ line_feed ∷ []) more);
    so_far = further old h.front (line ++ line_feed ∷ []) lines kept h.so_far ∙ ap (after_lines lines) (line_fed kept line fed_kept.one_line one);
  }

  -- the line up to the first line feed more
  pub fed_step : (k : ℕ) → NoneBefore (Passes (is_byte 10) rest) 0 (length rest) k × Passes (is_byte 10) rest k
      → IsFedUpTo old piece (drop (k + 1) rest) (lines ++ kept_line (kept ++ take k rest) ∷ []) []
  fed_step k at = let cut = cut_at_first 10 rest k at in fed_line (take k rest) (drop (k + 1) rest) cut.0 cut.1

  -- what is fed up to a place is so for equal values
  pub fed_same : (rest' : List ℕ) (lines' : List (List ℕ)) (kept' : List ℕ) → rest' ≡ rest → lines' ≡ lines → kept' ≡ kept →
      IsFedUpTo old piece rest' lines' kept'
  fed_same rest' lines' kept' e f g = rw (e, f, g) h

  -- the end of the piece
  pub fed_end : Nowhere (Passes (is_byte 10) rest) 0 (length rest) → fed old piece ≡ record { finished = lines; rest = kept_line (kept ++ rest) }
  fed_end none =
      ap (fed old) h.whole
      ∙ further old h.front rest lines kept h.so_far
      ∙ ap (λ (c : Cut). after_lines lines (kept_cut c))
      (cut_of-one_line (kept ++ rest) (one_line-append kept rest fed_kept.one_line (none_found 10 rest none)))
      ∙ ap (λ (x : List (List ℕ)). record { finished = x; rest = kept_line (kept ++ rest) }) (append-nil lines)

-- ---- calls

-- a line that was put behind the others
pub line_put : {X : Type 0} {after : List X} (bytes_of : X → List ℕ) (lines : List X) (line : X) (bytes : List ℕ) → after ≡ lines ++ line ∷ [] →
    bytes_of line ≡ bytes → map bytes_of after ≡ map bytes_of lines ++ bytes ∷ []
line_put bytes_of lines line bytes e f = ap (map bytes_of) e ∙ map-append bytes_of lines (line ∷ []) ∙ ap (λ (x : List ℕ). map bytes_of lines ++ x ∷ []) f

-- a fact of a call that failed
pub on_err : {X E : Type 0} (r : Result X E) (P : Type 0) → P → OnErr r P
on_err (Ok x) P h = tt
on_err (Err e) P h = h

-- what a call leaves is kept of one line
pub left_kept : {X E : Type 0} (r : Result X E) (old piece new : List ℕ) → OnOk r (new ≡ (fed old piece).rest) → OnErr r (IsFedPart old piece new) → IsKept new
left_kept (Ok x) old piece new ok err = subst IsKept (sym ok) (fed-is_kept old piece)
left_kept (Err e) old piece new ok err = subst IsKept (sym err.1) (fed-is_kept old (take err.0 piece))
