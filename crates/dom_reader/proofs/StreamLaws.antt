-- Laws of lines that come in pieces: whatever the pieces, the lines are those of the whole stream.
use Rattle.dom_base.proofs.Std.{◌≡◌, ℕ, zero, suc, ◌+◌, ◌-◌, ◌≤◌, Bool, true, false, eqb, List, [], ◌∷◌, ◌++◌, length, take, map, min, refl, sym, ap, ◌∙◌}
use Rattle.dom_base.proofs.Std.{append_assoc, arith, inl, inr, cases_lt, map-append, length-append, length-take, take_all, take-append-add}
use Rattle.dom_text.specs.Definitions.{line_feed, lines_of, Cut, byte_before, cut_of, last_line, max_line, IsOneLine}
use Rattle.dom_text.specs.Lines.{kept_line}
use Rattle.dom_text.proofs.LineLaws.{lines_of-cut, cut_of-pieces}
use Rattle.dom_reader.specs.Streams.{kept_cut, fed, after_lines, fed_all, stream_of, IsKept}

-- ---- what is kept of a line

-- a front of a front and more is a front of the whole
take-front : (n : ℕ) (r x : List ℕ) → take n (take n r ++ x) ≡ take n (r ++ x)
take-front zero r x = refl
take-front (suc n) [] x = refl
take-front (suc n) (b ∷ r) x = ap (λ (y : List ℕ). b ∷ y) (take-front n r x)

-- what is kept of kept bytes and more is what is kept of all of them
pub kept_line-append : (r x : List ℕ) → kept_line (kept_line r ++ x) ≡ kept_line (r ++ x)
unfolding kept_line
kept_line-append r x = take-front (max_line + 1) r x

-- no bytes have no front
take-none : (n : ℕ) → take {A = ℕ} n [] ≡ []
take-none zero = refl
take-none (suc n) = refl

-- what is kept of no bytes
pub kept_line-none : kept_line [] ≡ []
unfolding kept_line
kept_line-none = take-none (max_line + 1)

-- bytes that are few enough are kept
pub kept_line-short : (r : List ℕ) → length r ≤ max_line + 1 → kept_line r ≡ r
unfolding kept_line
kept_line-short r h = take_all (max_line + 1) r h

-- no more is kept than that
pub length-kept_line : (r : List ℕ) → length (kept_line r) ≤ max_line + 1
unfolding kept_line
length-kept_line r = short (max_line + 1) r
  where
    short : (n : ℕ) (bytes : List ℕ) → length (take n bytes) ≤ n
    short n bytes = omega (arith, length-take n bytes)

-- bytes that are kept and as many more as there is room for
pub kept_line-room : (kept bytes : List ℕ) (n : ℕ) → length kept ≤ max_line + 1 → n ≡ min (length bytes) (max_line + 1 - length kept) →
    kept ++ take n bytes ≡ kept_line (kept ++ bytes)
unfolding kept_line
kept_line-room kept bytes n h e = room (max_line + 1) h e
  where
    room : (m : ℕ) → length kept ≤ m → n ≡ min (length bytes) (m - length kept) → kept ++ take n bytes ≡ take m (kept ++ bytes)
    room m fits is = elim (cases_lt (length bytes) (m - length kept)) [
      | inl lt ↦
          let all : n ≡ length bytes = omega arith in
          ap (λ (x : List ℕ). kept ++ x) (take_all n bytes (omega arith)) ∙ sym (take_all m (kept ++ bytes) (omega (arith, length-append kept bytes)))
      | inr le ↦
          let part : length kept + n ≡ m = omega arith in
          sym (take-append-add kept bytes n) ∙ ap (λ (k : ℕ). take k (kept ++ bytes)) part
    ]

-- ---- cuts

-- bytes of one line before a cut: they go to its first line, or else to the rest
abbrev pub bytes_onto : List ℕ → List (List ℕ) → List ℕ → Cut
bytes_onto front [] rest = record { finished = []; rest = front ++ rest }
bytes_onto front (line ∷ lines) rest = record { finished = (front ++ line) ∷ lines; rest = rest }

-- a byte before such bytes
bytes_onto-cons : (b : ℕ) (front : List ℕ) (lines : List (List ℕ)) (rest : List ℕ)
    → byte_before false b (bytes_onto front lines rest) ≡ bytes_onto (b ∷ front) lines rest
bytes_onto-cons b front [] rest = refl
bytes_onto-cons b front (line ∷ lines) rest = refl

-- no bytes leave a cut as it is
bytes_onto-none : (lines : List (List ℕ)) (rest : List ℕ) → record { finished = lines; rest = rest } ≡ bytes_onto [] lines rest
bytes_onto-none [] rest = refl
bytes_onto-none (line ∷ lines) rest = refl

-- the cut of bytes that begin with bytes of one line
pub cut_of-front : (front bytes : List ℕ) → IsOneLine front → cut_of (front ++ bytes) ≡ bytes_onto front (cut_of bytes).finished (cut_of bytes).rest
cut_of-front [] bytes h = bytes_onto-none (cut_of bytes).finished (cut_of bytes).rest
cut_of-front (b ∷ front) bytes h =
    ap (byte_before (eqb b line_feed) b) (cut_of-front front bytes h.1)
    ∙ ap (λ (t : Bool). byte_before t b (bytes_onto front (cut_of bytes).finished (cut_of bytes).rest)) h.0
    ∙ bytes_onto-cons b front (cut_of bytes).finished (cut_of bytes).rest

-- bytes of one line are the rest of their cut
pub cut_of-one_line : (bytes : List ℕ) → IsOneLine bytes → cut_of bytes ≡ record { finished = []; rest = bytes }
cut_of-one_line [] h = refl
cut_of-one_line (b ∷ bytes) h =
    ap (byte_before (eqb b line_feed) b) (cut_of-one_line bytes h.1) ∙ ap (λ (t : Bool). byte_before t b (record { finished = []; rest = bytes })) h.0

-- the rest of a cut is bytes of one line
pub rest-one_line : (bytes : List ℕ) → IsOneLine (cut_of bytes).rest
rest-one_line [] = tt
rest-one_line (b ∷ bytes) = go (eqb b line_feed) refl (cut_of bytes).finished (cut_of bytes).rest (rest-one_line bytes)
  where
    go : (t : Bool) → eqb b line_feed ≡ t → (lines : List (List ℕ)) (rest : List ℕ) → IsOneLine rest
        → IsOneLine (byte_before t b (record { finished = lines; rest = rest })).rest
    go true e lines rest h = h
    go false e [] rest h = (e, h)
    go false e (line ∷ lines) rest h = h

-- bytes of one line behind such bytes
pub one_line-append : (front bytes : List ℕ) → IsOneLine front → IsOneLine bytes → IsOneLine (front ++ bytes)
one_line-append [] bytes h k = k
one_line-append (b ∷ front) bytes h k = (h.0, one_line-append front bytes h.1 k)

-- a front of bytes of one line is one too
one_line-take : (n : ℕ) (bytes : List ℕ) → IsOneLine bytes → IsOneLine (take n bytes)
one_line-take zero bytes h = tt
one_line-take (suc n) [] h = tt
one_line-take (suc n) (b ∷ bytes) h = (h.0, one_line-take n bytes h.1)

-- what is kept of bytes of one line is one too
pub one_line-kept : (bytes : List ℕ) → IsOneLine bytes → IsOneLine (kept_line bytes)
unfolding kept_line
one_line-kept bytes h = one_line-take (max_line + 1) bytes h

-- ---- pieces

-- what is kept of the bytes before a cut serves in their place
kept_onto : (front : List ℕ) (lines : List (List ℕ)) (rest : List ℕ) →
    kept_cut (bytes_onto (kept_line front) lines rest) ≡ kept_cut (bytes_onto front lines rest)
kept_onto front [] rest = ap (λ (x : List ℕ). record { finished = []; rest = x }) (kept_line-append front rest)
kept_onto front (line ∷ lines) rest = ap (λ (x : List ℕ). record { finished = x ∷ map kept_line lines; rest = kept_line rest }) (kept_line-append front line)

-- what is kept of an unfinished line serves in its place
pub fed-kept : (front bytes : List ℕ) → IsOneLine front → fed (kept_line front) bytes ≡ fed front bytes
fed-kept front bytes h =
    ap kept_cut (cut_of-front (kept_line front) bytes (one_line-kept front h))
    ∙ kept_onto front (cut_of bytes).finished (cut_of bytes).rest
    ∙ sym (ap kept_cut (cut_of-front front bytes h))

-- finished lines before a cut are kept as its own are
kept_after : (lines : List (List ℕ)) (cut : Cut) → kept_cut (after_lines lines cut) ≡ after_lines (map kept_line lines) (kept_cut cut)
kept_after lines cut = ap (λ (x : List (List ℕ)). record { finished = x; rest = kept_line cut.rest }) (map-append kept_line lines cut.finished)

-- Two pieces are fed as their whole is.
pub fed-pieces : (kept first second : List ℕ) → fed kept (first ++ second) ≡ after_lines (fed kept first).finished (fed (fed kept first).rest second)
fed-pieces kept first second =
    ap (λ (x : List ℕ). kept_cut (cut_of x)) (sym (append_assoc kept first second))
    ∙ ap kept_cut (cut_of-pieces (kept ++ first) second)
    ∙ kept_after (cut_of (kept ++ first)).finished (cut_of ((cut_of (kept ++ first)).rest ++ second))
    ∙ ap (after_lines (fed kept first).finished) (sym (fed-kept (cut_of (kept ++ first)).rest second (rest-one_line (kept ++ first))))

-- no bytes leave what is kept as it is
pub fed-none : (kept : List ℕ) → IsKept kept → fed kept [] ≡ record { finished = []; rest = kept }
fed-none kept h =
    ap (λ (x : List ℕ). kept_cut (cut_of x)) (append_none kept) ∙ ap kept_cut (cut_of-one_line kept h.one_line) ∙
    ap (λ (x : List ℕ). record { finished = []; rest = x }) (kept_line-short kept h.short)
  where
    append_none : (xs : List ℕ) → xs ++ [] ≡ xs
    append_none [] = refl
    append_none (x ∷ xs) = ap (λ (y : List ℕ). x ∷ y) (append_none xs)

-- what is kept is few bytes of one line
pub fed-is_kept : (kept piece : List ℕ) → IsKept (fed kept piece).rest
fed-is_kept kept piece = record {
  one_line = one_line-kept (cut_of (kept ++ piece)).rest (rest-one_line (kept ++ piece));
  short = length-kept_line (cut_of (kept ++ piece)).rest;
}

-- Pieces are fed as the whole stream is.
pub fed_all-fed : (kept : List ℕ) (pieces : List (List ℕ)) → IsKept kept → fed_all kept pieces ≡ fed kept (stream_of pieces)
fed_all-fed kept [] h = sym (fed-none kept h)
fed_all-fed kept (piece ∷ pieces) h =
    ap (after_lines (fed kept piece).finished) (fed_all-fed (fed kept piece).rest pieces (fed-is_kept kept piece)) ∙
    sym (fed-pieces kept piece (stream_of pieces))

-- From a stream's begin, whatever the pieces: the lines are those of the whole stream's cut, as they are kept, and so is the rest.
pub fed_all-stream : (pieces : List (List ℕ)) → fed_all [] pieces ≡ kept_cut (cut_of (stream_of pieces))
fed_all-stream pieces = fed_all-fed [] pieces (record { one_line = tt; short = omega arith })

-- a last line is kept where there is one
last_kept : (rest : List ℕ) → map kept_line (last_line rest) ≡ last_line (kept_line rest)
unfolding kept_line
last_kept [] = refl
last_kept (b ∷ rest) = refl

-- With the rest, where there is any, these are the lines of the stream, as they are kept.
pub lines_of-fed_all : (pieces : List (List ℕ)) →
    map kept_line (lines_of (stream_of pieces)) ≡ (fed_all [] pieces).finished ++ last_line (fed_all [] pieces).rest
lines_of-fed_all pieces =
    let bytes = stream_of pieces in
    ap (map kept_line) (lines_of-cut bytes)
    ∙ map-append kept_line (cut_of bytes).finished (last_line (cut_of bytes).rest)
    ∙ ap (λ (x : List (List ℕ)). map kept_line (cut_of bytes).finished ++ x) (last_kept (cut_of bytes).rest)
    ∙ sym (ap (λ (cut : Cut). cut.finished ++ last_line cut.rest) (fed_all-stream pieces))
