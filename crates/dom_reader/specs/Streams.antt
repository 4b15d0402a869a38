-- Lines as they are kept while their bytes come in pieces.
use Rattle.std.specs.Prelude.{◌≡◌, ℕ, ◌+◌, ◌≤◌, List, [], ◌∷◌, map, take, ◌++◌, length}
use Rattle.std.specs.List.{flat_map}
use Rattle.dom_text.specs.Lines.{line_feed, IsOneLine, max_line, Cut, cut_of, kept_line, last_line, lines_of}

-- a cut as it is kept: of each line, and of the rest, as much as is kept of a line
abbrev pub kept_cut : Cut → Cut
kept_cut cut = record { finished = map kept_line cut.finished; rest = kept_line cut.rest }

-- what a piece makes of the bytes that are kept: the lines that it completes, and the bytes that are kept then
abbrev pub fed : List ℕ → List ℕ → Cut
fed kept piece = kept_cut (cut_of (kept ++ piece))

-- a cut behind finished lines
abbrev pub after_lines : List (List ℕ) → Cut → Cut
after_lines lines cut = record { finished = lines ++ cut.finished; rest = cut.rest }

-- pieces one after another
abbrev pub stream_of : List (List ℕ) → List ℕ
stream_of pieces = flat_map (λ piece. piece) pieces

-- what pieces make of the bytes that are kept, one fed after the other
abbrev pub fed_all : List ℕ → List (List ℕ) → Cut
fed_all kept [] = record { finished = []; rest = kept }
fed_all kept (piece ∷ pieces) = after_lines (fed kept piece).finished (fed_all (fed kept piece).rest pieces)

-- the bytes that are kept when a front of the piece was fed
abbrev pub IsFedPart : List ℕ → List ℕ → List ℕ → Type 0
IsFedPart kept piece left = (n : ℕ) × (left ≡ (fed kept (take n piece)).rest)

-- bytes of one unfinished line, as many as are kept at most
pub record IsKept (bytes : List ℕ) : Type 0 where
  pub one_line : IsOneLine bytes
  pub short : length bytes ≤ max_line + 1

-- Where nothing is kept of a line: a line that lies whole in the bytes, cut as a line is that is kept, and the bytes behind its line feed.
pub record IsWholeLine (kept bytes line later : List ℕ) : Type 0 where
  pub fresh : kept ≡ []
  pub whole : List ℕ
  pub one_line : IsOneLine whole
  pub split : bytes ≡ whole ++ line_feed ∷ later
  pub cut : line ≡ kept_line whole

-- no line lies whole in the bytes: something is kept of one, or there is no line feed
abbrev pub HasNoWholeLine : List ℕ → List ℕ → Type 0
HasNoWholeLine kept bytes = kept ≡ [] → IsOneLine bytes

-- pieces fed one after another make of the bytes that are kept what their stream makes of them in one piece
abbrev pub PiecesAreTheirStream : Type 0
PiecesAreTheirStream = (kept : List ℕ) (pieces : List (List ℕ)) → IsKept kept → fed_all kept pieces ≡ fed kept (stream_of pieces)

-- from a new splitter on, with its last line behind them, they complete the lines of their stream, as they are kept
abbrev pub PiecesGiveTheirLines : Type 0
PiecesGiveTheirLines =
    (pieces : List (List ℕ)) →
    (fed_all [] pieces).finished ++ last_line (fed_all [] pieces).rest ≡ map kept_line (lines_of (stream_of pieces))
