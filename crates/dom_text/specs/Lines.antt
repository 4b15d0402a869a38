-- Bytes as lines: the cut at each line feed, and the lines that a view keeps.
use Rattle.std.specs.Prelude.{◌≡◌, ℕ, ◌+◌, Bool, true, false, List, [], ◌∷◌, ◌++◌, take, filter, nat_eq, ◌==◌, codes, Option, Some, None}
use Rattle.std.specs.List.{AllByRecursion, flat_map, starts_with}
use Rattle.dom_base.specs.declared.Owner.{Owner}
use Rattle.dom_base.specs.declared.Owner.TheVariants.{Page}
use Rattle.dom_text.specs.Words.{owner_word}

-- the byte that ends a line
abbrev pub line_feed : ℕ
line_feed = 10

-- no byte of the list is a line feed
abbrev pub IsOneLine : List ℕ → Type 0
IsOneLine bytes = AllByRecursion (λ b. (b == line_feed) ≡ false) bytes

-- lines whose first one begins with b: where there is none yet, b is a line
abbrev pub onto_first_line : ℕ → List (List ℕ) → List (List ℕ)
onto_first_line b [] = (b ∷ []) ∷ []
onto_first_line b (line ∷ lines) = (b ∷ line) ∷ lines

-- a byte, and the lines of the bytes behind it: a line feed ends a line, which is empty so far
abbrev pub with_byte : Bool → ℕ → List (List ℕ) → List (List ℕ)
with_byte true b lines = [] ∷ lines
with_byte false b lines = onto_first_line b lines

-- the lines of the bytes: each is ended by a line feed, but for the last, which is a line where it is not empty
abbrev pub lines_of : List ℕ → List (List ℕ)
lines_of [] = []
lines_of (b ∷ bytes) = with_byte (b == line_feed) b (lines_of bytes)

-- the lines that a line feed ends, and the bytes behind the last of these
pub record Cut : Type 0 where
  pub finished : List (List ℕ)
  pub rest : List ℕ

-- a byte that is no line feed, before a cut: it belongs to the first finished line, or else to the rest
abbrev pub byte_onto : ℕ → List (List ℕ) → List ℕ → Cut
byte_onto b [] rest = record { finished = []; rest = b ∷ rest }
byte_onto b (line ∷ lines) rest = record { finished = (b ∷ line) ∷ lines; rest = rest }

-- a byte before a cut
abbrev pub byte_before : Bool → ℕ → Cut → Cut
byte_before true b cut = record { finished = [] ∷ cut.finished; rest = cut.rest }
byte_before false b cut = byte_onto b cut.finished cut.rest

-- the bytes cut at each line feed, of a stream that may go on
abbrev pub cut_of : List ℕ → Cut
cut_of [] = record { finished = []; rest = [] }
cut_of (b ∷ bytes) = byte_before (b == line_feed) b (cut_of bytes)

-- the line that the end of the stream makes of the bytes behind the last line feed
abbrev pub last_line : List ℕ → List (List ℕ)
last_line [] = []
last_line (b ∷ bytes) = (b ∷ bytes) ∷ []

-- how many bytes a line has at most
abbrev pub max_line : ℕ
max_line = 65536

-- what is kept of a line while it comes: one byte more than a line may have
unfoldable pub kept_line : List ℕ → List ℕ
kept_line line = take (max_line + 1) line

-- lines as bytes, each with its line feed
abbrev pub text_of_lines : List (List ℕ) → List ℕ
text_of_lines lines = flat_map (λ line. line ++ line_feed ∷ []) lines

-- the owner's word and a space, with which the owner's lines begin
abbrev pub owner_prefix : Owner → List ℕ
owner_prefix owner = owner_word owner ++ codes " "

-- the line begins with the prefix
abbrev pub begins_with : List ℕ → List ℕ → Bool
begins_with prefix line = starts_with nat_eq line prefix

-- the lines that begin with the owner's word and a space
abbrev pub lines_from : Owner → List (List ℕ) → List (List ℕ)
lines_from owner lines = filter (begins_with (owner_prefix owner)) lines

-- the page's lines
abbrev pub page_lines : List (List ℕ) → List (List ℕ)
page_lines lines = lines_from Page lines

-- what is written of lines: with a view those of one owner, without one all of them
abbrev pub written : Option Owner → List (List ℕ) → List ℕ
written None lines = text_of_lines lines
written (Some owner) lines = text_of_lines (lines_from owner lines)
