-- Lines that are of no owner, or no command: each alone, with its answer, which comes from outside.
use Rattle.std.specs.Prelude.{ℕ, codes, List, [], ◌∷◌, ◌++◌, replicate}
use Rattle.dom_examples.specs.Example.{Single}

-- a line, and its answer
abbrev pub answered_by : List ℕ → List ℕ → Single
answered_by line answer = record { line = line; answer = answer }

-- lines that begin with no owner's word and a space
abbrev pub ownerless : List Single
ownerless =
    answered_by (codes "") (codes "! owner") ∷
    answered_by (codes "p") (codes "! owner") ∷
    answered_by (codes "c0 .") (codes "! owner") ∷
    answered_by (codes "c01 .") (codes "! owner") ∷
    answered_by (codes "c1234567890 .") (codes "! owner") ∷
    answered_by (0x80 ∷ codes " .") (codes "! owner") ∷
    []

-- lines of the page that its grammar does not have
abbrev pub malformed : List Single
malformed =
    answered_by (codes "p ") (codes "p ! syntax") ∷
    answered_by (codes "p tree n01") (codes "p ! syntax") ∷
    answered_by (codes "p tree n0 ") (codes "p ! syntax") ∷
    answered_by (codes "p new text \"a") (codes "p ! syntax") ∷
    answered_by (codes "p new text \"\\x\"") (codes "p ! syntax") ∷
    answered_by (codes "p new text \"\\ud83\"") (codes "p ! syntax") ∷
    answered_by (codes "p new element \"a\"") (codes "p ! syntax") ∷
    answered_by (codes "p replace-data n0 1234567890 0 \"\"") (codes "p ! syntax") ∷
    answered_by (codes "p dispatch n0 e composed bubbles") (codes "p ! syntax") ∷
    answered_by (codes "p assigned n0") (codes "p ! syntax") ∷
    answered_by (codes "p ." ++ 0x0D ∷ []) (codes "p ! syntax") ∷
    answered_by (codes "p tree n0" ++ 0x80 ∷ []) (codes "p ! syntax") ∷
    []

-- a name of no node
abbrev pub unknown : List Single
unknown =
    answered_by (codes "p tree n999999999") (codes "p ! unknown") ∷
    []

-- the longest line, of 65,536 bytes, and longer ones
abbrev pub longest : List Single
longest = answered_by (codes "p new comment \"" ++ replicate 65520 97 ++ codes "\"") (codes "p ok n1") ∷ []

abbrev pub too_long : List Single
too_long = answered_by (codes "p new comment \"" ++ replicate 65521 97 ++ codes "\"") (codes "p ! syntax") ∷ []

abbrev pub too_long_letters : List Single
too_long_letters = answered_by (replicate 65537 97) (codes "! owner") ∷ []

abbrev pub too_long_words : List Single
too_long_words = answered_by (codes "c1 " ++ replicate 65534 97) (codes "c1 ! syntax") ∷ []
