-- Lines that are refused and many lines, and what is computed of them.
use Rattle.dom_base.proofs.Std.{◌≡◌, ℕ, Bool, true, false, List, [], ◌∷◌, ◌++◌, map, replicate, refl, codes, list_all}
use Rattle.dom_model.proofs.Model.{Page, micro, Line, no_owner, no_command, command}
use Rattle.dom_text.specs.Definitions.{decode}
use Rattle.dom_text.specs.Decode.{keyword_of}

-- ---- refusals

not_in_order : map decode (codes "p dispatch n0 e composed bubbles" ∷ codes "p walk-new n1 comment,text" ∷ codes
    "p listen n1 e l log once capture" ∷ []) ≡ replicate 3 (no_command Page)
unfolding keyword_of
not_in_order = refl

-- labels have at most 64 bytes, and names of elements any number
long_label : decode (codes "p micro " ++ replicate 64 97) ≡ command Page (micro (replicate 64 97))
unfolding keyword_of
long_label = refl

longer_label : decode (codes "p micro " ++ replicate 65 97) ≡ no_command Page
unfolding keyword_of
longer_label = refl

-- bytes past those of text
past_text : map decode ((codes "p tree n0" ++ 0x80 ∷ []) ∷ (codes "p ." ++ 13 ∷ []) ∷
    (codes "p new text \"" ++ 9 ∷ 34 ∷ []) ∷ []) ≡ replicate 3 (no_command Page)
unfolding keyword_of
past_text = refl

past_text_in_front : decode (0x80 ∷ codes " .") ≡ no_owner
past_text_in_front = refl

wrong_lists : map decode (codes "p walk-new n1 element," ∷ codes "p walk-new n1 ,element" ∷ codes "p iter-new n1 all,text" ∷ codes
    "p observe o0 n1 filter=" ∷ codes "p observe o0 n1 filter=a,,b" ∷ codes "p iter-new n1 all skip=1" ∷ []) ≡ replicate 6 (no_command Page)
unfolding keyword_of
wrong_lists = refl

-- ---- many lines

is_command : Line → Bool
is_command (command o c) = true
is_command _ = false

is_refused : Line → Bool
is_refused (no_command o) = true
is_refused _ = false

is_nobody : Line → Bool
is_nobody no_owner = true
is_nobody _ = false

-- lines that say a command
command_lines : List (List ℕ)
command_lines =
    codes "p tree n999999999" ∷
    codes "c1.1.1.1.1.1.1.1 remove c1.1.1.1.1.1.1.1:m1" ∷ []

-- lines of an owner that say no command
refused_lines : List (List ℕ)
refused_lines =
    codes "c1 tre m0" ∷
    codes "p  tree n0" ∷
    codes "p assigned n1" ∷
    codes "p " ∷
    codes "p tree n01" ∷
    codes "p tree n0 " ∷
    codes "p new text \"a" ∷
    codes "p new text \"\\x\"" ∷
    codes "p new text \"\\ud83\"" ∷
    codes "p new element \"a\"" ∷
    codes "p replace-data n0 1234567890 0 \"\"" ∷
    codes "p dispatch n0 e composed bubbles" ∷
    codes "p remove c1.0:m1" ∷
    codes "p remove c1.:m1" ∷
    codes "p remove c1.1" ∷
    codes "c1 remove c1.1.1.1.1.1.1.1.1:m1" ∷
    codes "p assigned n0" ∷ []

-- lines that begin with no owner's word
lines_of_nobody : List (List ℕ)
lines_of_nobody =
    codes "x hello" ∷
    codes "q tree n0" ∷
    codes "" ∷
    codes "p" ∷
    codes "c0 ." ∷
    codes "c01 ." ∷
    codes "c1234567890 ." ∷
    codes "c1.0 ." ∷
    codes "c1. ." ∷
    codes "c.1 ." ∷
    codes "c1..1 ." ∷
    codes "c1.01 ." ∷
    codes "c1.1.1.1.1.1.1.1.1 ." ∷ []

all_commands : list_all is_command (map decode command_lines) ≡ true
unfolding keyword_of is_command command_lines
all_commands = refl

all_refused : list_all is_refused (map decode refused_lines) ≡ true
unfolding keyword_of is_refused refused_lines
all_refused = refl

all_of_nobody : list_all is_nobody (map decode lines_of_nobody) ≡ true
unfolding is_nobody lines_of_nobody
all_of_nobody = refl
