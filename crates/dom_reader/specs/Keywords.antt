-- The words with which commands begin, by their first byte.
use Rattle.std.specs.Prelude.{ℕ, Bool, false, ◌==◌, List, [], ◌∷◌, filter, Option}
use Rattle.dom_text.specs.Commands.{Keyword, keyword_word, keywords}
use Rattle.dom_text.specs.Readers.{named}

-- whether the text begins with the byte
abbrev pub begins : ℕ → List ℕ → Bool
begins first [] = false
begins first (b ∷ bytes) = b == first

-- the commands' words that begin with the byte, in their order
abbrev pub keywords_with : ℕ → List Keyword
keywords_with first = filter (λ k. begins first (keyword_word k)) keywords

-- the one among them that the word is
abbrev pub keyword_with : ℕ → List ℕ → Option Keyword
keyword_with first word = named keyword_word (keywords_with first) word

-- the commands' words that begin with `re`, in their order
abbrev pub re_words : List Keyword
re_words = Keyword.Replace ∷ Keyword.Remove ∷ Keyword.ReplaceData ∷ []

-- those that begin with `range-`
abbrev pub range_words : List Keyword
range_words =
    Keyword.RangeNew ∷ Keyword.RangeStart ∷ Keyword.RangeEnd ∷ Keyword.RangeCollapse ∷ Keyword.RangeDrop ∷ Keyword.RangeGet ∷ Keyword.RangeText ∷ []
