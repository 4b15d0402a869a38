-- A word that is looked for in a string, whose words white space parts.
use Rattle.std.specs.Prelude.{Bool, true, false, not, ◌&&◌, ◌==◌, [], ◌∷◌, Option, Some, None, if◌then◌else◌}
use Rattle.std.specs.List.{list_any}
use Rattle.dom_model.specs.Names.{DomString, text_eq}
use Rattle.dom_model.specs.Selectors.{is_space, words_from}

-- whether a string begins with a word, behind which is white space or nothing (own rule)
abbrev pub begins_with_word : DomString → DomString → Bool
begins_with_word [] [] = true
begins_with_word [] (c ∷ cs) = is_space c
begins_with_word (x ∷ xs) [] = false
begins_with_word (x ∷ xs) (c ∷ cs) = (not (is_space c) && (x == c)) && begins_with_word xs cs

-- what is behind the first white space of a string, if there is some (own rule)
abbrev pub behind_space : DomString → Option DomString
behind_space [] = None
behind_space (c ∷ cs) = if is_space c then Some cs else behind_space cs

-- whether a word is among those of a string, if there is one (own rule)
abbrev pub is_among : DomString → Option DomString → Bool
is_among word None = false
is_among word (Some cs) = list_any (text_eq word) (words_from [] cs)
