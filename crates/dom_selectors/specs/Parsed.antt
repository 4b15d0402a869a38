-- Texts that were parsed, and the lists of selectors that they are (own rules).
use Rattle.std.specs.Prelude.{◌≡◌, ℕ, List, Some, map, slice_get}
use Rattle.std.specs.Option.{MatchOption}
use Rattle.dom_model.specs.Names.{DomString}
use Rattle.dom_model.specs.Selectors.{Complex}
use Rattle.dom_model.specs.SelectorText.{parse_selectors}
use Rattle.dom_selectors.specs.Views.{selector_view}
use Rattle.dom_selectors.specs.declared.parsed.Parsed.{Parsed}

-- the list of selectors that is kept with a text
abbrev pub selector_in : Parsed → List Complex
selector_in p = selector_view p.selector

-- this list is the one that the text is
abbrev pub IsParsed : Parsed → Type 0
IsParsed p = parse_selectors p.text.items ≡ Some (selector_in p)

-- a text stands at a place
abbrev pub HasText : List Parsed → DomString → ℕ → Type 0
HasText ps text place = MatchOption (slice_get ps place) ⊥ (λ p. p.text.items ≡ text)

-- the lists of selectors that are kept
abbrev pub selectors_in : List Parsed → List (List Complex)
selectors_in ps = map selector_in ps
