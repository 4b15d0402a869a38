-- What proofs cite of this crate's definitions.
pub use Rattle.dom_selectors.specs.Grammar.{AreEach, double, Form, IsBracketed, IsCombinator, IsComplex, IsCompound, IsCompoundOf, IsLink, IsName, IsPart}
pub use Rattle.dom_selectors.specs.Grammar.{IsQuoted, IsSelector, IsSimple, IsSpaced, IsSpaces, IsTested, IsType, IsValue, plain, sign, single}
pub use Rattle.dom_selectors.specs.Known.{AreUnasked, has_asked, IsFirstLeft, IsFirstUnasked, IsKnown, IsKnownOfFirst, nodes_behind, nodes_from}
pub use Rattle.dom_selectors.specs.Reads.{as_parts, behind_list, IsRefusalWhere}
pub use Rattle.dom_selectors.specs.Search.{ChainEnds, ChainIsBefore, elements_to, IsDescendant, IsSearched, last_compound, MatchesAbove, only_left, SegmentEnds}
pub use Rattle.dom_selectors.specs.Search.{SegmentIsAbove, StopsAt}
pub use Rattle.dom_selectors.specs.Siblings.{element_on, sibling_on}
pub use Rattle.dom_selectors.specs.Texts.{combinator_signs}
pub use Rattle.dom_selectors.specs.Views.{combinator_view, complex_from, complex_view, compound_view, link_view, part_view, selector_view, simple_view}
pub use Rattle.dom_selectors.specs.Words.{begins_with_word, behind_space, is_among}
