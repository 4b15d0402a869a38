-- What the proofs of this crate cite of std, of the definitions, and of the crates below.
pub use Rattle.dom_base.proofs.Std.{[], All, All-push, and_from, and_left, and_parts, ap, append-nil, append_assoc, arith, Bool, Bor, cases_Bool, codes, cond}
pub use Rattle.dom_base.proofs.Std.{cond-false, cond-true, cond_both, drop, eq-eqb, eqb-true, false, false_from_ne_true, false≢true, filter, find, fold}
pub use Rattle.dom_base.proofs.Std.{fold-append, ForSome, get_or, if◌then◌else◌, inl, inr, is_some, IsAscii, IsUtf8-from_ascii, length, length-append}
pub use Rattle.dom_base.proofs.Std.{length-drop, List, list_all, list_all-append, list_any, list_any-append, lt-ltb, ltb-true, map, map-append, map-id}
pub use Rattle.dom_base.proofs.Std.{MatchOption, nat_eq, nat_lt, nat_tests, None, none-some, not, not-false, one-add, Option, option_and_then}
pub use Rattle.dom_base.proofs.Std.{option_map, option_map_or, option_or, option_to_list, or_cases, or_left, or_parts, or_right, prefix_len, refl, same_Some}
pub use Rattle.dom_base.proofs.Std.{slice_index_or, Some, starts_with, subst, suc, sym, take, take_all, take_while, take_while-cons, true, true≢false}
pub use Rattle.dom_base.proofs.Std.{unwrap_or, zero, ℕ, ⊤, ◌&&◌, ◌++◌, ◌+◌, ◌<◌, ◌==◌, ◌||◌, ◌∙◌, ◌∷◌, ◌≡◌, ◌≤◌}
pub use Rattle.dom_model.proofs.Model.{alone, ancestors, attribute_value, AttributeTest, begins, begins_name, begins_with_dash, child, children_of, closed_by}
pub use Rattle.dom_model.proofs.Model.{Combinator, combined_with, Complex, complex_matches, compound_matches, CompoundPart, continues_name, descendant}
pub use Rattle.dom_model.proofs.Model.{descendants, DomString, drop_while, elements_before, ends, equals, expect, first_child, first_of, has_node, has_word}
pub use Rattle.dom_model.proofs.Model.{holds, holds_text, inclusive_ancestors, inclusive_descendants, is_digit, is_element, is_empty, is_in, is_name, is_not}
pub use Rattle.dom_model.proofs.Model.{is_space, items_after, items_before, joined, kind_of, last_child, last_of, later, link, may_stand_quoted, name_eq}
pub use Rattle.dom_model.proofs.Model.{name_eq-other, names_of, next, next_sibling, no_node, Node, node_in, NodeName, nodes, of_any_type, of_class, of_id}
pub use Rattle.dom_model.proofs.Model.{of_type, Owner, parent_of, parse_selectors, part_matches, previous_sibling, query_all, read_all, read_attribute}
pub use Rattle.dom_model.proofs.Model.{read_combinator, read_complex, read_compound, read_compound_of, read_each, read_link, read_map, read_more, read_name}
pub use Rattle.dom_model.proofs.Model.{read_next, read_not, read_one_of, read_part, read_quoted, read_simple, read_test, read_test_of, read_type}
pub use Rattle.dom_model.proofs.Model.{read_type_name, read_value, Reader, selector_matches, siblings, signs, Simple, simple, skip_space, text_eq, Trees}
pub use Rattle.dom_model.proofs.Model.{with_value, Word, words_from}
pub use Rattle.dom_laws.proofs.Laws.{above-absent, above-itself, above-proper, above-split, after-split, all_single, before-split, below, child-of_parent}
pub use Rattle.dom_laws.proofs.Laws.{children-single, filter-no, filter-none, filter-yes, first-hit, first_split, Has, Has-above, Has-names, has_or_not, here}
pub use Rattle.dom_laws.proofs.Laws.{In, In-from, In-left, In-names, In-parts, In-right, is_in-from, is_in-not, IsWithin, last-hit, last-miss, last_split}
pub use Rattle.dom_laws.proofs.Laws.{no_first, no_last, Once, ordered, parent-of_child, proper-parent, Single, Single-apart}
pub use Rattle.dom_laws.proofs.Laws.{split_at, stands_in, top_places, within-member}
pub use Rattle.dom_laws.specs.Within.{behind, from_node}
pub use Rattle.dom_model.specs.SelectorText.{whole}
pub use Rattle.dom_model.specs.Selectors.{simple_matches, value_passes, with_attribute}
pub use Rattle.dom_selectors.specs.Definitions.{AreEach, as_parts, begins_with_word, behind_list, behind_space, ChainEnds, ChainIsBefore, combinator_signs}
pub use Rattle.dom_selectors.specs.Definitions.{combinator_view, complex_from, complex_view, compound_view, double, element_on, elements_to, Form, has_asked}
pub use Rattle.dom_selectors.specs.Definitions.{is_among, IsBracketed, IsCombinator, IsComplex, IsCompound, IsCompoundOf, IsDescendant, IsKnown}
pub use Rattle.dom_selectors.specs.Definitions.{IsKnownOfFirst, IsLink, IsName, IsPart, IsQuoted, IsSearched, IsSelector, IsSimple, IsSpaced, IsSpaces}
pub use Rattle.dom_selectors.specs.Definitions.{IsTested, IsType, IsValue, last_compound, link_view, MatchesAbove, nodes_behind, nodes_from, only_left}
pub use Rattle.dom_selectors.specs.Definitions.{part_view, plain, SegmentEnds, SegmentIsAbove, selector_view, sibling_on, sign, simple_view, single, StopsAt}
pub use Rattle.dom_selectors.specs.declared.above.Above.{Above}
pub use Rattle.dom_selectors.specs.declared.selector.Combinator.TheVariants.{Descendant, Later}
pub use Rattle.dom_selectors.specs.declared.selector.Link.{Link}
pub use Rattle.dom_selectors.specs.declared.siblings.Side.{Side}
pub use Rattle.dom_attributes.proofs.AttributeValues.{text_same}
pub use Rattle.dom_tree.proofs.Searching.{following_step, IsWithin-itself, IsWithin-key, length-behind}
pub use Rattle.dom_tree.proofs.Standing.{Has-forest, name_found, Once-forest, other_name, StandAlone, StandOnce}
pub use Rattle.dom_tree.specs.Definitions.{AreOwned, name_at, NamedTrees, StandsIn}
pub use Rattle.dom_tree.specs.Ids.{HasId, MayBear}
pub use Rattle.dom_tree.specs.Owners.{NearLaw}
pub use Rattle.node_arena.specs.Spots.{key_in}
