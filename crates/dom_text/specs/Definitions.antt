-- What proofs cite of this crate's definitions.
pub use Rattle.dom_text.specs.Commands.{command_behind, Keyword, keywords, keyword_word, parts}
pub use Rattle.dom_text.specs.Decode.{before_space, command_at, decode, keyword_of, line_of, owned_line, owner_at, said_by}
pub use Rattle.dom_text.specs.Forms.{action_at, assigned_at, iterator_number_at, label_at, move_at, new_at, new_of, node_at, number_at, observer_number_at, one}
pub use Rattle.dom_text.specs.Forms.{range_number_at, related_at, to_start_at, walker_number_at}
pub use Rattle.dom_text.specs.Grammar.{BelongsTo, IsLine, MayUse, Says, Spells}
pub use Rattle.dom_text.specs.LineParts.{event_parts, filter_parts, flag, iterator, key, label, LinePart, listener_parts, node, number, observed, observe_parts}
pub use Rattle.dom_text.specs.LineParts.{perhaps, range, related_parts, string, walker, word}
pub use Rattle.dom_text.specs.Lines.{begins_with, byte_before, Cut, cut_of, IsOneLine, kept_line, last_line, line_feed, lines_from, lines_of, max_line}
pub use Rattle.dom_text.specs.Lines.{owner_prefix, page_lines, text_of_lines, with_byte}
pub use Rattle.dom_text.specs.Readers.{at_end, attribute_filter_of, begins_word, behind, behind_space, between, between_commas, between_dots, closed}
pub use Rattle.dom_text.specs.Readers.{component_of, escaped, filter_with, flag_at, flag_found, full_name_of, in_digits, inner_node, is_no_colon, is_number}
pub use Rattle.dom_text.specs.Readers.{is_positive, item, label_of, last_as, named, name_filter_of, next_as, next_string, next_word, node_word_of, numbered}
pub use Rattle.dom_text.specs.Readers.{number_of, on, only_if, or_else, owner_of, page_node, path_onto, Place, positive_of, Read, read_byte, read_digit, Reader}
pub use Rattle.dom_text.specs.Readers.{read_on, show_of, show_of_names, string_at, take_name, units_at, with_unit, word_at, wrong, ◌>>=◌}
pub use Rattle.dom_text.specs.Text.{attribute_text, boundary_text, change_text, closes, event_text, hex_digits, is_line_of, list_text, next_node_text}
pub use Rattle.dom_text.specs.Text.{node_or_null, nodes_text, node_text, node_text_of, opening_text, opens, output_line, output_text, own_parts, said_text}
pub use Rattle.dom_text.specs.Text.{side_text, steps_text, step_text, string_or_null, string_text, TreeStep, trees_text, truth_text, unit_text, value_text}
pub use Rattle.dom_text.specs.Tokens.{AreItems, ArePositive, backslash, by_digits, hex_value, if_chosen, IsAttributeFilter, IsComponent, IsFullName, IsHex}
pub use Rattle.dom_text.specs.Tokens.{IsItem, IsLabel, is_label_byte, IsName, IsNameFilter, IsNode, IsNumber, IsNumbered, IsOwner, IsPlainUnit, IsPositive}
pub use Rattle.dom_text.specs.Tokens.{IsShow, IsString, IsWord, IsWordByte, itself, path_from, quote, show_all, shown_words}
pub use Rattle.dom_text.specs.Words.{actions_listed, action_word, component_word, end_word, kind_word, moves_listed, move_word, new_kinds, next_number_text}
pub use Rattle.dom_text.specs.Words.{numbers_text, owner_word, verdict_word}
