-- What proofs cite of the standard library: its types, functions and lemmas.
pub use Rattle.std.proofs.Common.{add-one, All, ap, append_assoc, append-nil, ap₂, arith, Bool, Bor, bytes_eq, codes, cond, count_by, drop, drop-cons, eqb}
pub use Rattle.std.proofs.Common.{eq-eqb, eq-or-lt_of_le, Err, false, filter, filter_map, find, flat_map, fold, get_or, Global, IfErr, IfSome, if◌then◌else◌}
pub use Rattle.std.proofs.Common.{inl, inr, is_none, IsSome, is_some, IsTrue, leb, length, length-append, length-drop, length-set, length-take, List, ltb, map}
pub use Rattle.std.proofs.Common.{max, min, nat_eq, nat_le, nat_lt, None, not, Ok, one-add, OnErr, OnOk, Option, option_map, option_to_list, position, refl}
pub use Rattle.std.proofs.Common.{replicate, Result, reverse, rules, set, slice_index_or, slice_set, Some, string_bytes, subst, suc, sym, take, take_while}
pub use Rattle.std.proofs.Common.{tests, true, true≢false, unwrap_or, Vec, w64, zero, zero-add, [], ◌%◌, ◌&&◌, ◌*◌, ◌++◌, ◌+◌, ◌-◌, ◌/◌, ◌<◌, ◌==◌, ◌^◌, ◌||◌}
pub use Rattle.std.proofs.Common.{◌↔◌, ◌∙◌, ◌∷◌, ◌≡◌, ◌≢◌, ◌≤◌, ◌⊎◌, ℕ}
pub use Rattle.std.proofs.KnownBytes.{Appends-kept, Appends-nil, Appends-trans, Consumes-nil, Consumes-trans, Consumes-whole}
pub use Rattle.std.proofs.Math.Bool.{and-false, and-not_self, and-true, or-false, or-true}
pub use Rattle.std.proofs.Math.ListN.{drop_of_length-le, get_or-append}
pub use Rattle.std.proofs.Math.Nat.{add-zero, min_comm, pow-le-pow_right}
pub use Rattle.std.proofs.Math.Seq.{get_or-append_seam, set-append_seam, take-append-add, take-append_seam, take-length, take-suc, take-suc-set}
pub use Rattle.std.proofs.lemmas.Bool.{and_cases, and_from, and_left, and_parts, and_right, both_ways, cases_Bool, cases_eq, cases_lt, cases_order, cond_both}
pub use Rattle.std.proofs.lemmas.Bool.{cond-false, cond-true, eqb-false, eqb-true, false_from_ne_true, false≢true, leb-false, leb-true, le-leb, le-ltb}
pub use Rattle.std.proofs.lemmas.Bool.{ltb-false, ltb_from_iff, ltb-true, lt-leb, lt-ltb, ne_eqb, not-false, not_from_false, not_from_true, not-true, or_cases}
pub use Rattle.std.proofs.lemmas.Bool.{or_from, or_left, or_parts, or_right, true_from_ne_false}
pub use Rattle.std.proofs.lemmas.Bool.Decides.{Decides-eqb, eqb_tells, nat_tests}
pub use Rattle.std.proofs.lemmas.Cmp.{nat_list_eq_equiv}
pub use Rattle.std.proofs.lemmas.Fmt.{decimal_digit, decimal-digits_value, decimal_is_IsNumeral, first_decimal, length-decimal-le}
pub use Rattle.std.proofs.lemmas.Fn.{filter_same}
pub use Rattle.std.proofs.lemmas.Grind.{common_steps, flat_map-append, get_or_default_zero, pow_more}
pub use Rattle.std.proofs.lemmas.Iterator.{items_from_drains, YieldsList-from_slice}
pub use Rattle.std.proofs.lemmas.Iterator.Consumers.{YieldsList-from_copied}
pub use Rattle.std.proofs.lemmas.Iterator.Search.{any_from_yields_List}
pub use Rattle.std.proofs.lemmas.List.{append_cancel_right, drop-append-le, drop_at, drop_more, drop-set-lt, ext_get_or, flat_map_more}
pub use Rattle.std.proofs.lemmas.List.{get_or_append_left, get_or-append_right, get_or_default, get_or-drop, get_or-map, get_or_push, get_or-set_other}
pub use Rattle.std.proofs.lemmas.List.{get_or-set_same, get_or-take, length-map, length_push, length-take-le, map-append, map-id, map_more, map_push}
pub use Rattle.std.proofs.lemmas.List.{map-set, nil_from_length, reverse-append, set_past, take_all, take-append-drop, take-append-le, take_at}
pub use Rattle.std.proofs.lemmas.List.{take-map, take_min, take_more, take_rest, take-set-le, take-take}
pub use Rattle.std.proofs.lemmas.List.Concat.{flat_map-cons}
pub use Rattle.std.proofs.lemmas.List.Edits.{get_or-remove_above, get_or-remove_below, length-remove}
pub use Rattle.std.proofs.lemmas.List.Elements.{All-append, All-cons, All-filter, All-from_recursion, All-head, All-map, All-nil, All-push, All-tail}
pub use Rattle.std.proofs.lemmas.List.Elements.{All-weaker, Contains-append_cases, Contains-append_right, filter_agree, filter-append, filter_map-append}
pub use Rattle.std.proofs.lemmas.List.Elements.{filter_more}
pub use Rattle.std.proofs.lemmas.List.Filters.{length-filter_both}
pub use Rattle.std.proofs.lemmas.List.Folds.{find-append, list_all-append, list_all_at, list_any-append, list_any_at}
pub use Rattle.std.proofs.lemmas.List.Quantifiers.{position-Some}
pub use Rattle.std.proofs.lemmas.List.Sorted.{All-permutation, Contains-permutation, IsNonDecreasingBy-from_sort_by_key, IsPartitionPoint-from_clause}
pub use Rattle.std.proofs.lemmas.List.Sorted.{IsPermutation-append_comm, IsPermutation-cons, IsPermutation-put_mid, IsPermutation-refl}
pub use Rattle.std.proofs.lemmas.List.Sorted.{IsPermutation-remove, IsPermutation-sym, IsPermutation-trans, length_permutation, sum_by-IsPermutation}
pub use Rattle.std.proofs.lemmas.List.Splits.{join_with_byte-slice_split, length-slice_split, slice_split_at, slice_split_none}
pub use Rattle.std.proofs.lemmas.List.Sums.{AllPass-from_list_all, fold-append, fold_more, get_or-le-sum_by, prefix_len-le-length, prefix_len_stops}
pub use Rattle.std.proofs.lemmas.List.Sums.{sum_by-append, sum_by-cons, take_while-cons}
pub use Rattle.std.proofs.lemmas.Map.Text.{hash_set_updates_text}
pub use Rattle.std.proofs.lemmas.Map.Views.{any-filter_same}
pub use Rattle.std.proofs.lemmas.Option.{get_or_from_slice_get, none-some, same_Some, slice_get_cases, slice_get-get_or, slice_get-map, slice_get_past}
pub use Rattle.std.proofs.lemmas.Option.{slice_get_read, slice_get_within, some_pair_parts, unwrap_or-slice_get}
pub use Rattle.std.proofs.lemmas.Result.{err_from_is_err_and, IfOk-weaker, MatchResult-weaker, on_err_weaker, on_ok_weaker}
pub use Rattle.std.proofs.lemmas.Slice.Eq.{bytes_eq-Decides, starts_is}
pub use Rattle.std.proofs.lemmas.Str.{IsUtf8-from_ascii}
pub use Rattle.std.proofs.lemmas.Str.Parse.{digit_from_value, digits_value_short, IsNumeralModel, numerals_by_value}
pub use Rattle.std.proofs.raw_atomic.Walks.{leaves, proved_at}
pub use Rattle.std.specs.Bool.{beq}
pub use Rattle.std.specs.Char.{digit_char, digit_value, is_ascii_digit, is_ascii_graphic, is_ascii_hexdigit}
pub use Rattle.std.specs.Cmp.Lexicographic.{other_text, pointwise, same_text}
pub use Rattle.std.specs.Fmt.{decimal, digit_glyph, digits_onto}
unfoldable pub use Rattle.std.specs.Fmt.{digits}
pub use Rattle.std.specs.HashMap.{get, get_by}
pub use Rattle.std.specs.HashSet.{contains_text}
pub use Rattle.std.specs.Int.{IsInRange, is_in_range}
pub use Rattle.std.specs.Io.KnownBytes.{Consumes, IsAtEnd, Keeps}
pub use Rattle.std.specs.List.{AllByRecursion, cons_option, Contains, insert, join_with_byte, last_or, list_all, list_any, position_or_len, prefix_len}
pub use Rattle.std.specs.List.{range_with_len, remove, RotatedLeft, slice_split, starts_with, SwappedAt}
unfoldable pub use Rattle.std.specs.List.{IsDistinct}
pub use Rattle.std.specs.List.Sorted.{IsNonDecreasingBy, IsPartitionedBy, IsPermutation}
pub use Rattle.std.specs.Map.{lookup, remove_entry}
pub use Rattle.std.specs.Option.{ForSome, option_and_then, option_eq, option_flatten, option_map_or, option_or}
pub use Rattle.std.specs.Prelude.{IfOk, is_err, IsErrAnd, MatchOption, option_copied, slice_get, slice_range, ⊤}
pub use Rattle.std.specs.Rc.{rc_str_bytes}
pub use Rattle.std.specs.Result.{IsErr, IsOk, is_ok, MatchResult}
pub use Rattle.std.specs.Str.{IsAscii, IsUtf8}
pub use Rattle.std.specs.Str.Parse.{AllDigits, digits_value, digits_value_after, IsNumeral}
pub use Rattle.std.specs.String.{string_eq}
pub use Rattle.std.specs.Vec.{vec_capacity, vec_len, with_item}
