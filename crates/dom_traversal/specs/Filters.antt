-- What a filter of the code says, in the words of the model.
use Rattle.std.specs.Prelude.{ℕ, Bool, not, ◌==◌, bit_and, String}
use Rattle.std.specs.Global.{Global}
use Rattle.std.specs.Option.{option_map}
use Rattle.std.specs.String.{string_bytes}
use Rattle.dom_base.specs.declared.Verdict.{Verdict}
use Rattle.dom_model.specs.Command.{Show, NameFilter, Filter as ModelFilter}
use Rattle.dom_traversal.specs.declared.filter.Filter.{Filter}

-- whether a number has this bit, a power of two
abbrev pub has_bit : ℕ → ℕ → Bool
has_bit number bit = not (bit_and number bit == 0)

-- the kinds of node that a number shows by its bits 0 to 4
abbrev pub show_of : ℕ → Show
show_of number =
    record { element = has_bit number 1; text = has_bit number 2; comment = has_bit number 4; document = has_bit number 8; fragment = has_bit number 16 }

-- the name and its verdict
abbrev pub name_filter_of : String Global × Verdict → NameFilter
name_filter_of p = record { name = string_bytes p.0; verdict = p.1 }

-- the filter that the code's fields stand for
abbrev pub filter_of : Filter → ModelFilter
filter_of f = record { shown = show_of f.show; named = option_map name_filter_of f.name }
