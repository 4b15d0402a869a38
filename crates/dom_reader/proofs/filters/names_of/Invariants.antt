-- The names so far and the parts that are left are all parts.
use Rattle.dom_base.proofs.Std.{◌≡◌, true, ◌++◌, map, string_bytes, list_all}
use Rattle.dom_model.proofs.Model.{is_name}
use Rattle.dom_text.specs.Definitions.{between_commas}
use Rattle.dom_reader.specs.Filters.{parts_view}
use Rattle.dom_reader.proofs.Commas.{parts_len}
use Rattle.dom_reader.proofs.filters.names_of.Given as goal

abbrev pub invariant-loop-parts : goal.invariant-loop-parts
invariant-loop-parts l =
    (map string_bytes l.names.items ++ parts_view 44 l.parts ≡ between_commas l.fn.text) × (list_all is_name (map string_bytes l.names.items) ≡ true)

abbrev pub decreases-loop-parts : goal.decreases-loop-parts
decreases-loop-parts l = parts_len l.parts
