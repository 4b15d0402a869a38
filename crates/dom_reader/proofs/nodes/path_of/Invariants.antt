-- The numbers that are left go behind those of the path so far.
use Rattle.dom_base.proofs.Std.{◌≡◌}
use Rattle.dom_model.proofs.Model.{no_path}
use Rattle.dom_text.specs.Definitions.{between_dots, path_onto}
use Rattle.dom_reader.specs.Filters.{parts_view}
use Rattle.dom_reader.proofs.Commas.{parts_len}
use Rattle.dom_reader.proofs.nodes.path_of.Given as goal

abbrev pub invariant-loop-parts : goal.invariant-loop-parts
invariant-loop-parts l = path_onto l.path (parts_view 46 l.parts) ≡ path_onto no_path (between_dots l.fn.text)

abbrev pub decreases-loop-parts : goal.decreases-loop-parts
decreases-loop-parts l = parts_len l.parts
