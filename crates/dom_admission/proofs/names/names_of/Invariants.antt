use Rattle.dom_admission.proofs.Cited.{◌≡◌, map, take, name_at}
use Rattle.dom_printer.specs.Names.{name_view}
use Rattle.dom_admission.proofs.names.names_of.Given as goal

abbrev pub invariant-loop-key : goal.invariant-loop-key
invariant-loop-key l = map name_view l.names.items ≡ map (name_at l.forest.names) (take l.key-index l.keys)
