use Rattle.dom_admission.proofs.Cited.{◌≡◌, ◌++◌, map, take, name_at}
use Rattle.dom_admission.proofs.names.put_names.Given as goal

abbrev pub invariant-loop-key : goal.invariant-loop-key
invariant-loop-key l = l.names.items ≡ l.initial.names.items ++ map (name_at l.forest.names) (take l.key-index l.keys)
