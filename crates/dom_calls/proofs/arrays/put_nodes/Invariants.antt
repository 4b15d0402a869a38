-- The nodes so far.
use Rattle.std.specs.Prelude.{◌≡◌, map, take}
use Rattle.dom_calls.specs.Owners.{named_in}
use Rattle.dom_calls.proofs.arrays.put_nodes.Given as goal

abbrev pub invariant-loop-name : goal.invariant-loop-name
invariant-loop-name l = map (named_in l.owners) l.out.items ≡ take l.name-index l.names
