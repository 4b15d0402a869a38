-- The deliveries so far.
use Rattle.std.specs.Prelude.{◌≡◌, map, take}
use Rattle.dom_calls.specs.Arrays.{item_in}
use Rattle.dom_calls.proofs.told.put_deliveries.Given as goal

abbrev pub invariant-loop-item : goal.invariant-loop-item
invariant-loop-item l = map (item_in l.owners) l.out.items ≡ take l.item-index l.items
