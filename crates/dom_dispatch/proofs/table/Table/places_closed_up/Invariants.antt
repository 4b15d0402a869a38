use Rattle.dom_dispatch.proofs.Cited.{◌≡◌, ◌≤◌, filter, length, take, is_some, IsIndexed}
use Rattle.dom_dispatch.proofs.table.Table.places_closed_up.Given as goal

abbrev pub invariant-loop-entry : goal.invariant-loop-entry
invariant-loop-entry l = record {
  counted : l.count ≡ length (filter is_some (take l.entry-index l.self.entries.items));
  within : l.count ≤ l.entry-index;
  indexed : IsIndexed l.places (filter is_some (take l.entry-index l.self.entries.items));
}
