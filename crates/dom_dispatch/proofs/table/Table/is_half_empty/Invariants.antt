use Rattle.dom_dispatch.proofs.Cited.{◌≡◌, ◌≤◌, length, take, present}
use Rattle.dom_dispatch.proofs.table.Table.is_half_empty.Given as goal

abbrev pub invariant-loop-entry : goal.invariant-loop-entry
invariant-loop-entry l = record {
  counted : l.there ≡ length (present (take l.entry-index l.self.entries.items));
  within : l.there ≤ l.entry-index;
}
