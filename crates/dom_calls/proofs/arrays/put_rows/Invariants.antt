-- The rows so far, with those that are still to come.
use Rattle.std.specs.Prelude.{◌≡◌, ◌++◌, [], drop, length, map}
use Rattle.dom_calls.specs.declared.structs.DomRow.{DomRow}
use Rattle.dom_calls.specs.Arrays.{nodes_opened, parents_after, row_in}
use Rattle.dom_calls.proofs.arrays.put_rows.Given as goal

abbrev pub invariant-loop-row : goal.invariant-loop-row
invariant-loop-row l =
    (map (row_in l.owners) l.out.items ++ nodes_opened (drop l.row-index l.rows) ≡ nodes_opened l.rows)
    × (map (λ (r : DomRow). r.parent) l.out.items ++ parents_after (length l.out.items) l.above.items (drop l.row-index l.rows) ≡ parents_after 0 [] l.rows)
