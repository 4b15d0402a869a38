-- The rows so far.
use Rattle.std.specs.Prelude.{◌≡◌, map, take}
use Rattle.dom_calls.specs.declared.structs.DomRow.{DomRow}
use Rattle.dom_calls.specs.Arrays.{row_in}
use Rattle.dom_calls.specs.Looks.{bare_row, parents_row}
use Rattle.dom_calls.proofs.arrays.put_structure.Given as goal

abbrev pub invariant-loop-row : goal.invariant-loop-row
invariant-loop-row l =
    (map (row_in l.owners) l.out.items ≡ map bare_row (take l.row-index l.rows))
    × (map (λ (r : DomRow). r.parent) l.out.items ≡ map parents_row (take l.row-index l.rows))
