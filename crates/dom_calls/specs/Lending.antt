-- The arrays of the last call, as they are lent to C.
use Rattle.std.specs.Prelude.{◌≡◌, ℕ, ◌-◌, false, if◌then◌else◌, [], length, map, take}
use Rattle.dom_calls.specs.declared.structs.DomAnswer.{DomAnswer}
use Rattle.dom_calls.specs.Arrays.{attribute_in, item_in, nodes_opened, parents_after, row_in}
use Rattle.dom_calls.specs.Owners.{named_in}
use Rattle.dom_calls.specs.State.{CallState}

-- nothing has changed but the arrays that are lent, and memory was not refused
abbrev pub HoldsOn : CallState → CallState → Type 0
HoldsOn was is =
    (is.world ≡ was.world) × ((is.answer ≡ was.answer) × ((is.has_reply ≡ was.has_reply) × ((is.owners ≡ was.owners) × (is.has_failed ≡ was.has_failed))))

-- the rows are those of the answer: its nodes in tree order, each with the row of its parent
abbrev pub ShowsRows : CallState → Type 0
ShowsRows s =
    (map (row_in s.owners) s.lent.rows ≡ nodes_opened s.answer.arrays.rows)
    × (map (λ row. row.parent) s.lent.rows ≡ parents_after 0 [] s.answer.arrays.rows)

-- the arrays that are lent say all that the arrays of the answer say, and the deliveries its items before its reply
abbrev pub ShowsAll : CallState → Type 0
ShowsAll s =
    (map (named_in s.owners) s.lent.nodes ≡ s.answer.arrays.nodes)
    × ((s.lent.units ≡ s.answer.arrays.units)
    × ((s.lent.bytes ≡ s.answer.arrays.bytes)
    × ((map attribute_in s.lent.attributes ≡ s.answer.arrays.attributes)
    × (ShowsRows s
    × (map (item_in s.owners) s.lent.deliveries ≡ (if s.has_reply then take (length s.answer.items - 1) s.answer.items else s.answer.items))))))

-- an answer of C has the addresses and lengths of the arrays that are lent, and no callback is due
abbrev pub LendsAt : CallState → DomAnswer → Type 0
LendsAt s a =
    ((a.deliveries ≡ s.lent.deliveries_at) × (a.delivery_count ≡ length s.lent.deliveries))
    × (((a.nodes ≡ s.lent.nodes_at) × (a.node_count ≡ length s.lent.nodes))
    × (((a.rows ≡ s.lent.rows_at) × (a.row_count ≡ length s.lent.rows))
    × (((a.attributes ≡ s.lent.attributes_at) × (a.attribute_count ≡ length s.lent.attributes))
    × (((a.units ≡ s.lent.units_at) × (a.unit_count ≡ length s.lent.units))
    × (((a.bytes ≡ s.lent.bytes_at) × (a.byte_count ≡ length s.lent.bytes))
    × (a.called.count ≡ 0))))))

-- the handle holds what it held, and this answer of C is what the last call left
abbrev pub LendsTo : DomAnswer → CallState → CallState → Type 0
LendsTo a was is = HoldsOn was is × (ShowsAll is × LendsAt is a)
