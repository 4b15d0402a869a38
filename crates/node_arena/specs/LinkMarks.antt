-- Which links of a cell are marked as leading to a cell.
use Rattle.std.specs.Prelude.{Bool, true, false, if◌then◌else◌}
use Rattle.node_arena.specs.declared.cell.Link.{Link}
use Rattle.node_arena.specs.declared.cell.Link.TheVariants.{Parent, First, Next, Prev, Back}
use Rattle.node_arena.specs.declared.link_marks.Marks.{Marks}
use Rattle.node_arena.specs.declared.link_marks.Back.{Back as BackMark}
use Rattle.node_arena.specs.declared.link_marks.Back.TheVariants as back

-- own rule: whether the link back leads to a sibling before
abbrev pub is_prev : BackMark → Bool
is_prev back.Nowhere = false
is_prev back.Around = false
is_prev back.Before = true

-- own rule: whether the link back leads to a cell
abbrev pub is_back : BackMark → Bool
is_back back.Nowhere = false
is_back back.Around = true
is_back back.Before = true

-- own rule: no link is marked
abbrev pub unmarked : Marks
unmarked = record { parent = false; first = false; next = false; back = back.Nowhere }

-- own rule: marks without those of a child's own links
abbrev pub without_own : Marks → Marks
without_own m = record m { parent = false; next = false; back = back.Nowhere }

-- own rule: whether a link is marked
abbrev pub mark_of : Marks → Link → Bool
mark_of m Parent = m.parent
mark_of m First = m.first
mark_of m Next = m.next
mark_of m Prev = is_prev m.back
mark_of m Back = is_back m.back

-- own rule: marks with that of one link set
abbrev pub with_mark : Marks → Link → Bool → Marks
with_mark m Parent leads = record m { parent = leads }
with_mark m First leads = record m { first = leads }
with_mark m Next leads = record m { next = leads }
with_mark m Prev leads = record m { back = if leads then back.Before else back.Nowhere }
with_mark m Back leads = record m { back = if leads then back.Around else back.Nowhere }
