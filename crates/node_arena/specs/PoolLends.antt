-- What a pool ends as, where a `&mut` to one of its cells is returned.
use Rattle.std.specs.Borrow.{Lends, Fml, RattleType, MutBor}
use denote.RawPtr.{Ptr}
use Rattle.node_arena.specs.Owned.{set_at}
use Rattle.node_arena.specs.declared.pool.Pool.{Pool}
use Rattle.node_arena.specs.contracts.pool.Pool.{the_row}

-- own rule: the pool with another value in the cell at p
abbrev pub with_cell : {V : Type 0} → Pool V → Ptr → V → Pool V
with_cell d p w = record d { cells = set_at d.cells p w }

-- own rule: once the borrow r ends, the cell at p has the last value written through r
abbrev pub lends_cell : (V : RattleType) → MutBor (Pool V.Denot) → Ptr → MutBor V.Denot → Fml
lends_cell V d p r = Lends (the_row V) V d r (with_cell d.now p)
