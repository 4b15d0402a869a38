-- The memory that an open handle owns.
use Rattle.std.specs.Prelude.{Option, Some, None}
use base.Fml.{Fml, ftrue}
use mir.Syntax.{Ty}
use denote.RattleType.{RattleType}
use denote.RawPtr.{Ptr}
use Rattle.std.specs.Box.Ownership.{box_owns}
use Rattle.std.specs.contracts.impls.GlobalAllocator.TheImpl.{ghosts}

-- the right to free a block of the heap
abbrev pub may_free : Ty → Ptr → Fml
may_free = ghosts.dealloc_token (record { memory = record { seal = tt } })

module _ (V : RattleType) where
  -- the block of what is held, and the right to free it; nothing where nothing is held
  abbrev pub owns_held : Option V.Denot → Ptr → Fml
  owns_held None at = ftrue
  owns_held (Some value) at = box_owns may_free V at value
