-- What a pool owns and lends.
use Rattle.std.specs.Prelude.{Bool, true, false, ◌&&◌, ◌==◌, if◌then◌else◌, List, [], ◌∷◌, Option, Some, None}
use base.Fml.{Lft, Fml, ftrue, fsep}
use denote.RattleType.{RattleType}
use denote.Sharing.{nothing, beside}
use denote.RawPtr.{Ptr, block_ptr, null_ptr}
use denote.Struct.Lending.{lent_at}
use Rattle.std.specs.Box.Ownership.{box_owns}
use mir.Syntax.{Ty}
use Rattle.std.specs.Coded.{Coded}
use Rattle.std.specs.contracts.alloc.Global.{the_row as GlobalRow}
use Rattle.std.specs.contracts.impls.GlobalAllocator.TheImpl.{ghosts as global}
use Rattle.bumpalo.specs.contracts.bump.Bump.{the_row as BumpRow}
use Rattle.bumpalo.specs.contracts.bump.BumpAllocator.TheImpl.{ghosts, no_dict}

-- own rule: a cell: where it lies, and what it holds
pub record Placed (V : Type 0) : Type 0 where
  pub at : Ptr
  pub value : V

-- own rule: such a cell
abbrev pub placed : {V : Type 0} → Ptr → V → Placed V
placed p v = record { at = p; value = v }

-- own rule: whether two pointers are the same
abbrev pub same_ptr : Ptr → Ptr → Bool
same_ptr (block_ptr b o) (block_ptr c p) = (b == c) && (o == p)
same_ptr (block_ptr b o) null_ptr = false
same_ptr null_ptr (block_ptr c p) = false
same_ptr null_ptr null_ptr = true

-- own rule: the type of the bump allocator from which the blocks of the cells come
abbrev pub HeapRow : RattleType
HeapRow = BumpRow GlobalRow global

-- own rule: such an allocator
abbrev pub Heap : Type 0
Heap = HeapRow.Denot

-- own rule: its code
abbrev pub heap_code : Coded Heap
heap_code = HeapRow.coded

-- own rule: the right to give a block back to it
abbrev pub may_free : Heap → Ty → Ptr → Fml
may_free = (ghosts GlobalRow global no_dict no_dict).dealloc_token

module _ {V : Type 0} where
  -- own rule: what the cell at p holds, if one lies there
  abbrev pub value_at : List (Placed V) → Ptr → Option V
  value_at [] p = None
  value_at (n ∷ ns) p = if same_ptr n.at p then Some n.value else value_at ns p

  -- own rule: the cells with another value in the one at p
  abbrev pub set_at : List (Placed V) → Ptr → V → List (Placed V)
  set_at [] p w = []
  set_at (n ∷ ns) p w = if same_ptr n.at p then placed n.at w ∷ ns else n ∷ set_at ns p w

  -- own rule: the cells with the value in the one at p turned by f
  abbrev pub turned_at : List (Placed V) → Ptr → (V → V) → List (Placed V)
  turned_at [] p f = []
  turned_at (n ∷ ns) p f = if same_ptr n.at p then placed n.at (f n.value) ∷ ns else n ∷ turned_at ns p f

  -- own rule: the cells without the one at p
  abbrev pub without_at : List (Placed V) → Ptr → List (Placed V)
  without_at [] p = []
  without_at (n ∷ ns) p = if same_ptr n.at p then ns else n ∷ without_at ns p

module _ (heap : Heap) (V : RattleType) where
  -- own rule: a cell's block, and the right to free it
  abbrev pub cell_owns : Placed V.Denot → Fml
  cell_owns n = box_owns (may_free heap) V n.at n.value

  -- own rule: the blocks of all cells
  abbrev pub pool_owns : List (Placed V.Denot) → Fml
  pool_owns [] = ftrue
  pool_owns (n ∷ ns) = fsep (cell_owns n) (pool_owns ns)

module _ (V : RattleType) where
  -- own rule: what the holder of a `&` to the pool has of its cells
  abbrev pub pool_lent : List (Placed V.Denot) → Lft → Fml
  pool_lent [] = nothing
  pool_lent (n ∷ ns) = beside (lent_at V n.at n.value) (pool_lent ns)
