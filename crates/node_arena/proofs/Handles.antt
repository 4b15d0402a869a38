-- A `&` to the heap, which a box of the heap has for its allocator.
use Rattle.std.proofs.Common.{[], ◌∷◌, refl}
use denote.Ref.{NamedLft}
use denote.Builtin.{RefOf}
use contract.Lifetimes.{Lfts}
use denote.Signature.{Slot, plain, type_at, named_lft}
use denote.Struct.Field.{shr_ref_field}
use denote.Struct.Laws.{shr_ref_laws, shr_ref_copy}
use denote.Param.Laws.{Laws, of_field}
use denote.Param.Shared.{copy_shared}
use Rattle.std.proofs.alloc.Global.TheLaws as heap_laws
use Rattle.std.specs.contracts.alloc.Global as heap
use Rattle.std.specs.contracts.impls.GlobalAllocator.TheImpl.{ghosts as global}
use Rattle.std.specs.contracts.prelude.RefAllocator.TheImpl as by_ref
use Rattle.std.specs.declared.alloc.Allocator.{Ghosts}
use Rattle.bumpalo.specs.contracts.bump.BumpAllocator.TheImpl as bump
use Rattle.bumpalo.proofs.bump.Bump.TheLaws as bump_laws
use Rattle.node_arena.specs.Owned.{HeapRow}

-- the parameter
abbrev pub shown : Slot 2
shown = RefOf (0 ∷ []) tt (plain (λ _. HeapRow)) (λ _. tt)

-- its ghost members as an allocator
abbrev pub tokens : (κs : Lfts 2) → Ghosts (type_at shown κs).Denot
tokens κs = by_ref.ghosts HeapRow (bump.ghosts heap.the_row global bump.no_dict bump.no_dict) by_ref.no_dict by_ref.no_dict

-- its laws
pub handle_laws : (κs : Lfts 2) → Laws (type_at shown κs)
handle_laws κs =
    let a : NamedLft = named_lft 2 0 tt κs in
    let L = (bump_laws.the_row_laws heap.the_row global heap_laws.the_row_laws).shr_laws in
    of_field (shr_ref_field a HeapRow tt) (shr_ref_laws a HeapRow tt) refl (copy_shared (shr_ref_field a HeapRow tt) (shr_ref_copy a HeapRow tt L))
