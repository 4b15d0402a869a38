-- A `&` to the pool reaches each cell. Assumes `Logic`.
use mathlib.Core.List.{[], ◌++◌}
use base.Fml.{Incl-trans}
use contract.BorrowLft.{meet_⊑_left}
use denote.RattleType.{RattleType}
use denote.RawPtr.{RawPtr}
use denote.Param.Laws.{Laws}
use denote.Param.Shared.{copy_shared}
use denote.Struct.Laws.{field_copy}
use denote.Struct.Lending.{of_Lends}
use Rattle.std.specs.contracts.marker.PhantomData as marker
use Rattle.node_arena.specs.contracts.pool.Pool as C
use Rattle.node_arena.proofs.pool.Pool.TheLaw.Statement.{statement}
use Rattle.node_arena.proofs.Sharing.{pool_lent_laws, Lends-pool}

pub shares : (V : RattleType) (L : Laws V) → statement V L
shares V L = of_Lends (C.struct V) (C.the_codes V.Denot V.coded (marker.the_row RawPtr).coded) (C.the_heap V) (C.the_lent V)
    (λ d p. pool_lent_laws V L.shr_laws d.cells) (copy_shared (marker.the_field RawPtr) (field_copy (marker.the_type RawPtr) tt), tt)
    (λ M 𝓤 𝓛 d p. Lends-pool 𝓛 (C.the_row V).lives d.heap V L (Incl-trans (meet_⊑_left (V.lives ++ []) _) (meet_⊑_left V.lives [])) d.cells)
