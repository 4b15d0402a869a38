-- A `&` to a pool is made where one to each cell is. Assumes `Logic`.
use mathlib.Core.List.{List, [], ◌∷◌, ◌++◌}
use seplogic.Ra.Ura.{Ura}
use base.Fraction.{full_share}
use base.Logic.{ent, via, fst∗, snd∗}
use base.Fml.{Lft, Incl, ftrue}
use types.Logic.{Logic, sem}
use mir.Raw.{raw as bare}
use denote.RattleType.{RattleType, RowLaws}
use denote.Memory.{lone}
use denote.Param.Laws.{Laws}
use denote.RawPtr.{lies_at}
use denote.Sharing.{ShrLaws}
use denote.SharingLaws.{beside_shr_laws, nothing_shr_laws}
use denote.Shares.{Shares-less}
use denote.Struct.Lending.{Lends, lent_at, lent_at_shr_laws, Lends-lies, Lends-first, Lends-both, Lends-nothing}
use Rattle.node_arena.specs.Owned.{Heap, may_free, Placed, cell_owns, pool_owns, pool_lent}

module _ (V : RattleType) (LV : RowLaws V) where
  -- what is lent of all cells is shared as any reference is
  pub pool_lent_laws : (ns : List (Placed V.Denot)) → ShrLaws (pool_lent V ns)
  pool_lent_laws [] = nothing_shr_laws
  pool_lent_laws (n ∷ ns) = beside_shr_laws _ _ (lent_at_shr_laws V LV n.at n.value) (pool_lent_laws ns)

module _ {M : Type 1} {𝓤 : Ura M} (𝓛 : Logic 𝓤) (l : Lft) (heap : Heap) (V : RattleType) (LV : Laws V) (inc : Incl l V.lives) where
  -- a borrow of a cell's block lends the cell
  Lends-cell : (n : Placed V.Denot) → Lends 𝓛 (cell_owns heap V n) (lent_at V n.at n.value) l
  Lends-cell n =
      Lends-first 𝓛 (lies_at V full_share n.at n.value) (may_free heap (bare (lone V.mir)) n.at) (lent_at V n.at n.value) l
      (Lends-lies 𝓛 V l n.at n.value (Shares-less 𝓛 V V.lives l inc (LV.shares 𝓛) n.value))

  -- a borrow of all blocks lends all cells
  pub Lends-pool : (ns : List (Placed V.Denot)) → Lends 𝓛 (pool_owns heap V ns) (pool_lent V ns) l
  Lends-pool [] = Lends-nothing 𝓛 ftrue l
  Lends-pool (n ∷ ns) = Lends-both 𝓛 (cell_owns heap V n) (pool_owns heap V ns) (lent_at V n.at n.value) (pool_lent V ns) l (Lends-cell n) (Lends-pool ns)

-- what is lent of all shows what is lent of one
module _ {M : Type 1} {𝓤 : Ura M} (𝓛 : Logic 𝓤) (V : RattleType) (κ : Lft) where
  pub cell_seen : (xs : List (Placed V.Denot)) (n : Placed V.Denot) (ys : List (Placed V.Denot)) →
      ent 𝓤 (sem 𝓛 (pool_lent V (xs ++ n ∷ ys) κ)) (sem 𝓛 (lent_at V n.at n.value κ))
  cell_seen [] n ys = fst∗ 𝓤 _ (sem 𝓛 (pool_lent V ys κ))
  cell_seen (x ∷ xs) n ys = via 𝓤 _ (snd∗ 𝓤 (sem 𝓛 (lent_at V x.at x.value κ)) _) (cell_seen xs n ys)
