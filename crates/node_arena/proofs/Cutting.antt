-- One cell taken out of those that a pool owns, and put back. Assumes `Logic`.
use mathlib.Core.List.{List, [], ◌∷◌, ◌++◌}
use seplogic.Ra.Ura.{Ura}
use base.Logic.{ent, sep, id⊢}
use types.Logic.{Logic, sem}
use types.Kit.{‵, ◌⊛◌, ◌$◌, ◌∵◌, !, qed, move, use1, use2, split, fsplit, fjoin, done}
use denote.RattleType.{RattleType}
use Rattle.node_arena.specs.Owned.{Heap, Placed, cell_owns, pool_owns}

module _ {M : Type 1} {𝓤 : Ura M} (𝓛 : Logic 𝓤) (heap : Heap) (V : RattleType) where
  -- one cell taken out
  pub cell_cut : (xs : List (Placed V.Denot)) (n : Placed V.Denot) (ys : List (Placed V.Denot)) →
      ent 𝓤 (sem 𝓛 (pool_owns heap V (xs ++ n ∷ ys))) (sep 𝓤 (sem 𝓛 (cell_owns heap V n)) (sem 𝓛 (pool_owns heap V (xs ++ ys))))
  cell_cut [] n ys = id⊢ 𝓤 _
  cell_cut (x ∷ xs) n ys = qed 𝓛 (‵ (pool_owns heap V (x ∷ xs ++ n ∷ ys)) ∷ []) ∵ fsplit ! $ move ! (1 ∷ []) $
      use1 𝓛 (‵ (cell_owns heap V n) ⊛ ‵ (pool_owns heap V (xs ++ ys))) (cell_cut xs n ys) $ split ! $ move ! (2 ∷ 1 ∷ []) $ fjoin ! $ move ! (1 ∷ []) $ done !

  -- one cell put back
  pub cell_glue : (xs : List (Placed V.Denot)) (n : Placed V.Denot) (ys : List (Placed V.Denot)) →
      ent 𝓤 (sep 𝓤 (sem 𝓛 (cell_owns heap V n)) (sem 𝓛 (pool_owns heap V (xs ++ ys)))) (sem 𝓛 (pool_owns heap V (xs ++ n ∷ ys)))
  cell_glue [] n ys = id⊢ 𝓤 _
  cell_glue (x ∷ xs) n ys = qed 𝓛 (‵ (cell_owns heap V n) ∷ ‵ (pool_owns heap V (x ∷ xs ++ ys)) ∷ []) ∵ move ! (1 ∷ []) $ fsplit ! $ move ! (2 ∷ 1 ∷ []) $
      use2 𝓛 (‵ (pool_owns heap V (xs ++ n ∷ ys))) (cell_glue xs n ys) $ move ! (1 ∷ 0 ∷ []) $ fjoin ! $ done !
