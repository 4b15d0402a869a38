-- A struct of one field that takes no bytes, as a pool. Assumes `Logic`.
use mathlib.Core.Path.{◌≡◌, refl, subst}
use mathlib.Core.List.{List, [], ◌∷◌, ◌++◌}
use seplogic.Ra.Ura.{Ura}
use mir.Val.{Val, vstruct, vcons, vnil, of_list}
use base.Logic.{ent, emp}
use types.Logic.{Logic, sem}
use types.Kit.{Item, Goal, Seq, ‵, drop, fsplit, fpick, feq_l, ◌$◌}
use denote.RattleType.{RattleType}
use denote.Shadow.{makes_shadow}
use denote.Struct.Struct.{Struct}
use denote.Struct.Owning.{shape}
use Rattle.node_arena.specs.contracts.pool.Pool as C

-- what the machine stores of it
abbrev pub mark : Val
mark = vstruct (vcons (vstruct vnil) vnil)

-- the fields of a pool
abbrev pub Mark : RattleType → RattleType
Mark V = Struct (shape (C.the_type V))

-- it is made of nothing
pub mark_made : (V : RattleType) {M : Type 1} {𝓤 : Ura M} (𝓛 : Logic 𝓤) → ent 𝓤 (emp 𝓤) (sem 𝓛 ((Mark V).own_val (tt, tt) (mark ∷ [])))
mark_made V 𝓛 = makes_shadow 𝓛 ((Mark V).own_val (tt, tt) (mark ∷ [])) (λ vss. (tt, ((λ uss. (tt, tt)), tt)))
    ((vstruct vnil ∷ [], tt), (refl, ((tt, (refl, tt)), tt)))

-- what is had of it tells what the machine stores
module _ {M : Type 1} {𝓤 : Ura M} {𝓛 : Logic 𝓤} {K : Type 0} {Γ : List (Item 𝓤)} {G : Goal 𝓤 𝓛.H} where
  pub mark_had : K → (V : RattleType) (vs : List Val) → (vs ≡ mark ∷ [] → Seq K 𝓛 Γ G) → Seq K 𝓛 (‵ ((Mark V).own_val (tt, tt) vs) ∷ Γ) G
  mark_had t V vs k = fpick t (λ vss. fsplit t $ feq_l t (λ ev. fsplit t $ fpick t (λ uss. fsplit t $ feq_l t (λ e. drop t $ drop t $
      k (subst (λ (ws : List Val). vs ≡ vstruct (of_list (ws ++ [])) ∷ []) e ev)))))
