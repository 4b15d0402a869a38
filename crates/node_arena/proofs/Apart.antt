-- Where owned cells lie: each in a block, and no two at one place. Assumes `Logic`.
use Rattle.std.proofs.Common.{◌≡◌, ◌<◌, true, false, List, [], ◌∷◌, None, refl, subst, arith}
use seplogic.Ra.Ura.{Ura}
use base.Fraction.{full_share}
use mir.Val.{Val}
use base.Logic.{ent, sep, never, never_e, via, fst∗}
use base.Fml.{fat, froom}
use prog.Memory.{size}
use prog.Model.{Model}
use types.Logic.{Logic, sem}
use contract.Monad.{fact, fact_i, fact_use}
use types.Kit.{Item, Goal, Seq, mean, prop, ‵, raw, some, ◌⊛◌, ◌$◌, ◌∵◌, !, qed, by, move, keep, use1, use2, pick, split, fsplit, done}
use denote.RattleType.{RattleType}
use denote.Memory.{part_at}
use denote.Param.{param, layout}
use denote.RawPtr.{Ptr, block_ptr, null_ptr, lies_at}
use borrow.Table.OneValue.{part_out}
use Rattle.node_arena.specs.Owned.{Heap, Placed, same_ptr, value_at, pool_owns}
use Rattle.node_arena.proofs.Places.{same_ptr_eq}

module _ {M : Type 1} {𝓤 : Ura M} {𝓛 : Logic 𝓤} {K : Type 0} {Γ : List (Item 𝓤)} {G : Goal 𝓤 𝓛.H} where
  -- a fact that two entries show is learned, and they stay
  pub knows : K → {i j : Item 𝓤} (φ : Type 0) → ent 𝓤 (sep 𝓤 (mean 𝓛 i) (mean 𝓛 j)) (fact 𝓤 φ) → (φ → Seq K 𝓛 (i ∷ j ∷ Γ) G) → Seq K 𝓛 (i ∷ j ∷ Γ) G
  knows t {i} {j} φ h k =
      let shown : Seq K 𝓛 (i ∷ j ∷ Γ) (prop (fact 𝓤 φ)) = use2 𝓛 (raw (fact 𝓤 φ)) h $ keep t (0 ∷ []) $ done t in
      record { prf = fact_use 𝓤 φ shown.prf (λ x. (k x).prf) }

module _ {M : Type 1} {𝓤 : Ura M} (𝓛 : Logic 𝓤) (𝓜 : Model 𝓤 𝓛.H) (V : RattleType) (sized : 0 < size (layout V)) where
  -- the type parameter's row
  abbrev R : RattleType
  R = param 0 V

  -- two values of some size do not lie at one place
  clash : (p : Ptr) (x y : V.Denot) → ent 𝓤 (sep 𝓤 (sem 𝓛 (lies_at R full_share p x)) (sem 𝓛 (lies_at R full_share p y))) (never 𝓤)
  clash (block_ptr b o) x y =
      qed 𝓛 (‵ (part_at R full_share x b o) ∷ ‵ (part_at R full_share y b o) ∷ []) ∵
      use1 𝓛 (some (λ (v : Val). ‵ (fat full_share (layout V) b o v) ⊛ ‵ (R.own_val x (v ∷ [])))) (part_out 𝓛 R refl full_share x b o) $ pick !
      (λ v. split ! $ move ! (2 ∷ []) $
      use1 𝓛 (some (λ (w : Val). ‵ (fat full_share (layout V) b o w) ⊛ ‵ (R.own_val y (w ∷ [])))) (part_out 𝓛 R refl full_share y b o) $ pick !
      (λ w. split ! $ move ! (2 ∷ []) $
      use1 𝓛 (‵ (froom (layout V) b o)) (𝓛.laws.at_room (layout V) b o v) $ keep ! (0 ∷ 1 ∷ []) $
      by ! (𝓜.room_at (layout V) (layout V) b o o o full_share w (omega arith, omega arith) (omega arith, omega arith))))
  clash null_ptr x y = fst∗ 𝓤 (never 𝓤) (never 𝓤)

  -- so their places differ
  differ : (p q : Ptr) (x y : V.Denot) → ent 𝓤 (sep 𝓤 (sem 𝓛 (lies_at R full_share p x)) (sem 𝓛 (lies_at R full_share q y))) (fact 𝓤 (same_ptr p q ≡ false))
  differ p q x y = (elim (same_ptr p q) as
      (λ t. same_ptr p q ≡ t → ent 𝓤 (sep 𝓤 (sem 𝓛 (lies_at R full_share p x)) (sem 𝓛 (lies_at R full_share q y))) (fact 𝓤 (same_ptr p q ≡ false))) [
        | true ↦ λ e. via 𝓤 (never 𝓤) (subst (λ r. ent 𝓤 (sep 𝓤 (sem 𝓛 (lies_at R full_share p x)) (sem 𝓛 (lies_at R full_share r y))) (never 𝓤))
            (same_ptr_eq p q e) (clash p x y)) (never_e 𝓤 _)
        | false ↦ λ e. fact_i 𝓤 (same_ptr p q ≡ false) _ e
      ]) refl

  -- a cell that the pool does not own lies apart from those that it owns
  pub fresh : (heap : Heap) (ns : List (Placed V.Denot)) (p : Ptr) (x : V.Denot) →
      ent 𝓤 (sep 𝓤 (sem 𝓛 (lies_at R full_share p x)) (sem 𝓛 (pool_owns heap R ns))) (fact 𝓤 (value_at ns p ≡ None))
  fresh heap [] p x = fact_i 𝓤 (value_at {V = V.Denot} [] p ≡ None) _ refl
  fresh heap (n ∷ ns) p x =
      qed 𝓛 (‵ (lies_at R full_share p x) ∷ ‵ (pool_owns heap R (n ∷ ns)) ∷ []) ∵ move ! (1 ∷ []) $ fsplit ! $ fsplit ! $ move ! (0 ∷ 3 ∷ []) $
      knows ! (same_ptr n.at p ≡ false) (differ n.at p n.value x) (λ here. move ! (1 ∷ 3 ∷ []) $
      knows ! (value_at ns p ≡ None) (fresh heap ns p x) (λ rest. by ! (fact_i 𝓤 (value_at (n ∷ ns) p ≡ None) _ (rw here rest))))
