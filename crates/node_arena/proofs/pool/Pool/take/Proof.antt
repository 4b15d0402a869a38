-- `take` takes a cell out of those that the pool owns. Assumes `Logic`.
use mathlib.Core.Path.{◌≡◌, refl, sym, subst}
use Prim.Native.Nat.{ℕ}
use mathlib.Core.List.{List, [], ◌∷◌, ◌++◌}
use mir.Syntax.{a_type}
use mir.MapTy.{inst_fn}
use mir.Val.{Val, vptr}
use base.Logic.{SProp, ent, emp, id⊢}
use base.Fml.{Lft, Fml, ftrue, fsep, flft}
use prog.Wp.{WpFn}
use types.Kit.{‵, raw, ◌⊛◌, ◌$◌, ◌∵◌, !, qed, by, move, keep, drop, use0, use1, split, join, rewrite, fsplit, fsplit3, fjoin, fjoin3, feq_i, feq_l, suffices}
use types.Part.{whole, sub, agg}
use types.Run.{stop, fld, of_opd, and_then, no_more, returns, enter}
use types.ByLocal.{alloc_all, pass_all, free_all, look_at, get, get_in, sets}
use contract.Monad.{fact, fact_i}
use contract.BorrowLft.{◌⊑◌}
use contract.Running.{tables}
use denote.Exit.{yes}
use denote.RattleType.{RattleType, owns}
use denote.Signature.{types_at, plain}
use denote.Param.{param, layouts}
use denote.RawPtr.{Ptr}
use denote.Steps.{nothing, heard, opens, closes}
use denote.Triple.Walked.{Stays, stay_ref, stay_dropped, walk_of, Goes-ref, Goes-dropped}
use Rattle.node_arena.proofs.Places.{First, first_at}
use Rattle.std.proofs.raw_atomic.Walks.{proved_at, leaves}
use Rattle.std_alloc.proofs.RcSteps.{word, word-Good, Ptr-Good}
use Rattle.std.specs.Prelude.{Some, IsSome}
use Rattle.node_arena.specs.Owned.{Heap, Placed, placed, value_at, without_at, cell_owns, pool_owns}
use Rattle.node_arena.proofs.Cutting.{cell_cut}
use Rattle.node_arena.proofs.Words.{word_had, word_made}
use Rattle.node_arena.specs.contracts.pool.Pool as C
use Rattle.node_arena.specs.contracts.pool.Place as N
use Rattle.node_arena.specs.contracts.pool.Pool.take.{ended, clauses}
use Rattle.node_arena.specs.contracts.pool.Pool.take.Key.{name as #self}
use Rattle.node_arena.proofs.pool.Pool.take.Statement.{statement}
use Rattle.node_arena.proofs.pool.Pool.take.Code as code

pub take_spec : {M : Type 1} → statement M
take_spec 𝓤 𝓛 𝓜 𝓡 wired V L =
    let H = 𝓛.H in let 𝓣 = tables 𝓤 H 𝓜 𝓡 𝓡.env in let R : RattleType = param 0 V in let En = ended V in let inst =
    layouts (a_type ∷ []) (V, tt) in let fn = inst_fn inst code.function in
    let Pr : RattleType = C.the_row R in let Np : RattleType = N.the_row in let c = clauses V 𝓛 𝓜.mem 𝓡.returns in
    let hs : Stays En.signature.params En.kept = (stay_ref (0 ∷ []) tt (plain (λ _. Pr)), (stay_dropped (plain (λ _. Np)) yes, tt)) in
    proved_at 𝓛 En hs c 𝓜 𝓡 (Goes-ref 𝓛 2 0 tt (plain (λ _. Pr)), (Goes-dropped 𝓛 2 (plain (λ _. Np)) yes (λ κs x f. refl), tt)) (#self inst) fn
    (code.unfolded 𝓤 H 𝓜 𝓡 wired (V, tt)) (λ z are.
    let κs = z.0.0 in let qs = z.0.1 in let a = z.0.3 in let κ : Lft = κs.0 in let b : ℕ = a.0.ref_ptr.0 in let o : ℕ =
    a.0.ref_ptr.1 in let d : Pr.Denot = a.0.now in let h : Heap = d.heap in let p : Ptr = a.1.0.ptr in
    let Post : Val → SProp 𝓤 = (walk_of 𝓛 En hs c).post z in let Run : List Val → SProp 𝓤 = λ ws. WpFn 𝓤 H 𝓣.C 𝓣.Λ fn ws Post in
    let others : Fml = fsep (flft κs.1.0 qs.1.0) ftrue in let new : Pr.Denot = record d { cells = without_at d.cells p } in
    qed 𝓛 (((‵ (flft κ qs.0) ⊛ ‵ others) ⊛ ‵ (owns (types_at En.signature.params κs) a z.0.4)) ∷ raw ((c κs a).requires z.1) ∷ []) ∵
    split ! $ move ! (2 ∷ []) $ use1 𝓛 (raw (fact 𝓤 (κs.1.0 ⊑ V.lives)) ⊛ raw (fact 𝓤 (IsSome (value_at d.cells p)))) (id⊢ 𝓤 _) $ split ! $ drop
    ! $ heard ! (IsSome (value_at d.cells p)) (λ asked. let spot : First d.cells p = first_at d.cells p asked in
    let xs = spot.before in let n : Placed V.Denot = spot.cell in let ys = spot.after in
    split ! $ move ! (2 ∷ []) $ fsplit ! $ fsplit3 ! $ feq_l ! (λ e0. move ! (2 ∷ []) $ fsplit ! $ word_had ! p z.0.4.1.0 (λ e1.
    suffices ! (Run (vptr b o ∷ word p ∷ []))
    (subst (λ (us : List Val). ent 𝓤 (Run (vptr b o ∷ word p ∷ [])) (Run us)) (sym (λ i. e0 i ++ (e1 i ++ [])))
    (id⊢ 𝓤 (Run (vptr b o ∷ word p ∷ [])))) $ drop ! $
    enter ! 𝓣.C 𝓣.Λ fn (vptr b o ∷ word p ∷ []) Post $ alloc_all ! (λ l. pass_all ! refl ((tt, tt), (word-Good [] p, tt)) $
    opens ! tt Pr {h = d} b o (λ us. move ! (1 ∷ []) $ fsplit ! $ move ! (1 ∷ []) $
    rewrite ! 0 (λ (ns : List (Placed V.Denot)). ‵ (pool_owns h R ns)) spot.is refl $ use1 𝓛 (‵ (cell_owns h R n) ⊛ ‵ (pool_owns h R (xs ++ ys)))
    (cell_cut 𝓛 h R xs n ys) $ split ! $
    rewrite ! 0 (λ (q : Ptr). ‵ (cell_owns h R (placed q n.value))) spot.at refl $ rewrite ! 1 (λ (ns : List (Placed V.Denot)). ‵ (pool_owns h R ns))
    (sym spot.gone) refl $
    move ! (2 ∷ 1 ∷ []) $ fjoin ! $ move ! (2 ∷ 0 ∷ 3 ∷ 4 ∷ 5 ∷ []) $ closes ! tt Pr new us b o $
    sets ! (of_opd ! (get_in ! (fld ! refl (stop !)) (sub ! 0 refl (whole !)))) refl (Ptr-Good p) $ sets !
    (agg ! (and_then ! (get ! refl) (no_more !))) refl (word-Good [] p) $
    -- [two parts of self; its token; the cell; the other token]
    returns ! (look_at ! 0 refl) $ free_all ! refl $ feq_i ! (List Val) z.0.4.0 (vptr b o ∷ []) e0 $ fjoin3 ! $ move ! (1 ∷ 3 ∷ []) $ join ! $
    nothing ! $ nothing ! $ fjoin ! $ move ! (2 ∷ 0 ∷ []) $ fjoin ! $ move ! (2 ∷ []) $ word_made ! p $ fjoin ! $
    use0 𝓛 (raw (fact 𝓤 (new.cells ≡ without_at d.cells p))) (fact_i 𝓤 (new.cells ≡ without_at d.cells p) (emp 𝓤) refl) $
    use0 𝓛 (raw (fact 𝓤 (h ≡ h))) (fact_i 𝓤 (h ≡ h) (emp 𝓤) refl) $ join ! $
    use0 𝓛 (raw (fact 𝓤 (h ≡ h))) (fact_i 𝓤 (h ≡ h) (emp 𝓤) refl) $ join ! $
    use0 𝓛 (raw (fact 𝓤 (value_at d.cells p ≡ Some n.value))) (fact_i 𝓤 (value_at d.cells p ≡ Some n.value) (emp 𝓤) spot.value) $ join ! $
    keep ! (3 ∷ 2 ∷ 1 ∷ 0 ∷ []) $ by ! (leaves 𝓛 En hs c z (word p) (record { at = p; heap = h; value = n.value }) (new, (tt, tt)) (tt, (tt, tt))))))))
    )
