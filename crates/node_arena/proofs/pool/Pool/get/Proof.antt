-- `get` shows one cell that the pool lends. Assumes `Logic`.
use mathlib.Core.Path.{◌≡◌, refl, sym, ap, subst, ◌∙◌}
use Prim.Native.Nat.{ℕ}
use mathlib.Core.List.{List, [], ◌∷◌, ◌++◌}
use mir.Syntax.{a_type}
use mir.MapTy.{inst_fn}
use mir.Val.{Val, vptr}
use base.Logic.{SProp, ent, emp, id⊢}
use base.Fml.{Lft, Fml, ftrue, fsep, flft}
use prog.Wp.{WpFn}
use types.Kit.{‵, raw, ◌⊛◌, at_ret, ◌$◌, ◌∵◌, !, qed, by, move, keep, drop, use0, use1, split, join, rewrite, fsplit, fjoin, feq_i, feq_l, suffices, done}
use types.Part.{whole, sub}
use types.Run.{stop, fld, of_opd, addr, first, blocks, exec, returns, enter}
use types.ByLocal.{alloc_all, pass_all, free_all, look_at, get, get_in, through, is, sets, sets_last, env}
use contract.Monad.{fact, fact_i}
use contract.BorrowLft.{◌⊑◌}
use contract.Running.{tables}
use denote.Exit.{yes}
use denote.RattleType.{RattleType, owns}
use denote.Signature.{types_at, plain}
use denote.Builtin.{RefOf}
use denote.Param.{param, layouts}
use denote.RawPtr.{Ptr, ptr_val, block_ptr, null_ptr, in_a_block}
use denote.Opens.{hide, unhide}
use denote.Steps.{nothing, heard}
use denote.Struct.Lending.{lent_at}
use denote.Triple.Walked.{Stays, stay_dropped, walk_of, Goes-dropped}
use Rattle.std.proofs.VecSteps.Shapes.{after}
use Rattle.std.proofs.raw_atomic.Walks.{proved_at, leaves}
use Rattle.std_alloc.proofs.RcSteps.{word, word-Good}
use Rattle.std.specs.Prelude.{Some, IsSome}
use Rattle.node_arena.specs.Owned.{Placed, value_at, pool_lent}
use Rattle.node_arena.proofs.Places.{first_at}
use Rattle.node_arena.proofs.Sharing.{cell_seen}
use Rattle.node_arena.proofs.Words.{word_had}
use Rattle.node_arena.specs.contracts.pool.Pool as C
use Rattle.node_arena.specs.contracts.pool.Place as N
use Rattle.node_arena.specs.contracts.pool.Pool.get.{ended, clauses}
use Rattle.node_arena.specs.contracts.pool.Pool.get.Key.{name as #self}
use Rattle.node_arena.proofs.pool.Pool.get.Statement.{statement}
use Rattle.node_arena.proofs.pool.Pool.get.Code as code

pub get_spec : {M : Type 1} → statement M
get_spec 𝓤 𝓛 𝓜 𝓡 wired V L =
    let H = 𝓛.H in let 𝓣 = tables 𝓤 H 𝓜 𝓡 𝓡.env in let R : RattleType = param 0 V in let En = ended V in let inst =
    layouts (a_type ∷ []) (V, tt) in let fn = inst_fn inst code.function in
    let Pr : RattleType = C.the_row R in let Np : RattleType = N.the_row in let c = clauses V 𝓛 𝓜.mem 𝓡.returns in
    let self = RefOf (0 ∷ []) tt (plain (λ _. Pr)) (λ _. tt) in let hs : Stays En.signature.params En.kept =
    (stay_dropped self yes, (stay_dropped (plain (λ _. Np)) yes, tt)) in
    proved_at 𝓛 En hs c 𝓜 𝓡 (Goes-dropped 𝓛 2 self yes (λ κs x f. refl), (Goes-dropped 𝓛 2 (plain (λ _. Np)) yes (λ κs x f. refl), tt))
    (#self inst) fn (code.unfolded 𝓤 H 𝓜 𝓡 wired (V, tt)) (λ z are.
    let κs = z.0.0 in let qs = z.0.1 in let a = z.0.3 in let κ : Lft = κs.0 in let b : ℕ = a.0.ref_ptr.0 in let o : ℕ =
    a.0.ref_ptr.1 in let d : Pr.Denot = a.0.now in let p : Ptr = a.1.0.ptr in
    let Post : Val → SProp 𝓤 = (walk_of 𝓛 En hs c).post z in let Run : List Val → SProp 𝓤 = λ ws. WpFn 𝓤 H 𝓣.C 𝓣.Λ fn ws Post in
    let others : Fml = fsep (flft κs.1.0 qs.1.0) ftrue in
    qed 𝓛 (((‵ (flft κ qs.0) ⊛ ‵ others) ⊛ ‵ (owns (types_at En.signature.params κs) a z.0.4)) ∷ raw ((c κs a).requires z.1) ∷ []) ∵
    split ! $ move ! (2 ∷ []) $ use1 𝓛 (raw (fact 𝓤 (κs.1.0 ⊑ V.lives)) ⊛ raw (fact 𝓤 (IsSome (value_at d.cells p)))) (id⊢ 𝓤 _) $ split ! $ drop
    ! $ heard ! (IsSome (value_at d.cells p)) (λ asked. let spot = first_at d.cells p asked in
    split ! $ move ! (2 ∷ []) $ fsplit ! $ fsplit ! $ feq_l ! (λ e0. move ! (1 ∷ []) $ fsplit ! $ word_had ! p z.0.4.1.0 (λ e1.
    suffices ! (Run (vptr b o ∷ word p ∷ []))
    (subst (λ (us : List Val). ent 𝓤 (Run (vptr b o ∷ word p ∷ [])) (Run us)) (sym (λ i. e0 i ++ (e1 i ++ [])))
    (id⊢ 𝓤 (Run (vptr b o ∷ word p ∷ [])))) $ drop ! $
    enter ! 𝓣.C 𝓣.Λ fn (vptr b o ∷ word p ∷ []) Post $ alloc_all ! (λ l. pass_all ! refl ((tt, tt), (word-Good [] p, tt)) $ let Ev = env fn.locals l in
    let n : Placed V.Denot = spot.cell in
    unhide ! $ fsplit ! $ drop ! $ rewrite ! 0 (λ (ns : List (Placed V.Denot)). ‵ (pool_lent R ns κ)) spot.is refl $ use1 𝓛
    (‵ (lent_at R n.at n.value κ)) (cell_seen 𝓛 R κ spot.before n spot.after) $
    in_a_block ! n.at (λ (q : Ptr). lent_at R q n.value κ) (qed 𝓛 (‵ (lent_at R null_ptr n.value κ) ∷ []) ∵ fsplit ! $ keep ! (0 ∷ []) $ done !) (λ pb po e.
    let ep : p ≡ block_ptr pb po = sym spot.at ∙ e in let there : Val = vptr pb po in
    first ! $ blocks ! $ sets ! (is ! (of_opd ! (get_in ! (fld ! refl (stop !)) (sub ! 0 refl (whole !)))) (ap ptr_val ep)) refl (tt, tt) $
    sets_last ! (addr ! (through ! refl (stop !))) refl (tt, tt) $ exec ! 𝓣.C 𝓣.Λ Ev (after 1 fn.body) (at_ret Ev Post) $ sets !
    (of_opd ! (get ! refl)) refl (tt, tt) $
    fsplit ! $ drop ! $ hide ! $ feq_i ! (List Val) (there ∷ []) (there ∷ []) refl $ fjoin ! $ move ! (1 ∷ 2 ∷ []) $ join ! $
    use0 𝓛 (raw (fact 𝓤 (value_at d.cells p ≡ Some n.value))) (fact_i 𝓤 (value_at d.cells p ≡ Some n.value) (emp 𝓤) spot.value) $ nothing ! $
    nothing ! $ fjoin ! $ nothing ! $ fjoin ! $
    returns ! (look_at ! 0 refl) $ free_all ! refl $ keep ! (2 ∷ 0 ∷ 3 ∷ 1 ∷ []) $ by !
    (leaves 𝓛 En hs c z there (record { ref_ptr = (pb, po); now = n.value }) (tt, (tt, tt)) (tt, (tt, tt)))))))))
