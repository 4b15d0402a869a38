-- `put` adds a cell to those that the pool owns. Assumes `Logic`.
use mathlib.Core.Path.{◌≡◌, refl, sym, subst}
use Prim.Native.Nat.{ℕ}
use mathlib.Core.List.{List, [], ◌∷◌, ◌++◌}
use mir.Syntax.{a_type}
use mir.MapTy.{inst_fn}
use mir.Val.{Val, vptr}
use base.Logic.{SProp, ent, emp, never, id⊢}
use base.Fml.{Lft, Fml, ftrue, fsep, flft}
use prog.Wp.{WpFn}
use types.Kit.{‵, raw, ◌⊛◌, ◌$◌, ◌∵◌, !, qed, by, move, keep, drop, use0, use1, use2, split, split3, join, rewrite, fsplit, fsplit3, fjoin, fjoin3, feq_i}
use types.Kit.{feq_l, suffices}
use types.Part.{whole, sub, agg}
use types.Run.{stop, fld, of_opd, and_then, no_more, returns, enter}
use types.ByLocal.{alloc_all, pass_all, free_all, look_at, get, get_in, sets}
use contract.Monad.{fact, fact_i}
use contract.BorrowLft.{◌⊑◌}
use contract.Running.{tables}
use denote.Exit.{no}
use denote.RattleType.{RattleType, owns}
use denote.Signature.{types_at, plain}
use denote.Param.{param, layout, layouts}
use base.Fraction.{full_share}
use denote.RawPtr.{Ptr, InBlock, lies_at, in_a_block}
use denote.Steps.{nothing, heard, opens, closes}
use denote.Triple.Walked.{Stays, stay_ref, stay_dropped, walk_of, Goes-ref}
use Rattle.std.proofs.lemmas.List.{append-nil}
use Rattle.std.proofs.alloc.Calls.{Goes-blank}
use Rattle.std.proofs.raw_atomic.Walks.{proved_at, leaves}
use Rattle.std_alloc.proofs.RcSteps.{word, word-Good, Ptr-Good}
use Rattle.std.specs.Prelude.{◌<◌, None}
use prog.Memory.{size}
use Rattle.node_arena.specs.Owned.{Heap, Placed, placed, value_at, cell_owns, pool_owns}
use Rattle.node_arena.proofs.Apart.{knows, fresh}
use Rattle.node_arena.proofs.Cutting.{cell_glue}
use Rattle.node_arena.proofs.Words.{word_had, word_made}
use Rattle.node_arena.specs.contracts.pool.Pool as C
use Rattle.node_arena.specs.contracts.pool.Loose as O
use Rattle.node_arena.specs.contracts.pool.Pool.put.{ended, clauses}
use Rattle.node_arena.specs.contracts.pool.Pool.put.Key.{name as #self}
use Rattle.node_arena.proofs.pool.Pool.put.Statement.{statement}
use Rattle.node_arena.proofs.pool.Pool.put.Code as code

pub put_spec : {M : Type 1} → statement M
put_spec 𝓤 𝓛 𝓜 𝓡 wired V L =
    let H = 𝓛.H in let 𝓣 = tables 𝓤 H 𝓜 𝓡 𝓡.env in let R : RattleType = param 0 V in let En = ended V in let inst =
    layouts (a_type ∷ []) (V, tt) in let fn = inst_fn inst code.function in
    let Pr : RattleType = C.the_row R in let Lo : RattleType = O.the_row R in let c = clauses V 𝓛 𝓜.mem 𝓡.returns in
    let hs : Stays En.signature.params En.kept = (stay_ref (0 ∷ []) tt (plain (λ _. Pr)), (stay_dropped (plain (λ _. Lo)) no, tt)) in
    proved_at 𝓛 En hs c 𝓜 𝓡 (Goes-ref 𝓛 2 0 tt (plain (λ _. Pr)), (Goes-blank 𝓛 2 (plain (λ _. Lo)) no (λ κs x f. tt), tt)) (#self inst) fn
    (code.unfolded 𝓤 H 𝓜 𝓡 wired (V, tt)) (λ z are.
    let κs = z.0.0 in let qs = z.0.1 in let a = z.0.3 in let κ : Lft = κs.0 in let b : ℕ = a.0.ref_ptr.0 in let o : ℕ =
    a.0.ref_ptr.1 in let d : Pr.Denot = a.0.now in let n : Lo.Denot = a.1.0 in let p : Ptr = n.at in
    let Post : Val → SProp 𝓤 = (walk_of 𝓛 En hs c).post z in let Run : List Val → SProp 𝓤 = λ ws. WpFn 𝓤 H 𝓣.C 𝓣.Λ fn ws Post in
    let others : Fml = fsep (flft κs.1.0 qs.1.0) ftrue in let m : Placed V.Denot = placed p n.value in let new : Pr.Denot =
    record d { cells = d.cells ++ m ∷ [] } in
    qed 𝓛 (((‵ (flft κ qs.0) ⊛ ‵ others) ⊛ ‵ (owns (types_at En.signature.params κs) a z.0.4)) ∷ raw ((c κs a).requires z.1) ∷ []) ∵
    split ! $ move ! (2 ∷ []) $ use1 𝓛
    (raw (fact 𝓤 (κs.1.0 ⊑ V.lives)) ⊛ raw (fact 𝓤 (0 < size (layout V))) ⊛ raw (fact 𝓤 (n.heap ≡ d.heap))) (id⊢ 𝓤 _) $ split3 ! $ drop ! $
    heard ! (0 < size (layout V)) (λ sized. heard ! (n.heap ≡ d.heap) (λ same. split ! $ move ! (2 ∷ []) $ fsplit ! $ fsplit3 ! $ feq_l !
    (λ e0. move ! (2 ∷ []) $ fsplit ! $ fsplit ! $ word_had ! p z.0.4.1.0 (λ e1.
    suffices ! (Run (vptr b o ∷ word p ∷ []))
    (subst (λ (us : List Val). ent 𝓤 (Run (vptr b o ∷ word p ∷ [])) (Run us)) (sym (λ i. e0 i ++ (e1 i ++ [])))
    (id⊢ 𝓤 (Run (vptr b o ∷ word p ∷ [])))) $
    move ! (1 ∷ []) $ drop ! $ move ! (1 ∷ 2 ∷ 3 ∷ []) $
    enter ! 𝓣.C 𝓣.Λ fn (vptr b o ∷ word p ∷ []) Post $ alloc_all ! (λ l. pass_all ! refl ((tt, tt), (word-Good [] p, tt)) $
    opens ! tt Pr {h = d} b o (λ us. move ! (1 ∷ []) $ fsplit ! $ move ! (6 ∷ 1 ∷ []) $ fsplit ! $ in_a_block ! p
    (λ (q : Ptr). lies_at R full_share q n.value) (id⊢ 𝓤 (never 𝓤)) (λ pb po e. let well : InBlock p = subst InBlock (sym e) tt in
    rewrite ! 0 (λ (q : Ptr). ‵ (lies_at R full_share q n.value)) (sym e) refl $ move ! (0 ∷ 2 ∷ []) $ knows ! (value_at d.cells p ≡ None)
    (fresh 𝓛 𝓜 V sized d.heap d.cells p n.value) (λ apart. move ! (0 ∷ 2 ∷ []) $ fjoin ! $
    rewrite ! 0 (λ (h : Heap). ‵ (cell_owns h R m)) same refl $ rewrite ! 1 (λ (ns : List (Placed V.Denot)). ‵ (pool_owns d.heap R ns))
    (sym (append-nil d.cells)) refl $ use2 𝓛 (‵ (pool_owns d.heap R (d.cells ++ m ∷ []))) (cell_glue 𝓛 d.heap R d.cells m []) $
    move ! (1 ∷ 0 ∷ []) $ fjoin ! $ move ! (1 ∷ []) $ closes ! tt Pr new us b o $
    sets ! (of_opd ! (get_in ! (fld ! refl (stop !)) (sub ! 0 refl (whole !)))) refl (Ptr-Good p) $ sets ! (of_opd ! (get ! refl)) refl
    (Ptr-Good p) $ sets ! (agg ! (and_then ! (get ! refl) (no_more !))) refl (word-Good [] p) $
    -- [two parts of self; the two tokens]
    returns ! (look_at ! 0 refl) $ free_all ! refl $ feq_i ! (List Val) z.0.4.0 (vptr b o ∷ []) e0 $ fjoin3 ! $ move ! (1 ∷ 2 ∷ []) $ join ! $
    nothing ! $ nothing ! $ fjoin ! $ move ! (2 ∷ 0 ∷ []) $ fjoin ! $ word_made ! p $
    use0 𝓛 (raw (fact 𝓤 (new.cells ≡ d.cells ++ m ∷ []))) (fact_i 𝓤 (new.cells ≡ d.cells ++ m ∷ []) (emp 𝓤) refl) $
    use0 𝓛 (raw (fact 𝓤 (d.heap ≡ d.heap))) (fact_i 𝓤 (d.heap ≡ d.heap) (emp 𝓤) refl) $ join ! $
    use0 𝓛 (raw (fact 𝓤 (InBlock p))) (fact_i 𝓤 (InBlock p) (emp 𝓤) well) $ join ! $
    use0 𝓛 (raw (fact 𝓤 (value_at d.cells p ≡ None))) (fact_i 𝓤 (value_at d.cells p ≡ None) (emp 𝓤) apart) $ join ! $
    keep ! (3 ∷ 2 ∷ 1 ∷ 0 ∷ []) $ by ! (leaves 𝓛 En hs c z (word p) (record { ptr = p }) (new, (tt, tt)) (tt, (tt, tt)))))))
    )))))
