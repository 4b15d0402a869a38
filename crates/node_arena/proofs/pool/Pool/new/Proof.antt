-- `new` owns no cell, and remembers the heap that it is shown. Assumes `Logic`.
use mathlib.Core.Path.{◌≡◌, refl, sym, subst}
use mathlib.Core.List.{List, [], ◌∷◌, ◌++◌}
use mir.Syntax.{a_type}
use mir.MapTy.{inst_fn}
use mir.Val.{Val, vptr}
use base.Logic.{SProp, ent, emp, id⊢}
use base.Fml.{Fml, ftrue, fsep, flft}
use prog.Wp.{WpFn}
use types.Kit.{‵, raw, ◌⊛◌, ◌$◌, ◌∵◌, !, qed, by, move, keep, use0, split, join, fsplit, fjoin, feq_l, suffices}
use types.Part.{agg}
use types.Run.{and_then, no_more, returns, enter}
use types.ByLocal.{alloc_all, pass_all, free_all, look_at, get, sets}
use contract.Monad.{fact, fact_i}
use contract.Running.{tables}
use denote.Exit.{yes}
use denote.RattleType.{RattleType, owns}
use denote.Signature.{types_at}
use denote.Param.{param, layouts}
use denote.Steps.{nothing}
use denote.Triple.Walked.{Stays, stay_dropped, walk_of, Goes-dropped}
use Rattle.std.proofs.raw_atomic.Walks.{proved_at, leaves}
use Rattle.node_arena.proofs.Marks.{mark, Mark, mark_made}
use Rattle.node_arena.specs.Owned.{Heap}
use Rattle.node_arena.proofs.Handles.{shown}
use Rattle.node_arena.specs.contracts.pool.Pool as C
use Rattle.node_arena.specs.contracts.pool.Pool.new.{ended, clauses}
use Rattle.node_arena.specs.contracts.pool.Pool.new.Key.{name as #self}
use Rattle.node_arena.proofs.pool.Pool.new.Statement.{statement}
use Rattle.node_arena.proofs.pool.Pool.new.Code as code

pub new_spec : {M : Type 1} → statement M
new_spec 𝓤 𝓛 𝓜 𝓡 wired V L =
    let H = 𝓛.H in let 𝓣 = tables 𝓤 H 𝓜 𝓡 𝓡.env in let R : RattleType = param 0 V in let En = ended V in let inst =
    layouts (a_type ∷ []) (V, tt) in let fn = inst_fn inst code.function in
    let Pr : RattleType = C.the_row R in let c = clauses V 𝓛 𝓜.mem 𝓡.returns in
    let hs : Stays En.signature.params En.kept = (stay_dropped shown yes, tt) in
    proved_at 𝓛 En hs c 𝓜 𝓡 (Goes-dropped 𝓛 2 shown yes (λ κs x f. refl), tt) (#self inst) fn (code.unfolded 𝓤 H 𝓜 𝓡 wired (V, tt)) (λ z are.
    let κs = z.0.0 in let qs = z.0.1 in let a = z.0.3 in let h : Heap = a.0.now in let Post : Val → SProp 𝓤 = (walk_of 𝓛 En hs c).post z in
    let Run : List Val → SProp 𝓤 = λ ws. WpFn 𝓤 H 𝓣.C 𝓣.Λ fn ws Post in let w : Val = vptr a.0.ref_ptr.0 a.0.ref_ptr.1 in
    let d : Pr.Denot = record { mark = record {}; heap = h; cells = [] } in let others : Fml = fsep (flft κs.1.0 qs.1.0) ftrue in
    qed 𝓛 (((‵ (flft κs.0 qs.0) ⊛ ‵ others) ⊛ ‵ (owns (types_at En.signature.params κs) a z.0.4)) ∷ raw ((c κs a).requires z.1) ∷ []) ∵
    split ! $ move ! (1 ∷ []) $ fsplit ! $ fsplit ! $ feq_l ! (λ e0. keep ! (2 ∷ []) $
    suffices ! (Run (w ∷ [])) (subst (λ (us : List Val). ent 𝓤 (Run (w ∷ [])) (Run us)) (sym (λ i. e0 i ++ [])) (id⊢ 𝓤 (Run (w ∷ [])))) $
    enter ! 𝓣.C 𝓣.Λ fn (w ∷ []) Post $ alloc_all ! (λ l. pass_all ! refl ((tt, tt), tt) $
    sets ! (agg ! (no_more !)) refl (tt, tt) $ sets ! (agg ! (and_then ! (get ! refl) (no_more !))) refl (tt, (tt, tt)) $
    nothing ! $ use0 𝓛 (‵ ((Mark R).own_val (tt, tt) (mark ∷ []))) (mark_made R 𝓛) $ fjoin ! $
    use0 𝓛 (raw (fact 𝓤 (h ≡ h))) (fact_i 𝓤 (h ≡ h) (emp 𝓤) refl) $
    use0 𝓛 (raw (fact 𝓤 (d.cells ≡ []))) (fact_i 𝓤 (d.cells ≡ []) (emp 𝓤) refl) $ join ! $ nothing ! $ nothing ! $ fjoin ! $
    returns ! (look_at ! 0 refl) $ free_all ! refl $ keep ! (3 ∷ 0 ∷ 2 ∷ 1 ∷ []) $ by ! (leaves 𝓛 En hs c z mark d (tt, tt) (tt, tt)))))
