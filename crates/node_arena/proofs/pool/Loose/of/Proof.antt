-- `of` drops the `&` to the heap, and keeps the pointer. Assumes `Logic`.
use mathlib.Core.Path.{◌≡◌, refl, sym, subst}
use mathlib.Core.List.{List, [], ◌∷◌, ◌++◌}
use mir.Syntax.{a_type}
use mir.MapTy.{inst_fn}
use mir.Val.{Val, vptr}
use base.Logic.{SProp, ent, emp, id⊢}
use base.Fml.{ftrue, flft}
use prog.Wp.{WpFn}
use types.Kit.{‵, raw, ◌⊛◌, ◌$◌, ◌∵◌, !, qed, by, move, keep, use0, split, join, fsplit, fjoin, suffices}
use types.Part.{whole, sub, agg}
use types.Run.{stop, fld, of_opd, and_then, no_more, returns, enter}
use types.ByLocal.{alloc_all, pass_all, free_all, look_at, get, get_in, sets}
use contract.Monad.{fact, fact_i}
use contract.Running.{tables}
use denote.Exit.{no}
use denote.RattleType.{RattleType, owns}
use denote.Signature.{Slot, type_at, types_at, plain}
use denote.Param.{param, layouts}
use denote.RawPtr.{Ptr, block_ptr}
use denote.Steps.{nothing}
use denote.Triple.Walked.{Stays, stay_dropped, walk_of}
use Rattle.std.proofs.alloc.Calls.{Goes-blank}
use Rattle.std.proofs.raw_atomic.Walks.{proved_at, leaves}
use Rattle.std_alloc.proofs.RcSteps.{word, word-Good}
use Rattle.node_arena.proofs.Handles.{shown, tokens, handle_laws}
use Rattle.node_arena.proofs.Values.{both, Loose, loose_good, loose_out}
use Rattle.node_arena.proofs.Words.{word_made}
use Rattle.node_arena.specs.contracts.pool.Loose.of.{ended, clauses}
use Rattle.node_arena.specs.contracts.pool.Loose.of.Key.{name as #self}
use Rattle.node_arena.proofs.pool.Loose.of.Statement.{statement}
use Rattle.node_arena.proofs.pool.Loose.of.Code as code

pub of_spec : {M : Type 1} → statement M
of_spec 𝓤 𝓛 𝓜 𝓡 wired V L =
    let H = 𝓛.H in let 𝓣 = tables 𝓤 H 𝓜 𝓡 𝓡.env in let R : RattleType = param 0 V in let En = ended V in let c =
    clauses V 𝓛 𝓜.mem 𝓡.returns in let inst = layouts (a_type ∷ []) (V, tt) in let fn = inst_fn inst code.function in
    let Lr : Slot 2 = plain (λ κs. Loose R (type_at shown κs) (handle_laws κs) (tokens κs)) in
    let hs : Stays En.signature.params En.kept = (stay_dropped Lr no, tt) in
    proved_at 𝓛 En hs c 𝓜 𝓡 (Goes-blank 𝓛 2 Lr no (λ κs x f. tt), tt) (#self inst) fn (code.unfolded 𝓤 H 𝓜 𝓡 wired (V, tt)) (λ z are.
    let κs = z.0.0 in let qs = z.0.1 in let Z : RattleType = type_at shown κs in let LZ = handle_laws κs in let g = tokens κs in
    let d = z.0.3.0 in let Post : Val → SProp 𝓤 = (walk_of 𝓛 En hs c).post z in let Run : List Val → SProp 𝓤 =
    λ ws. WpFn 𝓤 H 𝓣.C 𝓣.Λ fn ws Post in
    let toks = ‵ (flft κs.0 qs.0) ⊛ ‵ (flft κs.1.0 qs.1.0) ⊛ ‵ ftrue in
    qed 𝓛 ((toks ⊛ ‵ (owns (types_at En.signature.params κs) z.0.3 z.0.4)) ∷ raw ((c κs z.0.3).requires z.1) ∷ []) ∵ split ! $ move ! (1 ∷ []) $ fsplit ! $
    loose_out R Z LZ g ! d z.0.4.0 (λ b o h e ws fits. let p : Ptr = block_ptr b o in let w : Val = both (vptr b o) h in
    let typed = loose_good R Z LZ g b o h fits in
    suffices ! (Run (w ∷ [])) (subst (λ (us : List Val). ent 𝓤 (Run (w ∷ [])) (Run us)) (sym (λ i. ws i ++ [])) (id⊢ 𝓤 (Run (w ∷ [])))) $
    enter ! 𝓣.C 𝓣.Λ fn (w ∷ []) Post $ alloc_all ! (λ l. pass_all ! refl (typed, tt) $
    sets ! (of_opd ! (get_in ! (fld ! refl (stop !)) (sub ! 0 refl (whole !)))) refl (tt, tt) $ sets !
    (agg ! (and_then ! (get ! refl) (no_more !))) refl (word-Good [] p) $
    returns ! (look_at ! 0 refl) $ free_all ! refl $ keep ! (0 ∷ 3 ∷ []) $ word_made ! p $ fjoin ! $ nothing ! $ nothing ! $ fjoin ! $
    use0 𝓛 (raw (fact 𝓤 (d.alloc.now ≡ d.alloc.now))) (fact_i 𝓤 (d.alloc.now ≡ d.alloc.now) (emp 𝓤) refl) $
    use0 𝓛 (raw (fact 𝓤 (d.value ≡ d.value))) (fact_i 𝓤 (d.value ≡ d.value) (emp 𝓤) refl) $ join ! $
    keep ! (3 ∷ 1 ∷ 2 ∷ 0 ∷ []) $ by ! (leaves 𝓛 En hs c z (word p) (record { at = p; heap = d.alloc.now; value = d.value }) (tt, tt) (tt, tt)))))
