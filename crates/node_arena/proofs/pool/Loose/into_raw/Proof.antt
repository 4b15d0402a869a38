-- `into_raw` adds the `&` to the heap. Assumes `Logic`.
use mathlib.Core.Path.{◌≡◌, refl, sym, subst}
use mathlib.Core.List.{List, [], ◌∷◌, ◌++◌}
use mir.Syntax.{a_type}
use mir.MapTy.{inst_fn}
use mir.Val.{Val, vptr}
use base.Logic.{SProp, ent, emp, never, id⊢, fst∗}
use base.Fml.{ftrue, flft}
use prog.Wp.{WpFn}
use types.Kit.{‵, raw, ◌⊛◌, ◌$◌, ◌∵◌, !, qed, by, move, keep, drop, use0, use1, split, rewrite, fsplit, fjoin, suffices}
use types.Part.{whole, sub, agg}
use types.Run.{stop, fld, of_opd, and_then, no_more, returns, enter}
use types.ByLocal.{alloc_all, pass_all, free_all, look_at, get, get_in, sets}
use contract.Monad.{fact, fact_i}
use contract.Running.{tables}
use denote.Exit.{yes, no}
use denote.RattleType.{RattleType, owns}
use denote.Signature.{Slot, type_at, types_at, plain}
use denote.Param.{param, layouts}
use denote.RawPtr.{Ptr, block_ptr, null_ptr, in_a_block}
use denote.Steps.{nothing, heard}
use contract.BorrowLft.{◌⊑◌}
use denote.Memory.{lone}
use mir.Raw.{raw as bare}
use types.Logic.{sem}
use Rattle.node_arena.specs.Owned.{Heap, may_free}
use Rattle.std.specs.Box.Ownership.{box_owns}
use denote.Triple.Walked.{Stays, stay_dropped, walk_of, Goes-dropped}
use Rattle.std.proofs.alloc.Calls.{Goes-blank, handle_tells}
use Rattle.std.proofs.raw_atomic.Walks.{proved_at, leaves}
use Rattle.std_alloc.proofs.RcSteps.{word, word-Good}
use Rattle.node_arena.proofs.Handles.{shown, tokens, handle_laws}
use Rattle.node_arena.proofs.Values.{both, al, loose_good, loose_in}
use Rattle.node_arena.proofs.Words.{word_had}
use Rattle.node_arena.specs.contracts.pool.Loose as O
use Rattle.node_arena.specs.contracts.pool.Loose.into_raw.{ended, clauses}
use Rattle.node_arena.specs.contracts.pool.Loose.into_raw.Key.{name as #self}
use Rattle.node_arena.proofs.pool.Loose.into_raw.Statement.{statement}
use Rattle.node_arena.proofs.pool.Loose.into_raw.Code as code

pub into_raw_spec : {M : Type 1} → statement M
into_raw_spec 𝓤 𝓛 𝓜 𝓡 wired V L =
    let H = 𝓛.H in let 𝓣 = tables 𝓤 H 𝓜 𝓡 𝓡.env in let R : RattleType = param 0 V in let En = ended V in let c =
    clauses V 𝓛 𝓜.mem 𝓡.returns in let inst = layouts (a_type ∷ []) (V, tt) in let fn = inst_fn inst code.function in
    let Lo : Slot 2 = plain (λ _. O.the_row R) in let hs : Stays En.signature.params En.kept = (stay_dropped Lo no, (stay_dropped shown yes, tt)) in
    proved_at 𝓛 En hs c 𝓜 𝓡 (Goes-blank 𝓛 2 Lo no (λ κs x f. tt), (Goes-dropped 𝓛 2 shown yes (λ κs x f. refl), tt))
    (#self inst) fn (code.unfolded 𝓤 H 𝓜 𝓡 wired (V, tt)) (λ z are.
    let κs = z.0.0 in let qs = z.0.1 in let Z : RattleType = type_at shown κs in let LZ = handle_laws κs in let g = tokens κs in
    let d = z.0.3.0 in let a = z.0.3.1.0 in let p : Ptr = d.at in let Post : Val → SProp 𝓤 =
    (walk_of 𝓛 En hs c).post z in let Run : List Val → SProp 𝓤 = λ ws. WpFn 𝓤 H 𝓣.C 𝓣.Λ fn ws Post in
    let toks = ‵ (flft κs.0 qs.0) ⊛ ‵ (flft κs.1.0 qs.1.0) ⊛ ‵ ftrue in
    qed 𝓛 ((toks ⊛ ‵ (owns (types_at En.signature.params κs) z.0.3 z.0.4)) ∷ raw ((c κs z.0.3).requires z.1) ∷ []) ∵ split ! $ move ! (2 ∷ []) $
    use1 𝓛 (raw (fact 𝓤 (κs.1.0 ⊑ V.lives)) ⊛ raw (fact 𝓤 (d.heap ≡ a.now))) (id⊢ 𝓤 _) $ split ! $ drop ! $ heard ! (d.heap ≡ a.now) (λ same. move ! (1 ∷ []) $
    fsplit ! $ fsplit ! $ word_had ! p z.0.4.0 (λ e0.
    move ! (1 ∷ []) $ fsplit ! $ handle_tells (al R Z LZ g) ! a z.0.4.1.0 (λ h e1 fits. keep ! (2 ∷ 0 ∷ 3 ∷ []) $
    in_a_block ! p (λ q. box_owns (may_free d.heap) R q d.value) (fst∗ 𝓤 (never 𝓤) (sem 𝓛 (may_free d.heap (bare (lone R.mir)) null_ptr)))
    (λ b o e. rewrite ! 0 (λ (k : Heap). ‵ (box_owns (may_free k) R (block_ptr b o) d.value)) same refl $ let w : Val = word (block_ptr b o) in
    suffices ! (Run (w ∷ h ∷ [])) (subst (λ (us : List Val). ent 𝓤 (Run (w ∷ h ∷ [])) (Run us))
    (sym (λ i. (subst (λ (q : Ptr). z.0.4.0 ≡ word q ∷ []) e e0) i ++ (e1 i ++ []))) (id⊢ 𝓤 (Run (w ∷ h ∷ [])))) $
    enter ! 𝓣.C 𝓣.Λ fn (w ∷ h ∷ []) Post $ alloc_all ! (λ l. pass_all ! refl (word-Good [] (block_ptr b o), (fits, tt)) $
    sets ! (of_opd ! (get_in ! (fld ! refl (stop !)) (sub ! 0 refl (whole !)))) refl (tt, tt) $ sets !
    (agg ! (and_then ! (get ! refl) (and_then ! (get ! refl) (no_more !)))) refl (loose_good R Z LZ g b o h fits) $
    returns ! (look_at ! 0 refl) $ free_all ! refl $ loose_in R Z LZ g ! b o h a d.value $ nothing ! $ nothing ! $ fjoin ! $ nothing ! $ fjoin ! $
    use0 𝓛 (raw (fact 𝓤 (d.value ≡ d.value))) (fact_i 𝓤 (d.value ≡ d.value) (emp 𝓤) refl) $
    keep ! (3 ∷ 1 ∷ 2 ∷ 0 ∷ []) $ by ! (leaves 𝓛 En hs c z (both (vptr b o) h) (record { at = block_ptr b o; alloc = a; value = d.value })
    (tt, (tt, tt)) (tt, (tt, tt)))))))))
