-- `get_mut` lends one cell, and the pool follows it. Assumes `Logic`.
use mathlib.Core.Path.{◌≡◌, refl, sym, ap, subst, ◌∙◌}
use Prim.Native.Nat.{ℕ}
use mathlib.Core.List.{List, [], ◌∷◌, ◌++◌}
use base.Fraction.{full_share}
use mir.Syntax.{a_type, named}
use mir.MapTy.{inst_fn}
use mir.Val.{Val, vptr}
use base.Logic.{SProp, ent, sep, emp, never, id⊢}
use base.Fml.{Lft, GName, Fml, ftrue, fsep, flft}
use seplogic.Ra.Ura.{Ura}
use types.Logic.{Logic, sem}
use denote.Struct.Struct.{Struct}
use denote.Struct.Owning.{shape}
use prog.Wp.{WpFn}
use types.Kit.{‵, raw, ◌⊛◌, some, later, await, pick, at_ret, ◌$◌, ◌∵◌, !, qed, by, move, keep, drop, use0, use1, use2, split, split3, join, group}
use types.Kit.{rewrite, fsplit, fsplit3, fjoin, fjoin3, fpack, feq_l, suffices, done}
use types.Part.{whole, sub}
use types.Run.{stop, fld, of_opd, addr, first, blocks, exec, returns, enter}
use types.ByLocal.{alloc_all, pass_all, free_all, look_at, get, get_in, through, is, sets, sets_last, env}
use contract.Monad.{fact, fact_i}
use contract.BorrowLft.{◌⊑◌}
use contract.Running.{tables}
use denote.Exit.{yes, no}
use denote.RattleType.{RattleType, owns}
use denote.Signature.{types_at, plain, mut_ref_to}
use denote.Param.{param, layouts}
use denote.RawPtr.{Ptr, ptr_val, block_ptr, in_a_block, lies_at}
use denote.Steps.{nothing, heard, opens}
use denote.Memory.{mem, cell_at, part_at, part_of}
use denote.Follow.{follows, Part, lends_Part}
use denote.Ref.{MutBor, MutRef}
use denote.Memory.{lone}
use mir.Raw.{raw as bare}
use denote.Triple.Walked.{Stays, stay_dropped, walk_of, Goes-dropped, Goes-spent_ref}
use Rattle.std.proofs.VecSteps.Shapes.{after}
use Rattle.std.proofs.raw_atomic.Walks.{proved_at, leaves}
use Rattle.std_alloc.proofs.RcSteps.{word, word-Good}
use Rattle.std.specs.Prelude.{Some, IsSome}
use Rattle.node_arena.specs.Owned.{may_free, Placed, value_at, placed, cell_owns, pool_owns}
use Rattle.node_arena.proofs.Places.{First, first_at}
use Rattle.node_arena.specs.PoolLends.{with_cell}
use Rattle.node_arena.proofs.Cutting.{cell_cut, cell_glue}
use Rattle.node_arena.proofs.Words.{word_had}
use Rattle.node_arena.specs.contracts.pool.Pool as C
use Rattle.node_arena.specs.contracts.pool.Place as N
use Rattle.node_arena.specs.contracts.pool.Pool.get_mut.{ended, clauses}
use Rattle.node_arena.specs.contracts.pool.Pool.get_mut.Key.{name as #self}
use Rattle.node_arena.proofs.pool.Pool.get_mut.Statement.{statement}
use Rattle.node_arena.proofs.pool.Pool.get_mut.Code as code

-- all of the pool but the value of one cell, and the pool with another value in that cell
module _ (V : RattleType) {M : Type 1} {𝓤 : Ura M} (𝓛 : Logic 𝓤) (d : (C.the_row V).Denot) (p : Ptr) (spot : First d.cells p) (vs : List Val) (b o : ℕ) where
  abbrev Rest : Fml
  Rest = fsep (may_free d.heap (bare (lone V.mir)) spot.cell.at)
      (fsep (pool_owns d.heap V (spot.before ++ spot.after))
      (fsep ((Struct (shape (C.the_type V))).own_val (tt, tt) vs) (cell_at full_share (C.the_row V).mir vs b o)))

  back : (pb po : ℕ) → spot.cell.at ≡ block_ptr pb po → (w : V.Denot) →
      ent 𝓤 (sep 𝓤 (sem 𝓛 ((mem V).own_at w pb po)) (sem 𝓛 Rest)) (sem 𝓛 ((mem (C.the_row V)).own_at (with_cell d p w) b o))
  unfolding part_of
  back pb po e w =
      let m : Placed V.Denot = placed spot.cell.at w in
      qed 𝓛 (‵ (part_at V full_share w pb po) ∷ ‵ Rest ∷ []) ∵ rewrite ! 0 (λ (q : Ptr). ‵ (lies_at V full_share q w)) (sym e) refl $
      move ! (1 ∷ []) $ fsplit3 ! $ move ! (3 ∷ 0 ∷ []) $ fjoin ! $ use2 𝓛 (‵ (pool_owns d.heap V (spot.before ++ m ∷ spot.after)))
      (cell_glue 𝓛 d.heap V spot.before m spot.after) $
      rewrite ! 0 (λ (ns : List (Placed V.Denot)). ‵ (pool_owns d.heap V ns)) (sym (spot.set w)) refl $
      move ! (1 ∷ []) $ fsplit ! $ move ! (0 ∷ 2 ∷ []) $ fjoin ! $ move ! (1 ∷ 0 ∷ []) $ fjoin ! $
      fpack ! (List Val) (λ us. fsep (cell_at full_share (C.the_row V).mir us b o) ((C.the_row V).own_val (with_cell d p w) us)) vs $ done !

pub get_mut_spec : {M : Type 1} → statement M
get_mut_spec 𝓤 𝓛 𝓜 𝓡 wired V L =
    let H = 𝓛.H in let 𝓣 = tables 𝓤 H 𝓜 𝓡 𝓡.env in let R : RattleType = param 0 V in let En = ended V in let inst =
    layouts (a_type ∷ []) (V, tt) in let fn = inst_fn inst code.function in
    let Pr : RattleType = C.the_row R in let Np : RattleType = N.the_row in let c = clauses V 𝓛 𝓜.mem 𝓡.returns in
    let hs : Stays En.signature.params En.kept = (stay_dropped (mut_ref_to (0 ∷ []) tt (plain (λ _. Pr))) no, (stay_dropped (plain (λ _. Np)) yes, tt)) in
    proved_at 𝓛 En hs c 𝓜 𝓡 (Goes-spent_ref 𝓛 2 (0 ∷ []) tt (plain (λ _. Pr)), (Goes-dropped 𝓛 2 (plain (λ _. Np)) yes (λ κs x f. refl), tt))
    (#self inst) fn (code.unfolded 𝓤 H 𝓜 𝓡 wired (V, tt)) (λ z are.
    let κs = z.0.0 in let qs = z.0.1 in let a = z.0.3 in let κ : Lft = κs.0 in let b : ℕ = a.0.ref_ptr.0 in let o : ℕ =
    a.0.ref_ptr.1 in let γ : GName = a.0.ghost_name in let d : Pr.Denot = a.0.now in let p : Ptr = a.1.0.ptr in
    let Post : Val → SProp 𝓤 = (walk_of 𝓛 En hs c).post z in let Run : List Val → SProp 𝓤 = λ ws. WpFn 𝓤 H 𝓣.C 𝓣.Λ fn ws Post in
    let others : Fml = fsep (flft κs.1.0 qs.1.0) ftrue in
    qed 𝓛 (((‵ (flft κ qs.0) ⊛ ‵ others) ⊛ ‵ (owns (types_at En.signature.params κs) a z.0.4)) ∷ raw ((c κs a).requires z.1) ∷ []) ∵
    split ! $ move ! (2 ∷ []) $ use1 𝓛 (raw (fact 𝓤 (κs.1.0 ⊑ V.lives)) ⊛ raw (fact 𝓤 (IsSome (value_at d.cells p)))) (id⊢ 𝓤 _) $ split ! $ drop
    ! $ heard ! (IsSome (value_at d.cells p)) (λ asked. let spot = first_at d.cells p asked in
    split ! $ move ! (2 ∷ []) $ fsplit ! $ fsplit3 ! $ feq_l ! (λ e0. move ! (2 ∷ []) $ fsplit ! $ word_had ! p z.0.4.1.0 (λ e1.
    suffices ! (Run (vptr b o ∷ word p ∷ []))
    (subst (λ (us : List Val). ent 𝓤 (Run (vptr b o ∷ word p ∷ [])) (Run us)) (sym (λ i. e0 i ++ (e1 i ++ [])))
    (id⊢ 𝓤 (Run (vptr b o ∷ word p ∷ [])))) $ drop ! $
    enter ! 𝓣.C 𝓣.Λ fn (vptr b o ∷ word p ∷ []) Post $ alloc_all ! (λ l. pass_all ! refl ((tt, tt), (word-Good [] p, tt)) $ let Ev = env fn.locals l in
    let xs = spot.before in let n : Placed V.Denot = spot.cell in let ys = spot.after in
    opens ! tt Pr {h = d} b o (λ vs. move ! (1 ∷ []) $ fsplit ! $ move ! (1 ∷ []) $
    rewrite ! 0 (λ (ns : List (Placed V.Denot)). ‵ (pool_owns d.heap R ns)) spot.is refl $ use1 𝓛 (‵ (cell_owns d.heap R n) ⊛ ‵ (pool_owns d.heap R (xs ++ ys)))
    (cell_cut 𝓛 d.heap R xs n ys) $ split ! $ fsplit ! $
    in_a_block ! n.at (λ (q : Ptr). lies_at R full_share q n.value) (id⊢ 𝓤 (never 𝓤)) (λ pb po e.
    let ep : p ≡ block_ptr pb po = sym spot.at ∙ e in let there : Val = vptr pb po in let way = back R 𝓛 d p spot vs b o pb po e in let new =
    with_cell d p in let code' = Pr.coded.code d in
    first ! $ blocks ! $ sets ! (is ! (of_opd ! (get_in ! (fld ! refl (stop !)) (sub ! 0 refl (whole !)))) (ap ptr_val ep)) refl (tt, tt) $
    sets_last ! (addr ! (through ! refl (stop !))) refl (tt, tt) $ exec ! 𝓣.C 𝓣.Λ Ev (after 1 fn.body) (at_ret Ev Post) $ sets !
    (of_opd ! (get ! refl)) refl (tt, tt) $
    move ! (2 ∷ 3 ∷ 4 ∷ []) $ fjoin3 ! $ move ! (2 ∷ 0 ∷ []) $ fjoin ! $ move ! (2 ∷ 3 ∷ 4 ∷ 1 ∷ 0 ∷ []) $ group ! 5 $
    use1 𝓛 (later (some (λ (δ : GName). raw (Part 𝓛 Pr R new (named 0) κ qs.0 b o pb po γ (sem 𝓛 (Rest R 𝓛 d p spot vs b o)) way n.value δ))))
    (lends_Part 𝓛 Pr R new (named 0) κ qs.0 b o pb po γ (sem 𝓛 (Rest R 𝓛 d p spot vs b o)) way code' code' n.value) $ await ! tt $ pick ! (λ δ.
    let r : MutBor V.Denot = record { ref_ptr = (pb, po); ghost_name = δ; now = n.value } in
    returns ! (look_at ! 0 refl) $ free_all ! refl $ use1 𝓛
    (‵ ((MutRef (named 0) κ R).own_val r (there ∷ [])) ⊛ ‵ (flft κ qs.0) ⊛ ‵ (follows Pr R γ δ new)) (id⊢ 𝓤 _) $ split3 ! $ move !
    (1 ∷ 3 ∷ []) $ join ! $
    -- [the tokens; the reference; how the pool follows it]
    use0 𝓛 (raw (fact 𝓤 (value_at d.cells p ≡ Some n.value))) (fact_i 𝓤 (value_at d.cells p ≡ Some n.value) (emp 𝓤) spot.value) $ move ! (3 ∷ 0 ∷ []) $ join ! $
    nothing ! $ nothing ! $ fjoin ! $ nothing ! $ fjoin ! $ keep ! (2 ∷ 0 ∷ 3 ∷ 1 ∷ []) $ by !
    (leaves 𝓛 En hs c z there r (tt, (tt, tt)) (tt, (tt, tt)))))))))))
