-- `with` makes the empty struct, with the total that its clause names. Assumes `Logic`.
use Rattle.dom_base.proofs.Std.{◌≡◌, ◌+◌, List, [], ◌∷◌, ◌++◌, refl, sym, subst, w64, proved_at, leaves}
use mir.Val.{Val, vptr, vint, vstruct, vnil}
use base.Logic.{SProp, ent, emp, id⊢}
use prog.Wp.{WpFn}
use types.Kit.{‵, raw, ◌⊛◌, ◌$◌, ◌∵◌, !, qed, by, keep, split, fjoin, suffices, use0}
use types.Run.{no_more, returns, enter}
use types.Part.{agg}
use types.ByLocal.{alloc_all, pass_all, free_all, look_at, sets}
use contract.Monad.{fact, fact_i}
use contract.Running.{tables}
use denote.Exit.{yes}
use denote.RattleType.{owns}
use denote.Signature.{types_at, plain}
use denote.Builtin.{RefOf, usize}
use denote.Shadow.{pure_i}
use denote.Steps.{nothing}
use denote.Triple.Entry.{alive}
use denote.Triple.Walked.{Stays, stay_dropped, walk_of, Goes-dropped}
use Rattle.dom_streams.specs.contracts.count.Count as count
use Rattle.dom_streams.specs.contracts.count.Count.with.{ended, clauses}
use Rattle.dom_streams.specs.contracts.count.Count.with.Key.{name as #self}
use Rattle.dom_streams.proofs.count.Count.with.Statement.{statement}
use Rattle.dom_streams.proofs.count.Count.with.Code as code

pub with_spec : {M : Type 1} → statement M
with_spec 𝓤 𝓛 𝓜 𝓡 wired =
    let H = 𝓛.H in let 𝓣 = tables 𝓤 H 𝓜 𝓡 𝓡.env in let En = ended in let c = clauses 𝓛 𝓜.mem 𝓡.returns in let fn = code.function in
    let counted = RefOf (0 ∷ []) tt (plain (λ _. count.the_row)) (λ _. tt) in
    let hs : Stays En.signature.params En.kept = (stay_dropped counted yes, (stay_dropped (plain (λ _. usize)) yes, tt)) in
    proved_at 𝓛 En hs c 𝓜 𝓡 (Goes-dropped 𝓛 1 counted yes (λ κs x f. refl), (Goes-dropped 𝓛 1 (plain (λ _. usize)) yes (λ κs x f. refl), tt))
    #self fn (code.unfolded 𝓤 H 𝓜 𝓡 wired) (λ z are.
    let Post : Val → SProp 𝓤 = (walk_of 𝓛 En hs c).post z in let Run : List Val → SProp 𝓤 = λ ws. WpFn 𝓤 H 𝓣.C 𝓣.Λ fn ws Post in
    let old = z.0.3.0 in let more = z.0.3.1.0 in let passed : List Val = vptr old.ref_ptr.0 old.ref_ptr.1 ∷ vint w64 more ∷ [] in
    let made : (count.the_row).Denot = record { total = old.now.total + more } in let Told : Type 0 = made.total ≡ made.total in
    qed 𝓛 ((raw (alive 𝓛 En.signature z.0.0 z.0.1) ⊛ ‵ (owns (types_at En.signature.params z.0.0) z.0.3 z.0.4)) ∷ raw ((c z.0.0 z.0.3).requires z.1) ∷ []) ∵
    split ! $ keep ! (0 ∷ []) $
    suffices ! (Run passed) (subst (λ (us : List Val). ent 𝓤 (Run passed) (Run us)) (sym (λ i. are.0.0 i ++ (are.1.0.0 i ++ []))) (id⊢ 𝓤 (Run passed))) $
    enter ! 𝓣.C 𝓣.Λ fn passed Post $ alloc_all ! (λ l. pass_all ! refl ((tt, tt), ((tt, record { fits = are.1.0.1 }), tt)) $
    sets ! (agg ! (no_more !)) refl (tt, tt) $ returns ! (look_at ! 0 refl) $ free_all ! refl $
    pure_i ! (count.the_row.own_val made (vstruct vnil ∷ [])) ((λ vss. (tt, tt)), tt) ((tt, (refl, tt)), tt) $
    use0 𝓛 (raw (fact 𝓤 Told)) (fact_i 𝓤 Told (emp 𝓤) refl) $ nothing ! $ nothing ! $ fjoin ! $ nothing ! $ fjoin ! $
    keep ! (3 ∷ 0 ∷ 2 ∷ 1 ∷ []) $ by ! (leaves 𝓛 En hs c z (vstruct vnil) made (tt, (tt, tt)) (tt, (tt, tt)))))
