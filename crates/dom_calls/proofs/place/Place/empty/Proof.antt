-- `empty` makes the null pointer. Assumes `Logic`.
use mathlib.Core.Path.{◌≡◌, refl}
use mathlib.Core.List.{[], ◌∷◌}
use Rattle.std.specs.Prelude.{Option, None}
use mir.Val.{Val}
use base.Logic.{SProp, emp}
use lib.Dec.{lit<}
use types.Kit.{‵, raw, ◌⊛◌, ◌$◌, ◌∵◌, !, qed, by, move, keep, drop, use0, split, fjoin}
use types.Part.{agg}
use types.Run.{lit, and_then, no_more, returns, enter}
use types.ByLocal.{alloc_all, pass_all, free_all, look_at, sets}
use contract.Monad.{fact, fact_i}
use contract.Running.{tables}
use denote.RattleType.{owns}
use denote.RawPtr.{null_ptr}
use denote.Signature.{types_at}
use denote.Steps.{nothing}
use denote.Triple.Entry.{alive}
use denote.Triple.Walked.{Stays, walk_of}
use Rattle.std.proofs.raw_atomic.Walks.{proved_at, leaves}
use Rattle.std_alloc.proofs.RcSteps.{word}
use Rattle.node_arena.proofs.Words.{word_made}
use Rattle.dom_calls.specs.State.{CallState}
use Rattle.dom_calls.specs.contracts.place.Place.empty.{ended, clauses}
use Rattle.dom_calls.specs.contracts.place.Place.empty.Key.{name as #self}
use Rattle.dom_calls.proofs.place.Place.empty.Statement.{statement}
use Rattle.dom_calls.proofs.place.Place.empty.Code as code

pub empty_spec : {M : Type 1} → statement M
empty_spec 𝓤 𝓛 𝓜 𝓡 wired =
    let H = 𝓛.H in let 𝓣 = tables 𝓤 H 𝓜 𝓡 𝓡.env in let En = ended in let c = clauses 𝓛 𝓜.mem 𝓡.returns in let hs : Stays En.signature.params En.kept = tt in
    let nothing_held : Option CallState = None in
    proved_at 𝓛 En hs c 𝓜 𝓡 tt #self code.function (code.unfolded 𝓤 H 𝓜 𝓡 wired) (λ z are.
    let Post : Val → SProp 𝓤 = (walk_of 𝓛 En hs c).post z in
    qed 𝓛 ((raw (alive 𝓛 En.signature z.0.0 z.0.1) ⊛ ‵ (owns (types_at En.signature.params z.0.0) z.0.3 z.0.4)) ∷ raw ((c z.0.0 z.0.3).requires z.1) ∷ []) ∵
    split ! $ move ! (2 ∷ 1 ∷ []) $ drop ! $ drop ! $
    enter ! 𝓣.C 𝓣.Λ code.function [] Post $ alloc_all ! (λ l. pass_all ! refl tt $
    sets ! (agg ! (and_then ! (lit ! tt) (no_more !))) refl (tt, (record { fits = lit< tt }, tt)) $ nothing ! $ word_made ! null_ptr $ fjoin ! $
    use0 𝓛 (raw (fact 𝓤 (nothing_held ≡ nothing_held))) (fact_i 𝓤 (nothing_held ≡ nothing_held) (emp 𝓤) refl) $ nothing ! $
    returns ! (look_at ! 0 refl) $ free_all ! refl $ keep ! (3 ∷ 0 ∷ 2 ∷ 1 ∷ []) $ by !
    (leaves 𝓛 En hs c z (word null_ptr) (record { at = null_ptr; value = nothing_held }) tt tt)))
