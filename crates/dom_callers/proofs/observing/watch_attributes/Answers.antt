use Rattle.std.proofs.Common.{rules, ◌≡◌, ◌∙◌, ◌⊎◌, inl, inr, ℕ, ◌<◌, true, ltb, [], ◌∷◌, length, Err, ap, sym, arith, true≢false, length-append}
use Rattle.std.proofs.lemmas.Bool.{lt-ltb}
use Rattle.dom_base.specs.declared.Fault.TheVariants.{Refused, Memory}
use Rattle.dom_base.specs.declared.Refusal.TheVariants.{Limit}
use Rattle.dom_observers.specs.Definitions.{tables_of, TablesOf, with_observer}
use Rattle.dom_callers.specs.Words.{attribute_words}
use Rattle.dom_callers.proofs.observing.watch_attributes.Goals as goal

-- an observer that was made is there
made-there : (had now : TablesOf ℕ) (k : ℕ) → now ≡ with_observer had → k ≡ length had.record_queues → k < length now.record_queues
made-there had now k made is = let longer = length-append had.record_queues ([] ∷ []) in rw made (omega (arith, is, longer))

-- the observer that was made is there, and what it asks for is not nothing
-- src/observing.rt:35:5
pub returns-in_err-observe-clause-other : goal.returns-in_err-observe-clause-other
returns-in_err-observe-clause-other c =
    let had = tables_of c.args.observers.now c.args.owner in
    let made : tables_of c.make.new.self c.args.owner ≡ with_observer had =
    rw (c.law_names.ensures.same_owner c.args.owner) at (c.in_ok-observer.ensures.tables c.args.owner) in
    let there : ltb c.in_ok-observer.observer (length (tables_of c.make.new.self c.args.owner).record_queues) ≡ true =
    lt-ltb _ _ (made-there had _ _ made c.in_ok-observer.ensures.number) in
    let e = c.in_err-observe.field-0.0 in
    let only : (e ≡ Refused Limit) ⊎ (e ≡ Memory) =
    elim c.in_err-observe.ensures.other [
      | inl unknown ↦ absurd (true≢false (sym there ∙ c.in_err-observe.ensures.unknown.0 (ap Err unknown)))
      | inr (inl none) ↦ absurd (true≢false (sym (c.in_err-observe.ensures.no_kind.0 (ap Err none)).1))
      | inr (inr memory) ↦ inr memory
    ] in
    search (rules, only)

pub returns-clause-there : goal.returns-clause-there
returns-clause-there c = λ was.
    let laws = c.law_observers_are_there.ensures in
    let had = tables_of c.args.observers.now c.args.owner in
    let made : tables_of c.make.new.self c.args.owner ≡ with_observer had =
    rw (c.law_names.ensures.same_owner c.args.owner) at (c.in_ok-observer.ensures.tables c.args.owner) in
    laws.observing c.make.new.self c.observe.new.self c.args.owner c.in_ok-observer.observer c.args.node attribute_words
    (laws.made c.args.observers.now c.make.new.self c.args.owner was c.in_ok-observer.ensures.tables)
    (made-there had _ _ made c.in_ok-observer.ensures.number) c.in_ok-observe.ensures.tables
