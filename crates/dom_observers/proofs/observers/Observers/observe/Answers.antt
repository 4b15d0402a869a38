use Rattle.dom_base.proofs.Std.{◌≡◌, ℕ, true, false, ltb, length, nat_eq, refl, sym, ap, ◌∙◌, subst, ◌↔◌, Err, true≢false, on_ok_weaker, on_err_weaker}
use Rattle.dom_model.proofs.Model.{Refused, Unknown, TypeFault, options_of, asks_for_nothing}
use Rattle.dom_observers.specs.declared.observers.Observers.TheInside.{Inside}
use Rattle.dom_observers.specs.Definitions.{TablesOf, observing, tables_of, all_tables, ChangesTables, KeepsTables, words_of, table_of}
use Rattle.dom_observers.proofs.Lookups.{rewritten, had, had-none, changes-kept, untouched, below_none}
use Rattle.dom_observers.proofs.observers.Observers.observe.Goals as goal

pub returns-in_default-clause-unknown : goal.returns-in_default-clause-unknown
returns-in_default-clause-unknown c =
    let off = ap (λ (t : TablesOf ℕ). ltb c.args.observer (length t.record_queues))
    (had-none c.self.inside c.self.view_is c.args.owner c.in_default.ensures.value) ∙ below_none c.args.observer in
    (λ _. off, λ _. refl)

pub returns-in_default-clause-no_kind : goal.returns-in_default-clause-no_kind
returns-in_default-clause-no_kind c =
    let off = ap (λ (t : TablesOf ℕ). ltb c.args.observer (length t.record_queues))
    (had-none c.self.inside c.self.view_is c.args.owner c.in_default.ensures.value) ∙ below_none c.args.observer in
    (λ e. cc, λ both. absurd (true≢false (sym both.0 ∙ off)))

pub returns-in_default-clause-err : goal.returns-in_default-clause-err
returns-in_default-clause-err c =
    let r : Inside = record { tables = c.get_mut.follows.lender-at-none; alloc = c.self.inside.alloc } in
    untouched c.self.inside c.self.view_is r c.get_mut.follows.holds-at-none

pub returns-clause-tables : goal.returns-clause-tables
returns-clause-tables c =
    let r : Inside = record { tables = c.get_mut.follows.lender c.observe.new.self; alloc = c.self.inside.alloc } in
    let f = observing nat_eq c.args.observer c.args.node (words_of c.args.options) in
    let step : table_of c.observe.new.self ≡ f (table_of c.in-Some.table.now) →
    ChangesTables c.args.owner (f (tables_of c.args.self.now c.args.owner)) c.args.self.now (all_tables r) =
    λ e. rewritten c.self.inside c.self.view_is c.args.owner r c.observe.new.self f c.in-Some.ensures.value
    (c.get_mut.follows.holds c.observe.new.self) e in
    on_ok_weaker c.observe.result step c.observe.ensures.tables

pub returns-clause-unknown : goal.returns-clause-unknown
returns-clause-unknown c =
    let there = had c.self.inside c.self.view_is c.args.owner c.in-Some.table.now c.in-Some.ensures.value in
    subst (λ (t : TablesOf ℕ). (c.observe.result ≡ Err (Refused Unknown)) ↔ (ltb c.args.observer (length t.record_queues) ≡ false)) (sym there)
    c.observe.ensures.unknown

pub returns-clause-no_kind : goal.returns-clause-no_kind
returns-clause-no_kind c =
    let there = had c.self.inside c.self.view_is c.args.owner c.in-Some.table.now c.in-Some.ensures.value in
    subst (λ (t : TablesOf ℕ). (c.observe.result ≡ Err (Refused TypeFault)) ↔
    ((ltb c.args.observer (length t.record_queues) ≡ true) × (asks_for_nothing (options_of (words_of c.args.options)) ≡ true))) (sym there)
    c.observe.ensures.no_kind

pub returns-clause-err : goal.returns-clause-err
returns-clause-err c =
    let r : Inside = record { tables = c.get_mut.follows.lender c.observe.new.self; alloc = c.self.inside.alloc } in
    let f = λ (t : TablesOf ℕ). t in
    let step : table_of c.observe.new.self ≡ table_of c.in-Some.table.now → KeepsTables c.args.self.now (all_tables r) =
    λ e. changes-kept c.args.owner c.args.self.now (all_tables r)
    (rewritten c.self.inside c.self.view_is c.args.owner r c.observe.new.self f c.in-Some.ensures.value
    (c.get_mut.follows.holds c.observe.new.self) e) in
    on_err_weaker c.observe.result step c.observe.ensures.err
