use Rattle.dom_base.proofs.Std.{◌≡◌, ℕ, refl, sym, ap, ◌∙◌, subst, IfOk, on_ok_weaker, on_err_weaker}
use Rattle.dom_observers.specs.declared.observers.Observers.TheInside.{Inside}
use Rattle.dom_observers.specs.Definitions.{TablesOf, none_pending, tables_of, all_tables, ChangesTables, KeepsTables, table_of}
use Rattle.dom_observers.proofs.Lookups.{rewritten, had, had-none, changes-kept, untouched-changes}
use Rattle.dom_observers.proofs.observers.Observers.take_pending.Goals as goal

pub returns-in_default-clause-numbers : goal.returns-in_default-clause-numbers
returns-in_default-clause-numbers c =
    c.new.ensures.items
    ∙ ap (λ (t : TablesOf ℕ). t.pending) (sym (had-none c.self.inside c.self.view_is c.args.owner c.in_default.ensures.value))

pub returns-in_default-clause-tables : goal.returns-in_default-clause-tables
returns-in_default-clause-tables c =
    let r : Inside = record { tables = c.get_mut.follows.lender-at-none; alloc = c.self.inside.alloc } in
    untouched-changes c.self.inside c.self.view_is c.args.owner r (λ t. none_pending t) c.in_default.ensures.value c.get_mut.follows.holds-at-none refl

pub returns-clause-numbers : goal.returns-clause-numbers
returns-clause-numbers c =
    let there = had c.self.inside c.self.view_is c.args.owner c.in-Some.table.now c.in-Some.ensures.value in
    subst (λ (t : TablesOf ℕ). IfOk c.take_pending.result (λ v. v.items ≡ t.pending)) (sym there) c.take_pending.ensures.numbers

pub returns-clause-tables : goal.returns-clause-tables
returns-clause-tables c =
    let r : Inside = record { tables = c.get_mut.follows.lender c.take_pending.new.self; alloc = c.self.inside.alloc } in
    let step : table_of c.take_pending.new.self ≡ none_pending (table_of c.in-Some.table.now) →
    ChangesTables c.args.owner (none_pending (tables_of c.args.self.now c.args.owner)) c.args.self.now (all_tables r) =
    λ e. rewritten c.self.inside c.self.view_is c.args.owner r c.take_pending.new.self (λ t. none_pending t) c.in-Some.ensures.value
    (c.get_mut.follows.holds c.take_pending.new.self) e in
    on_ok_weaker c.take_pending.result step c.take_pending.ensures.tables

pub returns-clause-err : goal.returns-clause-err
returns-clause-err c =
    let r : Inside = record { tables = c.get_mut.follows.lender c.take_pending.new.self; alloc = c.self.inside.alloc } in
    let step : table_of c.take_pending.new.self ≡ table_of c.in-Some.table.now → KeepsTables c.args.self.now (all_tables r) =
    λ e. changes-kept c.args.owner c.args.self.now (all_tables r)
    (rewritten c.self.inside c.self.view_is c.args.owner r c.take_pending.new.self (λ t. t) c.in-Some.ensures.value
    (c.get_mut.follows.holds c.take_pending.new.self) e) in
    on_err_weaker c.take_pending.result step c.take_pending.ensures.err
