use Rattle.dom_base.proofs.Std.{◌≡◌, ℕ, true, false, length, refl, sym, ap, ◌∙◌, subst, IfOk, is_some, Result, Ok, Err, ◌↔◌, IsErrAnd, true≢false}
use Rattle.dom_base.proofs.Std.{on_ok_weaker, on_err_weaker}
use Rattle.dom_model.proofs.Model.{Fault, Refused, Memory, Limit, past_limit}
use Rattle.dom_observers.specs.declared.observers.Observers.TheInside.{Inside}
use Rattle.dom_observers.specs.Definitions.{TablesOf, with_observer, tables_of, all_tables, ChangesTables, KeepsTables, table_of}
use Rattle.dom_observers.proofs.Lookups.{rewritten, had, had-in, kept-in, changes-kept, changes-before}
use Rattle.dom_tree.proofs.OwnerLists.{on_err}
use Rattle.dom_observers.proofs.observers.Observers.make.Goals as goal

-- want of memory is no limit
not_limit : (r : Result ℕ Fault) → IsErrAnd r (λ f. f ≡ Memory) → r ≡ Err (Refused Limit) → ⊥
not_limit (Ok k) h e = cc
not_limit (Err f) h e = cc

pub returns-in_err-prepare-clause-limit : goal.returns-in_err-prepare-clause-limit
returns-in_err-prepare-clause-limit c =
    let off : past_limit (length (tables_of c.args.self.now c.args.owner).record_queues) 1 ≡ false =
    ap (λ (t : TablesOf ℕ). past_limit (length t.record_queues) 1)
    (had-in c.self.inside c.self.view_is c.args.owner ∙ c.in_err-prepare.ensures.none) in
    (λ h. absurd (not_limit c.from_residual.result c.from_residual.ensures.1 h), λ h. absurd (true≢false (sym h ∙ off)))

pub returns-in_err-prepare-clause-err : goal.returns-in_err-prepare-clause-err
returns-in_err-prepare-clause-err c =
    let mid : Inside = record { tables = c.prepare.new.self; alloc = c.self.inside.alloc } in
    on_err c.from_residual.result (kept-in c.self.inside c.self.view_is mid c.in_err-prepare.ensures.keeps)

pub unreachable-requires : goal.unreachable-requires
unreachable-requires c = true≢false (sym c.in_ok-prepare.ensures.there ∙ sym (ap is_some c.in_default.ensures.value))

pub returns-clause-number : goal.returns-clause-number
returns-clause-number c =
    let mid : Inside = record { tables = c.prepare.new.self; alloc = c.self.inside.alloc } in
    let kept = kept-in c.self.inside c.self.view_is mid c.in_ok-prepare.ensures.keeps in
    let now = sym (had mid refl c.args.owner c.in-Some.table.now c.in-Some.ensures.value) ∙ kept c.args.owner in
    subst (λ (t : TablesOf ℕ). IfOk c.make.result (λ k. k ≡ length t.record_queues)) now c.make.ensures.number

pub returns-clause-tables : goal.returns-clause-tables
returns-clause-tables c =
    let mid : Inside = record { tables = c.prepare.new.self; alloc = c.self.inside.alloc } in
    let kept = kept-in c.self.inside c.self.view_is mid c.in_ok-prepare.ensures.keeps in
    let r : Inside = record { tables = c.get_mut.follows.lender c.make.new.self; alloc = c.self.inside.alloc } in
    let step : table_of c.make.new.self ≡ with_observer (table_of c.in-Some.table.now) →
    ChangesTables c.args.owner (with_observer (tables_of c.args.self.now c.args.owner)) c.args.self.now (all_tables r) =
    λ e. changes-before c.args.owner (λ t. with_observer t) c.args.self.now (all_tables mid) (all_tables r) kept
    (rewritten mid refl c.args.owner r c.make.new.self (λ t. with_observer t) c.in-Some.ensures.value
    (c.get_mut.follows.holds c.make.new.self) e) in
    on_ok_weaker c.make.result step c.make.ensures.tables

pub returns-clause-limit : goal.returns-clause-limit
returns-clause-limit c =
    let mid : Inside = record { tables = c.prepare.new.self; alloc = c.self.inside.alloc } in
    let kept = kept-in c.self.inside c.self.view_is mid c.in_ok-prepare.ensures.keeps in
    let now = sym (had mid refl c.args.owner c.in-Some.table.now c.in-Some.ensures.value) ∙ kept c.args.owner in
    subst (λ (t : TablesOf ℕ). (c.make.result ≡ Err (Refused Limit)) ↔ (past_limit (length t.record_queues) 1 ≡ true)) now c.make.ensures.limit

pub returns-clause-err : goal.returns-clause-err
returns-clause-err c =
    let mid : Inside = record { tables = c.prepare.new.self; alloc = c.self.inside.alloc } in
    let kept = kept-in c.self.inside c.self.view_is mid c.in_ok-prepare.ensures.keeps in
    let r : Inside = record { tables = c.get_mut.follows.lender c.make.new.self; alloc = c.self.inside.alloc } in
    let step : table_of c.make.new.self ≡ table_of c.in-Some.table.now → KeepsTables c.args.self.now (all_tables r) =
    λ e. changes-kept c.args.owner c.args.self.now (all_tables r)
    (changes-before c.args.owner (λ t. t) c.args.self.now (all_tables mid) (all_tables r) kept
    (rewritten mid refl c.args.owner r c.make.new.self (λ t. t) c.in-Some.ensures.value
    (c.get_mut.follows.holds c.make.new.self) e)) in
    on_err_weaker c.make.result step c.make.ensures.err
