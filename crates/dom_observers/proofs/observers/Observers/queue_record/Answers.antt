use Rattle.dom_base.proofs.Std.{◌≡◌, ℕ, false, nat_eq, List, [], refl, sym, ap, subst, IfOk, on_ok_weaker}
use Rattle.dom_model.proofs.Model.{Owner, NodeName, is_empty, target_of}
use Rattle.dom_tree.specs.Definitions.{name_at}
use Rattle.dom_observers.specs.declared.observers.Observers.TheInside.{Inside}
use Rattle.dom_observers.specs.Definitions.{TablesOf, no_tables, told, is_taken, tables_of, all_tables, ChangesTables, path_keys, change_of, table_of}
use Rattle.dom_observers.proofs.Lookups.{rewritten, had, had-none, untouched-changes}
use Rattle.dom_observers.proofs.Tables.{not_taken, not_told}
use Rattle.dom_observers.proofs.Gathering.{interested-none}
use Rattle.dom_observers.proofs.observers.Observers.queue_record.Goals as goal

-- what is said of the owner of a target
moved : (Q : Owner → Type 0) (names : List NodeName) {o : Owner} {k j : ℕ} → o ≡ (name_at names k).owner → k ≡ j → Q o → Q (name_at names j).owner
moved Q names e g q = subst (λ i. Q (name_at names i).owner) g (subst Q e q)

pub returns-in_default-clause-taken : goal.returns-in_default-clause-taken
returns-in_default-clause-taken c =
    let ch = change_of c.args.change in
    let path = path_keys c.args.forest.now (target_of ch) in
    let t = tables_of c.args.self.now c.lent_name.result.0.now in
    let none = ap (λ (u : TablesOf ℕ). is_empty u.registrations)
    (had-none c.self.inside c.self.view_is c.lent_name.result.0.now c.in_default.ensures.value) in
    moved (λ p. false ≡ is_taken nat_eq path (tables_of c.args.self.now p) ch) c.args.forest.now.names c.lent_name.ensures.owner c.target.ensures
    (sym (not_taken path ch t (interested-none path t.registrations ch none)))

pub returns-in_default-clause-tables : goal.returns-in_default-clause-tables
returns-in_default-clause-tables c =
    let ch = change_of c.args.change in
    let rule = told nat_eq (path_keys c.args.forest.now (target_of ch)) ch in
    let r : Inside = record { tables = c.get_mut.follows.lender-at-none; alloc = c.self.inside.alloc } in
    moved (λ p. ChangesTables p (rule (tables_of c.args.self.now p)) c.args.self.now (all_tables r)) c.args.forest.now.names c.lent_name.ensures.owner
    c.target.ensures
    (untouched-changes c.self.inside c.self.view_is c.lent_name.result.0.now r rule c.in_default.ensures.value c.get_mut.follows.holds-at-none
    (not_told (path_keys c.args.forest.now (target_of ch)) ch no_tables
    (interested-none (path_keys c.args.forest.now (target_of ch)) [] ch refl)))

pub returns-clause-taken : goal.returns-clause-taken
returns-clause-taken c =
    let ch = change_of c.args.change in
    let path = path_keys c.args.forest.now (target_of ch) in
    moved (λ p. IfOk c.queue_record.result (λ taken. taken ≡ is_taken nat_eq path (tables_of c.args.self.now p) ch)) c.args.forest.now.names
    c.lent_name.ensures.owner c.target.ensures
    (subst (λ (t : TablesOf ℕ). IfOk c.queue_record.result (λ taken. taken ≡ is_taken nat_eq path t ch))
    (sym (had c.self.inside c.self.view_is c.lent_name.result.0.now c.in-Some.table.now c.in-Some.ensures.value)) c.queue_record.ensures.taken)

pub returns-clause-tables : goal.returns-clause-tables
returns-clause-tables c =
    let o = (name_at c.args.forest.now.names (target_of (change_of c.args.change))).owner in
    let rule = told nat_eq (path_keys c.args.forest.now (target_of (change_of c.args.change))) (change_of c.args.change) in
    let r : Inside = record { tables = c.get_mut.follows.lender c.queue_record.new.self; alloc = c.self.inside.alloc } in
    let step : table_of c.queue_record.new.self ≡ rule (table_of c.in-Some.table.now) →
    ChangesTables o (rule (tables_of c.args.self.now o)) c.args.self.now (all_tables r) =
    λ e. moved (λ p. ChangesTables p (rule (tables_of c.args.self.now p)) c.args.self.now (all_tables r)) c.args.forest.now.names
    c.lent_name.ensures.owner c.target.ensures
    (rewritten c.self.inside c.self.view_is c.lent_name.result.0.now r c.queue_record.new.self rule c.in-Some.ensures.value
    (c.get_mut.follows.holds c.queue_record.new.self) e) in
    on_ok_weaker c.queue_record.result step c.queue_record.ensures.tables
