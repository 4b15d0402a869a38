use Rattle.dom_base.proofs.Std.{◌≡◌, nat_eq, [], refl, subst, on_ok_weaker}
use Rattle.dom_model.proofs.Model.{Owner}
use Rattle.dom_tree.specs.Definitions.{name_at}
use Rattle.dom_observers.specs.declared.observers.Observers.TheInside.{Inside}
use Rattle.dom_observers.specs.Definitions.{no_tables, left, tables_of, all_tables, ChangesTables, path_keys, table_of}
use Rattle.dom_observers.proofs.Lookups.{rewritten, untouched-changes}
use Rattle.dom_observers.proofs.Tables.{none_left}
use Rattle.dom_observers.proofs.Gathering.{copies-none}
use Rattle.dom_observers.proofs.observers.Observers.transient.Goals as goal

pub returns-in_default : goal.returns-in_default
returns-in_default c =
    let names = c.args.forest.now.names in
    let node = c.args.node in
    let o = c.lent_name.result.0.now in
    let all = c.args.self.now in
    let rule = left nat_eq node (path_keys c.args.forest.now c.args.parent) in
    let r : Inside = record { tables = c.get_mut.follows.lender-at-none; alloc = c.self.inside.alloc } in
    subst (λ (p : Owner). ChangesTables p (rule (tables_of all p)) all (all_tables r)) c.lent_name.ensures.owner
    (untouched-changes c.self.inside c.self.view_is o r rule c.in_default.ensures.value c.get_mut.follows.holds-at-none
    (none_left node (path_keys c.args.forest.now c.args.parent) no_tables (copies-none node (path_keys c.args.forest.now c.args.parent) [] refl)))

pub returns : goal.returns
returns c =
    let names = c.args.forest.now.names in
    let node = c.args.node in
    let o = c.lent_name.result.0.now in
    let all = c.args.self.now in
    let rule = left nat_eq node (path_keys c.args.forest.now c.args.parent) in
    let t = c.in-Some.table.now in
    let r : Inside = record { tables = c.get_mut.follows.lender c.add_transients.new.self; alloc = c.self.inside.alloc } in
    let step : table_of c.add_transients.new.self ≡ rule (table_of t) →
    ChangesTables (name_at names node).owner (rule (tables_of all (name_at names node).owner)) all (all_tables r) =
    λ e. subst (λ (p : Owner). ChangesTables p (rule (tables_of all p)) all (all_tables r)) c.lent_name.ensures.owner
    (rewritten c.self.inside c.self.view_is o r c.add_transients.new.self rule c.in-Some.ensures.value
    (c.get_mut.follows.holds c.add_transients.new.self) e) in
    on_ok_weaker c.add_transients.result step c.add_transients.ensures
