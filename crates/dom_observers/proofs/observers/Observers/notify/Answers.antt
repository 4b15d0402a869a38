use Rattle.dom_base.proofs.Std.{◌≡◌, ℕ, refl, sym, ap, ◌∙◌, subst, IfOk, map, on_ok_weaker}
use Rattle.dom_observers.specs.declared.observers.Observers.TheInside.{Inside}
use Rattle.dom_observers.specs.Definitions.{TablesOf, notices, notified, tables_of, all_tables, ChangesTables, notice_of, table_of}
use Rattle.dom_observers.proofs.Lookups.{rewritten, had, had-none, untouched-changes}
use Rattle.dom_observers.proofs.observers.Observers.notify.Goals as goal

pub returns-in_default : goal.returns-in_default
returns-in_default c =
    let r : Inside = record { tables = c.get_mut.follows.lender-at-none; alloc = c.self.inside.alloc } in
    record {
      notices =
          ap (map notice_of) c.new.ensures.items
          ∙ ap (λ (t : TablesOf ℕ). notices t) (sym (had-none c.self.inside c.self.view_is c.args.owner c.in_default.ensures.value));
      tables = untouched-changes c.self.inside c.self.view_is c.args.owner r notified c.in_default.ensures.value c.get_mut.follows.holds-at-none refl;
    }

pub returns : goal.returns
returns c =
    let r : Inside = record { tables = c.get_mut.follows.lender c.notify.new.self; alloc = c.self.inside.alloc } in
    let there = had c.self.inside c.self.view_is c.args.owner c.in-Some.table.now c.in-Some.ensures.value in
    let step : table_of c.notify.new.self ≡ notified (table_of c.in-Some.table.now) →
    ChangesTables c.args.owner (notified (tables_of c.args.self.now c.args.owner)) c.args.self.now (all_tables r) =
    λ e. rewritten c.self.inside c.self.view_is c.args.owner r c.notify.new.self notified c.in-Some.ensures.value
    (c.get_mut.follows.holds c.notify.new.self) e in
    record {
      notices = subst (λ (t : TablesOf ℕ). IfOk c.notify.result (λ v. map notice_of v.items ≡ notices t)) (sym there) c.notify.ensures.notices;
      tables = on_ok_weaker c.notify.result step c.notify.ensures.tables;
    }
