use Rattle.dom_base.proofs.Std.{ℕ, refl, sym, ap, ◌∙◌, map}
use Rattle.dom_observers.specs.declared.observers.Observers.TheInside.{Inside}
use Rattle.dom_observers.specs.Definitions.{TablesOf, after_telling, change_of, queue_at}
use Rattle.dom_observers.proofs.Lookups.{rewritten, had, had-none, untouched-changes}
use Rattle.dom_observers.proofs.observers.Observers.tell.Goals as goal

pub returns-in_default-clause-records : goal.returns-in_default-clause-records
returns-in_default-clause-records c =
    ap (map change_of) c.new.ensures.items
    ∙ ap (λ (t : TablesOf ℕ). queue_at t.record_queues c.args.observer)
    (sym (had-none c.self.inside c.self.view_is c.args.owner c.in_default.ensures.value))

pub returns-in_default-clause-tables : goal.returns-in_default-clause-tables
returns-in_default-clause-tables c =
    let r : Inside = record { tables = c.get_mut.follows.lender-at-none; alloc = c.self.inside.alloc } in
    untouched-changes c.self.inside c.self.view_is c.args.owner r (after_telling c.args.observer) c.in_default.ensures.value
    c.get_mut.follows.holds-at-none refl

pub returns : goal.returns
returns c =
    let r : Inside = record { tables = c.get_mut.follows.lender c.tell.new.self; alloc = c.self.inside.alloc } in
    let there = had c.self.inside c.self.view_is c.args.owner c.in-Some.table.now c.in-Some.ensures.value in
    record {
      records = c.tell.ensures.records ∙ ap (λ (t : TablesOf ℕ). queue_at t.record_queues c.args.observer) (sym there);
      tables =
          rewritten c.self.inside c.self.view_is c.args.owner r c.tell.new.self (after_telling c.args.observer) c.in-Some.ensures.value
          (c.get_mut.follows.holds c.tell.new.self) c.tell.ensures.tables;
    }
