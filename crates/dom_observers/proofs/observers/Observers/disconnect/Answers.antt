use Rattle.dom_base.proofs.Std.{ℕ, ltb, length, cond, sym, ap, ◌∙◌}
use Rattle.dom_observers.specs.declared.observers.Observers.TheInside.{Inside}
use Rattle.dom_observers.specs.Definitions.{TablesOf, disconnected, all_tables}
use Rattle.dom_observers.proofs.Lookups.{rewritten, had, had-none, kept-changes, untouched, below_none}
use Rattle.dom_observers.proofs.observers.Observers.disconnect.Goals as goal

pub returns-in_default : goal.returns-in_default
returns-in_default c =
    let r : Inside = record { tables = c.get_mut.follows.lender-at-none; alloc = c.self.inside.alloc } in
    record {
      value = sym (below_none c.args.observer) ∙ ap (λ (t : TablesOf ℕ). ltb c.args.observer (length t.record_queues))
          (sym (had-none c.self.inside c.self.view_is c.args.owner c.in_default.ensures.value));
      tables = kept-changes c.args.owner c.args.self.now (all_tables r)
          (untouched c.self.inside c.self.view_is r c.get_mut.follows.holds-at-none);
    }

pub returns : goal.returns
returns c =
    let r : Inside = record { tables = c.get_mut.follows.lender c.disconnect.new.self; alloc = c.self.inside.alloc } in
    let there = had c.self.inside c.self.view_is c.args.owner c.in-Some.table.now c.in-Some.ensures.value in
    record {
      value = c.disconnect.ensures.value ∙ ap (λ (t : TablesOf ℕ). ltb c.args.observer (length t.record_queues)) (sym there);
      tables =
          rewritten c.self.inside c.self.view_is c.args.owner r c.disconnect.new.self
          (λ t. cond c.disconnect.result (disconnected c.args.observer t) t) c.in-Some.ensures.value
          (c.get_mut.follows.holds c.disconnect.new.self) c.disconnect.ensures.tables;
    }
