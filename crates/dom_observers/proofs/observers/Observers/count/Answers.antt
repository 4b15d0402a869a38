use Rattle.dom_base.proofs.Std.{ℕ, sym, ap, ◌∙◌, length}
use Rattle.dom_observers.specs.Definitions.{TablesOf}
use Rattle.dom_observers.proofs.Lookups.{had, had-none}
use Rattle.dom_observers.proofs.observers.Observers.count.Goals as goal

pub returns-in-Some : goal.returns-in-Some
returns-in-Some c =
    c.count.ensures
    ∙ ap (λ (t : TablesOf ℕ). length t.record_queues)
    (sym (had c.self.inside c.self.view_is c.args.owner c.in-Some.table.now c.in-Some.ensures))

pub returns-in-None : goal.returns-in-None
returns-in-None c =
    ap (λ (t : TablesOf ℕ). length t.record_queues)
    (sym (had-none c.self.inside c.self.view_is c.args.owner c.in-None.ensures))
