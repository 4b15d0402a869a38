use Rattle.dom_base.proofs.Std.{ℕ, sym, ap, ◌∙◌, is_some, slice_get}
use Rattle.dom_observers.specs.Definitions.{TablesOf}
use Rattle.dom_observers.proofs.Lookups.{had, had-none}
use Rattle.dom_observers.proofs.observers.Observers.has.Goals as goal

pub returns-in-Some : goal.returns-in-Some
returns-in-Some c =
    c.has.ensures
    ∙ ap (λ (t : TablesOf ℕ). is_some (slice_get t.record_queues c.args.observer))
    (sym (had c.self.inside c.self.view_is c.args.owner c.in-Some.table.now c.in-Some.ensures))

pub returns-in-None : goal.returns-in-None
returns-in-None c =
    ap (λ (t : TablesOf ℕ). is_some (slice_get t.record_queues c.args.observer))
    (sym (had-none c.self.inside c.self.view_is c.args.owner c.in-None.ensures))
