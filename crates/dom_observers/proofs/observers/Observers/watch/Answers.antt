use Rattle.dom_base.proofs.Std.{ℕ, not, sym, ap, ◌∙◌}
use Rattle.dom_model.proofs.Model.{is_empty}
use Rattle.dom_observers.specs.Definitions.{TablesOf}
use Rattle.dom_observers.proofs.Lookups.{had, had-none}
use Rattle.dom_observers.proofs.observers.Observers.watch.Goals as goal

pub returns-in-Some : goal.returns-in-Some
returns-in-Some c =
    c.watch.ensures
    ∙ ap (λ (t : TablesOf ℕ). not (is_empty t.registrations))
    (sym (had c.self.inside c.self.view_is c.args.owner.now c.in-Some.table.now c.in-Some.ensures))

pub returns-in-None : goal.returns-in-None
returns-in-None c =
    ap (λ (t : TablesOf ℕ). not (is_empty t.registrations)) (sym (had-none c.self.inside c.self.view_is c.args.owner.now c.in-None.ensures))
