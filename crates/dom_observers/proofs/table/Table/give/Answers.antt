use Rattle.dom_base.proofs.Std.{ℕ, List, nat_eq, ap, ◌∙◌}
use Rattle.dom_model.proofs.Model.{append_once}
use Rattle.dom_observers.specs.Definitions.{TablesOf, table_of}
use Rattle.dom_observers.proofs.table.Table.give.Goals as goal

pub returns : goal.returns
returns c =
    let a : TablesOf ℕ = table_of c.append.new.self in
    ap (λ (pending : List ℕ). record a { pending = pending }) c.in_ok-insert.ensures
    ∙ ap (λ (t : TablesOf ℕ). record t { pending = append_once nat_eq t.pending c.args.observer }) c.in_ok-append.ensures
