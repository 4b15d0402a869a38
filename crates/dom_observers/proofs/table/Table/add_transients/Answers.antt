use Rattle.dom_base.proofs.Std.{sym, ◌∙◌}
use Rattle.dom_observers.specs.Definitions.{path_keys, table_of}
use Rattle.dom_observers.proofs.Gathering.{copies-none}
use Rattle.dom_observers.proofs.Tables.{none_left}
use Rattle.dom_observers.proofs.table.Table.add_transients.Goals as goal

pub returns-then-is_empty : goal.returns-then-is_empty
returns-then-is_empty c =
    let t = table_of c.args.self.now in
    let path = path_keys c.args.forest.now c.args.parent in
    sym (none_left c.args.node path t (copies-none c.args.node path t.registrations (sym c.is_empty.ensures ∙ c.if-is_empty.true)))
