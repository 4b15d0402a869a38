use Rattle.dom_base.proofs.Std.{◌∙◌}
use Rattle.dom_observers.specs.declared.observers.Observers.TheInside.{Inside}
use Rattle.dom_observers.proofs.Lookups.{tables_of-at}
use Rattle.dom_observers.proofs.observers.Observers.new.Goals as goal

pub returns : goal.returns
returns c o =
    let r : Inside = record { tables = c.new.result; alloc = c.args.alloc } in
    tables_of-at r o ∙ c.new.ensures o
