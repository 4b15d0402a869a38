use Rattle.dom_base.proofs.Std.{◌≡◌, take, fold}
use Rattle.dom_observers.specs.Definitions.{given, change_of, table_of, record_of}
use Rattle.dom_observers.proofs.table.Table.give_copies.Given as goal

abbrev pub invariant-loop-observer : goal.invariant-loop-observer
invariant-loop-observer l =
    table_of l.self ≡ fold (λ t k. given (record_of l.interested (change_of l.change) k) t k) (table_of l.initial.self) (take l.observer-index l.observers)
