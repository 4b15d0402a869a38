use Rattle.dom_base.proofs.Std.{◌≡◌, [], filter, subst, sym}
use Rattle.dom_observers.specs.Definitions.{is_marked, keys_from}
use Rattle.dom_observers.proofs.Watching.{none_marked, none_near}
use Rattle.dom_observers.proofs.watched.Watched.nearest_above.Goals as goal

pub returns-in-Empty : goal.returns-in-Empty
returns-in-Empty c =
    let keys = keys_from c.args.forest.now c.args.from in
    none_near (subst (λ m. filter (is_marked m) keys ≡ []) (sym c.in-Empty.is) (none_marked keys))
