use Rattle.dom_observers.proofs.Ascending.{path_keys-named}
use Rattle.dom_observers.proofs.laws.law_path_keys_are_named.Goals as goal

pub returns : goal.returns
returns c =
    let both = path_keys-named c.args.forest.now c.law_nodes_stand_once.ensures.once c.law_nodes_stand_once.ensures.only c.args.key c.requires in
    record { named = both.0; nodes = both.1 }
