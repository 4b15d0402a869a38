use Rattle.dom_base.proofs.Std.{length, filter, fold}
use Rattle.dom_model.proofs.Model.{target_of}
use Rattle.dom_observers.specs.Definitions.{change_of, none_found, found_at, found_of, keys_from, is_marked, looked_at}
use Rattle.dom_observers.proofs.Watching.{HasGathered}
use Rattle.dom_observers.proofs.interested.InterestedObservers.of.Given as goal

abbrev pub invariant-loop-at : goal.invariant-loop-at
invariant-loop-at l =
    let step = found_at l.registrations l.watched (change_of l.change) in
    HasGathered l.forest l.watched.above step (fold step none_found (looked_at l.forest l.watched.above (target_of (change_of l.change))))
    (found_of l.interested) l.at

abbrev pub decreases-loop-at : goal.decreases-loop-at
decreases-loop-at l = length (filter (is_marked l.watched.above) (keys_from l.forest l.at))
