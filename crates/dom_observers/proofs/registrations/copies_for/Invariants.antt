use Rattle.dom_base.proofs.Std.{[], length, map, filter, fold}
use Rattle.dom_observers.specs.Definitions.{registration_of, AreThere, copied_at, is_marked, keys_from, path_keys}
use Rattle.dom_observers.proofs.Watching.{HasGathered}
use Rattle.dom_observers.proofs.registrations.copies_for.Given as goal

abbrev pub invariant-loop-at : goal.invariant-loop-at
invariant-loop-at l =
    let step = copied_at l.node l.registrations l.watched in
    record {
      there : AreThere l.copies.items;
      copies : HasGathered l.forest l.watched.above step (fold step [] (filter (is_marked l.watched.above) (path_keys l.forest l.fn.parent)))
          (map registration_of l.copies.items) l.at;
    }

abbrev pub decreases-loop-at : goal.decreases-loop-at
decreases-loop-at l = length (filter (is_marked l.watched.above) (keys_from l.forest l.at))
