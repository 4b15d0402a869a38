use Rattle.dom_base.proofs.Std.{◌≡◌, take, fold}
use Rattle.dom_observers.specs.Definitions.{change_of, found_by, picked, found_of}
use Rattle.dom_observers.proofs.interested.InterestedObservers.add_from.Given as goal

abbrev pub invariant-loop-place : goal.invariant-loop-place
invariant-loop-place l =
    found_of l.self ≡ fold (found_by (change_of l.change)) (found_of l.initial.self)
    (picked l.registrations (take l.place-index l.places))
