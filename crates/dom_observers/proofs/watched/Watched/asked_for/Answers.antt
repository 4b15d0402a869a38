use Rattle.dom_observers.proofs.Watching.{placed}
use Rattle.dom_observers.proofs.watched.Watched.asked_for.Goals as goal

pub returns-in_ok-insert-clause-place : goal.returns-in_ok-insert-clause-place
returns-in_ok-insert-clause-place c was =
    placed (c.note.ensures.noted was) c.in_ok-note.ensures.all c.args.observer c.args.node c.places.ensures c.asked_for_in-place.result
    c.asked_for_in-place.ensures

pub returns-else-observes_below-clause-place : goal.returns-else-observes_below-clause-place
returns-else-observes_below-clause-place c was =
    placed (c.note.ensures.noted was) c.in_ok-note.ensures.all c.args.observer c.args.node c.places.ensures c.asked_for_in-place.result
    c.asked_for_in-place.ensures
