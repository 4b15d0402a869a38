use Rattle.dom_base.proofs.Std.{◌≡◌, false, nat_eq, take, list_any}
use Rattle.dom_model.proofs.Model.{is_asked_for}
use Rattle.dom_observers.specs.Definitions.{picked}
use Rattle.dom_observers.proofs.watched.asked_for_in.Given as goal

-- none of those that were looked at
abbrev pub invariant-loop-place : goal.invariant-loop-place
invariant-loop-place l = list_any (is_asked_for nat_eq l.observer l.node) (picked l.registrations (take l.place-index l.places)) ≡ false
