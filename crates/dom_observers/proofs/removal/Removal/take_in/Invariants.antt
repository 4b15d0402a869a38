use Rattle.dom_base.proofs.Std.{take}
use Rattle.dom_observers.specs.Definitions.{HaveLeft}
use Rattle.dom_observers.proofs.removal.Removal.take_in.Given as goal

abbrev pub invariant-loop-place : goal.invariant-loop-place
invariant-loop-place l = HaveLeft l.self (take l.place-index l.places) l.went l.initial.registrations.items l.registrations.items
