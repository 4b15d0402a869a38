use Rattle.dom_base.proofs.Std.{ℕ, nat_eq}
use Rattle.indexmap.specs.IndexMap.{get}
use Rattle.dom_observers.specs.Definitions.{places_or, AreThinned}
use Rattle.dom_observers.proofs.watched.count_gone_in.Given as goal

-- only places of those that have gone were dropped so far
abbrev pub invariant-loop-place : goal.invariant-loop-place
invariant-loop-place l = (x : ℕ) → AreThinned l.registrations (places_or (get nat_eq l.initial.lists x)) (places_or (get nat_eq l.lists x))
