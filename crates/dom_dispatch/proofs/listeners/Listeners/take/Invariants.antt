use Rattle.dom_dispatch.proofs.Cited.{◌≡◌, not, nat_eq, filter, length, is_listener, listeners_in, present, IsIndexed, HasTypes}
use Rattle.dom_dispatch.proofs.listeners.Listeners.take.Given as goal

abbrev pub invariant-loop-place : goal.invariant-loop-place
invariant-loop-place l = record {
  indexed : IsIndexed l.self-inside.table.places l.self-inside.table.entries.items;
  others : filter (λ x. not (is_listener nat_eq l.node l.event l.label l.capture x)) (listeners_in (present l.self-inside.table.entries.items))
      ≡ filter (λ x. not (is_listener nat_eq l.node l.event l.label l.capture x)) l.fn.self;
  typed : HasTypes l.self-inside.types l.fn.self;
}

abbrev pub decreases-loop-place : goal.decreases-loop-place
decreases-loop-place l = length (present l.self-inside.table.entries.items)
