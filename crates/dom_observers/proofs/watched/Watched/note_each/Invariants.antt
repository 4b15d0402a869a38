use Rattle.dom_base.proofs.Std.{◌≡◌}
use Rattle.dom_observers.specs.Definitions.{AreNoted}
use Rattle.dom_observers.proofs.watched.Watched.note_each.Given as goal

-- the next place is the first that is not noted
abbrev pub invariant-loop-place : goal.invariant-loop-place
invariant-loop-place l = record {
  next : l.self.noted ≡ l.place;
  noted : AreNoted l.fn.self l.registrations → AreNoted l.self l.registrations;
}
