use Rattle.dom_base.proofs.Std.{◌≡◌, take, map, fold}
use Rattle.dom_observers.specs.Definitions.{registration_of, AreThere, copied_by, picked}
use Rattle.dom_observers.proofs.registrations.copy_from.Given as goal

abbrev pub invariant-loop-place : goal.invariant-loop-place
invariant-loop-place l =
    record {
      there : AreThere l.copies.items;
      copies : map registration_of l.copies.items ≡ fold (copied_by l.node) (map registration_of l.initial.copies.items)
          (picked l.registrations (take l.place-index l.places));
    }
