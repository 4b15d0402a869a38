-- The units so far, and those that are read from here on, are all units.
use Rattle.dom_base.proofs.Std.{◌≡◌, drop}
use Rattle.dom_text.specs.Definitions.{between, units_at}
use Rattle.dom_words.specs.Strings.{place_view, PlaceFits}
use Rattle.dom_words.proofs.Loop.{with_front}
use Rattle.dom_words.proofs.strings.mixed_units_at.Given as goal

abbrev pub invariant-loop-i : goal.invariant-loop-i
invariant-loop-i l = (with_front l.units.items (units_at (place_view l.place) (drop l.i l.bytes)) ≡ units_at between l.bytes) × PlaceFits l.place
