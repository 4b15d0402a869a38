-- Parts of arrays.
use Rattle.std.specs.Prelude.{◌+◌, ◌≤◌, List, drop, length, take}
use Rattle.dom_answers.specs.declared.items.Span.{Span}

-- a part of an array
abbrev pub part : {X : Type 0} → List X → Span → List X
part xs span = take span.count (drop span.at xs)

-- it lies within the array
abbrev pub IsPart : {X : Type 0} → List X → Span → Type 0
IsPart xs span = span.at + span.count ≤ length xs
