-- What C is given of a reply's value.
use Rattle.std.specs.Prelude.{◌≡◌, ℕ, List}
use Rattle.dom_base.specs.declared.NodeName.{NodeName}
use Rattle.dom_base.specs.declared.Owner.{Owner}
use Rattle.dom_model.specs.Output.{Value, a_range, an_iterator, a_walker, an_observer, a_count, a_tree}
use Rattle.dom_model.specs.Place.{Boundary}
use Rattle.dom_calls.specs.declared.structs.DomPoint.{DomPoint}
use Rattle.dom_calls.specs.Owners.{named_in}

-- the value is the number of a range, an iterator, a walker or an observer, or a count
abbrev pub IsNumber : ℕ → Value → Type 0
IsNumber number (a_range n) = n ≡ number
IsNumber number (an_iterator n) = n ≡ number
IsNumber number (a_walker n) = n ≡ number
IsNumber number (an_observer n) = n ≡ number
IsNumber number (a_count n) = n ≡ number
IsNumber number _ = ⊥

-- a boundary point
abbrev pub point_in : List Owner → DomPoint → Boundary NodeName
point_in owners point = record { node = named_in owners point.node; offset = point.offset }

-- the value is a tree
abbrev pub IsTree : Value → Type 0
IsTree (a_tree trees) = Unit {0}
IsTree _ = ⊥
