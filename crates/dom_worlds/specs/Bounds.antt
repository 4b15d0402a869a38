-- The ends of ranges are within their nodes, in every world that the machine reaches.
use Rattle.std.specs.Prelude.{◌≡◌, ◌≤◌, ◌+◌, ℕ, if◌then◌else◌, Bool, IsTrue, [], Option, Some, None, ⊤}
use Rattle.std.specs.List.{AllByRecursion}
use Rattle.dom_base.specs.declared.NodeName.{NodeName}
use Rattle.dom_base.specs.declared.Owner.{Owner}
use Rattle.dom_model.specs.Command.{Line}
use Rattle.dom_model.specs.DocumentMachine.{step}
use Rattle.dom_model.specs.Names.{name_eq}
use Rattle.dom_model.specs.Part.{Part}
use Rattle.dom_model.specs.Place.{Boundary}
use Rattle.dom_model.specs.Ranges.{Range}
use Rattle.dom_model.specs.Tree.{Trees, kind_of, has_data, children_of, length_of}
use Rattle.dom_model.specs.World.{World, part_of}
use Rattle.dom_worlds.specs.Reached.{IsReached}
use Rattle.dom_worlds.specs.Tables.{IsWhole}

-- a boundary point is not past the end of its node (DOM Standard, 5.2 Boundary points)
abbrev pub IsWithin : Trees → Boundary NodeName → Type 0
IsWithin ts b = b.offset ≤ length_of ts b.node

-- both ends of a range that was not dropped
abbrev pub EndsWithin : Trees → Option (Range NodeName) → Type 0
EndsWithin ts None = ⊤
EndsWithin ts (Some r) = IsWithin ts r.start × IsWithin ts r.end

-- The ends of a part's ranges are within their nodes, and no Text or Comment has children.
pub record HasBounds (p : Part) : Type 0 where
  pub ranges : AllByRecursion (EndsWithin p.trees) p.ranges
  pub leaves : (x : NodeName) → IsTrue (has_data (kind_of p.trees x)) → children_of p.trees x ≡ []

-- a boundary point is not past the end of its node, nor, in x, past it by more than a count (own rule: room that was made)
abbrev pub IsWithinRoom : NodeName → ℕ → Trees → Boundary NodeName → Type 0
IsWithinRoom x count ts b = b.offset ≤ length_of ts b.node + (if name_eq x b.node then count else 0)

-- both ends of a range that was not dropped
abbrev pub EndsWithinRoom : NodeName → ℕ → Trees → Option (Range NodeName) → Type 0
EndsWithinRoom x count ts None = ⊤
EndsWithinRoom x count ts (Some r) = IsWithinRoom x count ts r.start × IsWithinRoom x count ts r.end

-- in all parts
abbrev pub IsBounded : World → Type 0
IsBounded w = (o : Owner) → HasBounds (part_of w o)

-- Each line keeps them, where the tables are whole.
abbrev pub StepKeepsBounds : Type 0
StepKeepsBounds = (only_log : Bool) (w : World) (l : Line) → IsReached only_log w → IsWhole w → IsBounded w → IsBounded (step w l).0
