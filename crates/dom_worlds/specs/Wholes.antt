-- Of every world that the machine reaches the tables name what is there, and both ends of a live range have one root.
use Rattle.std.specs.Prelude.{ℕ, ◌≡◌, IsTrue, Some}
use Rattle.dom_base.specs.declared.NodeName.{NodeName}
use Rattle.dom_base.specs.declared.Owner.{Owner}
use Rattle.dom_model.specs.Part.{Part, range_at}
use Rattle.dom_model.specs.Place.{same_root}
use Rattle.dom_model.specs.Ranges.{Range}
use Rattle.dom_model.specs.World.{World, part_of}

-- Both ends of each live range of a part have one root (DOM Standard, 5.5: range's root: it is the root of its start node).
abbrev pub HasOneRoots : Part → Type 0
HasOneRoots p = (k : ℕ) (r : Range NodeName) → range_at p k ≡ Some r → IsTrue (same_root p.trees r.start.node r.end.node)

-- in all parts
abbrev pub RangesHaveOneRoot : World → Type 0
RangesHaveOneRoot w = (o : Owner) → HasOneRoots (part_of w o)
