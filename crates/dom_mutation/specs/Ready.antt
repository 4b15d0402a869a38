-- What the calls of a `Doc` and the operations on its live ranges ask of what it holds, for one call after another.
use Rattle.std.specs.Prelude.{◌≡◌, true, None}
use Rattle.std.specs.List.{AllByRecursion}
use Rattle.dom_base.specs.declared.NodeName.{NodeName}
use Rattle.dom_base.specs.declared.Owner.{Owner}
use Rattle.dom_worlds.specs.Bounds.{HasBounds, IsWithin}
use Rattle.dom_worlds.specs.Tables.{HasEnds, EndsIn}
use Rattle.dom_model.specs.Part.{Part}
use Rattle.dom_model.specs.Ranges.{Range}
use Rattle.dom_model.specs.Tree.{Trees, kind_of, is_shadow, parent_of}
use Rattle.dom_model.specs.World.{World, part_of}
use Rattle.dom_mutation.specs.Doc.{DocState}

-- An owner's part is ready for calls: the ends of its live ranges are not past the ends of their nodes, and no Text or Comment has
-- children; both ends of a live range are at nodes of one tree; and no shadow root has a parent (DOM Standard, 4.2.2
-- and 5.2 and 5.5).
pub record IsReadyPart (p : Part) : Type 0 where
  pub bounds : HasBounds p
  pub ends : AllByRecursion (EndsIn p.trees) p.ranges
  pub roots : (x : NodeName) → is_shadow (kind_of p.trees x) ≡ true → parent_of p.trees x ≡ None

-- A range may stand in an owner's trees: its ends are at nodes of one tree, and not past their ends.
pub record MayStand (ts : Trees) (r : Range NodeName) : Type 0 where
  pub ends : HasEnds ts r
  pub start : IsWithin ts r.start
  pub end : IsWithin ts r.end

-- each owner's is (own rule)
abbrev pub AreReady : World → Type 0
AreReady w = (o : Owner) → IsReadyPart (part_of w o)

-- A `Doc` is ready: for each owner the calls that make room, change data, split or join find what they ask of its live ranges, and
-- so do the operations on them (own rule).
abbrev pub IsReady : DocState → Type 0
IsReady d = AreReady d.world
