-- How a table of live ranges and what is held belong together, and what a rule for boundary points is that moves one
-- owner's points alone.
use Rattle.std.specs.Prelude.{◌≡◌, ◌≢◌, ◌≤◌, ℕ, false, List, [], length}
use Rattle.dom_base.specs.declared.NodeName.{NodeName}
use Rattle.dom_base.specs.declared.Owner.{Owner}
use Rattle.dom_model.specs.Place.{Boundary}
use Rattle.dom_model.specs.World.{is_there}
use Rattle.dom_ranges.specs.Rules.{Fits, IsAtNode}
use Rattle.dom_ranges.specs.Settings.{named_ranges}
use Rattle.dom_ranges.specs.Tables.{RangeLists, EachRange, BothEnds, ranges_of}
use Rattle.dom_tree.specs.Forest.{name_at}
use Rattle.dom_mutation.specs.Contents.{Contents, world_of}

-- a boundary point at a node of an owner, whose offset is a number of the code's (own rule)
pub record IsOwnPoint (names : List NodeName) (o : Owner) (b : Boundary ℕ) : Type 0 where
  pub node : IsAtNode names b
  pub owner : (name_at names b.node).owner ≡ o
  pub fits : Fits b

-- both ends of each owner's live ranges are at nodes of the owner (own rule)
abbrev pub AreOwnRanges : List NodeName → RangeLists → Type 0
AreOwnRanges names t = (o : Owner) → EachRange (BothEnds (IsOwnPoint names o)) (ranges_of t o)

-- What is held has the live ranges of this table: each owner's are at its own nodes and at most 1,000,000, dropped ones
-- counted, and whoever is not there has none (own rule).
pub record AreRangesOf (c : Contents) (t : RangeLists) : Type 0 where
  pub shown : (o : Owner) → (c.tables o).ranges ≡ named_ranges c.names (ranges_of t o)
  pub own : AreOwnRanges c.names t
  pub few : (o : Owner) → length (ranges_of t o) ≤ 1000000
  pub absent : (o : Owner) → is_there (world_of c) o ≡ false → ranges_of t o ≡ []

-- what is held, with the live ranges of a table (own rule)
abbrev pub ranged : RangeLists → Contents → Contents
ranged t c = record c { tables = λ o. record (c.tables o) { ranges = named_ranges c.names (ranges_of t o) } }

-- A rule for boundary points that rewrites those of one owner alone: they stay its own, and others' stay as they are (own
-- rule).
pub record IsRuleOf (o : Owner) (g : Boundary NodeName → Boundary NodeName) : Type 0 where
  pub stays : (b : Boundary NodeName) → b.node.owner ≡ o → (g b).node.owner ≡ o
  pub others : (b : Boundary NodeName) → b.node.owner ≢ o → g b ≡ b
