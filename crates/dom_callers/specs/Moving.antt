-- What live ranges keep while nodes move, and where they stand then.
use Rattle.std.specs.Prelude.{ℕ, ◌+◌, ◌^◌, ◌<◌, ◌≤◌, List, Option, length}
use Rattle.dom_base.specs.declared.NodeName.{NodeName}
use Rattle.dom_base.specs.declared.Owner.{Owner}
use Rattle.dom_model.specs.Names.{name_eq}
use Rattle.dom_model.specs.Ranges.{Range, after_insert}
use Rattle.dom_model.specs.Tree.{Trees, index_of}
use Rattle.dom_tree.specs.Forest.{NamedTrees}
use Rattle.dom_ranges.specs.Naming.{named_ends_by}
use Rattle.dom_ranges.specs.Settings.{named_ranges}
use Rattle.dom_ranges.specs.Staying.{AreWithin}
use Rattle.dom_ranges.specs.Tables.{RangeLists, ranges_of}

-- The ends of all live ranges are at nodes, and no offset is past a bound that may grow by so many insertions more and is not
-- below the count of nodes (own rule).
pub record HasRoom (more : ℕ) (f : NamedTrees) (ranges : RangeLists) : Type 0 where
  pub most : ℕ
  pub nodes : length f.names ≤ most
  pub fits : most + more < 2 ^ 64
  pub within : AreWithin f.names most ranges

-- an owner's live ranges, by the names of the nodes at which they end
abbrev pub shown_ranges : NamedTrees → RangeLists → Owner → List (Option (Range NodeName))
shown_ranges f ranges o = named_ranges f.names (ranges_of ranges o)

-- live ranges after a node came before a child of a parent (DOM Standard, concept: insert)
abbrev pub with_coming : Trees → NodeName → NodeName → List (Option (Range NodeName)) → List (Option (Range NodeName))
with_coming ts parent child rs = named_ends_by (after_insert name_eq parent (index_of ts child) 1) rs
