-- Groups that keep makers, and what their boundary hosts are.
use Rattle.std.specs.Prelude.{◌≡◌, ◌≢◌, false, Some}
use Rattle.dom_base.specs.declared.Owner.{Owner}
use Rattle.dom_base.specs.declared.Owner.TheVariants.{Page}
use Rattle.dom_base.specs.declared.NodeName.{NodeName}
use Rattle.dom_model.specs.Groups.{KeepsMakers, family_group, makers_group, group_without}
use Rattle.dom_model.specs.Trace.{is_page, boundary_host}
use Rattle.dom_model.specs.World.{World}
use Rattle.dom_worlds.specs.Worlds.{IsWorld}

-- the page alone is such a group,
abbrev pub PageIsGroup : Type 0
PageIsGroup = KeepsMakers is_page

-- the page with a family is,
abbrev pub FamilyIsGroup : Type 0
FamilyIsGroup = (root : Owner) → KeepsMakers (family_group root)

-- the page with a component and its makers is,
abbrev pub MakersAreGroup : Type 0
MakersAreGroup = (c : Owner) → KeepsMakers (makers_group c)

-- and all are who are not inside a component.
abbrev pub OthersAreGroup : Type 0
OthersAreGroup = (c : Owner) → c ≢ Page → KeepsMakers (group_without c)

-- A boundary host for the page is a node of the page,
abbrev pub PageHostIsPage : Type 0
PageHostIsPage = (w : World) (x host : NodeName) → boundary_host is_page w x ≡ Some host → host.owner ≡ Page

-- and of a node outside a family the boundary host for the family is that for the page.
abbrev pub FamilyHostIsPage : Type 0
FamilyHostIsPage =
    (root : Owner) (w : World) → IsWorld w → (x : NodeName) → family_group root x.owner ≡ false →
    boundary_host (family_group root) w x ≡ boundary_host is_page w x
