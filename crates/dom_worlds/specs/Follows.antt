-- The path of an event is the Standard's: it begins at the target and goes from each node to its event parent.
use Rattle.std.specs.Prelude.{◌≡◌, Bool, Some}
use Rattle.dom_base.specs.declared.NodeName.{NodeName}
use Rattle.dom_model.specs.Names.{first_of}
use Rattle.dom_model.specs.Paths.{whole_path, FollowsParents}
use Rattle.dom_model.specs.World.{World}
use Rattle.dom_worlds.specs.Reached.{IsReached}
use Rattle.dom_worlds.specs.Tables.{IsNodeAt, IsWhole}

-- In a world that the machine reaches the whole path of a node is its orbit under the event parent, which ends where a node
-- has none (DOM Standard, concept: get the parent, and event path).
abbrev pub PathFollowsParents : Type 0
PathFollowsParents =
    (only_log : Bool) (w : World) → IsReached only_log w → IsWhole w → (target : NodeName) (composed : Bool) → IsNodeAt w target →
    (first_of (whole_path w target composed) ≡ Some target) × FollowsParents w composed target (whole_path w target composed)
