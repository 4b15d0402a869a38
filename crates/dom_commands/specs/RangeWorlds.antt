-- What the commands on live ranges need of the world.
use Rattle.dom_base.specs.declared.Owner.{Owner}
use Rattle.dom_model.specs.Part.{first_node}
use Rattle.dom_model.specs.World.{World, part_of}
use Rattle.dom_worlds.specs.Tables.{IsNodeIn}
use Rattle.dom_worlds.specs.Worlds.{IsThere}

-- each owner that is there has its first node (own rule)
abbrev pub HasFirstNodes : World → Type 0
HasFirstNodes w = (o : Owner) → IsThere w o → IsNodeIn (part_of w o).trees (first_node (part_of w o))
