-- Worlds in which a part is written.
use Rattle.std.specs.Prelude.{if◌then◌else◌}
use Rattle.dom_model.specs.Part.{Part}
use Rattle.dom_model.specs.World.{World, is_there, with_part}

-- the world with a part written, if its owner is there
abbrev pub written : World → Part → World
written w p = if is_there w p.owner then with_part w p else w
