use Rattle.dom_worlds.proofs.BoundWorlds.{first-is_bounded, step-keeps_bounds, ending-keeps_bounds, finish-keeps_bounds, scripts-stay_bounded}
use Rattle.dom_worlds.proofs.ranges_stay_bounded.Goals as goal

pub returns : goal.returns
returns c =
    record { first = first-is_bounded; kept = step-keeps_bounds; ending = ending-keeps_bounds; finish = finish-keeps_bounds; script = scripts-stay_bounded }
