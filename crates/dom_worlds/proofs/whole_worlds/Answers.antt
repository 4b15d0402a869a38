use Rattle.dom_worlds.proofs.TableLines.{first-is_whole, step-keeps_whole, ending-keeps_whole, finish-keeps_whole, scripts-stay_whole}
use Rattle.dom_worlds.proofs.whole_worlds.Goals as goal

pub returns : goal.returns
returns c =
    record { first = first-is_whole; kept = step-keeps_whole; ending = ending-keeps_whole; finish = finish-keeps_whole; script = scripts-stay_whole }
