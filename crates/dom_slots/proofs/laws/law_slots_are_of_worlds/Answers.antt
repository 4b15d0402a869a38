use Rattle.dom_slots.proofs.Shown.{slot-shown, assigned-shown, signals-shown}
use Rattle.dom_slots.proofs.laws.law_slots_are_of_worlds.Goals as goal

pub returns-clause-slot : goal.returns-clause-slot
returns-clause-slot c = slot-shown

pub returns-clause-assigned : goal.returns-clause-assigned
returns-clause-assigned c = assigned-shown

pub returns-clause-signals : goal.returns-clause-signals
returns-clause-signals c s t was now before after = signals-shown before after
