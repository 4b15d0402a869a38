use Rattle.dom_observers.proofs.Staying.{none-stay, same-stay, more-stay, keys-stay, records-stay, made-stay, observing-stay, disconnected-stay, emptied-stay}
use Rattle.dom_observers.proofs.Staying.{told-stay, left-stay, notified-stay, none-pending-stay, telling-stay}
use Rattle.dom_observers.proofs.laws.law_registrations_stay.Goals as goal

pub returns-clause-none : goal.returns-clause-none
returns-clause-none c = none-stay

pub returns-clause-same : goal.returns-clause-same
returns-clause-same c = same-stay

pub returns-clause-more : goal.returns-clause-more
returns-clause-more c = more-stay

pub returns-clause-keys : goal.returns-clause-keys
returns-clause-keys c = keys-stay

pub returns-clause-records : goal.returns-clause-records
returns-clause-records c = records-stay

pub returns-clause-made : goal.returns-clause-made
returns-clause-made c = made-stay

pub returns-clause-observing : goal.returns-clause-observing
returns-clause-observing c = observing-stay

pub returns-clause-disconnected : goal.returns-clause-disconnected
returns-clause-disconnected c = disconnected-stay

pub returns-clause-emptied : goal.returns-clause-emptied
returns-clause-emptied c = emptied-stay

pub returns-clause-told : goal.returns-clause-told
returns-clause-told c = told-stay

pub returns-clause-left : goal.returns-clause-left
returns-clause-left c = left-stay

pub returns-clause-notified : goal.returns-clause-notified
returns-clause-notified c = notified-stay

pub returns-clause-none_pending : goal.returns-clause-none_pending
returns-clause-none_pending c = none-pending-stay

pub returns-clause-telling : goal.returns-clause-telling
returns-clause-telling c = telling-stay
