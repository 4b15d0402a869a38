use Rattle.dom_observers.proofs.There.{none-there, same-there, has-there, made-there, observing-there, disconnected-there, emptied-there}
use Rattle.dom_observers.proofs.There.{told-there, left-there, notified-there, none-pending-there, telling-there}
use Rattle.dom_observers.proofs.laws.law_observers_are_there.Goals as goal

pub returns : goal.returns
returns c =
    record {
      none = none-there;
      same = same-there;
      has = has-there;
      made = made-there;
      observing = observing-there;
      disconnected = disconnected-there;
      emptied = emptied-there;
      told = told-there;
      left = left-there;
      notified = notified-there;
      none_pending = none-pending-there;
      telling = telling-there;
    }
