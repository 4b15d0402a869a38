use Rattle.dom_observers.proofs.Naming.{making_law, observing_law, disconnected_law, emptied_law, taken_law, told_law, left_law, notified_law, notices_law}
use Rattle.dom_observers.proofs.Naming.{none_pending_law, telling_law}
use Rattle.dom_observers.proofs.laws.law_keys_stand_for_names.Goals as goal

pub returns : goal.returns
returns c =
    record {
      made = making_law;
      observing = observing_law;
      disconnected = disconnected_law;
      emptied = emptied_law;
      taken = taken_law;
      told = told_law;
      left = left_law;
      notified = notified_law;
      notices = notices_law;
      none_pending = none_pending_law;
      telling = telling_law;
    }
