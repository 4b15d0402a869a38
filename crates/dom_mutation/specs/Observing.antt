-- Whether observers are told of a removal or an insertion (DOM Standard, suppress observers flag).
use Rattle.dom_model.specs.Changes.{Observing, observed, suppressed}
use Rattle.dom_mutation.specs.declared.removing.SuppressObserversFlag.{SuppressObserversFlag}
use Rattle.dom_mutation.specs.declared.removing.SuppressObserversFlag.TheVariants.{Observed, Suppressed}

-- as plans say it
abbrev pub observing_of : SuppressObserversFlag → Observing
observing_of Observed = observed
observing_of Suppressed = suppressed
