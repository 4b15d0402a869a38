-- At the end all parts were names.
use Rattle.dom_base.proofs.Std.{map, ap, ◌∙◌, rules, tests}
use Rattle.std.proofs.lemmas.Iterator.Consumers.{YieldsList-end}
use Rattle.std.proofs.lemmas.Iterator.Splits.{YieldsList-from_slice_split}
use Rattle.std.specs.Str.Lossy.{utf8_lossy}
use Rattle.dom_calls.proofs.observing.names_of.Goals as goal

pub returns-clause-ok : goal.returns-clause-ok
returns-clause-ok c =
    c.loop-name.invariant ∙ ap (map utf8_lossy)
    (YieldsList-end (YieldsList-from_slice_split _ _ c.args.bytes.now (cc) (cc) (cc) (λ x r q k. search (rules, tests)))
    c.loop-name.yielded _ c.loop-name.yielded_by _ _ c.in-None.is c.next.ensures.steps).0
