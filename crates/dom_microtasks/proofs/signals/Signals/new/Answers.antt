use Rattle.dom_microtasks.proofs.Keeping.{none_kept, none_seen}
use Rattle.dom_base.proofs.Std.{refl}
use Rattle.dom_microtasks.proofs.signals.Signals.new.Goals as goal

pub invariant_of-result : goal.invariant_of-result
invariant_of-result c = none_kept _ c.new-2.ensures.numbers c.new-2.ensures.since c.new.ensures.items refl

pub returns : goal.returns
returns c = none_seen record { log = c.new.result; own = c.new-2.result; count = 0; alloc = c.args.alloc } c.new.ensures.items
