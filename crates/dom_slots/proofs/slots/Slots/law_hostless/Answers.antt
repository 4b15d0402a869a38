use Rattle.dom_base.proofs.Std.{sym, ap, ◌∙◌}
use Rattle.dom_slots.specs.Definitions.{shadow_trees, step_signals}
use Rattle.dom_slots.proofs.Hostless.{hostless-signals, hostless-slots}
use Rattle.dom_slots.proofs.slots.Slots.law_hostless.Goals as goal

pub returns-clause-signals : goal.returns-clause-signals
returns-clause-signals c = λ was.
    let f = c.args.forest.now in
    ap (λ hs. step_signals f.names (shadow_trees f.names was hs) (shadow_trees f.names f.trees hs) c.args.change.step c.args.change.left) c.requires
    ∙ sym (hostless-signals f.names was f.trees c.args.change.step c.args.change.left)

pub returns-clause-slots : goal.returns-clause-slots
returns-clause-slots c = λ was h. hostless-slots c.requires h.slots
