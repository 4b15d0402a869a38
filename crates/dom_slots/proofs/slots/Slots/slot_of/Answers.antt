use Rattle.dom_tree.specs.Definitions.{name_at}
use Rattle.dom_slots.proofs.Hostless.{hostless-slot}
use Rattle.dom_slots.proofs.slots.Slots.slot_of.Goals as goal

pub returns-then-is_hostless-clause-value : goal.returns-then-is_hostless-clause-value
returns-then-is_hostless-clause-value c =
    hostless-slot c.args.forest.now (c.is_hostless.ensures.none c.if-is_hostless.true) (name_at c.args.forest.now.names c.args.node)
