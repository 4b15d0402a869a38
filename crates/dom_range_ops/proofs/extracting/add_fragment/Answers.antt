use Rattle.dom_range_ops.proofs.Cited.{part_of}
use Rattle.dom_range_ops.proofs.TakingExtracts.{room-faults}
use Rattle.dom_range_ops.proofs.extracting.add_fragment.Goals as goal

pub returns-clause-other : goal.returns-clause-other
returns-clause-other c =
    room-faults c.add.result (part_of c.args.doc.now.world c.args.owner).node_count c.requires.limited c.add.ensures.refused
