-- As many bytes as there is room for are what is kept of all.
use Rattle.dom_base.proofs.Std.{take, arith, common_steps}
use Rattle.dom_reader.proofs.StreamLaws.{kept_line-room}
use Rattle.dom_reader.proofs.FedPieces.{grown}
use Rattle.dom_reader.proofs.splitter.keep.Goals as goal

pub returns-clause-ok : goal.returns-clause-ok
returns-clause-ok c =
    let kept = c.args.kept.now.items in
    let bytes = c.args.bytes.now in
    grown c.extend_from_slice.result _ kept (take c.min-taken.result bytes) c.extend_from_slice.ensures.items
    (kept_line-room kept bytes c.min-taken.result c.requires.short (grind (arith, common_steps)))
