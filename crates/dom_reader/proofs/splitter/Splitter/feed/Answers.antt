-- What is left is kept of one line.
use Rattle.dom_reader.proofs.FedPieces.{left_kept}
use Rattle.dom_reader.proofs.splitter.Splitter.feed.Goals as goal

pub invariant_of-self : goal.invariant_of-self
invariant_of-self c = left_kept c.completed.result c.self.inside.kept.items c.args.piece.now c.completed.new.kept.items c.completed.ensures.left
    c.completed.ensures.refused
