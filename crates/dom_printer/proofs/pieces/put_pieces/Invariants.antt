-- The buffer has the pieces so far.
use Rattle.dom_base.proofs.Std.{◌≡◌, ◌++◌, take}
use Rattle.dom_printer.specs.Pieces.{pieces_text}
use Rattle.dom_printer.proofs.pieces.put_pieces.Given as goal

abbrev pub invariant-loop-piece : goal.invariant-loop-piece
invariant-loop-piece l = l.out.items ≡ l.fn.out.items ++ pieces_text l.viewer (take l.piece-index l.pieces)
