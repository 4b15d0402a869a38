-- The pieces so far, and one more.
use Rattle.dom_printer.specs.Pieces.{piece_text}
use Rattle.dom_printer.proofs.PutLaws.{failed_put, one_more}
use Rattle.dom_printer.proofs.pieces.put_pieces.Goals as goal

pub returns-in_err-put_piece : goal.returns-in_err-put_piece
returns-in_err-put_piece c =
    let r = c.from_residual in
    failed_put _ _ c.loop-piece.invariant r.result _ _ r.ensures.0 c.in_err-put_piece.ensures.err

pub loop-piece-preserved : goal.loop-piece-preserved
loop-piece-preserved c =
    one_more (piece_text c.args.viewer.now) c.args.pieces.now c.loop-piece.piece-index _ c.args.out.now.items (record {
      inside = c.loop-piece-test.true;
      so_far = c.loop-piece.invariant;
      put = c.in_ok-put_piece.ensures.ok;
    })
