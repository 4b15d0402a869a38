-- Each whole line is run, and each piece is taken, behind those before it.
use Rattle.dom_base.proofs.Std.{refl, sym, ap, ◌∙◌, ◌++◌, [], err_from_is_err_and}
use Rattle.dom_reader.specs.Streams.{fed}
use Rattle.dom_reader.proofs.StreamLaws.{fed-none}
use Rattle.dom_reader.proofs.WholeLines.{whole_line-fed, whole_line-fewer}
use Rattle.dom_engine.proofs.LineRuns.{behind-none, shows-none, world-behind, lines_done, lines_between}
use Rattle.dom_engine.proofs.LineRuns.{fed-lines, fed-rest, fed-around, front-behind, piece-behind}
use Rattle.dom_engine.proofs.runner.Runner.take_bytes.Goals as goal

pub loop-rest-init : goal.loop-rest-init
loop-rest-init g c =
    let s = c.args.self.now in
    let none = fed-none s.splitter c.requires.kept in
    let no_lines = ap (λ cut. cut.finished) none in
    ([], refl, sym (ap (λ cut. cut.rest) none), behind-none s.view s.session.world _ no_lines, refl, shows-none _ s.view s.session.world _ no_lines)

pub loop-rest-smaller-in-Some : goal.loop-rest-smaller-in-Some
loop-rest-smaller-in-Some g c = whole_line-fewer c.in-Some.ensures.some

pub loop-rest-preserved-in-Some : goal.loop-rest-preserved-in-Some
loop-rest-preserved-in-Some g c =
    let i = c.loop-rest.invariant in
    let e = c.in_ok-run_line.ensures in
    let kept = c.args.self.now.splitter in
    let whole = c.in-Some.ensures.some in
    let taken = whole_line-fed whole in
    let all = i.0 ++ taken.0 in
    let lines = fed-lines kept c.loop-rest.self.splitter i.0 taken.0 all i.2 refl ∙ ap (λ cut. (fed kept i.0).finished ++ cut.finished) taken.2 in
    let rest = fed-rest kept c.loop-rest.self.splitter i.0 taken.0 all i.2 refl ∙ ap (λ cut. cut.rest) taken.2 in (
      all,
      front-behind i.0 taken.0 c.in-Some.later.now i.1 taken.1,
      e.splitter ∙ whole.fresh ∙ sym rest,
      record { same = e.view ∙ i.3.same; world = world-behind i.3 _ lines e.world },
      e.written.0 ∙ i.4,
      lines_done i.3 _ lines _ _ _ i.5 e.written.1,
    )

pub returns-in_err-run_line-clause-written : goal.returns-in_err-run_line-clause-written
returns-in_err-run_line-clause-written g c =
    let i = c.loop-rest.invariant in
    let kept = c.args.self.now.splitter in
    let taken = whole_line-fed c.in-Some.ensures.some in
    let later = c.in-Some.later.now in
    let p = err_from_is_err_and c.from_residual.result c.from_residual.ensures.1 in
    let passed = front-behind i.0 taken.0 later i.1 taken.1 in
    let around = fed-around kept i.0 taken.0 later i.2 passed
    ∙ ap (λ cut. ((fed kept i.0).finished ++ cut.finished) ++ (fed (fed kept (i.0 ++ taken.0)).rest later).finished) taken.2 in
    rw (p.1, p.2) (lines_between i.3 _ _ around (record { none_failed = i.4; takes = i.5 }) _ _ _ c.in_err-run_line.ensures.written)

pub loop-rest-preserved : goal.loop-rest-preserved
loop-rest-preserved g c =
    let i = c.loop-rest.invariant in
    let e = c.in_ok-take_piece.ensures in
    let kept = c.args.self.now.splitter in
    let piece = c.split_at.result.0.now in
    let lines = fed-lines kept c.loop-rest.self.splitter i.0 piece (i.0 ++ piece) i.2 refl in (
      i.0 ++ piece,
      piece-behind i.0 c.loop-rest.rest.now c.piece_len.result i.1 c.split_at.ensures.front c.split_at.ensures.back,
      e.splitter ∙ sym (fed-rest kept c.loop-rest.self.splitter i.0 piece (i.0 ++ piece) i.2 refl),
      record { same = e.view ∙ i.3.same; world = world-behind i.3 _ lines e.world },
      e.written.0 ∙ i.4,
      lines_done i.3 _ lines _ _ _ i.5 e.written.1,
    )

pub returns-in_err-take_piece-clause-written : goal.returns-in_err-take_piece-clause-written
returns-in_err-take_piece-clause-written g c =
    let i = c.loop-rest.invariant in
    let kept = c.args.self.now.splitter in
    let piece = c.split_at.result.0.now in
    let later = c.split_at.result.1.now in
    let p = err_from_is_err_and c.from_residual-in_err-take_piece.result c.from_residual-in_err-take_piece.ensures.1 in
    let whole = piece-behind i.0 c.loop-rest.rest.now c.piece_len.result i.1 c.split_at.ensures.front c.split_at.ensures.back in
    rw (p.1, p.2)
    (lines_between i.3 _ _ (fed-around kept i.0 piece later i.2 whole) (record { none_failed = i.4; takes = i.5 }) _ _ _
    c.in_err-take_piece.ensures.written)
