-- Each read goes behind those before it.
use Rattle.dom_base.proofs.Std.{◌≡◌, refl, ◌∙◌, ◌++◌, [], take, arith, length, err_from_is_err_and, MatchResult-weaker, length-append, length-take}
use Rattle.dom_engine.specs.Run.{input_limit}
use Rattle.dom_engine.proofs.ReadLaws.{read-none, read-kept, read-more, stops-one_read, stops-flush, stops-more}
use Rattle.dom_engine.proofs.ReadLaws.{read-flushed, flush-within, one_read-within, more-within, read-whole, read-whole-more}
use Rattle.dom_engine.proofs.runner.Runner.read_all.Goals as goal

pub loop-left-init : goal.loop-left-init
loop-left-init g c = ([], read-none c.args.self.now.view _ _ c.requires.splitter c.requires.world, refl, refl, refl, refl, omega arith)

pub take_read-requires-clause-kept : goal.take_read-requires-clause-kept
take_read-requires-clause-kept g c = let i = c.loop-left.invariant in read-kept i.1

pub returns-in_err-n-clause-stops : goal.returns-in_err-n-clause-stops
returns-in_err-n-clause-stops g c =
    let i = c.loop-left.invariant in
    let p = err_from_is_err_and c.from_residual.result c.from_residual.ensures.1 in
    let few = length-take c.min-room.result c.loop-left.buffer in
    rw (p.1, p.2)
    (stops-one_read i.1 i.2 _ (omega (arith, c.min-room.ensures, few)) (omega (arith, c.min-room.ensures, few, i.3)) _ _ _ _ _
    c.in_err-n.ensures.stops)

pub returns-then-n-eq0-clause-read : goal.returns-then-n-eq0-clause-read
returns-then-n-eq0-clause-read g c =
    let i = c.loop-left.invariant in
    let e = c.in_ok-n.ensures in
    let bytes = take c.in_ok-n.n c.take_read.new.buffer in (
      i.0 ++ bytes,
      read-more i.1 i.2 bytes _ _ e.consumed e.splitter e.world e.written,
      e.end c.if-n-eq0.true,
      omega
          (arith, i.3, e.bound.1, c.if-n-eq0.true, length-append i.0 bytes),
    )

pub loop-left-preserved : goal.loop-left-preserved
loop-left-preserved g c =
    let i = c.loop-left.invariant in
    let e = c.in_ok-n.ensures in
    let bytes = take c.in_ok-n.n c.take_read.new.buffer in (
      i.0 ++ bytes,
      read-more i.1 i.2 bytes _ _ e.consumed e.splitter e.world e.written,
      e.view ∙
          i.2,
      omega (
        arith,
        i.3,
        e.bound.0,
        e.bound.1,
        length-append i.0 bytes,
        c.take_read.auto.buffer,
        c.min-room.ensures,
        length-take
            c.min-room.result c.loop-left.buffer,
      ),
      e.reads ∙ i.4,
      e.writes ∙ i.5,
      omega (
        arith,
        i.6,
        e.delivered,
        e.bound.0,
        length-append i.0 bytes,
        length-take c.in_ok-n.n c.take_read.new.buffer,
      ),
    )

pub returns-in_err-n-clause-delivered : goal.returns-in_err-n-clause-delivered
returns-in_err-n-clause-delivered g c =
    let i = c.loop-left.invariant in
    let e = c.in_err-n.ensures in
    let p = err_from_is_err_and c.from_residual.result c.from_residual.ensures.1 in
    rw (p.1, p.2) (one_read-within _ _ _ _ _ _ _ _ _ _ (g.R.Source.delivered c.args.source.now)
    (g.R.Source.delivered c.take_read.new.source) e.stops (omega
    (arith, i.3, i.6, e.few, c.min-room.ensures, length-take c.min-room.result c.loop-left.buffer)))

pub returns-then-n-eq0-clause-delivered : goal.returns-then-n-eq0-clause-delivered
returns-then-n-eq0-clause-delivered g c =
    let i = c.loop-left.invariant in
    omega (arith, i.3, i.6, c.in_ok-n.ensures.delivered, c.if-n-eq0.true)

pub returns-in_err-flush_before_read-clause-delivered : goal.returns-in_err-flush_before_read-clause-delivered
returns-in_err-flush_before_read-clause-delivered g c =
    let i = c.loop-left.invariant in
    let p = err_from_is_err_and c.from_residual-in_err-flush_before_read.result c.from_residual-in_err-flush_before_read.ensures.1 in
    rw (p.1, p.2) (flush-within _ _ _ _ _ (g.R.Source.delivered c.args.source.now) (g.R.Source.delivered c.loop-left.source)
    c.in_err-flush_before_read.ensures.written (omega (arith, i.3, i.6)))

pub returns-in_err-flush_before_read-clause-stops : goal.returns-in_err-flush_before_read-clause-stops
returns-in_err-flush_before_read-clause-stops g c =
    let i = c.loop-left.invariant in
    let p = err_from_is_err_and c.from_residual-in_err-flush_before_read.result c.from_residual-in_err-flush_before_read.ensures.1 in
    rw (p.1, p.2) (stops-flush i.1 _ _ _ _ (omega (arith, i.3)) c.in_err-flush_before_read.ensures.written)

pub returns-clause-delivered : goal.returns-clause-delivered
returns-clause-delivered g c =
    let i = c.loop-left.invariant in
    more-within _ _ c.expect_end.result (omega (arith, length-take 1 c.loop-left.buffer)) (omega (arith, i.3, i.6, c.loop-left-test.false))
    c.expect_end.ensures.delivered

pub returns-clause-stops : goal.returns-clause-stops
returns-clause-stops g c =
    let i = c.loop-left.invariant in
    let more = c.expect_end.ensures.more in
    let full : length i.0 ≡ input_limit = omega (arith, i.3, c.loop-left-test.false) in
    let read = read-flushed i.1 c.in_ok-flush_before_read.ensures.written.1 in
    MatchResult-weaker c.expect_end.result more.2 (λ _ _. tt) (λ e at. stops-more read e more.0 _ full more.1 at)

pub returns-then-n-eq0-clause-counted : goal.returns-then-n-eq0-clause-counted
returns-then-n-eq0-clause-counted g c =
    let i = c.loop-left.invariant in
    let e = c.in_ok-n.ensures in
    let bytes = take c.in_ok-n.n c.take_read.new.buffer in
    read-whole _ _ _ _ (i.0 ++ bytes) (read-more i.1 i.2 bytes _ _ e.consumed e.splitter e.world e.written).consumed (e.end c.if-n-eq0.true) (omega (
      arith,
      i.6,
      e.delivered,
      e.bound.0,
      length-append i.0 bytes,
      length-take c.in_ok-n.n c.take_read.new.buffer,
    ))

pub returns-clause-counted : goal.returns-clause-counted
returns-clause-counted g c =
    let i = c.loop-left.invariant in
    let more = c.expect_end.ensures.more in
    read-whole-more _ _ _ _ _ i.0 more.0 _ _ c.expect_end.result i.1.consumed more.1 more.2 c.expect_end.ensures.end (i.6, c.expect_end.ensures.delivered)
