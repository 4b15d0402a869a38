-- What the run has written is handed on, or the program ends with a failed write.
use Rattle.dom_base.proofs.Std.{refl}
use Rattle.domrun.proofs.Handed.{ending-by, keeps-at, ok-handed, err-handed, has-run, ok-stays, reads-handed, within-handed, losses-handed, failed-is-write}
use Rattle.domrun.proofs.run_between.Goals as goal

pub returns-clause-ok : goal.returns-clause-ok
returns-clause-ok g c =
    let e = c.ending_of.ensures in
    ok-handed c.args.view _ _ _ _ _ c.hand_on.result c.run-ended.result c.ending_of.result (ending-by c.is_ok-is_written.ensures.value e.written e.lost)
    (keeps-at (_, _) (_, _) (_, _) c.hand_on.result (c.hand_on.ensures.bytes, c.hand_on.ensures.taken) c.hand_on.ensures.all refl) c.run-ended.ensures.ok

pub returns-clause-stops : goal.returns-clause-stops
returns-clause-stops g c =
    let e = c.ending_of.ensures in
    err-handed c.args.view _ _ _ _ _ c.hand_on.result c.run-ended.result c.ending_of.result (ending-by c.is_ok-is_written.ensures.value e.written e.lost)
    (keeps-at (_, _) (_, _) (_, _) c.hand_on.result (c.hand_on.ensures.bytes, c.hand_on.ensures.taken) c.hand_on.ensures.all refl) c.run-ended.ensures.stops

pub returns-clause-run : goal.returns-clause-run
returns-clause-run g c =
    has-run c.args.view _ _ (_, _) (_, _) (_, _) (c.hand_on.ensures.bytes, c.hand_on.ensures.taken) c.run-ended.result
    c.run-ended.ensures.ok c.run-ended.ensures.stops

pub returns-clause-reads : goal.returns-clause-reads
returns-clause-reads g c =
    let e = c.ending_of.ensures in
    reads-handed _ _ c.hand_on.result c.run-ended.result (ending-by c.is_ok-is_written.ensures.value e.written e.lost) c.run-ended.ensures.reads

pub returns-clause-delivered : goal.returns-clause-delivered
returns-clause-delivered g c =
    let e = c.ending_of.ensures in
    within-handed _ _ c.hand_on.result c.run-ended.result (ending-by c.is_ok-is_written.ensures.value e.written e.lost) c.run-ended.ensures.delivered

pub returns-clause-counted : goal.returns-clause-counted
returns-clause-counted g c =
    let e = c.ending_of.ensures in
    ok-stays _ c.hand_on.result c.run-ended.result _ (ending-by c.is_ok-is_written.ensures.value e.written e.lost) c.run-ended.ensures.counted

pub returns-clause-writes : goal.returns-clause-writes
returns-clause-writes g c =
    let e = c.ending_of.ensures in
    losses-handed _ _ c.hand_on.result c.run-ended.result _ (ending-by c.is_ok-is_written.ensures.value e.written e.lost)
    c.run-ended.ensures.writes c.hand_on.ensures.count

pub returns-clause-failed : goal.returns-clause-failed
returns-clause-failed g c more =
    let e = c.ending_of.ensures in
    failed-is-write _ _ _ (losses-handed _ _ c.hand_on.result c.run-ended.result _ (ending-by c.is_ok-is_written.ensures.value e.written e.lost)
    c.run-ended.ensures.writes c.hand_on.ensures.count) more
