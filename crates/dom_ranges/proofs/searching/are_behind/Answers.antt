use Rattle.dom_ranges.proofs.Cited.{get_or, ap, arith, rules, ◌<◌, get_or_default, RangeEnd}
use Rattle.dom_ranges.proofs.searching.are_behind.Goals as goal

pub returns : goal.returns
returns c = λ e k d from l.
    let es = c.args.ends.now in
    let place = c.args.place in
    let end = c.index-ends-place.result in
    let more : (get_or es place end).node < c.args.node = search rules in
    omega (arith, more, ap (λ (x : RangeEnd). x.node) (get_or_default es place d end (omega arith)), (c.requires.sorted place k d from l).0)
