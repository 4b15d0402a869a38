use Rattle.dom_ranges.proofs.Cited.{◌-◌, get_or, ap, arith, rules, ◌≤◌, get_or_default, RangeEnd}
use Rattle.dom_ranges.proofs.searching.are_from.Goals as goal

pub returns : goal.returns
returns c = λ e k d l.
    let es = c.args.ends.now in
    let last = c.args.place - 1 in
    let end = c.index-ends-place.result in
    let less : c.args.node ≤ (get_or es last end).node = search rules in
    omega (arith, less, ap (λ (x : RangeEnd). x.node) (get_or_default es last d end (omega arith)), c.requires.sorted k last d (omega arith) (omega arith))
