use Rattle.dom_ranges.proofs.Cited.{◌≡◌, Some, true, false, is_some, sym, ap, get, end_of}
use Rattle.dom_ranges.proofs.Listing.{IsListed-dropped, listed-once, listed-once-rest}
use Rattle.dom_ranges.proofs.moving.drop_range.Goals as goal

pub drop_end-requires-clause-there : goal.drop_end-requires-clause-there
drop_end-requires-clause-there c =
    let there : get c.args.live.now c.args.slot ≡ Some c.in-Some.points = sym c.in-Some.ensures.value in
    listed-once c.requires.listed c.args.slot false there

pub drop_end-requires-in-Some-clause-there : goal.drop_end-requires-in-Some-clause-there
drop_end-requires-in-Some-clause-there c =
    let there : get c.args.live.now c.args.slot ≡ Some c.in-Some.points = sym c.in-Some.ensures.value in
    listed-once-rest c.args.live.now c.args.ends.now.items c.drop_end.new.ends.items c.args.slot (end_of false c.in-Some.points) (end_of true c.in-Some.points)
    c.requires.listed (ap is_some there) c.drop_end.ensures.dropped
    (listed-once c.requires.listed c.args.slot true there)

pub returns-in-Some-clause-listed : goal.returns-in-Some-clause-listed
returns-in-Some-clause-listed c =
    let there : get c.args.live.now c.args.slot ≡ Some c.in-Some.points = sym c.in-Some.ensures.value in
    IsListed-dropped c.args.live.now c.args.ends.now.items c.drop_end.new.ends.items c.args.slot (end_of false c.in-Some.points) (end_of true c.in-Some.points)
    c.requires.listed (ap is_some there) c.drop_end.ensures.dropped c.try_remove.new.self c.drop_end-in-Some.new.ends.items c.try_remove.ensures.updates
    c.drop_end-in-Some.ensures.dropped
