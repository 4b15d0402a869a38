use Rattle.dom_traversal.proofs.Cited.{get_or, ap, arith, rules, ◌<◌, get_or_default, Reference}
use Rattle.dom_traversal.proofs.Standing.{AreSorted-up_to}
use Rattle.dom_traversal.proofs.references.are_behind.Goals as goal

pub returns : goal.returns
returns c = λ e k d from l.
    let xs = c.args.references.now in
    let place = c.args.place in
    let end = c.index-references-place.result in
    let more : (get_or xs place end).node < c.args.node = search rules in
    omega (arith, more, ap (λ (x : Reference). x.node) (get_or_default xs place d end (omega arith)), (AreSorted-up_to xs d c.requires.sorted from l).0)
