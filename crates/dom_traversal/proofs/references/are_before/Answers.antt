use Rattle.dom_traversal.proofs.Cited.{◌-◌, get_or, ap, arith, rules, ◌<◌, get_or_default, Reference}
use Rattle.dom_traversal.proofs.Standing.{AreSorted-up_to}
use Rattle.dom_traversal.proofs.references.are_before.Goals as goal

pub returns : goal.returns
returns c = λ e k d l.
    let xs = c.args.references.now in
    let last = c.args.place - 1 in
    let end = c.index-references-place.result in
    let less : c.args.node < (get_or xs last end).node = search rules in
    let up = AreSorted-up_to xs {j = k} {k = last} d c.requires.sorted (omega arith) (omega arith) in
    omega (arith, less, ap (λ (x : Reference). x.node) (get_or_default xs last d end (omega arith)), up.0)
