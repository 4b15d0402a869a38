use Rattle.dom_traversal.proofs.Cited.{◌≡◌, length, ap, arith, slice_get_within, KeyedTables}
use Rattle.dom_traversal.proofs.Leaving.{may-items, all-left, have_left-all}
use Rattle.dom_traversal.proofs.tables.OwnTables.leave_each.Goals as goal

pub leave_one-requires-clause-iterators : goal.leave_one-requires-clause-iterators
leave_one-requires-clause-iterators c =
    may-items c.args.forest.now c.args.node c.args.self.now.iterators c.loop-number.self.iterators c.loop-number.invariant.left.may c.requires.iterators

pub returns-clause-iterators : goal.returns-clause-iterators
returns-clause-iterators c =
    let was = c.args.self.now.iterators in
    let now = c.loop-number.self.iterators in
    let left = c.loop-number.invariant.left in
    let size : length c.self.inside.iterators.items ≡ length was = ap (λ (t : KeyedTables). length t.iterators) c.self.view_is in
    all-left c.args.forest.now c.args.node was now left.may
    (λ k i e. have_left-all c.args.forest.now c.args.node (λ _. Unit {0}) was left
    (λ j x le there _.
    let l = slice_get_within now j x there in
    omega (arith, l, le, c.loop-number-test.false, c.len-number-end.ensures, c.self.inside.iterators.ok.0, size, left.len))
    k e tt)
