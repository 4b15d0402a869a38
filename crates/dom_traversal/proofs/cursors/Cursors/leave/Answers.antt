use Rattle.dom_traversal.proofs.Cited.{◌≡◌, AreLeft, List, refl, sym, ap, subst, ◌∙◌, IsSome, cursors_of, EachItem, ByOwner, entries_of, IsIteratorOf}
use Rattle.dom_traversal.proofs.Cited.{KeyedIterator, KeyedTables}
use Rattle.dom_traversal.proofs.Cited.{KeyedWalker, with_cursors}
use Rattle.dom_traversal.proofs.Owners.{had, written, with-own}
use Rattle.dom_traversal.proofs.cursors.Cursors.leave.Goals as goal

pub leave-requires-clause-iterators : goal.leave-requires-clause-iterators
leave-requires-clause-iterators c =
    subst (λ (t : KeyedTables). EachItem (IsIteratorOf c.args.forest.now) t.iterators)
    (had c.self.inside.tables c.args.self.now c.args.owner.now c.in-Some.tables.now c.self.view_is c.in-Some.ensures.value) c.requires.iterators

pub returns-clause-iterators : goal.returns-clause-iterators
returns-clause-iterators c =
    let f = c.args.forest.now in
    let r : ByOwner = c.get_mut.follows.lender c.leave.new.self in
    let here = had c.self.inside.tables c.args.self.now c.args.owner.now c.in-Some.tables.now c.self.view_is c.in-Some.ensures.value in
    let is = written c.self.inside.tables r c.args.owner.now c.leave.new.self c.self.view_is
    (c.get_mut.follows.holds c.leave.new.self (subst IsSome c.in-Some.ensures.value refl)) in
    let own : cursors_of (entries_of r) c.args.owner.now ≡ c.leave.new.self =
    ap (λ each. each c.args.owner.now) is ∙ with-own (cursors_of c.args.self.now) c.args.owner.now c.leave.new.self in
    subst (λ (t : KeyedTables). AreLeft f c.args.node (cursors_of c.args.self.now c.args.owner.now).iterators t.iterators) (sym own)
    (subst (λ (t : KeyedTables). AreLeft f c.args.node t.iterators (c.leave.new.self).iterators) (sym here) c.leave.ensures.iterators)

pub returns-clause-others : goal.returns-clause-others
returns-clause-others c =
    let r : ByOwner = c.get_mut.follows.lender c.leave.new.self in
    let here = had c.self.inside.tables c.args.self.now c.args.owner.now c.in-Some.tables.now c.self.view_is c.in-Some.ensures.value in
    let is = written c.self.inside.tables r c.args.owner.now c.leave.new.self c.self.view_is
    (c.get_mut.follows.holds c.leave.new.self (subst IsSome c.in-Some.ensures.value refl)) in
    let own : cursors_of (entries_of r) c.args.owner.now ≡ c.leave.new.self =
    ap (λ each. each c.args.owner.now) is ∙ with-own (cursors_of c.args.self.now) c.args.owner.now c.leave.new.self in
    is ∙ ap (with_cursors (cursors_of c.args.self.now) c.args.owner.now)
    (λ i. with_those (ap (λ (t : KeyedTables). t.iterators) (sym own) i) ((c.leave.ensures.walkers ∙ ap (λ (t : KeyedTables). t.walkers) (sym here)) i))
  where
    with_those : List KeyedIterator → List KeyedWalker → KeyedTables
    with_those is ws = record { iterators = is; walkers = ws }
