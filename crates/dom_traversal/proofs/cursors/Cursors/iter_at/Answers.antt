use Rattle.dom_traversal.proofs.Cited.{◌≡◌, true, sym, subst, is_some, slice_get, ForSome, KeyedTables}
use Rattle.dom_traversal.proofs.Owners.{had}
use Rattle.dom_traversal.proofs.cursors.Cursors.iter_at.Goals as goal

pub iter_at-requires : goal.iter_at-requires
iter_at-requires c =
    subst (λ (t : KeyedTables). is_some (slice_get t.iterators c.args.number) ≡ true)
    (had c.self.inside.tables c.args.self.now c.args.owner c.in-Some.tables.now c.self.view_is c.in-Some.ensures) c.requires

pub returns : goal.returns
returns c =
    subst (λ (t : KeyedTables). ForSome (slice_get t.iterators c.args.number) (λ i. c.iter_at.result ≡ (i.reference, i.before)))
    (sym (had c.self.inside.tables c.args.self.now c.args.owner c.in-Some.tables.now c.self.view_is c.in-Some.ensures)) c.iter_at.ensures
