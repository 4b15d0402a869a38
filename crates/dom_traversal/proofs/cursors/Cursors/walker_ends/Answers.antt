use Rattle.dom_traversal.proofs.Cited.{◌≡◌, true, sym, subst, is_some, slice_get, ForSome, KeyedTables}
use Rattle.dom_traversal.proofs.Owners.{had}
use Rattle.dom_traversal.proofs.cursors.Cursors.walker_ends.Goals as goal

pub walker_ends-requires : goal.walker_ends-requires
walker_ends-requires c =
    subst (λ (t : KeyedTables). is_some (slice_get t.walkers c.args.number) ≡ true)
    (had c.self.inside.tables c.args.self.now c.args.owner c.in-Some.tables.now c.self.view_is c.in-Some.ensures) c.requires

pub returns : goal.returns
returns c =
    subst (λ (t : KeyedTables). ForSome (slice_get t.walkers c.args.number) (λ w. c.walker_ends.result ≡ (w.root, w.current)))
    (sym (had c.self.inside.tables c.args.self.now c.args.owner c.in-Some.tables.now c.self.view_is c.in-Some.ensures)) c.walker_ends.ensures
