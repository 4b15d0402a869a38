use Rattle.dom_traversal.proofs.Cited.{◌≡◌, true, refl, sym, ap, subst, ◌∙◌, is_some, slice_get, slice_set, IsSome, cursors_of, ByOwner, KeyedTables}
use Rattle.dom_traversal.proofs.Cited.{with_cursors}
use Rattle.dom_traversal.proofs.Owners.{had, written}
use Rattle.dom_traversal.proofs.cursors.Cursors.set_walker.Goals as goal

pub set_walker-requires : goal.set_walker-requires
set_walker-requires c =
    subst (λ (t : KeyedTables). is_some (slice_get t.walkers c.args.number) ≡ true)
    (had c.self.inside.tables c.args.self.now c.args.owner c.in-Some.tables.now c.self.view_is c.in-Some.ensures.value) c.requires

pub returns : goal.returns
returns c x e =
    let r : ByOwner = c.get_mut.follows.lender c.set_walker.new.self in
    let here = had c.self.inside.tables c.args.self.now c.args.owner c.in-Some.tables.now c.self.view_is c.in-Some.ensures.value in
    let moved : KeyedTables → KeyedTables = λ t. record t { walkers = slice_set t.walkers c.args.number (record x { current = c.args.current }) } in
    written c.self.inside.tables r c.args.owner c.set_walker.new.self c.self.view_is
    (c.get_mut.follows.holds c.set_walker.new.self (subst IsSome c.in-Some.ensures.value refl))
    ∙ ap (with_cursors (cursors_of c.args.self.now) c.args.owner)
    (c.set_walker.ensures x (ap (λ (t : KeyedTables). slice_get t.walkers c.args.number) (sym here) ∙ e) ∙ ap moved (sym here))
