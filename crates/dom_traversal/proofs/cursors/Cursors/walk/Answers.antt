use Rattle.dom_traversal.proofs.Cited.{◌≡◌, true, option_map, refl, sym, ap, subst, ◌∙◌, is_some, slice_get, slice_set, ForSome, IsSome, name_at, walker_move}
use Rattle.dom_traversal.proofs.Cited.{cursors_of, EachItem, ByOwner, IsWalkerOf, KeyedTables, walker_at, walker_view, with_cursors}
use Rattle.dom_traversal.proofs.Owners.{had, written}
use Rattle.dom_traversal.proofs.cursors.Cursors.walk.Goals as goal

pub walk-requires : goal.walk-requires
walk-requires c =
    let here = had c.self.inside.tables c.args.self.now c.args.owner c.in-Some.tables.now c.self.view_is c.in-Some.ensures.value in
    record {
      there = subst (λ (t : KeyedTables). is_some (slice_get t.walkers c.args.number) ≡ true) here c.requires.there;
      walkers = subst (λ (t : KeyedTables). EachItem (IsWalkerOf c.args.forest.now) t.walkers) here c.requires.walkers;
    }

pub returns : goal.returns
returns c =
    let f = c.args.forest.now in
    let r : ByOwner = c.get_mut.follows.lender c.walk.new.self in
    let here = had c.self.inside.tables c.args.self.now c.args.owner c.in-Some.tables.now c.self.view_is c.in-Some.ensures.value in
    record {
      value = subst (λ (t : KeyedTables). ForSome (slice_get t.walkers c.args.number) (λ w. option_map (name_at f.names) c.walk.result ≡
          walker_move f.trees (walker_view f.names w) c.args.step)) (sym here) c.walk.ensures.value;
      state = λ x e. written c.self.inside.tables r c.args.owner c.walk.new.self c.self.view_is
          (c.get_mut.follows.holds c.walk.new.self (subst IsSome c.in-Some.ensures.value refl))
          ∙ ap (with_cursors (cursors_of c.args.self.now) c.args.owner)
          (c.walk.ensures.state x (ap (λ (t : KeyedTables). slice_get t.walkers c.args.number) (sym here) ∙ e)
          ∙ ap (λ (t : KeyedTables). record t { walkers = slice_set t.walkers c.args.number (walker_at x c.walk.result) }) (sym here));
      kept = subst (λ (t : KeyedTables). ForSome (slice_get t.walkers c.args.number) (λ w. IsWalkerOf f (walker_at w c.walk.result)))
          (sym here) c.walk.ensures.kept;
    }
