use Rattle.dom_traversal.proofs.Cited.{◌≡◌, true, option_map, refl, sym, ap, subst, ◌∙◌, is_some, slice_get, slice_set, ForSome, IsSome, name_at, cursors_of}
use Rattle.dom_traversal.proofs.Cited.{EachItem, ByOwner, IsIteratorOf, iterator_at, iterator_found, iterator_view, KeyedTables, stands_before, with_cursors}
use Rattle.dom_traversal.proofs.Owners.{had, written}
use Rattle.dom_traversal.proofs.cursors.Cursors.traverse.Goals as goal

pub traverse-requires : goal.traverse-requires
traverse-requires c =
    let here = had c.self.inside.tables c.args.self.now c.args.owner c.in-Some.tables.now c.self.view_is c.in-Some.ensures.value in
    record {
      there = subst (λ (t : KeyedTables). is_some (slice_get t.iterators c.args.number) ≡ true) here c.requires.there;
      iterators = subst (λ (t : KeyedTables). EachItem (IsIteratorOf c.args.forest.now) t.iterators) here c.requires.iterators;
    }

pub returns : goal.returns
returns c =
    let f = c.args.forest.now in
    let before = stands_before c.args.direction in
    let r : ByOwner = c.get_mut.follows.lender c.traverse.new.self in
    let here = had c.self.inside.tables c.args.self.now c.args.owner c.in-Some.tables.now c.self.view_is c.in-Some.ensures.value in
    record {
      value = subst (λ (t : KeyedTables). ForSome (slice_get t.iterators c.args.number) (λ i. option_map (name_at f.names) c.traverse.result ≡
          iterator_found c.args.direction f.trees (iterator_view f.names i))) (sym here) c.traverse.ensures.value;
      state = λ x e. written c.self.inside.tables r c.args.owner c.traverse.new.self c.self.view_is
          (c.get_mut.follows.holds c.traverse.new.self (subst IsSome c.in-Some.ensures.value refl))
          ∙ ap (with_cursors (cursors_of c.args.self.now) c.args.owner)
          (c.traverse.ensures.state x (ap (λ (t : KeyedTables). slice_get t.iterators c.args.number) (sym here) ∙ e)
          ∙ ap (λ (t : KeyedTables). record t { iterators = slice_set t.iterators c.args.number (iterator_at x before c.traverse.result) }) (sym here));
      kept = subst (λ (t : KeyedTables). ForSome (slice_get t.iterators c.args.number) (λ i. IsIteratorOf f (iterator_at i before c.traverse.result)))
          (sym here) c.traverse.ensures.kept;
    }
