use Rattle.dom_traversal.proofs.Cited.{◌≡◌, ℕ, Bool, Some, List, option_map, get_or, ap, sym, subst, ◌∙◌, slice_get, slice_set, Contains, name_at, IsIteratorOf}
use Rattle.dom_traversal.proofs.Cited.{iterator_at, iterator_found, iterator_view, KeyedIterator, KeyedTables, KeyedWalker, reference_at, stands_before}
use Rattle.dom_traversal.proofs.Items.{got, got_is}
use Rattle.dom_traversal.proofs.Listing.{AreListed-alone, AreListed-moved, got_in}
use Rattle.dom_traversal.proofs.tables.OwnTables.traverse.Goals as goal

pub traverse-found-requires : goal.traverse-found-requires
traverse-found-requires c =
    let view = ap (λ (t : KeyedTables). t.iterators) c.self.view_is in
    c.requires.iterators c.args.number c.index_mut-iterator.result.now
    (got c.args.self.now.iterators c.args.number c.index_mut-iterator.result.now c.requires.there
    (c.index_mut-iterator.ensures.value ∙ ap (λ is. get_or is c.args.number c.index_mut-iterator.result.now) view))

pub bring-requires-clause-there : goal.bring-requires-clause-there
bring-requires-clause-there c =
    let items = ap (λ (t : KeyedTables). t.iterators) c.self.view_is in
    subst (λ (n : ℕ). Contains c.self.inside.references.items (reference_at n c.args.number)) (sym (ap (λ (p : ℕ × Bool). p.0) c.at-from.ensures))
    (c.self.invariant.1.all c.args.number c.index_mut-iterator.result.now (got_in c.args.number items c.requires.there c.index_mut-iterator.ensures.value))

pub bring-requires-clause-alone : goal.bring-requires-clause-alone
bring-requires-clause-alone c =
    let items = ap (λ (t : KeyedTables). t.iterators) c.self.view_is in
    AreListed-alone c.self.invariant.1 (got_in c.args.number items c.requires.there c.index_mut-iterator.ensures.value)
    (ap (λ (p : ℕ × Bool). p.0) c.at-from.ensures)

pub invariant_of-self : goal.invariant_of-self
invariant_of-self c =
    let items = ap (λ (t : KeyedTables). t.iterators) c.self.view_is in (
      c.bring.ensures.sorted,
      AreListed-moved c.traverse-found.new.iterator (ap (λ (p : ℕ × Bool). p.0) c.at-from.ensures) (ap (λ (p : ℕ × Bool). p.0) c.at-to.ensures)
          (got_in c.args.number items c.requires.there c.index_mut-iterator.ensures.value) c.self.invariant.1
          (c.bring.ensures.listed, c.bring.ensures.kept, c.bring.ensures.only),
    )

pub returns : goal.returns
returns c =
    let f = c.args.forest.now in
    let before = stands_before c.args.direction in
    let was = λ (x : KeyedIterator) (e : slice_get c.args.self.now.iterators c.args.number ≡ Some x).
    got_is c.args.self.now.iterators c.args.number c.index_mut-iterator.result.now c.requires.there
    (c.index_mut-iterator.ensures.value ∙ ap (λ (t : KeyedTables). get_or t.iterators c.args.number c.index_mut-iterator.result.now) c.self.view_is) e in
    let moved = λ (x : KeyedIterator) (e : slice_get c.args.self.now.iterators c.args.number ≡ Some x).
    c.traverse-found.ensures.state ∙ ap (λ i. iterator_at i before c.traverse-found.result) (was x e) in
    record {
      value = λ x e. subst (λ i. option_map (name_at f.names) c.traverse-found.result ≡ iterator_found c.args.direction f.trees (iterator_view f.names i))
          (was x e) c.traverse-found.ensures.value;
      state = λ x e. ap (λ i. with_iterators (slice_set c.self.inside.iterators.items c.args.number i) c.self.inside.walkers.items) (moved x e)
          ∙ ap (λ (t : KeyedTables). with_iterators (slice_set t.iterators c.args.number (iterator_at x before c.traverse-found.result)) t.walkers)
          c.self.view_is;
      kept = λ x e. subst (IsIteratorOf f) (moved x e) c.traverse-found.ensures.kept;
    }
  where
    with_iterators : List KeyedIterator → List KeyedWalker → KeyedTables
    with_iterators is ws = record { iterators = is; walkers = ws }
