use Rattle.dom_traversal.proofs.Cited.{◌≡◌, ℕ, ◌<◌, Bool, List, Some, length, get_or, ap, sym, subst, ◌∙◌, slice_get, slice_set, Contains, slice_get-get_or}
use Rattle.dom_traversal.proofs.Cited.{IsLeftIf, KeyedIterator, KeyedTables, MayHaveLeft, reference_at}
use Rattle.dom_traversal.proofs.Leaving.{left-set, may-set}
use Rattle.dom_traversal.proofs.Listing.{AreListed-alone, AreListed-moved}
use Rattle.dom_traversal.proofs.tables.OwnTables.leave_one.Goals as goal

-- the iterator that is read
read : {is all : List KeyedIterator} {n : ℕ} {i : KeyedIterator} → is ≡ all → n < length all → i ≡ get_or is n i → slice_get is n ≡ Some i
read {is} {all} {n} {i} same there value =
    slice_get-get_or is n i (subst (λ (js : List KeyedIterator). n < length js) (sym same) there) ∙ ap Some (sym value)

pub on_remove-requires-clause-iterator : goal.on_remove-requires-clause-iterator
on_remove-requires-clause-iterator c =
    let items = ap (λ (t : KeyedTables). t.iterators) c.self.view_is in
    c.requires.iterators c.args.number c.index_mut-iterator.result.now
    (ap (λ is. slice_get is c.args.number) (sym items) ∙ read items c.requires.there c.index_mut-iterator.ensures.value)

pub bring-requires-clause-there : goal.bring-requires-clause-there
bring-requires-clause-there c =
    let items = ap (λ (t : KeyedTables). t.iterators) c.self.view_is in
    subst (λ (n : ℕ). Contains c.self.inside.references.items (reference_at n c.args.number)) (sym (ap (λ (p : ℕ × Bool). p.0) c.at-from.ensures))
    (c.self.invariant.1.all c.args.number c.index_mut-iterator.result.now (read items c.requires.there c.index_mut-iterator.ensures.value))

pub bring-requires-clause-alone : goal.bring-requires-clause-alone
bring-requires-clause-alone c =
    let items = ap (λ (t : KeyedTables). t.iterators) c.self.view_is in
    AreListed-alone c.self.invariant.1 (read items c.requires.there c.index_mut-iterator.ensures.value)
    (ap (λ (p : ℕ × Bool). p.0) c.at-from.ensures)

pub invariant_of-self : goal.invariant_of-self
invariant_of-self c =
    let items = ap (λ (t : KeyedTables). t.iterators) c.self.view_is in (
      c.bring.ensures.sorted,
      AreListed-moved c.on_remove.new.self (ap (λ (p : ℕ × Bool). p.0) c.at-from.ensures) (ap (λ (p : ℕ × Bool). p.0) c.at-to.ensures)
          (read items c.requires.there c.index_mut-iterator.ensures.value) c.self.invariant.1
          (c.bring.ensures.listed, c.bring.ensures.kept, c.bring.ensures.only),
    )

pub returns-clause-may : goal.returns-clause-may
returns-clause-may c =
    let items : c.self.inside.iterators.items ≡ c.args.self.now.iterators = ap (λ (t : KeyedTables). t.iterators) c.self.view_is in
    subst (λ (was : List KeyedIterator). MayHaveLeft c.args.forest.now c.args.node was
    (slice_set c.self.inside.iterators.items c.args.number c.on_remove.new.self)) items
    (may-set c.args.forest.now c.args.node c.self.inside.iterators.items c.args.number c.index_mut-iterator.result.now c.on_remove.new.self
    (read items c.requires.there c.index_mut-iterator.ensures.value)
    (record { value = c.on_remove.ensures.value; root = c.on_remove.ensures.root; kept = c.on_remove.ensures.kept; left = c.on_remove.ensures.left }))

pub returns-clause-left : goal.returns-clause-left
returns-clause-left c =
    let items : c.self.inside.iterators.items ≡ c.args.self.now.iterators = ap (λ (t : KeyedTables). t.iterators) c.self.view_is in
    subst (λ (was : List KeyedIterator). IsLeftIf c.args.forest.now c.args.node (slice_get was c.args.number)
    (slice_get (slice_set c.self.inside.iterators.items c.args.number c.on_remove.new.self) c.args.number)) items
    (left-set c.args.forest.now c.args.node c.self.inside.iterators.items c.args.number c.index_mut-iterator.result.now c.on_remove.new.self
    (read items c.requires.there c.index_mut-iterator.ensures.value)
    (record { value = c.on_remove.ensures.value; root = c.on_remove.ensures.root; kept = c.on_remove.ensures.kept; left = c.on_remove.ensures.left }))
