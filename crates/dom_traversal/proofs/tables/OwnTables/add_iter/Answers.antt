use Rattle.dom_traversal.proofs.Cited.{◌≡◌, ◌⊎◌, List, length, sym, subst, ap, arith, slice_get_within, Contains, AreListed, KeyedIterator, Reference}
use Rattle.dom_traversal.proofs.Cited.{reference_at}
use Rattle.dom_traversal.proofs.Listing.{AreListed-added}
use Rattle.dom_traversal.proofs.tables.OwnTables.add_iter.Goals as goal

pub list-requires-clause-unlisted : goal.list-requires-clause-unlisted
list-requires-clause-unlisted c x w n =
    let is : List KeyedIterator = c.self.inside.iterators.items in
    let i = c.self.invariant.1.only x (subst (λ (xs : List Reference). Contains xs x) c.in_ok-reserve.ensures.items w) in
    omega (arith, n, slice_get_within is x.number i.0 i.1, c.len-number.ensures, c.self.inside.iterators.ok.0)

pub invariant_of-self-2 : goal.invariant_of-self-2
invariant_of-self-2 c =
    let is : List KeyedIterator = c.self.inside.iterators.items in
    let xs = c.reserve.new.self.items in
    let number : c.len-number.result ≡ length is = omega (arith, c.len-number.ensures, c.self.inside.iterators.ok.0) in
    let root : c.new.result.reference ≡ c.args.root = ap (λ (i : KeyedIterator). i.reference) c.new.ensures.value in
    let here : reference_at c.args.root c.len-number.result ≡ reference_at c.new.result.reference (length is) =
    (λ t. reference_at (sym root t) (number t)) in (
      c.list.ensures.sorted,
      subst (λ (js : List KeyedIterator). AreListed js c.list.new.references.items) (sym c.in_ok-push.ensures.items)
          (AreListed-added c.new.result c.list.new.references.items
          (subst (AreListed is) (sym c.in_ok-reserve.ensures.items) c.self.invariant.1)
          (subst (Contains c.list.new.references.items) here c.list.ensures.listed) c.list.ensures.kept
          (subst (λ (y : Reference). (x : Reference) → Contains c.list.new.references.items x → (x ≡ y) ⊎ Contains xs x) here c.list.ensures.only)),
    )
