use Rattle.dom_ranges.proofs.Cited.{◌≡◌, ◌≢◌, true≢false, refl, sym, subst, slice_set, Some, None, ◌∙◌, IsSome, with_item, Page, Numbers, written-by}
use Rattle.dom_base.proofs.Std.{get}
use Rattle.dom_ranges.proofs.SlotLists.{slots-written}
use Rattle.dom_ranges.proofs.numbers.Numbers.clear.Goals.{in-Page, in_default}
use Rattle.dom_base.specs.contracts.OwnerPartialEq.TheImpl as OwnerImpl
use Rattle.dom_ranges.proofs.numbers.Numbers.clear.Goals as goal

pub returns-in-Some : goal.returns-in-Some
returns-in-Some c =
    let n = c.args.self.now in
    let new = with_item c.in-Some.slots.now c.args.number None in
    let r : Numbers = record { page = n.page; components = c.get_mut.follows.lender new; alloc = n.alloc } in
    let other : c.args.owner ≢ Page = elim c.match-matches.branch [
      | in-Page w ↦ absurd (true≢false (sym w.matches-is ∙ c.if-matches.false))
      | in_default w ↦ w.in_default.not-Page
    ] in
    let found : get OwnerImpl.ghosts.eq n.components c.args.owner ≡ Some c.in-Some.slots.now = sym c.in-Some.ensures.value in
    let some : IsSome (get OwnerImpl.ghosts.eq n.components c.args.owner) = subst IsSome c.in-Some.ensures.value refl in
    slots-written n r refl c.args.owner (λ slots. slice_set slots c.args.number None) other
    (written-by (λ v. v.items) (get OwnerImpl.ghosts.eq n.components) (get OwnerImpl.ghosts.eq r.components) c.args.owner new
    (λ p. ((c.get_mut.follows.holds new).3 some).0 p) c.in-Some.slots.now (λ slots. slice_set slots c.args.number None) found refl)
