use Rattle.dom_ranges.proofs.Cited.{◌≡◌, ◌≢◌, ◌∷◌, ◌++◌, [], true≢false, refl, sym, subst, Some, ◌∙◌, IsSome, Page, Numbers, written-by, of_ok}
use Rattle.dom_base.proofs.Std.{get}
use Rattle.dom_ranges.proofs.SlotLists.{slots-written, room_of}
use Rattle.dom_ranges.proofs.numbers.Numbers.push.Goals.{in-Page, in_default}
use Rattle.dom_base.specs.contracts.OwnerPartialEq.TheImpl as OwnerImpl
use Rattle.dom_ranges.proofs.numbers.Numbers.push.Goals as goal

pub returns-in-Some : goal.returns-in-Some
returns-in-Some c =
    let n = c.args.self.now in
    let r : Numbers = record { page = n.page; components = c.get_mut.follows.lender c.push-in-Some.new.self; alloc = n.alloc } in
    let other : c.args.owner ≢ Page = elim c.match-matches.branch [
      | in-Page w ↦ absurd (true≢false (sym w.matches-is ∙ c.if-matches.false))
      | in_default w ↦ w.in_default.not-Page
    ] in
    let found : get OwnerImpl.ghosts.eq n.components c.args.owner ≡ Some c.in-Some.slots.now = sym c.in-Some.ensures.value in
    let some : IsSome (get OwnerImpl.ghosts.eq n.components c.args.owner) = subst IsSome c.in-Some.ensures.value refl in
    let items = of_ok c.push-in-Some.result (c.in-Some.slots.now.items ++ Some c.args.slot ∷ []) c.in-Some.slots.now.items c.push-in-Some.new.self.items
    (c.push-in-Some.ensures.succeeds (room_of n c.args.owner c.in-Some.slots.now other found c.requires)) c.push-in-Some.ensures.items in
    slots-written n r refl c.args.owner (λ slots. slots ++ Some c.args.slot ∷ []) other
    (written-by (λ v. v.items) (get OwnerImpl.ghosts.eq n.components) (get OwnerImpl.ghosts.eq r.components) c.args.owner c.push-in-Some.new.self
    (λ p. ((c.get_mut.follows.holds c.push-in-Some.new.self).3 some).0 p) c.in-Some.slots.now (λ slots. slots ++ Some c.args.slot ∷ []) found items)
