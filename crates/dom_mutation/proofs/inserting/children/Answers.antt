use Rattle.dom_mutation.proofs.Cited.{List, subst, sym, ℕ}
use Rattle.dom_mutation.proofs.Listing.{Lists, lists_first, lists_next}
use Rattle.dom_mutation.proofs.inserting.children.Goals as goal

pub loop-at-init : goal.loop-at-init
loop-at-init c =
    subst (λ (ks : List ℕ). Lists c.args.parts.now c.args.node ks c.first-at.result) (sym c.new-keys.ensures.items)
    (lists_first c.args.parts.now c.laws.ensures.once c.args.node c.first-at.result c.first-at.ensures.value c.first-at.ensures.node c.first-at.ensures.owner)

pub loop-at-smaller : goal.loop-at-smaller
loop-at-smaller c =
    (lists_next c.args.parts.now c.laws.ensures.once c.args.node c.next-at.result c.in-Some.is c.loop-at.invariant
    c.next-at.ensures.value c.next-at.ensures.node c.next-at.ensures.owner).1

pub loop-at-preserved : goal.loop-at-preserved
loop-at-preserved c =
    subst (λ (ks : List ℕ). Lists c.args.parts.now c.args.node ks c.next-at.result) (sym c.in_ok-push.ensures.ok)
    (lists_next c.args.parts.now c.laws.ensures.once c.args.node c.next-at.result c.in-Some.is c.loop-at.invariant
    c.next-at.ensures.value c.next-at.ensures.node c.next-at.ensures.owner).0
