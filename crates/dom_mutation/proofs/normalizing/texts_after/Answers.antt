use Rattle.dom_mutation.proofs.Cited.{List, ℕ, subst, sym}
use Rattle.dom_mutation.proofs.Joined.{Follows, follows_first, follows_next}
use Rattle.dom_mutation.proofs.normalizing.texts_after.Goals as goal

pub loop-at-init : goal.loop-at-init
loop-at-init c =
    subst (λ (ks : List ℕ). Follows c.args.parts.now c.args.node ks c.text_after-at.result) (sym c.new-keys.ensures.items)
    (follows_first c.args.parts.now c.laws.ensures.once c.args.node c.text_after-at.result c.text_after-at.ensures.value c.text_after-at.ensures.node)

pub loop-at-smaller : goal.loop-at-smaller
loop-at-smaller c =
    (follows_next c.laws.ensures.once c.text_after-at-in-Some.result c.in-Some.is c.loop-at.invariant
    c.text_after-at-in-Some.ensures.value c.text_after-at-in-Some.ensures.node).1

pub loop-at-preserved : goal.loop-at-preserved
loop-at-preserved c =
    subst (λ (ks : List ℕ). Follows c.args.parts.now c.args.node ks c.text_after-at-in-Some.result) (sym c.in_ok-push.ensures.items)
    (follows_next c.laws.ensures.once c.text_after-at-in-Some.result c.in-Some.is c.loop-at.invariant
    c.text_after-at-in-Some.ensures.value c.text_after-at-in-Some.ensures.node).0
