use Rattle.dom_mutation.proofs.Cited.{◌≡◌, ℕ, false, Some, sym, subst, ◌∙◌, eqb-true, same_Some, name_eq, IsChild, name_in}
use Rattle.dom_mutation.proofs.Placed.{next_is_child}
use Rattle.dom_mutation.proofs.inserting.reference_child.Goals.{After-next}
use Rattle.dom_mutation.proofs.inserting.reference_child.Goals as goal

-- the next sibling of the node
next_one : (c : After-next) (b : ℕ) → c.next.result ≡ Some b →
    IsChild c.args.parts.now c.args.parent b × (name_eq (name_in c.args.parts.now c.args.node) (name_in c.args.parts.now b) ≡ false)
next_one c =
    next_is_child c.args.parts.now c.laws.ensures.once c.args.parent c.in_ok-child.child c.args.node c.next.result
    (c.requires.child_is_child c.in_ok-child.child c.in_ok-child.was)
    (eqb-true c.in_ok-child.child c.args.node (sym c.eq.ensures ∙ c.if-eq.true)) c.next.ensures.value c.next.ensures.node c.next.ensures.owner

pub returns-then-eq-clause-child : goal.returns-then-eq-clause-child
returns-then-eq-clause-child c b is = (next_one (goal.at.returns-then-eq-clause-child c).After-next b is).0

pub returns-then-eq-clause-apart : goal.returns-then-eq-clause-apart
returns-then-eq-clause-apart c b is = (next_one (goal.at.returns-then-eq-clause-apart c).After-next b is).1

pub returns-clause-child : goal.returns-clause-child
returns-clause-child c b is = subst (IsChild c.args.parts.now c.args.parent) (same_Some c.in_ok-child.child b is)
    (c.requires.child_is_child c.in_ok-child.child c.in_ok-child.was)
