use Rattle.std.proofs.Common.{List, ℕ, inl, inr, sym, subst, ◌∙◌, ap, not}
use Rattle.node_arena.specs.Known.{AreFirst}
use Rattle.node_arena.specs.Nodes.{insert_before}
use Rattle.node_arena.proofs.FirstKnown.{cases_has, first_kept, first_none, first_pushed, first_put-there, first_put-behind}
use Rattle.node_arena.proofs.first_children.FirstChildren.on_link.Goals as goal

pub returns-in_default-clause-there : goal.returns-in_default-clause-there
returns-in_default-clause-there c here siblings first = rw c.in_default.is (first_pushed _ siblings c.args.child first)

pub returns-then-is_err-clause-there : goal.returns-then-is_err-clause-there
returns-then-is_err-clause-there c here siblings first =
    subst (λ (xs : List ℕ). AreFirst xs (insert_before siblings c.args.child c.args.before)) (sym c.clear.ensures) (first_none _)

pub returns-else-is_err-clause-there : goal.returns-else-is_err-clause-there
returns-else-is_err-clause-there c here siblings first =
    let kept : AreFirst c.tire.new.self.keys siblings = first_kept c.tire.ensures.kept first in
    let done = c.is_err.ensures.negation ∙ ap not c.if-is_err.false in
    elim (cases_has c.tire.new.self.keys c.in-Some.next) [
      | inl there ↦ rw (c.put_before.ensures.there there, done, c.in-Some.is) (first_put-there _ siblings c.args.child c.in-Some.next there kept)
      | inr absent ↦ rw (c.put_before.ensures.elsewhere absent, c.in-Some.is) (first_put-behind _ siblings c.args.child c.in-Some.next absent kept)
    ]
