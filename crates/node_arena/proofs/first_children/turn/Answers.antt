use Rattle.std.proofs.Common.{◌∙◌, List, ℕ, sym, subst}
use Rattle.node_arena.specs.Known.{AreFirst, AreKept}
use Rattle.node_arena.specs.Nodes.{children_of}
use Rattle.node_arena.proofs.first_children.turn.Goals as goal
use Rattle.node_arena.proofs.first_children.turn.Goals.{then-ne, else-ne}

-- what is kept of both, once they changed places or not
known : (c : goal.After-turn_to) (lists : List (List ℕ)) → AreKept lists c.args.recent.now → AreKept lists c.args.other.now →
    AreKept lists c.if-ne.recent × AreKept lists c.if-ne.other
known c lists kept beside = elim c.if-ne.branch [
  | then-ne w ↦ (
    subst (AreKept lists) (sym (w.recent-is ∙ w.swap.ensures.x_after)) beside,
    subst (AreKept lists) (sym (w.other-is ∙ w.swap.ensures.y_after)) kept,
  )
  | else-ne w ↦ (subst (AreKept lists) (sym w.recent-is) kept, subst (AreKept lists) (sym w.other-is) beside)
]

pub returns-clause-recent : goal.returns-clause-recent
returns-clause-recent c lists kept beside =
    subst (λ (p : ℕ). AreFirst c.turn_to.new.self.keys (children_of lists p)) (sym c.turn_to.ensures.parent)
    (c.turn_to.ensures.first lists (known c lists kept beside).0)

pub returns-clause-other : goal.returns-clause-other
returns-clause-other c lists kept beside = (known c lists kept beside).1
