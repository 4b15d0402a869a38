use Rattle.std.proofs.Common.{List, ℕ, sym, subst, ◌∙◌}
use Rattle.node_arena.specs.declared.first_children.FirstChildren.{FirstChildren}
use Rattle.node_arena.specs.Known.{AreFirst}
use Rattle.node_arena.specs.Nodes.{children_of}
use Rattle.node_arena.proofs.FirstKnown.{first_none, same_from}
use Rattle.node_arena.proofs.first_children.FirstChildren.turn_to.Goals as goal
use Rattle.node_arena.proofs.first_children.FirstChildren.turn_to.Goals.{then-ne, else-ne}

pub returns-clause-first : goal.returns-clause-first
returns-clause-first c lists first = elim c.if-ne.branch [
  | then-ne w ↦
      subst (λ (f : FirstChildren). AreFirst f.keys (children_of lists c.args.parent)) (sym w.self-is)
      (subst (λ (xs : List ℕ). AreFirst xs (children_of lists c.args.parent)) (sym w.clear.ensures) (first_none _))
  | else-ne w ↦
      subst (λ (f : FirstChildren). AreFirst f.keys (children_of lists c.args.parent)) (sym w.self-is)
      (subst (λ (p : ℕ). AreFirst c.args.self.now.keys (children_of lists p)) (sym (same_from _ _ (sym w.if-ne.false ∙ c.ne.ensures))) first)
]
