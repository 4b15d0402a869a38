use Rattle.std.proofs.Common.{◌<◌, length, inl, inr, refl, sym, subst, ◌∙◌}
use Rattle.std.proofs.lemmas.Option.{same_Some}
use Rattle.node_arena.specs.Store.{seen}
use Rattle.node_arena.proofs.StoreReads.{kept-parent, kept-first, kept-seen, Reading, reading, read-none, read-cell, within-cells}
use Rattle.node_arena.proofs.cell_at.CellAt.key_to.Given.{Over}
use Rattle.node_arena.proofs.cell_at.CellAt.key_to.Goals.{In-Next, In-Prev}
use Rattle.node_arena.proofs.cell_at.CellAt.key_to.Goals as goal

pub returns-then-not-leads-clause-value : goal.returns-then-not-leads-clause-value
returns-then-not-leads-clause-value g c =
    rw (← c.self.view_is) (read-none c.self.invariant c.args.link (sym c.leads.ensures ∙ c.if-not-leads.true))

pub returns-in-Parent-clause-value : goal.returns-in-Parent-clause-value
returns-in-Parent-clause-value g c =
    let marked = rw c.in-Parent.is at (sym c.leads.ensures ∙ c.if-not-leads.false) in
    rw (← c.self.view_is, c.in-Parent.is) (sym (kept-parent c.self.invariant marked).seen)

pub returns-in-Parent-clause-cell : goal.returns-in-Parent-clause-cell
returns-in-Parent-clause-cell g c =
    let marked = rw c.in-Parent.is at (sym c.leads.ensures ∙ c.if-not-leads.false) in
    rw (← c.self.view_is) (λ x is. subst (λ k. k < length (seen c.self.inside.pool.now.cells).links)
    (same_Some c.self.inside.cell.now.parent x is) (kept-seen (kept-parent c.self.invariant marked)))

pub returns-in-First-clause-value : goal.returns-in-First-clause-value
returns-in-First-clause-value g c =
    let marked = rw c.in-First.is at (sym c.leads.ensures ∙ c.if-not-leads.false) in
    rw (← c.self.view_is, c.in-First.is) (sym (kept-first c.self.invariant marked).seen)

pub returns-in-First-clause-cell : goal.returns-in-First-clause-cell
returns-in-First-clause-cell g c =
    let marked = rw c.in-First.is at (sym c.leads.ensures ∙ c.if-not-leads.false) in
    rw (← c.self.view_is) (λ x is. subst (λ k. k < length (seen c.self.inside.pool.now.cells).links)
    (same_Some c.self.inside.cell.now.first x is) (kept-seen (kept-first c.self.invariant marked)))

-- the cell that lies behind
behind : (g : Over) (c : In-Next g) → Reading c.self.inside.pool.now.cells c.self.inside.cell.now.key c.args.link c.self.inside.cell.now.next.ptr
behind g c =
    reading c.self.invariant c.args.link (sym c.leads.ensures ∙ c.if-not-leads.false)
    (rw c.in-Next.is refl)

-- and the one back
back : (g : Over) (c : In-Prev g) → Reading c.self.inside.pool.now.cells c.self.inside.cell.now.key c.args.link c.self.inside.cell.now.back.ptr
back g c =
    reading c.self.invariant c.args.link (sym c.leads.ensures ∙ c.if-not-leads.false)
    (elim c.in-Prev.is [ inl e ↦ rw e refl | inr e ↦ rw e refl ])

pub get-requires : goal.get-requires
get-requires g c = rw (behind g (goal.at.get-requires g c).In-Next).cell.value refl

pub returns-in-Next-clause-value : goal.returns-in-Next-clause-value
returns-in-Next-clause-value g c =
    rw (← c.self.view_is) (read-cell c.self.invariant.wired (behind g (goal.at.returns-in-Next-clause-value g c).In-Next) c.get.ensures).1

pub returns-in-Next-clause-cell : goal.returns-in-Next-clause-cell
returns-in-Next-clause-cell g c =
    let there = read-cell c.self.invariant.wired (behind g (goal.at.returns-in-Next-clause-cell g c).In-Next) c.get.ensures in
    rw (← c.self.view_is) (λ x is. subst (λ k. k < length (seen c.self.inside.pool.now.cells).links) (same_Some c.get.result.now.key x is)
    (within-cells there.0))

pub get-requires-in-Prev : goal.get-requires-in-Prev
get-requires-in-Prev g c = rw (back g (goal.at.get-requires-in-Prev g c).In-Prev).cell.value refl

pub returns-in-Prev-clause-value : goal.returns-in-Prev-clause-value
returns-in-Prev-clause-value g c =
    rw (← c.self.view_is) (read-cell c.self.invariant.wired (back g (goal.at.returns-in-Prev-clause-value g c).In-Prev) c.get-in-Prev.ensures).1

pub returns-in-Prev-clause-cell : goal.returns-in-Prev-clause-cell
returns-in-Prev-clause-cell g c =
    let there = read-cell c.self.invariant.wired (back g (goal.at.returns-in-Prev-clause-cell g c).In-Prev) c.get-in-Prev.ensures in
    rw (← c.self.view_is) (λ x is. subst (λ k. k < length (seen c.self.inside.pool.now.cells).links) (same_Some c.get-in-Prev.result.now.key x is)
    (within-cells there.0))
