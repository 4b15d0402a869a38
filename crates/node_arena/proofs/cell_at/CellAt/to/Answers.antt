use Rattle.std.proofs.Common.{◌<◌, length, refl, sym, subst, ◌∙◌}
use Rattle.std.proofs.lemmas.Option.{same_Some}
use Rattle.node_arena.specs.Store.{seen}
use Rattle.node_arena.proofs.StoreReads.{Reading, listed, reading, read-none, read-cell, within-cells}
use Rattle.node_arena.proofs.cell_at.CellAt.to.Given.{Over}
use Rattle.node_arena.proofs.cell_at.CellAt.to.Goals.{After-place}
use Rattle.node_arena.proofs.cell_at.CellAt.to.Goals as goal

pub returns-then-not-leads-clause-value : goal.returns-then-not-leads-clause-value
returns-then-not-leads-clause-value g c =
    rw (← c.self.view_is) (read-none c.self.invariant c.args.link (sym c.leads.ensures ∙ c.if-not-leads.true))

pub place-requires : goal.place-requires
place-requires g c = listed c.self.invariant c.args.link (sym c.leads.ensures ∙ c.if-not-leads.false)

-- what is read in the cell
read : (g : Over) (c : After-place g) → Reading c.self.inside.pool.now.cells c.self.inside.cell.now.key c.args.link c.place.result.ptr
read g c = reading c.self.invariant c.args.link (sym c.leads.ensures ∙ c.if-not-leads.false) c.place.ensures

pub get-cell-requires : goal.get-cell-requires
get-cell-requires g c = rw (read g (goal.at.get-cell-requires g c).After-place).cell.value refl

pub invariant_of-result : goal.invariant_of-result
invariant_of-result g c =
    (read-cell c.self.invariant.wired (read g (goal.at.invariant_of-result g c).After-place) c.get-cell.ensures).0

pub returns-clause-value : goal.returns-clause-value
returns-clause-value g c =
    rw (← c.self.view_is) (read-cell c.self.invariant.wired (read g (goal.at.returns-clause-value g c).After-place) c.get-cell.ensures).1

pub returns-clause-cell : goal.returns-clause-cell
returns-clause-cell g c =
    let there = read-cell c.self.invariant.wired (read g (goal.at.returns-clause-cell g c).After-place) c.get-cell.ensures in
    rw (← c.self.view_is) (λ x is. subst (λ k. k < length (seen c.self.inside.pool.now.cells).links) (same_Some c.get-cell.result.now.key x is)
    (within-cells there.0))
