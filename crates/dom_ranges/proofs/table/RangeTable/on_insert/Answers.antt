use Rattle.dom_ranges.proofs.Cited.{◌≡◌, Option, ap, sym, ◌∙◌, subst, refl, nat_eq, after_insert, after_insertion, Fits, Insertion, ranges_of, shown_after}
use Rattle.dom_ranges.proofs.EndsAfterCalls.{EachRange-weaker}
use Rattle.dom_ranges.proofs.Pending.{ranges-by, ranges-twice, each-before}
use Rattle.dom_ranges.proofs.table.RangeTable.on_insert.Goals.{in-Some+in_default-with_next, in_default}
use Rattle.dom_ranges.proofs.table.RangeTable.on_insert.Goals as goal
use Rattle.dom_ranges.specs.contracts.table.RangeTable.{the_view}

pub returns-in-Some-with_next : goal.returns-in-Some-with_next
returns-in-Some-with_next c =
    ranges-twice (after_insertion c.in-Some.insertion) c.self.inside.stored c.args.self.now
    (ap (λ (p : Option Insertion). shown_after p c.self.inside.stored) (sym c.in-Some.is) ∙ c.self.view_is)
    (after_insert nat_eq c.args.parent c.args.index c.args.count) (after_insertion c.in-Some-with_next.sum)
    (c.with_next.ensures c.in-Some-with_next.sum c.in-Some-with_next.is)

pub invariant_of-self : goal.invariant_of-self
invariant_of-self c o =
    let next = after_insert nat_eq c.args.parent c.args.index c.args.count in
    let first = after_insertion c.in-Some.insertion in
    let sum = after_insertion c.in-Some-with_next.sum in
    EachRange-weaker (λ b. Fits (next (first b))) (λ b. Fits (sum b))
    (λ b p. subst Fits (sym (c.with_next.ensures c.in-Some-with_next.sum c.in-Some-with_next.is b)) p) (ranges_of c.self.inside.stored o)
    (each-before first c.self.inside.stored c.args.self.now
    (ap (λ (p : Option Insertion). shown_after p c.self.inside.stored) (sym c.in-Some.is) ∙ c.self.view_is) (λ b. Fits (next b)) c.requires o)

pub invariant_of-self-2 : goal.invariant_of-self-2
invariant_of-self-2 c =
    let same : c.match-self.self-inside ≡ c.self.inside =
    elim c.match-self.branch [ in-Some+in_default-with_next w ↦ w.self-inside-is | in_default w ↦ w.self-inside-is ] in
    rw (c.settle.ensures, same, c.self.view_is) c.requires

pub returns : goal.returns
returns c =
    let same : c.match-self.self-inside ≡ c.self.inside =
    elim c.match-self.branch [ in-Some+in_default-with_next w ↦ w.self-inside-is | in_default w ↦ w.self-inside-is ] in
    ranges-by (after_insert nat_eq c.args.parent c.args.index c.args.count) refl (c.settle.ensures ∙ (ap the_view same ∙ c.self.view_is))
