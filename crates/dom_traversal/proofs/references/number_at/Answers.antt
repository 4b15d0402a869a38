use Rattle.dom_traversal.proofs.Cited.{◌≤◌, inl, inr, ap, refl, sym, subst, ◌∙◌, arith, same_Some, cases_lt, eqb-false, Reference, reference_at}
use Rattle.dom_traversal.proofs.Standing.{place-between}
use Rattle.dom_traversal.proofs.references.number_at.Goals.{else-place-references-via-then-place-references+else-eq}
use Rattle.dom_traversal.proofs.references.number_at.Goals.{else-place-references-via-else-place-references}
use Rattle.dom_traversal.proofs.references.number_at.Goals as goal

pub returns-then-are_behind-clause-least : goal.returns-then-are_behind-clause-least
returns-then-are_behind-clause-least c n le w =
    let x = reference_at c.args.node n in
    let node = ap (λ (y : Reference). y.node) w.2 in
    elim (cases_lt w.0 c.min-around.result) [
      | inl l ↦ let less = c.are_before.ensures c.if-are_before.true w.0 x l in absurd (omega (arith, less, node))
      | inr l ↦ let more = c.are_behind.ensures c.if-are_behind.true w.0 x l w.1 in absurd (omega (arith, more, node))
    ]

pub returns-then-eq-clause-least : goal.returns-then-eq-clause-least
returns-then-eq-clause-least c n le w =
    let found = place-between c.args.references.now (reference_at c.args.node c.args.least) c.place_of-place.result c.requires c.place_of-place.ensures.before
    c.place_of-place.ensures.from (reference_at c.args.node n) refl le w in
    (refl, λ x e. subst (λ m. m ≤ n) (same_Some _ x e) (found.1 c.index-references-place-then-eq.result).1)

pub returns-clause-least : goal.returns-clause-least
returns-clause-least c n le w =
    let found = place-between c.args.references.now (reference_at c.args.node c.args.least) c.place_of-place.result c.requires c.place_of-place.ensures.before
    c.place_of-place.ensures.from (reference_at c.args.node n) refl le w in
    elim c.else-place-references.branch [
      | else-place-references-via-then-place-references+else-eq v ↦
          absurd (eqb-false _ _ (sym v.eq.ensures ∙ v.if-eq.false) (found.1 v.index-references-place.result).0)
      | else-place-references-via-else-place-references v ↦ let l = found.0 in absurd (omega (arith, l, v.if-place-references.false))
    ]
