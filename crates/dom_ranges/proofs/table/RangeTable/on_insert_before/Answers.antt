use Rattle.dom_ranges.proofs.Cited.{ℕ, sym, ap, subst, ◌∙◌, nat_eq, Owner, after_insert, index_of, name_at, BothEnds, EachRange, ends_by, Fits, ranges_of}
use Rattle.dom_ranges.proofs.Leaving.{insert-none, ends-kept}
use Rattle.dom_ranges.proofs.table.RangeTable.on_insert_before.Goals as goal

pub on_insert-requires : goal.on_insert-requires
on_insert-requires c =
    subst (λ (i : ℕ). (o : Owner) → EachRange (BothEnds (λ b. Fits (after_insert nat_eq c.args.parent i c.args.count b)))
    (ranges_of c.args.self.now o)) (sym (c.index_before.ensures.index c.in-Some.index c.in-Some.is)) c.requires.fits

pub returns-in-Some : goal.returns-in-Some
returns-in-Some c o =
    c.on_insert.ensures o ∙ ap (λ (i : ℕ). ends_by (after_insert nat_eq c.args.parent i c.args.count) (ranges_of c.args.self.now o))
    (c.index_before.ensures.index c.in-Some.index c.in-Some.is)

pub returns-in_default : goal.returns-in_default
returns-in_default c o =
    let index = index_of c.args.forest.now.trees (name_at c.args.forest.now.names c.args.child) in
    sym (ends-kept (after_insert nat_eq c.args.parent index c.args.count) (ranges_of c.args.self.now o)
    (λ k r e.
    let up = c.index_before.ensures.none c.in_default.is o k r e in
    (insert-none c.args.parent index c.args.count r.start up.0, insert-none c.args.parent index c.args.count r.end up.1)))
