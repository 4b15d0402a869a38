use Rattle.dom_ranges.proofs.Cited.{sym, subst, ◌∙◌, nat_eq, after_join, index_of, name_at, Fits, ranges_of}
use Rattle.dom_ranges.proofs.Leaving.{join-near, ends-alike}
use Rattle.dom_ranges.proofs.table.RangeTable.on_join_child.Goals as goal

pub on_join-requires : goal.on_join-requires
on_join-requires c =
    λ o k r e.
    let near = c.index_among-index.ensures o k r e in
    let fits = c.requires.fits o k r e in (
      subst Fits (sym (join-near c.args.first c.args.size c.args.next r.start near.0)) fits.0,
      subst Fits (sym (join-near c.args.first c.args.size c.args.next r.end near.1)) fits.1,
    )

pub returns : goal.returns
returns c o =
    let index = index_of c.args.forest.now.trees (name_at c.args.forest.now.names c.args.next) in
    c.on_join.ensures o
    ∙ ends-alike (after_join nat_eq c.args.first c.args.size c.args.next c.args.parent c.index_among-index.result)
    (after_join nat_eq c.args.first c.args.size c.args.next c.args.parent index) (ranges_of c.args.self.now o)
    (λ k r e.
    let near = c.index_among-index.ensures o k r e in (
      join-near c.args.first c.args.size c.args.next r.start near.0,
      join-near c.args.first c.args.size c.args.next r.end near.1,
    ))
