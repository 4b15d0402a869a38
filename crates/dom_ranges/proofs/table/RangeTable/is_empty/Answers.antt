use Rattle.dom_ranges.proofs.Cited.{ℕ, ap, sym, ◌∙◌, Owner, range_in, RangeLists, ranges_of}
use Rattle.dom_ranges.proofs.Pending.{none-alike}
use Rattle.dom_ranges.proofs.table.RangeTable.is_empty.Goals as goal

pub returns : goal.returns
returns c =
    let at = λ (o : Owner) (k : ℕ) (t : RangeLists). range_in (ranges_of t o) k in
    let alike = none-alike c.self.inside.pending c.self.inside.stored in (
      λ is o k. ap (at o k) (sym c.self.view_is) ∙ (alike o k).1 (c.is_empty.ensures.0 is o k),
      λ none. c.is_empty.ensures.1 (λ o k. (alike o k).0 (ap (at o k) c.self.view_is ∙ none o k)),
    )
