use Rattle.dom_ranges.proofs.Cited.{sym, ◌∙◌, slice_get, option_flatten, eqb-true, eq-eqb, slab_len, slots_of}
use Rattle.dom_ranges.proofs.Vacant.{none-kept, none-held}
use Rattle.dom_ranges.proofs.Writing.{Shows-view, range_in-held}
use Rattle.dom_ranges.proofs.stored.StoredRanges.is_empty.Goals as goal

pub returns : goal.returns
returns c =
    let shows = Shows-view c.self.inside.live c.self.inside.numbers _ c.self.view_is in (
      λ is o k.
          range_in-held c.self.inside.live c.self.inside.numbers _ shows o k
          ∙ none-kept c.self.inside.live (eqb-true (slab_len c.self.inside.live) 0 (sym c.is_empty.ensures ∙ is))
          (option_flatten (slice_get (slots_of c.self.inside.numbers o) k)),
      λ none.
          c.is_empty.ensures ∙ eq-eqb (slab_len c.self.inside.live) 0
          (none-held c.self.inside.live c.self.inside.numbers _ shows c.self.invariant.0 none),
    )
