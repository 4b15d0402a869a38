use Rattle.dom_dispatch.proofs.Cited.{◌≡◌, inl, inr, Some, None, [], refl, ap, sym, subst, ◌∙◌, arith, IsSome, false≢true, option_map_or, slice_get}
use Rattle.dom_dispatch.proofs.Cited.{slice_get-get_or}
use Rattle.dom_dispatch.proofs.Cited.{slice_get_cases, set, places_in}
use Rattle.dom_dispatch.proofs.Listing.{all_but, at_row, one-gone, others-stay, rows-like, row-is, row-was}
use Rattle.dom_dispatch.proofs.places.Places.remove.Goals as goal

pub returns-in_default-clause-gone : goal.returns-in_default-clause-gone
returns-in_default-clause-gone c =
    let rows = c.args.self.now.rows.items in
    let past : slice_get rows c.index.result ≡ None = elim (slice_get_cases rows c.index.result).1 [
      | inl w ↦ absurd (false≢true (subst IsSome c.in_default.is (c.get_mut.ensures.variant.1 (omega (arith, w.1, c.args.self.now.rows.ok)))))
      | inr w ↦ w.1
    ] in
    let none : at_row rows c.args.node c.args.event.now ≡ [] =
    ap (λ o. option_map_or (λ list. places_in list c.args.event.now) o []) (ap (slice_get rows) (sym c.index.ensures) ∙ past) in
    none ∙ ap (all_but c.args.place) (sym none)

-- the node's row
there : (c : goal.After-self-in-Some-1) → slice_get c.args.self.now.rows.items c.index.result ≡ Some c.in-Some.list.now
there c =
    slice_get-get_or c.args.self.now.rows.items c.index.result c.in-Some.list.now
    (omega (arith, c.in-Some.ensures.variant.0 refl, c.args.self.now.rows.ok)) ∙ ap Some (sym c.in-Some.ensures.value)

pub returns-in-Some-clause-gone : goal.returns-in-Some-clause-gone
returns-in-Some-clause-gone c =
    let rows = c.args.self.now.rows.items in
    let event = c.args.event.now in
    let old = c.in-Some.list.now in
    let new = c.remove.new.self in
    ap (λ n. at_row (set rows c.index.result new) n event) (sym c.index.ensures)
    ∙ row-is rows c.index.result old new (there c) event
    ∙ one-gone old new event c.args.place c.remove.ensures.first c.remove.ensures.rest
    ∙ ap (all_but c.args.place) (sym (row-was rows c.index.result old new (there c) event))
    ∙ ap (λ n. all_but c.args.place (at_row rows n event)) c.index.ensures

pub returns-in-Some-clause-others : goal.returns-in-Some-clause-others
returns-in-Some-clause-others c =
    rows-like c.args.self.now.rows.items c.index.result c.in-Some.list.now c.remove.new.self (there c) (all_but c.args.place)
    (others-stay c.in-Some.list.now c.remove.new.self c.args.event.now c.args.place c.remove.ensures.first c.remove.ensures.rest)
