use Rattle.dom_ranges.proofs.Cited.{◌≡◌, [], ◌∷◌, Some, sym, subst, ◌∙◌, ap, rules, get, Boundary, at, end_in, end_of, HasChanged, IsListedOnce}
use Rattle.dom_ranges.proofs.Listing.{IsPut, IsListed-put, listed-once}
use Rattle.dom_ranges.proofs.moving.put_end.Goals.{then-is_end, else-is_end}
use Rattle.dom_ranges.proofs.moving.put_end.Goals as goal

pub bring-requires-clause-there : goal.bring-requires-clause-there
bring-requires-clause-there c =
    let there : get c.args.live.now c.args.slot ≡ Some c.in-Some.points = search rules in
    let point_is : at c.if-is_end.from.0 c.if-is_end.from.1 ≡ end_of c.args.is_end c.in-Some.points = elim c.if-is_end.branch [
      | then-is_end w ↦ ap (λ t. at t.0 t.1) w.from-is ∙ sym (ap (λ b. end_of b c.in-Some.points) w.if-is_end.true)
      | else-is_end w ↦ ap (λ t. at t.0 t.1) w.from-is ∙ sym (ap (λ b. end_of b c.in-Some.points) w.if-is_end.false)
    ] in
    subst (λ (b : Boundary _). IsListedOnce c.args.ends.now (end_in c.args.slot c.args.is_end b)) (sym point_is)
    (listed-once c.requires.listed c.args.slot c.args.is_end there)

pub returns-else-eq-clause-listed : goal.returns-else-eq-clause-listed
returns-else-eq-clause-listed c =
    let there : get c.args.live.now c.args.slot ≡ Some c.in-Some.points = search rules in
    let point_is : at c.if-is_end.from.0 c.if-is_end.from.1 ≡ end_of c.args.is_end c.in-Some.points = elim c.if-is_end.branch [
      | then-is_end w ↦ ap (λ t. at t.0 t.1) w.from-is ∙ sym (ap (λ b. end_of b c.in-Some.points) w.if-is_end.true)
      | else-is_end w ↦ ap (λ t. at t.0 t.1) w.from-is ∙ sym (ap (λ b. end_of b c.in-Some.points) w.if-is_end.false)
    ] in
    let put : IsPut c.args.live.now c.put_point.new.live c.args.slot c.args.is_end (at c.args.point.0 c.args.point.1) =
    record { put = c.put_point.ensures.put; others = c.put_point.ensures.others } in
    IsListed-put c.requires.listed there put
    (subst (λ (b : Boundary _). HasChanged c.args.ends.now c.bring.new.ends (end_in c.args.slot c.args.is_end b ∷ [])
    (end_in c.args.slot c.args.is_end (at c.args.point.0 c.args.point.1) ∷ [])) point_is c.bring.ensures.brought)
