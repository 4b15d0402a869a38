-- From the end of one segment to that of the next, above white space.
use Rattle.dom_selectors.proofs.Cited.{ap, refl, sym, subst, ◌∙◌, complex_matches, name_at, IsDescendant, StopsAt}
use Rattle.dom_selectors.proofs.JoinedLaws.{last-joined, no-links}
use Rattle.dom_selectors.proofs.Searches.{goes-above, none-above}
use Rattle.dom_selectors.proofs.joined.end_matches.Goals as goal

pub loop-left-init : goal.loop-left-init
loop-left-init c = record { node = c.requires.node; same = refl; stops = c.requires.stops }

pub loop-left-preserved : goal.loop-left-preserved
loop-left-preserved c =
    let is = last-joined c.args.first.now c.loop-left.rest.now c.in-Some.left.now c.in-Some.field-0-0.now c.in-Some.ensures.cases.0 in
    record {
      node = c.in-Some-segment_above.ensures.node;
      same = c.loop-left.invariant.same ∙ goes-above is c.loop-left.invariant.stops c.in-Some-segment_above.ensures.ends;
      stops = c.in-Some-segment_above.ensures.ends.stops;
    }

pub returns-in_default-segment_above : goal.returns-in_default-segment_above
returns-in_default-segment_above c =
    let f = c.args.forest.now in
    let is = last-joined c.args.first.now c.loop-left.rest.now c.in-Some.left.now c.in-Some.field-0-0.now c.in-Some.ensures.cases.0 in
    sym (c.loop-left.invariant.same ∙
    none-above f.trees (name_at f.names c.loop-left.at) is c.loop-left.invariant.stops c.in_default-segment_above.ensures.ends)

pub returns : goal.returns
returns c =
    let f = c.args.forest.now in
    let z = name_at f.names c.loop-left.at in
    let is = no-links c.args.first.now c.loop-left.rest.now c.in_default.ensures.cases in
    sym (c.loop-left.invariant.same ∙ (ap (λ d. complex_matches f.trees d z) is ∙ subst (λ d. StopsAt IsDescendant f.trees d z) is c.loop-left.invariant.stops))
