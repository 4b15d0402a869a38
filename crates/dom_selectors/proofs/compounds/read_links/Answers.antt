-- One more is read.
use Rattle.dom_selectors.proofs.Cited.{◌≡◌, None, ap, sym, ◌∙◌, arith, append-nil, map, read_link, behind_list, link_view}
use Rattle.dom_selectors.proofs.Shorter.{link-ends}
use Rattle.dom_selectors.proofs.Repeats.{round-less, round-more, all-none}
use Rattle.dom_selectors.proofs.compounds.read_links.Goals as goal

pub loop-links-smaller : goal.loop-links-smaller
loop-links-smaller c = round-less link-ends link_view c.loop-links.rest.now c.in_ok-link.ensures c.in-Some.is

pub loop-links-preserved : goal.loop-links-preserved
loop-links-preserved c =
    round-more link-ends link_view c.loop-links.rest.now c.in_ok-link.ensures c.in-Some.is _ c.in_ok-push.ensures.items ∙ c.loop-links.invariant

pub returns : goal.returns
returns c =
    let h = c.in_ok-link.ensures in
    let g = c.in_default.is in
    let e : read_link c.loop-links.rest.now ≡ None = grind arith in
    let front = map link_view c.loop-links.links.items in
    sym c.loop-links.invariant
    ∙ ap (behind_list front) (all-none read_link c.loop-links.rest.now e)
    ∙ ap (λ ls. (ls, c.loop-links.rest.now)) (append-nil front)
