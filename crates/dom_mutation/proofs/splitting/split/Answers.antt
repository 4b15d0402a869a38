use Rattle.dom_mutation.proofs.Cited.{◌≡◌, ◌-◌, length, option_map, refl, ap, arith, DomString, node_in, splitting, name_in, trees_in}
use Rattle.dom_mutation.proofs.Grown.{IsMade, made_so, new_owner, new_unlinked, new_not_above, split_whole}
use Rattle.dom_mutation.proofs.BoundedDocs.{bounds_added}
use Rattle.dom_mutation.proofs.ReadyCalls.{plan-done}
use Rattle.dom_mutation.proofs.ReadyPlans.{ready-splitting}
use Rattle.dom_mutation.proofs.splitting.split.Goals.{In_ok-new}
use Rattle.dom_mutation.proofs.splitting.split.Goals as goal

-- the new Text
new_text : (c : In_ok-new) → IsMade c.args.parts.now c.make_text.new.parts c.args.node c.in_ok-new.new
    (option_map (name_in c.args.parts.now) c.document-document.result) c.in_ok-tail.tail.items
new_text c =
    made_so c.in_ok-new.ensures.names c.in_ok-new.ensures.world c.in_ok-new.ensures.key c.requires.node_is_node
    (c.laws.ensures.alone c.args.node c.requires.node_is_node)

pub cut_tail-requires-clause-one_owner : goal.cut_tail-requires-clause-one_owner
cut_tail-requires-clause-one_owner c = new_owner (new_text (goal.at.cut_tail-requires-clause-one_owner c).In_ok-new)

pub cut_tail-requires-clause-unlinked : goal.cut_tail-requires-clause-unlinked
cut_tail-requires-clause-unlinked c =
    new_unlinked (new_text (goal.at.cut_tail-requires-clause-unlinked c).In_ok-new) c.laws-2.ensures.distinct c.laws-2.ensures.once

pub cut_tail-requires-clause-not_above : goal.cut_tail-requires-clause-not_above
cut_tail-requires-clause-not_above c =
    new_not_above (new_text (goal.at.cut_tail-requires-clause-not_above c).In_ok-new) c.laws-2.ensures.distinct c.laws-2.ensures.once

pub returns-in-Ok-clause-world : goal.returns-in-Ok-clause-world
returns-in-Ok-clause-world c =
    let units = ap (λ (s : DomString). length s) c.text.ensures in
    let left = c.saturating_sub-count.ensures in
    let counts : c.saturating_sub-count.result ≡ length
    (node_in (trees_in c.args.parts.now c.args.node) (name_in c.args.parts.now c.args.node)).text - c.args.offset =
    omega (arith, units, left) in
    split_whole (new_text (goal.at.returns-in-Ok-clause-world c).In_ok-new) c.laws-2.ensures.distinct c.laws-2.ensures.once c.args.offset counts
    c.document-document.ensures.value c.in_ok-tail.ensures c.in-Ok.ensures

pub cut_tail-requires-clause-bounds : goal.cut_tail-requires-clause-bounds
cut_tail-requires-clause-bounds c =
    bounds_added c.args.parts.now c.make_text.new.parts c.args.node (new_text (goal.at.cut_tail-requires-clause-bounds c).In_ok-new)
    (c.laws.ensures.parts _) (c.requires.ready _).bounds

pub returns-in-Ok-clause-ready : goal.returns-in-Ok-clause-ready
returns-in-Ok-clause-ready c =
    plan-done c.args.parts.now c.args.parts.now c.cut_tail.new.parts refl
    (record { alone = c.laws.ensures.alone; parts = c.laws.ensures.parts; stand = c.laws.ensures.stand }) c.args.node
    c.requires.node_is_node (λ a. splitting (name_in a c.args.node) c.args.offset)
    (λ l i r. ready-splitting _ i r (name_in c.args.parts.now c.args.node) c.args.offset (l.stand c.args.node c.requires.node_is_node) c.requires.text)
    (returns-in-Ok-clause-world c)
    c.requires.ready
