use Rattle.dom_range_ops.proofs.Cited.{◌≡◌, suc, true, map, Some, None, refl, sym, subst, ap, ◌∙◌, on_ok_weaker, Owner, Limit, past_limit, plan_of_range}
use Rattle.dom_range_ops.proofs.Cited.{extracting, at, part_of, is_there, name_in, ready-planned, ready-extracting, item_in}
use Rattle.dom_range_ops.proofs.ExtractedRanges.{RangePieces, own-may_take, names-own, world-own, limit-refused, limit-kept}
use Rattle.dom_range_ops.proofs.InsertedRanges.{range-there}
use Rattle.dom_range_ops.proofs.extracting.extract.Goals.{After-as_slice-pieces}
use Rattle.dom_range_ops.proofs.extracting.extract.Goals as goal

-- the pieces that were found
abbrev found : After-as_slice-pieces → RangePieces
found c = record {
  doc = c.args.doc.now;
  owner = c.args.owner;
  number = c.args.number;
  points = c.live_points-points.result;
  here = c.live_points-points.ensures;
  pieces = c.as_slice-pieces.result.now;
  value = ap (map (item_in c.args.doc.now.names)) c.as_slice-pieces.ensures.value ∙ c.in_ok-found.ensures.value;
}

pub is_past_limit-requires : goal.is_past_limit-requires
is_past_limit-requires c =
    let here = c.live_points-points.ensures in
    subst (λ (o : Owner). is_there c.args.doc.now.world o ≡ true) here.owner (c.laws.ensures.present _ here.range.start)

pub extract_pieces-requires-clause-place_owner : goal.extract_pieces-requires-clause-place_owner
extract_pieces-requires-clause-place_owner c = c.in_ok-place.ensures.owner ∙ c.live_points-points.ensures.owner

pub extract_pieces-requires-clause-may_take : goal.extract_pieces-requires-clause-may_take
extract_pieces-requires-clause-may_take c =
    let d = c.args.doc.now in
    own-may_take (found (goal.at.extract_pieces-requires-clause-may_take c).After-as_slice-pieces) (c.laws.ensures.parts c.args.owner)
    (c.laws.ensures.ready c.args.owner).bounds (c.laws.ensures.ready c.args.owner).roots
    (ap (λ n. past_limit (part_of d.world c.args.owner).node_count (suc n)) (sym (c.count_made.ensures d.names)) ∙ sym c.is_past_limit.ensures ∙
    c.if-is_past_limit.false)

pub extract_pieces-requires-clause-ready : goal.extract_pieces-requires-clause-ready
extract_pieces-requires-clause-ready c =
    let here = c.live_points-points.ensures in
    let n = c.args.number in
    let place = c.in_ok-place.place in
    let w = world-own (found (goal.at.extract_pieces-requires-clause-ready c).After-as_slice-pieces) (at (name_in c.args.doc.now place.0) place.1)
    c.in_ok-place.ensures.value _ refl in
    ready-planned c.args.doc.now c.live_points-points.result.start.0 c.args.owner (λ p. plan_of_range p n (extracting n)) _
    (record { alone = c.laws.ensures.alone; parts = c.laws.ensures.parts; stand = c.laws.ensures.stand }) here.range.start here.owner w
    c.laws.ensures.ready (λ i r. ready-extracting _ i r n)

pub returns-clause-names : goal.returns-clause-names
returns-clause-names c =
    on_ok_weaker c.extract_pieces.result (names-own (found (goal.at.returns-clause-names c).After-as_slice-pieces) c.extract_pieces.new.doc.names)
    c.extract_pieces.ensures.names

pub returns-clause-world : goal.returns-clause-world
returns-clause-world c =
    let place = c.in_ok-place.place in
    on_ok_weaker c.extract_pieces.result
    (world-own (found (goal.at.returns-clause-world c).After-as_slice-pieces) (at (name_in c.args.doc.now place.0) place.1) c.in_ok-place.ensures.value
    c.extract_pieces.new.doc.world) c.extract_pieces.ensures.world

pub returns-then-is_past_limit-clause-refused : goal.returns-then-is_past_limit-clause-refused
returns-then-is_past_limit-clause-refused c r is =
    limit-refused (found (goal.at.returns-then-is_past_limit-clause-refused c).After-as_slice-pieces) c.count_made.result
    (c.count_made.ensures c.args.doc.now.names) (sym c.is_past_limit.ensures ∙ c.if-is_past_limit.true) ∙
    ap Some (let same : Limit ≡ r = cc in same)

pub returns-clause-stopped : goal.returns-clause-stopped
returns-clause-stopped c r is =
    let none = limit-kept (found (goal.at.returns-clause-stopped c).After-as_slice-pieces) c.count_made.result (c.count_made.ensures c.args.doc.now.names)
    (sym c.is_past_limit.ensures ∙ c.if-is_past_limit.false) in
    let no : None ≡ Some r = sym none ∙ is in
    absurd cc

pub returns-clause-there : goal.returns-clause-there
returns-clause-there c =
    let here = c.live_points-points.ensures in
    let n = c.args.number in
    on_ok_weaker c.extract_pieces.result
    (λ w. range-there c.args.doc.now c.live_points-points.result.start.0 c.args.owner (λ p. plan_of_range p n (extracting n)) c.extract_pieces.new.doc.world
    (record { alone = c.laws.ensures.alone; parts = c.laws.ensures.parts; stand = c.laws.ensures.stand }) here.range.start here.owner w
    (ready-extracting _ (c.laws.ensures.parts c.args.owner) (c.laws.ensures.ready c.args.owner) n) n c.requires.there) (returns-clause-world c)
