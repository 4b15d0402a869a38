use Rattle.dom_range_ops.proofs.Cited.{◌≡◌, inl, Some, None, Err, sym, ap, ◌∙◌, subst, option_or, on_ok_weaker, Refused, NodeName, Refusal, limit_on}
use Rattle.dom_range_ops.proofs.Cited.{made_by_insert_node, range_at, insert_node_refusal, inserting_into_range, Range, part_of, IsPart, made, name_in}
use Rattle.dom_range_ops.proofs.Cited.{IsReadyPart, HasLaws, stands-in, ready-planned, KeepReady, ready-inserting_into_range, err_of, was_some, inserting_node}
use Rattle.dom_range_ops.proofs.Cited.{range_at_points}
use Rattle.dom_range_ops.proofs.DocRanges.{read-points, within-at}
use Rattle.dom_range_ops.proofs.InsertedRanges.{range-there}
use Rattle.dom_range_ops.proofs.InsertedTests.{steps-at, tests-at, refusal-at}
use Rattle.dom_range_ops.proofs.inserting.insert_node.Goals.{After-check, After-laws, After-range_points-points}
use Rattle.dom_range_ops.proofs.inserting.insert_node.Goals as goal

-- the range of the number has the points that were read
found : (c : After-range_points-points) →
    range_at (part_of c.args.doc.now.world c.args.owner) c.args.number ≡ Some (range_at_points c.args.doc.now.names c.range_points-points.result)
found c =
    let p = part_of c.args.doc.now.world c.args.owner in
    let some = was_some (range_at p c.args.number) c.requires.there in
    some.1 ∙ ap Some (read-points p c.args.number some.1 c.range_points-points.ensures.value.0)

-- the tests answer what the node is refused as
tested : (c : After-check) → insert_node_refusal (part_of c.args.doc.now.world c.args.owner).trees
    (range_at_points c.args.doc.now.names c.range_points-points.result) (name_in c.args.doc.now c.args.node) ≡ err_of c.check.result
tested c =
    let d = c.args.doc.now in
    sym (c.check.ensures ∙ ap (λ w. insert_node_refusal (part_of d.world w).trees (range_at_points d.names c.range_points-points.result)
    (name_in d c.args.node)) c.range_points-points.ensures.own_start)

pub returns-in-Err-clause-tested : goal.returns-in-Err-clause-tested
returns-in-Err-clause-tested c q e =
    let k = goal.at.returns-in-Err-clause-tested c in
    let d = c.args.doc.now in
    let same : Some c.in-Err.refusal ≡ Some q = sym (tested k.After-check ∙ ap err_of c.in-Err.is) ∙
    (sym (tests-at c.args.owner d.world c.args.number _ (name_in d c.args.node) (found k.After-range_points-points)) ∙ e) in
    let is : c.in-Err.refusal ≡ q = cc in
    ap (λ (a : Refusal). Err (Refused a)) is

pub returns-in-Err-clause-stopped : goal.returns-in-Err-clause-stopped
returns-in-Err-clause-stopped c q e =
    let k = goal.at.returns-in-Err-clause-stopped c in
    let d = c.args.doc.now in
    let p = part_of d.world c.args.owner in
    let limit = limit_on p.node_count (made_by_insert_node p (range_at_points d.names c.range_points-points.result)) in
    let same : Some c.in-Err.refusal ≡ Some q = sym (ap (λ a. option_or a limit) (tested k.After-check ∙ ap err_of c.in-Err.is)) ∙
    (sym (refusal-at c.args.owner d.world c.args.number _ (name_in d c.args.node) (found k.After-range_points-points)) ∙ e) in
    let is : c.in-Err.refusal ≡ q = cc in
    inl (ap (λ (a : Refusal). Err (Refused a)) is)

pub insert_tested-requires-clause-within : goal.insert_tested-requires-clause-within
insert_tested-requires-clause-within c =
    (within-at (part_of c.args.doc.now.world c.args.owner) c.args.number _ (c.laws.ensures.ready c.args.owner).bounds
    (found (goal.at.insert_tested-requires-clause-within c).After-range_points-points)).0

pub returns-clause-world : goal.returns-clause-world
returns-clause-world c =
    let d = c.args.doc.now in
    let r = range_at_points d.names c.range_points-points.result in
    let x = name_in d c.args.node in
    let more : c.insert_tested.new.doc.world ≡ made c.args.owner (inserting_into_range c.args.number r x) d.world →
    c.insert_tested.new.doc.world ≡ made c.args.owner (inserting_node c.args.number x) d.world =
    λ h. h ∙ steps-at c.args.owner d.world c.args.number r x (found (goal.at.returns-clause-world c).After-range_points-points) in
    on_ok_weaker c.insert_tested.result more c.insert_tested.ensures.world

pub returns-clause-stopped : goal.returns-clause-stopped
returns-clause-stopped c q e =
    let k = goal.at.returns-clause-stopped c in
    let d = c.args.doc.now in
    let p = part_of d.world c.args.owner in
    let limit = limit_on p.node_count (made_by_insert_node p (range_at_points d.names c.range_points-points.result)) in
    c.insert_tested.ensures.stopped q (sym (ap (λ a. option_or a limit) (tested k.After-check ∙ ap err_of c.in_default.is)) ∙
    (sym (refusal-at c.args.owner d.world c.args.number _ (name_in d c.args.node) (found k.After-range_points-points)) ∙ e))

-- what the state has by the laws
abbrev laws : (c : After-laws) → HasLaws c.args.doc.now
laws c = record { alone = c.laws.ensures.alone; parts = c.laws.ensures.parts; stand = c.laws.ensures.stand }

-- the steps keep the owner's part ready, where the tests let the node pass
keeps : (c : After-check) → HasLaws c.args.doc.now →
    range_at (part_of c.args.doc.now.world c.args.owner) c.args.number ≡ Some (range_at_points c.args.doc.now.names c.range_points-points.result) →
    err_of c.check.result ≡ None → IsPart (part_of c.args.doc.now.world c.args.owner) → IsReadyPart (part_of c.args.doc.now.world c.args.owner) →
    KeepReady (part_of c.args.doc.now.world c.args.owner)
    (inserting_node c.args.number (name_in c.args.doc.now c.args.node) (part_of c.args.doc.now.world c.args.owner))
keeps c laws there none i h =
    let d = c.args.doc.now in
    let p = part_of d.world c.args.owner in
    let x = name_in d c.args.node in
    ready-inserting_into_range p i h c.args.number x (stands-in d c.args.node c.args.owner laws c.requires.node_is_node c.requires.own)
    (λ q e. let both = sym there ∙ e in
    let same : range_at_points d.names c.range_points-points.result ≡ q = cc in
    subst (λ (a : Range NodeName). insert_node_refusal p.trees a x ≡ None) same (tested c ∙ none))

pub returns-clause-there : goal.returns-clause-there
returns-clause-there c =
    let k = goal.at.returns-clause-there c in
    let e = c.range_points-points.ensures in
    on_ok_weaker c.insert_tested.result
    (λ w. range-there c.args.doc.now c.range_points-points.result.start.0 c.args.owner (inserting_node c.args.number (name_in c.args.doc.now c.args.node))
    c.insert_tested.new.doc.world (laws k.After-laws) e.start_is_node e.own_start w
    (keeps k.After-check (laws k.After-laws) (found k.After-range_points-points) (ap err_of c.in_default.is)
    (c.laws.ensures.parts c.args.owner) (c.laws.ensures.ready c.args.owner)) c.args.number c.requires.there) (returns-clause-world c)

pub insert_tested-requires-clause-ready : goal.insert_tested-requires-clause-ready
insert_tested-requires-clause-ready c =
    let k = goal.at.insert_tested-requires-clause-ready c in
    let e = c.range_points-points.ensures in
    let d = c.args.doc.now in
    let x = name_in d c.args.node in
    let there = found k.After-range_points-points in
    ready-planned d c.range_points-points.result.start.0 c.args.owner (inserting_node c.args.number x) _ (laws k.After-laws) e.start_is_node e.own_start
    (steps-at c.args.owner d.world c.args.number (range_at_points d.names c.range_points-points.result) x there) c.laws.ensures.ready
    (keeps k.After-check (laws k.After-laws) there (ap err_of c.in_default.is))
