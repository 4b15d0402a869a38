use Rattle.dom_range_ops.proofs.Cited.{◌≡◌, ◌∷◌, [], List, true, Some, if◌then◌else◌, ◌&&◌, ◌==◌, refl, sym, ap, subst, ◌∙◌, option_map_or, cond-true, eq-eqb}
use Rattle.dom_range_ops.proofs.Cited.{eqb-true, NodeName, name_eq-same, name_eq, range_at, ending_at, Range, at, from_to, is_collapsed, Step, set_range}
use Rattle.dom_range_ops.proofs.Cited.{part_of, world_after, name_in, AreReady, stands-then, was_some, range_at_points}
use Rattle.dom_range_ops.proofs.DocRanges.{read-points}
use Rattle.dom_range_ops.proofs.inserting.end_at.Goals as goal

pub range_put-requires-clause-may_stand : goal.range_put-requires-clause-may_stand
range_put-requires-clause-may_stand c =
    let d = c.args.doc.now in
    let o = c.args.owner in
    let p = part_of d.world o in
    let n = c.args.number in
    let points = c.range_points-points.result in
    let r = range_at_points d.names points in
    let some = was_some (range_at p n) c.requires.there in
    let there : range_at p n ≡ Some r = some.1 ∙ ap Some (read-points p n some.1 c.range_points-points.ensures.value.0) in
    let end = at (name_in d c.args.node) c.args.offset in
    let put = from_to r.start end in
    let node : points.start.0 ≡ points.end.0 = eqb-true points.start.0 points.end.0 (sym c.eq.ensures ∙ c.if-eq.true) in
    let start : r.start ≡ r.end = ap (λ k. at (name_in d k) points.start.1) node ∙ ap (at (name_in d points.end.0)) c.if-from-to.true in
    let collapsed : is_collapsed name_eq r ≡ true =
    ap (λ b. is_collapsed name_eq (from_to b r.end)) start
    ∙ ap (λ t. t && (points.end.1 == points.end.1)) (name_eq-same r.end.node) ∙ eq-eqb points.end.1 points.end.1 refl in
    let steps : ending_at n end p ≡ set_range n put ∷ [] =
    ap (λ m. option_map_or (λ (q : Range NodeName). if is_collapsed name_eq q then set_range n (from_to q.start end) ∷ [] else []) m []) there
    ∙ cond-true (is_collapsed name_eq r) (set_range n put ∷ []) [] collapsed in
    stands-then d o n put c.requires.there (subst (λ (s : List Step). AreReady (world_after o d.world s)) steps c.requires.ready)
