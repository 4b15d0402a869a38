use Rattle.dom_range_ops.proofs.Cited.{◌≡◌, Some, sym, ap, subst, ◌∙◌, [], IsTrue, NodeName, range_at, kind_of, has_data, children_of, part_of, EndsIn, HasEnds}
use Rattle.dom_range_ops.proofs.Cited.{ends-at, was_some, bare, bare-tables, range_at_points}
use Rattle.dom_worlds.specs.Definitions.{IsWithin}
use Rattle.dom_range_ops.proofs.DocRanges.{read-points, within-at}
use Rattle.dom_range_ops.proofs.ends.live_points.Goals as goal

pub returns : goal.returns
returns c =
    let d = c.args.doc.now in
    let k = c.range_points.ensures in
    let p = part_of d.world c.args.owner in
    let ready = c.laws.ensures.ready c.args.owner in
    let r = range_at_points d.names c.range_points.result in
    let found = was_some (range_at p c.args.number) c.requires.there in
    let there : range_at p c.args.number ≡ Some r = found.1 ∙ ap Some (read-points p c.args.number found.1 k.value.0) in
    record {
      there = there;
      owner = k.own_start;
      range = record {
        start = k.start_is_node;
        end = k.end_is_node;
        owner = k.own_end ∙ sym k.own_start;
        ends = subst (λ q. HasEnds (part_of d.world q).trees r) (sym k.own_start)
            (subst (EndsIn p.trees) there (ends-at (bare p) c.args.number (bare-tables p ready.ends)));
        within = subst (λ q. IsWithin (part_of d.world q).trees r.end) (sym k.own_start) (within-at p c.args.number r ready.bounds there).1;
        leaves = subst (λ q. (x : NodeName) → IsTrue (has_data (kind_of (part_of d.world q).trees x)) → children_of (part_of d.world q).trees x ≡ [])
            (sym k.own_start) ready.bounds.leaves;
      };
    }
