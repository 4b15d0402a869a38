use Rattle.dom_range_ops.proofs.Cited.{◌≡◌, List, refl, sym, ap, ◌∙◌, on_ok_weaker, NodeName, making_below, next_name, node_in, with_name, part_of, made}
use Rattle.dom_range_ops.proofs.Cited.{name_in, owner_in, trees_in, node_from}
use Rattle.dom_range_ops.proofs.TakingDocs.{node-read, copy-read}
use Rattle.dom_range_ops.proofs.taking.take_clone.Goals as goal

pub add_below-requires-clause-copy : goal.add_below-requires-clause-copy
add_below-requires-clause-copy c =
    let d = c.args.doc.now in
    let g = c.forest-forest.ensures in
    copy-read d _ _ c.args.node record { owned = g.owned; names = g.names; trees = g.trees _ } c.requires.node_owner
    c.in_ok-copy.ensures.kind (c.in_ok-copy.ensures.value (name_in d c.args.node)) refl c.requires.no_shadow c.in_ok-copy.ensures.document

pub returns-clause-world : goal.returns-clause-world
returns-clause-world c =
    let d = c.args.doc.now in
    let o = owner_in d c.args.top in
    let y = next_name (part_of d.world o) in
    let g = c.forest-forest.ensures in
    let is : node_from d.names y c.in_ok-copy.copy ≡ with_name y (node_in (trees_in d c.args.top) (name_in d c.args.node)) =
    ap (λ (ns : List NodeName). node_from ns y c.in_ok-copy.copy) (sym g.names) ∙ c.in_ok-copy.ensures.value y ∙ ap (with_name y)
    (node-read d c.forest-forest.result.now o c.args.node record { owned = g.owned; names = g.names; trees = g.trees o } c.requires.node_owner) in
    on_ok_weaker c.add_below.result (λ world. world ∙ ap (λ n. made o (making_below (name_in d c.args.top) n) d.world) is) c.add_below.ensures.world
