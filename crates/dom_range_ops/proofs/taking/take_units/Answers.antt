use Rattle.dom_range_ops.proofs.Cited.{◌≡◌, ◌∷◌, [], List, refl, sym, ap, ◌∙◌, NodeName, owner-part_of, ◌and_then◌, clone_part, making_below, next_name}
use Rattle.dom_range_ops.proofs.Cited.{replacing_data, Node, kind_of, node_in, part_of, made, name_in, owner_in, trees_in, node_from}
use Rattle.dom_range_ops.proofs.TakingDocs.{name-kept, node-read, copy-read, units-made}
use Rattle.dom_range_ops.proofs.TakingParts.{data-no_shadow}
use Rattle.dom_range_ops.proofs.taking.take_units.Goals as goal

pub add_below-requires-clause-copy : goal.add_below-requires-clause-copy
add_below-requires-clause-copy c =
    let d = c.args.doc.now in
    let g = c.forest-forest.ensures in
    copy-read d _ _ c.args.cut.0 record { owned = g.owned; names = g.names; trees = g.trees _ } c.requires.node_owner
    c.in_ok-copy.ensures.kind (c.in_ok-copy.ensures.value (name_in d c.args.cut.0)) refl
    (data-no_shadow (kind_of (trees_in d c.args.top) (name_in d c.args.cut.0)) c.requires.units) c.in_ok-copy.ensures.document

pub returns-clause-world : goal.returns-clause-world
returns-clause-world c =
    let d = c.args.doc.now in
    let e = c.add_below.new.doc in
    let o = owner_in d c.args.top in
    let x = name_in d c.args.cut.0 in
    let y = next_name (part_of d.world o) in
    let n = node_from d.names y c.in_ok-copy.copy in
    let g = c.forest-forest.ensures in
    let part = clone_part y c.args.cut.1 c.args.cut.2 (node_in (trees_in d c.args.top) x) in
    let is : n ≡ part = ap (λ (ns : List NodeName). node_from ns y c.in_ok-copy.copy) (sym g.names) ∙ c.in_ok-copy.ensures.value y ∙
    ap (clone_part y c.args.cut.1 c.args.cut.2)
    (node-read d c.forest-forest.result.now o c.args.cut.0 record { owned = g.owned; names = g.names; trees = g.trees o } c.requires.node_owner) in
    units-made d e c.args.top c.args.cut.0 n (c.laws.ensures.alone c.args.top c.requires.top.node) c.requires.node_owner
    (name-kept d e (y ∷ []) c.args.cut.0 c.in_ok-add_below.ensures.names c.requires.node_is_node) c.in_ok-add_below.ensures.world
    (owner-part_of d.world o) c.args.cut.1 c.saturating_sub.result c.in_ok-delete_data.ensures.state
    ∙ ap (λ (m : Node). made o (making_below (name_in d c.args.top) m and_then replacing_data x c.args.cut.1 c.saturating_sub.result []) d.world) is
    ∙ ap (λ k. made o (making_below (name_in d c.args.top) part and_then replacing_data x c.args.cut.1 k []) d.world) c.saturating_sub.ensures
