use Rattle.dom_ranges.proofs.Cited.{◌≡◌, ◌++◌, ◌∷◌, [], refl, sym, ap, ◌∙◌, arith, true≢false, Some, eqb-true, eq-eqb, append_assoc, index_of, name_at, path_at}
use Rattle.dom_ranges.proofs.Climbing.{AreSiblings, depth-up, depth-root, path-up, first-through, roots-same, beside-here}
use Rattle.dom_ranges.proofs.order.part.Goals as goal

pub returns-in_default-clause-beside : goal.returns-in_default-clause-beside
returns-in_default-clause-beside c =
    let f = c.args.forest.now in
    let here = depth-root f c.law_nodes_stand_once.ensures.once c.law_nodes_stand_once.ensures.only c.up.low c.up.invariant.low_is_node
    c.in_default.ensures.value in
    absurd (c.up.invariant.apart (roots-same f c.law_nodes_stand_once.ensures.once c.law_nodes_stand_once.ensures.only c.law_nodes_stand_once.ensures.distinct
    c.up.invariant.low_is_node c.up.invariant.other_is_node here (sym c.up.invariant.level ∙ here) c.up.invariant.one_tree))

pub returns-in_default-parent-clause-beside : goal.returns-in_default-parent-clause-beside
returns-in_default-parent-clause-beside c =
    let f = c.args.forest.now in
    let here = depth-root f c.law_nodes_stand_once.ensures.once c.law_nodes_stand_once.ensures.only c.up.other c.up.invariant.other_is_node
    c.in_default-parent.ensures.value in
    absurd (c.up.invariant.apart (roots-same f c.law_nodes_stand_once.ensures.once c.law_nodes_stand_once.ensures.only c.law_nodes_stand_once.ensures.distinct
    c.up.invariant.low_is_node c.up.invariant.other_is_node (c.up.invariant.level ∙ here) here c.up.invariant.one_tree))

pub returns-then-eq-clause-beside : goal.returns-then-eq-clause-beside
returns-then-eq-clause-beside c =
    let f = c.args.forest.now in
    let same : c.in-Some.above ≡ c.in-Some-parent.beside = eqb-true c.in-Some.above c.in-Some-parent.beside (sym c.if-eq.ensures) in
    let siblings : AreSiblings f c.up.low c.up.other =
    (record {
      above = c.in-Some.above;
      low_is_node = c.up.invariant.low_is_node;
      other_is_node = c.up.invariant.other_is_node;
      apart = c.up.invariant.apart;
      low_parent = c.in-Some.ensures.value;
      other_parent = ap (λ k. Some (name_at f.names k)) same ∙ c.in-Some-parent.ensures.value;
    }) in
    beside-here f c.law_nodes_stand_once.ensures.once c.law_nodes_stand_once.ensures.only c.law_nodes_stand_once.ensures.distinct c.args.first c.args.second
    siblings c.up.invariant.first_path c.up.invariant.second_path

pub up-smaller : goal.up-smaller
up-smaller c =
    let up = depth-up c.args.forest.now c.law_nodes_stand_once.ensures.once c.law_nodes_stand_once.ensures.only c.up.low c.in-Some.above
    c.up.invariant.low_is_node c.in-Some.ensures.value in
    omega (arith, up)

pub up-preserved : goal.up-preserved
up-preserved c =
    let f = c.args.forest.now in
    let once = c.law_nodes_stand_once.ensures.once in
    let only = c.law_nodes_stand_once.ensures.only in
    let up = depth-up f once only c.up.low c.in-Some.above c.up.invariant.low_is_node c.in-Some.ensures.value in
    let over = depth-up f once only c.up.other c.in-Some-parent.beside c.up.invariant.other_is_node c.in-Some-parent.ensures.value in
    let low_path = path-up f once only c.up.low c.in-Some.above c.up.invariant.low_is_node c.in-Some.ensures.value in
    let other_path = path-up f once only c.up.other c.in-Some-parent.beside c.up.invariant.other_is_node c.in-Some-parent.ensures.value in
    let above_is_node = c.in-Some.ensures.node c.in-Some.above refl in
    let beside_is_node = c.in-Some-parent.ensures.node c.in-Some-parent.beside refl in
    let i = index_of f.trees (name_at f.names c.up.low) in
    let j = index_of f.trees (name_at f.names c.up.other) in
    let xs = c.up.invariant.first_path.0 in
    let ys = c.up.invariant.second_path.0 in
    record {
      low_is_node = above_is_node;
      other_is_node = beside_is_node;
      apart = λ e. true≢false (sym (eq-eqb c.in-Some.above c.in-Some-parent.beside e) ∙ sym c.if-eq.ensures);
      level = omega (arith, up, over, c.up.invariant.level);
      one_tree =
          sym (first-through f once only c.up.low c.in-Some.above (i ∷ []) above_is_node low_path)
          ∙ (c.up.invariant.one_tree ∙ first-through f once only c.up.other c.in-Some-parent.beside (j ∷ []) beside_is_node other_path);
      first_path = (i ∷ xs, c.up.invariant.first_path.1 ∙ (ap (λ path. path ++ xs) low_path ∙ append_assoc (path_at f c.in-Some.above) (i ∷ []) xs));
      second_path = (
        j ∷ ys,
        c.up.invariant.second_path.1 ∙
            (ap (λ path. path ++ ys) other_path ∙ append_assoc (path_at f c.in-Some-parent.beside) (j ∷ []) ys),
      );
    }
