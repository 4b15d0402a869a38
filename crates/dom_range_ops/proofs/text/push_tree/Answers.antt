use Rattle.dom_range_ops.proofs.Cited.{◌++◌, ℕ, List, Some, refl, sym, ap, ◌∙◌, append_assoc, append-nil, flat_map, flat_map-cons, option_map, NodeName}
use Rattle.dom_range_ops.proofs.Cited.{text_part, name_at, behind, from_node, range_at_points}
use Rattle.dom_slots.proofs.Walks.{from-top, stands-top, walks-on}
use Rattle.dom_range_ops.proofs.text.push_tree.Goals as goal

pub loop-at-init : goal.loop-at-init
loop-at-init c =
    let f = c.args.forest.now in
    let e = c.law_nodes_stand_once.ensures in
    record {
      stands = stands-top f e.once e.only c.args.top c.requires.node (Some c.args.top) refl;
      left = ap (λ xs. c.args.text.now.items ++ flat_map (text_part f.trees (range_at_points f.names c.args.points.now)) xs)
          (from-top f e.once e.only c.args.top c.requires.node);
    }

pub loop-at-smaller : goal.loop-at-smaller
loop-at-smaller c =
    let e = c.law_nodes_stand_once.ensures in
    (walks-on c.args.forest.now e.once e.only c.in-Some.is c.loop-at.invariant.stands c.following-at.ensures.value c.following-at.ensures.node).less

pub loop-at-preserved : goal.loop-at-preserved
loop-at-preserved c =
    let f = c.args.forest.now in
    let e = c.law_nodes_stand_once.ensures in
    let step = walks-on f e.once e.only c.in-Some.is c.loop-at.invariant.stands c.following-at.ensures.value c.following-at.ensures.node in
    let part : NodeName → List ℕ = text_part f.trees (range_at_points f.names c.args.points.now) in
    let top = name_at f.names c.args.top in
    let x = name_at f.names c.in-Some.key in
    let old = c.loop-at.text.items in
    record {
      stands = step.stands;
      left = ap (λ xs. c.extend_from_slice.new.self.items ++ flat_map part xs) (sym step.left)
          ∙ ap (λ us. us ++ flat_map part (behind f.trees top x)) (c.in_ok-extend_from_slice.ensures.items ∙ ap (λ us. old ++ us) c.text_part.ensures)
          ∙ append_assoc old (part x) (flat_map part (behind f.trees top x))
          ∙ ap (λ us. old ++ us) (sym (flat_map-cons part x (behind f.trees top x)))
          ∙ ap (λ o. old ++ flat_map part (from_node f.trees top (option_map (name_at f.names) o))) (sym c.in-Some.is)
          ∙ c.loop-at.invariant.left;
    }

pub returns : goal.returns
returns c =
    let f = c.args.forest.now in
    sym (append-nil c.loop-at.text.items)
    ∙ ap (λ o. c.loop-at.text.items ++ flat_map (text_part f.trees (range_at_points f.names c.args.points.now))
    (from_node f.trees (name_at f.names c.args.top) (option_map (name_at f.names) o))) (sym c.in_default.is)
    ∙ c.loop-at.invariant.left
