use Rattle.dom_range_ops.proofs.Cited.{◌≡◌, suc, false, List, [], ◌∷◌, ◌++◌, length, Option, Some, None, sym, ap, ◌∙◌, arith, append_assoc, length-append}
use Rattle.dom_range_ops.proofs.Cited.{unwrap_or, option_map_or, cond-false, NodeName, behind_node, name_eq, first_of, items_before, items_after, at, Trees}
use Rattle.dom_range_ops.proofs.Cited.{node_in, kind_of, has_data, children_of, parent_of, next_sibling, index_of, length_of, child-of_parent, first_split}
use Rattle.dom_range_ops.proofs.Cited.{no_first, split_at, Once, Has, name_at, Once-forest, Has-forest}
use Rattle.dom_range_ops.proofs.Parting.{index-kid}
use Rattle.dom_range_ops.proofs.ends.behind_node.Goals as goal

-- a node that has a parent
module _ (ts : Trees) (once : Once ts) (x p : NodeName) (h : Has ts x) (e : parent_of ts x ≡ Some p) where
  abbrev front : List NodeName
  front = items_before name_eq x (children_of ts p)

  abbrev back : List NodeName
  back = items_after name_eq x (children_of ts p)

  kids : children_of ts p ≡ front ++ x ∷ back
  kids = split_at x (children_of ts p) (child-of_parent ts x p once h e).1

  next : next_sibling ts x ≡ first_of back
  next = ap (λ (o : Option NodeName). first_of (items_after name_eq x (option_map_or (children_of ts) o (x ∷ [])))) e

  place : behind_node ts x ≡ at p (suc (length front))
  place = ap (λ (o : Option NodeName). at (unwrap_or o x) (suc (index_of ts x))) e ∙
      ap (λ n. at p (suc n)) (index-kid ts once p x (child-of_parent ts x p once h e).0 front back kids)

  -- a next sibling has the number
  place-next : (y : NodeName) → next_sibling ts x ≡ Some y → behind_node ts x ≡ at p (index_of ts y)
  place-next y f =
      let s = first_split back y (sym next ∙ f) in
      let whole : children_of ts p ≡ (front ++ x ∷ []) ++ y ∷ s.0 = kids ∙ (ap (λ xs. front ++ x ∷ xs) s.1 ∙ sym (append_assoc front (x ∷ []) (y ∷ s.0))) in
      let index = index-kid ts once p y (child-of_parent ts x p once h e).0 (front ++ x ∷ []) s.0 whole in
      let long = length-append front (x ∷ []) in
      place ∙ ap (at p) (omega (arith, index, long))

  -- without one it is the parent's length
  place-last : next_sibling ts x ≡ None → has_data (kind_of ts p) ≡ false → behind_node ts x ≡ at p (length_of ts p)
  place-last f k =
      let whole : children_of ts p ≡ front ++ x ∷ [] = kids ∙ ap (λ xs. front ++ x ∷ xs) (no_first back (sym next ∙ f)) in
      let size = cond-false (has_data (kind_of ts p)) (length (node_in ts p).text) (length (children_of ts p)) k in
      let long = ap (length {A = NodeName}) whole ∙ length-append front (x ∷ []) in
      place ∙ ap (at p) (omega (arith, size, long))

pub returns-in-Some-next-clause-value : goal.returns-in-Some-next-clause-value
returns-in-Some-next-clause-value c =
    let f = c.args.forest.now in
    let e = c.law_nodes_stand_once.ensures in
    ap (at (name_at f.names c.in-Some.parent)) c.index.ensures
    ∙ sym (place-next f.trees (Once-forest f e.once e.only) (name_at f.names c.args.key) (name_at f.names c.in-Some.parent)
    (Has-forest f e.once c.args.key c.requires.node) (sym c.in-Some.ensures.value) (name_at f.names c.in-Some-next.next)
    (sym c.in-Some-next.ensures.value))

pub returns-in-None-clause-value : goal.returns-in-None-clause-value
returns-in-None-clause-value c =
    let f = c.args.forest.now in
    let e = c.law_nodes_stand_once.ensures in
    let up = sym c.in-Some.ensures.value in
    ap (at (name_at f.names c.in-Some.parent)) c.length.ensures
    ∙ sym (place-last f.trees (Once-forest f e.once e.only) (name_at f.names c.args.key) (name_at f.names c.in-Some.parent)
    (Has-forest f e.once c.args.key c.requires.node) up (sym c.in-None.ensures.value)
    (c.requires.below_no_data (name_at f.names c.in-Some.parent) up))
