-- What is deleted of an owner's range is the same among all trees and among the owner's own.
use Rattle.dom_range_ops.proofs.Cited.{◌≡◌, ◌<◌, ℕ, suc, inl, inr, false, not, ◌&&◌, List, [], ◌∷◌, length, map, filter, Option, Some, None, refl, sym, ap}
use Rattle.dom_range_ops.proofs.Cited.{subst, ◌∙◌, ◌-◌, unwrap_or, if◌then◌else◌, AllByRecursion, option_map_or, cases_Bool, and_parts, cond-true, cond-false}
use Rattle.dom_range_ops.proofs.Cited.{NodeName, Owner, steps_of, is_in_one_data, new_place, behind_node, cut_start, name_eq, is_in, last_of, Boundary, Range}
use Rattle.dom_range_ops.proofs.Cited.{at, is_contained, cutting_data, outermost_contained, replacing_data, Trees, Node, has_data, kind_of, nodes, names_of}
use Rattle.dom_range_ops.proofs.Cited.{parent_of, index_of, root_of, inclusive_ancestors, length_of, has_owner, own_trees, read_own, stays_own, AreOwned}
use Rattle.dom_range_ops.proofs.Cited.{trees_of_owner, Has-names, In, In-right, is_in-from, filter-same, last_split, Has-above, above-parent, above-present}
use Rattle.dom_range_ops.proofs.Cited.{nodes_around}
use Rattle.dom_range_ops.proofs.OneTree.{HasOneTree, contained-root, filter-tree, root-above, root-path, root-root}
use Rattle.dom_range_ops.proofs.OwnTexts.{contained-own, around-own, around-owner, around-root, ends-own, among-filtered}
use Rattle.dom_range_ops.proofs.ContainedNodes.{is_outermost}

-- the outermost contained nodes are in the range's tree
pub outermost-tree : (ts : Trees) (r : Range NodeName) → HasOneTree ts r → outermost_contained ts r ≡ filter (is_outermost ts r) (nodes_around ts r)
outermost-tree ts r ends =
    filter-tree ts ends.once
    (Has-above ts (root_of ts r.start.node) r.start.node ends.once ends.start (root-above ts r.start.node ends.start))
    (root-root ts r.start.node ends.once ends.start)
    (λ y h t. contained-root ts r ends y h (and_parts (is_contained ts r y) _ t).0)

-- each of these keys is a node's, whose name has the owner
pub keys-own : (names : List NodeName) (name : ℕ → NodeName) (o : Owner) (ks : List ℕ) → AllByRecursion (λ k. k < length names) ks →
    ((x : NodeName) → In x (map name ks) → x.owner ≡ o) → AllByRecursion (λ k. (k < length names) × ((name k).owner ≡ o)) ks
keys-own names name o [] h own = tt
keys-own names name o (k ∷ ks) h own = ((h.0, own (name k) (inl refl)), keys-own names name o ks h.1 (λ x i. own x (inr i)))

module _ (ts : Trees) (owned : AreOwned ts) (o : Owner) (r : Range NodeName) (ends : HasOneTree ts r) (start : r.start.node.owner ≡ o)
    (end : r.end.node.owner ≡ o) where
  abbrev own : Trees
  own = trees_of_owner o ts

  -- the test of a node
  outermost-same : (y : NodeName) → In y (nodes_around ts r) → is_outermost ts r y ≡ is_outermost own r y
  outermost-same y i =
      let mine = around-owner ts owned o r ends start end y i in
      let w = around-root ts r ends y i in
      ap (λ b. b && not (option_map_or (is_contained ts r) (parent_of ts y) false)) (contained-own ts owned o r ends start end y w.0 w.1 mine)
      ∙ ap (λ b. is_contained own r y && not b)
      (by (parent_of ts y) refl ∙ ap (λ (m : Option NodeName). option_map_or (is_contained own r) m false) (read_own ts owned o y mine).parent)
    where
      by : (m : Option NodeName) → parent_of ts y ≡ m →
          option_map_or (is_contained ts r) (parent_of ts y) false ≡ option_map_or (is_contained own r) (parent_of ts y) false
      by None e = ap (λ (m : Option NodeName). option_map_or (is_contained ts r) m false) e ∙
          sym (ap (λ (m : Option NodeName). option_map_or (is_contained own r) m false) e)
      by (Some p) e =
          let mine = around-owner ts owned o r ends start end y i in
          let w = around-root ts r ends y i in
          let up = above-parent ts y p ends.once w.0 e in
          let above : In p (inclusive_ancestors ts y) = subst (In p) (sym up.0) (inr (subst (In p) (sym (above-present ts p up.1).1) (inl refl))) in
          let same = contained-own ts owned o r ends start end p up.1 (root-path ts p y ends.once w.0 above ∙ w.1) ((stays_own ts owned o y mine).parent p e) in
          ap (λ (m : Option NodeName). option_map_or (is_contained ts r) m false) e ∙
          (same ∙ sym (ap (λ (m : Option NodeName). option_map_or (is_contained own r) m false) e))

  -- so they are the same
  pub outermost-own : outermost_contained ts r ≡ outermost_contained own r
  outermost-own =
      outermost-tree ts r ends
      ∙ (filter-same (is_outermost ts r) (is_outermost own r) (nodes_around ts r) outermost-same
      ∙ (ap (filter (is_outermost own r)) (around-own ts owned o r ends start end) ∙ sym (outermost-tree own r (ends-own ts owned o r ends start end))))

  -- and the owner's
  pub outermost-owner : (x : NodeName) → In x (outermost_contained ts r) → x.owner ≡ o
  outermost-owner x i =
      let among = among-filtered (is_outermost own r) (names_of (nodes own)) x (subst (In x) outermost-own i) in
      has_owner o own (own_trees ts owned o).1 x (Has-names own x among)

  -- whether both ends are in one Text or Comment
  pub one-own : is_in_one_data ts r ≡ is_in_one_data own r
  one-own = ap (λ (n : Node). name_eq r.start.node r.end.node && has_data n.kind) (read_own ts owned o r.start.node start).node

  -- what is cut at a node
  pub cutting-own : (x : NodeName) → x.owner ≡ o → cutting_data ts r x ≡ cutting_data own r x
  cutting-own x mine =
      let is = read_own ts owned o x mine in
      ap (λ (n : Node). if has_data n.kind then replacing_data x (cut_start r x)
      ((if name_eq x r.end.node then r.end.offset else length_of ts x) - cut_start r x) [] else steps_of []) is.node
      ∙ ap (λ k. if has_data (kind_of own x) then replacing_data x (cut_start r x)
      ((if name_eq x r.end.node then r.end.offset else k) - cut_start r x) [] else steps_of []) is.size

  -- ---- where the range stands afterwards

  -- the outermost node above the start that is not above the end
  abbrev lowest : NodeName
  lowest = unwrap_or (last_of (filter (λ a. not (is_in name_eq a (inclusive_ancestors own r.end.node))) (inclusive_ancestors own r.start.node))) r.start.node

  lowest-owner : lowest.owner ≡ o
  lowest-owner = by (last_of passed) refl
    where
      passed : List NodeName
      passed = filter (λ a. not (is_in name_eq a (inclusive_ancestors own r.end.node))) (inclusive_ancestors own r.start.node)

      by : (m : Option NodeName) → last_of passed ≡ m → (unwrap_or (last_of passed) r.start.node).owner ≡ o
      by None e = ap (λ (m : Option NodeName). (unwrap_or m r.start.node).owner) e ∙ start
      by (Some z) e =
          let s = last_split passed z e in
          let i = among-filtered (λ a. not (is_in name_eq a (inclusive_ancestors own r.end.node))) (inclusive_ancestors own r.start.node) z
          (subst (In z) (sym s.1) (In-right z s.0 (z ∷ []) (inl refl))) in
          let above = is_in-from z (inclusive_ancestors ts r.start.node) (subst (In z) (sym (read_own ts owned o r.start.node start).path) i) in
          ap (λ (m : Option NodeName). (unwrap_or m r.start.node).owner) e ∙ (stays_own ts owned o r.start.node start).path z above

  -- the place is the same
  pub place-own : new_place ts r ≡ new_place own r
  place-own =
      ap (λ path. whole path (inclusive_ancestors ts r.start.node)) (read_own ts owned o r.end.node end).path
      ∙ (ap (λ path. whole (inclusive_ancestors own r.end.node) path) (read_own ts owned o r.start.node start).path
      ∙ ap (λ b. if is_in name_eq r.start.node (inclusive_ancestors own r.end.node) then r.start else b) behind)
    where
      whole : List NodeName → List NodeName → Boundary NodeName
      whole of_end of_start =
          if is_in name_eq r.start.node of_end then r.start else behind_node ts
          (unwrap_or (last_of (filter (λ a. not (is_in name_eq a of_end)) of_start)) r.start.node)

      behind : behind_node ts lowest ≡ behind_node own lowest
      behind =
          let is = read_own ts owned o lowest lowest-owner in
          ap (λ (m : Option NodeName). at (unwrap_or m lowest) (suc (index_of ts lowest))) is.parent ∙
          ap (λ n. at (unwrap_or (parent_of own lowest) lowest) (suc n)) is.index

  -- and its node is the owner's
  pub place-owner : (new_place own r).node.owner ≡ o
  place-owner = elim (cases_Bool (is_in name_eq r.start.node (inclusive_ancestors own r.end.node))) [
    | inl e ↦ ap (λ (b : Boundary NodeName). b.node.owner)
        (cond-true (is_in name_eq r.start.node (inclusive_ancestors own r.end.node)) r.start (behind_node own lowest) e) ∙ start
    | inr e ↦ ap (λ (b : Boundary NodeName). b.node.owner)
        (cond-false (is_in name_eq r.start.node (inclusive_ancestors own r.end.node)) r.start (behind_node own lowest) e) ∙
        by (parent_of ts lowest) refl
  ]
    where
      by : (m : Option NodeName) → parent_of ts lowest ≡ m → (unwrap_or (parent_of own lowest) lowest).owner ≡ o
      by None e = ap (λ (m : Option NodeName). (unwrap_or m lowest).owner) (sym (read_own ts owned o lowest lowest-owner).parent ∙ e) ∙ lowest-owner
      by (Some p) e = ap (λ (m : Option NodeName). (unwrap_or m lowest).owner) (sym (read_own ts owned o lowest lowest-owner).parent ∙ e) ∙
          (stays_own ts owned o lowest lowest-owner).parent p e
