-- The text of an owner's range is the same among all trees and among the owner's own.
use Rattle.dom_range_ops.proofs.Cited.{◌≡◌, inl, inr, ℕ, Bool, true, false, ◌&&◌, List, [], ◌∷◌, ◌++◌, refl, sym, ap, ◌∙◌, filter, slice_range, if◌then◌else◌}
use Rattle.dom_range_ops.proofs.Cited.{flat_map, flat_map-cons, NodeName, Owner, name_eq, is_before, Range, at, is_contained, cut_start, cut_end, range_text_of}
use Rattle.dom_range_ops.proofs.Cited.{text_part, Trees, Node, node_in, kind_of, is_text, inclusive_descendants, root_of, length_of, once_own, is_before-own}
use Rattle.dom_range_ops.proofs.Cited.{same_root-own, has_own, read_own, stays_own, AreOwned, trees_of_owner, Has-names, In, is_in-from, filter-same}
use Rattle.dom_range_ops.proofs.Cited.{name_eq-from, Has, Has-subtree, Has-above, above-from_below, text_among, contained_text, nodes_around}
use Rattle.dom_range_ops.proofs.OneTree.{HasOneTree, text-tree, root-above, root-path, root-root}

-- functions that agree at each member
pub flat-same : {B : Type 0} (f g : NodeName → List B) (xs : List NodeName) → ((y : NodeName) → In y xs → f y ≡ g y) → flat_map f xs ≡ flat_map g xs
flat-same f g [] h = refl
flat-same f g (x ∷ xs) h = flat_map-cons f x xs ∙
    (ap (λ ys. ys ++ flat_map f xs) (h x (inl refl)) ∙ (ap (λ ys. g x ++ ys) (flat-same f g xs (λ y i. h y (inr i))) ∙ sym (flat_map-cons g x xs)))

-- a filter leaves members
pub among-filtered : (p : NodeName → Bool) (xs : List NodeName) (y : NodeName) → In y (filter p xs) → In y xs
among-filtered p [] y h = h
among-filtered p (x ∷ xs) y h = by (among-filtered p xs y) (p x) h
  where
    by : (In y (filter p xs) → In y xs) → (b : Bool) → In y (if b then x ∷ filter p xs else filter p xs) → In y (x ∷ xs)
    by rest true (inl e) = inl e
    by rest true (inr i) = inr (rest i)
    by rest false i = inr (rest i)

-- the nodes of a range's tree have its root
pub around-root : (ts : Trees) (r : Range NodeName) → HasOneTree ts r → (y : NodeName) → In y (nodes_around ts r) → Has ts y ×
    (root_of ts y ≡ root_of ts r.start.node)
around-root ts r ends y i =
    let top = root_of ts r.start.node in
    let up = Has-above ts top r.start.node ends.once ends.start (root-above ts r.start.node ends.start) in
    let inside = Has-names _ y i in
    let h = Has-subtree ts top y ends.once inside in
    (h, sym (root-path ts top y ends.once h (above-from_below ts top y ends.once up inside)) ∙ root-root ts r.start.node ends.once ends.start)

module _ (ts : Trees) (owned : AreOwned ts) (o : Owner) (r : Range NodeName) (ends : HasOneTree ts r) (start : r.start.node.owner ≡ o)
    (end : r.end.node.owner ≡ o) where
  abbrev own : Trees
  own = trees_of_owner o ts

  -- the part of a node
  part-own : (y : NodeName) → y.owner ≡ o → text_part ts r y ≡ text_part own r y
  part-own y e =
      let is = read_own ts owned o y e in
      ap (λ (n : Node). if is_text n.kind then slice_range n.text (cut_start r y) (cut_end ts r y) else []) is.node
      ∙ ap (λ k. if is_text (kind_of own y) then slice_range (node_in own y).text (cut_start r y)
      (if name_eq y r.end.node then r.end.offset else k) else []) is.size

  -- whether a node of the tree is behind the start
  pub behind-own : (y : NodeName) → Has ts y → root_of ts y ≡ root_of ts r.start.node → y.owner ≡ o →
      is_before ts r.start (at y 0) ≡ is_before own r.start (at y 0)
  behind-own y h root e =
      is_before-own ts owned ends.once o r.start (at y 0) (record { owner = start; there = ends.start }) (record { owner = e; there = h })
      (name_eq-from (root_of ts r.start.node) (root_of ts y) (sym root))

  -- and in front of the end
  pub in_front-own : (y : NodeName) → Has ts y → root_of ts y ≡ root_of ts r.start.node → y.owner ≡ o →
      is_before ts (at y (length_of ts y)) r.end ≡ is_before own (at y (length_of own y)) r.end
  in_front-own y h root e =
      is_before-own ts owned ends.once o (at y (length_of ts y)) r.end (record { owner = e; there = h })
      (record { owner = end; there = ends.end }) (ap (λ z. name_eq z (root_of ts r.end.node)) root ∙ ends.one_root)
      ∙ ap (λ k. is_before own (at y k) r.end) (read_own ts owned o y e).size

  -- so whether it is contained
  pub contained-own : (y : NodeName) → Has ts y → root_of ts y ≡ root_of ts r.start.node → y.owner ≡ o → is_contained ts r y ≡ is_contained own r y
  contained-own y h root e = ap (λ b. b && is_before ts (at y (length_of ts y)) r.end) (behind-own y h root e) ∙
      ap (λ b. is_before own r.start (at y 0) && b) (in_front-own y h root e)

  -- the nodes of the tree
  pub around-own : nodes_around ts r ≡ nodes_around own r
  around-own =
      let top = root_of ts r.start.node in
      (read_own ts owned o top (stays_own ts owned o r.start.node start).root).inside ∙
      ap (inclusive_descendants own) (read_own ts owned o r.start.node start).root

  -- are the owner's
  pub around-owner : (y : NodeName) → In y (nodes_around ts r) → y.owner ≡ o
  around-owner y i =
      let top = root_of ts r.start.node in
      (stays_own ts owned o top (stays_own ts owned o r.start.node start).root).inside y (is_in-from y _ i)

  -- the whole
  pub text-own : text_among ts r (nodes_around ts r) ≡ text_among own r (nodes_around own r)
  text-own =
      let xs = nodes_around ts r in
      let middle : contained_text ts r xs ≡ contained_text own r (nodes_around own r) =
      flat-same (text_part ts r) (text_part own r) (filter (is_contained ts r) xs)
      (λ y i. part-own y (around-owner y (among-filtered (is_contained ts r) xs y i)))
      ∙ (ap (flat_map (text_part own r))
      (filter-same (is_contained ts r) (is_contained own r) xs
      (λ y i. let w = around-root ts r ends y i in contained-own y w.0 w.1 (around-owner y i)))
      ∙ ap (contained_text own r) around-own) in
      ap (λ m. if m then text_part ts r r.start.node else text_part ts r r.start.node ++ contained_text ts r xs ++ text_part ts r r.end.node)
      (ap (λ (n : Node). name_eq r.start.node r.end.node && is_text n.kind) (read_own ts owned o r.start.node start).node)
      ∙ (ap (λ m. whole m (contained_text ts r xs) (text_part ts r r.end.node)) (part-own r.start.node start)
      ∙ (ap (λ m. whole (text_part own r r.start.node) m (text_part ts r r.end.node)) middle
      ∙ ap (whole (text_part own r r.start.node) (contained_text own r (nodes_around own r))) (part-own r.end.node end)))
    where
      whole : List ℕ → List ℕ → List ℕ → List ℕ
      whole a b c = if name_eq r.start.node r.end.node && is_text (kind_of own r.start.node) then a else a ++ b ++ c

  -- both ends are nodes of one tree there too
  pub ends-own : HasOneTree own r
  ends-own = record {
    once = once_own o ts ends.once;
    start = has_own o ts owned.owners r.start.node start ends.start;
    end = has_own o ts owned.owners r.end.node end ends.end;
    one_root = sym (same_root-own ts owned ends.once o r.start.node r.end.node (record { owner = start; there = ends.start })
        (record { owner = end; there = ends.end })) ∙ ends.one_root;
  }

  -- so it is the text of the range
  pub text-is : text_among ts r (nodes_around ts r) ≡ range_text_of own r
  text-is = text-own ∙ sym (text-tree own r ends-own)
