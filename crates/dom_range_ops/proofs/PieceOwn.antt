-- The pieces of an owner's range are the same among all trees and among the owner's own.
use Rattle.dom_range_ops.proofs.Cited.{◌≡◌, inl, inr, ℕ, Bool, true, false, not, ◌&&◌, List, [], ◌∷◌, refl, sym, ap, subst, ◌∙◌, filter, find, unwrap_or}
use Rattle.dom_range_ops.proofs.Cited.{if◌then◌else◌, cases_Bool, NodeName, Owner, Pieces, whole, cut, clone, pieces_along, pieces_behind, pieces_in_front}
use Rattle.dom_range_ops.proofs.Cited.{tree_holding, all_whole, ◌followed_by◌, common_ancestor, is_in_one_data, pieces_apart, pieces_of, name_eq, is_in}
use Rattle.dom_range_ops.proofs.Cited.{is_before, Range, at, is_collapsed, is_contained, Trees, none, tree, Node, names_of, roots, has_data}
use Rattle.dom_range_ops.proofs.Cited.{inclusive_ancestors, is_inclusive_ancestor, inclusive_descendants, length_of, root_of, subtree, trees_below, nothing}
use Rattle.dom_range_ops.proofs.Cited.{read_own, stays_own, AreOwned, trees_of_owner, In-names, Has-root, In, filter-same, is_in-from, Has, Has-subtree}
use Rattle.dom_range_ops.proofs.Cited.{Has-above, above-present, above-from_below, subtree-present}
use Rattle.dom_range_ops.proofs.OneTree.{HasOneTree, root-path}
use Rattle.dom_range_ops.proofs.OwnTexts.{behind-own, in_front-own, contained-own}

-- what is found is a member
found-in : (p : NodeName → Bool) (d : NodeName) (xs all : List NodeName) → ((x : NodeName) → In x xs → In x all) → In d all → In (unwrap_or (find p xs) d) all
found-in p d [] all among i = i
found-in p d (x ∷ xs) all among i = elim (cases_Bool (p x)) [
  | inl e ↦ rw e (among x (inl refl))
  | inr e ↦ rw e (found-in p d xs all (λ y j. among y (inr j)) i)
]

-- a node of the tree that holds one node alone is one of the trees
holding-in : (ts : Trees) (x other : NodeName) (d : Trees) (y : NodeName) → Has (tree_holding ts x other d) y → Has d y
holding-in ts x other none y h = h
holding-in ts x other (tree n c rest) y h =
    by (holding-in ts x other rest y) (is_inclusive_ancestor ts n.name x && not (is_inclusive_ancestor ts n.name other)) h
  where
    by : (Has (tree_holding ts x other rest) y → Has rest y) → (b : Bool) → Has (if b then tree n c none else tree_holding ts x other rest) y →
        Has (tree n c rest) y
    by others true (inl e) = inl e
    by others true (inr (inl i)) = inr (inl i)
    by others true (inr (inr i)) = absurd i
    by others false i = inr (inr (others i))

module _ (ts : Trees) (owned : AreOwned ts) (o : Owner) (r : Range NodeName) (ends : HasOneTree ts r) (start : r.start.node.owner ≡ o)
    (end : r.end.node.owner ≡ o) where
  abbrev own : Trees
  own = trees_of_owner o ts

  -- who is above the ends
  starts-own : (x : NodeName) → is_inclusive_ancestor ts x r.start.node ≡ is_inclusive_ancestor own x r.start.node
  starts-own x = ap (is_in name_eq x) (read_own ts owned o r.start.node start).path

  ends-own : (x : NodeName) → is_inclusive_ancestor ts x r.end.node ≡ is_inclusive_ancestor own x r.end.node
  ends-own x = ap (is_in name_eq x) (read_own ts owned o r.end.node end).path

  -- a node of the owner in the range's tree
  record IsNear (x : NodeName) : Type 0 where
    there : Has ts x
    root : root_of ts x ≡ root_of ts r.start.node
    owner : x.owner ≡ o

  -- pieces along the path to a node, where the same nodes are above it and pass the test
  along-own : (x : NodeName) → ((y : NodeName) → is_inclusive_ancestor ts y x ≡ is_inclusive_ancestor own y x) →
      {p q : NodeName → Bool} (from to : ℕ) (d : Trees) → ((y : NodeName) → Has d y → p y ≡ q y) →
      pieces_along ts x p from to d ≡ pieces_along own x q from to d
  along-own x above from to none same = refl
  along-own x above {p} {q} from to (tree n c rest) same =
      let pieces = λ (over passes : Bool) (inside others : Pieces).
      (if over then (if has_data n.kind then cut n.name from to others else clone n.name inside others) else
      (if passes then whole n.name others else others)) in
      let over = is_inclusive_ancestor own n.name x in
      let inside = pieces_along ts x p from to c in
      let others = pieces_along ts x p from to rest in
      ap (λ b. pieces b (p n.name) inside others) (above n.name)
      ∙ (ap (λ b. pieces over b inside others) (same n.name (inl refl))
      ∙ (ap (λ i. pieces over (q n.name) i others) (along-own x above from to c (λ y h. same y (inr (inl h))))
      ∙ ap (pieces over (q n.name) (pieces_along own x q from to c)) (along-own x above from to rest (λ y h. same y (inr (inr h))))))

  -- what is behind the start in trees of such nodes
  start-own : (d : Trees) → ((x : NodeName) → Has d x → IsNear x) → pieces_behind ts r.start d ≡ pieces_behind own r.start d
  start-own d near =
      let q = λ (x : NodeName). is_before own r.start (at x 0) in
      along-own r.start.node starts-own r.start.offset (length_of ts r.start.node) d
      (λ y h. let w = near y h in behind-own ts owned o r ends start end y w.there w.root w.owner)
      ∙ ap (λ k. pieces_along own r.start.node q r.start.offset k d) (read_own ts owned o r.start.node start).size

  -- and in front of the end
  end-own : (d : Trees) → ((x : NodeName) → Has d x → IsNear x) → pieces_in_front ts r.end d ≡ pieces_in_front own r.end d
  end-own d near =
      along-own r.end.node ends-own 0 r.end.offset d
      (λ y h. let w = near y h in in_front-own ts owned o r ends start end y w.there w.root w.owner)

  -- the tree that holds one end alone
  holding-own : (x other : NodeName) → ((y : NodeName) → is_inclusive_ancestor ts y x ≡ is_inclusive_ancestor own y x) →
      ((y : NodeName) → is_inclusive_ancestor ts y other ≡ is_inclusive_ancestor own y other) → (d : Trees)
      → tree_holding ts x other d ≡ tree_holding own x other d
  holding-own x other above apart none = refl
  holding-own x other above apart (tree n c rest) =
      let held = λ (a b : Bool) (others : Trees). (if a && not b then tree n c none else others) in
      ap (λ a. held a (is_inclusive_ancestor ts n.name other) (tree_holding ts x other rest)) (above n.name)
      ∙ (ap (λ b. held (is_inclusive_ancestor own n.name x) b (tree_holding ts x other rest)) (apart n.name)
      ∙ ap (held (is_inclusive_ancestor own n.name x) (is_inclusive_ancestor own n.name other)) (holding-own x other above apart rest))

  -- the lowest common inclusive ancestor
  common-own : common_ancestor ts r ≡ common_ancestor own r
  common-own =
      test-same (λ a. is_inclusive_ancestor ts a r.end.node) (λ a. is_inclusive_ancestor own a r.end.node) ends-own (inclusive_ancestors ts r.start.node)
      ∙ ap (λ xs. unwrap_or (find (λ a. is_inclusive_ancestor own a r.end.node) xs) r.start.node) (read_own ts owned o r.start.node start).path
    where
      test-same : (p q : NodeName → Bool) → ((x : NodeName) → p x ≡ q x) → (xs : List NodeName) →
          unwrap_or (find p xs) r.start.node ≡ unwrap_or (find q xs) r.start.node
      test-same p q same [] = refl
      test-same p q same (x ∷ xs) = elim (cases_Bool (q x)) [
        | inl e ↦ rw (same x, e) refl
        | inr e ↦ rw (same x, e) (test-same p q same xs)
      ]

  -- what is below it is near
  common-near : (x : NodeName) → Has (trees_below (subtree ts (common_ancestor ts r))) x → IsNear x
  common-near x h =
      let c = common_ancestor ts r in
      let path = inclusive_ancestors ts r.start.node in
      let own_start = subst (In r.start.node) (sym (above-present ts r.start.node ends.start).1) (inl refl) in
      let above : In c path = found-in (λ a. is_inclusive_ancestor ts a r.end.node) r.start.node path path (λ y i. i) own_start in
      let stands = Has-above ts c r.start.node ends.once ends.start above in
      let w = subtree-present ts c stands in
      let deep : Has (subtree ts c) x = subst (λ (us : Trees). Has us x) (sym w.2) (inr (inl (subst (λ (us : Trees). Has (trees_below us) x) w.2 h))) in
      let there = Has-subtree ts c x ends.once deep in
      record {
        there = there;
        root = sym (root-path ts c x ends.once there (above-from_below ts c x ends.once stands deep)) ∙ root-path ts c r.start.node ends.once ends.start above;
        owner = (stays_own ts owned o c ((stays_own ts owned o r.start.node start).path c (is_in-from c path above))).inside x
            (is_in-from x (inclusive_descendants ts c) (In-names (subtree ts c) x deep));
      }

  -- the pieces of the range where no Text or Comment has both ends
  apart-own : pieces_apart ts r ≡ pieces_apart own r
  apart-own =
      let c = common_ancestor ts r in
      let path = inclusive_ancestors ts r.start.node in
      let own_start = subst (In r.start.node) (sym (above-present ts r.start.node ends.start).1) (inl refl) in
      let above : In c path = found-in (λ a. is_inclusive_ancestor ts a r.end.node) r.start.node path path (λ y i. i) own_start in
      let below = trees_below (subtree ts c) in
      let same : below ≡ trees_below (subtree own (common_ancestor own r)) =
      ap trees_below (read_own ts owned o c ((stays_own ts owned o r.start.node start).path c (is_in-from c path above))).alone ∙
      ap (λ (x : NodeName). trees_below (subtree own x)) common-own in
      let first : pieces_behind ts r.start (tree_holding ts r.start.node r.end.node below) ≡ pieces_behind own r.start
      (tree_holding own r.start.node r.end.node below) =
      start-own (tree_holding ts r.start.node r.end.node below) (λ x h. common-near x (holding-in ts r.start.node r.end.node below x h))
      ∙ ap (pieces_behind own r.start) (holding-own r.start.node r.end.node starts-own ends-own below) in
      let middle : filter (is_contained ts r) (names_of (roots below)) ≡ filter (is_contained own r) (names_of (roots below)) =
      filter-same (is_contained ts r) (is_contained own r) (names_of (roots below))
      (λ y i. let w = common-near y (Has-root below y i) in contained-own ts owned o r ends start end y w.there w.root w.owner) in
      let later : pieces_in_front ts r.end (tree_holding ts r.end.node r.start.node below) ≡ pieces_in_front own r.end
      (tree_holding own r.end.node r.start.node below) =
      end-own (tree_holding ts r.end.node r.start.node below) (λ x h. common-near x (holding-in ts r.end.node r.start.node below x h))
      ∙ ap (pieces_in_front own r.end) (holding-own r.end.node r.start.node ends-own starts-own below) in
      let own_pieces = λ (us : Trees). pieces_behind own r.start (tree_holding own r.start.node r.end.node us)
      followed_by all_whole (filter (is_contained own r) (names_of (roots us)))
      followed_by pieces_in_front own r.end (tree_holding own r.end.node r.start.node us) in
      ap (λ q. q followed_by all_whole (filter (is_contained ts r) (names_of (roots below))) followed_by pieces_in_front ts r.end
      (tree_holding ts r.end.node r.start.node below)) first
      ∙ (ap (λ xs. pieces_behind own r.start (tree_holding own r.start.node r.end.node below) followed_by all_whole xs followed_by pieces_in_front
      ts r.end (tree_holding ts r.end.node r.start.node below)) middle
      ∙ (ap (λ q. pieces_behind own r.start (tree_holding own r.start.node r.end.node below) followed_by all_whole
      (filter (is_contained own r) (names_of (roots below))) followed_by q) later ∙ ap own_pieces same))

  -- the pieces of the range
  pub pieces-own : pieces_of ts r ≡ pieces_of own r
  pieces-own =
      let one : Pieces = cut r.start.node r.start.offset r.end.offset nothing in
      let all = λ (in_one : Bool) (apart : Pieces). (if is_collapsed name_eq r then nothing else (if in_one then one else apart)) in
      ap (λ (n : Node). all (name_eq r.start.node r.end.node && has_data n.kind) (pieces_apart ts r))
      (read_own ts owned o r.start.node start).node ∙ ap (all (is_in_one_data own r)) apart-own
