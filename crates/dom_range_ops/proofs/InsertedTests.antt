-- What the tests of an insertion into a live range say, and its steps and its refusal for a range that is there.
use Rattle.dom_range_ops.proofs.Cited.{◌≡◌, ℕ, Bool, true, false, not, [], Option, Some, None, drop, refl, sym, ap, subst, ◌∙◌, true≢false, option_or}
use Rattle.dom_range_ops.proofs.Cited.{option_map_or, cond-true, cond-false, NodeName, Owner, Hierarchy, NotFound, ◌and_then◌, limit_on, made_by_insert_node}
use Rattle.dom_range_ops.proofs.Cited.{name_eq, Part, next_name, range_at, Range, start_reference, insertion_parent, cannot_take_node, insert_node_refusal}
use Rattle.dom_range_ops.proofs.Cited.{inserting_at, inserting_into_range, splitting, Trees, kind_of, is_text, parent_of, is_inclusive_ancestor, child_nodes}
use Rattle.dom_range_ops.proofs.Cited.{may_be_parent, has_parent, placing_tests, pre_insert_refusal, World, part_of, world_after, name_eq-true, next-test}
use Rattle.dom_range_ops.proofs.Cited.{not_taken, made, inserting_node, inserting_before_tail, node_refusal, inserting_refusal}

-- a child before which a node may be put is a child
pub valid-child : (ts : Trees) (parent node c : NodeName) → pre_insert_refusal ts parent node (Some c) ≡ None → parent_of ts c ≡ Some parent
valid-child ts parent node c h =
    let tests = placing_tests ts parent node (not (has_parent ts parent c)) (child_nodes ts parent) in
    let a = next-test (not (may_be_parent (kind_of ts parent))) Hierarchy (drop 1 tests) h in
    let b = next-test (is_inclusive_ancestor ts node parent) Hierarchy (drop 2 tests) a.1 in
    let lost = (next-test (not (has_parent ts parent c)) NotFound (drop 3 tests) b.1).0 in
    of (parent_of ts c) refl lost
  where
    of : (o : Option NodeName) → parent_of ts c ≡ o → not (has_parent ts parent c) ≡ false → parent_of ts c ≡ Some parent
    of None is e = absurd (true≢false (sym (ap (λ o. not (option_map_or (name_eq parent) o false)) is) ∙ e))
    of (Some q) is e = is ∙ ap (λ z. Some z)
        (sym (name_eq-true parent q (was (name_eq parent q) (sym (ap (λ o. not (option_map_or (name_eq parent) o false)) is) ∙ e))))
      where
        was : (b : Bool) → not b ≡ false → b ≡ true
        was true h = refl
        was false h = absurd (true≢false h)

-- the tests of the place, where the node can be taken
pub place-valid : (ts : Trees) (r : Range NodeName) (x : NodeName) → insert_node_refusal ts r x ≡ None →
    pre_insert_refusal ts (insertion_parent ts r) x (start_reference ts r) ≡ None
place-valid ts r x h = not_taken (cannot_take_node ts r x) (pre_insert_refusal ts (insertion_parent ts r) x (start_reference ts r)) h

-- a Text at the start is a child of the parent into which a node may go
pub text-child : (ts : Trees) (r : Range NodeName) (x : NodeName) → insert_node_refusal ts r x ≡ None → is_text (kind_of ts r.start.node) ≡ true →
    parent_of ts r.start.node ≡ Some (insertion_parent ts r)
text-child ts r x h text =
    valid-child ts (insertion_parent ts r) x r.start.node
    (subst (λ o. pre_insert_refusal ts (insertion_parent ts r) x o ≡ None)
    (cond-true (is_text (kind_of ts r.start.node)) (Some r.start.node) _ text) (place-valid ts r x h))

-- ---- the steps

module _ (o : Owner) (w : World) (k : ℕ) (r : Range NodeName) (x : NodeName) where
  abbrev p : Part
  p = part_of w o

  -- where a Text is split
  pub steps-tail : (y : NodeName) → y ≡ insertion_parent p.trees r → is_text (kind_of p.trees r.start.node) ≡ true →
      made o (inserting_before_tail k r y x) w ≡ made o (inserting_into_range k r x) w
  steps-tail y parent text =
      ap (λ z. made o (inserting_before_tail k r z x) w) parent
      ∙ ap (world_after o w)
      (sym (cond-true (is_text (kind_of p.trees r.start.node))
      ((splitting r.start.node r.start.offset and_then inserting_at k x (insertion_parent p.trees r) (Some (next_name p))) p)
      (inserting_at k x (insertion_parent p.trees r) (start_reference p.trees r) p) text))

  -- and where none is
  pub steps-plain : (y : NodeName) (reference : Option NodeName) → y ≡ insertion_parent p.trees r → reference ≡ start_reference p.trees r →
      is_text (kind_of p.trees r.start.node) ≡ false
      → made o (inserting_at k x y reference) w ≡ made o (inserting_into_range k r x) w
  steps-plain y reference parent before plain =
      ap (λ z. made o (inserting_at k x z reference) w) parent
      ∙ ap (λ b. made o (inserting_at k x (insertion_parent p.trees r) b) w) before
      ∙ ap (world_after o w)
      (sym (cond-false (is_text (kind_of p.trees r.start.node))
      ((splitting r.start.node r.start.offset and_then inserting_at k x (insertion_parent p.trees r) (Some (next_name p))) p)
      (inserting_at k x (insertion_parent p.trees r) (start_reference p.trees r) p) plain))

  -- ---- of the range of the number
  module _ (there : range_at p k ≡ Some r) where
    pub steps-at : made o (inserting_into_range k r x) w ≡ made o (inserting_node k x) w
    steps-at = ap (λ a. world_after o w (option_map_or (λ (s : Range NodeName). inserting_into_range k s x p) a [])) (sym there)

    pub tests-at : node_refusal p k x ≡ insert_node_refusal p.trees r x
    tests-at = ap (λ a. option_map_or (λ (s : Range NodeName). insert_node_refusal p.trees s x) a None) there

    pub refusal-at : inserting_refusal p k x ≡ option_or (insert_node_refusal p.trees r x) (limit_on p.node_count (made_by_insert_node p r))
    refusal-at = ap (λ a. option_map_or (λ (s : Range NodeName). option_or (insert_node_refusal p.trees s x)
        (limit_on p.node_count (made_by_insert_node p s))) a None) there
