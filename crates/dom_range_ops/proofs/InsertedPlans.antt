-- The steps of an insertion into a live range, put together to its plan.
use Rattle.dom_range_ops.proofs.Cited.{◌≡◌, ℕ, false, List, Option, Some, None, option_map, refl, sym, ap, subst, ◌∙◌, ForSome, cond-false, NodeName, Owner}
use Rattle.dom_range_ops.proofs.Cited.{Plan, ◌and_then◌, observed, remove_plan, insert_plan, reference_child, name_eq, at, ending_at, inserting_before}
use Rattle.dom_range_ops.proofs.Cited.{inserting_at, Trees, next_sibling, inclusive_ancestors, is_inclusive_ancestor, part_of, name_eq-turned, name_at}
use Rattle.dom_range_ops.proofs.Cited.{DocState, made, planned, name_in, owner_in, trees_in, IsChild, IsAlone, planned_then, parent_path, Lacks, lacks_from}
use Rattle.dom_range_ops.proofs.Cited.{lacks_to, Counted, once_in, removal_keeps, Stays, offset_behind, keeps-inserting, keeps-removing, own_moves}

-- a state by its names and its world
pub state-is : (d e : DocState) (o : Owner) (f : Plan) → e.names ≡ d.names → e.world ≡ made o f d.world → e ≡ planned o f d
state-is d e o f names world = λ j. record { names = names j; world = world j }

-- a reference that is another node is kept
pub kept-reference : (ts : Trees) (x : NodeName) (name : ℕ → NodeName) (reference : Option ℕ) →
    ForSome reference (λ b. name_eq x (name b) ≡ false) → reference_child ts x (option_map name reference) ≡ option_map name reference
kept-reference ts x name None apart = refl
kept-reference ts x name (Some b) apart = cond-false (name_eq (name b) x) (next_sibling ts x) (Some (name b)) (name_eq-turned (name b) x ∙ apart b refl)

module _ (d : DocState) (o : Owner) (k : ℕ) (parent node : ℕ) (alone : IsAlone d.world o) (own : owner_in d parent ≡ o) (node_own : owner_in d node ≡ o) where
  abbrev x : NodeName
  x = name_in d node

  abbrev y : NodeName
  y = name_in d parent

  abbrev ts : Trees
  ts = (part_of d.world o).trees

  -- an insertion before a reference, in the state e, and then an end, in f
  pub inserted-before : {e f : DocState} (reference : Option ℕ) {offset : ℕ} → ForSome reference (λ b. name_eq (name_in d node) (name_in d b) ≡ false)
      → offset ≡ offset_behind (trees_in d parent) (name_in d parent) (name_in d node) (option_map (name_in d) reference)
      → e ≡ planned (owner_in d parent) (insert_plan observed (name_in d node) (name_in d parent) (option_map (name_in d) reference)) d
      → f ≡ planned o (ending_at k (at (name_in e parent) offset)) e
      → f ≡ planned o (inserting_before k (name_in d node) (name_in d parent) (option_map (name_in d) reference)) d
  inserted-before {e} reference {offset} apart behind inserted ended =
      let before = option_map (name_in d) reference in
      let put : Plan = insert_plan observed x y before in
      let is : e ≡ planned o put d = inserted ∙ ap (λ w. planned w put d) own in
      let end : ℕ → Plan = λ n. ending_at k (at y n) in
      let n = offset_behind ts y x before in
      ended ∙ ap (λ (ns : List NodeName). planned o (ending_at k (at (name_at ns parent) offset)) e) (ap (λ (s : DocState). s.names) is)
      ∙ ap (planned o (end offset)) is
      ∙ planned_then o put (end offset) d alone (keeps-inserting (own_moves o) observed x y before node_own)
      ∙ ap (λ m. planned o (put and_then end m) d) (behind ∙ ap (λ w. offset_behind (part_of d.world w).trees y x before) own)
      ∙ ap (λ b. planned o (insert_plan observed x y b and_then end n) d) (sym (kept-reference ts x (name_in d) reference apart))

  -- a removal, in the state e, and then an insertion before the reference, in f
  pub inserted-at : {e f : DocState} (child reference : Option ℕ) →
      option_map (name_in d) reference ≡ reference_child (trees_in d parent) (name_in d node) (option_map (name_in d) child)
      → e ≡ planned (owner_in d node) (remove_plan observed (name_in d node)) d
      → f ≡ planned o (inserting_before k (name_in e node) (name_in e parent) (option_map (name_in e) reference)) e
      → f ≡ planned o (inserting_at k (name_in d node) (name_in d parent) (option_map (name_in d) child)) d
  inserted-at {e} child reference referred removed inserted =
      let gone : Plan = remove_plan observed x in
      let is : e ≡ planned o gone d = removed ∙ ap (λ w. planned w gone d) node_own in
      inserted ∙ ap (λ (ns : List NodeName). planned o
      (inserting_before k (name_at ns node) (name_at ns parent) (option_map (name_at ns) reference)) e) (ap (λ (s : DocState). s.names) is)
      ∙ ap (planned o (inserting_before k x y (option_map (name_in d) reference))) is
      ∙ planned_then o gone (inserting_before k x y (option_map (name_in d) reference)) d alone (keeps-removing (own_moves o) observed x)
      ∙ ap (λ b. planned o (gone and_then inserting_before k x y b) d)
      (referred ∙ ap (λ w. reference_child (part_of d.world w).trees x (option_map (name_in d) child)) own)

-- A node that another parent and reference do not depend on leaves its parent.
module _ (d e : DocState) (counted : Counted d) (parent node : ℕ) (reference : Option ℕ) (alone : IsAlone d.world (owner_in d node))
    (owner : owner_in d node ≡ owner_in d parent) where
  -- what was asked of a parent and a reference still holds when another node has left its parent
  pub stays-left : is_inclusive_ancestor (trees_in d parent) (name_in d node) (name_in d parent) ≡ false → ForSome reference (IsChild d parent) →
      ForSome reference (λ b. name_eq (name_in d node) (name_in d b) ≡ false) → e ≡ planned (owner_in d node) (remove_plan observed (name_in d node)) d →
      Stays parent reference d e
  stays-left off children apart is =
      let x = name_in d node in
      let names : e.names ≡ d.names = ap (λ (s : DocState). s.names) is in
      let lacks : Lacks x (inclusive_ancestors (trees_in d parent) (name_in d parent)) =
      lacks_from x (inclusive_ancestors (trees_in d parent) (name_in d parent)) off in
      let same : trees_in d node ≡ trees_in d parent = ap (λ o. (part_of d.world o).trees) owner in
      let then : trees_in e parent ≡ trees_in e node =
      ap (λ (ns : List NodeName). (part_of e.world (name_at ns parent).owner).trees) names ∙
      (ap (λ o. (part_of e.world o).trees) (sym owner) ∙ ap (λ (ns : List NodeName). (part_of e.world (name_at ns node).owner).trees)
      (sym names)) in
      let kept : (z : NodeName) → Lacks x (inclusive_ancestors (trees_in d parent) z) →
      inclusive_ancestors (trees_in e parent) z ≡ inclusive_ancestors (trees_in d parent) z = λ z h.
      ap (λ t. inclusive_ancestors t z) then
      ∙ (removal_keeps d counted node alone observed is z
      (ap (λ t. is_inclusive_ancestor t x z) same ∙ lacks_to x (inclusive_ancestors (trees_in d parent) z) h) ∙
      ap (λ t. inclusive_ancestors t z) same) in
      record {
        names = names;
        parent_path = kept (name_in d parent) lacks;
        before_path = λ b here. kept (name_in d b)
            (subst (Lacks x) (sym (parent_path (trees_in d parent) (once_in d counted (owner_in d parent)) (name_in d b) (name_in d parent)
            (children b here).child)) (apart b here, lacks));
      }
