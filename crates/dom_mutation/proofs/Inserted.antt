-- Insertions as their plans: of one node, and of a fragment's children.
use Rattle.dom_mutation.proofs.Cited.{◌≡◌, ℕ, ◌<◌, ◌≤◌, Bool, true, false, List, [], ◌∷◌, length, map, Option, Some, refl, sym, ap, subst, ◌∙◌, arith}
use Rattle.dom_mutation.proofs.Cited.{if◌then◌else◌, ◌==◌, AllByRecursion, ForSome, cond-false, NodeName, Owner, is_empty, Trees, none, tree, roots, names_of}
use Rattle.dom_mutation.proofs.Cited.{trees_below, subtree, children_of, kind_of, is_fragment, inclusive_ancestors, times_in, is_inclusive_ancestor, child_list}
use Rattle.dom_mutation.proofs.Cited.{Part, Step, part_of, world_after, Plan, Observing, ◌and_then◌, in_turn, steps_of, telling, emptying, making_room, placing}
use Rattle.dom_mutation.proofs.Cited.{sibling_before, insert_plan, name_eq-same, times_in-tree, one-true, Lacks, lacks_from, lacks_to, below_lacks, Each}
use Rattle.dom_mutation.proofs.Cited.{each_all, parent_path, DocState, planned, placed_all, name_in, owner_in, trees_in, MayMove, IsChild, NoneAbove, PlansOwn}
use Rattle.dom_mutation.proofs.Cited.{IsAlone, all-then, keeps-and_then, keeps-emptying, keeps-in_turn, keeps-making_room, keeps-placing}
use Rattle.dom_mutation.proofs.Placed.{Counted, once_in, before_lacks}
use Rattle.dom_mutation.proofs.Turns.{Stays}
use Rattle.dom_mutation.proofs.Made.{planned_then}
use Rattle.dom_mutation.proofs.OwnPlans.{children_own, own_moves}

module _ (o : Owner) (how : Observing) (node parent : NodeName) (before : Option NodeName) where
  -- what an insertion does with the nodes that it places
  abbrev placing_plan : List NodeName → Plan → Option NodeName → Plan
  placing_plan moved emptied prev =
      emptied and_then making_room parent before (length moved) and_then in_turn (placing parent before) moved and_then steps_of
      (telling how (child_list parent moved [] prev before))

  -- the steps of an insertion, by whether the node is a fragment
  abbrev steps_if : Part → Bool → List NodeName → List Step
  steps_if p b moved =
      if is_empty moved then [] else placing_plan moved (if b then emptying node moved else steps_of []) (sibling_before p.trees parent before) p

  steps_as : (p : Part) (b : Bool) → is_fragment (kind_of p.trees node) ≡ b →
      insert_plan how node parent before p ≡ steps_if p b (if b then children_of p.trees node else node ∷ [])
  steps_as p b e = ap (λ t. steps_if p t (if t then children_of p.trees node else node ∷ [])) e

  abbrev with_steps : DocState → List Step → DocState
  with_steps d steps = record d { world = world_after o d.world steps }

  module _ (d : DocState) (alone : IsAlone d.world o) where
    placed_plan : (moved : List NodeName) (emptied : Plan) (prev : Option NodeName) → PlansOwn o emptied → AllByRecursion (λ (x : NodeName). x.owner ≡ o) moved
        → placed_all how moved parent before prev o (planned o emptied d) ≡ planned o (placing_plan moved emptied prev) d
    placed_plan moved emptied prev empties own =
        let told : Plan = steps_of (telling how (child_list parent moved [] prev before)) in
        let room = making_room parent before (length moved) in
        let turn = in_turn (placing parent before) moved in
        let roomed = keeps-and_then (own_moves o) emptied room empties (keeps-making_room (own_moves o) parent before (length moved)) in
        let turned = keeps-in_turn (own_moves o) (placing parent before) moved
        (all-then (λ (y : NodeName). y.owner ≡ o) (λ y. PlansOwn o (placing parent before y)) (keeps-placing (own_moves o) parent before) moved own) in
        ap (λ e. planned o told (planned o turn e)) (planned_then o emptied room d alone empties)
        ∙ ap (planned o told) (planned_then o (emptied and_then room) turn d alone roomed)
        ∙ planned_then o (emptied and_then room and_then turn) told d alone (keeps-and_then (own_moves o) (emptied and_then room) turn roomed turned)

    module _ (own : node.owner ≡ o) where
      abbrev ts : Trees
      ts = (part_of d.world o).trees

      -- one node
      pub inserted_one : is_fragment (kind_of ts node) ≡ false →
          placed_all how (node ∷ []) parent before (sibling_before ts parent before) o d ≡ planned o (insert_plan how node parent before) d
      inserted_one e =
          placed_plan (node ∷ []) (steps_of []) (sibling_before ts parent before) (λ p h. tt) (own, tt) ∙
          ap (with_steps d) (sym (steps_as (part_of d.world o) false e))

      -- a fragment's children
      pub inserted_children : is_fragment (kind_of ts node) ≡ true → is_empty (children_of ts node) ≡ false
          → placed_all how (children_of ts node) parent before (sibling_before ts parent before) o
          (planned o (emptying node (children_of ts node)) d) ≡ planned o (insert_plan how node parent before) d
      inserted_children e some =
          let moved = children_of ts node in
          placed_plan moved (emptying node moved) (sibling_before ts parent before) (keeps-emptying (own_moves o) node moved) (children_own o ts node alone.own)
          ∙ ap (with_steps d) (sym (steps_as (part_of d.world o) true e ∙
          cond-false (is_empty moved) [] (placing_plan moved (emptying node moved) (sibling_before ts parent before) (part_of d.world o)) some))

-- ---- a fragment's children may move where it may

roots_stand : (ts : Trees) → Each (λ x. 1 ≤ times_in ts x) (names_of (roots ts))
roots_stand none = tt
roots_stand (tree n c r) =
    let here = times_in-tree n c r n.name in let is = one-true _ (name_eq-same n.name) in (
      omega arith,
      each_all (λ x. 1 ≤ times_in r x) (λ x. 1 ≤ times_in (tree n c r) x) (λ x h. let a = times_in-tree n c r x in omega arith)
          (names_of (roots r)) (roots_stand r),
    )

children_stand : (ts : Trees) (p : NodeName) → Each (λ x. 1 ≤ times_in (subtree ts p) x) (children_of ts p)
children_stand ts p = below (subtree ts p)
  where
    below : (t : Trees) → Each (λ x. 1 ≤ times_in t x) (names_of (roots (trees_below t)))
    below none = tt
    below (tree n c r) = each_all (λ x. 1 ≤ times_in c x) (λ x. 1 ≤ times_in (tree n c r) x) (λ x h. let a = times_in-tree n c r x in omega arith)
        (names_of (roots c)) (roots_stand c)

module _ (d : DocState) (counted : Counted d) (parent fragment : ℕ) (before : Option ℕ) (may : MayMove d parent before fragment)
    (child : ForSome before (IsChild d parent)) where
  abbrev all_trees : Trees
  all_trees = trees_in d parent

  -- what is in the tree of the fragment is not above the parent, nor above the child
  inside_lacks : (z : NodeName) → 1 ≤ times_in (subtree all_trees (name_in d fragment)) z → Lacks z (inclusive_ancestors all_trees (name_in d parent))
  inside_lacks z there =
      below_lacks (name_in d fragment) (name_in d parent) z all_trees (once_in d counted (owner_in d parent))
      (lacks_from (name_in d fragment) (inclusive_ancestors all_trees (name_in d parent)) may.not_above) there

  inside_child : (z : NodeName) → 1 ≤ times_in (subtree all_trees (name_in d fragment)) z → (b : ℕ) → before ≡ Some b →
      Lacks z (inclusive_ancestors all_trees (name_in d b))
  inside_child z there b is =
      below_lacks (name_in d fragment) (name_in d b) z all_trees (once_in d counted (owner_in d parent))
      (before_lacks counted may child is) there

  own_trees : trees_in d fragment ≡ all_trees
  own_trees = ap (λ o. (part_of d.world o).trees) may.owner

  -- keys of the fragment's children
  abbrev AreInside : List ℕ → Type 0
  AreInside ks = AllByRecursion (λ k. 1 ≤ times_in (subtree all_trees (name_in d fragment)) (name_in d k)) ks

  pub are_inside : (ks : List ℕ) → map (name_in d) ks ≡ children_of (trees_in d fragment) (name_in d fragment) → AreInside ks
  are_inside ks e = keys ks (subst (Each (λ x. 1 ≤ times_in (subtree all_trees (name_in d fragment)) x))
      (sym (e ∙ ap (λ t. children_of t (name_in d fragment)) own_trees)) (children_stand all_trees (name_in d fragment)))
    where
      keys : (ks : List ℕ) → Each (λ x. 1 ≤ times_in (subtree all_trees (name_in d fragment)) x) (map (name_in d) ks) → AreInside ks
      keys [] h = tt
      keys (k ∷ ks) h = (h.0, keys ks h.1)

  pub none_above : (ks : List ℕ) → AreInside ks → (y : NodeName) →
      ((z : NodeName) → 1 ≤ times_in (subtree all_trees (name_in d fragment)) z → Lacks z (inclusive_ancestors all_trees y)) →
      NoneAbove d fragment y ks
  none_above [] h y off = tt
  none_above (k ∷ ks) h y off = (
    ap (λ t. is_inclusive_ancestor t (name_in d k) y) own_trees ∙ lacks_to (name_in d k) (inclusive_ancestors all_trees y)
        (off (name_in d k) h.0),
    none_above ks h.1 y off,
  )

  -- after the fragment is emptied
  pub stays_emptied : (ks : List ℕ) → AreInside ks → (e : DocState) (children : List NodeName) →
      e ≡ planned (owner_in d fragment) (emptying (name_in d fragment) children) d
      → ((y : NodeName) → NoneAbove d fragment y ks → inclusive_ancestors (trees_in e fragment) y ≡ inclusive_ancestors (trees_in d fragment) y) →
      Stays parent before d e
  stays_emptied ks inside e children is paths =
      let names : e.names ≡ d.names = ap (λ (s : DocState). s.names) is in
      let own : trees_in e parent ≡ trees_in e fragment =
      ap (λ o. (part_of e.world o).trees)
      (ap (λ (ns : List NodeName). (Rattle.dom_tree.specs.Forest.name_at ns parent).owner) names ∙ sym may.owner ∙
      ap (λ (ns : List NodeName). (Rattle.dom_tree.specs.Forest.name_at ns fragment).owner) (sym names)) in
      let kept = λ (y : NodeName) (off : NoneAbove d fragment y ks). ap (λ t. inclusive_ancestors t y) own ∙ paths y off ∙
      ap (λ t. inclusive_ancestors t y) own_trees in
      record {
        names = names;
        parent_path = kept (name_in d parent) (none_above ks inside (name_in d parent) inside_lacks);
        before_path = λ b at. kept (name_in d b) (none_above ks inside (name_in d b) (λ z there. inside_child z there b at));
      }

  -- they may move
  pub all_may : (ks : List ℕ) → AreInside ks → AllByRecursion (λ k. (k < length d.names) × (owner_in d k ≡ owner_in d fragment)) ks →
      AllByRecursion (MayMove d parent before) ks
  all_may [] inside nodes = tt
  all_may (k ∷ ks) inside nodes = (
    record {
      node = nodes.0.0;
      owner = nodes.0.1 ∙ may.owner;
      not_above = lacks_to (name_in d k) (inclusive_ancestors all_trees (name_in d parent)) (inside_lacks (name_in d k) inside.0);
      apart = λ b at. (subst (Lacks (name_in d k))
          (parent_path all_trees (once_in d counted (owner_in d parent)) (name_in d b) (name_in d parent) (child b at).child)
          (inside_child (name_in d k) inside.0 b at)).0;
    },
    all_may ks inside.1 nodes.1,
  )

-- ---- what the calls say of it

-- keys that name some nodes
pub some_named : (d : DocState) (ks : List ℕ) → is_empty ks ≡ false → is_empty (map (name_in d) ks) ≡ false
some_named d [] h = cc
some_named d (k ∷ ks) h = refl

-- a test of length, for a test of emptiness
pub some_left : (ks : List ℕ) → false ≡ (length ks == 0) → is_empty ks ≡ false
some_left [] e = sym e
some_left (k ∷ ks) e = refl
