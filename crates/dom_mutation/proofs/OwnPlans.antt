-- The plans of changes set the node documents of their owner's nodes alone.
use Rattle.dom_mutation.proofs.Cited.{sym, ap, and_parts, ◌≡◌, true, true≢false, ◌-◌, ◌∙◌, AllByRecursion, NodeName, Owner, Trees, roots, names_of, node_in}
use Rattle.dom_mutation.proofs.Cited.{children_of, kind_of, subtree, trees_below, none, tree, Part, place, part_step, making_room, placing}
use Rattle.dom_mutation.proofs.Cited.{owner-part_step, AreOf, SetsOwnDocuments, IsOwnPart}
use Rattle.dom_model.proofs.Model.{common_ancestor, has_data, name_eq}
use Rattle.dom_mutation.proofs.OwnSteps.{own_each, own_step, own_subtree}
use Rattle.dom_worlds.proofs.CommandLemmas.{name-node_in, node-read}
use Rattle.dom_worlds.proofs.PlanLemmas.{AreMoved, IsKept, common_below, whole-pieces}
use Rattle.dom_worlds.proofs.TreeLemmas.{nodes-then}

module _ (o : Owner) where
  -- a node of the owner
  abbrev IsOf : NodeName → Type 0
  IsOf y = y.owner ≡ o

  -- what is below a node
  below_own : (ts : Trees) → AreOf o ts → AreOf o (trees_below ts)
  below_own none h = tt
  below_own (tree n c r) h = h.1

  -- the children of an owner's node are the owner's
  pub children_own : (ts : Trees) (x : NodeName) → AreOf o ts → AllByRecursion IsOf (children_of ts x)
  children_own ts x own = top (trees_below (subtree ts x)) (below_own (subtree ts x) (own_subtree o ts x own))
    where
      top : (us : Trees) → AreOf o us → AllByRecursion IsOf (names_of (roots us))
      top none h = tt
      top (tree n c r) h = (h.0, top r h.2)

  -- a Text or Comment in the owner's trees is the owner's
  data_own : (ts : Trees) (x : NodeName) → AreOf o ts → has_data (kind_of ts x) ≡ true → x.owner ≡ o
  data_own ts x own h = ap (λ (y : NodeName). y.owner) (sym (name-node_in ts x))
      ∙ node-read (λ n. has_data n.kind ≡ true → n.name.owner ≡ o) x (λ e. absurd (true≢false (sym e))) ts
      (nodes-then (λ n. n.name.owner ≡ o) (λ n. has_data n.kind ≡ true → n.name.owner ≡ o) (λ n is e. is) ts (own_each o ts own)) h

  -- The rules of plans, where nodes are moved.
  pub own_moves : AreMoved (IsOwnPart o) (SetsOwnDocuments o) IsOf IsOf
  own_moves = record {
    step = λ p s h m. record { owner = owner-part_step p s ∙ h.owner; own = own_step o p s h.owner h.own };
    placing = λ x parent before is. tt;
    making_room = λ parent index count. tt;
    taking_out = λ x. tt;
    document = λ x d is. is;
    placed_set = λ x is. is;
    children_told = λ x added removed previous next. tt;
    children = λ p h x. children_own p.trees x h.own;
  }

  -- of all plans
  pub own_rules : IsKept (IsOwnPart o) (SetsOwnDocuments o) IsOf IsOf
  own_rules = record {
    moves = own_moves;
    data_replaced = λ x offset count new. tt;
    split = λ x offset new parent index. tt;
    join = λ x size next parent index. tt;
    range = λ k range. tt;
    data_told = λ x old. tt;
    new_text = λ x d text. tt;
    new_fragment = λ x d. tt;
    clone = λ p x y h is. tt;
    clone_part = λ p x y from to h is. tt;
    new_node = λ p h. h.owner;
    wholes = λ p h range. whole-pieces IsOf p.trees range
        (λ e. data_own p.trees range.start.node h.own (and_parts (name_eq range.start.node range.end.node) (has_data (kind_of p.trees range.start.node)) e).1)
        (own_each o (common_below p.trees range) (below_own (subtree p.trees (common_ancestor p.trees range))
        (own_subtree o p.trees (common_ancestor p.trees range) h.own)));
  }
