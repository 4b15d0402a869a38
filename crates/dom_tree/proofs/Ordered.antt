-- The roots of a forest stand in the order of their names.
use Rattle.dom_base.proofs.Std.{◌≡◌, ◌⊎◌, inl, inr, ℕ, ◌<◌, true, false, eqb, true≢false, List, [], ◌∷◌, length, refl, sym, subst, ◌∙◌, filter, range_with_len}
use Rattle.dom_base.proofs.Std.{or_left, or_right, or_cases}
use Rattle.dom_model.proofs.Model.{Owner, Trees, Node, put_root}
use Rattle.node_arena.specs.Nodes.{contains}
use Rattle.dom_tree.specs.Definitions.{Stored, in_order, is_root, NamedTrees, IsKept, nodes_of, AreInOrder}
use Rattle.dom_tree.specs.Rows.{trees_on}
use Rattle.dom_tree.proofs.Rows.{Each, Stands, Stands-one, Stands-trees_on, Stands-put_root, name_of_key}
use Rattle.dom_tree.proofs.Roots.{contains-in_order, passing_range}
use Rattle.dom_tree.proofs.Changes.{IsWhole}
use Rattle.dom_tree.proofs.Kept.{seen, IsWhole-kept}
use Rattle.dom_tree.proofs.OwnChanges.{IsAlone, AreInOrder-put_root}

-- the trees with one root are one tree
one_alone : (nodes : List Node) (lists : List (List ℕ)) (k : ℕ) → IsAlone (name_of_key nodes k) (trees_on nodes lists (k ∷ []))
unfolding trees_on
one_alone nodes lists k = refl

-- no trees are in order
no_trees : (nodes : List Node) (lists : List (List ℕ)) → AreInOrder (trees_on nodes lists [])
unfolding trees_on
no_trees nodes lists = tt

-- trees with these roots, put in order
in_order-trees : (nodes : List Node) (lists : List (List ℕ)) → IsWhole nodes lists → (ks : List ℕ) → Each (λ k. k < length lists) ks →
    AreInOrder (trees_on nodes lists (in_order nodes ks))
in_order-trees nodes lists whole [] each = no_trees nodes lists
in_order-trees nodes lists whole (k ∷ ks) each =
    subst AreInOrder (sym same) (AreInOrder-put_root (name_of_key nodes k) new rest (one_alone nodes lists k)
    (in_order-trees nodes lists whole ks later))
  where
    new : Trees
    new = trees_on nodes lists (k ∷ [])

    rest : Trees
    rest = trees_on nodes lists (in_order nodes ks)

    later : Each (λ j. j < length lists) ks
    later j found = each j (or_right _ (contains ks j) found)

    head : (j : ℕ) → (eqb k j ≡ true) ⊎ (false ≡ true) → j < length lists
    head j (inl e) = each j (or_left (eqb k j) _ e)
    head j (inr e) = absurd (true≢false (sym e))

    stands : (js : List ℕ) → Each (λ j. j < length lists) js → Stands nodes lists (trees_on nodes lists (in_order nodes js)) (in_order nodes js)
    stands js within = Stands-trees_on nodes lists whole.forest whole.paired (in_order nodes js)
        (λ j found. within j (sym (contains-in_order nodes js j) ∙ found))

    same : trees_on nodes lists (in_order nodes (k ∷ ks)) ≡ put_root (name_of_key nodes k) new rest
    same = Stands-one nodes lists _ (in_order nodes (k ∷ ks)) (stands (k ∷ ks) each)
        (Stands-put_root nodes lists new k (stands (k ∷ []) (λ j found. head j (or_cases (eqb k j) false found))) rest (in_order nodes ks) (stands ks later))

-- so the roots of a forest are
pub shows_order : {f : NamedTrees} {ps : List Stored} {lists : List (List ℕ)} {keys : Owner → List ℕ} → seen ps lists ≡ f → IsKept ps lists keys →
    AreInOrder f.trees
shows_order {f = f} {ps = ps} {lists = lists} {keys = keys} is kept =
    subst (λ (g : NamedTrees). AreInOrder g.trees) is
    (in_order-trees (nodes_of ps) lists (IsWhole-kept kept) (filter (is_root lists) (range_with_len 0 (length lists)))
    (passing_range (is_root lists) (length lists)))
