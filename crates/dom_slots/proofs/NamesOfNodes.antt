-- Nodes of trees and their names: what is asked of the nodes is asked of the names.
use Rattle.dom_base.proofs.Std.{◌≡◌, ◌⊎◌, inl, inr, Bool, List, [], ◌∷◌, ◌++◌, Some, filter, refl, sym, ap, subst, ◌∙◌, find, unwrap_or, option_map, cases_Bool}
use Rattle.dom_model.proofs.Model.{NodeName, name_eq, first_of, Trees, none, tree, Node, nodes, names_of, node_in, no_node, subtree, or_else}
use Rattle.dom_model.proofs.Model.{inclusive_descendants, name_eq-other}
use Rattle.dom_laws.proofs.Laws.{In, Single, name_eq-from, Once, Single-names}

-- a node is among these
abbrev pub InNodes : Node → List Node → Type 0
InNodes m [] = ⊥
InNodes m (n ∷ ns) = (m ≡ n) ⊎ InNodes m ns

pub in_left : (m : Node) (xs ys : List Node) → InNodes m xs → InNodes m (xs ++ ys)
in_left m [] ys h = absurd h
in_left m (x ∷ xs) ys (inl e) = inl e
in_left m (x ∷ xs) ys (inr h) = inr (in_left m xs ys h)

pub in_right : (m : Node) (xs ys : List Node) → InNodes m ys → InNodes m (xs ++ ys)
in_right m [] ys h = h
in_right m (x ∷ xs) ys h = inr (in_right m xs ys h)

in_parts : (m : Node) (xs ys : List Node) → InNodes m (xs ++ ys) → InNodes m xs ⊎ InNodes m ys
in_parts m [] ys h = inr h
in_parts m (x ∷ xs) ys (inl e) = inl (inl e)
in_parts m (x ∷ xs) ys (inr h) = elim (in_parts m xs ys h) [ inl i ↦ inl (inr i) | inr i ↦ inr i ]

-- its name is among theirs
in_names : (m : Node) (ns : List Node) → InNodes m ns → In m.name (names_of ns)
in_names m [] h = h
in_names m (n ∷ ns) (inl e) = inl (ap (λ (k : Node). k.name) e)
in_names m (n ∷ ns) (inr h) = inr (in_names m ns h)

-- the nodes of a node's tree are nodes of the trees
pub in_tree : (ts : Trees) (x : NodeName) (m : Node) → InNodes m (nodes (subtree ts x)) → InNodes m (nodes ts)
in_tree none x m h = h
in_tree (tree n c r) x m h = elim (cases_Bool (name_eq n.name x)) [
  | inl e ↦ by (in_parts m (n ∷ nodes c) [] (rw e at h))
  | inr e ↦ beside (subtree c x) refl (in_tree c x m) (in_tree r x m) (rw e at h)
]
  where
    by : InNodes m (n ∷ nodes c) ⊎ ⊥ → InNodes m (nodes (tree n c r))
    by (inl h') = in_left m (n ∷ nodes c) (nodes r) h'
    by (inr no_more) = absurd no_more

    beside : (us : Trees) → subtree c x ≡ us → (InNodes m (nodes (subtree c x)) → InNodes m (nodes c)) →
        (InNodes m (nodes (subtree r x)) → InNodes m (nodes r)) → InNodes m (nodes (or_else us (subtree r x)))
        → InNodes m (nodes (tree n c r))
    beside none e below after h' = inr (in_right m (nodes c) (nodes r) (after h'))
    beside (tree k d s) e below after h' = inr (in_left m (nodes c) (nodes r) (below (subst (λ (vs : Trees). InNodes m (nodes vs)) (sym e) h')))

-- a node is found by its name
find-self : (m : Node) (ns : List Node) → Single (names_of ns) → InNodes m ns → find (λ n. name_eq n.name m.name) ns ≡ Some m
find-self m [] single h = absurd h
find-self m (n ∷ ns) single (inl e) = rw (name_eq-from n.name m.name (ap (λ (k : Node). k.name) (sym e))) (ap Some (sym e))
find-self m (n ∷ ns) single (inr h) =
    let other : n.name ≡ m.name → ⊥ = λ e. single.0 (subst (λ (y : NodeName). In y (names_of ns)) (sym e) (in_names m ns h)) in
    rw (name_eq-other n.name m.name other) (find-self m ns single.1 h)

-- so it is the node of its name
pub node_in-self : (ts : Trees) → Once ts → (m : Node) → InNodes m (nodes ts) → node_in ts m.name ≡ m
node_in-self ts once m h = ap (λ o. unwrap_or o (no_node m.name)) (find-self m (nodes ts) (Single-names ts once) h)

-- the names of the nodes that pass a test are the names of which the nodes pass
filter-names : (ts : Trees) (q : Node → Bool) (ns : List Node) → ((m : Node) → InNodes m ns → node_in ts m.name ≡ m) →
    names_of (filter q ns) ≡ filter (λ y. q (node_in ts y)) (names_of ns)
filter-names ts q [] h = refl
filter-names ts q (n ∷ ns) h =
    let same : q (node_in ts n.name) ≡ q n = ap q (h n (inl refl)) in
    let rest = filter-names ts q ns (λ m i. h m (inr i)) in
    elim (cases_Bool (q n)) [ inl e ↦ rw (same, e) (ap (λ xs. n.name ∷ xs) rest) | inr e ↦ rw (same, e) rest ]

-- the first node that passes is the first of those that do
find-first : (q : Node → Bool) (ns : List Node) → option_map (λ (n : Node). n.name) (find q ns) ≡ first_of (names_of (filter q ns))
find-first q [] = refl
find-first q (n ∷ ns) = elim (cases_Bool (q n)) [ inl e ↦ rw e refl | inr e ↦ rw e (find-first q ns) ]

module _ (ts : Trees) (once : Once ts) (q : Node → Bool) (top : NodeName) where
  -- of the nodes of a tree
  pub named-filter : names_of (filter q (nodes (subtree ts top))) ≡ filter (λ y. q (node_in ts y)) (inclusive_descendants ts top)
  named-filter = filter-names ts q (nodes (subtree ts top)) (λ m i. node_in-self ts once m (in_tree ts top m i))

  -- and the first of them
  pub named-first : option_map (λ (n : Node). n.name) (find q (nodes (subtree ts top))) ≡ first_of
      (filter (λ y. q (node_in ts y)) (inclusive_descendants ts top))
  named-first = find-first q (nodes (subtree ts top)) ∙ ap first_of named-filter
