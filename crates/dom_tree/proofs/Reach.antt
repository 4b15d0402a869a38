-- Each node of a forest is found in the trees, with what is above and below it.
use Rattle.dom_base.proofs.Std.{◌≡◌, inl, inr, ℕ, zero, suc, ◌<◌, ◌≤◌, Bool, true, false, ◌||◌, eqb, List, [], ◌∷◌, ◌++◌, map, length, Some, None, refl, sym}
use Rattle.dom_base.proofs.Std.{ap, subst, ◌∙◌, arith, true≢false, append_assoc, slice_get, find, find-append, both_ways, or_cases, or_parts, or_left}
use Rattle.dom_base.proofs.Std.{or_right, cases_Bool, eqb_tells, list_any, map-append, list_any-append, slice_get-get_or, get_or_from_slice_get}
use Rattle.dom_model.proofs.Model.{NodeName, name_eq, Trees, none, tree, Node, nodes as nodes_in, names_of, has_node, subtree, or_else, inclusive_ancestors}
use Rattle.dom_model.proofs.Model.{roots, trees_below, name_eq-turned}
use Rattle.node_arena.specs.Nodes.{children_of, contains, parent_of, ancestors_of, IsForest}
use Rattle.node_arena.proofs.Forests.{cases_Option, parent_within, parent_of_is, contains-parent, ancestors_of-child}
use Rattle.node_arena.proofs.Lists.{contains-head}
use Rattle.dom_tree.specs.Definitions.{node_at}
use Rattle.dom_tree.proofs.Rows.{Stands, IsNamed, same_name, name_of_key}

-- a node of this name stands in the trees
abbrev pub reaches : Trees → NodeName → Bool
reaches none x = false
reaches (tree n children rest) x = name_eq n.name x || (reaches children x || reaches rest x)

-- a name is found in a tree as its root, below it or in the trees after it
has_node-tree : (n : Node) (c r : Trees) (x : NodeName) → has_node (tree n c r) x ≡ (name_eq x n.name || (has_node c x || has_node r x))
has_node-tree n c r x = ap (λ ys. name_eq x n.name || list_any (name_eq x) ys) (map-append (λ (y : Node). y.name) (nodes_in c) (nodes_in r))
    ∙ ap (λ b. name_eq x n.name || b) (list_any-append (name_eq x) (names_of (nodes_in c)) (names_of (nodes_in r)))

pub has_node-reaches : (ts : Trees) (x : NodeName) → has_node ts x ≡ reaches ts x
has_node-reaches none x = refl
has_node-reaches (tree n c r) x = has_node-tree n c r x ∙ rw (name_eq-turned x n.name, has_node-reaches c x, has_node-reaches r x) refl

-- a key and one in its list, with the nodes at both
pub record IsChild (nodes : List Node) (lists : List (List ℕ)) (p x : ℕ) (q m : Node) : Type 0 where
  pub at_parent : slice_get nodes p ≡ Some q
  pub at_child : slice_get nodes x ≡ Some m
  pub child : contains (children_of lists p) x ≡ true

module _ (nodes : List Node) (lists : List (List ℕ)) (named : IsNamed nodes) where
  pub reaches-root : (x : ℕ) {m : Node} → slice_get nodes x ≡ Some m → (ts : Trees) (ks : List ℕ) → Stands nodes lists ts ks → contains ks x ≡ true →
      reaches ts m.name ≡ true
  reaches-root x at none [] s found = absurd (true≢false (sym found))
  reaches-root x at none (k ∷ ks) s found = absurd s
  reaches-root x at (tree n c r) [] s found = absurd s
  reaches-root x {m = m} at (tree n c r) (k ∷ ks) s found = elim (or_cases (eqb k x) (contains ks x) found) [
    | inl h ↦ or_left (name_eq n.name m.name) _ (same_name named k x s.0 at ∙ h)
    | inr h ↦ or_right (name_eq n.name m.name) _ (or_right (reaches c m.name) _ (reaches-root x at r ks s.2 h))
  ]

  pub reaches-child : {p x : ℕ} {q m : Node} → IsChild nodes lists p x q m → (ts : Trees) (ks : List ℕ) → Stands nodes lists ts ks →
      reaches ts q.name ≡ true → reaches ts m.name ≡ true
  reaches-child pair none ks s found = absurd (true≢false (sym found))
  reaches-child pair (tree n c r) [] s found = absurd s
  reaches-child {p = p} {x = x} {q = q} {m = m} pair (tree n c r) (k ∷ ks) s found =
      let tells : name_eq n.name q.name ≡ eqb k p = same_name named k p s.0 pair.at_parent in
      elim (or_cases (name_eq n.name q.name) _ found) [
        | inl h ↦ elim (eqb_tells k p) [
          | inl e ↦ or_right (name_eq n.name m.name) _
              (or_left (reaches c m.name) _
              (reaches-root x pair.at_child c (children_of lists k) s.1 (ap (λ j. contains (children_of lists j) x) e.1 ∙ pair.child)))
          | inr e ↦ absurd (both_ways (name_eq n.name q.name) (tells ∙ e.0) h)
        ]
        | inr h ↦ elim (or_cases (reaches c q.name) (reaches r q.name) h) [
          | inl i ↦ or_right (name_eq n.name m.name) _
              (or_left (reaches c m.name) _ (reaches-child pair c (children_of lists k) s.1 i))
          | inr i ↦ or_right (name_eq n.name m.name) _ (or_right (reaches c m.name) _ (reaches-child pair r ks s.2 i))
        ]
      ]

module _ (nodes : List Node) (lists : List (List ℕ)) (named : IsNamed nodes) (forest : IsForest lists) (paired : length nodes ≡ length lists) (ts : Trees)
    (ks : List ℕ) (s : Stands nodes lists ts ks) (all : ((k : ℕ) → k < length lists → parent_of lists k ≡ None → contains ks k ≡ true)) where
  -- all nodes of a forest are reached from its roots
  reaches-within : (d x : ℕ) → length (ancestors_of lists x) ≤ d → x < length lists → reaches ts (name_of_key nodes x) ≡ true
  reaches-within zero x deep node = elim (cases_Option (parent_of lists x)) [
    | inl e ↦ reaches-root nodes lists named x (slice_get-get_or nodes x _ (omega arith)) ts ks s (all x node e)
    | inr w ↦ absurd (omega (arith, ap (length {A = ℕ}) (ancestors_of-child lists forest x w.0 w.1)))
  ]
  reaches-within (suc d) x deep node = elim (cases_Option (parent_of lists x)) [
    | inl e ↦ reaches-root nodes lists named x (slice_get-get_or nodes x _ (omega arith)) ts ks s (all x node e)
    | inr w ↦
        let p = w.0 in
        let child = contains-parent lists x p w.1 in
        let within : p < length lists = parent_within lists p x child in
        reaches-child nodes lists named (record {
          at_parent = slice_get-get_or nodes p _ (omega arith);
          at_child = slice_get-get_or nodes x _ (omega arith);
          child = child;
        }) ts ks s
        (reaches-within d p (omega (arith, ap (length {A = ℕ}) (ancestors_of-child lists forest x p w.1))) within)
  ]

  pub reaches-all : (x : ℕ) → x < length lists → reaches ts (name_of_key nodes x) ≡ true
  reaches-all x node =
      reaches-within (length (ancestors_of lists x)) x (omega arith) node

-- what is read of a name that is not reached
pub none_reached : (ts : Trees) (x : NodeName) → reaches ts x ≡ false →
    (subtree ts x ≡ none) × (inclusive_ancestors ts x ≡ []) × (find (λ n. name_eq n.name x) (nodes_in ts) ≡ None)
none_reached none x lost = (refl, refl, refl)
none_reached (tree n c r) x lost =
    let parts = or_parts (name_eq n.name x) _ lost in
    let more = or_parts (reaches c x) (reaches r x) parts.1 in
    let below = none_reached c x more.0 in
    let rest = none_reached r x more.1 in
    (rw (parts.0, below.0) rest.0, rw (parts.0, below.1) rest.1, rw (parts.0, find-append (λ y. name_eq y.name x) (nodes_in c) (nodes_in r), below.2) rest.2)

-- a list that begins with a name, and what follows it, with the names of some keys behind that
abbrev pub LeadsTo : List Node → List NodeName → NodeName → List ℕ → List ℕ → Type 0
LeadsTo nodes found x up above = (path : List NodeName) × (found ≡ x ∷ path) × (path ++ map (name_of_key nodes) up ≡ map (name_of_key nodes) above)

module _ (nodes : List Node) (lists : List (List ℕ)) (named : IsNamed nodes) (x : ℕ) (m : Node) (at : slice_get nodes x ≡ Some m) where
  -- the tree of a node that is reached, alone
  pub Stands-subtree : (ts : Trees) (ks : List ℕ) → Stands nodes lists ts ks → reaches ts m.name ≡ true → Stands nodes lists (subtree ts m.name) (x ∷ [])
  Stands-subtree none ks s found = absurd (true≢false (sym found))
  Stands-subtree (tree n c r) [] s found = absurd s
  Stands-subtree (tree n c r) (k ∷ ks) s found =
      let tells : name_eq n.name m.name ≡ eqb k x = same_name named k x s.0 at in
      elim (eqb_tells k x) [
        | inl e ↦ rw (tells, e.0) (subst (λ (j : ℕ). Stands nodes lists (tree n c none) (j ∷ [])) e.1 (s.0, s.1, tt))
        | inr e ↦
            let off : name_eq n.name m.name ≡ false = tells ∙ e.0 in
            rw off (elim (cases_Bool (reaches c m.name)) [
              | inl h ↦ or_else_first (subtree c m.name) (subtree r m.name) (Stands-subtree c (children_of lists k) s.1 h)
              | inr h ↦ rw (none_reached c m.name h).0 (Stands-subtree r ks s.2 (rw (off, h) at found))
            ])
      ]
    where
      or_else_first : (ts us : Trees) → Stands nodes lists ts (x ∷ []) → Stands nodes lists (or_else ts us) (x ∷ [])
      or_else_first none us s = absurd s
      or_else_first (tree n c r) us s = s

  -- the names of the nodes above it, and it
  pub inclusive_ancestors-from : IsForest lists → (ts : Trees) (ks : List ℕ) {up : List ℕ} → Stands nodes lists ts ks →
      ((k : ℕ) → contains ks k ≡ true → ancestors_of lists k ≡ up) → reaches ts m.name ≡ true →
      LeadsTo nodes (inclusive_ancestors ts m.name) m.name up (ancestors_of lists x)
  inclusive_ancestors-from forest none ks s above found = absurd (true≢false (sym found))
  inclusive_ancestors-from forest (tree n c r) [] s above found = absurd s
  inclusive_ancestors-from forest (tree n c r) (k ∷ ks) {up = up} s above found =
      let tells : name_eq n.name m.name ≡ eqb k x = same_name named k x s.0 at in
      elim (eqb_tells k x) [
        | inl e ↦ rw (tells, e.0) ([], refl, ap (map (name_of_key nodes)) (sym (above k (contains-head k ks)) ∙ ap (ancestors_of lists) e.1))
        | inr e ↦
            let off : name_eq n.name m.name ≡ false = tells ∙ e.0 in
            rw off (elim (cases_Bool (reaches c m.name)) [
              | inl h ↦
                  let below = inclusive_ancestors-from forest c (children_of lists k) s.1
                  (λ j child. ancestors_of-child lists forest j k (parent_of_is lists forest.one_list k j child) ∙
                  ap (λ ys. k ∷ ys) (above k (contains-head k ks))) h in
                  let is : name_of_key nodes k ≡ n.name = ap (λ (y : Node). y.name) (get_or_from_slice_get nodes k n _ s.0) in
                  rw below.1 (
                    below.0 ++ n.name ∷ [],
                    refl,
                    append_assoc below.0 (n.name ∷ []) (map (name_of_key nodes) up) ∙
                        (ap (λ z. below.0 ++ z ∷ map (name_of_key nodes) up) (sym is) ∙ below.2),
                  )
              | inr h ↦ rw (none_reached c m.name h).1
                  (inclusive_ancestors-from forest r ks s.2
                  (λ j found_j. above j (or_right (eqb k j) (contains ks j) found_j)) (rw (off, h) at found))
            ])
      ]

  -- the node of a name
  pub find-reached : (ts : Trees) (ks : List ℕ) → Stands nodes lists ts ks → reaches ts m.name ≡ true → find (λ n. name_eq n.name m.name) (nodes_in ts) ≡ Some m
  find-reached none ks s found = absurd (true≢false (sym found))
  find-reached (tree n c r) [] s found = absurd s
  find-reached (tree n c r) (k ∷ ks) s found =
      let tells : name_eq n.name m.name ≡ eqb k x = same_name named k x s.0 at in
      elim (eqb_tells k x) [
        | inl e ↦ rw (tells, e.0) (sym s.0 ∙ (ap (slice_get nodes) e.1 ∙ at))
        | inr e ↦
            let off : name_eq n.name m.name ≡ false = tells ∙ e.0 in
            rw (off, find-append (λ y. name_eq y.name m.name) (nodes_in c) (nodes_in r)) (elim (cases_Bool (reaches c m.name)) [
              | inl h ↦ rw (find-reached c (children_of lists k) s.1 h) refl
              | inr h ↦ rw (none_reached c m.name h).2 (find-reached r ks s.2 (rw (off, h) at found))
            ])
      ]

-- the nodes of a row
pub roots-Stands : (nodes : List Node) (lists : List (List ℕ)) (ts : Trees) (ks : List ℕ) → Stands nodes lists ts ks → roots ts ≡ map (node_at nodes) ks
roots-Stands nodes lists none [] s = refl
roots-Stands nodes lists none (k ∷ ks) s = absurd s
roots-Stands nodes lists (tree n c r) [] s = absurd s
roots-Stands nodes lists (tree n c r) (k ∷ ks) s =
    let is : node_at nodes k ≡ n = get_or_from_slice_get nodes k n _ s.0 in
    let rest = roots-Stands nodes lists r ks s.2 in
    cc

-- the children of a node that is reached
pub trees_below-Stands : (nodes : List Node) (lists : List (List ℕ)) (ts : Trees) (x : ℕ) → Stands nodes lists ts (x ∷ []) →
    Stands nodes lists (trees_below ts) (children_of lists x)
trees_below-Stands nodes lists none x s = absurd s
trees_below-Stands nodes lists (tree n c r) x s = s.1
