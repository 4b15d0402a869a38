-- Each node stands once in the trees, and no others stand there.
use Rattle.dom_base.proofs.Std.{◌≡◌, inl, inr, ℕ, zero, suc, ◌+◌, ◌<◌, ◌≤◌, Bool, true, false, ◌||◌, eqb, List, [], ◌∷◌, ◌++◌, length, Option, Some, None, refl}
use Rattle.dom_base.proofs.Std.{sym, ap, subst, ◌∙◌, arith, true≢false, slice_get, filter, is_none, is_some, range_with_len, count_by, eqb-true, or_cases}
use Rattle.dom_base.proofs.Std.{or_parts, cases_Bool, false_from_ne_true, eqb_tells, ForSome, none-some, slice_get_within, get_or_from_slice_get}
use Rattle.dom_model.proofs.Model.{Owner, NodeName, name_eq, name_before, is_in, Trees, none, tree, Node, nodes as nodes_in, names_of, has_node, times_in}
use Rattle.dom_model.proofs.Model.{name_eq-same, name_eq-true}
use Rattle.node_arena.specs.Nodes.{children_of, contains, parent_of, ancestors_of, IsForest, IsOnce}
use Rattle.node_arena.proofs.Forests.{cases_Option, contains-no_parent, contains-parent, parent_within, ancestors_of-child}
use Rattle.dom_tree.specs.Definitions.{Stored, put_key, in_order, is_root, root_keys, trees_of, NamedTrees, IsKept, stored_names, nodes_of, name_at}
use Rattle.dom_laws.proofs.Laws.{one, one-true, one-false, count-cons, count-append, times_in-none, times_in-tree, times_count}
use Rattle.dom_tree.proofs.Rows.{Stands, IsNamed, same_name, name_of_key}
use Rattle.dom_tree.proofs.Reach.{has_node-reaches, IsChild}
use Rattle.dom_tree.proofs.Roots.{IsOnce-range, contains-filter, contains-in_order, contains-passing, passing-within}
use Rattle.dom_tree.proofs.Changes.{IsWhole, Stands-trees_of, reached, node_here, is_root-none}
use Rattle.dom_tree.proofs.Kept.{seen, IsWhole-kept, name_at-same, within, slice_get-names}
use Rattle.dom_tree.proofs.Placing.{names_tell}

-- how often a key stands in a list
pub times : ℕ → List ℕ → ℕ
times x ks = count_by (λ k. eqb k x) ks

pub times-nil : (x : ℕ) → times x [] ≡ 0
unfolding times
times-nil x = refl

pub times-cons : (x k : ℕ) (ks : List ℕ) → times x (k ∷ ks) ≡ one (eqb k x) + times x ks
unfolding times
times-cons x k ks = count-cons (λ j. eqb j x) k ks

pub times-append : (x : ℕ) (js ks : List ℕ) → times x (js ++ ks) ≡ times x js + times x ks
unfolding times
times-append x js ks = count-append (λ k. eqb k x) js ks

pub times-present : (x : ℕ) (ks : List ℕ) → contains ks x ≡ true → 1 ≤ times x ks
times-present x [] found = absurd (true≢false (sym found))
times-present x (k ∷ ks) found = elim (or_cases (eqb k x) _ found) [
  | inl h ↦ omega (arith, times-cons x k ks, one-true (eqb k x) h)
  | inr h ↦ omega (arith, times-cons x k ks, times-present x ks h)
]

times-absent : (x : ℕ) (ks : List ℕ) → contains ks x ≡ false → times x ks ≡ 0
times-absent x [] absent = times-nil x
times-absent x (k ∷ ks) absent =
    let parts = or_parts (eqb k x) (contains ks x) absent in
    omega (arith, times-cons x k ks, one-false (eqb k x) parts.0, times-absent x ks parts.1)

times-once : (x : ℕ) (ks : List ℕ) → IsOnce ks → contains ks x ≡ true → times x ks ≡ 1
times-once x [] once found = absurd (true≢false (sym found))
times-once x (k ∷ ks) once found = elim (eqb_tells k x) [
  | inl h ↦
      let absent : contains ks x ≡ false = ap (contains ks) (sym h.1) ∙ once.0 in
      omega (arith, times-cons x k ks, one-true (eqb k x) h.0, times-absent x ks absent)
  | inr h ↦
      let rest : contains ks x ≡ true = rw h.0 at found in
      omega (arith, times-cons x k ks, one-false (eqb k x) h.0, times-once x ks once.1 rest)
]

times-put_key : (nodes : List Node) (x c : ℕ) (ks : List ℕ) → times x (put_key nodes c ks) ≡ one (eqb c x) + times x ks
times-put_key nodes x c [] = times-cons x c []
times-put_key nodes x c (k ∷ ks) = elim (cases_Bool (name_before (name_of_key nodes c) (name_of_key nodes k))) [
  | inl e ↦ rw e (times-cons x c (k ∷ ks))
  | inr e ↦ rw e (omega (arith, times-cons x k (put_key nodes c ks), times-cons x k ks, times-put_key nodes x c ks))
]

times-in_order : (nodes : List Node) (x : ℕ) (ks : List ℕ) → times x (in_order nodes ks) ≡ times x ks
times-in_order nodes x [] = refl
times-in_order nodes x (k ∷ ks) = omega (arith, times-put_key nodes x k (in_order nodes ks), times-in_order nodes x ks, times-cons x k ks)

IsOnce-filter : (p : ℕ → Bool) (ks : List ℕ) → IsOnce ks → IsOnce (filter p ks)
IsOnce-filter p [] once = tt
IsOnce-filter p (k ∷ ks) once = elim (cases_Bool (p k)) [
  | inl e ↦ rw e (contains-filter p ks k ∙ rw once.0 refl, IsOnce-filter p ks once.1)
  | inr e ↦ rw e (IsOnce-filter p ks once.1)
]

-- a root stands once among the roots, and no other node
times-root : (nodes : List Node) (lists : List (List ℕ)) (x : ℕ) → x < length lists → parent_of lists x ≡ None → times x (root_keys nodes lists) ≡ 1
times-root nodes lists x node e =
    let found = contains-passing nodes (is_root lists) (length lists) x node (is_root-none lists x e) in
    times-in_order nodes x (filter (is_root lists) (range_with_len 0 (length lists)))
    ∙ times-once x (filter (is_root lists) (range_with_len 0 (length lists)))
    (IsOnce-filter (is_root lists) (range_with_len 0 (length lists)) (IsOnce-range 0 (length lists)))
    (sym (contains-in_order nodes (filter (is_root lists) (range_with_len 0 (length lists))) x) ∙ found)

times-child : (nodes : List Node) (lists : List (List ℕ)) (x p : ℕ) → parent_of lists x ≡ Some p → times x (root_keys nodes lists) ≡ 0
times-child nodes lists x p e =
    times-absent x (root_keys nodes lists)
    (false_from_ne_true _ (λ found. true≢false (sym ((passing-within nodes (is_root lists) (length lists) x found).1) ∙ ap is_none e)))

module _ (nodes : List Node) (lists : List (List ℕ)) (named : IsNamed nodes) where
  -- a node with a parent stands in trees as often as its parent does, besides where it is a root
  times_in-child : IsForest lists → {p x : ℕ} {q m : Node} → IsChild nodes lists p x q m → (ts : Trees) (ks : List ℕ) → Stands nodes lists ts ks →
      times_in ts m.name ≡ times x ks + times_in ts q.name
  times_in-child forest {p = p} {x = x} {q = q} {m = m} pair none [] s = omega (arith, times_in-none m.name, times_in-none q.name, times-nil x)
  times_in-child forest pair none (k ∷ ks) s = absurd s
  times_in-child forest pair (tree n c r) [] s = absurd s
  times_in-child forest {p = p} {x = x} {q = q} {m = m} pair (tree n c r) (k ∷ ks) s =
      let below = times_in-child forest pair c (children_of lists k) s.1 in
      let rest = times_in-child forest pair r ks s.2 in
      let tells_m = ap one (same_name named k x s.0 pair.at_child) in
      let tells_q = ap one (same_name named k p s.0 pair.at_parent) in
      omega (arith, below, rest, tells_m, tells_q, among, times_in-tree n c r m.name, times_in-tree n c r q.name, times-cons x k ks)
    where
      among : times x (children_of lists k) ≡ one (eqb k p)
      among = elim (eqb_tells k p) [
        | inl h ↦ times-once x (children_of lists k) (forest.once k) (ap (λ j. contains (children_of lists j) x) h.1 ∙ pair.child) ∙ sym (one-true _ h.0)
        | inr h ↦ times-absent x (children_of lists k) (false_from_ne_true _ (λ found. h.1 (forest.one_list k p x found pair.child))) ∙ sym (one-false _ h.0)
      ]

  -- and a root as often as among the roots
  times_in-root : (x : ℕ) {m : Node} → slice_get nodes x ≡ Some m → parent_of lists x ≡ None → (ts : Trees) (ks : List ℕ) → Stands nodes lists ts ks →
      times_in ts m.name ≡ times x ks
  times_in-root x {m = m} at root none [] s = times_in-none m.name ∙ sym (times-nil x)
  times_in-root x at root none (k ∷ ks) s = absurd s
  times_in-root x at root (tree n c r) [] s = absurd s
  times_in-root x {m = m} at root (tree n c r) (k ∷ ks) s =
      let below = times_in-root x at root c (children_of lists k) s.1 in
      let rest = times_in-root x at root r ks s.2 in
      let tells = ap one (same_name named k x s.0 at) in
      let among = times-absent x (children_of lists k) (contains-no_parent lists x root k) in
      omega (arith, below, rest, tells, among, times_in-tree n c r m.name, times-cons x k ks)

once-root : (nodes : List Node) (lists : List (List ℕ)) → IsWhole nodes lists → (x : ℕ) → x < length lists → parent_of lists x ≡ None →
    times_in (trees_of nodes lists) (name_of_key nodes x) ≡ 1
once-root nodes lists whole x node e =
    times_in-root nodes lists whole.named x (node_here nodes lists whole x node) e (trees_of nodes lists)
    (root_keys nodes lists) (Stands-trees_of nodes lists whole)
    ∙ times-root nodes lists x node e

once-child : {nodes : List Node} {lists : List (List ℕ)} → IsWhole nodes lists → (x : ℕ) {p : ℕ} → x < length lists → parent_of lists x ≡ Some p
    → times_in (trees_of nodes lists) (name_of_key nodes p) ≡ 1 → times_in (trees_of nodes lists) (name_of_key nodes x) ≡ 1
once-child {nodes} {lists} whole x {p} node e above =
    let child = contains-parent lists x p e in
    let inside = parent_within lists p x child in
    let more = times_in-child nodes lists whole.named whole.forest (record {
      at_parent = node_here nodes lists whole p inside;
      at_child = node_here nodes lists whole x node;
      child = child;
    }) (trees_of nodes lists) (root_keys nodes lists) (Stands-trees_of nodes lists whole) in
    omega (arith, more, above, times-child nodes lists x p e)

pub once-within : {nodes : List Node} {lists : List (List ℕ)} → IsWhole nodes lists → (d x : ℕ) → length (ancestors_of lists x) ≤ d →
    x < length lists → times_in (trees_of nodes lists) (name_of_key nodes x) ≡ 1
once-within {nodes} {lists} whole zero x deep node = elim (cases_Option (parent_of lists x)) [
  | inl e ↦ once-root nodes lists whole x node e
  | inr w ↦ absurd (omega (arith, ap (length {A = ℕ}) (ancestors_of-child lists whole.forest x w.0 w.1)))
]
once-within {nodes} {lists} whole (suc d) x deep node = elim (cases_Option (parent_of lists x)) [
  | inl e ↦ once-root nodes lists whole x node e
  | inr w ↦
      once-child whole x node w.1
      (once-within whole d w.0 (omega (arith, ap (length {A = ℕ}) (ancestors_of-child lists whole.forest x w.0 w.1)))
      (parent_within lists w.0 x (contains-parent lists x w.0 w.1)))
]

-- the nodes in the trees are those of keys
is_in-names : (x : NodeName) (ms ns : List Node) → is_in name_eq x (names_of (ms ++ ns)) ≡ (is_in name_eq x (names_of ms) || is_in name_eq x (names_of ns))
is_in-names x [] ns = refl
is_in-names x (m ∷ ms) ns = ap (λ b. name_eq x m.name || b) (is_in-names x ms ns) ∙ turned (name_eq x m.name) (is_in name_eq x (names_of ms))
    (is_in name_eq x (names_of ns))
  where
    turned : (a b c : Bool) → (a || (b || c)) ≡ ((a || b) || c)
    turned true b c = refl
    turned false b c = refl

abbrev pub HasKey : List Node → NodeName → Type 0
HasKey nodes x = (k : ℕ) × (n : Node) × (slice_get nodes k ≡ Some n) × (n.name ≡ x)

only-Stands : (nodes : List Node) (lists : List (List ℕ)) {x : NodeName} (ts : Trees) (ks : List ℕ) → Stands nodes lists ts ks →
    is_in name_eq x (names_of (nodes_in ts)) ≡ true → HasKey nodes x
only-Stands nodes lists none ks s found = absurd (true≢false (sym found))
only-Stands nodes lists (tree n c r) [] s found = absurd s
only-Stands nodes lists {x} (tree n c r) (k ∷ ks) s found = elim (or_cases (name_eq x n.name) _ found) [
  | inl h ↦ (k, n, s.0, sym (name_eq-true x n.name h))
  | inr h ↦ elim (or_cases (is_in name_eq x (names_of (nodes_in c))) _ (sym (is_in-names x (nodes_in c) (nodes_in r)) ∙ h)) [
    | inl i ↦ only-Stands nodes lists c (children_of lists k) s.1 i
    | inr i ↦ only-Stands nodes lists r ks s.2 i
  ]
]

-- ---- the answers

module _ {f : NamedTrees} {ps : List Stored} {lists : List (List ℕ)} {keys : Owner → List ℕ} (is : seen ps lists ≡ f) (kept : IsKept ps lists keys) where
  pub shows_distinct : (j k : ℕ) → j < length f.names → k < length f.names → name_at f.names j ≡ name_at f.names k → j ≡ k
  shows_distinct j k at_j at_k e =
      sym (eqb-true k j (sym (names_tell is kept j k at_j at_k) ∙ (ap (name_eq (name_at f.names j)) (sym e) ∙ name_eq-same (name_at f.names j))))

  pub shows_once : (k : ℕ) → k < length f.names → count_by (λ n. name_eq n.name (name_at f.names k)) (nodes_in f.trees) ≡ 1
  shows_once k node =
      let inside = within is kept k node in
      sym (times_count f.trees (name_at f.names k)) ∙ subst (λ (g : NamedTrees). times_in g.trees (name_at g.names k) ≡ 1) is
      (ap (times_in (trees_of (nodes_of ps) lists)) (name_at-same (stored_names ps) ps k)
      ∙ once-within (IsWhole-kept kept) (length (ancestors_of lists k)) k (omega arith) (omega (arith, kept.paired)))

  pub shows_only : (x : NodeName) → has_node f.trees x ≡ true → (k : ℕ) × (slice_get f.names k ≡ Some x)
  shows_only x found =
      let whole = IsWhole-kept kept in
      let key = only-Stands (nodes_of ps) lists (trees_of (nodes_of ps) lists) (root_keys (nodes_of ps) lists)
      (Stands-trees_of (nodes_of ps) lists whole) (ap (λ (g : NamedTrees). has_node g.trees x) is ∙ found) in
      (key.0, ap (λ (g : NamedTrees). slice_get g.names key.0) (sym is) ∙ (slice_get-names (stored_names ps) ps key.0 key.1 key.2 ∙ ap Some key.3))

  pub shows_there : (k : ℕ) → k < length f.names → has_node f.trees (name_at f.names k) ≡ true
  shows_there k node =
      let inside = within is kept k node in
      subst (λ (g : NamedTrees). has_node g.trees (name_at g.names k) ≡ true) is
      (ap (has_node (trees_of (nodes_of ps) lists)) (name_at-same (stored_names ps) ps k)
      ∙ (has_node-reaches (trees_of (nodes_of ps) lists) (name_of_key (nodes_of ps) k) ∙ reached (nodes_of ps) lists (IsWhole-kept kept) k
      (omega (arith, kept.paired))))

  -- what is found is there
  pub shows_present : (x : NodeName) (r : Option ℕ) → ((k : ℕ) → slice_get f.names k ≡ Some x → r ≡ Some k) → ForSome r (λ k. slice_get f.names k ≡ Some x) →
      is_some r ≡ has_node f.trees x
  shows_present x None all found = sym (false_from_ne_true _ (λ there.
      let key = shows_only x there in
      none-some key.0 (all key.0 key.1)))
  shows_present x (Some k) all found =
      let at = found k refl in
      sym (ap (has_node f.trees) (sym (get_or_from_slice_get f.names k x _ at)) ∙ shows_there k (slice_get_within f.names k x at))
