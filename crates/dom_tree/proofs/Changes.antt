-- What the changes of an arena do to the trees that it stands for.
use Rattle.dom_base.proofs.Std.{◌≡◌, ◌≢◌, inl, inr, ℕ, zero, suc, ◌<◌, ◌≤◌, Bool, true, false, not, ◌&&◌, ◌||◌, eqb, List, [], ◌∷◌, ◌++◌, map, length, set}
use Rattle.dom_base.proofs.Std.{Option, Some, None, is_none, refl, sym, ap, subst, ◌∙◌, arith, true≢false, slice_get, filter, range_with_len, option_map}
use Rattle.dom_base.proofs.Std.{eq-eqb, ne_eqb, eqb-true, both_ways, or_cases, or_left, or_right, cases_Bool, false_from_ne_true, and_right, eqb_tells}
use Rattle.dom_base.proofs.Std.{get_or-set_same, get_or-set_other, length-set, length-map, length_push, get_or_append_left, slice_get-get_or, slice_get_within}
use Rattle.dom_base.proofs.Std.{get_or_from_slice_get, none-some}
use Rattle.dom_model.proofs.Model.{NodeName, Trees, none, tree, Node, subtree, without, put_root, map_nodes, placed, taken_out, with_node}
use Rattle.node_arena.specs.Nodes.{children_of, contains, parent_of, ancestors_of, IsForest, without as without_key, put_before as put_key_before}
use Rattle.node_arena.specs.Nodes.{insert_before}
use Rattle.node_arena.proofs.Forests.{cases_Option, contains-no_parent, parent_of_same, parent_of_none, parent_of_is, ancestors_of-child}
use Rattle.node_arena.proofs.Forests.{ancestors_of-root, children_of-push, children_of-pushed, parent_of-pushed, children_of-without}
use Rattle.node_arena.proofs.Forests.{IsForest-without, IsForest-push}
use Rattle.node_arena.proofs.Lists.{contains-append, contains-head, without-absent, contains-without_same, contains-without_other}
use Rattle.dom_tree.specs.Definitions.{node_at, put_key, is_root, root_keys, trees_of}
use Rattle.dom_tree.proofs.Rows.{Stands, Stands-one, Stands-trees_on, Stands-kept, Stands-map_nodes, Stands-without, Stands-put_below}
use Rattle.dom_tree.proofs.Rows.{Stands-put_root, IsNamed, name_of_key}
use Rattle.dom_tree.proofs.Reach.{reaches, reaches-all, Stands-subtree}
use Rattle.dom_tree.proofs.Roots.{or_turned, passing, contains-passing, passing-within, passing-same, passing-more, without-passing, passing-push}
use Rattle.dom_tree.proofs.Roots.{passing_range, in_order-same}

-- each node has a name of its own and a list, and the lists make a forest
pub record IsWhole (nodes : List Node) (lists : List (List ℕ)) : Type 0 where
  pub named : IsNamed nodes
  pub forest : IsForest lists
  pub paired : length nodes ≡ length lists

-- the trees stand for the roots
pub Stands-trees_of : (nodes : List Node) (lists : List (List ℕ)) → IsWhole nodes lists → Stands nodes lists (trees_of nodes lists) (root_keys nodes lists)
Stands-trees_of nodes lists whole =
    Stands-trees_on nodes lists whole.forest whole.paired (root_keys nodes lists) (λ k found. (passing-within nodes (is_root lists) (length lists) k found).0)

-- and are the only ones that do
pub trees_of_is : (nodes : List Node) (lists : List (List ℕ)) → IsWhole nodes lists → (ts : Trees) →
    Stands nodes lists ts (root_keys nodes lists) → trees_of nodes lists ≡ ts
trees_of_is nodes lists whole ts s = Stands-one nodes lists (trees_of nodes lists) (root_keys nodes lists) (Stands-trees_of nodes lists whole) s

pub is_root-none : (lists : List (List ℕ)) (k : ℕ) → parent_of lists k ≡ None → is_root lists k ≡ true
is_root-none lists k e = ap is_none e

-- each node is reached
pub reached : (nodes : List Node) (lists : List (List ℕ)) → IsWhole nodes lists → (x : ℕ) → x < length lists →
    reaches (trees_of nodes lists) (name_of_key nodes x) ≡ true
reached nodes lists whole x node =
    reaches-all nodes lists whole.named whole.forest whole.paired (trees_of nodes lists) (root_keys nodes lists) (Stands-trees_of nodes lists whole)
    (λ k within e. contains-passing nodes (is_root lists) (length lists) k within (is_root-none lists k e)) x node

pub node_here : (nodes : List Node) (lists : List (List ℕ)) → IsWhole nodes lists → (x : ℕ) → x < length lists → slice_get nodes x ≡ Some (node_at nodes x)
node_here nodes lists whole x node = slice_get-get_or nodes x _ (let paired = whole.paired in omega arith)

pub subtree_here : (nodes : List Node) (lists : List (List ℕ)) → IsWhole nodes lists → (x : ℕ) → x < length lists →
    Stands nodes lists (subtree (trees_of nodes lists) (name_of_key nodes x)) (x ∷ [])
subtree_here nodes lists whole x node =
    Stands-subtree nodes lists whole.named x (node_at nodes x) (node_here nodes lists whole x node) (trees_of nodes lists) (root_keys nodes lists)
    (Stands-trees_of nodes lists whole) (reached nodes lists whole x node)

-- ---- the nodes above a node

-- the parent of what is above a node is above it too
parent_above : (lists : List (List ℕ)) → IsForest lists → (x k : ℕ) → contains (children_of lists k) x ≡ true → contains (x ∷ ancestors_of lists x) k ≡ true
parent_above lists forest x k child =
    let up = ancestors_of-child lists forest x k (parent_of_is lists forest.one_list k x child) in
    or_right (eqb x k) _ (ap (λ ys. contains ys k) up ∙ contains-head k (ancestors_of lists k))

pub above_up : {lists : List (List ℕ)} → IsForest lists → (x j k : ℕ) → contains (children_of lists k) j ≡ true →
    contains (x ∷ ancestors_of lists x) j ≡ true → contains (x ∷ ancestors_of lists x) k ≡ true
above_up {lists} forest x j k child found = up (length (ancestors_of lists x)) x (omega arith) found
  where
    up : (d y : ℕ) → length (ancestors_of lists y) ≤ d → contains (y ∷ ancestors_of lists y) j ≡ true → contains (y ∷ ancestors_of lists y) k ≡ true
    up zero y deep there = elim (or_cases (eqb y j) _ there) [
      | inl h ↦ parent_above lists forest y k (ap (contains (children_of lists k)) (eqb-true y j h) ∙ child)
      | inr h ↦ elim (cases_Option (parent_of lists y)) [
        | inl e ↦ absurd (true≢false (sym (ap (λ ys. contains ys j) (sym (ancestors_of-root lists y e)) ∙ h)))
        | inr w ↦ absurd (omega (arith, ap (length {A = ℕ}) (ancestors_of-child lists forest y w.0 w.1)))
      ]
    ]
    up (suc d) y deep there = elim (or_cases (eqb y j) _ there) [
      | inl h ↦ parent_above lists forest y k (ap (contains (children_of lists k)) (eqb-true y j h) ∙ child)
      | inr h ↦ elim (cases_Option (parent_of lists y)) [
        | inl e ↦ absurd (true≢false (sym (ap (λ ys. contains ys j) (sym (ancestors_of-root lists y e)) ∙ h)))
        | inr w ↦
            let line = ancestors_of-child lists forest y w.0 w.1 in
            let more = up d w.0 (omega (arith, ap (length {A = ℕ}) line)) (ap (λ ys. contains ys j) (sym line) ∙ h) in
            or_right (eqb y k) _ (ap (λ ys. contains ys k) line ∙ more)
      ]
    ]

-- ---- a node linked into a list

contains-put_before : (xs : List ℕ) (c b k : ℕ) → contains (put_key_before xs c b) k ≡ (eqb c k || contains xs k)
contains-put_before [] c b k = refl
contains-put_before (x ∷ xs) c b k = elim (cases_Bool (eqb x b)) [
  | inl e ↦ rw e refl
  | inr e ↦ rw (e, contains-put_before xs c b k) (or_turned (eqb x k) (eqb c k) (contains xs k))
]

pub contains-insert_before : (xs : List ℕ) (c : ℕ) (before : Option ℕ) (k : ℕ) → contains (insert_before xs c before) k ≡ (eqb c k || contains xs k)
contains-insert_before xs c None k = contains-append xs (c ∷ []) k ∙ turned (contains xs k) (eqb c k)
  where
    turned : (x y : Bool) → (x || (y || false)) ≡ (y || x)
    turned true true = refl
    turned x y = refl
contains-insert_before xs c (Some b) k = contains-put_before xs c b k

abbrev pub linked : List (List ℕ) → ℕ → ℕ → Option ℕ → List (List ℕ)
linked lists p c before = set lists p (insert_before (children_of lists p) c before)

-- what a link asks
pub record LinkAsked (nodes : List Node) (lists : List (List ℕ)) (p c : ℕ) (before : Option ℕ) : Type 0 where
  pub whole : IsWhole nodes lists
  pub parent_node : p < length lists
  pub child_node : c < length lists
  pub unlinked : parent_of lists c ≡ None
  pub not_above : contains (p ∷ ancestors_of lists p) c ≡ false
  pub before_node : (b : ℕ) → before ≡ Some b → b < length lists
  pub after : IsForest (linked lists p c before)

pub trees_of-linked : (nodes : List Node) (lists : List (List ℕ)) (p c : ℕ) (before : Option ℕ) → LinkAsked nodes lists p c before
    → trees_of nodes (linked lists p c before) ≡ placed (name_of_key nodes c) (name_of_key nodes p) (option_map (name_of_key nodes) before)
    (trees_of nodes lists)
trees_of-linked nodes lists p c before asked =
    trees_of_is nodes changed whole_after _
    (subst (λ (ks : List ℕ). Stands nodes changed (placed (name_of_key nodes c) (name_of_key nodes p) (option_map (name_of_key nodes) before) ts)
    ks) (sym same_roots) placed_stands)
  where
    whole : IsWhole nodes lists
    whole = asked.whole

    changed : List (List ℕ)
    changed = linked lists p c before

    as_long : length changed ≡ length lists
    as_long = length-set lists p (insert_before (children_of lists p) c before)

    whole_after : IsWhole nodes changed
    whole_after = record { named = whole.named; forest = asked.after; paired = whole.paired ∙ sym as_long }

    ts : Trees
    ts = trees_of nodes lists

    here : children_of changed p ≡ insert_before (children_of lists p) c before
    here = get_or-set_same lists p (insert_before (children_of lists p) c before) [] asked.parent_node

    there : (k : ℕ) → k ≢ p → children_of changed k ≡ children_of lists k
    there k other = get_or-set_other lists p k (insert_before (children_of lists p) c before) [] other

    absent : (k : ℕ) → contains (children_of lists k) c ≡ false
    absent = contains-no_parent lists c asked.unlinked

    fewer : (k : ℕ) → children_of (map (without_key c) lists) k ≡ children_of lists k
    fewer k = children_of-without lists c k ∙ without-absent c (children_of lists k) (absent k)

    new : Stands nodes changed (subtree ts (name_of_key nodes c)) (c ∷ [])
    new = Stands-kept nodes nodes lists {P = λ k. contains (p ∷ ancestors_of lists p) k ≡ false} (record {
      node = λ k n apart at. at;
      list = λ k apart. there k (λ e. both_ways _ apart (or_left (eqb p k) _ (eq-eqb p k (sym e))));
      down = λ k j apart child. false_from_ne_true _ (λ found. both_ways _ apart (above_up whole.forest p j k child found));
    })
        (subtree ts (name_of_key nodes c)) (c ∷ []) (λ k found. elim (or_cases (eqb c k) false found) [
          | inl h ↦ ap (contains (p ∷ ancestors_of lists p)) (sym (eqb-true c k h)) ∙ asked.not_above
          | inr h ↦ absurd (true≢false (sym h))
        ]) (subtree_here nodes lists whole c asked.child_node)

    placed_stands : Stands nodes changed (placed (name_of_key nodes c) (name_of_key nodes p) (option_map (name_of_key nodes) before) ts)
        (without_key c (root_keys nodes lists))
    placed_stands = Stands-put_below (record {
      named = whole.named;
      alone = new;
      within = λ b e. omega (arith, asked.before_node b e, whole.paired);
      here = here ∙ ap (λ ks. insert_before ks c before) (sym (fewer p));
      there = λ k other. there k other ∙ sym (fewer k);
    }) (node_here nodes lists whole p asked.parent_node)
        (without (name_of_key nodes c) ts) (without_key c (root_keys nodes lists))
        (Stands-without nodes lists whole.named c (node_here nodes lists whole c asked.child_node) ts (root_keys nodes lists)
        (Stands-trees_of nodes lists whole))

    holders : (k : ℕ) → k ≢ c → (q : ℕ) → contains (children_of lists q) k ≡ contains (children_of changed q) k
    holders k other q = elim (eqb_tells q p) [
      | inl h ↦
          ap (λ j. contains (children_of lists j) k) h.1 ∙
          (sym (contains-insert_before (children_of lists p) c before k ∙ ap (λ b. b || contains (children_of lists p) k)
          (ne_eqb c k (λ e. other (sym e)))) ∙ (ap (λ ks. contains ks k) (sym here) ∙ ap (λ j. contains (children_of changed j) k) (sym h.1)))
      | inr h ↦ ap (λ ks. contains ks k) (sym (there q h.1))
    ]

    has_parent : parent_of changed c ≡ Some p
    has_parent = parent_of_is changed asked.after.one_list p c
        (ap (λ ks. contains ks c) here ∙ (contains-insert_before (children_of lists p) c before c ∙ or_left (eqb c c) _ (eq-eqb c c refl)))

    same_roots : root_keys nodes changed ≡ without_key c (root_keys nodes lists)
    same_roots = ap (passing nodes (is_root changed)) as_long
        ∙ sym (without-passing whole.named c whole.paired asked.child_node
        (ap is_none has_parent) (λ k other. ap is_none (parent_of_same lists changed k (holders k other))))

-- ---- a node taken out of its list

pub trees_of-unlinked : (nodes : List Node) (lists : List (List ℕ)) (c : ℕ) → IsWhole nodes lists → c < length lists
    → trees_of nodes (map (without_key c) lists) ≡ taken_out (name_of_key nodes c) (trees_of nodes lists)
trees_of-unlinked nodes lists c whole node =
    trees_of_is nodes changed whole_after _
    (subst (λ (ks : List ℕ). Stands nodes changed (taken_out (name_of_key nodes c) ts) ks) (sym same_roots) taken)
  where
    changed : List (List ℕ)
    changed = map (without_key c) lists

    as_long : length changed ≡ length lists
    as_long = length-map lists (without_key c)

    after : IsForest changed
    after = IsForest-without lists c whole.forest

    whole_after : IsWhole nodes changed
    whole_after = record { named = whole.named; forest = after; paired = whole.paired ∙ sym as_long }

    ts : Trees
    ts = trees_of nodes lists

    -- the node is no child of what is below it
    apart : (k : ℕ) → contains (k ∷ ancestors_of lists k) c ≡ true → contains (children_of lists k) c ≡ false
    apart k under = false_from_ne_true _
        (λ child. both_ways _ (whole.forest.acyclic c)
        (ap (λ ys. contains ys c) (ancestors_of-child lists whole.forest c k (parent_of_is lists whole.forest.one_list k c child)) ∙ under))

    alone : Stands nodes changed (subtree ts (name_of_key nodes c)) (c ∷ [])
    alone = Stands-kept nodes nodes lists {P = λ k. contains (k ∷ ancestors_of lists k) c ≡ true} (record {
      node = λ k n under at. at;
      list = λ k under. children_of-without lists c k ∙ without-absent c (children_of lists k) (apart k under);
      down = λ k j under child. or_right (eqb j c) _
          (ap (λ ys. contains ys c) (ancestors_of-child lists whole.forest j k (parent_of_is lists whole.forest.one_list k j child)) ∙ under);
    })
        (subtree ts (name_of_key nodes c)) (c ∷ []) (λ k found. elim (or_cases (eqb c k) false found) [
          | inl h ↦ or_left (eqb k c) _ (eq-eqb k c (sym (eqb-true c k h)))
          | inr h ↦ absurd (true≢false (sym h))
        ]) (subtree_here nodes lists whole c node)

    taken : Stands nodes changed (taken_out (name_of_key nodes c) ts) (put_key nodes c (without_key c (root_keys nodes lists)))
    taken = Stands-put_root nodes changed (subtree ts (name_of_key nodes c)) c alone (without (name_of_key nodes c) ts) (without_key c (root_keys nodes lists))
        (Stands-without nodes lists whole.named c (node_here nodes lists whole c node) ts (root_keys nodes lists)
        (Stands-trees_of nodes lists whole))

    holders : (k : ℕ) → k ≢ c → (q : ℕ) → contains (children_of changed q) k ≡ contains (children_of lists q) k
    holders k other q = ap (λ ks. contains ks k) (children_of-without lists c q) ∙ contains-without_other c (children_of lists q) k (λ e. other (sym e))

    no_parent : parent_of changed c ≡ None
    no_parent = parent_of_none changed c (λ q. ap (λ ks. contains ks c) (children_of-without lists c q) ∙ contains-without_same c (children_of lists q))

    other_root : ℕ → Bool
    other_root k = is_root lists k && not (eqb k c)

    not_here : other_root c ≡ false
    not_here = and_right (is_root lists c) _ (ap not (eq-eqb c c refl))

    elsewhere : (k : ℕ) → k ≢ c → is_root lists k ≡ other_root k
    elsewhere k other = sym (ap (λ b. is_root lists k && not b) (ne_eqb k c other) ∙ both (is_root lists k))
      where
        both : (b : Bool) → (b && true) ≡ b
        both true = refl
        both false = refl

    same_roots : root_keys nodes changed ≡ put_key nodes c (without_key c (root_keys nodes lists))
    same_roots = ap (passing nodes (is_root changed)) as_long
        ∙ (passing-more whole.named {p = other_root} {q = is_root changed} (record {
          out = not_here;
          into = ap is_none no_parent;
          same = λ k other. ap is_none (parent_of_same changed lists k (holders k other)) ∙ elsewhere k other;
        }) (length lists) whole.paired node
        ∙ ap (put_key nodes c) (sym (without-passing whole.named c whole.paired node not_here elsewhere)))

-- ---- a node more

pub slice_get-pushed : {X : Type 0} (xs : List X) (x : X) → slice_get (xs ++ x ∷ []) (length xs) ≡ Some x
slice_get-pushed [] x = refl
slice_get-pushed (y ∷ xs) x = slice_get-pushed xs x

pub slice_get-push : {X : Type 0} (xs : List X) (x y : X) (k : ℕ) → slice_get xs k ≡ Some y → slice_get (xs ++ x ∷ []) k ≡ Some y
slice_get-push [] x y k e = absurd (none-some y e)
slice_get-push (z ∷ xs) x y zero e = e
slice_get-push (z ∷ xs) x y (suc k) e = slice_get-push xs x y k e

pub trees_of-push : (nodes : List Node) (lists : List (List ℕ)) (m : Node) → IsWhole nodes lists → IsNamed (nodes ++ m ∷ [])
    → trees_of (nodes ++ m ∷ []) (lists ++ [] ∷ []) ≡ with_node m (trees_of nodes lists)
trees_of-push nodes lists m whole named =
    trees_of_is more changed whole_after _ (subst (λ (ks : List ℕ). Stands more changed (with_node m ts) ks) (sym same_roots) added)
  where
    more : List Node
    more = nodes ++ m ∷ []

    changed : List (List ℕ)
    changed = lists ++ [] ∷ []

    n : ℕ
    n = length lists

    as_long : length changed ≡ suc n
    as_long = length_push lists [] ∙ omega arith

    nodes_long : length more ≡ suc n
    nodes_long = length_push nodes m ∙ omega (arith, whole.paired)

    whole_after : IsWhole more changed
    whole_after = record { named = named; forest = IsForest-push lists whole.forest; paired = nodes_long ∙ sym as_long }

    ts : Trees
    ts = trees_of nodes lists

    new_here : slice_get more n ≡ Some m
    new_here = ap (slice_get more) (sym whole.paired) ∙ slice_get-pushed nodes m

    alone : Stands more changed (tree m none none) (n ∷ [])
    alone = (new_here, subst (λ (js : List ℕ). Stands more changed none js) (sym (children_of-pushed lists)) tt, tt)

    kept : Stands more changed ts (root_keys nodes lists)
    kept = Stands-kept nodes more lists {P = λ k. k < n} (record {
      node = λ k y within at. slice_get-push nodes m y k at;
      list = λ k within. children_of-push lists k;
      down = λ k j within child. whole.forest.nodes k j child;
    })
        ts (root_keys nodes lists) (λ k found. (passing-within nodes (is_root lists) n k found).0) (Stands-trees_of nodes lists whole)

    new_name : name_of_key more n ≡ m.name
    new_name = ap (λ (y : Node). y.name) (get_or_from_slice_get more n m _ new_here)

    added : Stands more changed (with_node m ts) (put_key more n (root_keys nodes lists))
    added = subst (λ (x : NodeName). Stands more changed (put_root x (tree m none none) ts) (put_key more n (root_keys nodes lists))) new_name
        (Stands-put_root more changed (tree m none none) n alone ts (root_keys nodes lists) kept)

    root_same : (k : ℕ) → k < n → is_root changed k ≡ is_root lists k
    root_same k within = ap is_none (parent_of_same changed lists k (λ q. ap (λ ks. contains ks k) (children_of-push lists q)))

    name_same : (k : ℕ) → k < n → name_of_key more k ≡ name_of_key nodes k
    name_same k within = ap (λ (y : Node). y.name) (get_or_append_left nodes (m ∷ []) _ k (omega (arith, whole.paired)))

    same_roots : root_keys more changed ≡ put_key more n (root_keys nodes lists)
    same_roots = ap (passing more (is_root changed)) as_long
        ∙ (passing-push more (is_root changed) n named nodes_long (ap is_none (parent_of-pushed lists whole.forest))
        ∙ ap (put_key more n) (passing-same more (is_root changed) (is_root lists) n root_same ∙
        in_order-same more nodes (filter (is_root lists) (range_with_len 0 n))
        (λ k found. name_same k (passing_range (is_root lists) n k found))))

-- ---- nodes with other contents

pub trees_of-map : {nodes : List Node} (others : List Node) {lists : List (List ℕ)} {f : Node → Node} → IsWhole nodes lists → length others ≡ length nodes
    → ((y : Node) → (f y).name ≡ y.name) → ((k : ℕ) (y : Node) → slice_get nodes k ≡ Some y → slice_get others k ≡ Some (f y))
    → trees_of others lists ≡ map_nodes f (trees_of nodes lists)
trees_of-map {nodes} others {lists} {f} whole as_long keeps each =
    trees_of_is others lists whole_after _ (subst (λ (ks : List ℕ). Stands others lists (map_nodes f ts) ks) (sym same_roots) mapped)
  where
    ts : Trees
    ts = trees_of nodes lists

    n : ℕ
    n = length lists

    mapped : Stands others lists (map_nodes f ts) (root_keys nodes lists)
    mapped = Stands-map_nodes nodes others lists f each ts (root_keys nodes lists) (Stands-trees_of nodes lists whole)

    name_same : (k : ℕ) → k < n → name_of_key others k ≡ name_of_key nodes k
    name_same k within =
        let at = node_here nodes lists whole k within in
        ap (λ (y : Node). y.name) (get_or_from_slice_get others k (f (node_at nodes k)) _ (each k (node_at nodes k) at)) ∙ keeps (node_at nodes k)

    named_after : IsNamed others
    named_after = record {
      distinct = λ j k x y at_j at_k e.
          let j_within : j < n = omega (arith, slice_get_within others j x at_j, whole.paired) in
          let k_within : k < n = omega (arith, slice_get_within others k y at_k, whole.paired) in
          let x_name : name_of_key others j ≡ x.name = ap (λ (y : Node). y.name) (get_or_from_slice_get others j x _ at_j) in
          let y_name : name_of_key others k ≡ y.name = ap (λ (y : Node). y.name) (get_or_from_slice_get others k y _ at_k) in
          whole.named.distinct j k (node_at nodes j) (node_at nodes k) (node_here nodes lists whole j j_within) (node_here nodes lists whole k k_within)
          (sym (name_same j j_within) ∙ (x_name ∙ (e ∙ (sym y_name ∙ name_same k k_within))));
    }

    whole_after : IsWhole others lists
    whole_after = record { named = named_after; forest = whole.forest; paired = as_long ∙ whole.paired }

    same_roots : root_keys others lists ≡ root_keys nodes lists
    same_roots = in_order-same others nodes (filter (is_root lists) (range_with_len 0 n)) (λ k found. name_same k (passing_range (is_root lists) n k found))
