-- Tree order among the keys for which trees stand, backward.
use Rattle.dom_base.proofs.Std.{◌≡◌, ◌⊎◌, inl, inr, ℕ, ◌-◌, ◌<◌, true, false, cond, eqb, List, [], ◌∷◌, ◌++◌, length, Option, Some, None, refl, sym, ap, ◌∙◌}
use Rattle.dom_base.proofs.Std.{arith, true≢false, option_map, option_map_or, option_and_then, eq-eqb, ne_eqb, eqb-true, both_ways, or_cases, or_left, or_right}
use Rattle.dom_base.proofs.Std.{cases_Bool, false_from_ne_true, eqb_tells, none-some, same_Some}
use Rattle.dom_model.proofs.Model.{Owner, name_eq, last_of, items_before, Trees, none, tree, Node, inclusive_descendants}
use Rattle.node_arena.specs.Nodes.{children_of, contains, parent_of, ancestors_of, IsForest, IsOnce, last_from, last_of as last_key, prev_from}
use Rattle.node_arena.specs.Nodes.{prev_in, prev_of}
use Rattle.node_arena.proofs.Lists.{contains-append, contains-prev_in, contains-last_of, IsOnce-apart}
use Rattle.node_arena.proofs.Lists.{last_from-append, prev_from-append}
use Rattle.node_arena.proofs.Forests.{contains-parent, ancestors_of-child, length-ancestors_of}
use Rattle.dom_tree.specs.Definitions.{Stored, trees_of, NamedTrees, IsKept, nodes_of, name_at}
use Rattle.dom_tree.proofs.Rows.{Stands, name_of_key}
use Rattle.dom_tree.proofs.Changes.{IsWhole, subtree_here}
use Rattle.dom_tree.proofs.Reading.{last_or-items_before}
use Rattle.dom_tree.proofs.Kept.{seen}
use Rattle.node_arena.proofs.Indexes.{no_prev}
use Rattle.dom_tree.proofs.Order.{in_trees, root-in_trees, child-in_trees, StandsOnce, StandsOnce-below, StandsOnce-rest}
use Rattle.dom_tree.proofs.OrderWithin.{tree_at, keys_at, keys_at-inside, keys_at-named}
use Rattle.dom_tree.proofs.OrderWithin.{keys_at-told, keys_at-standing, still_below, has_above, IsAbove, shows_picked}

-- the last of the nodes below a node and with it
abbrev pub last_below : List (List ℕ) → Trees → List ℕ → ℕ → Option ℕ
last_below lists none ks x = None
last_below lists (tree n c r) [] x = None
last_below lists (tree n c r) (k ∷ ks) x =
    cond (eqb k x) (last_from (Some k) (in_trees lists c (children_of lists k)))
    (cond (contains (in_trees lists c (children_of lists k)) x) (last_below lists c (children_of lists k) x) (last_below lists r ks x))

-- where keys stand once, a node below the first is not the first, and one after that is not below it
module _ (k : ℕ) (below rest : List ℕ) (once : (contains (below ++ rest) k ≡ false) × IsOnce (below ++ rest)) where
  off_left : (y : ℕ) → contains below y ≡ true → eqb k y ≡ false
  off_left y there = ne_eqb k y (λ e. both_ways _ once.0 (contains-append below rest k ∙ or_left (contains below k) _ (ap (contains below) e ∙ there)))

  off_right : (y : ℕ) → contains rest y ≡ true → eqb k y ≡ false
  off_right y there = ne_eqb k y (λ e. both_ways _ once.0 (contains-append below rest k ∙ or_right (contains below k) _ (ap (contains rest) e ∙ there)))

  off_below : (y : ℕ) → contains rest y ≡ true → contains below y ≡ false
  off_below y there = false_from_ne_true _ (λ i. both_ways _ (IsOnce-apart below rest y once.1 i) there)

-- a key among others with none before it
record IsFirst (ks : List ℕ) (x : ℕ) : Type 0 where
  pub found : contains ks x ≡ true
  pub none_before : prev_in ks x ≡ None

module _ (nodes : List Node) (lists : List (List ℕ)) where
  no_keys : (ts : Trees) → Stands nodes lists ts [] → in_trees lists ts [] ≡ []
  no_keys none s = refl
  no_keys (tree n c r) s = absurd s

  -- the last of a row is the last below its last root
  last-in_trees : {y : ℕ} (ts : Trees) (ks : List ℕ) (b : Option ℕ) → StandsOnce nodes lists ts ks → last_from b ks ≡ Some y →
      ((b ≡ Some y) × (in_trees lists ts ks ≡ [])) ⊎ ((contains ks y ≡ true) ×
      ((before : Option ℕ) → last_from before (in_trees lists ts ks) ≡ last_below lists ts ks y))
  last-in_trees none [] b standing e = inl (e, refl)
  last-in_trees none (k ∷ ks) b standing e = absurd standing.stands
  last-in_trees (tree n c r) [] b standing e = absurd standing.stands
  last-in_trees {y = y} (tree n c r) (k ∷ ks) b standing e =
      let below = in_trees lists c (children_of lists k) in
      let rest = in_trees lists r ks in
      elim (last-in_trees r ks (Some k) (StandsOnce-rest standing) e) [
        | inl h ↦
            let same : k ≡ y = same_Some k y h.0 in
            inr (
              or_left (eqb k y) _ (eq-eqb k y same),
              λ before. last_from-append (Some k) below rest ∙
                  (ap (last_from (last_from (Some k) below)) h.1 ∙ rw (eq-eqb k y same) refl),
            )
        | inr h ↦
            let there : contains rest y ≡ true = root-in_trees nodes lists y r ks standing.stands.2 h.0 in
            inr (
              or_right (eqb k y) _ h.0,
              λ before. last_from-append (Some k) below rest ∙
                  (h.1 (last_from (Some k) below) ∙ rw (off_right k below rest standing.once y there, off_below k below rest standing.once y there) refl),
            )
      ]

  -- a node without children is the last below it
  last_below-leaf : (x : ℕ) → last_key (children_of lists x) ≡ None → (ts : Trees) (ks : List ℕ) →
      Stands nodes lists ts ks → contains (in_trees lists ts ks) x ≡ true → last_below lists ts ks x ≡ Some x
  last_below-leaf x leaf none ks s found = absurd (true≢false (sym found))
  last_below-leaf x leaf (tree n c r) [] s found = absurd s
  last_below-leaf x leaf (tree n c r) (k ∷ ks) s found =
      let below = in_trees lists c (children_of lists k) in
      let rest = in_trees lists r ks in
      elim (cases_Bool (eqb k x)) [
        | inl e ↦ rw e (here (eqb-true k x e) (children_of lists k) refl c s.1)
        | inr e ↦
            let there : contains (below ++ rest) x ≡ true = rw e at found in
            elim (cases_Bool (contains below x)) [
              | inl i ↦ rw (e, i) (last_below-leaf x leaf c (children_of lists k) s.1 i)
              | inr i ↦ rw (e, i) (last_below-leaf x leaf r ks s.2 (rw (contains-append below rest x, i) at there))
            ]
      ]
    where
      last_some : (j : ℕ) (js : List ℕ) → last_from (Some j) js ≡ None → ⊥
      last_some j [] e = none-some j (sym e)
      last_some j (i ∷ js) e = last_some i js e

      here : k ≡ x → (js : List ℕ) → children_of lists k ≡ js → (ts' : Trees) → Stands nodes lists ts' js → last_from (Some k) (in_trees lists ts' js) ≡ Some x
      here same [] is ts' s' = ap (last_from (Some k)) (no_keys ts' s') ∙ ap Some same
      here same (j ∷ js) is ts' s' = absurd (last_some j js (ap last_key (sym is ∙ ap (children_of lists) same) ∙ leaf))

  -- and of another one the last below its last child
  last_below-child : (x : ℕ) {y : ℕ} → last_key (children_of lists x) ≡ Some y → (ts : Trees) (ks : List ℕ) → StandsOnce nodes lists ts ks →
      contains (in_trees lists ts ks) x ≡ true → last_below lists ts ks x ≡ last_below lists ts ks y
  last_below-child x last none ks standing found = absurd (true≢false (sym found))
  last_below-child x last (tree n c r) [] standing found = absurd standing.stands
  last_below-child x {y = y} last (tree n c r) (k ∷ ks) standing found =
      let below = in_trees lists c (children_of lists k) in
      let rest = in_trees lists r ks in
      elim (or_cases (eqb k x) _ found) [
        | inl e ↦
            let same : last_key (children_of lists k) ≡ Some y = ap (λ j. last_key (children_of lists j)) (eqb-true k x e) ∙ last in
            elim (last-in_trees c (children_of lists k) None (StandsOnce-below standing) same) [
              | inl h ↦ absurd (none-some y h.0)
              | inr h ↦
                  let there : contains below y ≡ true = root-in_trees nodes lists y c (children_of lists k) standing.stands.1 h.0 in
                  rw (e, off_left k below rest standing.once y there, there) (h.1 (Some k))
            ]
        | inr e ↦ elim (or_cases (contains below x) _ (sym (contains-append below rest x) ∙ e)) [
          | inl i ↦
              let there : contains below y ≡ true =
              child-in_trees nodes lists x y (contains-last_of (children_of lists x) y last) c (children_of lists k)
              (record { stands = standing.stands.1; found = i }) in
              rw (off_left k below rest standing.once x i, i, off_left k below rest standing.once y there, there)
              (last_below-child x last c (children_of lists k) (StandsOnce-below standing) i)
          | inr i ↦
              let there : contains rest y ≡ true = child-in_trees nodes lists x y (contains-last_of (children_of lists x) y last) r ks
              (record { stands = standing.stands.2; found = i }) in
              rw (
                off_right k below rest standing.once x i,
                off_below k below rest standing.once x i,
                off_right k below rest standing.once y there,
                off_below k below rest standing.once
                    y there,
              ) (last_below-child x last r ks (StandsOnce-rest standing) i)
        ]
      ]

  -- just before a root of a row stands the last below the root before it
  prev-root : (x : ℕ) {y : ℕ} {ts : Trees} {ks : List ℕ} (b before : Option ℕ) → StandsOnce nodes lists ts ks → contains ks x ≡ true →
      prev_from b ks x ≡ Some y → ((b ≡ Some y) × (prev_from before (in_trees lists ts ks) x ≡ before)) ⊎
      ((contains ks y ≡ true) × (prev_from before (in_trees lists ts ks) x ≡ last_below lists ts ks y))
  prev-root x {ts = none} {ks = []} b before standing found e = absurd (true≢false (sym found))
  prev-root x {ts = none} {ks = k ∷ ks} b before standing found e = absurd standing.stands
  prev-root x {ts = tree n c r} {ks = []} b before standing found e = absurd standing.stands
  prev-root x {y = y} {ts = tree n c r} {ks = k ∷ ks} b before standing found e =
      let below = in_trees lists c (children_of lists k) in
      let rest = in_trees lists r ks in
      elim (cases_Bool (eqb k x)) [
        | inl h ↦ rw h (inl (rw h at e, refl))
        | inr h ↦
            let in_rest : contains ks x ≡ true = rw h at found in
            let there : contains rest x ≡ true = root-in_trees nodes lists x r ks standing.stands.2 in_rest in
            let prev : prev_from before (k ∷ (below ++ rest)) x ≡ prev_from (last_from (Some k) below) rest x =
            rw (h, prev_from-append (Some k) below rest x, off_below k below rest standing.once x there) refl in
            elim (prev-root x (Some k) (last_from (Some k) below) (StandsOnce-rest standing) in_rest (rw h at e)) [
              | inl i ↦
                  let same : eqb k y ≡ true = eq-eqb k y (same_Some k y i.0) in
                  inr (or_left (eqb k y) _ same, prev ∙ (i.1 ∙ rw same refl))
              | inr i ↦
                  let there_y : contains rest y ≡ true = root-in_trees nodes lists y r ks standing.stands.2 i.0 in
                  inr (
                    or_right (eqb k y) _ i.0,
                    prev ∙ (i.1 ∙ rw (
                      off_right k below rest standing.once y there_y,
                      off_below k below rest standing.once y
                          there_y,
                    ) refl),
                  )
            ]
      ]

  -- and before the first what stands before the row
  prev-first : (ts : Trees) {ks : List ℕ} {x : ℕ} (before : Option ℕ) → Stands nodes lists ts ks → IsFirst ks x →
      prev_from before (in_trees lists ts ks) x ≡ before
  prev-first none {ks = []} before s first = absurd (true≢false (sym first.found))
  prev-first none {ks = k ∷ ks} before s first = absurd s
  prev-first (tree n c r) {ks = []} before s first = absurd s
  prev-first (tree n c r) {ks = k ∷ ks} {x = x} before s first = elim (cases_Bool (eqb k x)) [
    | inl h ↦ rw h refl
    | inr h ↦ absurd (no_prev k ks x (rw h at first.found) (rw h at first.none_before))
  ]

-- a key in a list, and the one just before it there
record IsAfter (lists : List (List ℕ)) (p x : ℕ) (o : Option ℕ) : Type 0 where
  pub child : contains (children_of lists p) x ≡ true
  pub before : prev_in (children_of lists p) x ≡ o

-- just before a child stands the last below the child before it, and before the first one its parent
prev-child : {nodes : List Node} {lists : List (List ℕ)} {p x : ℕ} {o : Option ℕ} → IsAfter lists p x o → (ts : Trees) (ks : List ℕ)
    (before : Option ℕ) → StandsOnce nodes lists ts ks → contains (in_trees lists ts ks) p ≡ true
    → prev_from before (in_trees lists ts ks) x ≡ option_map_or (last_below lists ts ks) o (Some p)
prev-child after none ks before standing found = absurd (true≢false (sym found))
prev-child after (tree n c r) [] before standing found = absurd standing.stands
prev-child {nodes = nodes} {lists = lists} {p = p} {x = x} {o = o} after (tree n c r) (k ∷ ks) before standing found =
    elim (or_cases (eqb k p) _ found) [
      | inl h ↦ here (eqb-true k p h) o after.before
      | inr h ↦ elim (or_cases (contains below p) _ (sym (contains-append below rest p) ∙ h)) [
        | inl i ↦
            let there : contains below x ≡ true = child-in_trees nodes lists p x after.child c (children_of lists k)
            (record { stands = standing.stands.1; found = i }) in
            rw (off_left k below rest standing.once x there, prev_from-append (Some k) below rest x, there)
            (prev-child after c (children_of lists k) (Some k) (StandsOnce-below standing) i ∙ left o after.before i)
        | inr i ↦
            let there : contains rest x ≡ true = child-in_trees nodes lists p x after.child r ks (record { stands = standing.stands.2; found = i }) in
            rw (off_right k below rest standing.once x there, prev_from-append (Some k) below rest x, off_below k below rest standing.once x there)
            (prev-child after r ks (last_from (Some k) below) (StandsOnce-rest standing) i ∙ right o after.before i)
      ]
    ]
  where
    below : List ℕ
    below = in_trees lists c (children_of lists k)

    rest : List ℕ
    rest = in_trees lists r ks

    left : (o' : Option ℕ) → prev_in (children_of lists p) x ≡ o' → contains below p ≡ true →
        option_map_or (last_below lists c (children_of lists k)) o' (Some p) ≡ option_map_or (last_below lists (tree n c r) (k ∷ ks)) o' (Some p)
    left None e' i = refl
    left (Some y) e' i =
        let there : contains below y ≡ true = child-in_trees nodes lists p y (contains-prev_in (children_of lists p) x y e') c (children_of lists k)
        (record { stands = standing.stands.1; found = i }) in
        rw (off_left k below rest standing.once y there, there) refl

    right : (o' : Option ℕ) → prev_in (children_of lists p) x ≡ o' → contains rest p ≡ true →
        option_map_or (last_below lists r ks) o' (Some p) ≡ option_map_or (last_below lists (tree n c r) (k ∷ ks)) o' (Some p)
    right None e' i = refl
    right (Some y) e' i =
        let there : contains rest y ≡ true = child-in_trees nodes lists p y (contains-prev_in (children_of lists p) x y e') r ks
        (record { stands = standing.stands.2; found = i }) in
        rw (off_right k below rest standing.once y there, off_below k below rest standing.once y there) refl

    by : k ≡ p → contains (children_of lists k) x ≡ true → (o' : Option ℕ) → prev_in (children_of lists k) x ≡ o' →
        prev_from (Some k) below x ≡ option_map_or (last_below lists (tree n c r) (k ∷ ks)) o' (Some p)
    by same among None e' = prev-first nodes lists c (Some k) standing.stands.1 (record { found = among; none_before = e' }) ∙ ap Some same
    by same among (Some y) e' = elim (prev-root nodes lists x None (Some k) (StandsOnce-below standing) among e') [
      | inl i ↦ absurd (none-some y i.0)
      | inr i ↦
          let there : contains below y ≡ true = root-in_trees nodes lists y c (children_of lists k) standing.stands.1 i.0 in
          i.1 ∙ rw (off_left k below rest standing.once y there, there) refl
    ]

    here : k ≡ p → (o' : Option ℕ) → prev_in (children_of lists p) x ≡ o' →
        prev_from before (k ∷ (below ++ rest)) x ≡ option_map_or (last_below lists (tree n c r) (k ∷ ks)) o' (Some p)
    here same o' e' =
        let among : contains (children_of lists k) x ≡ true = ap (λ j. contains (children_of lists j) x) same ∙ after.child in
        let there : contains below x ≡ true = root-in_trees nodes lists x c (children_of lists k) standing.stands.1 among in
        rw (off_left k below rest standing.once x there, prev_from-append (Some k) below rest x, there)
        (by same among o' (ap (λ j. prev_in (children_of lists j) x) same ∙ e'))

-- ---- within the tree of a node

pub last_in : List Node → List (List ℕ) → ℕ → ℕ → Option ℕ
last_in nodes lists top x = last_below lists (tree_at nodes lists top) (top ∷ []) x

pub last_in-leaf : {nodes : List Node} {lists : List (List ℕ)} → IsWhole nodes lists → (top x : ℕ) → top < length lists →
    contains (x ∷ ancestors_of lists x) top ≡ true → None ≡ last_key (children_of lists x) → last_in nodes lists top x ≡ Some x
unfolding last_in keys_at
last_in-leaf {nodes} {lists} whole top x node above leaf =
    last_below-leaf nodes lists x (sym leaf) (tree_at nodes lists top) (top ∷ []) (subtree_here nodes lists whole top node)
    (keys_at-inside whole top x node above)

pub last_in-child : {nodes : List Node} {lists : List (List ℕ)} → IsWhole nodes lists → (top x : ℕ) {y : ℕ} → top < length lists →
    contains (x ∷ ancestors_of lists x) top ≡ true → Some y ≡ last_key (children_of lists x) → last_in nodes lists top x ≡ last_in nodes lists top y
unfolding last_in keys_at
last_in-child {nodes} {lists} whole top x {y} node above last =
    last_below-child nodes lists x (sym last) (tree_at nodes lists top) (top ∷ []) (keys_at-standing whole top node) (keys_at-inside whole top x node above)

-- the last child stands below what the node stands below, and deeper
pub child_below : {lists : List (List ℕ)} → IsForest lists → (top : ℕ) {x : ℕ} (y : ℕ) → contains (x ∷ ancestors_of lists x) top ≡ true →
    parent_of lists y ≡ Some x → contains (y ∷ ancestors_of lists y) top ≡ true
child_below {lists} forest top {x} y above e = or_right (eqb y top) _ (ap (λ ys. contains ys top) (ancestors_of-child lists forest y x e) ∙ above)

pub deeper : (lists : List (List ℕ)) → IsForest lists → (x y : ℕ) → y < length lists → parent_of lists y ≡ Some x →
    length lists - length (ancestors_of lists y) < length lists - length (ancestors_of lists x)
deeper lists forest x y node e = omega (arith, length-ancestors_of lists forest y node, ap (length {A = ℕ}) (ancestors_of-child lists forest y x e))

prev-alone : (lists : List (List ℕ)) (top : ℕ) (ts : Trees) (nodes : List Node) → Stands nodes lists ts (top ∷ []) →
    prev_from None (in_trees lists ts (top ∷ [])) top ≡ None
prev-alone lists top none nodes s = absurd s
prev-alone lists top (tree n c r) nodes s = rw (eq-eqb top top refl) refl

-- the node just before another one
pub before_in : List Node → List (List ℕ) → ℕ → ℕ → Option ℕ
before_in nodes lists top x = prev_from None (in_trees lists (tree_at nodes lists top) (top ∷ [])) x

pub before_in-top : (nodes : List Node) (lists : List (List ℕ)) → IsWhole nodes lists → (top : ℕ) → top < length lists → before_in nodes lists top top ≡ None
unfolding before_in
before_in-top nodes lists whole top node = prev-alone lists top (tree_at nodes lists top) nodes (subtree_here nodes lists whole top node)

pub before_in-root : {nodes : List Node} {lists : List (List ℕ)} → IsWhole nodes lists → (top x : ℕ) → top < length lists →
    contains (x ∷ ancestors_of lists x) top ≡ true → parent_of lists x ≡ None → before_in nodes lists top x ≡ None
before_in-root {nodes} {lists} whole top x node above e = elim (eqb_tells x top) [
  | inl h ↦ ap (before_in nodes lists top) h.1 ∙ before_in-top nodes lists whole top node
  | inr h ↦ absurd (has_above lists top x h.1 above e)
]

pub before_in-child : {nodes : List Node} {lists : List (List ℕ)} → IsWhole nodes lists → {top x p : ℕ} {o : Option ℕ} → top < length lists →
    (x ≡ top → ⊥) → contains (x ∷ ancestors_of lists x) top ≡ true → parent_of lists x ≡ Some p → o ≡ prev_of lists x
    → before_in nodes lists top x ≡ option_map_or (last_in nodes lists top) o (Some p)
unfolding before_in last_in keys_at
before_in-child {nodes} {lists} whole {top} {x} {p} {o} node other above e is =
    prev-child (record {
      child = contains-parent lists x p e;
      before = sym (is ∙ ap (option_and_then (λ q. prev_in (children_of lists q) x)) e);
    }) (tree_at nodes lists top) (top ∷ []) None (keys_at-standing whole top node)
    (keys_at-inside whole top p node (still_below whole.forest other above e))

preceding-at : {nodes : List Node} {lists : List (List ℕ)} → IsWhole nodes lists → (top x : ℕ) → top < length lists → x < length lists →
    contains (x ∷ ancestors_of lists x) top ≡ true
    → last_of (items_before name_eq (name_of_key nodes x) (inclusive_descendants (trees_of nodes lists) (name_of_key nodes top))) ≡ option_map
    (name_of_key nodes) (before_in nodes lists top x)
unfolding before_in keys_at
preceding-at {nodes} {lists} whole top x node at_x above =
    ap (λ ys. last_of (items_before name_eq (name_of_key nodes x) ys)) (keys_at-named nodes lists whole top node)
    ∙ last_or-items_before (name_of_key nodes) x None (in_trees lists (tree_at nodes lists top) (top ∷ []))
    (keys_at-told whole top x node at_x) (keys_at-inside whole top x node above)

pub shows_preceding : {f : NamedTrees} {ps : List Stored} {lists : List (List ℕ)} {keys : Owner → List ℕ} → seen ps lists ≡ f → IsKept ps lists keys
    → {top x : ℕ} {r : Option ℕ} → IsAbove f.names lists top x →
    r ≡ before_in (nodes_of ps) lists top x
    → option_map (name_at f.names) r ≡ last_of (items_before name_eq (name_at f.names x) (inclusive_descendants f.trees (name_at f.names top)))
shows_preceding {ps = ps} is kept {top = top} {x = x} {r = r} asked result = shows_picked (λ y ys. last_of (items_before name_eq y ys)) is kept r asked
    (λ whole at_top at_x. preceding-at whole top x at_top at_x asked.above ∙ ap (option_map (name_of_key (nodes_of ps))) (sym result))
