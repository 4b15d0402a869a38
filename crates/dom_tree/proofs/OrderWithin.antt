-- Tree order within the tree of a node.
use Rattle.dom_base.proofs.Std.{◌≡◌, ◌≢◌, ◌⊎◌, inl, inr, ℕ, zero, suc, ◌<◌, ◌≤◌, true, false, not, eqb, List, [], ◌∷◌, map, length, Option, Some, None, refl}
use Rattle.dom_base.proofs.Std.{sym, ap, subst, ◌∙◌, arith, true≢false, is_some, option_map, option_and_then, eq-eqb, ne_eqb, eqb-true, or_cases, or_left}
use Rattle.dom_base.proofs.Std.{cases_Bool, eqb_tells, none-some, slice_get_within}
use Rattle.dom_model.proofs.Model.{Owner, NodeName, name_eq, first_of, items_after, Trees, none, tree, Node, subtree, inclusive_descendants, times_in}
use Rattle.node_arena.specs.Nodes.{children_of, contains, parent_of, ancestors_of, IsForest, IsOnce, head_of, next_in, next_of}
use Rattle.node_arena.proofs.Lists.{head_or}
use Rattle.node_arena.proofs.Lists.{next_from, next_in_is}
use Rattle.node_arena.proofs.Forests.{cases_Option, contains-parent, ancestors_of-child, ancestors_of-root}
use Rattle.dom_tree.specs.Definitions.{Stored, trees_of, NamedTrees, IsKept, stored_names, nodes_of, name_at}
use Rattle.dom_tree.proofs.Rows.{Stands, name_of_key}
use Rattle.dom_tree.proofs.Changes.{IsWhole, subtree_here}
use Rattle.dom_tree.proofs.Reading.{name_of_key-eq, first_of-items_after, Tells}
use Rattle.dom_tree.proofs.Kept.{seen, IsWhole-kept, name_at-same, names_option, within}
use Rattle.dom_tree.proofs.Once.{times, once-within}
use Rattle.dom_tree.proofs.Order.{in_trees, name_here, names-in_trees, root-in_trees, child-in_trees, key-in_trees, times-in_trees, IsOnce-times}
use Rattle.dom_tree.proofs.Order.{behind, behind-child, next-in_trees, StandsOnce}
use Rattle.dom_laws.proofs.Laws.{times_subtree}

-- ---- within the tree of a node

-- the tree of a node, and the keys in it
abbrev pub tree_at : List Node → List (List ℕ) → ℕ → Trees
tree_at nodes lists top = subtree (trees_of nodes lists) (name_of_key nodes top)

unfoldable pub keys_at : List Node → List (List ℕ) → ℕ → List ℕ
keys_at nodes lists top = in_trees lists (tree_at nodes lists top) (top ∷ [])

pub keys_at-once : (nodes : List Node) (lists : List (List ℕ)) → IsWhole nodes lists → (top : ℕ) → top < length lists → IsOnce (keys_at nodes lists top)
unfolding keys_at
keys_at-once nodes lists whole top node = IsOnce-times (in_trees lists (tree_at nodes lists top) (top ∷ [])) few
  where
    few : (k : ℕ) → contains (in_trees lists (tree_at nodes lists top) (top ∷ [])) k ≡ true → times k (in_trees lists (tree_at nodes lists top) (top ∷ [])) ≤ 1
    few k found =
        let s = subtree_here nodes lists whole top node in
        let key = key-in_trees nodes lists k (tree_at nodes lists top) (top ∷ []) s found in
        let paired = whole.paired in
        let inside : k < length lists = omega (arith, slice_get_within nodes k key.0 key.1) in
        let is = name_here nodes k key.0 key.1 in
        let all : times_in (trees_of nodes lists) key.0.name ≡ 1 =
        ap (times_in (trees_of nodes lists)) is ∙ once-within whole (length (ancestors_of lists k)) k (omega arith) inside in
        omega (
          arith,
          times-in_trees nodes lists whole.named k key.1 (tree_at nodes lists top) (top ∷ []) s,
          times_subtree
              (trees_of nodes lists) (name_of_key nodes top) key.0.name,
          all,
        )

pub keys_at-standing : {nodes : List Node} {lists : List (List ℕ)} → IsWhole nodes lists → (top : ℕ) → top < length lists →
    StandsOnce nodes lists (tree_at nodes lists top) (top ∷ [])
unfolding keys_at
keys_at-standing {nodes} {lists} whole top node = record { stands = subtree_here nodes lists whole top node; once = keys_at-once nodes lists whole top node }

-- the nodes below a node are among the keys of its tree
pub keys_at-inside : {nodes : List Node} {lists : List (List ℕ)} → IsWhole nodes lists → (top x : ℕ) → top < length lists →
    contains (x ∷ ancestors_of lists x) top ≡ true → contains (keys_at nodes lists top) x ≡ true
unfolding keys_at
keys_at-inside {nodes} {lists} whole top x node above = up (length (ancestors_of lists x)) x (omega arith) above
  where
    ts : Trees
    ts = tree_at nodes lists top

    s : Stands nodes lists ts (top ∷ [])
    s = subtree_here nodes lists whole top node

    up : (d y : ℕ) → length (ancestors_of lists y) ≤ d → contains (y ∷ ancestors_of lists y) top ≡ true → contains (in_trees lists ts (top ∷ [])) y ≡ true
    up zero y deep below = elim (or_cases (eqb y top) _ below) [
      | inl h ↦ root-in_trees nodes lists y ts (top ∷ []) s (or_left (eqb top y) _ (eq-eqb top y (sym (eqb-true y top h))))
      | inr h ↦ elim (cases_Option (parent_of lists y)) [
        | inl e ↦ absurd (true≢false (sym (ap (λ ys. contains ys top) (sym (ancestors_of-root lists y e)) ∙ h)))
        | inr w ↦ absurd (omega (arith, ap (length {A = ℕ}) (ancestors_of-child lists whole.forest y w.0 w.1)))
      ]
    ]
    up (suc d) y deep below = elim (or_cases (eqb y top) _ below) [
      | inl h ↦ root-in_trees nodes lists y ts (top ∷ []) s (or_left (eqb top y) _ (eq-eqb top y (sym (eqb-true y top h))))
      | inr h ↦ elim (cases_Option (parent_of lists y)) [
        | inl e ↦ absurd (true≢false (sym (ap (λ ys. contains ys top) (sym (ancestors_of-root lists y e)) ∙ h)))
        | inr w ↦
            let line = ancestors_of-child lists whole.forest y w.0 w.1 in
            child-in_trees nodes lists w.0 y (contains-parent lists y w.0 w.1) ts (top ∷ []) (record {
              stands = s;
              found = up d w.0 (omega (arith, ap (length {A = ℕ}) line)) (ap (λ ys. contains ys top) (sym line) ∙ h);
            })
      ]
    ]

pub keys_at-named : (nodes : List Node) (lists : List (List ℕ)) → IsWhole nodes lists → (top : ℕ) → top < length lists →
    inclusive_descendants (trees_of nodes lists) (name_of_key nodes top) ≡ map (name_of_key nodes) (keys_at nodes lists top)
unfolding keys_at
keys_at-named nodes lists whole top node = names-in_trees nodes lists (tree_at nodes lists top) (top ∷ []) (subtree_here nodes lists whole top node)

pub keys_at-told : {nodes : List Node} {lists : List (List ℕ)} → IsWhole nodes lists → (top x : ℕ) → top < length lists → x < length lists →
    Tells (name_of_key nodes) x (keys_at nodes lists top)
unfolding keys_at
keys_at-told {nodes} {lists} whole top x node at_x k found =
    let key = key-in_trees nodes lists k (tree_at nodes lists top) (top ∷ []) (subtree_here nodes lists whole top node) found in
    let paired = whole.paired in
    name_of_key-eq whole x k at_x (omega (arith, slice_get_within nodes k key.0 key.1)) ∙ turned (eqb_tells x k)
  where
    turned : ((eqb x k ≡ true) × (x ≡ k)) ⊎ ((eqb x k ≡ false) × (x ≢ k)) → eqb x k ≡ eqb k x
    turned (inl h) = h.0 ∙ sym (eq-eqb k x (sym h.1))
    turned (inr h) = h.0 ∙ sym (ne_eqb k x (λ e. h.1 (sym e)))

-- what stands behind a node and all below it, in the tree of another one
pub behind_in : List Node → List (List ℕ) → ℕ → ℕ → Option ℕ
behind_in nodes lists top x = behind lists (tree_at nodes lists top) (top ∷ []) None x

behind-alone : (nodes : List Node) (lists : List (List ℕ)) (top : ℕ) (ts : Trees) → Stands nodes lists ts (top ∷ []) →
    behind lists ts (top ∷ []) None top ≡ None
behind-alone nodes lists top none s = absurd s
behind-alone nodes lists top (tree n c r) s = rw (eq-eqb top top refl) refl

pub behind_in-top : (nodes : List Node) (lists : List (List ℕ)) → IsWhole nodes lists → (top : ℕ) → top < length lists → behind_in nodes lists top top ≡ None
unfolding behind_in
behind_in-top nodes lists whole top node = behind-alone nodes lists top (tree_at nodes lists top) (subtree_here nodes lists whole top node)

-- the node above one that is not the top
pub still_below : {lists : List (List ℕ)} → IsForest lists → {top x p : ℕ} → (x ≡ top → ⊥) → contains (x ∷ ancestors_of lists x) top ≡ true →
    parent_of lists x ≡ Some p → contains (p ∷ ancestors_of lists p) top ≡ true
still_below {lists} forest {top} {x} {p} other above e = elim (or_cases (eqb x top) _ above) [
  | inl h ↦ absurd (other (eqb-true x top h))
  | inr h ↦ ap (λ ys. contains ys top) (sym (ancestors_of-child lists forest x p e)) ∙ h
]

pub has_above : (lists : List (List ℕ)) (top x : ℕ) → (x ≡ top → ⊥) → contains (x ∷ ancestors_of lists x) top ≡ true → parent_of lists x ≡ None → ⊥
has_above lists top x other above e = elim (or_cases (eqb x top) _ above) [
  | inl h ↦ other (eqb-true x top h)
  | inr h ↦ true≢false (sym (ap (λ ys. contains ys top) (sym (ancestors_of-root lists x e)) ∙ h))
]

next_from-some : (ks : List ℕ) (after : Option ℕ) (x y : ℕ) → next_in ks x ≡ Some y → next_from ks after x ≡ Some y
next_from-some [] after x y e = absurd (none-some y e)
next_from-some (k ∷ ks) after x y e = elim (cases_Bool (eqb k x)) [
  | inl h ↦ rw h (by ks (rw h at e))
  | inr h ↦ rw h (next_from-some ks after x y (rw h at e))
]
  where
    by : (js : List ℕ) → head_of js ≡ Some y → head_or js after ≡ Some y
    by [] e' = absurd (none-some y e')
    by (j ∷ js) e' = e'

next_from-none : (ks : List ℕ) (after : Option ℕ) (x : ℕ) → contains ks x ≡ true → next_in ks x ≡ None → next_from ks after x ≡ after
next_from-none [] after x found e = absurd (true≢false (sym found))
next_from-none (k ∷ ks) after x found e = elim (cases_Bool (eqb k x)) [
  | inl h ↦ rw h (by ks (rw h at e))
  | inr h ↦ rw h (next_from-none ks after x (rw h at found) (rw h at e))
]
  where
    by : (js : List ℕ) → head_of js ≡ None → head_or js after ≡ after
    by [] e' = refl
    by (j ∷ js) e' = absurd (none-some j (sym e'))

behind_in-child : {nodes : List Node} {lists : List (List ℕ)} → IsWhole nodes lists → {top x p : ℕ} → top < length lists → (x ≡ top → ⊥) →
    contains (x ∷ ancestors_of lists x) top ≡ true → parent_of lists x ≡ Some p
    → behind_in nodes lists top x ≡ next_from (children_of lists p) (behind_in nodes lists top p) x
unfolding behind_in keys_at
behind_in-child {nodes} {lists} whole {top} {x} {p} node other above e =
    behind-child nodes lists p x (contains-parent lists x p e) None (keys_at-standing whole top node)
    (keys_at-inside whole top p node (still_below whole.forest other above e))

-- it is the sibling just after the node, and else what stands behind its parent
pub behind_in-next : {nodes : List Node} {lists : List (List ℕ)} → IsWhole nodes lists → {top x y : ℕ} → top < length lists → (x ≡ top → ⊥) →
    contains (x ∷ ancestors_of lists x) top ≡ true → next_of lists x ≡ Some y
    → behind_in nodes lists top x ≡ Some y
behind_in-next {nodes} {lists} whole {top} {x} {y} node other above e = elim (cases_Option (parent_of lists x)) [
  | inl h ↦ absurd (has_above lists top x other above h)
  | inr w ↦
      behind_in-child whole node other above w.1
      ∙ next_from-some (children_of lists w.0) (behind_in nodes lists top w.0) x y (sym (ap (option_and_then (λ p. next_in (children_of lists p) x)) w.1) ∙ e)
]

pub behind_in-parent : {nodes : List Node} {lists : List (List ℕ)} → IsWhole nodes lists → {top x p : ℕ} → top < length lists → (x ≡ top → ⊥) →
    contains (x ∷ ancestors_of lists x) top ≡ true → next_of lists x ≡ None → parent_of lists x ≡ Some p
    → behind_in nodes lists top x ≡ behind_in nodes lists top p
behind_in-parent {nodes} {lists} whole {top} {x} {p} node other above e h =
    behind_in-child whole node other above h
    ∙ next_from-none (children_of lists p) (behind_in nodes lists top p) x (contains-parent lists x p h)
    (sym (ap (option_and_then (λ q. next_in (children_of lists q) x)) h) ∙ e)

-- what a first child, and a next sibling, that is there says, and one that is not
pub head_or-here : (ks : List ℕ) (after r : Option ℕ) → r ≡ head_of ks → true ≡ is_some r → r ≡ head_or ks after
head_or-here [] after r e here = absurd (true≢false (here ∙ ap is_some e))
head_or-here (k ∷ ks) after r e here = e

pub head_or-lacking : (ks : List ℕ) (after r : Option ℕ) → r ≡ head_of ks → false ≡ is_some r → head_or ks after ≡ after
head_or-lacking [] after r e lacking = refl
head_or-lacking (k ∷ ks) after r e lacking = absurd (true≢false (sym (lacking ∙ ap is_some e)))

pub behind_in-here : {nodes : List Node} {lists : List (List ℕ)} → IsWhole nodes lists → {top x : ℕ} {r : Option ℕ} → top < length lists →
    (x ≡ top → ⊥) → contains (x ∷ ancestors_of lists x) top ≡ true → r ≡ next_of lists x → true ≡ is_some r
    → r ≡ behind_in nodes lists top x
behind_in-here whole {r = None} node other above e here = absurd (true≢false here)
behind_in-here whole {r = Some y} node other above e here = sym (behind_in-next whole node other above (sym e))

-- what the test whether two keys differ says
pub told_apart : (x y : ℕ) → true ≡ not (eqb x y) → x ≡ y → ⊥
told_apart x y e same = true≢false (e ∙ ap not (eq-eqb x y same))

pub told_same : (x y : ℕ) → false ≡ not (eqb x y) → x ≡ y
told_same x y e = elim (eqb_tells x y) [
  | inl h ↦ h.1
  | inr h ↦ absurd (true≢false (sym (e ∙ ap not h.0)))
]

-- the node just behind another one
following-at : {nodes : List Node} {lists : List (List ℕ)} → IsWhole nodes lists → (top x : ℕ) → top < length lists → x < length lists →
    contains (x ∷ ancestors_of lists x) top ≡ true
    → first_of (items_after name_eq (name_of_key nodes x) (inclusive_descendants (trees_of nodes lists) (name_of_key nodes top))) ≡ option_map
    (name_of_key nodes) (head_or (children_of lists x) (behind_in nodes lists top x))
unfolding behind_in keys_at
following-at {nodes} {lists} whole top x node at_x above =
    let s = subtree_here nodes lists whole top node in
    let ks = in_trees lists (tree_at nodes lists top) (top ∷ []) in
    ap (λ ys. first_of (items_after name_eq (name_of_key nodes x) ys)) (keys_at-named nodes lists whole top node)
    ∙ (first_of-items_after (name_of_key nodes) x ks (keys_at-told whole top x node at_x)
    ∙ ap (option_map (name_of_key nodes))
    (next_in_is ks x ∙ next-in_trees nodes lists x (tree_at nodes lists top) (top ∷ []) None s
    (keys_at-inside whole top x node above)))

-- ---- the answers

-- the keys of two nodes, of which the first is the second or above it
pub record IsAbove (names : List NodeName) (lists : List (List ℕ)) (top x : ℕ) : Type 0 where
  pub at_top : top < length names
  pub at_x : x < length names
  pub above : contains (x ∷ ancestors_of lists x) top ≡ true

-- what is picked in the tree of the first, beside the second, is picked in the trees where it is by keys
pub shows_picked : (pick : NodeName → List NodeName → Option NodeName) {f : NamedTrees} {ps : List Stored} {lists : List (List ℕ)} {keys : Owner → List ℕ} →
    seen ps lists ≡ f → IsKept ps lists keys → {top x : ℕ} (r : Option ℕ) → IsAbove f.names lists top x →
    (IsWhole (nodes_of ps) lists → top < length lists → x < length lists → pick (name_of_key (nodes_of ps) x)
    (inclusive_descendants (trees_of (nodes_of ps) lists) (name_of_key (nodes_of ps) top)) ≡ option_map (name_of_key (nodes_of ps)) r) →
    option_map (name_at f.names) r ≡ pick (name_at f.names x) (inclusive_descendants f.trees (name_at f.names top))
shows_picked pick {f = f} {ps = ps} {lists = lists} is kept {top = top} {x = x} r asked picked =
    let inside_top = within is kept top asked.at_top in
    let inside_x = within is kept x asked.at_x in
    let paired = kept.paired in
    subst (λ (g : NamedTrees). option_map (name_at g.names) r ≡ pick (name_at g.names x) (inclusive_descendants g.trees (name_at g.names top))) is
    (names_option ps r ∙ (sym (picked (IsWhole-kept kept) (omega arith) (omega arith))
    ∙ (ap (λ y. pick y (inclusive_descendants (trees_of (nodes_of ps) lists) (name_of_key (nodes_of ps) top))) (sym (name_at-same (stored_names ps) ps x))
    ∙ ap (λ y. pick (name_at (stored_names ps) x) (inclusive_descendants (trees_of (nodes_of ps) lists) y)) (sym (name_at-same (stored_names ps) ps top)))))

pub shows_following : {f : NamedTrees} {ps : List Stored} {lists : List (List ℕ)} {keys : Owner → List ℕ} → seen ps lists ≡ f → IsKept ps lists keys
    → {top x : ℕ} {r : Option ℕ} → IsAbove f.names lists top x →
    r ≡ head_or (children_of lists x) (behind_in (nodes_of ps) lists top x)
    → option_map (name_at f.names) r ≡ first_of (items_after name_eq (name_at f.names x) (inclusive_descendants f.trees (name_at f.names top)))
shows_following {ps = ps} is kept {top = top} {x = x} {r = r} asked result = shows_picked (λ y ys. first_of (items_after name_eq y ys)) is kept r asked
    (λ whole at_top at_x. following-at whole top x at_top at_x asked.above ∙ ap (option_map (name_of_key (nodes_of ps))) (sym result))
