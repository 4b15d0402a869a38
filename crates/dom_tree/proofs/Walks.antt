-- Walks up a tree.
use Rattle.dom_base.proofs.Std.{◌≡◌, ◌⊎◌, inl, inr, ℕ, suc, ◌+◌, ◌-◌, ◌^◌, ◌<◌, ◌≤◌, true, false, eqb, List, [], ◌∷◌, map, length, Option, Some, None, refl}
use Rattle.dom_base.proofs.Std.{sym, ap, subst, ◌∙◌, arith, unwrap_or, option_map, option_and_then, ForSome, eq-eqb, none-some, same_Some}
use Rattle.dom_base.proofs.Std.{eqb-true, cases_Bool, or_cases, or_right, both_ways, false_from_ne_true}
use Rattle.dom_model.proofs.Model.{Owner, NodeName, last_of, name_eq, items_before, Node, root_of, is_inclusive_ancestor, index_of, children_of as children_in}
use Rattle.dom_model.proofs.Model.{name_eq-same}
use Rattle.node_arena.specs.Nodes.{Nodes, contains, parent_of, children_of, ancestors_of, IsForest, IsOnce, last_from, next_in, next_of, last_of as last_key}
use Rattle.node_arena.specs.Nodes.{place_in, place_of}
use Rattle.node_arena.proofs.Lists.{contains-head, length-IsOnce, contains-next_in, contains-last_of}
use Rattle.node_arena.proofs.Indexes.{place_in-within, place_of-root, place_of-child}
use Rattle.node_arena.proofs.Forests.{cases_Option, contains-parent, parent_within, parent_of_is, ancestors_of-child, ancestors_of-root}
use Rattle.dom_tree.specs.Definitions.{Stored, trees_of, NamedTrees, IsKept, stored_names, nodes_of, name_at}
use Rattle.dom_tree.proofs.Rows.{name_of_key}
use Rattle.dom_tree.proofs.Changes.{IsWhole}
use Rattle.dom_tree.proofs.Reading.{inclusive_ancestors-at, last_or-map, Tells, tells-children, siblings-root, siblings-child, children_in-at}
use Rattle.dom_tree.proofs.Kept.{seen, IsWhole-kept, name_at-same, above-at, within}

-- the topmost of a node and those above it
pub top_key : List (List ℕ) → ℕ → ℕ
top_key lists x = unwrap_or (last_from None (x ∷ ancestors_of lists x)) x

pub top_key-parent : (lists : List (List ℕ)) → IsForest lists → (x p : ℕ) → parent_of lists x ≡ Some p → top_key lists p ≡ top_key lists x
unfolding top_key
top_key-parent lists forest x p e = sym (ap (λ ys. unwrap_or (last_from (Some x) ys) x) (ancestors_of-child lists forest x p e) ∙ any (ancestors_of lists p) p)
  where
    any : (ys : List ℕ) (y : ℕ) → unwrap_or (last_from (Some y) ys) x ≡ unwrap_or (last_from (Some y) ys) p
    any [] y = refl
    any (z ∷ ys) y = any ys z

pub top_key-root : (lists : List (List ℕ)) (x : ℕ) → parent_of lists x ≡ None → top_key lists x ≡ x
unfolding top_key
top_key-root lists x e = ap (λ ys. unwrap_or (last_from (Some x) ys) x) (ancestors_of-root lists x e)

pub root_of-at : (nodes : List Node) (lists : List (List ℕ)) → IsWhole nodes lists → (x : ℕ) → x < length lists →
    root_of (trees_of nodes lists) (name_of_key nodes x) ≡ name_of_key nodes (top_key lists x)
unfolding top_key
root_of-at nodes lists whole x node =
    ap (λ ys. unwrap_or (last_of ys) (name_of_key nodes x)) (inclusive_ancestors-at nodes lists whole x node)
    ∙ (ap (λ o. unwrap_or o (name_of_key nodes x)) (last_or-map (name_of_key nodes) None (x ∷ ancestors_of lists x))
    ∙ mapped (last_from None (x ∷ ancestors_of lists x)))
  where
    mapped : (o : Option ℕ) → unwrap_or (option_map (name_of_key nodes) o) (name_of_key nodes x) ≡ name_of_key nodes (unwrap_or o x)
    mapped None = refl
    mapped (Some k) = refl

-- a parent has fewer nodes above it
pub fewer_above : {lists : List (List ℕ)} → IsForest lists → (x p : ℕ) → Some p ≡ parent_of lists x →
    length (ancestors_of lists p) < length (ancestors_of lists x)
fewer_above {lists} forest x p is = omega (arith, ap (length {A = ℕ}) (ancestors_of-child lists forest x p (sym is)))

-- ---- the answers

module _ {f : NamedTrees} {ps : List Stored} {lists : List (List ℕ)} {keys : Owner → List ℕ} (is : seen ps lists ≡ f) (kept : IsKept ps lists keys) where
  pub shows_root : (x top : ℕ) → x < length f.names → parent_of lists top ≡ None → top_key lists top ≡ top_key lists x →
      name_at f.names top ≡ root_of f.trees (name_at f.names x)
  shows_root x top node ends same =
      let inside = within is kept x node in
      subst (λ (g : NamedTrees). name_at g.names top ≡ root_of g.trees (name_at g.names x)) is
      (name_at-same (stored_names ps) ps top
      ∙ (ap (name_of_key (nodes_of ps)) (sym (top_key-root lists top ends) ∙ same)
      ∙ (sym (root_of-at (nodes_of ps) lists (IsWhole-kept kept) x (omega (arith, kept.paired)))
      ∙ ap (root_of (trees_of (nodes_of ps) lists)) (sym (name_at-same (stored_names ps) ps x)))))

  pub shows_above : (a x : ℕ) → a < length f.names → x < length f.names →
      contains (x ∷ ancestors_of lists x) a ≡ is_inclusive_ancestor f.trees (name_at f.names a) (name_at f.names x)
  shows_above a x at_a at_x =
      let inside_a = within is kept a at_a in
      let inside_x = within is kept x at_x in
      subst (λ (g : NamedTrees). contains (x ∷ ancestors_of lists x) a ≡ is_inclusive_ancestor g.trees (name_at g.names a) (name_at g.names x)) is
      (sym (above-at (IsWhole-kept kept) a x (omega (arith, kept.paired)) (omega (arith, kept.paired)))
      ∙ (ap (λ y. is_inclusive_ancestor (trees_of (nodes_of ps) lists) y (name_of_key (nodes_of ps) x)) (sym (name_at-same (stored_names ps) ps a))
      ∙ ap (is_inclusive_ancestor (trees_of (nodes_of ps) lists) (name_at (stored_names ps) a)) (sym (name_at-same (stored_names ps) ps x))))

  -- the test of a node above another one, in the lists
  pub asked_above : (top x : ℕ) → top < length f.names → x < length f.names → is_inclusive_ancestor f.trees (name_at f.names top) (name_at f.names x) ≡ true →
      contains (x ∷ ancestors_of lists x) top ≡ true
  asked_above top x at_top at_x above = shows_above top x at_top at_x ∙ above

  -- and of one that is not above it
  pub off_from : (a x : ℕ) → a < length f.names → x < length f.names → is_inclusive_ancestor f.trees (name_at f.names a) (name_at f.names x) ≡ false →
      contains (x ∷ ancestors_of lists x) a ≡ false
  off_from a x at_a at_x off = shows_above a x at_a at_x ∙ off

-- a node in the tree of another one
pub record InTree (ps : List Stored) (lists : List (List ℕ)) (top x : ℕ) : Type 0 where
  pub above : contains (x ∷ ancestors_of lists x) top ≡ true
  pub top_is_node : top < length lists
  pub whole : IsWhole (nodes_of ps) lists

-- what is found at a node, in the tree of another one
abbrev pub Finds : Type 0
Finds = List Node → List (List ℕ) → ℕ → ℕ → Option ℕ

-- a walk that began at a node has come to x, below `top`, where it finds what is sought at that node
abbrev pub IsOnWay : Finds → Finds → Nodes Stored → ℕ → ℕ → ℕ → Type 0
IsOnWay found sought a top key x =
    (x < length a.payloads) × (contains (x ∷ ancestors_of a.children x) top ≡ true) ×
    (found (nodes_of a.payloads) a.children top x ≡ sought (nodes_of a.payloads) a.children top key)

pub in_tree : {f : NamedTrees} {ps : List Stored} {lists : List (List ℕ)} {keys : Owner → List ℕ} → seen ps lists ≡ f → IsKept ps lists keys
    → {top x : ℕ} → top < length f.names → x < length f.names → is_inclusive_ancestor f.trees (name_at f.names top) (name_at f.names x) ≡ true →
    InTree ps lists top x
in_tree is kept {top} {x} at_top at_x above = record {
  above = asked_above is kept top x at_top at_x above;
  top_is_node = let inside = within is kept top at_top in omega (arith, kept.paired);
  whole = IsWhole-kept kept;
}

pub none_left : {X : Type 0} (o : Option X) → ((x : X) → o ≡ Some x → ⊥) → o ≡ None
none_left None never = refl
none_left (Some x) never = absurd (never x refl)

-- ---- places among siblings

-- a node has fewer children than there are nodes
pub few_children : (lists : List (List ℕ)) → IsForest lists → (p : ℕ) → p < length lists → length (children_of lists p) < length lists
few_children lists forest p node =
    omega (
      arith,
      length-IsOnce (length lists) (p ∷ children_of lists p) (apart, forest.once p) (λ k found. elim (or_cases (eqb p k) _ found) [
        | inl h ↦ subst (λ (j : ℕ). j < length lists) (eqb-true p k h) node
        | inr h ↦ forest.nodes p k h
      ]),
    )
  where
    apart : contains (children_of lists p) p ≡ false
    apart = false_from_ne_true _ (λ found. both_ways _ (forest.acyclic p)
        (ap (λ ys. contains ys p) (ancestors_of-child lists forest p p (parent_of_is lists forest.one_list p p found)) ∙
        contains-head p (ancestors_of lists p)))

-- a root stands first, and a child has fewer siblings before it than there are nodes
place-below : (lists : List (List ℕ)) → IsForest lists → (k : ℕ) → (place_of lists k ≡ 0) ⊎ (place_of lists k + 1 < length lists)
place-below lists forest k = elim (cases_Option (parent_of lists k)) [
  | inl e ↦ inl (place_of-root lists k e)
  | inr w ↦
      let child = contains-parent lists k w.0 w.1 in
      inr (omega (
        arith,
        place_of-child lists k w.0 w.1,
        place_in-within (children_of lists w.0) k child,
        few_children lists forest w.0 (parent_within lists w.0 k child),
      ))
]

pub place-within : (lists : List (List ℕ)) → IsForest lists → (k : ℕ) → k < length lists → place_of lists k < length lists
place-within lists forest k node = elim (place-below lists forest k) [ inl first ↦ omega arith | inr below ↦ omega arith ]

-- so the index of a node is less than the greatest number that an index may be
pub place-fits : (lists : List (List ℕ)) → IsForest lists → length lists ≤ 2 ^ 64 → (k : ℕ) → 2 ^ 64 - 1 ≤ place_of lists k → ⊥
place-fits lists forest few k far = elim (place-below lists forest k) [ inl first ↦ omega arith | inr below ↦ omega arith ]

-- before the last of a list stand all others
pub place_in-last : (xs : List ℕ) (k : ℕ) → IsOnce xs → Some k ≡ last_key xs → suc (place_in xs k) ≡ length xs
place_in-last [] k once e = absurd (none-some k (sym e))
place_in-last (x ∷ []) k once e = rw (eq-eqb x k (same_Some x k (sym e))) refl
place_in-last (x ∷ y ∷ ys) k once e =
    let apart : eqb x k ≡ false = false_from_ne_true _
    (λ same. both_ways _ once.0 (ap (contains (y ∷ ys)) (eqb-true x k same) ∙ contains-last_of (y ∷ ys) k (sym e))) in
    rw apart (ap suc (place_in-last (y ∷ ys) k once.1 e))

pub length-items_before : (f : ℕ → NodeName) (x : ℕ) (ks : List ℕ) → Tells f x ks → contains ks x ≡ true →
    length (items_before name_eq (f x) (map f ks)) ≡ place_in ks x
length-items_before f x [] tells found = refl
length-items_before f x (k ∷ ks) tells found =
    let here = tells k (contains-head k ks) in
    elim (cases_Bool (eqb k x)) [
      | inl e ↦ rw (here, e) refl
      | inr e ↦ rw (here, e) (ap suc (length-items_before f x ks (λ j found_j. tells j (or_right (eqb k j) (contains ks j) found_j)) (rw e at found)))
    ]

pub index_of-at : (nodes : List Node) (lists : List (List ℕ)) → IsWhole nodes lists → (x : ℕ) → x < length lists →
    index_of (trees_of nodes lists) (name_of_key nodes x) ≡ place_of lists x
index_of-at nodes lists whole x node = elim (cases_Option (parent_of lists x)) [
  | inl e ↦
      ap (λ ys. length (items_before name_eq (name_of_key nodes x) ys)) (siblings-root nodes lists whole x node e)
      ∙ (rw (name_eq-same (name_of_key nodes x)) refl ∙ sym (place_of-root lists x e))
  | inr w ↦
      ap (λ ys. length (items_before name_eq (name_of_key nodes x) ys)) (siblings-child whole x node w.1)
      ∙ (length-items_before (name_of_key nodes) x (children_of lists w.0) (tells-children nodes lists whole x w.0 node) (contains-parent lists x w.0 w.1)
      ∙ sym (place_of-child lists x w.0 w.1))
]

pub shows_index : {f : NamedTrees} {ps : List Stored} {lists : List (List ℕ)} {keys : Owner → List ℕ} → seen ps lists ≡ f → IsKept ps lists keys
    → (x : ℕ) → x < length f.names → place_of lists x ≡ index_of f.trees (name_at f.names x)
shows_index {f = f} {ps = ps} {lists = lists} {keys = keys} is kept x node =
    let inside = within is kept x node in
    subst (λ (g : NamedTrees). place_of lists x ≡ index_of g.trees (name_at g.names x)) is
    (sym (index_of-at (nodes_of ps) lists (IsWhole-kept kept) x (omega (arith, kept.paired)))
    ∙ ap (index_of (trees_of (nodes_of ps) lists)) (sym (name_at-same (stored_names ps) ps x)))

-- ---- the children of a node

-- a step to the next sibling, in a walk over the children of p
module _ {lists : List (List ℕ)} (forest : IsForest lists) (p : ℕ) {at : Option ℕ} (among : ForSome at (λ k. contains (children_of lists p) k ≡ true))
    (k : ℕ) (is : at ≡ Some k) where
  pub next_child : {next : Option ℕ} → next ≡ next_of lists k → next ≡ next_in (children_of lists p) k
  next_child step = step ∙ ap (option_and_then (λ q. next_in (children_of lists q) k)) (parent_of_is lists forest.one_list p k (among k is))

  pub among-next : {next : Option ℕ} → next ≡ next_of lists k → ForSome next (λ s. contains (children_of lists p) s ≡ true)
  among-next step s e = contains-next_in (children_of lists p) k s (sym (next_child step) ∙ e)

pub shows_children : {f : NamedTrees} {ps : List Stored} {lists : List (List ℕ)} {keys : Owner → List ℕ} → seen ps lists ≡ f → IsKept ps lists keys
    → (x : ℕ) → x < length f.names → children_in f.trees (name_at f.names x) ≡ map (name_at f.names) (children_of lists x)
shows_children {f = f} {ps = ps} {lists = lists} {keys = keys} is kept x node =
    let inside = within is kept x node in
    subst (λ (g : NamedTrees). children_in g.trees (name_at g.names x) ≡ map (name_at g.names) (children_of lists x)) is
    (ap (children_in (trees_of (nodes_of ps) lists)) (name_at-same (stored_names ps) ps x)
    ∙ (children_in-at (nodes_of ps) lists (IsWhole-kept kept) x (omega (arith, kept.paired)) ∙ all (children_of lists x)))
  where
    all : (ks : List ℕ) → map (name_of_key (nodes_of ps)) ks ≡ map (name_at (stored_names ps)) ks
    all [] = refl
    all (k ∷ ks) =
        let here = name_at-same (stored_names ps) ps k in
        let rest = all ks in
        cc
