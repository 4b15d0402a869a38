-- The invariant of a `Forest`.
use Rattle.dom_base.proofs.Std.{◌≡◌, ◌≢◌, ◌⊎◌, inl, inr, true≢false, ℕ, zero, suc, ◌<◌, ◌≤◌, true, false, ◌||◌, eqb, List, [], ◌∷◌, map, length, Option, Some}
use Rattle.dom_base.proofs.Std.{None, refl, sym, ap, subst, ◌∙◌, arith, slice_get, option_map, ForSome, length-map, eq-eqb, ne_eqb, eqb-true, or_cases}
use Rattle.dom_base.proofs.Std.{or_right, eqb_tells, same_Some, none-some}
use Rattle.dom_model.proofs.Model.{Owner, NodeName, name_eq, is_in, Trees, none, Node, node_in, parent_of as parent_in, is_inclusive_ancestor, placed}
use Rattle.dom_model.proofs.Model.{taken_out}
use Rattle.node_arena.specs.Nodes.{Nodes, IsSound, IsForest, children_of, contains, parent_of, ancestors_of, without}
use Rattle.node_arena.proofs.Lists.{contains-head}
use Rattle.node_arena.proofs.Forests.{cases_Option, contains-parent, parent_within, ancestors_of-child, ancestors_of-root}
use Rattle.dom_tree.specs.Definitions.{Stored, node_at, trees_of, NamedTrees, IsKept, stored_names, nodes_with, nodes_of, name_at, node_with}
use Rattle.dom_tree.specs.Rows.{trees_on}
use Rattle.dom_tree.proofs.Rows.{name_of_key}
use Rattle.dom_tree.proofs.Changes.{IsWhole, node_here, linked, LinkAsked, trees_of-linked, trees_of-unlinked}
use Rattle.dom_tree.proofs.Reading.{node_in-at, parent_in-at, inclusive_ancestors-at, name_of_key-eq}

-- the names in the trees are those in the list
pub slice_get-names : (names : List NodeName) (ps : List Stored) (k : ℕ) (m : Node) → slice_get (nodes_with names ps) k ≡ Some m →
    slice_get (stored_names ps) k ≡ Some m.name
slice_get-names names [] k m e = absurd (none-some m e)
slice_get-names names (s ∷ ps) zero m e = ap (option_map (λ n. n.name)) e
slice_get-names names (s ∷ ps) (suc k) m e = slice_get-names names ps k m e

pub name_at-same : (names : List NodeName) (ps : List Stored) (k : ℕ) → name_at (stored_names ps) k ≡ name_of_key (nodes_with names ps) k
name_at-same names [] k = refl
name_at-same names (s ∷ ps) zero = refl
name_at-same names (s ∷ ps) (suc k) = name_at-same names ps k

pub IsWhole-kept : {ps : List Stored} {lists : List (List ℕ)} {keys : Owner → List ℕ} → IsKept ps lists keys → IsWhole (nodes_of ps) lists
IsWhole-kept {ps = ps} {keys = keys} kept = record {
  named = record {
    distinct = λ j k m n at_j at_k e.
        same_Some j k (sym (kept.kept m.name j (slice_get-names (stored_names ps) ps j m at_j)) ∙
        (ap (λ (x : NodeName). slice_get (keys x.owner) x.number) e ∙ kept.kept n.name k (slice_get-names (stored_names ps) ps k n at_k)));
  };
  forest = kept.forest;
  paired = length-map ps _ ∙ kept.paired;
}

-- what is seen of the nodes and their lists
abbrev pub seen : List Stored → List (List ℕ) → NamedTrees
seen ps lists = record { names = stored_names ps; trees = trees_of (nodes_of ps) lists }

pub seen-nil : seen [] [] ≡ record { names = []; trees = none }
unfolding trees_on
seen-nil = refl

pub names_option : (ps : List Stored) (o : Option ℕ) → option_map (name_at (stored_names ps)) o ≡ option_map (name_of_key (nodes_of ps)) o
names_option ps None = refl
names_option ps (Some k) = ap Some (name_at-same (stored_names ps) ps k)

-- a read of the lists that is a read of the trees for which they stand, from a node to another one
pub record IsReadOf (read : Trees → NodeName → Option NodeName) (key_read : List (List ℕ) → ℕ → Option ℕ) : Type 0 where
  pub agree : (nodes : List Node) (lists : List (List ℕ)) → IsWhole nodes lists → (x : ℕ) → x < length lists →
      read (trees_of nodes lists) (name_of_key nodes x) ≡ option_map (name_of_key nodes) (key_read lists x)

-- it shows the same in the lists and in the trees
pub shows : {f : NamedTrees} {ps : List Stored} {lists : List (List ℕ)} {keys : Owner → List ℕ} → seen ps lists ≡ f → IsKept ps lists keys
    → {read : Trees → NodeName → Option NodeName} {key_read : List (List ℕ) → ℕ → Option ℕ} → IsReadOf read key_read
    → (x : ℕ) {r : Option ℕ} → x < length f.names → r ≡ key_read lists x → option_map (name_at f.names) r ≡ read f.trees (name_at f.names x)
shows {f = f} {ps = ps} {lists = lists} {keys = keys} is kept {read = read} same x {r = r} node result =
    subst (λ (g : NamedTrees). option_map (name_at g.names) r ≡ read g.trees (name_at g.names x)) is
    (names_option ps r ∙ (ap (option_map (name_of_key (nodes_of ps))) result
    ∙ (sym (same.agree (nodes_of ps) lists (IsWhole-kept kept) x within) ∙ ap (read (trees_of (nodes_of ps) lists))
    (sym (name_at-same (stored_names ps) ps x)))))
  where
    within : x < length lists
    within =
        let as_long : length f.names ≡ length ps = ap (λ (g : NamedTrees). length g.names) (sym is) ∙ length-map ps (λ s. s.name) in
        omega (arith, kept.paired)

-- a key below the number of names is that of a node
pub within : {f : NamedTrees} {ps : List Stored} {lists : List (List ℕ)} {keys : Owner → List ℕ} → seen ps lists ≡ f → IsKept ps lists keys →
    (x : ℕ) → x < length f.names → x < length ps
within {f = f} {ps = ps} is kept x node =
    let as_long : length f.names ≡ length ps = ap (λ (g : NamedTrees). length g.names) (sym is) ∙ length-map ps (λ s. s.name) in
    omega arith

pub within_names : {f : NamedTrees} {ps : List Stored} {lists : List (List ℕ)} {keys : Owner → List ℕ} → seen ps lists ≡ f →
    IsKept ps lists keys → (x : ℕ) → x < length ps → x < length f.names
within_names {f = f} {ps = ps} is kept x node =
    let as_long : length f.names ≡ length ps = ap (λ (g : NamedTrees). length g.names) (sym is) ∙ length-map ps (λ s. s.name) in
    omega arith

module _ {f : NamedTrees} {ps : List Stored} {lists : List (List ℕ)} {keys : Owner → List ℕ} (is : seen ps lists ≡ f) (kept : IsKept ps lists keys) where
  -- the node in whose list a node stands is its parent in the trees
  pub shows_parent : (x : ℕ) {r : Option ℕ} → x < length f.names → r ≡ parent_of lists x →
      option_map (name_at f.names) r ≡ parent_in f.trees (name_at f.names x)
  shows_parent x node found = shows is kept {read = parent_in} {key_read = parent_of} (record { agree = parent_in-at }) x node found

  pub shows_child : (k : ℕ) {p : ℕ} → k < length ps → parent_of lists k ≡ Some p → parent_in f.trees (name_at f.names k) ≡ Some (name_at f.names p)
  shows_child k node found = sym (shows_parent k (within_names is kept k node) (sym found))

  pub shows_sibling : (x k : ℕ) → x < length f.names → k < length ps → parent_of lists k ≡ parent_of lists x →
      parent_in f.trees (name_at f.names k) ≡ parent_in f.trees (name_at f.names x)
  shows_sibling x k at_x at_k same =
      sym (shows_parent k (within_names is kept k at_k) refl) ∙ ap (option_map (name_at f.names)) same ∙ shows_parent x at_x refl

-- what is stored of a node is its node in the trees
pub node_at-stored : (names : List NodeName) (ps : List Stored) (x : ℕ) (s : Stored) → slice_get ps x ≡ Some s →
    node_at (nodes_with names ps) x ≡ node_with names s.name s.node
node_at-stored names [] x s e = absurd (none-some s e)
node_at-stored names (t ∷ ps) zero s e = ap (λ (u : Stored). node_with names u.name u.node) (same_Some t s e)
node_at-stored names (t ∷ ps) (suc x) s e = node_at-stored names ps x s e

pub shows_node : {f : NamedTrees} {ps : List Stored} {lists : List (List ℕ)} {keys : Owner → List ℕ} → seen ps lists ≡ f → IsKept ps lists keys
    → (x : ℕ) (s : Stored) → x < length f.names → slice_get ps x ≡ Some s → node_in f.trees (name_at f.names x) ≡ node_with f.names s.name s.node
shows_node {f = f} {ps = ps} {lists = lists} {keys = keys} is kept x s node at =
    subst (λ (g : NamedTrees). node_in g.trees (name_at g.names x) ≡ node_with g.names s.name s.node) is
    (ap (node_in (trees_of (nodes_of ps) lists)) (name_at-same (stored_names ps) ps x)
    ∙ (node_in-at (nodes_of ps) lists (IsWhole-kept kept) x within
    ∙ node_at-stored (stored_names ps) ps x s at))
  where
    within : x < length lists
    within =
        let as_long : length f.names ≡ length ps = ap (λ (g : NamedTrees). length g.names) (sym is) ∙ length-map ps (λ s. s.name) in
        omega (arith, kept.paired)

-- other lists, with the same nodes
pub IsKept-lists : (a : Nodes Stored) (lists : List (List ℕ)) (keys : Owner → List ℕ) → IsKept a.payloads lists keys → IsSound a →
    IsKept a.payloads a.children keys
IsKept-lists a lists keys kept sound = record {
  paired = sound.paired;
  forest = sound.forest;
  few = kept.few;
  found = kept.found;
  kept = kept.kept;
  counted = kept.counted;
  limited = kept.limited;
  documents = kept.documents;
}

-- ---- the nodes above a node, in the lists and in the trees

pub ancestors_nodes : {lists : List (List ℕ)} → IsForest lists → (d x a : ℕ) → length (ancestors_of lists x) ≤ d →
    contains (ancestors_of lists x) a ≡ true → a < length lists
ancestors_nodes {lists} forest zero x a deep found = elim (cases_Option (parent_of lists x)) [
  | inl e ↦ absurd (true≢false (sym (ap (λ ys. contains ys a) (sym (ancestors_of-root lists x e)) ∙ found)))
  | inr w ↦ absurd (omega (arith, ap (length {A = ℕ}) (ancestors_of-child lists forest x w.0 w.1)))
]
ancestors_nodes {lists} forest (suc d) x a deep found = elim (cases_Option (parent_of lists x)) [
  | inl e ↦ absurd (true≢false (sym (ap (λ ys. contains ys a) (sym (ancestors_of-root lists x e)) ∙ found)))
  | inr w ↦
      let up = ancestors_of-child lists forest x w.0 w.1 in
      let within = parent_within lists w.0 x (contains-parent lists x w.0 w.1) in
      elim (or_cases (eqb w.0 a) _ (ap (λ ys. contains ys a) (sym up) ∙ found)) [
        | inl h ↦ subst (λ (k : ℕ). k < length lists) (eqb-true w.0 a h) within
        | inr h ↦ ancestors_nodes forest d w.0 a (omega (arith, ap (length {A = ℕ}) up)) h
      ]
]

is_in-keys : {nodes : List Node} {lists : List (List ℕ)} → IsWhole nodes lists → (a : ℕ) → a < length lists → (ks : List ℕ) →
    ((k : ℕ) → contains ks k ≡ true → k < length lists) → is_in name_eq (name_of_key nodes a) (map (name_of_key nodes) ks) ≡ contains ks a
is_in-keys whole a node [] each = refl
is_in-keys {nodes} whole a node (k ∷ ks) each =
    let here = name_of_key-eq whole a k node (each k (contains-head k ks)) ∙ turned (eqb_tells a k) in
    let rest = is_in-keys whole a node ks (λ j found. each j (or_right (eqb k j) (contains ks j) found)) in
    ap (λ b. b || is_in name_eq (name_of_key nodes a) (map (name_of_key nodes) ks)) here ∙ ap (λ b. eqb k a || b) rest
  where
    turned : ((eqb a k ≡ true) × (a ≡ k)) ⊎ ((eqb a k ≡ false) × (a ≢ k)) → eqb a k ≡ eqb k a
    turned (inl h) = h.0 ∙ sym (eq-eqb k a (sym h.1))
    turned (inr h) = h.0 ∙ sym (ne_eqb k a (λ e. h.1 (sym e)))

-- one node is another or above it, in the trees where in the lists
pub above-at : {nodes : List Node} {lists : List (List ℕ)} → IsWhole nodes lists → (a x : ℕ) → a < length lists → x < length lists →
    is_inclusive_ancestor (trees_of nodes lists) (name_of_key nodes a) (name_of_key nodes x) ≡ contains (x ∷ ancestors_of lists x) a
above-at {nodes} {lists} whole a x at_a at_x =
    ap (is_in name_eq (name_of_key nodes a)) (inclusive_ancestors-at nodes lists whole x at_x)
    ∙ is_in-keys whole a at_a (x ∷ ancestors_of lists x) (λ k found. elim (or_cases (eqb x k) _ found) [
      | inl h ↦ subst (λ (j : ℕ). j < length lists) (eqb-true x k h) at_x
      | inr h ↦ ancestors_nodes whole.forest (length (ancestors_of lists x)) x k (omega arith) h
    ])

-- ---- a link

-- what a caller shows of a link
pub record LinkShown (f : NamedTrees) (parent child : ℕ) (before : Option ℕ) : Type 0 where
  pub parent_is_node : parent < length f.names
  pub child_is_node : child < length f.names
  pub unlinked : parent_in f.trees (name_at f.names child) ≡ None
  pub not_above : is_inclusive_ancestor f.trees (name_at f.names child) (name_at f.names parent) ≡ false
  pub before_is_node : ForSome before (λ b. b < length f.names)
  pub before_is_child : ForSome before (λ b. parent_in f.trees (name_at f.names b) ≡ Some (name_at f.names parent))

pub link_shown : {f : NamedTrees} {p c : ℕ} {before : Option ℕ} → p < length f.names → c < length f.names → parent_in f.trees (name_at f.names c) ≡ None →
    is_inclusive_ancestor f.trees (name_at f.names c) (name_at f.names p) ≡ false → ForSome before (λ b. b < length f.names) →
    ForSome before (λ b. parent_in f.trees (name_at f.names b) ≡ Some (name_at f.names p)) → LinkShown f p c before
link_shown at_p at_c unlinked not_above nodes children = record {
  parent_is_node = at_p;
  child_is_node = at_c;
  unlinked = unlinked;
  not_above = not_above;
  before_is_node = nodes;
  before_is_child = children;
}

-- and what that says of the lists
pub record LinkMeant (lists : List (List ℕ)) (parent child : ℕ) (before : Option ℕ) : Type 0 where
  pub unlinked : parent_of lists child ≡ None
  pub not_above : contains (parent ∷ ancestors_of lists parent) child ≡ false
  pub before_is_child : (b : ℕ) → before ≡ Some b → contains (children_of lists parent) b ≡ true

pub link_meant : {ps : List Stored} {lists : List (List ℕ)} {keys : Owner → List ℕ} → IsKept ps lists keys → {p c : ℕ} {before : Option ℕ} →
    LinkShown (seen ps lists) p c before → LinkMeant lists p c before
link_meant {ps} {lists} kept {p} {c} {before} shown = record {
  unlinked = by (cases_Option (parent_of lists c));
  not_above = sym (above-at whole c p child_within parent_within_lists) ∙
      (ap (λ y. is_inclusive_ancestor ts y (name_of_key nodes p)) (sym (name_at-same names ps c)) ∙
      (ap (is_inclusive_ancestor ts (name_at names c)) (sym (name_at-same names ps p)) ∙ shown.not_above));
  before_is_child = λ b e. child_of b e (cases_Option (parent_of lists b));
}
  where
    names : List NodeName
    names = stored_names ps

    nodes : List Node
    nodes = nodes_of ps

    ts : Trees
    ts = trees_of nodes lists

    whole : IsWhole nodes lists
    whole = IsWhole-kept kept

    as_long : length names ≡ length lists
    as_long = length-map ps (λ s. s.name) ∙ kept.paired

    child_within : c < length lists
    child_within = omega (arith, shown.child_is_node, as_long)

    parent_within_lists : p < length lists
    parent_within_lists = omega (arith, shown.parent_is_node, as_long)

    parent_shown : (x : ℕ) → x < length lists → parent_in ts (name_at names x) ≡ option_map (name_of_key nodes) (parent_of lists x)
    parent_shown x within = ap (parent_in ts) (name_at-same names ps x) ∙ parent_in-at nodes lists whole x within

    by : (parent_of lists c ≡ None) ⊎ ((q : ℕ) × (parent_of lists c ≡ Some q)) → parent_of lists c ≡ None
    by (inl e) = e
    by (inr w) = absurd (none-some (name_of_key nodes w.0) (sym shown.unlinked ∙ (parent_shown c child_within ∙ ap (option_map (name_of_key nodes)) w.1)))

    child_of : (b : ℕ) → before ≡ Some b → (parent_of lists b ≡ None) ⊎ ((q : ℕ) × (parent_of lists b ≡ Some q)) → contains (children_of lists p) b ≡ true
    child_of b e (inl h) =
        let within : b < length lists = omega (arith, shown.before_is_node b e, as_long) in
        absurd (none-some (name_at names p) (sym (parent_shown b within ∙ ap (option_map (name_of_key nodes)) h) ∙ shown.before_is_child b e))
    child_of b e (inr w) =
        let within : b < length lists = omega (arith, shown.before_is_node b e, as_long) in
        let child = contains-parent lists b w.0 w.1 in
        let q_within = parent_within lists w.0 b child in
        let same : name_of_key nodes w.0 ≡ name_of_key nodes p =
        same_Some _ _ (sym (parent_shown b within ∙ ap (option_map (name_of_key nodes)) w.1) ∙
        (shown.before_is_child b e ∙ ap Some (name_at-same names ps p))) in
        let is : w.0 ≡ p = whole.named.distinct w.0 p (node_at nodes w.0) (node_at nodes p) (node_here nodes lists whole w.0 q_within)
        (node_here nodes lists whole p parent_within_lists) same in
        subst (λ (j : ℕ). contains (children_of lists j) b ≡ true) is child

abbrev pub with_linked : NamedTrees → ℕ → ℕ → Option ℕ → NamedTrees
with_linked f p c before = record f { trees = placed (name_at f.names c) (name_at f.names p) (option_map (name_at f.names) before) f.trees }

pub seen-linked : {ps : List Stored} {lists : List (List ℕ)} {keys : Owner → List ℕ} → IsKept ps lists keys → {p c : ℕ} {before : Option ℕ} →
    LinkShown (seen ps lists) p c before
    → IsForest (linked lists p c before) → seen ps (linked lists p c before) ≡ with_linked (seen ps lists) p c before
seen-linked {ps} {lists} kept {p} {c} {before} shown after =
    ap (λ ts. record { names = names; trees = ts }) (trees_of-linked nodes lists p c before asked
    ∙ (ap (λ x. placed x (name_of_key nodes p) (option_map (name_of_key nodes) before) (trees_of nodes lists)) (sym (name_at-same names ps c))
    ∙ (ap (λ x. placed (name_at names c) x (option_map (name_of_key nodes) before) (trees_of nodes lists)) (sym (name_at-same names ps p))
    ∙ ap (λ o. placed (name_at names c) (name_at names p) o (trees_of nodes lists)) (sym (names_option ps before)))))
  where
    names : List NodeName
    names = stored_names ps

    nodes : List Node
    nodes = nodes_of ps

    as_long : length names ≡ length lists
    as_long = length-map ps (λ s. s.name) ∙ kept.paired

    meant : LinkMeant lists p c before
    meant = link_meant kept shown

    asked : LinkAsked nodes lists p c before
    asked = record {
      whole = IsWhole-kept kept;
      parent_node = omega (arith, shown.parent_is_node, as_long);
      child_node = omega (arith, shown.child_is_node, as_long);
      unlinked = meant.unlinked;
      not_above = meant.not_above;
      before_node = λ b e. omega (arith, shown.before_is_node b e, as_long);
      after = after;
    }

abbrev pub with_unlinked : NamedTrees → ℕ → NamedTrees
with_unlinked f c = record f { trees = taken_out (name_at f.names c) f.trees }

pub seen-unlinked : (ps : List Stored) (lists : List (List ℕ)) (keys : Owner → List ℕ) → IsKept ps lists keys → (c : ℕ) → c < length (stored_names ps)
    → seen ps (map (without c) lists) ≡ with_unlinked (seen ps lists) c
seen-unlinked ps lists keys kept c node =
    ap (λ ts. record { names = names; trees = ts }) (trees_of-unlinked (nodes_of ps) lists c (IsWhole-kept kept) within
    ∙ ap (λ x. taken_out x (trees_of (nodes_of ps) lists)) (sym (name_at-same names ps c)))
  where
    names : List NodeName
    names = stored_names ps

    within : c < length lists
    within = omega (arith, node, kept.paired, length-map ps (λ s. s.name))

-- ---- the answers

pub kept_with : (old new : Nodes Stored) (keys : Owner → List ℕ) → IsKept old.payloads old.children keys → new.payloads ≡ old.payloads →
    IsSound new → IsKept new.payloads new.children keys
kept_with old new keys kept same sound =
    IsKept-lists new old.children keys (subst (λ (ps : List Stored). IsKept ps old.children keys) (sym same) kept) sound

pub link_asked : {f : NamedTrees} (a : Nodes Stored) {keys : Owner → List ℕ} → seen a.payloads a.children ≡ f →
    IsKept a.payloads a.children keys → {p c : ℕ} {before : Option ℕ} → LinkShown f p c before → LinkMeant a.children p c before
link_asked a is kept {p} {c} {before} shown =
    link_meant kept (subst (λ (g : NamedTrees). LinkShown g p c before) (sym is) shown)

pub link_done : {f : NamedTrees} (a : Nodes Stored) {b : Nodes Stored} {keys : Owner → List ℕ} → seen a.payloads a.children ≡ f →
    IsKept a.payloads a.children keys → {p c : ℕ} {before : Option ℕ} → LinkShown f p c before
    → b ≡ record a { children = linked a.children p c before } → IsSound b → seen b.payloads b.children ≡ with_linked f p c before
link_done a is kept {p} {c} {before} shown e sound =
    ap (λ d. seen d.payloads d.children) e
    ∙ (seen-linked kept (subst (λ (g : NamedTrees). LinkShown g p c before) (sym is) shown)
    (subst (λ (d : Nodes Stored). IsForest d.children) e sound.forest)
    ∙ ap (λ g. with_linked g p c before) is)

pub unlink_done : {f : NamedTrees} (a : Nodes Stored) {b : Nodes Stored} {keys : Owner → List ℕ} → seen a.payloads a.children ≡ f →
    IsKept a.payloads a.children keys → (c : ℕ) → c < length f.names
    → b ≡ record a { children = map (without c) a.children } → seen b.payloads b.children ≡ with_unlinked f c
unlink_done a {keys} is kept c node e =
    ap (λ d. seen d.payloads d.children) e
    ∙ (seen-unlinked a.payloads a.children keys kept c (subst (λ (g : NamedTrees). c < length g.names) (sym is) node)
    ∙ ap (λ g. with_unlinked g c) is)
