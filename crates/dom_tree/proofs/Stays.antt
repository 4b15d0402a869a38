-- What each step leaves above the nodes that it does not move.
use Rattle.dom_base.proofs.Std.{◌≡◌, ◌≢◌, inl, inr, ℕ, zero, suc, ◌<◌, ◌≤◌, true, false, ◌||◌, eqb, List, [], ◌∷◌, ◌++◌, map, length, Option, Some, None, refl}
use Rattle.dom_base.proofs.Std.{sym, ap, subst, ◌∙◌, arith, option_map, eq-eqb, ne_eqb, eqb-true, eqb-false, or_cases, or_left, or_right, or_parts}
use Rattle.dom_base.proofs.Std.{false_from_ne_true, eqb_tells, length-map, get_or-set_same, get_or-set_other, get_or_append_left, map-append, length_push}
use Rattle.dom_model.proofs.Model.{Owner, NodeName, Trees, inclusive_ancestors, is_inclusive_ancestor, parent_of as parent_in, children_of as children_in}
use Rattle.node_arena.specs.Nodes.{Nodes, IsSound, IsForest, children_of, contains, parent_of, ancestors_of, without, insert_before}
use Rattle.node_arena.proofs.Forests.{cases_Option, ancestors_of-child, ancestors_of-root, parent_of_same, parent_of_none, parent_of_is}
use Rattle.node_arena.proofs.Forests.{children_of-without, children_of-push}
use Rattle.node_arena.proofs.Lists.{contains-without_same, contains-without_other}
use Rattle.dom_tree.specs.Definitions.{Stored, trees_of, NamedTrees, IsKept, stored_names, nodes_of, name_at}
use Rattle.dom_tree.proofs.Rows.{name_of_key}
use Rattle.dom_tree.proofs.Changes.{linked, contains-insert_before}
use Rattle.dom_tree.proofs.Reading.{parent_in-at, children_in-at, inclusive_ancestors-at}
use Rattle.dom_tree.proofs.Walks.{off_from}
use Rattle.dom_tree.proofs.Kept.{seen, within, names_option, name_at-same, IsWhole-kept, kept_with, above-at, ancestors_nodes, shows_parent}

-- ---- in the lists

-- each key but c stands in the same lists
abbrev pub AreSameBut : ℕ → List (List ℕ) → List (List ℕ) → Type 0
AreSameBut c lists others = (k : ℕ) → k ≢ c → (q : ℕ) → contains (children_of others q) k ≡ contains (children_of lists q) k

parent_apart : (lists others : List (List ℕ)) (c : ℕ) → AreSameBut c lists others → (y : ℕ) → eqb y c ≡ false → parent_of others y ≡ parent_of lists y
parent_apart lists others c same y off = parent_of_same others lists y (same y (eqb-false y c off))

ancestors_apart : {lists others : List (List ℕ)} → IsForest lists → IsForest others → (c : ℕ) → AreSameBut c lists others → (y : ℕ) →
    contains (y ∷ ancestors_of lists y) c ≡ false → ancestors_of others y ≡ ancestors_of lists y
ancestors_apart {lists = lists} {others = others} forest after c same y off = up (length (ancestors_of lists y)) y (omega arith) off
  where
    up : (d k : ℕ) → length (ancestors_of lists k) ≤ d → contains (k ∷ ancestors_of lists k) c ≡ false → ancestors_of others k ≡ ancestors_of lists k
    up zero k deep apart = elim (cases_Option (parent_of lists k)) [
      | inl e ↦
          let kept = parent_apart lists others c same k (or_parts (eqb k c) (contains (ancestors_of lists k) c) apart).0 in
          ancestors_of-root others k (kept ∙ e) ∙ sym (ancestors_of-root lists k e)
      | inr w ↦ absurd (omega (arith, ap (length {A = ℕ}) (ancestors_of-child lists forest k w.0 w.1)))
    ]
    up (suc d) k deep apart =
        let parts = or_parts (eqb k c) (contains (ancestors_of lists k) c) apart in
        let kept = parent_apart lists others c same k parts.0 in
        elim (cases_Option (parent_of lists k)) [
          | inl e ↦ ancestors_of-root others k (kept ∙ e) ∙ sym (ancestors_of-root lists k e)
          | inr w ↦
              let path = ancestors_of-child lists forest k w.0 w.1 in
              ancestors_of-child others after k w.0 (kept ∙ w.1)
              ∙ (ap (λ ks. w.0 ∷ ks) (up d w.0 (omega (arith, ap (length {A = ℕ}) path)) (ap (λ ks. contains ks c) (sym path) ∙ parts.1))
              ∙ sym path)
        ]

-- ---- in the trees

map_names : (names : List NodeName) (ps : List Stored) → names ≡ stored_names ps → (ks : List ℕ) → map (name_of_key (nodes_of ps)) ks ≡ map (name_at names) ks
map_names names ps is [] = refl
map_names names ps is (k ∷ ks) =
    ap (λ x. x ∷ map (name_of_key (nodes_of ps)) ks) (sym (name_at-same (stored_names ps) ps k) ∙ ap (λ ns. name_at ns k) (sym is))
    ∙ ap (λ xs. name_at names k ∷ xs) (map_names names ps is ks)

path_at : {ps : List Stored} {lists : List (List ℕ)} {keys : Owner → List ℕ} → IsKept ps lists keys → (y : ℕ) → y < length ps →
    inclusive_ancestors (trees_of (nodes_of ps) lists) (name_at (stored_names ps) y) ≡ map (name_at (stored_names ps)) (y ∷ ancestors_of lists y)
path_at {ps = ps} {lists = lists} kept y node =
    ap (inclusive_ancestors (trees_of (nodes_of ps) lists)) (name_at-same (stored_names ps) ps y)
    ∙ (inclusive_ancestors-at (nodes_of ps) lists (IsWhole-kept kept) y (omega (arith, kept.paired))
    ∙ map_names (stored_names ps) ps refl (y ∷ ancestors_of lists y))

pub same_names : (names more : List NodeName) (ks : List ℕ) → ((k : ℕ) → contains ks k ≡ true → name_at more k ≡ name_at names k) →
    map (name_at more) ks ≡ map (name_at names) ks
same_names names more [] same = refl
same_names names more (k ∷ ks) same =
    ap (λ x. x ∷ map (name_at more) ks) (same k (or_left (eqb k k) _ (eq-eqb k k refl)))
    ∙ ap (λ xs. name_at names k ∷ xs) (same_names names more ks (λ j found. same j (or_right (eqb k j) _ found)))

-- all above a node, and the node, are nodes
above_nodes : {ps : List Stored} {lists : List (List ℕ)} {keys : Owner → List ℕ} → IsKept ps lists keys → (y a : ℕ) → y < length ps →
    contains (y ∷ ancestors_of lists y) a ≡ true → a < length ps
above_nodes {ps = ps} {lists = lists} kept y a node found = elim (or_cases (eqb y a) _ found) [
  | inl h ↦ subst (λ (j : ℕ). j < length ps) (eqb-true y a h) node
  | inr h ↦ let there = ancestors_nodes kept.forest (length (ancestors_of lists y)) y a (omega arith) h in omega (arith, kept.paired)
]

-- a step that moves c alone: the nodes keep their names, and there are no fewer
record MovesAlone (c : ℕ) (ps qs : List Stored) (lists others : List (List ℕ)) : Type 0 where
  pub names : (k : ℕ) → k < length ps → name_at (stored_names qs) k ≡ name_at (stored_names ps) k
  pub longer : length ps ≤ length qs
  pub apart : AreSameBut c lists others

path_stays : {ps qs : List Stored} {lists others : List (List ℕ)} {keys more : Owner → List ℕ} → IsKept ps lists keys → IsKept qs others more →
    {c : ℕ} → MovesAlone c ps qs lists others → (y : ℕ) → y < length ps → contains (y ∷ ancestors_of lists y) c ≡ false →
    inclusive_ancestors (trees_of (nodes_of qs) others) (name_at (stored_names ps) y) ≡
    inclusive_ancestors (trees_of (nodes_of ps) lists) (name_at (stored_names ps) y)
path_stays {ps = ps} {qs = qs} {lists = lists} {others = others} kept after {c = c} moves y node off =
    let longer = moves.longer in
    ap (inclusive_ancestors (trees_of (nodes_of qs) others)) (sym (moves.names y node))
    ∙ (path_at after y (omega arith)
    ∙ (ap (λ ks. map (name_at (stored_names qs)) (y ∷ ks)) (ancestors_apart kept.forest after.forest c moves.apart y off)
    ∙ (same_names (stored_names ps) (stored_names qs) (y ∷ ancestors_of lists y) (λ k found. moves.names k (above_nodes kept y k node found))
    ∙ sym (path_at kept y node))))

-- ---- the steps

module _ {f : NamedTrees} {a b : Nodes Stored} {keys : Owner → List ℕ} (is : seen a.payloads a.children ≡ f)
    (kept : IsKept a.payloads a.children keys) (same : b.payloads ≡ a.payloads) (sound : IsSound b) where
  -- lists in which c alone stands elsewhere
  pub moved_above : (c : ℕ) → c < length f.names → AreSameBut c a.children b.children → (k : ℕ) → k < length f.names →
      is_inclusive_ancestor f.trees (name_at f.names c) (name_at f.names k) ≡ false →
      inclusive_ancestors (trees_of (nodes_of b.payloads) b.children) (name_at f.names k) ≡ inclusive_ancestors f.trees (name_at f.names k)
  moved_above c node apart k at_k off =
      subst (λ (g : NamedTrees). inclusive_ancestors (trees_of (nodes_of b.payloads) b.children) (name_at g.names k) ≡
      inclusive_ancestors g.trees (name_at g.names k)) is
      (path_stays kept (kept_with a b keys kept same sound) (record {
        names = λ j inside. ap (λ ps. name_at (stored_names ps) j) same;
        longer = let long = ap (length {A = Stored}) same in omega arith;
        apart = apart;
      }) k (within is kept k at_k) (off_from is kept c k node at_k off))

  -- the parent of a key, in the trees of changed lists
  pub parent_shown : (c : ℕ) → c < length f.names → (p : Option ℕ) → parent_of b.children c ≡ p →
      parent_in (trees_of (nodes_of b.payloads) b.children) (name_at f.names c) ≡ option_map (name_at f.names) p
  parent_shown c node p e =
      subst (λ (names : List NodeName). parent_in (trees_of (nodes_of b.payloads) b.children) (name_at names c) ≡ option_map (name_at names) p) names_are
      (ap (parent_in (trees_of (nodes_of b.payloads) b.children)) (name_at-same (stored_names b.payloads) b.payloads c)
      ∙ (parent_in-at (nodes_of b.payloads) b.children (IsWhole-kept after) c
      (omega (arith, within is kept c node, ap (length {A = Stored}) same, after.paired))
      ∙ (ap (option_map (name_of_key (nodes_of b.payloads))) e ∙ sym (names_option b.payloads p))))
    where
      after : IsKept b.payloads b.children keys
      after = kept_with a b keys kept same sound

      names_are : stored_names b.payloads ≡ f.names
      names_are = ap stored_names same ∙ ap (λ (g : NamedTrees). g.names) is

  -- lists in which c alone stands elsewhere leave each other node its parent
  pub moved_parents : (c : ℕ) → AreSameBut c a.children b.children → (k : ℕ) → k < length f.names → k ≢ c →
      parent_in (trees_of (nodes_of b.payloads) b.children) (name_at f.names k) ≡ parent_in f.trees (name_at f.names k)
  moved_parents c apart k node other =
      parent_shown k node (parent_of a.children k) (parent_of_same b.children a.children k (apart k other))
      ∙ shows_parent is kept k node refl

-- a node taken out of its list stands in none
pub unlinked_apart : (lists : List (List ℕ)) (c : ℕ) → AreSameBut c lists (map (without c) lists)
unlinked_apart lists c k other q =
    ap (λ ks. contains ks k) (children_of-without lists c q) ∙ contains-without_other c (children_of lists q) k (λ e. other (sym e))

pub unlinked_root : (lists : List (List ℕ)) (c : ℕ) → parent_of (map (without c) lists) c ≡ None
unlinked_root lists c =
    parent_of_none (map (without c) lists) c (λ q. ap (λ ks. contains ks c) (children_of-without lists c q) ∙ contains-without_same c (children_of lists q))

-- a node put into a list
pub linked_apart : (lists : List (List ℕ)) (p c : ℕ) (before : Option ℕ) → p < length lists → AreSameBut c lists (linked lists p c before)
linked_apart lists p c before node k other q = elim (eqb_tells q p) [
  | inl h ↦
      ap (λ j. contains (children_of (linked lists p c before) j) k) h.1
      ∙ (ap (λ ks. contains ks k) (get_or-set_same lists p (insert_before (children_of lists p) c before) [] node)
      ∙ (contains-insert_before (children_of lists p) c before k
      ∙ (ap (λ b. b || contains (children_of lists p) k) (ne_eqb c k (λ e. other (sym e)))
      ∙ ap (λ j. contains (children_of lists j) k) (sym h.1))))
  | inr h ↦ ap (λ ks. contains ks k) (get_or-set_other lists p q (insert_before (children_of lists p) c before) [] h.1)
]

pub linked_parent : (lists : List (List ℕ)) (p c : ℕ) (before : Option ℕ) → p < length lists → IsForest (linked lists p c before) →
    parent_of (linked lists p c before) c ≡ Some p
linked_parent lists p c before node after =
    parent_of_is (linked lists p c before) after.one_list p c
    (ap (λ ks. contains ks c) (get_or-set_same lists p (insert_before (children_of lists p) c before) [] node)
    ∙ (contains-insert_before (children_of lists p) c before c ∙ or_left (eqb c c) _ (eq-eqb c c refl)))

-- ---- a node more

pushed_apart : (lists : List (List ℕ)) (c : ℕ) → AreSameBut c lists (lists ++ [] ∷ [])
pushed_apart lists c k other q = ap (λ ks. contains ks k) (children_of-push lists q)

names_pushed : (ps : List Stored) (s : Stored) (k : ℕ) → k < length ps → name_at (stored_names (ps ++ s ∷ [])) k ≡ name_at (stored_names ps) k
names_pushed ps s k node =
    ap (λ ns. name_at ns k) (map-append (λ (t : Stored). t.name) ps (s ∷ []))
    ∙ get_or_append_left (stored_names ps) (s.name ∷ []) _ k (omega (arith, length-map ps (λ (t : Stored). t.name)))

-- a key past all nodes stands above none of them
new_apart : {ps : List Stored} {lists : List (List ℕ)} {keys : Owner → List ℕ} → IsKept ps lists keys → (y : ℕ) → y < length ps →
    contains (y ∷ ancestors_of lists y) (length ps) ≡ false
new_apart {ps = ps} kept y node = false_from_ne_true _ (λ found. let there = above_nodes kept y (length ps) node found in omega arith)

-- what is stored and the lists, with a node more
abbrev pub IsAdded : Nodes Stored → Nodes Stored → Stored → Type 0
IsAdded a b s = b ≡ record { payloads = a.payloads ++ s ∷ []; children = a.children ++ [] ∷ [] }

pub added_root : {b : Nodes Stored} {keys : Owner → List ℕ} → IsKept b.payloads b.children keys → (c : ℕ) → c < length b.payloads →
    parent_of b.children c ≡ None → parent_in (trees_of (nodes_of b.payloads) b.children) (name_at (stored_names b.payloads) c) ≡ None
added_root {b = b} after c node e =
    ap (parent_in (trees_of (nodes_of b.payloads) b.children)) (name_at-same (stored_names b.payloads) b.payloads c)
    ∙ (parent_in-at (nodes_of b.payloads) b.children (IsWhole-kept after) c (omega (arith, after.paired))
    ∙ ap (option_map (name_of_key (nodes_of b.payloads))) e)

pub added_childless : {b : Nodes Stored} {keys : Owner → List ℕ} → IsKept b.payloads b.children keys → (c : ℕ) → c < length b.payloads →
    children_of b.children c ≡ [] → children_in (trees_of (nodes_of b.payloads) b.children) (name_at (stored_names b.payloads) c) ≡ []
added_childless {b = b} after c node e =
    ap (children_in (trees_of (nodes_of b.payloads) b.children)) (name_at-same (stored_names b.payloads) b.payloads c)
    ∙ (children_in-at (nodes_of b.payloads) b.children (IsWhole-kept after) c (omega (arith, after.paired))
    ∙ ap (map (name_of_key (nodes_of b.payloads))) e)

pub added_named : {f : NamedTrees} {a b : Nodes Stored} {keys : Owner → List ℕ} (s : Stored) → seen a.payloads a.children ≡ f →
    IsKept a.payloads a.children keys → IsAdded a b s → (k : ℕ) → k < length f.names → name_at (stored_names b.payloads) k ≡ name_at f.names k
added_named {a = a} s is kept e k node =
    ap (λ (d : Nodes Stored). name_at (stored_names d.payloads) k) e
    ∙ (names_pushed a.payloads s k (within is kept k node) ∙ ap (λ (g : NamedTrees). name_at g.names k) is)

module _ {f : NamedTrees} {a b : Nodes Stored} {keys more : Owner → List ℕ} (s : Stored) (is : seen a.payloads a.children ≡ f)
    (kept : IsKept a.payloads a.children keys) (after : IsKept b.payloads b.children more) (e : IsAdded a b s) where
  pub added_above : (k : ℕ) → k < length f.names →
      inclusive_ancestors (trees_of (nodes_of b.payloads) b.children) (name_at f.names k) ≡ inclusive_ancestors f.trees (name_at f.names k)
  added_above k node =
      subst (λ (g : NamedTrees). inclusive_ancestors (trees_of (nodes_of b.payloads) b.children) (name_at g.names k) ≡
      inclusive_ancestors g.trees (name_at g.names k)) is
      (path_stays kept after (record {
        names = λ j inside. ap (λ (d : Nodes Stored). name_at (stored_names d.payloads) j) e ∙ names_pushed a.payloads s j inside;
        longer = let long = ap (λ (d : Nodes Stored). length d.payloads) e in let more = length_push a.payloads s in omega arith;
        apart = subst (λ (ks : List (List ℕ)). AreSameBut (length a.payloads) a.children ks) (ap (λ (d : Nodes Stored). d.children) (sym e))
            (pushed_apart a.children (length a.payloads));
      }) k (within is kept k node) (new_apart kept k (within is kept k node)))

  pub added_above_none : (c : ℕ) → c ≡ length a.payloads →
      (k : ℕ) → k < length f.names →
      is_inclusive_ancestor (trees_of (nodes_of b.payloads) b.children) (name_at (stored_names b.payloads) c) (name_at (stored_names b.payloads) k) ≡ false
  added_above_none c at_c k node =
      ap (λ x. is_inclusive_ancestor ts x (name_at (stored_names b.payloads) k)) (name_at-same (stored_names b.payloads) b.payloads c)
      ∙ (ap (is_inclusive_ancestor ts (name_of_key (nodes_of b.payloads) c)) (name_at-same (stored_names b.payloads) b.payloads k)
      ∙ (above-at (IsWhole-kept after) c k (omega (arith, after.paired, long, at_c)) (omega (arith, after.paired, long, inside))
      ∙ (ap (λ ks. contains (k ∷ ks) c) same ∙ (ap (contains (k ∷ ancestors_of a.children k)) at_c ∙ new_apart kept k inside))))
    where
      ts : Trees
      ts = trees_of (nodes_of b.payloads) b.children

      inside : k < length a.payloads
      inside = within is kept k node

      long : length b.payloads ≡ suc (length a.payloads)
      long = ap (λ (d : Nodes Stored). length d.payloads) e ∙ (length_push a.payloads s ∙ omega arith)

      same : ancestors_of b.children k ≡ ancestors_of a.children k
      same = ancestors_apart kept.forest after.forest (length a.payloads)
          (subst (λ (ks : List (List ℕ)). AreSameBut (length a.payloads) a.children ks) (ap (λ (d : Nodes Stored). d.children) (sym e))
          (pushed_apart a.children (length a.payloads)))
          k (new_apart kept k inside)
