-- Trees that stand for keys: the root of each is the node of the key, and its children stand for the key's list.
use Rattle.dom_base.proofs.Std.{◌≡◌, ◌≢◌, ◌⊎◌, inl, inr, ℕ, zero, suc, ◌+◌, ◌<◌, ◌≤◌, true, false, eqb, List, [], ◌∷◌, ◌++◌, map, length, Option, Some, None}
use Rattle.dom_base.proofs.Std.{refl, sym, ap, subst, ◌∙◌, arith, slice_get, option_map, or_right, cases_Bool, eqb_tells, same_Some, slice_get-get_or}
use Rattle.dom_base.proofs.Std.{get_or_from_slice_get}
use Rattle.dom_model.proofs.Model.{NodeName, name_eq, name_before, Trees, none, tree, Node, followed_by, without, put_before, put_below, put_root, map_nodes}
use Rattle.dom_model.proofs.Model.{name_eq-same, name_eq-other}
use Rattle.node_arena.specs.Nodes.{children_of, contains, ancestors_of, IsForest, without as without_key, put_before as put_key_before, insert_before}
use Rattle.node_arena.proofs.Forests.{parent_of_is, ancestors_of-child, length-ancestors_of, children_of-without}
use Rattle.node_arena.proofs.Lists.{contains-head}
use Rattle.dom_tree.specs.Definitions.{node_at, row, below_within, put_key}
use Rattle.dom_tree.specs.Rows.{trees_on}

-- the trees stand for the keys
abbrev pub Stands : List Node → List (List ℕ) → Trees → List ℕ → Type 0
Stands nodes lists none [] = Unit {0}
Stands nodes lists none (k ∷ ks) = ⊥
Stands nodes lists (tree n children rest) [] = ⊥
Stands nodes lists (tree n children rest) (k ∷ ks) =
    (slice_get nodes k ≡ Some n) × Stands nodes lists children (children_of lists k) × Stands nodes lists rest ks

-- no two keys have nodes of one name
pub record IsNamed (nodes : List Node) : Type 0 where
  pub distinct : (j k : ℕ) (m n : Node) → slice_get nodes j ≡ Some m → slice_get nodes k ≡ Some n → m.name ≡ n.name → j ≡ k

-- names tell keys apart
pub same_name : {nodes : List Node} → IsNamed nodes → (j k : ℕ) {m n : Node} → slice_get nodes j ≡ Some m → slice_get nodes k ≡ Some n →
    name_eq m.name n.name ≡ eqb j k
same_name {nodes} named j k {m} {n} at_j at_k = by (eqb_tells j k)
  where
    by : ((eqb j k ≡ true) × (j ≡ k)) ⊎ ((eqb j k ≡ false) × (j ≢ k)) → name_eq m.name n.name ≡ eqb j k
    by (inl h) = let e : m ≡ n = same_Some m n (sym at_j ∙ (ap (slice_get nodes) h.1 ∙ at_k)) in
        (ap (λ (y : Node). name_eq m.name y.name) (sym e) ∙ name_eq-same m.name) ∙ sym h.0
    by (inr h) = name_eq-other m.name n.name (λ e. h.1 (named.distinct j k m n at_j at_k e)) ∙ sym h.0

-- ---- at most one list of trees stands for a list of keys

pub Stands-one : (nodes : List Node) (lists : List (List ℕ)) (ts : Trees) {us : Trees} (ks : List ℕ) → Stands nodes lists ts ks → Stands nodes lists us ks →
    ts ≡ us
Stands-one nodes lists none {us = none} ks s t = refl
Stands-one nodes lists none {us = tree m d q} [] s t = absurd t
Stands-one nodes lists none {us = tree m d q} (k ∷ ks) s t = absurd s
Stands-one nodes lists (tree n c r) [] s t = absurd s
Stands-one nodes lists (tree n c r) {us = none} (k ∷ ks) s t = absurd t
Stands-one nodes lists (tree n c r) {us = tree m d q} (k ∷ ks) s t =
    let root : n ≡ m = same_Some n m (sym s.0 ∙ t.0) in
    let below = Stands-one nodes lists c (children_of lists k) s.1 t.1 in
    let rest = Stands-one nodes lists r ks s.2 t.2 in
    cc

-- ---- where the lists make a forest, the trees that the view makes stand for their keys

abbrev pub Each : (ℕ → Type 0) → List ℕ → Type 0
Each P ks = (k : ℕ) → contains ks k ≡ true → P k

Each-tail : (P : ℕ → Type 0) (k : ℕ) (ks : List ℕ) → Each P (k ∷ ks) → Each P ks
Each-tail P k ks each j found = each j (or_right (eqb k j) (contains ks j) found)

Stands-row : (nodes : List Node) (lists : List (List ℕ)) (below : ℕ → Trees) (ks : List ℕ)
    → Each (λ k. k < length nodes) ks → Each (λ k. Stands nodes lists (below k) (children_of lists k)) ks
    → Stands nodes lists (row (node_at nodes) below ks) ks
Stands-row nodes lists below [] within stand = tt
Stands-row nodes lists below (k ∷ ks) within stand = (
  slice_get-get_or nodes k _ (within k (contains-head k ks)),
  stand k (contains-head k ks),
  Stands-row nodes lists below ks (Each-tail (λ j. j < length nodes) k ks within)
      (Each-tail (λ j. Stands nodes lists (below j) (children_of lists j)) k ks stand),
)

module _ (nodes : List Node) (lists : List (List ℕ)) (forest : IsForest lists) (paired : length nodes ≡ length lists) where
  Stands-below : (m k : ℕ) → k < length lists → length lists ≤ m + length (ancestors_of lists k) →
      Stands nodes lists (below_within m nodes lists k) (children_of lists k)
  Stands-below zero k node deep = absurd (omega (arith, length-ancestors_of lists forest k node))
  Stands-below (suc m) k node deep =
      Stands-row nodes lists (below_within m nodes lists) (children_of lists k)
      (λ j found. omega (arith, forest.nodes k j found))
      (λ j found.
      let up = ap (length {A = ℕ}) (ancestors_of-child lists forest j k (parent_of_is lists forest.one_list k j found)) in
      Stands-below m j (forest.nodes k j found) (omega (arith, up)))

  pub Stands-trees_on : (ks : List ℕ) → Each (λ k. k < length lists) ks → Stands nodes lists (trees_on nodes lists ks) ks
  unfolding trees_on
  Stands-trees_on ks within =
      Stands-row nodes lists (below_within (length lists) nodes lists) ks
      (λ k found. omega (arith, within k found))
      (λ k found. Stands-below (length lists) k (within k found) (omega arith))

-- ---- changes

abbrev pub name_of_key : List Node → ℕ → NodeName
name_of_key nodes k = (node_at nodes k).name

-- nothing changes at the keys for which P holds, and P holds of what is below them
pub record KeepsAll (nodes others : List Node) (lists changed : List (List ℕ)) (P : ℕ → Type 0) : Type 0 where
  pub node : (k : ℕ) (n : Node) → P k → slice_get nodes k ≡ Some n → slice_get others k ≡ Some n
  pub list : (k : ℕ) → P k → children_of changed k ≡ children_of lists k
  pub down : (k j : ℕ) → P k → contains (children_of lists k) j ≡ true → P j

module _ (nodes others : List Node) (lists : List (List ℕ)) where
  -- trees stand for the same keys where nothing changes at these and below them
  pub Stands-kept : {changed : List (List ℕ)} {P : ℕ → Type 0} → KeepsAll nodes others lists changed P
      → (ts : Trees) (ks : List ℕ) → Each P ks → Stands nodes lists ts ks → Stands others changed ts ks
  Stands-kept keeps none [] each s = tt
  Stands-kept keeps none (k ∷ ks) each s = absurd s
  Stands-kept keeps (tree n c r) [] each s = absurd s
  Stands-kept {changed = changed} {P = P} keeps (tree n c r) (k ∷ ks) each s =
      let here = each k (contains-head k ks) in (
        keeps.node k n here s.0,
        subst (λ (js : List ℕ). Stands others changed c js) (sym (keeps.list k here))
            (Stands-kept keeps c (children_of lists k) (λ j found. keeps.down k j here found) s.1),
        Stands-kept keeps r ks (Each-tail P k ks each) s.2,
      )

  -- each node is given other contents
  pub Stands-map_nodes : (f : Node → Node)
      → ((k : ℕ) (n : Node) → slice_get nodes k ≡ Some n → slice_get others k ≡ Some (f n))
      → (ts : Trees) (ks : List ℕ) → Stands nodes lists ts ks → Stands others lists (map_nodes f ts) ks
  Stands-map_nodes f node none [] s = tt
  Stands-map_nodes f node none (k ∷ ks) s = absurd s
  Stands-map_nodes f node (tree n c r) [] s = absurd s
  Stands-map_nodes f node (tree n c r) (k ∷ ks) s =
      (node k n s.0, Stands-map_nodes f node c (children_of lists k) s.1, Stands-map_nodes f node r ks s.2)

module _ (nodes : List Node) (lists : List (List ℕ)) where
  -- one key leaves all lists
  pub Stands-without : IsNamed nodes → (x : ℕ) {m : Node} → slice_get nodes x ≡ Some m → (ts : Trees) (ks : List ℕ) → Stands nodes lists ts ks →
      Stands nodes (map (without_key x) lists) (without m.name ts) (without_key x ks)
  Stands-without named x at none [] s = tt
  Stands-without named x at none (k ∷ ks) s = absurd s
  Stands-without named x at (tree n c r) [] s = absurd s
  Stands-without named x {m = m} at (tree n c r) (k ∷ ks) s =
      let rest = Stands-without named x at r ks s.2 in
      let below : Stands nodes (map (without_key x) lists) (without m.name c) (children_of (map (without_key x) lists) k) =
      subst (λ (js : List ℕ). Stands nodes (map (without_key x) lists) (without m.name c) js) (sym (children_of-without lists x k))
      (Stands-without named x at c (children_of lists k) s.1) in
      let tells : name_eq n.name m.name ≡ eqb k x = same_name named k x s.0 at in
      elim (cases_Bool (eqb k x)) [
        | inl e ↦ rw (tells, e) rest
        | inr e ↦ rw (tells, e) (s.0, below, rest)
      ]

  -- two lists of trees, one after the other
  pub Stands-followed_by : (ts us : Trees) (ks js : List ℕ) → Stands nodes lists ts ks →
      Stands nodes lists us js → Stands nodes lists (followed_by ts us) (ks ++ js)
  Stands-followed_by none us [] js s t = t
  Stands-followed_by none us (k ∷ ks) js s t = absurd s
  Stands-followed_by (tree n c r) us [] js s t = absurd s
  Stands-followed_by (tree n c r) us (k ∷ ks) js s t = (s.0, s.1, Stands-followed_by r us ks js s.2 t)

module _ (nodes : List Node) (lists : List (List ℕ)) (new : Trees) (x : ℕ) (alone : Stands nodes lists new (x ∷ [])) where
  -- a tree put into a list
  pub Stands-put_last : (ts : Trees) (ks : List ℕ) → Stands nodes lists ts ks → Stands nodes lists (put_before None new ts) (ks ++ x ∷ [])
  Stands-put_last none [] s = alone
  Stands-put_last none (k ∷ ks) s = absurd s
  Stands-put_last (tree n c r) [] s = absurd s
  Stands-put_last (tree n c r) (k ∷ ks) s = (s.0, s.1, Stands-put_last r ks s.2)

  pub Stands-put_before : IsNamed nodes → (b : ℕ) {m : Node} → slice_get nodes b ≡ Some m
      → (ts : Trees) (ks : List ℕ) → Stands nodes lists ts ks → Stands nodes lists (put_before (Some m.name) new ts) (put_key_before ks x b)
  Stands-put_before named b at none [] s = alone
  Stands-put_before named b at none (k ∷ ks) s = absurd s
  Stands-put_before named b at (tree n c r) [] s = absurd s
  Stands-put_before named b {m = m} at (tree n c r) (k ∷ ks) s =
      let rest = Stands-put_before named b at r ks s.2 in
      let tells : name_eq n.name m.name ≡ eqb k b = same_name named k b s.0 at in
      elim (cases_Bool (eqb k b)) [
        | inl e ↦ rw (tells, e) (Stands-followed_by nodes lists new (tree n c r) (x ∷ []) (k ∷ ks) alone s)
        | inr e ↦ rw (tells, e) (s.0, s.1, rest)
      ]

  -- before the one given, or behind all
  pub Stands-insert : IsNamed nodes → (before : Option ℕ) → ((b : ℕ) → before ≡ Some b → b < length nodes)
      → (ts : Trees) (ks : List ℕ) → Stands nodes lists ts ks →
      Stands nodes lists (put_before (option_map (name_of_key nodes) before) new ts) (insert_before ks x before)
  Stands-insert named None within ts ks s = Stands-put_last ts ks s
  Stands-insert named (Some b) within ts ks s = Stands-put_before named b (slice_get-get_or nodes b _ (within b refl)) ts ks s

  -- a tree of its own among the others
  pub Stands-put_root : (ts : Trees) (ks : List ℕ) → Stands nodes lists ts ks → Stands nodes lists (put_root (name_of_key nodes x) new ts) (put_key nodes x ks)
  Stands-put_root none [] s = alone
  Stands-put_root none (k ∷ ks) s = absurd s
  Stands-put_root (tree n c r) [] s = absurd s
  Stands-put_root (tree n c r) (k ∷ ks) s =
      let rest = Stands-put_root r ks s.2 in
      let at : name_of_key nodes k ≡ n.name = ap (λ (y : Node). y.name) (get_or_from_slice_get nodes k n _ s.0) in
      let same : name_before (name_of_key nodes x) n.name ≡ name_before (name_of_key nodes x) (name_of_key nodes k) =
      ap (name_before (name_of_key nodes x)) (sym at) in
      elim (cases_Bool (name_before (name_of_key nodes x) (name_of_key nodes k))) [
        | inl e ↦ rw (same, e) (Stands-followed_by nodes lists new (tree n c r) (x ∷ []) (k ∷ ks) alone s)
        | inr e ↦ rw (same, e) (s.0, s.1, rest)
      ]

-- a tree that stands for x, to be put before one of the children of p, or behind them, and the lists in which x stands there
pub record PutsBelow (nodes : List Node) (lists changed : List (List ℕ)) (new : Trees) (x : ℕ) (before : Option ℕ) (p : ℕ) : Type 0 where
  pub named : IsNamed nodes
  pub alone : Stands nodes changed new (x ∷ [])
  pub within : (b : ℕ) → before ≡ Some b → b < length nodes
  pub here : children_of changed p ≡ insert_before (children_of lists p) x before
  pub there : (k : ℕ) → k ≢ p → children_of changed k ≡ children_of lists k

-- a tree put among the children of a node
pub Stands-put_below : {nodes : List Node} {lists changed : List (List ℕ)} {new : Trees} {x : ℕ} {before : Option ℕ} {p : ℕ}
    → PutsBelow nodes lists changed new x before p → {m : Node} → slice_get nodes p ≡ Some m
    → (ts : Trees) (ks : List ℕ) → Stands nodes lists ts ks → Stands nodes changed (put_below m.name (option_map (name_of_key nodes) before) new ts) ks
Stands-put_below puts at none [] s = tt
Stands-put_below puts at none (k ∷ ks) s = absurd s
Stands-put_below puts at (tree n c r) [] s = absurd s
Stands-put_below {nodes = nodes} {lists = lists} {changed = changed} {new = new} {x = x} {before = before} {p = p} puts {m = m} at (tree n c r) (k ∷ ks) s =
    let rest = Stands-put_below puts at r ks s.2 in
    let below = Stands-put_below puts at c (children_of lists k) s.1 in
    let given = option_map (name_of_key nodes) before in
    let more : Trees = put_below m.name given new c in
    let tells : name_eq n.name m.name ≡ eqb k p = same_name puts.named k p s.0 at in
    elim (eqb_tells k p) [
      | inl h ↦
          let list : children_of changed k ≡ insert_before (children_of lists k) x before =
          subst (λ (j : ℕ). children_of changed j ≡ insert_before (children_of lists j) x before) (sym h.1) puts.here in
          rw (tells, h.0) (
            s.0,
            subst (λ (js : List ℕ). Stands nodes changed (put_before given new more) js) (sym list)
                (Stands-insert nodes changed new x puts.alone puts.named before puts.within more (children_of lists k) below),
            rest,
          )
      | inr h ↦
          rw (tells, h.0) (s.0, subst (λ (js : List ℕ). Stands nodes changed more js) (sym (puts.there k h.1)) below, rest)
    ]
