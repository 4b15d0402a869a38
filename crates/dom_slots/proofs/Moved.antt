-- A tree that is moved outside of shadow trees leaves all others than its root where they are assigned.
use Rattle.dom_base.proofs.Std.{◌≡◌, ◌⊎◌, inl, inr, ◌+◌, length, List, Option, None, Some, refl, sym, ap, subst, ◌∙◌, arith, length-append, unwrap_or}
use Rattle.dom_model.proofs.Model.{NodeName, name_eq, items_before, last_of, Trees, none, tree, Node, nodes, roots, names_of, node_in, trees_below, subtree}
use Rattle.dom_model.proofs.Model.{inclusive_ancestors, parent_of, root_of, children_of}
use Rattle.dom_laws.proofs.Laws.{above-split, parent-of_child, Has, has_or_not, subtree-here, subtree-present, above-from_below, above-parent, Once}
use Rattle.dom_slots.specs.Definitions.{ShadowHost, host_named}
use Rattle.dom_slots.proofs.PlacedTrees.{Spot, grafted, Has-grafted, others, above-others, tree-others, tree-own, ReadAlike, ReadAlike-others}
use Rattle.dom_slots.proofs.NamesOfNodes.{InNodes, in_tree, node_in-self}
use Rattle.dom_slots.proofs.Rooted.{root-alone, root-parent, root-below, root-of_root, in-tree_of_root, root-within}
use Rattle.dom_slots.proofs.Settled.{IsSettled, KeepsHosts, KeepsAssigned, assigned-unhosted, assigned-settled}

-- a node that stands in no shadow tree, if there is one
abbrev pub Outside : List NodeName → List ShadowHost → Trees → Option NodeName → Type 0
Outside names hosts ts o = (p : NodeName) → o ≡ Some p → host_named names hosts (root_of ts p) ≡ None

-- trees before and after a step: each node stands once, and the hosts are nodes of both
pub record AreBoth (names : List NodeName) (hosts : List ShadowHost) (was now : Trees) : Type 0 where
  pub once_was : Once was
  pub once_now : Once now
  pub stands : (r h : NodeName) → host_named names hosts r ≡ Some h → Has was h × Has now h

-- a step of x that is made outside of shadow trees
pub record IsAside (names : List NodeName) (hosts : List ShadowHost) (x : NodeName) (was now : Trees) : Type 0 where
  pub both : AreBoth names hosts was now
  pub node : host_named names hosts x ≡ None
  pub left : Outside names hosts now (parent_of was x)
  pub parent : Outside names hosts now (parent_of now x)

-- the root of x has no host afterwards
pub root-aside : {names : List NodeName} {hosts : List ShadowHost} {x : NodeName} {was now : Trees} → IsAside names hosts x was now → Has now x →
    host_named names hosts (root_of now x) ≡ None
root-aside {names} {hosts} {x} {was} {now} aside at = by (parent_of now x) refl
  where
    by : (o : Option NodeName) → parent_of now x ≡ o → host_named names hosts (root_of now x) ≡ None
    by None e = ap (host_named names hosts) (root-alone now x at e) ∙ aside.node
    by (Some p) e = ap (host_named names hosts) (root-parent now aside.both.once_now x p at e) ∙ aside.parent p e

-- the node of a name is the root of its tree
pub node-of_tree : (ts : Trees) → Once ts → (c : NodeName) → Has ts c → (n : Node) × (b : Trees) × (subtree ts c ≡ tree n b none) × (node_in ts c ≡ n)
node-of_tree ts once c h =
    let w = subtree-present ts c h in
    let inside : InNodes w.0 (nodes (subtree ts c)) = subst (λ (us : Trees). InNodes w.0 (nodes us)) (sym w.2) (inl refl) in
    (w.0, w.1, w.2, ap (node_in ts) (sym w.3) ∙ node_in-self ts once w.0 (in_tree ts c w.0 inside))

-- no node stands above its parent
pub not-below : (ts : Trees) → Once ts → (x : NodeName) {p : NodeName} → Has ts x → parent_of ts x ≡ Some p → Has (subtree ts x) p → ⊥
not-below ts once x {p} h e i =
    let up = above-parent ts x p once h e in
    let round = above-split ts x p once up.1 (above-from_below ts x p once h i) in
    let front = items_before name_eq x (inclusive_ancestors ts p) in
    let long : length (inclusive_ancestors ts p) ≡ length front + length (inclusive_ancestors ts x) =
    ap (length {A = NodeName}) round ∙ length-append front (inclusive_ancestors ts x) in
    omega (arith, long, ap (length {A = NodeName}) up.0)

module _ (names : List NodeName) (hosts : List ShadowHost) (m : Node) (d us : Trees) (p q : Spot)
    (apart : (y : NodeName) → Has us y → Has (tree m d none) y → ⊥)
    (both : AreBoth names hosts (grafted m d p us) (grafted m d q us)) where
  abbrev was : Trees
  was = grafted m d p us

  abbrev now : Trees
  now = grafted m d q us

  abbrev x : NodeName
  x = m.name

  -- the tree of x in both
  pub own_tree : (spot : Spot) → subtree (grafted m d spot us) x ≡ tree m d none
  own_tree spot = tree-own m d spot us x (λ h. apart x h (inl refl)) ∙ subtree-here m d none x refl

  in_own : (spot : Spot) (y : NodeName) → Has (tree m d none) y → Has (subtree (grafted m d spot us) x) y
  in_own spot y h = subst (λ (ts : Trees). Has ts y) (sym (own_tree spot)) h

  -- other nodes have the roots that they had
  pub root_same : (y : NodeName) → (Has (tree m d none) y → ⊥) → root_of was y ≡ root_of now y
  root_same y off = ap (λ path. unwrap_or (last_of path) y) (above-others m d p us y off ∙ sym (above-others m d q us y off))

  -- ---- hosts

  alike_children : (ts vs : Trees) → ReadAlike m d ts vs → others x (names_of (roots (trees_below ts))) ≡ others x (names_of (roots (trees_below vs)))
  alike_children none none alike = refl
  alike_children none (tree k b s) alike = absurd alike
  alike_children (tree n c r) none alike = absurd alike
  alike_children (tree n c r) (tree k b s) alike = alike.1

  pub children_same : (h : NodeName) → others x (children_of was h) ≡ others x (children_of now h)
  children_same h = elim (has_or_not (tree m d none) h) [
    | inl i ↦ let off : Has us h → ⊥ = λ j. apart h j i in ap (λ (ts : Trees). others x (names_of (roots (trees_below ts))))
        (tree-own m d p us h off ∙ sym (tree-own m d q us h off))
    | inr off ↦ alike_children (subtree was h) (subtree us h) (ReadAlike-others m d p us h off) ∙
        sym (alike_children (subtree now h) (subtree us h) (ReadAlike-others m d q us h off))
  ]

  -- the first root of trees, or x where there is none
  abbrev first_root : Trees → Node
  first_root none = m
  first_root (tree n c r) = n

  -- the root of a tree that reads like others is their first one
  alike_root : (n : Node) (b ts : Trees) → ReadAlike m d (tree n b none) ts → n ≡ first_root ts
  alike_root n b none e = absurd e
  alike_root n b (tree l a t) e = e.0

  pub contents_same : (y : NodeName) → Has was y → Has now y → node_in was y ≡ node_in now y
  contents_same y h g =
      let v = node-of_tree was both.once_was y h in
      let w = node-of_tree now both.once_now y g in
      v.3 ∙ (elim (has_or_not (tree m d none) y) [
        | inl i ↦ root_of_both v.0 w.0 v.1 w.1
            (sym v.2 ∙ ((let off : Has us y → ⊥ = λ j. apart y j i in tree-own m d p us y off ∙ sym (tree-own m d q us y off)) ∙ w.2))
        | inr off ↦
            alike_root v.0 v.1 (subtree us y) (subst (λ (ts : Trees). ReadAlike m d ts (subtree us y)) v.2 (ReadAlike-others m d p us y off))
            ∙ sym (alike_root w.0 w.1 (subtree us y) (subst (λ (ts : Trees). ReadAlike m d ts (subtree us y)) w.2 (ReadAlike-others m d q us y off)))
      ] ∙ sym w.3)
    where
      root_of_both : (n k : Node) (b c : Trees) → tree n b none ≡ tree k c none → n ≡ k
      root_of_both n k b c e = ap first_root e

  pub keeps_hosts : KeepsHosts names hosts x was now
  keeps_hosts = record {
    stands = both.stands;
    children = λ r h e. children_same h;
    contents = λ r h c e i j other.
        let at = both.stands r h e in
        contents_same c (parent-of_child was h c both.once_was at.0 i).1 (parent-of_child now h c both.once_now at.1 j).1;
  }

  -- a node stays in its tree where x neither stood nor stands in it
  settled_so : (y : NodeName) → Has was y → (Has (tree m d none) y → ⊥) → (Has (subtree was (root_of was y)) x → ⊥) →
      (Has (subtree now (root_of was y)) x → ⊥) → IsSettled was now y
  settled_so y h off away away_now =
      let top : Has (tree m d none) (root_of was y) → ⊥ = λ i.
      let same : root_of was (root_of was y) ≡ root_of was x =
      root-below was both.once_was x (root_of was y) (Has-grafted m d p us) (in_own p (root_of was y) i) in
      let root_is : root_of was x ≡ root_of was y = sym same ∙ root-of_root was both.once_was y h in
      away (subst (λ z. Has (subtree was z) x) root_is (in-tree_of_root was both.once_was x (Has-grafted m d p us))) in
      record { root = root_same y off; tree = tree-others m d p us (root_of was y) top away ∙ sym (tree-others m d q us (root_of was y) top away_now) }

  -- so it is where it stands in the tree of neither parent
  pub moved-settled : (y : NodeName) → Has was y → Has now y → (Has (subtree now x) y → ⊥) →
      ((a : NodeName) → parent_of was x ≡ Some a → Has (subtree now (root_of now a)) y → ⊥)
      → ((a : NodeName) → parent_of now x ≡ Some a → Has (subtree now (root_of now a)) y → ⊥) → IsSettled was now y
  moved-settled y h g away left parent = settled_so y h off (before (parent_of was x) refl) (after (parent_of now x) refl)
    where
      off : Has (tree m d none) y → ⊥
      off i = away (in_own q y i)

      own_root : Has (subtree now (root_of now y)) y
      own_root = in-tree_of_root now both.once_now y g

      before : (o : Option NodeName) → parent_of was x ≡ o → Has (subtree was (root_of was y)) x → ⊥
      before None e i =
          let same : root_of was y ≡ x = sym (root-within was both.once_was y x h i) ∙ root-alone was x (Has-grafted m d p us) e in
          off (subst (λ (ts : Trees). Has ts y) (own_tree p) (subst (λ z. Has (subtree was z) y) same (in-tree_of_root was both.once_was y h)))
      before (Some a) e i =
          let apart_from : Has (tree m d none) a → ⊥ = λ k. not-below was both.once_was x (Has-grafted m d p us) e (in_own p a k) in
          let same : root_of now y ≡ root_of now a =
          sym (root_same y off) ∙ (sym (root-within was both.once_was y x h i) ∙
          (root-parent was both.once_was x a (Has-grafted m d p us) e ∙ root_same a apart_from)) in
          left a e (subst (λ z. Has (subtree now z) y) same own_root)

      after : (o : Option NodeName) → parent_of now x ≡ o → Has (subtree now (root_of was y)) x → ⊥
      after None e i =
          let same : root_of now y ≡ x =
          sym (root-within now both.once_now y x g (subst (λ z. Has (subtree now z) x) (root_same y off) i)) ∙
          root-alone now x (Has-grafted m d q us) e in
          away (subst (λ z. Has (subtree now z) y) same own_root)
      after (Some a) e i =
          let same : root_of now y ≡ root_of now a =
          sym (root-within now both.once_now y x g (subst (λ z. Has (subtree now z) x) (root_same y off) i)) ∙
          root-parent now both.once_now x a (Has-grafted m d q us) e in
          parent a e (subst (λ z. Has (subtree now z) y) same own_root)

  -- the nodes of a tree that had no parent and has none stay in it
  pub alone-settled : (y : NodeName) → Has (subtree now x) y → parent_of was x ≡ None → parent_of now x ≡ None → IsSettled was now y
  alone-settled y i e f =
      let own : Has (tree m d none) y = subst (λ (ts : Trees). Has ts y) (own_tree q) i in
      let before : root_of was y ≡ x = root-below was both.once_was x y (Has-grafted m d p us) (in_own p y own) ∙ root-alone was x (Has-grafted m d p us) e in
      let after : root_of now y ≡ x = root-below now both.once_now x y (Has-grafted m d q us) i ∙ root-alone now x (Has-grafted m d q us) f in
      record { root = before ∙ sym after; tree = ap (subtree was) before ∙ (own_tree p ∙ (sym (own_tree q) ∙ sym (ap (subtree now) before))) }

  module _ (aside : IsAside names hosts m.name (grafted m d p us) (grafted m d q us)) where
    -- the root of x had no host before
    root_was : host_named names hosts (root_of was x) ≡ None
    root_was = by (parent_of was x) refl
      where
        by : (o : Option NodeName) → parent_of was x ≡ o → host_named names hosts (root_of was x) ≡ None
        by None e = ap (host_named names hosts) (root-alone was x (Has-grafted m d p us) e) ∙ aside.node
        by (Some a) e =
            let off : Has (tree m d none) a → ⊥ = λ h. not-below was both.once_was x (Has-grafted m d p us) e (in_own p a h) in
            ap (host_named names hosts) (root-parent was both.once_was x a (Has-grafted m d p us) e ∙ root_same a off) ∙ aside.left a e

    root_now : host_named names hosts (root_of now x) ≡ None
    root_now = root-aside aside (Has-grafted m d q us)

    -- each node stays in its tree, or it is in no shadow tree
    placed_so : (y : NodeName) → Has was y → Has now y → IsSettled was now y ⊎
        ((host_named names hosts (root_of was y) ≡ None) × (host_named names hosts (root_of now y) ≡ None))
    placed_so y h g = elim (has_or_not (tree m d none) y) [
      | inl i ↦ inr (
        ap (host_named names hosts) (root-below was both.once_was x y (Has-grafted m d p us) (in_own p y i)) ∙ root_was,
        ap (host_named names hosts) (root-below now both.once_now x y (Has-grafted m d q us) (in_own q y i)) ∙ root_now,
      )
      | inr off ↦ elim (has_or_not (subtree was (root_of was y)) x) [
        | inl i ↦
            let none_was : host_named names hosts (root_of was y) ≡ None =
            ap (host_named names hosts) (sym (root-within was both.once_was y x h i)) ∙ root_was in
            inr (none_was, ap (host_named names hosts) (sym (root_same y off)) ∙ none_was)
        | inr away ↦ elim (has_or_not (subtree now (root_of was y)) x) [
          | inl i ↦
              let none_now : host_named names hosts (root_of now y) ≡ None =
              ap (host_named names hosts) (sym (root-within now both.once_now y x g (subst (λ z. Has (subtree now z) x) (root_same y off) i))) ∙ root_now in
              inr (ap (host_named names hosts) (root_same y off) ∙ none_now, none_now)
          | inr away_now ↦ inl (settled_so y h off away away_now)
        ]
      ]
    ]

    -- so all that is assigned to others stays
    pub moved-keeps : KeepsAssigned names hosts x was now
    moved-keeps y h g = elim (placed_so y h g) [
      | inl s ↦ assigned-settled names hosts was now both.once_was both.once_now y h g s x keeps_hosts
      | inr e ↦ ap (others x) (assigned-unhosted names hosts was now both.once_was both.once_now y e.0 e.1)
    ]
