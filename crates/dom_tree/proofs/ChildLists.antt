-- The children of each node after a step, from the lists of an arena.
use Rattle.dom_base.proofs.Std.{◌≡◌, ◌≢◌, inl, inr, ℕ, zero, suc, ◌<◌, false, eqb, List, [], ◌∷◌, ◌++◌, map, length, Option, Some, None, refl, sym, ap, subst}
use Rattle.dom_base.proofs.Std.{◌∙◌, arith, slice_get, option_map, cases_Bool, eqb-true, false_from_ne_true, same_Some, none-some, length-map, length_push}
use Rattle.dom_base.proofs.Std.{get_or-set_same, get_or-set_other}
use Rattle.dom_model.proofs.Model.{Owner, NodeName, Trees, names_of, roots, trees_below, children_of as children_in, parent_of as parent_in}
use Rattle.dom_model.proofs.Model.{is_inclusive_ancestor, first_of, name_eq-same, name_eq-turned}
use Rattle.dom_laws.proofs.Laws.{name_eq-from, In, Single, Once, children-single, has_or_not, subtree-absent}
use Rattle.dom_laws.specs.Siblings.{put_name, without_name}
use Rattle.node_arena.specs.Nodes.{Nodes, IsSound, children_of, parent_of, ancestors_of, contains, without, put_before, insert_before}
use Rattle.node_arena.proofs.Forests.{cases_Option, contains-parent, parent_within, ancestors_of-child, children_of-without, children_of-push, parent_of_is}
use Rattle.node_arena.proofs.Lists.{without-absent}
use Rattle.dom_tree.specs.Definitions.{Stored, trees_of, NamedTrees, IsKept, stored_names, nodes_of, name_at}
use Rattle.dom_tree.proofs.Changes.{linked}
use Rattle.dom_tree.proofs.Kept.{seen, shows_parent, within, within_names, kept_with}
use Rattle.dom_tree.proofs.Placing.{names_tell}
use Rattle.dom_tree.proofs.Reading.{Tells, tells-here, tells-rest}
use Rattle.dom_tree.proofs.Stays.{IsAdded, added_named, same_names}
use Rattle.dom_tree.proofs.Walks.{shows_above, shows_children}

-- ---- lists of names, by keys

names-without : (f : ℕ → NodeName) (c : ℕ) (ks : List ℕ) → Tells f c ks → map f (without c ks) ≡ without_name (f c) (map f ks)
names-without f c [] tells = refl
names-without f c (k ∷ ks) tells =
    let here = tells-here f c k ks tells in
    elim (cases_Bool (eqb k c)) [
      | inl e ↦ rw (here, e) (names-without f c ks (tells-rest f c k ks tells))
      | inr e ↦ rw (here, e) (ap (λ xs. f k ∷ xs) (names-without f c ks (tells-rest f c k ks tells)))
    ]

names-before : (f : ℕ → NodeName) (c b : ℕ) (ks : List ℕ) → Tells f b ks → map f (put_before ks c b) ≡ put_name (Some (f b)) (f c) (map f ks)
names-before f c b [] tells = refl
names-before f c b (k ∷ ks) tells =
    let here = name_eq-turned (f k) (f b) ∙ tells-here f b k ks tells in
    elim (cases_Bool (eqb k b)) [
      | inl e ↦ rw (here, e) refl
      | inr e ↦ rw (here, e) (ap (λ xs. f k ∷ xs) (names-before f c b ks (tells-rest f b k ks tells)))
    ]

names-behind : (f : ℕ → NodeName) (c : ℕ) (ks : List ℕ) → map f (ks ++ c ∷ []) ≡ put_name None (f c) (map f ks)
names-behind f c [] = refl
names-behind f c (k ∷ ks) = ap (λ xs. f k ∷ xs) (names-behind f c ks)

names-inserted : (f : ℕ → NodeName) (c : ℕ) (before : Option ℕ) (ks : List ℕ) → ((b : ℕ) → before ≡ Some b → Tells f b ks) →
    map f (insert_before ks c before) ≡ put_name (option_map f before) (f c) (map f ks)
names-inserted f c None ks tells = names-behind f c ks
names-inserted f c (Some b) ks tells = names-before f c b ks (tells b refl)

-- a name that is put before the first of a list comes first
pub put-first : (x : NodeName) (ys : List NodeName) → put_name (first_of ys) x ys ≡ x ∷ ys
put-first x [] = refl
put-first x (y ∷ ys) = rw (name_eq-same y) refl

-- and where none is given, last
pub put-last : (x : NodeName) (ys : List NodeName) → put_name None x ys ≡ ys ++ x ∷ []
put-last x [] = refl
put-last x (y ∷ ys) = ap (λ zs. y ∷ zs) (put-last x ys)

-- ---- each child stands once among the children

module _ (x : NodeName) where
  -- what stands at a place of a list is in it
  In-place : (xs : List NodeName) (i : ℕ) → slice_get xs i ≡ Some x → In x xs
  In-place [] i e = absurd (none-some x e)
  In-place (y ∷ ys) zero e = inl (sym (same_Some y x e))
  In-place (y ∷ ys) (suc i) e = inr (In-place ys i e)

  single-place : (xs : List NodeName) (i j : ℕ) → Single xs → slice_get xs i ≡ Some x → slice_get xs j ≡ Some x → i ≡ j
  single-place [] i j single e f = absurd (none-some x e)
  single-place (y ∷ ys) zero zero single e f = refl
  single-place (y ∷ ys) zero (suc j) single e f = absurd (single.0 (subst (λ z. In z ys) (sym (same_Some y x e)) (In-place ys j f)))
  single-place (y ∷ ys) (suc i) zero single e f = absurd (single.0 (subst (λ z. In z ys) (sym (same_Some y x f)) (In-place ys i e)))
  single-place (y ∷ ys) (suc i) (suc j) single e f = ap suc (single-place ys i j single.1 e f)

module _ (ts : Trees) (once : Once ts) where
  pub child_once : (p x : NodeName) (i j : ℕ) → slice_get (children_in ts p) i ≡ Some x → slice_get (children_in ts p) j ≡ Some x → i ≡ j
  child_once p x i j = single-place x (children_in ts p) i j (elim (has_or_not ts p) [
    | inl there ↦ children-single ts p once there
    | inr off ↦ subst (λ (us : Trees). Single (names_of (roots (trees_below us)))) (sym (subtree-absent ts p off)) tt
  ])

-- ---- the children of a forest's node

module _ {f : NamedTrees} {a : Nodes Stored} {keys : Owner → List ℕ} (is : seen a.payloads a.children ≡ f)
    (kept : IsKept a.payloads a.children keys) where
  tells_child : (x p : ℕ) → x < length f.names → Tells (name_at f.names) x (children_of a.children p)
  tells_child x p node k found =
      let there = kept.forest.nodes p k found in
      names_tell is kept x k node (within_names is kept k (omega (arith, kept.paired)))

  -- a child is not above its parent
  pub child_apart : (k p : ℕ) → k < length f.names → p < length f.names → parent_in f.trees (name_at f.names k) ≡ Some (name_at f.names p) →
      is_inclusive_ancestor f.trees (name_at f.names k) (name_at f.names p) ≡ false
  child_apart k p at_k at_p e = elim (cases_Option (parent_of a.children k)) [
    | inl none ↦ absurd (none-some (name_at f.names p) (shown None (sym none) ∙ e))
    | inr w ↦
        let inside = parent_within a.children w.0 k (contains-parent a.children k w.0 w.1) in
        let node = within_names is kept w.0 (omega (arith, kept.paired)) in
        let test = names_tell is kept w.0 p node at_p in
        let named = name_eq-from (name_at f.names w.0) (name_at f.names p) (same_Some _ _ (shown (Some w.0) (sym w.1) ∙ e)) in
        let same : p ≡ w.0 = eqb-true p w.0 (sym test ∙ named) in
        sym (shows_above is kept k p at_k at_p)
        ∙ ap (λ j. contains (j ∷ ancestors_of a.children j) k) same
        ∙ ap (λ ks. contains ks k) (sym (ancestors_of-child a.children kept.forest k w.0 w.1)) ∙ kept.forest.acyclic k
  ]
    where
      shown : (r : Option ℕ) → r ≡ parent_of a.children k → option_map (name_at f.names) r ≡ parent_in f.trees (name_at f.names k)
      shown r is_parent = shows_parent is kept k at_k is_parent

  module _ {b : Nodes Stored} where
    -- where the lists alone have changed
    module _ (same : b.payloads ≡ a.payloads) (sound : IsSound b) where
      children_now : (k : ℕ) → k < length f.names → (ks : List ℕ) → children_of b.children k ≡ ks →
          children_in (trees_of (nodes_of b.payloads) b.children) (name_at f.names k) ≡ map (name_at f.names) ks
      children_now k node ks e =
          subst (λ (names : List NodeName). children_in (trees_of (nodes_of b.payloads) b.children) (name_at names k) ≡ map (name_at names) ks)
          (ap stored_names same ∙ ap (λ (g : NamedTrees). g.names) is)
          (shows_children {f = seen b.payloads b.children} refl (kept_with a b keys kept same sound) k inside ∙
          ap (map (name_at (stored_names b.payloads))) e)
        where
          inside : k < length (stored_names b.payloads)
          inside =
              let long = ap (length {A = Stored}) same in
              let named = length-map b.payloads (λ (s : Stored). s.name) in
              omega (arith, within is kept k node)

      -- a node out of its list
      pub children_unlinked : (c : ℕ) → c < length f.names → b.children ≡ map (without c) a.children → (k : ℕ) → k < length f.names →
          children_in (trees_of (nodes_of b.payloads) b.children) (name_at f.names k) ≡ without_name (name_at f.names c)
          (children_in f.trees (name_at f.names k))
      children_unlinked c at_c lists k node =
          children_now k node (without c (children_of a.children k)) (ap (λ ks. children_of ks k) lists ∙ children_of-without a.children c k)
          ∙ names-without (name_at f.names) c (children_of a.children k) (tells_child c k at_c)
          ∙ ap (without_name (name_at f.names c)) (sym (shows_children is kept k node))

      -- which stands among the children of its parent alone
      pub children_spared : (c : ℕ) → c < length f.names → b.children ≡ map (without c) a.children → (k : ℕ) → k < length f.names →
          parent_in f.trees (name_at f.names c) ≢ Some (name_at f.names k) →
          children_in (trees_of (nodes_of b.payloads) b.children) (name_at f.names k) ≡ children_in f.trees (name_at f.names k)
      children_spared c at_c lists k node other =
          children_now k node (children_of a.children k)
          (ap (λ ks. children_of ks k) lists ∙ children_of-without a.children c k ∙ without-absent c (children_of a.children k) off)
          ∙ sym (shows_children is kept k node)
        where
          off : contains (children_of a.children k) c ≡ false
          off = false_from_ne_true (contains (children_of a.children k) c) (λ found. other
              (sym (shows_parent is kept c {r = Some k} at_c
              (sym (parent_of_is a.children kept.forest.one_list k c found)))))

      -- a node in a list
      module _ (p c : ℕ) (before : Option ℕ) (at_p : p < length f.names) (lists : b.children ≡ linked a.children p c before) where
        pub children_linked : ((k : ℕ) → before ≡ Some k → k < length f.names) →
            children_in (trees_of (nodes_of b.payloads) b.children) (name_at f.names p) ≡ put_name (option_map (name_at f.names) before)
            (name_at f.names c) (children_in f.trees (name_at f.names p))
        children_linked at_before =
            children_now p at_p (insert_before (children_of a.children p) c before)
            (ap (λ ks. children_of ks p) lists ∙ get_or-set_same a.children p (insert_before (children_of a.children p) c before) [] inside)
            ∙ names-inserted (name_at f.names) c before (children_of a.children p) (λ k e. tells_child k p (at_before k e))
            ∙ ap (put_name (option_map (name_at f.names) before) (name_at f.names c)) (sym (shows_children is kept p at_p))
          where
            inside : p < length a.children
            inside = omega (arith, within is kept p at_p, kept.paired)

        pub children_beside : (k : ℕ) → k < length f.names → k ≢ p →
            children_in (trees_of (nodes_of b.payloads) b.children) (name_at f.names k) ≡ children_in f.trees (name_at f.names k)
        children_beside k node other =
            children_now k node (children_of a.children k)
            (ap (λ ks. children_of ks k) lists ∙ get_or-set_other a.children p k (insert_before (children_of a.children p) c before) [] other)
            ∙ sym (shows_children is kept k node)

    -- a node more
    pub children_added : {more : Owner → List ℕ} → IsKept b.payloads b.children more → (s : Stored) → IsAdded a b s → (k : ℕ) → k < length f.names →
        children_in (trees_of (nodes_of b.payloads) b.children) (name_at f.names k) ≡ children_in f.trees (name_at f.names k)
    children_added after s e k node =
        let names = stored_names b.payloads in
        let lists : children_of b.children k ≡ children_of a.children k =
        ap (λ (d : Nodes Stored). children_of d.children k) e ∙ children_of-push a.children k in
        ap (children_in (trees_of (nodes_of b.payloads) b.children)) (sym (added_named s is kept e k node))
        ∙ shows_children {f = seen b.payloads b.children} refl after k inside
        ∙ ap (map (name_at names)) lists
        ∙ same_names f.names names (children_of a.children k) (λ j found.
        let there = kept.forest.nodes k j found in added_named s is kept e j (within_names is kept j (omega (arith, kept.paired))))
        ∙ sym (shows_children is kept k node)
      where
        inside : k < length (stored_names b.payloads)
        inside =
            let long = ap (λ (d : Nodes Stored). length d.payloads) e ∙ length_push a.payloads s in
            let named = length-map b.payloads (λ (t : Stored). t.name) in
            omega (arith, within is kept k node)
