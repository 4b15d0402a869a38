-- Where no slot is moved and no slot has an attribute changed, slots are found as before.
use Rattle.dom_base.proofs.Std.{◌≡◌, inl, inr, Bool, true, false, List, [], ◌∷◌, ◌++◌, map, Option, Some, None, refl, sym, ap, ◌∙◌, true≢false, find}
use Rattle.dom_base.proofs.Std.{if◌then◌else◌, option_map, option_and_then, option_or, cases_Bool, and_parts, false_from_ne_true, append-nil}
use Rattle.dom_model.proofs.Model.{NodeName, DomString, name_eq, has_slot_name, is_slot_element, slottable_name, slot_in, slots_among, Trees, none, tree, Node}
use Rattle.dom_model.proofs.Model.{nodes, node_in, or_else, subtree, change_node, name_eq-true, name_eq-other}
use Rattle.dom_laws.proofs.Laws.{Has, has_or_not, subtree-absent, Once}
use Rattle.dom_slots.proofs.Attaching.{no-slot_named}
use Rattle.dom_slots.proofs.Attributed.{changed, changed_name}
use Rattle.dom_slots.proofs.PlacedTrees.{Spot, Before, Below, Behind, grafted, tree-own, ReadAlike, ReadAlike-others}
use Rattle.dom_slots.proofs.NamesOfNodes.{InNodes, in_tree, node_in-self}
use Rattle.dom_slots.proofs.Recast.{nodes_recast, subtree_recast, read_recast}

-- the first slot of a name
abbrev first_slot : DomString → List Node → Option NodeName
first_slot a ns = option_map (λ (n : Node). n.name) (find (has_slot_name a) ns)

module _ (a : DomString) where
  -- of two lists it is that of the first, or else of the second
  first_append : (ms ns : List Node) → first_slot a (ms ++ ns) ≡ option_or (first_slot a ms) (first_slot a ns)
  first_append [] ns = refl
  first_append (m ∷ ms) ns = by (has_slot_name a m) (first_append ms ns)
    where
      by : (b : Bool) → first_slot a (ms ++ ns) ≡ option_or (first_slot a ms) (first_slot a ns)
          → option_map (λ (n : Node). n.name) (if b then Some m else find (has_slot_name a) (ms ++ ns)) ≡ option_or
          (option_map (λ (n : Node). n.name) (if b then Some m else find (has_slot_name a) ms)) (first_slot a ns)
      by true rest = refl
      by false rest = rest

  -- behind the same node
  first_behind : (m : Node) (ms ns : List Node) → first_slot a ms ≡ first_slot a ns → first_slot a (m ∷ ms) ≡ first_slot a (m ∷ ns)
  first_behind m ms ns same = by (has_slot_name a m)
    where
      by : (b : Bool) → option_map (λ (n : Node). n.name) (if b then Some m else find (has_slot_name a) ms) ≡ option_map (λ (n : Node). n.name)
          (if b then Some m else find (has_slot_name a) ns)
      by true = refl
      by false = same

  -- and behind a node that is no slot
  first_without : (m : Node) (ns : List Node) → is_slot_element m ≡ false → first_slot a (m ∷ ns) ≡ first_slot a ns
  first_without m ns off =
      let miss : has_slot_name a m ≡ false = false_from_ne_true _ (λ h. true≢false (sym (and_parts (is_slot_element m) _ h).0 ∙ off)) in
      ap (λ (b : Bool). option_map (λ (n : Node). n.name) (if b then Some m else find (has_slot_name a) ns)) miss

-- what is found by the first slot of each name
found_so : (ts us : Trees) → ((a : DomString) → first_slot a (nodes ts) ≡ first_slot a (nodes us)) → (n : Node) → slot_in ts n ≡ slot_in us n
found_so ts us same n = by (slottable_name n)
  where
    by : (o : Option DomString) → option_and_then (λ a. first_slot a (nodes ts)) o ≡ option_and_then (λ a. first_slot a (nodes us)) o
    by None = refl
    by (Some a) = same a

-- ---- a tree without slots of a name, put into others

module _ (m : Node) (d : Trees) where
  module _ (a : DomString) (bare : first_slot a (nodes (tree m d none)) ≡ None) where
    no_own : first_slot a (m ∷ nodes d) ≡ None
    no_own = ap (λ ns. first_slot a (m ∷ ns)) (sym (append-nil (nodes d))) ∙ bare

    grafted_first : (p : Spot) (us : Trees) → first_slot a (nodes (grafted m d p us)) ≡ first_slot a (nodes us)
    grafted_first Before us = first_append a (m ∷ nodes d) (nodes us) ∙ ap (λ o. option_or o (first_slot a (nodes us))) no_own
    grafted_first (Below p) none = bare
    grafted_first (Below p) (tree n c r) =
        first_behind a n (nodes (grafted m d p c) ++ nodes r) (nodes c ++ nodes r)
        (first_append a (nodes (grafted m d p c)) (nodes r) ∙
        (ap (λ o. option_or o (first_slot a (nodes r))) (grafted_first p c) ∙ sym (first_append a (nodes c) (nodes r))))
    grafted_first (Behind p) none = bare
    grafted_first (Behind p) (tree n c r) =
        first_behind a n (nodes c ++ nodes (grafted m d p r)) (nodes c ++ nodes r)
        (first_append a (nodes c) (nodes (grafted m d p r)) ∙
        (ap (option_or (first_slot a (nodes c))) (grafted_first p r) ∙ sym (first_append a (nodes c) (nodes r))))

    -- the tree of another node has the slots that it had
    subtree_first : (p : Spot) (us : Trees) (r : NodeName) → (Has (tree m d none) r → ⊥) →
        first_slot a (nodes (subtree (grafted m d p us) r)) ≡ first_slot a (nodes (subtree us r))
    subtree_first Before us r off = rw (name_eq-other m.name r (λ e. off (inl e)), subtree-absent d r (λ i. off (inr (inl i)))) refl
    subtree_first (Below p) none r off = ap (λ (ts : Trees). first_slot a (nodes ts)) (subtree-absent (tree m d none) r off)
    subtree_first (Below p) (tree n c s) r off = elim (cases_Bool (name_eq n.name r)) [
      | inl e ↦ rw e (grafted_first (Below p) (tree n c none))
      | inr e ↦ rw e (below (subtree (grafted m d p c) r) (subtree c r) (ReadAlike-others m d p c r off) (subtree_first p c r off))
    ]
      where
        below : (ts us : Trees) → ReadAlike m d ts us → first_slot a (nodes ts) ≡ first_slot a (nodes us) →
            first_slot a (nodes (or_else ts (subtree s r))) ≡ first_slot a (nodes (or_else us (subtree s r)))
        below none none h same = refl
        below none (tree k b t) h same = absurd h
        below (tree k b t) none h same = absurd h
        below (tree k b t) (tree l e u) h same = same
    subtree_first (Behind p) none r off = ap (λ (ts : Trees). first_slot a (nodes ts)) (subtree-absent (tree m d none) r off)
    subtree_first (Behind p) (tree n c s) r off =
        elim (cases_Bool (name_eq n.name r)) [ inl e ↦ rw e refl | inr e ↦ rw e (behind (subtree c r) (subtree_first p s r off)) ]
      where
        behind : (ts : Trees) → first_slot a (nodes (subtree (grafted m d p s) r)) ≡ first_slot a (nodes (subtree s r)) →
            first_slot a (nodes (or_else ts (subtree (grafted m d p s) r))) ≡ first_slot a (nodes (or_else ts (subtree s r)))
        behind none same = same
        behind (tree k b t) same = refl

    -- the tree of each node has the same first slot of the name, wherever this one is put
    pub grafted-first : (us : Trees) (p q : Spot) → ((y : NodeName) → Has us y → Has (tree m d none) y → ⊥) → (r : NodeName) →
        first_slot a (nodes (subtree (grafted m d p us) r)) ≡ first_slot a (nodes (subtree (grafted m d q us) r))
    grafted-first us p q apart r = elim (has_or_not (tree m d none) r) [
      | inl i ↦
          let off : Has us r → ⊥ = λ j. apart r j i in
          ap (λ (ts : Trees). first_slot a (nodes ts)) (tree-own m d p us r off ∙ sym (tree-own m d q us r off))
      | inr off ↦ subtree_first p us r off ∙ sym (subtree_first q us r off)
    ]

  -- so a node finds the same slot there, where this tree has no slots
  module _ (none_of : slots_among (tree m d none) ≡ []) where
    pub grafted-found : (us : Trees) (p q : Spot) → ((y : NodeName) → Has us y → Has (tree m d none) y → ⊥) → (r : NodeName) (n : Node) →
        slot_in (subtree (grafted m d p us) r) n ≡ slot_in (subtree (grafted m d q us) r) n
    grafted-found us p q apart r n =
        found_so (subtree (grafted m d p us) r) (subtree (grafted m d q us) r)
        (λ a. grafted-first a (no-slot_named a (nodes (tree m d none)) none_of) us p q apart r) n

-- ---- a node that is no slot, with other attributes

module _ (x : NodeName) (g : Node → Node) (keeps : (n : Node) → (g n).name ≡ n.name) (element : (n : Node) → is_slot_element (g n) ≡ is_slot_element n) where
  changed_element : (n : Node) → is_slot_element (changed x g keeps n) ≡ is_slot_element n
  changed_element n = by (name_eq n.name x)
    where
      by : (b : Bool) → is_slot_element (if b then g n else n) ≡ is_slot_element n
      by true = element n
      by false = refl

  -- whether a node is a slot stays
  pub changed-slot : (ts : Trees) (y : NodeName) → is_slot_element (node_in (change_node g x ts) y) ≡ is_slot_element (node_in ts y)
  changed-slot ts y = read_recast (changed x g keeps) (changed_name x g keeps) is_slot_element changed_element ts y

  module _ (a : DomString) where
    changed_first : (ns : List Node) → ((n : Node) → InNodes n ns → n.name ≡ x → is_slot_element n ≡ false) →
        first_slot a (map (changed x g keeps) ns) ≡ first_slot a ns
    changed_first [] none_slot = refl
    changed_first (n ∷ ns) none_slot = by (name_eq n.name x) refl (changed_first ns (λ m i. none_slot m (inr i)))
      where
        by : (b : Bool) → name_eq n.name x ≡ b → first_slot a (map (changed x g keeps) ns) ≡ first_slot a ns →
            first_slot a ((if b then g n else n) ∷ map (changed x g keeps) ns) ≡ first_slot a (n ∷ ns)
        by true e rest =
            let off = none_slot n (inl refl) (name_eq-true n.name x e) in
            first_without a (g n) (map (changed x g keeps) ns) (element n ∙ off) ∙ (rest ∙ sym (first_without a n ns off))
        by false e rest = first_behind a n (map (changed x g keeps) ns) ns rest

  -- a node finds the same slot in the tree of each node
  pub changed-found : (ts : Trees) → Once ts → is_slot_element (node_in ts x) ≡ false → (r : NodeName) (n : Node) →
      slot_in (subtree ts r) n ≡ slot_in (subtree (change_node g x ts) r) n
  changed-found ts once off r n =
      found_so (subtree ts r) (subtree (change_node g x ts) r)
      (λ a. sym (ap (λ (us : Trees). first_slot a (nodes us)) (subtree_recast (changed x g keeps) (changed_name x g keeps) ts r)
      ∙ (ap (first_slot a) (nodes_recast (changed x g keeps) (changed_name x g keeps) (subtree ts r))
      ∙ changed_first a (nodes (subtree ts r)) (λ k i e. ap is_slot_element (sym (node_in-self ts once k (in_tree ts r k i)) ∙ ap (node_in ts) e) ∙ off)))) n
