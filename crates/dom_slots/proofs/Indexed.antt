-- Slots that may have names in the trees of shadow roots.
use Rattle.dom_base.proofs.Std.{◌≡◌, ◌≢◌, ◌⊎◌, inl, inr, ℕ, ◌<◌, Bool, true, false, List, [], ◌∷◌, Option, None, Some, map, filter, find, length, refl}
use Rattle.dom_base.proofs.Std.{sym, ap, subst, ◌∙◌, true≢false, nat_eq, option_map, option_to_list, cases_Bool, eqb-true, eq-eqb, or_cases, and_parts, take}
use Rattle.dom_base.proofs.Std.{get_or, none-some, same_Some, All, All-head, All-tail, ◌+◌, ◌&&◌, or_left, or_parts}
use Rattle.dom_model.proofs.Model.{NodeName, DomString, is_in, first_of, is_slot_element, has_slot_name, slot_name, slots_among, Trees, Node, nodes}
use Rattle.dom_model.proofs.Model.{node_in, subtree, root_of, inclusive_descendants}
use Rattle.dom_tree.specs.Definitions.{NamedTrees, name_at, TellApart}
use Rattle.dom_tree.proofs.Standing.{Once-forest, Has-forest}
use Rattle.dom_laws.proofs.Laws.{In, Single, Single-names, Has, Once, once_subtree, subtree-present}
use Rattle.dom_slots.specs.Definitions.{ShadowHost, host_of_root, host_named, AreIndexed, Bearers, bearer_at, MayHave, name_code, is_called}
use Rattle.dom_slots.specs.Definitions.{MovesNone, SlotsNow, StandsOnce, IsEndOf, shadows, step_node, is_move, is_apart}
use Rattle.dom_slots.specs.declared.index.Bearer.{Bearer}
use Rattle.dom_slots.specs.declared.index.Bearer.TheVariants.{Only, Several}
use Rattle.dom_slots.specs.declared.step.SlotChange.{SlotChange}
use Rattle.dom_slots.proofs.Apart.{apart-root}
use Rattle.dom_slots.proofs.Assigned.{names-in}
use Rattle.dom_slots.proofs.Attaching.{in_filter, to_filter}
use Rattle.dom_slots.proofs.Bare.{none-below, both, here-now, stays, none-moved, no_items}
use Rattle.dom_slots.proofs.Ended.{there-was, there-now}
use Rattle.dom_slots.proofs.Far.{slot-among}
use Rattle.dom_slots.proofs.Firsts.{text_true}
use Rattle.dom_slots.proofs.Hosted.{host-named}
use Rattle.dom_slots.proofs.Mapping.{in-more, listed-at}
use Rattle.dom_slots.proofs.NamesOfNodes.{named-filter, named-first}
use Rattle.dom_slots.proofs.Rooted.{root-below, in-tree_of_root}
use Rattle.dom_slots.proofs.Serving.{single-filter}
use Rattle.dom_slots.proofs.TreeSlots.{is-there, slot-key}
use Rattle.dom_slots.proofs.Walks.{filter-twice}

-- one of which each item is the same has no other one
just_one : (x : NodeName) (xs : List NodeName) → Single xs → In x xs → ((y : NodeName) → In y xs → y ≡ x) → x ∷ [] ≡ xs
just_one x [] s i same = absurd i
just_one x (y ∷ []) s i same = ap (λ z. z ∷ []) (sym (same y (inl refl)))
just_one x (y ∷ z ∷ zs) s i same = absurd (s.0 (inl (same y (inl refl) ∙ sym (same z (inr (inl refl))))))

-- the one that alone may have a name is one
pub same-only : {j k : ℕ} → Some (Only j) ≡ Some (Only k) → j ≡ k
same-only {j} {k} e = ap key_of (same_Some (Only j) (Only k) e)
  where
    key_of : Bearer → ℕ
    key_of (Only i) = i
    key_of Several = 0

-- ---- the slots of a name in the tree of a shadow root

module _ (f : NamedTrees) (stands : StandsOnce f) (hosts : List ShadowHost) (index : Bearers) (are : AreIndexed f hosts index) (r : ℕ)
    (root : r < length f.names) (name : DomString) where
  abbrev top : NodeName
  top = name_at f.names r

  abbrev called : List NodeName
  called = filter (is_called f.trees (Some name)) (slots_among (subtree f.trees top))

  once : Once f.trees
  once = Once-forest f stands.once stands.only

  -- the first of them is the first slot of the name
  pub first-called : (o : Option NodeName) → option_to_list o ≡ called →
      o ≡ option_map (λ (n : Node). n.name) (find (has_slot_name name) (nodes (subtree f.trees top)))
  first-called o e =
      first o ∙ (ap first_of (e ∙ (ap (filter (is_called f.trees (Some name))) (named-filter f.trees once is_slot_element top)
      ∙ sym (filter-twice (λ y. is_slot_element (node_in f.trees y)) (is_called f.trees (Some name)) (inclusive_descendants f.trees top))))
      ∙ sym (named-first f.trees once (has_slot_name name) top))
    where
      first : (q : Option NodeName) → q ≡ first_of (option_to_list q)
      first None = refl
      first (Some y) = refl

  module _ (h : ℕ) (hosted : host_of_root hosts r ≡ Some h) (top_root : root_of f.trees top ≡ top) where
    -- each of them may have the name
    each : (y : NodeName) → In y called → (k : ℕ) × (name_at f.names k ≡ y) × (has_slot_name name (node_in f.trees y) ≡ true) ×
        (root_of f.trees y ≡ top) × MayHave (bearer_at index (name_code r name)) k
    each y i =
        let d = in_filter (is_called f.trees (Some name)) y (slots_among (subtree f.trees top)) i in
        let at = is-there f once top y d.1 in
        let key = slot-key f stands top y d.1 in
        let up : root_of f.trees y ≡ top = root-below f.trees once top y (Has-forest f stands.once r root) at.1 ∙ top_root in
        let same : slot_name (node_in f.trees y) ≡ name = text_true (slot_name (node_in f.trees y)) name d.0 in (
          key.0,
          key.2,
          both_hold (is_slot_element (node_in f.trees y)) _ at.0 d.0,
          up,
          subst (λ a. MayHave (bearer_at index (name_code r a)) key.0) (ap (λ z. slot_name (node_in f.trees z)) key.2 ∙ same)
              (are.covered r key.0 h root key.1 hosted (ap (root_of f.trees) key.2 ∙ up) (ap (λ z. is_slot_element (node_in f.trees z)) key.2 ∙ at.0)),
        )
      where
        both_hold : (a b : Bool) → a ≡ true → b ≡ true → (a && b) ≡ true
        both_hold true b e g = g
        both_hold false b e g = e

    -- where nobody may have it there is none
    pub nobody-called : bearer_at index (name_code r name) ≡ None → [] ≡ called
    nobody-called none = sym (no_items called (λ y i. subst (λ o. MayHave o (each y i).0) none (each y i).4))

    -- where one node alone may have it, it is this one, or there is none
    module _ (s : ℕ) (only : bearer_at index (name_code r name) ≡ Some (Only s)) where
      abbrev it : NodeName
      it = name_at f.names s

      is-it : (y : NodeName) → In y called → y ≡ it
      is-it y i = let w = each y i in sym w.1 ∙ ap (name_at f.names) (sym (subst (λ o. MayHave o w.0) only w.4))

      pub only-called : has_slot_name name (node_in f.trees it) ≡ true → root_of f.trees it ≡ top → it ∷ [] ≡ called
      only-called hit at =
          let parts = and_parts (is_slot_element (node_in f.trees it)) _ hit in
          let here : Has (subtree f.trees top) it = subst (λ z. Has (subtree f.trees z) it) at
          (in-tree_of_root f.trees once it (Has-forest f stands.once s (are.inside _ s only))) in
          just_one it called
          (single-filter _ (slots_among (subtree f.trees top)) (subst Single (sym (named-filter f.trees once is_slot_element top))
          (single-filter _ (inclusive_descendants f.trees top) (Single-names (subtree f.trees top) (once_subtree f.trees top once)))))
          (to_filter (is_called f.trees (Some name)) it (slots_among (subtree f.trees top)) parts.1 (slot-among f.trees once top it here parts.0)) is-it

      pub other-called : (has_slot_name name (node_in f.trees it) ≡ true → root_of f.trees it ≡ top → ⊥) → [] ≡ called
      other-called off = sym (no_items called (λ y i.
          let w = each y i in
          off (ap (λ z. has_slot_name name (node_in f.trees z)) (sym (is-it y i)) ∙ w.2) (ap (root_of f.trees) (sym (is-it y i)) ∙ w.3)))

-- ---- a step

module _ (was : Trees) (f : NamedTrees) (s : SlotsNow) (b : SlotChange) (ended : IsEndOf was f s b) (stands : StandsOnce f) where
  abbrev x : NodeName
  x = name_at f.names (step_node b.step)

  -- a slot that was not moved or changed still may have its name
  module _ (r k h : ℕ) (root : r < length f.names) (within : k < length f.names) (hosted : host_of_root s.hosts r ≡ Some h) where
    still : root_of f.trees (name_at f.names k) ≡ name_at f.names r → is_slot_element (node_in f.trees (name_at f.names k)) ≡ true →
        (is_move b.step ≡ true → Has (subtree f.trees x) (name_at f.names k) → ⊥) → (is_move b.step ≡ false → name_at f.names k ≡ x → ⊥) →
        MayHave (bearer_at s.index (name_code r (slot_name (node_in f.trees (name_at f.names k))))) k
    still at slot off other =
        let st = stays was f s b ended stands (name_at f.names k) in
        let same = st.2 (there-was was f s b ended stands k within) (there-now was f s b ended stands k within) other in
        subst (λ (n : Node). MayHave (bearer_at s.index (name_code r (slot_name n))) k) same
        (ended.slots.index.covered r k h root within hosted (st.0 off ∙ at) (ap is_slot_element same ∙ slot))

  -- so it is of all where no slot was
  pub index-still : MovesNone f s.hosts b.step → AreIndexed f s.hosts s.index
  index-still none = record {
    covered = λ r k h root within hosted at slot.
        still r k h root within hosted at slot
        (λ moves i. none-below f.trees (both was f s b ended stands).once_now x (none-moved was f s b ended stands none moves) (name_at f.names k) slot i)
        (λ no_move same. own none (name_at f.names k) slot same);
    inside = ended.slots.index.inside;
  }
    where
      own : MovesNone f s.hosts b.step → (y : NodeName) → is_slot_element (node_in f.trees y) ≡ true → y ≡ x → ⊥
      own (inl bare) y slot same =
          let w = subtree-present f.trees x (here-now was f s b ended stands) in
          none-below f.trees (both was f s b ended stands).once_now x bare y slot
          (subst (λ (ts : Trees). Has ts y) (sym w.2) (inl (w.3 ∙ sym same)))
      own (inr no_move) y slot same = true≢false (sym slot ∙ (ap (λ z. is_slot_element (node_in f.trees z)) same ∙ no_move.1))

  -- and where the step was made outside of shadow trees
  pub index-apart : is_apart (shadows f s.hosts) x (option_map (name_at f.names) b.left) ≡ true → TellApart f.names → AreIndexed f s.hosts s.index
  index-apart apart distinct = record {
    covered = λ r k h root within hosted at slot.
        let named : host_named f.names s.hosts (name_at f.names r) ≡ Some (name_at f.names h) =
        sym (host-named f.names distinct s.hosts ended.slots.hosts r root) ∙ ap (option_map (name_at f.names)) hosted in
        let other : root_of f.trees x ≡ name_at f.names r → ⊥ = λ same.
        none-some _ (sym (apart-root was f s b ended stands apart) ∙ (ap (host_named f.names s.hosts) same ∙ named)) in
        still r k h root within hosted at slot
        (λ moves i. other (sym (root-below f.trees (both was f s b ended stands).once_now x (name_at f.names k) (here-now was f s b ended stands) i) ∙ at))
        (λ no_move same. other (ap (root_of f.trees) (sym same) ∙ at));
    inside = ended.slots.index.inside;
  }

  -- where these slots were carried the others still may have their names, and these may have theirs in the tree that they have reached
  module _ (v : List ℕ) (index : Bearers) (reached : Option ℕ) (top : ℕ) (distinct : TellApart f.names) (nodes : All (λ k. k < length f.names) v)
      (are : map (name_at f.names) v ≡ slots_among (subtree f.trees x)) where
    pub index-moved : top < length f.names → name_at f.names top ≡ root_of f.trees x →
        ((h : ℕ) → host_of_root s.hosts top ≡ Some h → reached ≡ Some top) →
        ((h k : ℕ) → is_in nat_eq k v ≡ false → MayHave (bearer_at s.index h) k → MayHave (bearer_at index h) k) →
        ((h k : ℕ) → bearer_at index h ≡ Some (Only k) → (bearer_at s.index h ≡ Some (Only k)) ⊎ (is_in nat_eq k v ≡ true)) →
        ((r k : ℕ) → reached ≡ Some r → is_in nat_eq k v ≡ true → MayHave (bearer_at index (name_code r (slot_name (node_in f.trees (name_at f.names k))))) k) →
        AreIndexed f s.hosts index
    index-moved node up is_reached kept inside noted = record {
      covered = λ r k h root within hosted at slot. elim (cases_Bool (is_in nat_eq k v)) [
        | inl i ↦
            let below = is-there f now_once x (name_at f.names k) (subst (In (name_at f.names k)) are (names-in f.names k v i)) in
            let same : top ≡ r = distinct top r node root
            (up ∙ (sym (root-below f.trees now_once x (name_at f.names k) (here-now was f s b ended stands) below.1) ∙ at)) in
            noted r k (is_reached h (ap (host_of_root s.hosts) same ∙ hosted) ∙ ap Some same) i
        | inr off ↦
            let out : Has (subtree f.trees x) (name_at f.names k) → ⊥ =
            λ i. unlisted k within off (subst (In (name_at f.names k)) (sym are) (slot-among f.trees now_once x (name_at f.names k) i slot)) in
            kept (name_code r (slot_name (node_in f.trees (name_at f.names k)))) k off
            (still r k h root within hosted at slot (λ moves. out) (λ no_move same.
            let w = subtree-present f.trees x (here-now was f s b ended stands) in
            out (subst (λ (ts : Trees). Has ts (name_at f.names k)) (sym w.2) (inl (w.3 ∙ sym same)))))
      ];
      inside = λ h k only. elim (inside h k only) [
        | inl old ↦ ended.slots.index.inside h k old
        | inr i ↦ in_nodes v nodes k i
      ];
    }
      where
        now_once : Once f.trees
        now_once = (both was f s b ended stands).once_now

        in_nodes : (ks : List ℕ) → All (λ k. k < length f.names) ks → (k : ℕ) → is_in nat_eq k ks ≡ true → k < length f.names
        in_nodes [] all k i = absurd (true≢false (sym i))
        in_nodes (j ∷ ks) all k i = elim (or_cases (nat_eq k j) (is_in nat_eq k ks) i) [
          | inl e ↦ subst (λ n. n < length f.names) (sym (eqb-true k j e)) (All-head (λ n. n < length f.names) j ks all)
          | inr later ↦ in_nodes ks (All-tail (λ n. n < length f.names) j ks all) k later
        ]

        unlisted : (k : ℕ) → k < length f.names → is_in nat_eq k v ≡ false → In (name_at f.names k) (map (name_at f.names) v) → ⊥
        unlisted k within off = by v nodes off
          where
            by : (ks : List ℕ) → All (λ n. n < length f.names) ks → is_in nat_eq k ks ≡ false → In (name_at f.names k) (map (name_at f.names) ks) → ⊥
            by [] all e i = i
            by (j ∷ ks) all e (inl same) = true≢false (sym (or_left (nat_eq k j) (is_in nat_eq k ks)
                (eq-eqb k j (distinct k j within (All-head (λ n. n < length f.names) j ks all) same))) ∙ e)
            by (j ∷ ks) all e (inr i) = by ks (All-tail (λ n. n < length f.names) j ks all) (or_parts (nat_eq k j) (is_in nat_eq k ks) e).1 i

-- ---- loops that forget slots and note them

module _ (v : List ℕ) (i n : ℕ) (at : n ≡ get_or v i n) (within : i < length v) where
  -- one slot of a list is forgotten
  module _ (old now next : Bearers) where
    pub forgot : ((h k : ℕ) → k ≢ n → MayHave (bearer_at now h) k → MayHave (bearer_at next h) k) →
        ((h k : ℕ) → is_in nat_eq k v ≡ false → MayHave (bearer_at old h) k → MayHave (bearer_at now h) k) →
        (h k : ℕ) → is_in nat_eq k v ≡ false → MayHave (bearer_at old h) k → MayHave (bearer_at next h) k
    forgot others kept h k off may =
        others h k (λ same. true≢false (sym (listed-at n v i at within) ∙ (ap (λ j. is_in nat_eq j v) (sym same) ∙ off))) (kept h k off may)

  -- one is noted behind the first
  module _ (now next : Bearers) (code : ℕ → ℕ) where
    pub noted-more : ((h k : ℕ) → MayHave (bearer_at now h) k → MayHave (bearer_at next h) k) → MayHave (bearer_at next (code n)) n →
        ((k : ℕ) → is_in nat_eq k (take i v) ≡ true → MayHave (bearer_at now (code k)) k) →
        (k : ℕ) → is_in nat_eq k (take (i + 1) v) ≡ true → MayHave (bearer_at next (code k)) k
    noted-more kept here before k m = elim (or_cases (is_in nat_eq k (take i v)) (nat_eq n k) (sym (in-more k v i n at within) ∙ m)) [
      | inl old ↦ kept (code k) k (before k old)
      | inr e ↦ subst (λ j. MayHave (bearer_at next (code j)) j) (eqb-true n k e) here
    ]
