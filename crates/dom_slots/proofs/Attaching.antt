-- A host more whose shadow tree has no slot changes nothing of what is assigned.
use Rattle.dom_base.proofs.Std.{◌≡◌, inl, inr, Bool, true, false, List, [], ◌∷◌, ◌++◌, Option, Some, None, filter, refl, sym, ap, subst, ◌∙◌, true≢false, find}
use Rattle.dom_base.proofs.Std.{if◌then◌else◌, option_to_list, unwrap_or, option_map, option_map_or, option_and_then, and_parts, false_from_ne_true}
use Rattle.dom_model.proofs.Model.{NodeName, DomString, name_eq, is_in, last_of, Trees, Node, nodes, names_of, node_in, parent_of, root_of, children_of}
use Rattle.dom_model.proofs.Model.{subtree, inclusive_ancestors, inclusive_descendants, slots_among, slot_in, has_slot_name, slottable_name, is_slot_element}
use Rattle.dom_model.proofs.Model.{name_eq-true}
use Rattle.dom_tree.specs.Definitions.{NamedTrees, name_at}
use Rattle.dom_laws.proofs.Laws.{In, In-from, is_in-from, is_in-not, filter-none, filter-yes, filter-no, last_split, In-right, Once, Has, Has-subtree}
use Rattle.dom_laws.proofs.Laws.{above-present, below-from_above, In-names, Has-names}
use Rattle.dom_slots.proofs.NamesOfNodes.{named-filter}
use Rattle.dom_slots.proofs.Entering.{NoneHas, unassigned}
use Rattle.dom_slots.specs.Definitions.{ShadowHost, host_named, root_named, ShadowTrees, shadow_trees, slot_at, assigned_at, assigned_under, is_assigned_at}

-- what one more item adds to what is found
find_there : (p : ShadowHost → Bool) (f : ShadowHost → NodeName) (hosts : List ShadowHost) (h : ShadowHost) (r : NodeName) →
    option_map f (find p hosts) ≡ Some r → option_map f (find p (hosts ++ h ∷ [])) ≡ Some r
find_there p f [] h r e = cc
find_there p f (g ∷ hosts) h r e = by (p g) refl (find_there p f hosts h r)
  where
    by : (b : Bool) → p g ≡ b → (option_map f (find p hosts) ≡ Some r → option_map f (find p (hosts ++ h ∷ [])) ≡ Some r) →
        option_map f (find p ((g ∷ hosts) ++ h ∷ [])) ≡ Some r
    by true i deeper = ap (λ (b : Bool). option_map f (if b then Some g else find p (hosts ++ h ∷ []))) i ∙
        (sym (ap (λ (b : Bool). option_map f (if b then Some g else find p hosts)) i) ∙ e)
    by false i deeper = ap (λ (b : Bool). option_map f (if b then Some g else find p (hosts ++ h ∷ []))) i ∙
        deeper (sym (ap (λ (b : Bool). option_map f (if b then Some g else find p hosts)) i) ∙ e)

find_else : (p : ShadowHost → Bool) (f : ShadowHost → NodeName) (hosts : List ShadowHost) (h : ShadowHost) → option_map f (find p hosts) ≡ None →
    option_map f (find p (hosts ++ h ∷ [])) ≡ (if p h then Some (f h) else None)
find_else p f [] h e = by (p h)
  where
    by : (b : Bool) → option_map f (if b then Some h else None) ≡ (if b then Some (f h) else None)
    by true = refl
    by false = refl
find_else p f (g ∷ hosts) h e = by (p g) refl (find_else p f hosts h)
  where
    by : (b : Bool) → p g ≡ b → (option_map f (find p hosts) ≡ None →
        option_map f (find p (hosts ++ h ∷ [])) ≡ (if p h then Some (f h) else None)) →
        option_map f (find p ((g ∷ hosts) ++ h ∷ [])) ≡ (if p h then Some (f h) else None)
    by true i deeper = let none : Some (f g) ≡ None = sym (ap (λ (b : Bool). option_map f (if b then Some g else find p hosts)) i) ∙ e in cc
    by false i deeper = ap (λ (b : Bool). option_map f (if b then Some g else find p (hosts ++ h ∷ []))) i ∙
        deeper (sym (ap (λ (b : Bool). option_map f (if b then Some g else find p hosts)) i) ∙ e)

-- nothing is found where no slot is
pub no-slot_named : (name : DomString) (ns : List Node) → names_of (filter is_slot_element ns) ≡ [] →
    option_map (λ (n : Node). n.name) (find (has_slot_name name) ns) ≡ None
no-slot_named name [] e = refl
no-slot_named name (n ∷ ns) e = by (is_slot_element n) refl (no-slot_named name ns)
  where
    by : (b : Bool) → is_slot_element n ≡ b →
        (names_of (filter is_slot_element ns) ≡ [] → option_map (λ (m : Node). m.name) (find (has_slot_name name) ns) ≡ None) →
        option_map (λ (m : Node). m.name) (find (has_slot_name name) (n ∷ ns)) ≡ None
    by true i deeper = let off : n.name ∷ names_of (filter is_slot_element ns) ≡ [] =
        sym (ap (λ (b : Bool). names_of (if b then n ∷ filter is_slot_element ns else filter is_slot_element ns)) i) ∙ e in cc
    by false i deeper =
        let miss : has_slot_name name n ≡ false = false_from_ne_true _ (λ h. true≢false (sym (and_parts (is_slot_element n) _ h).0 ∙ i)) in
        ap (λ (b : Bool). option_map (λ (m : Node). m.name) (if b then Some n else find (has_slot_name name) ns)) miss
        ∙ deeper (sym (ap (λ (b : Bool). names_of (if b then n ∷ filter is_slot_element ns else filter is_slot_element ns)) i) ∙ e)

module _ (names : List NodeName) (ts : Trees) (hosts : List ShadowHost) (h : ShadowHost) (bare : slots_among (subtree ts (name_at names h.root)) ≡ []) where
  abbrev before : ShadowTrees
  before = shadow_trees names ts hosts

  abbrev after : ShadowTrees
  after = shadow_trees names ts (hosts ++ h ∷ [])

  nothing_in : (n : Node) → slot_in (subtree ts (name_at names h.root)) n ≡ None
  nothing_in n = by (slottable_name n)
    where
      by : (o : Option DomString) → option_and_then
          (λ name. option_map (λ (m : Node). m.name) (find (has_slot_name name) (nodes (subtree ts (name_at names h.root))))) o ≡ None
      by None = refl
      by (Some name) = no-slot_named name (nodes (subtree ts (name_at names h.root))) bare

  from_root : (n : Node) (p : NodeName) →
      option_and_then (λ r. slot_in (subtree ts r) n) (root_named names (hosts ++ h ∷ []) p) ≡ option_and_then (λ r. slot_in (subtree ts r) n)
      (root_named names hosts p)
  from_root n p = by (root_named names hosts p) refl
    where
      chosen : (b : Bool) → option_and_then (λ r. slot_in (subtree ts r) n) (if b then Some (name_at names h.root) else None) ≡ None
      chosen true = nothing_in n
      chosen false = refl

      by : (o : Option NodeName) → root_named names hosts p ≡ o →
          option_and_then (λ r. slot_in (subtree ts r) n) (root_named names (hosts ++ h ∷ []) p) ≡ option_and_then (λ r. slot_in (subtree ts r) n)
          (root_named names hosts p)
      by None e = ap (option_and_then (λ r. slot_in (subtree ts r) n))
          (find_else (λ g. name_eq p (name_at names g.host)) (λ g. name_at names g.root) hosts h e) ∙
          (chosen (name_eq p (name_at names h.host)) ∙ sym (ap (option_and_then (λ r. slot_in (subtree ts r) n)) e))
      by (Some r) e = ap (option_and_then (λ r. slot_in (subtree ts r) n))
          (find_there (λ g. name_eq p (name_at names g.host)) (λ g. name_at names g.root) hosts h r e ∙ sym e)

  same_slot : (x : NodeName) → slot_at after x ≡ slot_at before x
  same_slot x = by (parent_of ts x)
    where
      by : (o : Option NodeName) → option_and_then (λ r. slot_in (subtree ts r) (node_in ts x))
          (option_and_then (root_named names (hosts ++ h ∷ [])) o) ≡ option_and_then (λ r. slot_in (subtree ts r) (node_in ts x))
          (option_and_then (root_named names hosts) o)
      by None = refl
      by (Some p) = from_root (node_in ts x) p

  module _ (unassigned : (y : NodeName) → root_of ts y ≡ name_at names h.root → (x : NodeName) → is_assigned_at before y x ≡ false) where
    -- what is assigned stays
    pub same_assigned : (y : NodeName) → assigned_at before y ≡ assigned_at after y
    same_assigned y = by (host_named names hosts (root_of ts y)) refl
      where
        under : assigned_under before y ≡ assigned_under after y
        under = λ j host. filter (λ x. is_in name_eq y (option_to_list (sym (same_slot x) j))) (children_of ts host)

        chosen : (b : Bool) → name_eq (root_of ts y) (name_at names h.root) ≡ b →
            [] ≡ option_map_or (assigned_under after y) (if b then Some (name_at names h.host) else None) []
        chosen false e = refl
        chosen true e =
            sym (filter-none (is_assigned_at before y) (children_of ts (name_at names h.host))
            (λ x i. unassigned y (name_eq-true (root_of ts y) (name_at names h.root) e) x)) ∙ (λ j. under j (name_at names h.host))

        by : (o : Option NodeName) → host_named names hosts (root_of ts y) ≡ o → assigned_at before y ≡ assigned_at after y
        by None e =
            ap (λ o. option_map_or (assigned_under before y) o []) e
            ∙ (chosen (name_eq (root_of ts y) (name_at names h.root)) refl
            ∙ sym (ap (λ o. option_map_or (assigned_under after y) o [])
            (find_else (λ g. name_eq (root_of ts y) (name_at names g.root)) (λ g. name_at names g.host) hosts h e)))
        by (Some host) e =
            ap (λ o. option_map_or (assigned_under before y) o []) e
            ∙ ((λ j. under j host) ∙ sym
            (ap (λ o. option_map_or (assigned_under after y) o [])
            (find_there (λ g. name_eq (root_of ts y) (name_at names g.root)) (λ g. name_at names g.host) hosts h host e)))

-- ---- nothing is assigned to a node of a tree without slots

pub in_filter : (q : NodeName → Bool) (y : NodeName) (xs : List NodeName) → In y (filter q xs) → (q y ≡ true) × In y xs
in_filter q y [] i = absurd i
in_filter q y (x ∷ xs) i = by (q x) refl (in_filter q y xs)
  where
    by : (b : Bool) → q x ≡ b → (In y (filter q xs) → (q y ≡ true) × In y xs) → (q y ≡ true) × In y (x ∷ xs)
    by true e deeper = elim (subst (In y) (filter-yes q x xs e) i) [ inl same ↦ (ap q same ∙ e, inl same) | inr j ↦ let d = deeper j in (d.0, inr d.1) ]
    by false e deeper = let d = deeper (subst (In y) (filter-no q x xs e) i) in (d.0, inr d.1)

pub to_filter : (q : NodeName → Bool) (y : NodeName) (xs : List NodeName) → q y ≡ true → In y xs → In y (filter q xs)
to_filter q y [] e i = i
to_filter q y (x ∷ xs) e (inl same) = subst (In y) (sym (filter-yes q x xs (ap q (sym same) ∙ e))) (inl same)
to_filter q y (x ∷ xs) e (inr i) = by (q x) refl (to_filter q y xs e i)
  where
    by : (b : Bool) → q x ≡ b → In y (filter q xs) → In y (filter q (x ∷ xs))
    by true h deeper = subst (In y) (sym (filter-yes q x xs h)) (inr deeper)
    by false h deeper = subst (In y) (sym (filter-no q x xs h)) deeper

-- who is not among those of a list that pass a test, and passes it, is not in the list
pub unfiltered : (q : NodeName → Bool) (y : NodeName) (ys : List NodeName) → q y ≡ true → is_in name_eq y (filter q ys) ≡ false → is_in name_eq y ys ≡ false
unfiltered q y ys hit off = false_from_ne_true _ (λ i. true≢false (sym (is_in-from y (filter q ys) (to_filter q y ys hit (In-from y ys i))) ∙ off))

-- the root of a node is above it
root_above : (ts : Trees) (y : NodeName) → Has ts y → In (root_of ts y) (inclusive_ancestors ts y)
root_above ts y at = by (last_of (inclusive_ancestors ts y)) refl
  where
    by : (o : Option NodeName) → last_of (inclusive_ancestors ts y) ≡ o → In (unwrap_or o y) (inclusive_ancestors ts y)
    by None e = let w = above-present ts y at in subst (In y) (sym w.1) (inl refl)
    by (Some z) e = let s = last_split (inclusive_ancestors ts y) z e in subst (In z) (sym s.1) (In-right z s.0 (z ∷ []) (inl refl))

module _ (f : NamedTrees) (once : Once f.trees) (hosts : List ShadowHost) (root : NodeName) (bare : slots_among (subtree f.trees root) ≡ [])
    (y : NodeName) (is : root_of f.trees y ≡ root) where
  no_slot_of : (top : NodeName) → is_in name_eq y (slots_among (subtree f.trees top)) ≡ false
  no_slot_of top = is_in-not y (slots_among (subtree f.trees top)) (λ i.
      let q : NodeName → Bool = λ z. is_slot_element (node_in f.trees z) in
      let d = in_filter q y (inclusive_descendants f.trees top) (subst (In y) (named-filter f.trees once is_slot_element top) i) in
      let at = Has-subtree f.trees top y once (Has-names (subtree f.trees top) y d.1) in
      let above : In root (inclusive_ancestors f.trees y) = subst (λ z. In z (inclusive_ancestors f.trees y)) is (root_above f.trees y at) in
      let below = In-names (subtree f.trees root) y (below-from_above f.trees root y once at above) in
      subst (In y) (sym (named-filter f.trees once is_slot_element root) ∙ bare) (to_filter q y (inclusive_descendants f.trees root) d.0 below))

  none_of : (hs : List ShadowHost) → NoneHas f hosts y hs
  none_of [] = tt
  none_of (g ∷ hs) = (no_slot_of (name_at f.names g.root), none_of hs)

  -- nothing is assigned to it
  pub bare_unassigned : (x : NodeName) → is_assigned_at (shadow_trees f.names f.trees hosts) y x ≡ false
  bare_unassigned x = unassigned f hosts y (none_of hosts) x
