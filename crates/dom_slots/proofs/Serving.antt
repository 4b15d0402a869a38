-- Slots are served in turn: the first of each name gets what waits under it, and the others nothing.
use Rattle.dom_base.proofs.Std.{◌≡◌, inl, ℕ, Bool, true, false, ◌&&◌, ◌||◌, List, [], ◌∷◌, ◌++◌, Option, Some, map, filter, refl, sym, ap, subst, ◌∙◌}
use Rattle.dom_base.proofs.Std.{append_assoc, true≢false, find, if◌then◌else◌, option_to_list, option_map, option_map_or, option_and_then, append-nil}
use Rattle.dom_base.proofs.Std.{filter-append}
use Rattle.dom_model.proofs.Model.{NodeName, DomString, text_eq, name_eq, is_in, first_of, is_slot_element, has_slot_name, slot_name, slots_among, Node, nodes}
use Rattle.dom_model.proofs.Model.{node_in, subtree, children_of, root_of, inclusive_descendants, name_eq-other}
use Rattle.dom_tree.specs.Definitions.{NamedTrees, name_at}
use Rattle.dom_laws.proofs.Laws.{parent-of_child, Single-names, Once, once_subtree, In, Single, Single-apart, In-right, filter-same, filter-none, name_eq-from}
use Rattle.dom_laws.proofs.Laws.{Has}
use Rattle.dom_slots.specs.Definitions.{ShadowHost, host_named, root_named, is_called, ShadowTrees, shadows, is_assigned_at, is_first_at, assigned_at}
use Rattle.dom_slots.specs.Definitions.{assigned_under, looks_for, Serves, is_wanted}
use Rattle.dom_slots.proofs.Attaching.{in_filter}
use Rattle.dom_slots.proofs.Firsts.{assigned-first, text_same, text_true}
use Rattle.dom_slots.proofs.NamesOfNodes.{named-filter, named-first}
use Rattle.dom_slots.proofs.Walks.{filter-twice}

-- of names that stand once those that pass stand once
pub single-filter : (p : NodeName → Bool) (xs : List NodeName) → Single xs → Single (filter p xs)
single-filter p [] s = s
single-filter p (x ∷ xs) s = by (p x) (single-filter p xs s.1)
  where
    by : (b : Bool) → Single (filter p xs) → Single (if b then x ∷ filter p xs else filter p xs)
    by true rest = (λ i. s.0 (in_filter p x xs i).1, rest)
    by false rest = rest

-- who waits where slots came before
abbrev left : List NodeName → List ℕ → List ℕ
left [] waiting = waiting
left (x ∷ xs) waiting = []

left-one : (xs : List NodeName) (y : NodeName) (waiting : List ℕ) → left (xs ++ y ∷ []) waiting ≡ []
left-one [] y waiting = refl
left-one (x ∷ xs) y waiting = refl

module _ (f : NamedTrees) (once : Once f.trees) (hosts : List ShadowHost) (r h : NodeName) (stands : Has f.trees h)
    (hosted : host_named f.names hosts r ≡ Some h) (shadow : root_named f.names hosts h ≡ Some r)
    (roots : (y : NodeName) → In y (slots_among (subtree f.trees r)) → root_of f.trees y ≡ r) (waiting : List ℕ → List ℕ) (wanted : Option DomString)
    (waits : (name : List ℕ) → is_wanted wanted name ≡ true →
    map (name_at f.names) (waiting name) ≡ filter (λ c. looks_for name (node_in f.trees c)) (children_of f.trees h)) where
  abbrev s : ShadowTrees
  s = shadows f hosts

  abbrev slots : List NodeName
  slots = slots_among (subtree f.trees r)

  abbrev all : List NodeName
  all = filter (is_called f.trees wanted) slots

  abbrev own : NodeName → DomString
  own y = slot_name (node_in f.trees y)

  abbrev named : DomString → NodeName → Bool
  named name z = text_eq (own z) name

  single : Single all
  single = single-filter (is_called f.trees wanted) slots (subst Single (sym (named-filter f.trees once is_slot_element r))
      (single-filter (λ y. is_slot_element (node_in f.trees y)) (inclusive_descendants f.trees r)
      (Single-names (subtree f.trees r) (once_subtree f.trees r once))))

  -- the slots of a name that is wanted are among all
  called-named : (name : DomString) → is_wanted wanted name ≡ true → filter (named name) slots ≡ filter (named name) all
  called-named name w =
      filter-same (named name) (λ z. is_called f.trees wanted z && named name z) slots (λ z i. by z (named name z) refl (is_called f.trees wanted z) refl)
      ∙ filter-twice (is_called f.trees wanted) (named name) slots
    where
      by : (z : NodeName) (b : Bool) → named name z ≡ b → (d : Bool) → is_called f.trees wanted z ≡ d →
          named name z ≡ (is_called f.trees wanted z && named name z)
      by z b e true g = sym (ap (λ a. a && named name z) g)
      by z false e false g = e ∙ sym (ap (λ a. a && named name z) g)
      by z true e false g = absurd (true≢false (sym w ∙ (ap (is_wanted wanted) (sym (text_true (own z) name e)) ∙ g)))

  -- the first slot of a name
  first-named : (name : DomString) → is_wanted wanted name ≡ true →
      option_map (λ (n : Node). n.name) (find (has_slot_name name) (nodes (subtree f.trees r))) ≡ first_of (filter (named name) all)
  first-named name w =
      named-first f.trees once (has_slot_name name) r
      ∙ ap first_of (filter-twice (λ y. is_slot_element (node_in f.trees y)) (named name) (inclusive_descendants f.trees r)
      ∙ (ap (filter (named name)) (sym (named-filter f.trees once is_slot_element r)) ∙ called-named name w))

  is-first : (y : NodeName) → is_called f.trees wanted y ≡ true →
      is_first_at s h y ≡ is_in name_eq y (option_to_list (first_of (filter (named (own y)) all)))
  is-first y w =
      ap (λ o. is_in name_eq y (option_to_list
      (option_and_then (λ t. option_map (λ (n : Node). n.name) (find (has_slot_name (own y)) (nodes (subtree f.trees t)))) o))) shadow
      ∙ ap (λ o. is_in name_eq y (option_to_list o)) (first-named (own y) w)

  module _ (done : List NodeName) (y : NodeName) (rest : List NodeName) (is : done ++ y ∷ rest ≡ all) where
    among : (is_called f.trees wanted y ≡ true) × In y slots
    among = in_filter (is_called f.trees wanted) y slots (subst (In y) is (In-right y done (y ∷ rest) (inl refl)))

    assigned-is : assigned_at s y ≡ filter (is_assigned_at s y) (children_of f.trees h)
    assigned-is = ap (λ o. option_map_or (assigned_under s y) o []) (ap (host_named f.names hosts) (roots y among.1) ∙ hosted)

    found : (xs : List NodeName) → filter (named (own y)) done ≡ xs → filter (named (own y)) all ≡ xs ++ y ∷ filter (named (own y)) rest
    found xs e =
        ap (filter (named (own y))) (sym is)
        ∙ (filter-append (named (own y)) done (y ∷ rest)
        ∙ (ap (λ ys. ys ++ filter (named (own y)) (y ∷ rest)) e
        ∙ ap (λ (b : Bool). xs ++ (if b then y ∷ filter (named (own y)) rest else filter (named (own y)) rest)) (text_same (own y))))

    tested : (b : Bool) → is_first_at s h y ≡ b → (c : NodeName) → In c (children_of f.trees h) →
        is_assigned_at s y c ≡ (b && looks_for (own y) (node_in f.trees c))
    tested b e c i = assigned-first s once h y c (parent-of_child f.trees h c once stands i).0 ∙
        ap (λ a. a && looks_for (own y) (node_in f.trees c)) e

    -- it gets what is assigned to it
    served : (xs : List NodeName) → filter (named (own y)) done ≡ xs → map (name_at f.names) (left xs (waiting (own y))) ≡ assigned_at s y
    served [] e =
        let first : is_first_at s h y ≡ true =
        is-first y among.0 ∙ (ap (λ ys. is_in name_eq y (option_to_list (first_of ys))) (found [] e) ∙ ap (λ b. b || false) (name_eq-from y y refl)) in
        waits (own y) among.0
        ∙ (filter-same (λ c. looks_for (own y) (node_in f.trees c)) (is_assigned_at s y) (children_of f.trees h) (λ c i. sym (tested true first c i))
        ∙ sym assigned-is)
    served (d ∷ ds) e =
        let before : In d done = (in_filter (named (own y)) d done (subst (In d) (sym e) (inl refl))).1 in
        let other : y ≡ d → ⊥ = λ same. Single-apart d done (y ∷ rest) (subst Single (sym is) single) before (inl (sym same)) in
        let first : is_first_at s h y ≡ false =
        is-first y among.0 ∙ (ap (λ ys. is_in name_eq y (option_to_list (first_of ys))) (found (d ∷ ds) e) ∙ ap (λ b. b || false) (name_eq-other y d other)) in
        sym (assigned-is ∙ filter-none (is_assigned_at s y) (children_of f.trees h) (λ c i. tested false first c i))

  -- then nobody waits under its name
  taken : (done : List NodeName) (y : NodeName) (name : DomString) (waits_now : List ℕ) → waits_now ≡ left (filter (named name) done) (waiting name) →
      (if text_eq (own y) name then [] else waits_now) ≡ left (filter (named name) (done ++ y ∷ [])) (waiting name)
  taken done y name waits_now e = by (text_eq (own y) name) refl
    where
      longer : (b : Bool) → text_eq (own y) name ≡ b → filter (named name) (done ++ y ∷ []) ≡ filter (named name) done ++ (if b then y ∷ [] else [])
      longer b is = filter-append (named name) done (y ∷ []) ∙ ap (λ (c : Bool). filter (named name) done ++ (if c then y ∷ [] else [])) is

      by : (b : Bool) → text_eq (own y) name ≡ b → (if b then [] else waits_now) ≡ left (filter (named name) (done ++ y ∷ [])) (waiting name)
      by true is = sym (ap (λ ys. left ys (waiting name)) (longer true is) ∙ left-one (filter (named name) done) y (waiting name))
      by false is = e ∙ sym (ap (λ ys. left ys (waiting name)) (longer false is ∙ append-nil (filter (named name) done)))

  serves-on : (done : List NodeName) (ks : List ℕ) → done ++ map (name_at f.names) ks ≡ all → (now : List ℕ → List ℕ) →
      ((name : DomString) → now name ≡ left (filter (named name) done) (waiting name)) → Serves f hosts now ks
  serves-on done [] is now e = tt
  serves-on done (k ∷ ks) is now e =
      let y = name_at f.names k in (
        ap (map (name_at f.names)) (e (own y)) ∙ served done y (map (name_at f.names) ks) is (filter (named (own y)) done) refl,
        serves-on (done ++ y ∷ []) ks (append_assoc done (y ∷ []) (map (name_at f.names) ks) ∙ is)
            (λ name. if text_eq (own y) name then [] else now name) (λ name. taken done y name (now name) (e name)),
      )

  -- so all slots of the tree are served
  pub all-served : (ks : List ℕ) → map (name_at f.names) ks ≡ all → Serves f hosts waiting ks
  all-served ks is = serves-on [] ks is waiting (λ name. refl)
