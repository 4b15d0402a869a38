-- A node in a table's list of a slot has this slot in the forest of the table.
use Rattle.dom_base.proofs.Std.{◌≡◌, inl, inr, ℕ, ◌<◌, Bool, true, false, List, [], ◌∷◌, map, length, filter, Option, Some, None, sym, ap, subst, ◌∙◌}
use Rattle.dom_base.proofs.Std.{true≢false, nat_eq, option_to_list, option_map_or, cases_Bool, cases_lt, eqb-true, or_cases, false_from_ne_true}
use Rattle.dom_model.proofs.Model.{NodeName, name_eq, is_in, Trees, roots, names_of, trees_below, children_of, root_of, name_eq-true}
use Rattle.dom_tree.specs.Definitions.{NamedTrees, name_at}
use Rattle.dom_laws.proofs.Laws.{In, Single, children-single, Once, has_or_not, subtree-absent}
use Rattle.dom_slots.specs.Definitions.{ShadowHost, ShadowTrees, shadows, slot_at, assigned_at, assigned_under, is_assigned_at, SlotTable, list_of, IsTableOf}
use Rattle.dom_slots.specs.Definitions.{IsSingle}
use Rattle.dom_slots.proofs.Attaching.{in_filter}

-- a key among keys has its name among their names
pub names-in : (names : List NodeName) (k : ℕ) (ks : List ℕ) → is_in nat_eq k ks ≡ true → In (name_at names k) (map (name_at names) ks)
names-in names k [] e = absurd (true≢false (sym e))
names-in names k (j ∷ ks) e = elim (or_cases (nat_eq k j) (is_in nat_eq k ks) e) [
  | inl same ↦ inl (ap (name_at names) (eqb-true k j same))
  | inr i ↦ inr (names-in names k ks i)
]

-- what a filter leaves passes its test
pub left-passes : (p : NodeName → Bool) (x : NodeName) (xs : List NodeName) → In x (filter p xs) → p x ≡ true
left-passes p x [] i = absurd i
left-passes p x (y ∷ ys) i = elim (cases_Bool (p y)) [
  | inl e ↦ elim (rw e at i) [ inl same ↦ ap p same ∙ e | inr j ↦ left-passes p x ys j ]
  | inr e ↦ left-passes p x ys (rw e at i)
]

module _ (s : ShadowTrees) (x y : NodeName) where
  -- the slot of a node is the one to which it is assigned
  only_slot : (o : Option NodeName) → is_in name_eq y (option_to_list o) ≡ true → o ≡ Some y
  only_slot None e = absurd (true≢false (sym e))
  only_slot (Some z) e = elim (or_cases (name_eq y z) false e) [ inl same ↦ ap Some (sym (name_eq-true y z same)) | inr off ↦ absurd (true≢false (sym off)) ]

  -- a node that is assigned to a slot has it
  pub slot-assigned : In x (assigned_at s y) → slot_at s x ≡ Some y
  slot-assigned = by (s.host_of (root_of s.trees y))
    where
      by : (o : Option NodeName) → In x (option_map_or (assigned_under s y) o []) → slot_at s x ≡ Some y
      by None i = absurd i
      by (Some h) i = only_slot (slot_at s x) (left-passes (is_assigned_at s y) x (children_of s.trees h) i)

module _ (f : NamedTrees) (hosts : List ShadowHost) (table : SlotTable) (is : IsTableOf f hosts table) (node slot : ℕ)
    (listed : is_in nat_eq node (list_of table slot) ≡ true) where
  -- a slot with a list is a node
  pub listed-node : slot < length f.names
  listed-node = elim (cases_lt slot (length f.names)) [
    | inl l ↦ l
    | inr l ↦ absurd (true≢false (sym listed ∙ ap (is_in nat_eq node) (is.beyond slot l)))
  ]

  -- and the slot of the nodes in that list
  pub listed-slot : Some (name_at f.names slot) ≡ slot_at (shadows f hosts) (name_at f.names node)
  listed-slot = sym (slot-assigned (shadows f hosts) (name_at f.names node) (name_at f.names slot)
      (subst (In (name_at f.names node)) (is.lists slot listed-node) (names-in f.names node (list_of table slot) listed)))

-- ---- no node stands in a list twice

-- of names that are there once a filter leaves such ones
single-filtered : (p : NodeName → Bool) (xs : List NodeName) → Single xs → Single (filter p xs)
single-filtered p [] single = tt
single-filtered p (x ∷ xs) single = elim (cases_Bool (p x)) [
  | inl e ↦ rw e (λ i. single.0 (in_filter p x xs i).1, single-filtered p xs single.1)
  | inr e ↦ rw e (single-filtered p xs single.1)
]

-- each node is assigned to a slot once
single-assigned : (s : ShadowTrees) → Once s.trees → (y : NodeName) → Single (assigned_at s y)
single-assigned s once y = by (s.host_of (root_of s.trees y))
  where
    by : (o : Option NodeName) → Single (option_map_or (assigned_under s y) o [])
    by None = tt
    by (Some h) = elim (has_or_not s.trees h) [
      | inl at ↦ single-filtered (is_assigned_at s y) (children_of s.trees h) (children-single s.trees h once at)
      | inr off ↦ subst Single (sym (ap (λ (ts : Trees). filter (is_assigned_at s y) (names_of (roots (trees_below ts)))) (subtree-absent s.trees h off))) tt
    ]

-- keys whose names are there once are there once
single-keys : (names : List NodeName) (ks : List ℕ) → Single (map (name_at names) ks) → IsSingle ks
single-keys names [] single = tt
single-keys names (k ∷ ks) single = (false_from_ne_true (is_in nat_eq k ks) (λ i. single.0 (names-in names k ks i)), single-keys names ks single.1)

pub single-listed : (f : NamedTrees) {hosts : List ShadowHost} {table : SlotTable} → Once f.trees → IsTableOf f hosts table → (k : ℕ) → k < length f.names →
    IsSingle (list_of table k)
single-listed f {hosts} {table} once is k within =
    single-keys f.names (list_of table k) (subst Single (sym (is.lists k within)) (single-assigned (shadows f hosts) once (name_at f.names k)))
