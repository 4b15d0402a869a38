-- A node that stands in no list of a table has no slot in the forest of the table, where its parent is the host of a tree of
-- its own.
use Rattle.dom_base.proofs.Std.{◌≡◌, inl, inr, ℕ, ◌<◌, true, false, ◌||◌, List, [], map, length, Option, None, Some, refl, sym, ap, subst, ◌∙◌, true≢false}
use Rattle.dom_base.proofs.Std.{nat_eq, option_to_list, option_map_or, option_and_then, get_or_from_slice_get, slice_get_within}
use Rattle.dom_model.proofs.Model.{NodeName, Page, name_eq, is_in, node_of, slot_in, nodes, names_of, node_in, subtree, parent_of, root_of, children_of}
use Rattle.dom_tree.specs.Definitions.{NamedTrees, name_at, TellApart}
use Rattle.dom_laws.proofs.Laws.{In-names, child-of_parent, In, is_in-from, name_eq-from, Has, Has-subtree, has_or_not, Once}
use Rattle.dom_slots.specs.Definitions.{ShadowHost, host_named, root_named, StandsOnce, ShadowTrees, shadows, slot_at, is_assigned_at, assigned_under}
use Rattle.dom_slots.specs.Definitions.{assigned_at, SlotTable, list_of, IsTableOf}
use Rattle.dom_slots.proofs.Attaching.{to_filter}
use Rattle.dom_slots.proofs.Rooted.{root-alone, root-below}
use Rattle.dom_slots.proofs.Settled.{slot-outside}
use Rattle.dom_slots.proofs.Signalled.{is_in-named}

module _ (f : NamedTrees) (stands : StandsOnce f) (once : Once f.trees) (distinct : TellApart f.names) (hosts : List ShadowHost)
    (table : SlotTable) (is : IsTableOf f hosts table) (n : ℕ) (node : n < length f.names)
    (unlisted : (s : ℕ) → is_in nat_eq n (list_of table s) ≡ false) (at : Has f.trees (name_at f.names n)) (p r : NodeName)
    (up : parent_of f.trees (name_at f.names n) ≡ Some p) (shadow : root_named f.names hosts p ≡ Some r)
    (hosted : host_named f.names hosts r ≡ Some p) (here : Has f.trees r) (top : parent_of f.trees r ≡ None) where
  abbrev s : ShadowTrees
  s = shadows f hosts

  abbrev x : NodeName
  x = name_at f.names n

  -- the slot is looked for in that tree
  looked : slot_at s x ≡ slot_in (subtree f.trees r) (node_in f.trees x)
  looked =
      ap (λ o. option_and_then (λ q. slot_in (subtree f.trees q) (node_in f.trees x)) (option_and_then s.shadow_of o)) up
      ∙ ap (option_and_then (λ q. slot_in (subtree f.trees q) (node_in f.trees x))) shadow

  -- a slot would stand in it, and have the node in its list
  no-such : (y : NodeName) → slot_at s x ≡ Some y → ⊥
  no-such y e = elim (has_or_not (subtree f.trees r) y) [
    | inr off ↦ true≢false (sym it_is ∙ (ap (λ o. is_in name_eq y (option_to_list o)) looked ∙ slot-outside (subtree f.trees r) (node_in f.trees x) y off))
    | inl i ↦
        let root : root_of f.trees y ≡ r = root-below f.trees once r y here i ∙ root-alone f.trees r here top in
        let among : In x (assigned_at s y) =
        subst (λ o. In x (option_map_or (assigned_under s y) o [])) (sym (ap (host_named f.names hosts) root ∙ hosted))
        (to_filter (is_assigned_at s y) x (children_of f.trees p) it_is (child-of_parent f.trees x p once at up).1) in
        let key = stands.only y (is_in-from y (names_of (nodes f.trees)) (In-names f.trees y (Has-subtree f.trees r y once i))) in
        let within = slice_get_within f.names key.0 y key.1 in
        let named : name_at f.names key.0 ≡ y = get_or_from_slice_get f.names key.0 y (node_of Page 0) key.1 in
        let listed : In x (map (name_at f.names) (list_of table key.0)) = subst (In x) (sym (is.lists key.0 within ∙ ap (assigned_at s) named)) among in
        let named_so = is_in-named f.names distinct n (list_of table key.0) node (is.nodes key.0) in
        true≢false (sym (named_so ∙ is_in-from x (map (name_at f.names) (list_of table key.0)) listed) ∙ unlisted key.0)
  ]
    where
      it_is : is_assigned_at s y x ≡ true
      it_is = ap (λ o. is_in name_eq y (option_to_list o)) e ∙ ap (λ b. b || false) (name_eq-from y y refl)

  -- so there is none
  pub unlisted-none : None ≡ slot_at s x
  unlisted-none = by (slot_at s x) refl
    where
      by : (o : Option NodeName) → slot_at s x ≡ o → None ≡ o
      by None e = refl
      by (Some y) e = absurd (no-such y e)
