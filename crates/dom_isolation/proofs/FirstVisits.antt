-- Each way up from a node of a group ends with a root of its owner, which is in no slot; so the path of an event that comes to the group ends with a node of
-- it, and the first visit is the group's.
use Rattle.dom_base.proofs.Std.{◌≡◌, ℕ, zero, suc, ◌≤◌, Bool, true, false, ◌||◌, List, [], ◌∷◌, ◌++◌, filter, flat_map, map, reverse, length}
use Rattle.dom_base.proofs.Std.{Option, Some, None, option_map, option_to_list, refl, sym, ap, ◌∙◌, subst, arith}
use Rattle.dom_base.proofs.Std.{if◌then◌else◌, AllByRecursion, cond-true, map-append, reverse-append, flat_map-append, ◌⊎◌, inl, inr}
use Rattle.dom_base.proofs.Std.{drop, option_and_then}
use Rattle.dom_model.proofs.Model.{Owner, NodeName, EventWords, name_eq, max_depth, is_in, first_of, Trees, none, tree, inclusive_ancestors}
use Rattle.dom_model.proofs.Model.{on_top, names_of, roots, parent_of, World, part_of, trees_with, parent_at, ancestors_at}
use Rattle.dom_model.proofs.Model.{component_at, shadow_tree, node_at, slot_in, slot_of, with_slots}
use Rattle.dom_model.proofs.Model.{way_up}
use Rattle.dom_model.proofs.Model.{event_path, view_at, views, View, Visit, visit_of, visits_of, is_at_target, begun, KeepsMakers, boundary_host}
use Rattle.dom_model.proofs.Model.{name_eq-true, name_eq-same, world_visit}
use Rattle.dom_worlds.specs.Definitions.{IsWorld, IsOf}
use Rattle.dom_worlds.proofs.ListLemmas.{filter_none, filter-map}
use Rattle.dom_worlds.proofs.WorldLemmas.{root-alone}
use Rattle.dom_worlds.proofs.TurnLemmas.{InWorld}
use Rattle.dom_isolation.specs.Definitions.{Interference, is_own_visit, interference_from, touched, one_more, FirstVisitIsOwn, InterferenceLeavesFirst}
use Rattle.dom_isolation.proofs.GroupSlots.{in_node, ground-of, ancestors-of}
use Rattle.dom_isolation.proofs.OwnVisits.{in_view, group_visits}
use Rattle.dom_isolation.proofs.GroupPaths.{chain-inside}
use Rattle.dom_isolation.proofs.OutsideViews.{has-exit}
use Rattle.dom_isolation.proofs.PathEnds.{In, Out, EndsIn, ends-behind, AreEnds, path-ends}

-- The ancestors of a node end with a root.
abbrev IsRootOf : Trees → NodeName → Type 0
IsRootOf ts r = is_in name_eq r (names_of (roots ts)) ≡ true

-- none, or some with a root at the end
abbrev EndsAtRoot : Trees → List NodeName → Type 0
EndsAtRoot ts xs = (xs ≡ []) ⊎ ((front : List NodeName) × (last : NodeName) × (xs ≡ front ++ last ∷ []) × IsRootOf ts last)

-- the ancestors
ancestors-end : (ts : Trees) (x : NodeName) → EndsAtRoot ts (inclusive_ancestors ts x)
ancestors-end none x = inl refl
ancestors-end (tree n c r) x = at_top (name_eq n.name x) refl (inclusive_ancestors c x) (ancestors-end r x)
  where
    here : IsRootOf (tree n c r) n.name
    here = ap (λ b. b || is_in name_eq n.name (names_of (roots r))) (name_eq-same n.name)

    later : EndsAtRoot r (inclusive_ancestors r x) → EndsAtRoot (tree n c r) (inclusive_ancestors r x)
    later (inl e) = inl e
    later (inr k) = inr (k.0, k.1, k.2, or_later (name_eq k.1 n.name) (is_in name_eq k.1 (names_of (roots r))) k.3)
      where
        or_later : (a b : Bool) → b ≡ true → (a || b) ≡ true
        or_later true b h = refl
        or_later false b h = h

    on_path : (path : List NodeName) → EndsAtRoot r (inclusive_ancestors r x) → EndsAtRoot (tree n c r) (on_top path n.name (inclusive_ancestors r x))
    on_path [] rest = later rest
    on_path (a ∷ path) rest = inr (a ∷ path, n.name, refl, here)

    at_top : (b : Bool) → name_eq n.name x ≡ b → (path : List NodeName) → EndsAtRoot r (inclusive_ancestors r x) →
        EndsAtRoot (tree n c r) (if b then x ∷ [] else on_top path n.name (inclusive_ancestors r x))
    at_top true e path rest = inr ([], x, refl, subst (IsRootOf (tree n c r)) (name_eq-true n.name x e) here)
    at_top false e path rest = on_path path rest

-- a root is in no slot
root-unslotted : (w : World) → IsWorld w → (x r : NodeName) → r.owner ≡ x.owner → IsRootOf (trees_with w x) r → slot_of w r ≡ None
root-unslotted w i x r same h =
    let ts = trees_with w x in
    let top : parent_at w r ≡ None =
    ap (λ o. parent_of (part_of w o).trees r) same ∙ ap (λ path. first_of (drop 1 path)) (root-alone ts (i.parts x.owner).unique r h) in
    ap (λ o. option_and_then (λ c. slot_in (shadow_tree w c) (node_at w r)) (option_and_then (component_at w) o)) top

-- so its way through slots is the root alone
unslotted-way : (depth : ℕ) (w : World) (r : NodeName) → slot_of w r ≡ None → with_slots depth w r ≡ r ∷ []
unslotted-way zero w r h = refl
unslotted-way (suc depth) w r h = ap (λ o. r ∷ flat_map (with_slots depth w) (flat_map (ancestors_at w) (option_to_list o))) h

module _ (g : Owner → Bool) (closed : KeepsMakers g) (w : World) (i : IsWorld w) where
  -- the way up from a node of the group
  way-ends : (y : NodeName) → in_node g y ≡ true → (way_up w y ≡ []) ⊎ EndsIn g closed w i (way_up w y)
  way-ends y h = from (ancestors-end (trees_with w y) y)
    where
      from : EndsAtRoot (trees_with w y) (ancestors_at w y) → (way_up w y ≡ []) ⊎ EndsIn g closed w i (way_up w y)
      from (inl e) = inl (ap (flat_map (with_slots max_depth w)) e)
      from (inr k) =
          let owned = subst (AllByRecursion (IsOf y.owner)) k.2 (ancestors-of w (ground-of w i) y.owner y) in
          let same = last-owned k.0 k.1 owned in
          let alone = unslotted-way max_depth w k.1 (root-unslotted w i y k.1 same k.3) in
          inr (
            flat_map (with_slots max_depth w) k.0,
            k.1,
            ap (flat_map (with_slots max_depth w)) k.2 ∙ flat_map-append (with_slots max_depth w) k.0 (k.1 ∷ [])
                ∙ ap (λ ys. flat_map (with_slots max_depth w) k.0 ++ (ys ++ [])) alone,
            ap g same ∙ h,
          )
        where
          last-owned : (front : List NodeName) (last : NodeName) → AllByRecursion (IsOf y.owner) (front ++ last ∷ []) → last.owner ≡ y.owner
          last-owned [] last a = a.0
          last-owned (z ∷ front) last a = last-owned front last a.1

  -- so end ways up
  ends : AreEnds g closed w i (EndsIn g closed w i) (In g closed w i)
  ends = record { behind = ends-behind g closed w i; way = way-ends }

  -- and paths
  pub path-in : (x : NodeName) (r : Option NodeName) (composed : Bool) →
      AllByRecursion (Out g closed w i) (event_path w x r composed) ⊎ EndsIn g closed w i (event_path w x r composed)
  path-in x r composed = path-ends ends x r composed (λ host h. chain-inside g closed w (ground-of w i) host (inside host h)) (λ h. h)
    where
      inside : (host : NodeName) → boundary_host g w x ≡ Some host → in_node g host ≡ true
      inside host h = (has-exit g closed w i x host h).inside

  -- No visit is the group's, or the first one is.
  abbrev BeginsWell : List (Visit NodeName) → Type 0
  BeginsWell vs = (filter (is_own_visit g) vs ≡ []) ⊎ ((v : Visit NodeName) × (later : List (Visit NodeName)) × (vs ≡ v ∷ later) × (is_own_visit g v ≡ true))

  -- the visits of an event
  visits-begin : (x : NodeName) (r : Option NodeName) (e : EventWords) → BeginsWell (visits_of name_eq e.bubbles (views w x r e.composed))
  visits-begin x r e = from (event_path w x r e.composed) (path-in x r e.composed)
    where
      from : (path : List NodeName) → AllByRecursion (Out g closed w i) path ⊎ EndsIn g closed w i path →
          BeginsWell (visits_of name_eq e.bubbles (map (view_at w x r path) path))
      from path (inl away) =
          inl (group_visits g e.bubbles (map (view_at w x r path) path)
          ∙ ap (visits_of name_eq e.bubbles) (filter-map (in_view g) (view_at w x r path) path
          ∙ ap (map (view_at w x r path)) (filter_none (in_node g) path away)))
      from path (inr k) =
          let shown : NodeName → View NodeName = view_at w x r path in
          let back : map shown path ≡ map shown k.0 ++ shown k.1 ∷ [] = ap (map shown) k.2 ∙ map-append shown k.0 (k.1 ∷ []) in
          let turned : reverse (map shown path) ≡ shown k.1 ∷ reverse (map shown k.0) =
          ap reverse back ∙ reverse-append (map shown k.0) (shown k.1 ∷ []) in
          let down = map (visit_of name_eq false) (filter (λ v. e.bubbles || is_at_target name_eq v) (map shown path)) in
          inr (
            visit_of name_eq true (shown k.1),
            map (visit_of name_eq true) (reverse (map shown k.0)) ++ down,
            ap (λ vs. map (visit_of name_eq true) vs ++ down) turned,
            k.3,
          )

-- the law on the first visit
pub first_visit-is_own : FirstVisitIsOwn
first_visit-is_own g closed w i x r e v vs is some = elim (visits-begin g closed w i x r e) [
  | inl away ↦ let few = ap length (sym (ap (filter (is_own_visit g)) is) ∙ away) in absurd (omega (arith, some, few))
  | inr k ↦ let both : k.0 ∷ k.1 ≡ v ∷ vs = sym k.2 ∙ is in let same : k.0 ≡ v = cc in ap (is_own_visit g) (sym same) ∙ k.3
]

-- one visit more is at least one
one-more_some : (later : Option ℕ) (k : ℕ) → option_map suc later ≡ Some k → 1 ≤ k
one-more_some None k e = cc
one-more_some (Some j) k e = let same : suc j ≡ k = cc in omega (arith, same)

-- the law on interference
pub interference-leaves_first : InterferenceLeavesFirst
interference-leaves_first g closed w i x r e k some h = elim (visits-begin g closed w i x r e) [
  | inl away ↦ let few = ap length away in absurd (omega (arith, some, few))
  | inr b ↦
      let s : InWorld = (w, begun []) in
      let later = interference_from g e (world_visit e s b.0) b.1 in
      one-more_some later.reached k
      (sym (ap (λ vs. (interference_from g e s vs).reached) b.2
      ∙ ap (λ (j : Interference). j.reached) (cond-true (is_own_visit g b.0) (one_more later) (touched s.1 (world_visit e s b.0).1 later) b.3)) ∙ h)
]
