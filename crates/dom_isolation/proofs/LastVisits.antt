-- The last visit of an event is the group's, if any is: the last node of the path that sees itself as the target is, and so is the last one of all. So where
-- others are told to have stopped an event, a visit of the group comes after.
use Rattle.dom_base.proofs.Std.{◌≡◌, ℕ, suc, ◌≤◌, ◌<◌, Bool, true, false, not, ◌&&◌, ◌||◌, List, [], ◌∷◌, ◌++◌, filter, flat_map, map, reverse, length}
use Rattle.dom_base.proofs.Std.{Option, Some, None, option_map, refl, sym, ap, ◌∙◌, subst, arith, append_assoc}
use Rattle.dom_base.proofs.Std.{if◌then◌else◌, AllByRecursion, cond-true, cond-false, map-append, filter-append, drop, ◌⊎◌, inl, inr}
use Rattle.dom_model.proofs.Model.{Owner, NodeName, EventWords, name_eq, max_depth, World}
use Rattle.dom_model.proofs.Model.{trees_with, host_chain}
use Rattle.dom_model.proofs.Model.{with_slots, way_up, event_path, view_at, views, View, Visit, visit_of, visits_of, is_at_target}
use Rattle.dom_model.proofs.Model.{begun, KeepsMakers, boundary_host, times_in, name_eq-same, world_visit}
use Rattle.dom_worlds.specs.Definitions.{IsWorld}
use Rattle.dom_worlds.proofs.ListLemmas.{all-then, by_cases, filter_none, filter-map}
use Rattle.dom_worlds.proofs.TreeLemmas.{all-both, ancestors-present}
use Rattle.dom_worlds.proofs.TurnLemmas.{InWorld}
use Rattle.dom_worlds.proofs.ShadowTreeLemmas.{slots-first, slot_way}
use Rattle.dom_laws.proofs.Laws.{by_times, path_none as ancestors-absent}
use Rattle.dom_isolation.specs.Definitions.{Interference, is_own_visit, interference_from, touched, one_more, LastVisitIsOwn, InterferenceTakesLast}
use Rattle.dom_isolation.proofs.GroupSlots.{in_node, ground-of, filter-here, filter-away}
use Rattle.dom_isolation.proofs.OwnVisits.{in_view, group_visits}
use Rattle.dom_isolation.proofs.GroupPaths.{chain-inside}
use Rattle.dom_isolation.proofs.OutsideViews.{has-exit}
use Rattle.dom_isolation.proofs.PathEnds.{In, Out, EndsIn, ends-behind, AreEnds, path-ends}
use Rattle.dom_isolation.proofs.FirstVisits.{path-in}
use Rattle.dom_isolation.proofs.TargetViews.{IsAlong, along-here, all-along, retarget-along, sees_itself, way-own}

module _ (g : Owner → Bool) (closed : KeepsMakers g) (w : World) (i : IsWorld w) (x : NodeName) where
  -- a node that sees itself as the target
  abbrev at : NodeName → Bool
  at u = sees_itself w i x u

  -- the last of these is of the group
  abbrev TargetsEndIn : List NodeName → Type 0
  TargetsEndIn xs = EndsIn g closed w i (filter at xs)

  -- some of the group, and others
  ends-inside : (z : NodeName) (zs : List NodeName) → In g closed w i z → AllByRecursion (In g closed w i) zs → EndsIn g closed w i (z ∷ zs)
  ends-inside z [] h a = ([], z, refl, h)
  ends-inside z (y ∷ ys) h a = let k = ends-inside y ys a.0 a.1 in (z ∷ k.0, k.1, ap (λ us. z ∷ us) k.2, k.3)

  -- those that pass
  all-filtered : (P : NodeName → Type 0) (t : NodeName → Bool) (xs : List NodeName) → AllByRecursion (λ u. t u ≡ true → P u) xs →
      AllByRecursion P (filter t xs)
  all-filtered P t [] h = tt
  all-filtered P t (u ∷ us) h =
      by_cases (t u) (λ e. subst (AllByRecursion P) (sym (filter-here t u us e)) (h.0 e, all-filtered P t us h.1))
      (λ e. subst (AllByRecursion P) (sym (filter-away t u us e)) (all-filtered P t us h.1))

  -- a node of the group in the chain of the target
  abbrev IsHostIn : NodeName → Type 0
  IsHostIn y = In g closed w i y × IsAlong w i x y

  -- its way up
  target-way : (y : NodeName) → IsHostIn y → (way_up w y ≡ []) ⊎ TargetsEndIn (way_up w y)
  target-way y h =
      by_times (times_in (trees_with w y) y)
      (λ z. inl (ap (flat_map (with_slots max_depth w)) (ancestors-absent (trees_with w y) y z)))
      (λ t. let up = ancestors-present (trees_with w y) y t in
      let tail = slot_way max_depth w y ++ flat_map (with_slots max_depth w) up.0 in
      let way : way_up w y ≡ y ∷ tail = ap (flat_map (with_slots max_depth w)) up.1 ∙ slots-first max_depth w y up.0 in
      let own = subst (AllByRecursion (λ u. at u ≡ true → u.owner ≡ y.owner)) way (way-own w i x y h.1) in
      let here : at y ≡ true = ap (name_eq y) (retarget-along w i x y h.1) ∙ name_eq-same y in
      inr (subst (EndsIn g closed w i) (sym (ap (filter at) way ∙ filter-here at y tail here))
      (ends-inside y (filter at tail) h.0
      (all-filtered (In g closed w i) at tail
      (all-then (λ u. at u ≡ true → u.owner ≡ y.owner) (λ u. at u ≡ true → In g closed w i u) (λ u f e. ap g (f e) ∙ h.0) tail own.1)))))

  -- the path, with whoever sees itself as the target
  targets-in : (r : Option NodeName) (composed : Bool) →
      AllByRecursion (Out g closed w i) (event_path w x r composed) ⊎ TargetsEndIn (event_path w x r composed)
  targets-in r composed = path-ends rules x r composed chain (λ h. (h, along-here w i x))
    where
      rules : AreEnds g closed w i TargetsEndIn IsHostIn
      rules = record {
        behind = λ xs ys k. subst (EndsIn g closed w i) (sym (filter-append at xs ys)) (ends-behind g closed w i (filter at xs) (filter at ys) k);
        way = target-way;
      }

      later : (P : NodeName → Type 0) (xs ys : List NodeName) → AllByRecursion P (xs ++ ys) → AllByRecursion P ys
      later P [] ys h = h
      later P (z ∷ xs) ys h = later P xs ys h.1

      chain : (host : NodeName) → boundary_host g w x ≡ Some host → AllByRecursion IsHostIn (host_chain w host)
      chain host h =
          let k = has-exit g closed w i x host h in
          all-both (In g closed w i) (IsAlong w i x) (host_chain w host) (chain-inside g closed w (ground-of w i) host k.inside)
          (later (IsAlong w i x) k.inner (host_chain w host) (subst (AllByRecursion (IsAlong w i x)) k.chain (all-along w i x)))

  -- No visit is the group's, or the last one is.
  abbrev EndWell : List (Visit NodeName) → Type 0
  EndWell vs = (filter (is_own_visit g) vs ≡ []) ⊎ ((front : List (Visit NodeName)) × (v : Visit NodeName) × (vs ≡ front ++ v ∷ [])
      × (is_own_visit g v ≡ true))

  module _ (shown : NodeName → View NodeName) (named : (y : NodeName) → (shown y).node ≡ y) where
    -- of a path that ends in the group, with those that are visited last
    last-visit : (path seen : List NodeName) (b : Bool) → filter (λ v. b || is_at_target name_eq v) (map shown path) ≡ map shown seen →
        EndsIn g closed w i seen → EndWell (visits_of name_eq b (map shown path))
    last-visit path seen b is k =
        let down = map (visit_of name_eq true) (reverse (map shown path)) in
        let up = map (visit_of name_eq false) (map shown k.0) in
        let last = visit_of name_eq false (shown k.1) in
        inr (
          down ++ up,
          last,
          ap (λ us. down ++ map (visit_of name_eq false) us) (is ∙ ap (map shown) k.2 ∙ map-append shown k.0 (k.1 ∷ []))
              ∙ ap (λ vs. down ++ vs) (map-append (visit_of name_eq false) (map shown k.0) (shown k.1 ∷ [])) ∙ sym (append_assoc down up (last ∷ [])),
          ap (λ (y : NodeName). g y.owner) (named k.1) ∙ k.3,
        )

  -- the visits of an event
  visits-end : (r : Option NodeName) (e : EventWords) → EndWell (visits_of name_eq e.bubbles (views w x r e.composed))
  visits-end r e = from e.bubbles
    where
      path : List NodeName
      path = event_path w x r e.composed

      shown : NodeName → View NodeName
      shown = view_at w x r path

      none_own : (b : Bool) → AllByRecursion (Out g closed w i) path → EndWell (visits_of name_eq b (map shown path))
      none_own b away =
          inl (group_visits g b (map shown path)
          ∙ ap (visits_of name_eq b) (filter-map (in_view g) shown path ∙ ap (map shown) (filter_none (in_node g) path away)))

      all-pass : (vs : List (View NodeName)) → filter (λ v. true || is_at_target name_eq v) vs ≡ vs
      all-pass [] = refl
      all-pass (v ∷ vs) = ap (λ us. v ∷ us) (all-pass vs)

      from : (b : Bool) → EndWell (visits_of name_eq b (map shown path))
      from true = elim (path-in g closed w i x r e.composed) [
        | inl away ↦ none_own true away
        | inr k ↦ last-visit shown (λ y. refl) path path true (all-pass (map shown path)) k
      ]
      from false = elim (targets-in r e.composed) [
        | inl away ↦ none_own false away
        | inr k ↦ last-visit shown (λ y. refl) path (filter at path) false (filter-map (λ v. false || is_at_target name_eq v) shown path) k
      ]

-- the last of some
last-of : {X : Type 0} (front more : List X) (v u : X) → front ++ v ∷ [] ≡ more ++ u ∷ [] → v ≡ u
last-of [] [] v u e = cc
last-of [] (y ∷ []) v u e = cc
last-of [] (y ∷ z ∷ more) v u e = cc
last-of (x ∷ []) [] v u e = cc
last-of (x ∷ z ∷ front) [] v u e = cc
last-of (x ∷ front) (y ∷ more) v u e = last-of front more v u (ap (drop 1) e)

-- the law on the last visit
pub last_visit-is_own : LastVisitIsOwn
last_visit-is_own g closed w i x r e vs v is some = elim (visits-end g closed w i x r e) [
  | inl away ↦ let few = ap length (sym (ap (filter (is_own_visit g)) is) ∙ away) in absurd (omega (arith, some, few))
  | inr k ↦ ap (is_own_visit g) (sym (last-of k.0 vs k.1 v (sym k.2 ∙ is))) ∙ k.3
]

module _ (g : Owner → Bool) (e : EventWords) (v : Visit NodeName) (own : is_own_visit g v ≡ true) where
  -- visits with the last one
  abbrev with_last : List (Visit NodeName) → List (Visit NodeName)
  with_last vs = vs ++ v ∷ []

  -- so many are the group's
  abbrev own_count : List (Visit NodeName) → ℕ
  own_count vs = length (filter (is_own_visit g) (with_last vs))

  -- one more
  count-here : (u : Visit NodeName) (vs : List (Visit NodeName)) → is_own_visit g u ≡ true → own_count (u ∷ vs) ≡ suc (own_count vs)
  count-here u vs h = ap length (filter-here (is_own_visit g) u (with_last vs) h)

  -- or no more
  count-away : (u : Visit NodeName) (vs : List (Visit NodeName)) → is_own_visit g u ≡ false → own_count (u ∷ vs) ≡ own_count vs
  count-away u vs h = ap length (filter-away (is_own_visit g) u (with_last vs) h)

  -- at least the last
  some-own : (vs : List (Visit NodeName)) → 1 ≤ own_count vs
  some-own [] = let one = ap length (filter-here (is_own_visit g) v [] own) in omega (arith, one)
  some-own (u ∷ vs) =
      let later = some-own vs in
      by_cases (is_own_visit g u) (λ h. let more = count-here u vs h in omega (arith, later, more))
      (λ h. let same = count-away u vs h in omega (arith, later, same))

  -- a stop that is told comes before the last
  reached-fewer : (vs : List (Visit NodeName)) (s : InWorld) (k : ℕ) → (interference_from g e s (with_last vs)).reached ≡ Some k → k < own_count vs
  reached-fewer [] s k h =
      let later = interference_from g e (world_visit e s v) [] in
      let none_told : None ≡ Some k =
      sym (ap (λ (j : Interference). j.reached) (cond-true (is_own_visit g v) (one_more later) (touched s.1 (world_visit e s v).1 later) own)) ∙ h in
      cc
  reached-fewer (u ∷ vs) s k h =
      by_cases (is_own_visit g u)
      (λ t. let told = sym (ap (λ (j : Interference). j.reached) (cond-true (is_own_visit g u) (one_more later) (touched s.1 after.1 later) t)) ∙ h in
      let few = one_later later.reached k (λ j f. reached-fewer vs after j f) told in
      let more = count-here u vs t in omega (arith, few, more))
      (λ t. let told = sym (ap (λ (j : Interference). j.reached) (cond-false (is_own_visit g u) (one_more later) (touched s.1 after.1 later) t)) ∙ h in
      let few = stopped_or_later (after.1.stopped && not s.1.stopped) later.reached k (λ f. reached-fewer vs after k f) told in
      let same = count-away u vs t in omega (arith, few, same))
    where
      after : InWorld
      after = world_visit e s u

      later : Interference
      later = interference_from g e after (with_last vs)

      one_later : (o : Option ℕ) (k : ℕ) → ((j : ℕ) → o ≡ Some j → j < own_count vs) → option_map suc o ≡ Some k → k < suc (own_count vs)
      one_later None k f told = cc
      one_later (Some j) k f told = let same : suc j ≡ k = cc in let less = f j refl in omega (arith, same, less)

      stopped_or_later : (b : Bool) (o : Option ℕ) (k : ℕ) → (o ≡ Some k → k < own_count vs) → (if b then Some 0 else o) ≡ Some k → k < own_count vs
      stopped_or_later true o k f told = let same : 0 ≡ k = cc in let some = some-own vs in omega (arith, same, some)
      stopped_or_later false o k f told = f told

-- the law on interference
pub interference-takes_last : InterferenceTakesLast
interference-takes_last g closed w i x r e k some h = elim (visits-end g closed w i x r e) [
  | inl away ↦ let few = ap length away in absurd (omega (arith, some, few))
  | inr b ↦
      let start : InWorld = (w, begun []) in
      let less = reached-fewer g e b.1 b.3 b.0 start k (sym (ap (λ vs. (interference_from g e start vs).reached) b.2) ∙ h) in
      let all = ap (λ vs. length (filter (is_own_visit g) vs)) b.2 in
      omega (arith, less, all)
]
