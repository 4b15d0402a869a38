-- What a group has of all visits of an event is what the first visits at its own nodes do: as many as others let it come to.
use Rattle.dom_base.proofs.Std.{◌≡◌, ℕ, zero, suc, Bool, true, false, not, ◌&&◌, ◌||◌, List, [], ◌∷◌, filter, fold, Option, Some, None, option_map, unwrap_or}
use Rattle.dom_base.proofs.Std.{refl, take, sym, ap, ◌∙◌, true≢false, subst, is_some, if◌then◌else◌, AllByRecursion, cond-true, cond-false, and_parts}
use Rattle.dom_model.proofs.Model.{Owner, NodeName, owner_eq, EventWords, Visit, begun, Part, empty_part, World, find_part, put_part, part_of, with_part}
use Rattle.dom_model.proofs.Model.{world_visit, group_world, owner_eq-same, owner-part_of}
use Rattle.dom_worlds.specs.Definitions.{IsThere}
use Rattle.dom_worlds.proofs.ListLemmas.{all-then, by_cases, and-true_false}
use Rattle.dom_worlds.proofs.OwnerLemmas.{there-with_part}
use Rattle.dom_worlds.proofs.TurnLemmas.{Going, InWorld, with_listeners}
use Rattle.dom_isolation.specs.Definitions.{Interference, untouched, touched, one_more, is_own_visit, interference_from, OwnIsThere, InterferenceIsEnough}
use Rattle.dom_isolation.specs.Definitions.{first_visits}
use Rattle.dom_isolation.proofs.GroupSlots.{with_part-out, filter-here, filter-away}
use Rattle.dom_isolation.proofs.OwnVisits.{AreAlike, IsOrdered, ordered-visit, visited-stopped, cancelled-visit, in_line, group_going, visit-alike, visit-out}

-- A part that is there is written over itself.
put-same : (ps : List Part) (o : Owner) → is_some (find_part ps o) ≡ true → put_part ps (unwrap_or (find_part ps o) (empty_part o)) ≡ ps
put-same [] o h = absurd (true≢false (sym h))
put-same (q ∷ qs) o h = by_cases (owner_eq q.owner o) here (λ e. away e (put-same qs o (sym (ap is_some (cond-false (owner_eq q.owner o) (Some q)
    (find_part qs o) e)) ∙ h)))
  where
    here : owner_eq q.owner o ≡ true → put_part (q ∷ qs) (unwrap_or (find_part (q ∷ qs) o) (empty_part o)) ≡ q ∷ qs
    here e =
        ap (λ f. put_part (q ∷ qs) (unwrap_or f (empty_part o))) (cond-true (owner_eq q.owner o) (Some q) (find_part qs o) e)
        ∙ cond-true (owner_eq q.owner q.owner) (q ∷ qs) (q ∷ put_part qs q) (owner_eq-same q.owner)

    away : owner_eq q.owner o ≡ false → put_part qs (unwrap_or (find_part qs o) (empty_part o)) ≡ qs →
        put_part (q ∷ qs) (unwrap_or (find_part (q ∷ qs) o) (empty_part o)) ≡ q ∷ qs
    away e same =
        let p = unwrap_or (find_part qs o) (empty_part o) in
        let owned : p.owner ≡ o = owner-part_of (record { parts = qs; signalled = []; tasks = []; turn = None }) o in
        ap (λ f. put_part (q ∷ qs) (unwrap_or f (empty_part o))) (cond-false (owner_eq q.owner o) (Some q) (find_part qs o) e)
        ∙ cond-false (owner_eq q.owner p.owner) (p ∷ qs) (q ∷ put_part qs p) (ap (owner_eq q.owner) owned ∙ e) ∙ ap (λ ps. q ∷ ps) same

-- in the world
pub with_part-same : (w : World) (o : Owner) → IsThere w o → with_part w (part_of w o) ≡ w
with_part-same w o h = ap (λ ps. record w { parts = ps }) (put-same w.parts o h)

-- Of a visit whose event is stopped: it changes nothing of the flags.
visit-stopped : (e : EventWords) (s : InWorld) (v : Visit NodeName) → s.1.stopped ≡ true →
    let p = part_of s.0 v.current.owner in world_visit e s v ≡ (with_part s.0 p, record s.1 { listeners = p.listeners })
visit-stopped e s v h =
    let p = part_of s.0 v.current.owner in
    ap (λ (d : Going). (with_part s.0 (with_listeners p d.listeners), d)) (visited-stopped e v (record s.1 { listeners = p.listeners }) h)

-- who cancelled an event, outside or inside, told in another order
regrouped : (a b c d : Bool) → ((a || b) || (c || d)) ≡ (a || ((b || c) || d))
regrouped false true c d = refl
regrouped a b c d = refl

-- an event is cancelled if it was before, or is now by the visit, where what was cancelled stays so
now-cancelled : (c was now inside : Bool) → was ≡ (c || inside) → (was ≡ true → now ≡ true) → now ≡ ((c || (now && not was)) || inside)
now-cancelled true was now inside e h = h e
now-cancelled false true true true e h = refl
now-cancelled false true false true e h = h refl
now-cancelled false false now true e h = absurd (true≢false (sym e))
now-cancelled false true now false e h = absurd (true≢false e)
now-cancelled false false true false e h = refl
now-cancelled false false false false e h = refl

-- the first visits, where one more is made
first-one_more : {A : Type 0} (k : Option ℕ) (x : A) (xs : List A) → first_visits (option_map suc k) (x ∷ xs) ≡ x ∷ first_visits k xs
first-one_more None x xs = refl
first-one_more (Some k) x xs = refl

-- Of the first visits holds what holds of all, and of none there are none.
pub all-first : {X : Type 0} (P : X → Type 0) (reached : Option ℕ) (xs : List X) → AllByRecursion P xs → AllByRecursion P (first_visits reached xs)
all-first P None xs h = h
all-first {X = X} P (Some k) xs h = some k xs h
  where
    some : (k : ℕ) (xs : List X) → AllByRecursion P xs → AllByRecursion P (take k xs)
    some zero xs h = tt
    some (suc k) [] h = tt
    some (suc k) (x ∷ xs) h = (h.0, some k xs h.1)

-- of none
pub first-none : {X : Type 0} (reached : Option ℕ) → first_visits {A = X} reached [] ≡ []
first-none (Some zero) = refl
first-none reached = refl

module _ (g : Owner → Bool) where
  -- who is there is there behind a visit
  there-visit : (e : EventWords) (s : InWorld) (v : Visit NodeName) (vs : List (Visit NodeName)) → AllByRecursion (OwnIsThere g s.0) vs →
      AllByRecursion (OwnIsThere g (world_visit e s v).0) vs
  there-visit e s v vs h =
      let p = part_of s.0 v.current.owner in
      all-then (OwnIsThere g s.0) (OwnIsThere g (world_visit e s v).0)
      (λ u t own. there-with_part s.0 (with_listeners p (world_visit e s v).1.listeners) u.current.owner (t own)) vs h

  -- A stopped event: the group has no more of a visit,
  still-visit : (e : EventWords) (s : InWorld) (v : Visit NodeName) → s.1.stopped ≡ true → OwnIsThere g s.0 v →
      group_going g (world_visit e s v) ≡ group_going g s
  still-visit e s v h t =
      let o = v.current.owner in
      let now = visit-stopped e s v h in
      ap (group_going g) now
      ∙ ap (λ w. (w, (group_going g s).1))
      (by_cases (g o) (λ own. ap (group_world g) (with_part-same s.0 o (t own)))
      (λ other. with_part-out g s.0 (part_of s.0 o) (ap g (owner-part_of s.0 o) ∙ other)))

  -- it is stopped behind it,
  stopped-visit : (e : EventWords) (s : InWorld) (v : Visit NodeName) → s.1.stopped ≡ true → (world_visit e s v).1.stopped ≡ true
  stopped-visit e s v h = ap (λ (t : InWorld). t.1.stopped) (visit-stopped e s v h) ∙ h

  -- the group has no more of all visits,
  still-visits : (e : EventWords) (vs : List (Visit NodeName)) (s : InWorld) → s.1.stopped ≡ true → AllByRecursion (OwnIsThere g s.0) vs →
      group_going g (fold (world_visit e) s vs) ≡ group_going g s
  still-visits e [] s h t = refl
  still-visits e (v ∷ vs) s h t =
      still-visits e vs (world_visit e s v) (stopped-visit e s v h) (there-visit e s v vs t.1) ∙ still-visit e s v h t.0

  -- Nobody touches an event by a visit that leaves its flags, where nobody touches it behind.
  pub untouched-on : (e : EventWords) (v : Visit NodeName) (vs : List (Visit NodeName)) (s : InWorld) →
      interference_from g e (world_visit e s v) vs ≡ untouched →
      (is_own_visit g v ≡ false → touched s.1 (world_visit e s v).1 untouched ≡ touched s.1 s.1 untouched) →
      interference_from g e s (v ∷ vs) ≡ untouched
  untouched-on e v vs s later same =
      let t = world_visit e s v in
      let own = one_more (interference_from g e t vs) in
      let other = touched s.1 t.1 (interference_from g e t vs) in
      by_cases (is_own_visit g v)
      (λ o. cond-true (is_own_visit g v) own other o ∙ ap one_more later)
      (λ o. cond-false (is_own_visit g v) own other o ∙ ap (touched s.1 t.1) later ∙ same o ∙ same_flags s.1.stopped s.1.cancelled)
    where
      same_flags : (a b : Bool) → record { reached = if a && not a then Some 0 else None; cancelled = (b && not b) || false } ≡ untouched
      same_flags true true = refl
      same_flags false true = refl
      same_flags a b = refl

  -- So nobody touches a stopped one any more.
  untouched-stopped : (e : EventWords) (vs : List (Visit NodeName)) (s : InWorld) → s.1.stopped ≡ true → interference_from g e s vs ≡ untouched
  untouched-stopped e [] s h = refl
  untouched-stopped e (v ∷ vs) s h =
      untouched-on e v vs s (untouched-stopped e vs (world_visit e s v) (stopped-visit e s v h))
      (λ o. ap (λ (r : InWorld). touched s.1 r.1 untouched) (visit-stopped e s v h))

  -- What the group has of their ends, where others cancelled, or not, what comes in between.
  pub record EndAlike (c touched_now : Bool) (s t : InWorld) : Type 0 where
    pub world : group_world g s.0 ≡ group_world g t.0
    pub lines : filter (in_line g) s.1.lines ≡ filter (in_line g) t.1.lines
    pub cancelled : s.1.cancelled ≡ (c || (touched_now || t.1.cancelled))

  -- how the visits end, and what the first ones of a list do
  abbrev Ends : Bool → EventWords → InWorld → InWorld → List (Visit NodeName) → Interference → List (Visit NodeName) → Type 0
  Ends c e s t vs i own = EndAlike c i.cancelled (fold (world_visit e) s vs) (fold (world_visit e) t (first_visits i.reached own))

  -- A visit at another node.
  module _ (e : EventWords) (v : Visit NodeName) (f : is_own_visit g v ≡ false) where
    -- it leaves the stop flags where it does not stop the event
    same-stop : (s : InWorld) → ((world_visit e s v).1.stopped && not s.1.stopped) ≡ false → (b : Bool) → s.1.stopped ≡ b →
        (world_visit e s v).1.stopped ≡ s.1.stopped
    same-stop s n true h = stopped-visit e s v h ∙ sym h
    same-stop s n false h = and-true_false (world_visit e s v).1.stopped (ap (λ b. (world_visit e s v).1.stopped && not b) (sym h) ∙ n) ∙ sym h

    -- both
    same-stop_now : (s : InWorld) → IsOrdered s.1 → (world_visit e s v).1.stopped ≡ s.1.stopped → (b : Bool) → s.1.stopped ≡ b →
        (world_visit e s v).1.stopped_now ≡ s.1.stopped_now
    same-stop_now s o n true h = ap (λ (r : InWorld). r.1.stopped_now) (visit-stopped e s v h)
    same-stop_now s o n false h = ordered-visit e s v o (n ∙ h) ∙ sym (o h)

    -- then the group has both dispatches alike, but for what it cancelled
    passed : {c : Bool} {s t : InWorld} → AreAlike g c s t →
        let now = (world_visit e s v).1 in
        (now.stopped && not s.1.stopped) ≡ false → AreAlike g (c || (now.cancelled && not s.1.cancelled)) (world_visit e s v) t
    passed {c} {s} {t} a n =
        let was = s.1 in
        let now = (world_visit e s v).1 in
        let w = group_world g s.0 in
        let ls = filter (in_line g) was.lines in
        let stop = same-stop s n was.stopped refl in
        record {
          ordered = ordered-visit e s v a.ordered;
          same =
              visit-out g e s v f
              ∙ ap (λ b. (w, record now { listeners = []; lines = ls; stopped = b })) stop
              ∙ ap (λ b. (w, record now { listeners = []; lines = ls; stopped = was.stopped; stopped_now = b }))
              (same-stop_now s a.ordered stop was.stopped refl)
              ∙ ap (λ b. (w, record was { listeners = []; lines = ls; cancelled = b }))
              (now-cancelled c was.cancelled now.cancelled t.1.cancelled (ap (λ (r : InWorld). r.1.cancelled) a.same) (cancelled-visit e s v))
              ∙ ap (λ (r : InWorld). (r.0, record r.1 { cancelled = (c || (now.cancelled && not was.cancelled)) || t.1.cancelled })) a.same;
        }

  -- One visit and those behind it: one at a node of the group,
  module _ (e : EventWords) (v : Visit NodeName) (vs : List (Visit NodeName)) {c : Bool} {s t : InWorld} (a : AreAlike g c s t)
      (h : AllByRecursion (OwnIsThere g s.0) (v ∷ vs)) where
    -- what is told of those behind it
    abbrev later : Interference
    later = interference_from g e (world_visit e s v) vs

    -- and those behind it at nodes of the group
    abbrev mine : List (Visit NodeName)
    mine = filter (is_own_visit g) vs

    -- what is shown of all
    abbrev Shown : Interference → List (Visit NodeName) → Type 0
    Shown i us = Ends c e s t (v ∷ vs) i us

    -- a visit of the group
    own-touched : is_own_visit g v ≡ true → Ends c e (world_visit e s v) (world_visit e t v) vs later mine →
        Shown (interference_from g e s (v ∷ vs)) (filter (is_own_visit g) (v ∷ vs))
    own-touched o r =
        let next = world_visit e s v in
        let told : Shown (one_more later) (v ∷ mine) =
        subst (λ us. EndAlike c later.cancelled (fold (world_visit e) next vs) (fold (world_visit e) t us)) (sym (first-one_more later.reached v mine)) r in
        subst (λ i. Shown i (filter (is_own_visit g) (v ∷ vs))) (sym (cond-true (is_own_visit g v) (one_more later) (touched s.1 next.1 later) o))
        (subst (Shown (one_more later)) (sym (filter-here (is_own_visit g) v vs o)) told)

    -- another that does not stop the event
    passes : let now = (world_visit e s v).1 in (now.stopped && not s.1.stopped) ≡ false →
        Ends (c || (now.cancelled && not s.1.cancelled)) e (world_visit e s v) t vs later mine → Shown (touched s.1 now later) mine
    passes n r =
        let next = world_visit e s v in
        let end = fold (world_visit e) t (first_visits later.reached mine) in
        subst (λ k. EndAlike c (touched s.1 next.1 later).cancelled (fold (world_visit e) next vs) (fold (world_visit e) t (first_visits k mine)))
        (sym (cond-false (next.1.stopped && not s.1.stopped) (Some 0) later.reached n))
        (record {
          world = r.world;
          lines = r.lines;
          cancelled = r.cancelled ∙ regrouped c (next.1.cancelled && not s.1.cancelled) later.cancelled end.1.cancelled;
        })

    -- another that stops it
    stops : let now = (world_visit e s v).1 in is_own_visit g v ≡ false → (now.stopped && not s.1.stopped) ≡ true → Shown (touched s.1 now later) mine
    stops f y =
        let next = world_visit e s v in
        let set = and_parts next.1.stopped (not s.1.stopped) y in
        let still = still-visits e vs next set.0 (there-visit e s v vs h.1) ∙ visit-out g e s v f in
        let hit = next.1.cancelled && not s.1.cancelled in
        subst (λ k. EndAlike c (touched s.1 next.1 later).cancelled (fold (world_visit e) next vs) (fold (world_visit e) t (first_visits k mine)))
        (sym (cond-true (next.1.stopped && not s.1.stopped) (Some 0) later.reached y))
        (record {
          world = ap (λ (r : InWorld). r.0) still ∙ ap (λ (r : InWorld). r.0) a.same;
          lines = ap (λ (r : InWorld). r.1.lines) still ∙ ap (λ (r : InWorld). r.1.lines) a.same;
          cancelled =
              ap (λ (r : InWorld). r.1.cancelled) still
              ∙ now-cancelled c s.1.cancelled next.1.cancelled t.1.cancelled (ap (λ (r : InWorld). r.1.cancelled) a.same) (cancelled-visit e s v)
              ∙ regrouped c hit false t.1.cancelled
              ∙ ap (λ (i : Interference). c || ((hit || i.cancelled) || t.1.cancelled)) (sym (untouched-stopped e vs next set.0));
        })

    -- another
    other-touched : is_own_visit g v ≡ false → Shown (touched s.1 (world_visit e s v).1 later) mine →
        Shown (interference_from g e s (v ∷ vs)) (filter (is_own_visit g) (v ∷ vs))
    other-touched f r =
        let next = world_visit e s v in
        subst (λ i. Shown i (filter (is_own_visit g) (v ∷ vs))) (sym (cond-false (is_own_visit g v) (one_more later) (touched s.1 next.1 later) f))
        (subst (Shown (touched s.1 next.1 later)) (sym (filter-away (is_own_visit g) v vs f)) r)

  -- a dispatch and itself, as it begins
  pub alike-start : (w : World) → AreAlike g false (w, begun []) (w, begun [])
  alike-start w = record { ordered = λ h. h; same = refl }

  -- The visits of an event: what the group has of them is what the first visits at its own nodes do.
  pub visits-touched : (e : EventWords) (vs : List (Visit NodeName)) (s : InWorld) {t : InWorld} {c : Bool} → AreAlike g c s t →
      AllByRecursion (OwnIsThere g s.0) vs → Ends c e s t vs (interference_from g e s vs) (filter (is_own_visit g) vs)
  visits-touched e [] s {t} {c} a h = record {
    world = ap (λ (r : InWorld). r.0) a.same;
    lines = ap (λ (r : InWorld). r.1.lines) a.same;
    cancelled = ap (λ (r : InWorld). r.1.cancelled) a.same;
  }
  visits-touched e (v ∷ vs) s {t} {c} a h =
      let next = world_visit e s v in
      let there = there-visit e s v vs h.1 in
      by_cases (is_own_visit g v)
      (λ o. own-touched e v vs a h o (visits-touched e vs next (visit-alike g e v o a) there))
      (λ f. other-touched e v vs a h f
      (by_cases (next.1.stopped && not s.1.stopped) (λ y. stops e v vs a h f y)
      (λ n. passes e v vs a h n (visits-touched e vs next (passed e v f a n) there))))

-- the law
pub interference-is_enough : InterferenceIsEnough
interference-is_enough g w e vs there =
    let start : InWorld = (w, begun []) in
    let ends = visits-touched g e vs start (alike-start g w) there in
    (ends.world, ends.lines, ends.cancelled)
