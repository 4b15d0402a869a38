-- Visits as a group has them: one at a node of the group does what it does where no others are, and one at another node does nothing to the
-- group but to the flags of the event. The visits at its nodes are those of the views there.
use Rattle.dom_base.proofs.Std.{◌≡◌, Bool, true, false, ◌||◌, List, [], ◌∷◌, ◌++◌, filter, fold, refl, sym, ap, ◌∙◌, append-nil, true≢false, subst, map}
use Rattle.dom_base.proofs.Std.{reverse, cond-true, cond-false, filter-append}
use Rattle.dom_model.proofs.Model.{Owner, Action, Log, Stop, StopNow, Cancel, NodeName, name_eq, EventWords, EventLine, Listener, Visit, after_invoke}
use Rattle.dom_model.proofs.Model.{after_inner_invoke, hears, kept_after, after_action, may_cancel, line_of, Part, part_of, with_part, World, world_visit}
use Rattle.dom_model.proofs.Model.{Dispatched, visits_of, visit_of, is_at_target, event_output, group_world, group_outputs, group_run, owner-part_of, View}
use Rattle.dom_model.proofs.Model.{is_of, owner_of_output}
use Rattle.dom_worlds.proofs.ListLemmas.{by_cases, filter-filter, filter-map, filter-reverse}
use Rattle.dom_worlds.proofs.TurnLemmas.{Going, InWorld, with_listeners, call, call-of, no_call, sifted-after_action}
use Rattle.dom_isolation.specs.Definitions.{is_own_visit}
use Rattle.dom_isolation.proofs.GroupSlots.{part-in, with_part-in, with_part-out, group-twice, filter-here, filter-away, filter-twice}

-- A visit leaves as it is what is told by the calls alone: what each call keeps all calls keep, and so the visit.
module _ (P : Going → Type 0) (e : EventWords) (v : Visit NodeName) (keeps : (d : Going) (l : Listener NodeName) → P d → P (call e v d l)) where
  -- a call, or none
  kept-called : (d : Going) (l : Listener NodeName) → P d → P (after_inner_invoke name_eq e v d l)
  kept-called d l h =
      by_cases d.stopped_now (λ s. subst P (sym (no_call e v d l s)) h) (λ s. subst P (sym (call-of e v d l s)) (keeps d l h))

  -- calls of all that hear
  kept-calls : (ls : List (Listener NodeName)) (d : Going) → P d → P (fold (after_inner_invoke name_eq e v) d ls)
  kept-calls [] d h = h
  kept-calls (l ∷ ls) d h = kept-calls ls (after_inner_invoke name_eq e v d l) (kept-called d l h)

  -- a visit
  pub kept-visited : (d : Going) → P d → P (after_invoke name_eq e d v)
  kept-visited d h =
      let hearing = filter (hears name_eq e v) d.listeners in
      by_cases d.stopped (λ s. subst P (sym (cond-true d.stopped d (fold (after_inner_invoke name_eq e v) d hearing) s)) h)
      (λ s. subst P (sym (cond-false d.stopped d (fold (after_inner_invoke name_eq e v) d hearing) s)) (kept-calls hearing d h))

-- Once an event is stopped a visit makes no call.
pub visited-stopped : (e : EventWords) (v : Visit NodeName) (d : Going) → d.stopped ≡ true → after_invoke name_eq e d v ≡ d
visited-stopped e v d s = cond-true d.stopped d (fold (after_inner_invoke name_eq e v) d (filter (hears name_eq e v) d.listeners)) s

-- What is made of a dispatch on its way, such as some of its lines, where it keeps the listeners and the stop flags, and each call does to it what it
-- does to the dispatch.
record IsThrough (f : Going → Going) (e : EventWords) (v : Visit NodeName) : Type 0 where
  listeners : (d : Going) → (f d).listeners ≡ d.listeners
  stopped : (d : Going) → (f d).stopped ≡ d.stopped
  stopped_now : (d : Going) → (f d).stopped_now ≡ d.stopped_now
  call : (d : Going) (l : Listener NodeName) → f (call e v d l) ≡ call e v (f d) l

-- So does the visit.
module _ {f : Going → Going} {e : EventWords} {v : Visit NodeName} (k : IsThrough f e v) where
  -- a call, or none
  through-called : (d : Going) (l : Listener NodeName) → f (after_inner_invoke name_eq e v d l) ≡ after_inner_invoke name_eq e v (f d) l
  through-called d l =
      by_cases d.stopped_now (λ s. ap f (no_call e v d l s) ∙ sym (no_call e v (f d) l (k.stopped_now d ∙ s)))
      (λ s. ap f (call-of e v d l s) ∙ k.call d l ∙ sym (call-of e v (f d) l (k.stopped_now d ∙ s)))

  -- calls of all that hear
  through-calls : (ls : List (Listener NodeName)) (d : Going) → f (fold (after_inner_invoke name_eq e v) d ls) ≡ fold (after_inner_invoke name_eq e v) (f d) ls
  through-calls [] d = refl
  through-calls (l ∷ ls) d =
      through-calls ls (after_inner_invoke name_eq e v d l) ∙ ap (λ s. fold (after_inner_invoke name_eq e v) s ls) (through-called d l)

  -- a visit
  through-visited : (d : Going) → f (after_invoke name_eq e d v) ≡ after_invoke name_eq e (f d) v
  through-visited d =
      let all : List (Listener NodeName) → Going = λ ls. fold (after_inner_invoke name_eq e v) (f d) (filter (hears name_eq e v) ls) in
      let hearing = filter (hears name_eq e v) d.listeners in
      by_cases d.stopped
      (λ s. ap f (visited-stopped e v d s) ∙ sym (visited-stopped e v (f d) (k.stopped d ∙ s)))
      (λ s. ap f (cond-false d.stopped d (fold (after_inner_invoke name_eq e v) d hearing) s) ∙ through-calls hearing d ∙ ap all (sym (k.listeners d))
      ∙ sym (cond-false (f d).stopped (f d) (all (f d).listeners) (k.stopped d ∙ s)))

-- Who stops the other listeners at once stops the event.
abbrev pub IsOrdered : Going → Type 0
IsOrdered d = d.stopped ≡ false → d.stopped_now ≡ false

-- an action keeps that
ordered-after_action : (a : Action) (c : Bool) (d : Going) → IsOrdered d → IsOrdered (after_action a c d)
ordered-after_action Log c d h = h
ordered-after_action Stop c d h = λ s. absurd (true≢false s)
ordered-after_action StopNow c d h = λ s. absurd (true≢false s)
ordered-after_action Cancel c d h = h

-- a call
ordered-call : (e : EventWords) (v : Visit NodeName) (d : Going) (l : Listener NodeName) → IsOrdered d → IsOrdered (call e v d l)
unfolding call
ordered-call e v d l h =
    ordered-after_action l.words.action (may_cancel e l.words)
    (record d { listeners = kept_after name_eq l d.listeners; lines = d.lines ++ line_of v l.words ∷ [] }) h

-- a visit in the world
pub ordered-visit : (e : EventWords) (s : InWorld) (v : Visit NodeName) → IsOrdered s.1 → IsOrdered (world_visit e s v).1
ordered-visit e s v h = kept-visited IsOrdered e v (ordered-call e v) (record s.1 { listeners = (part_of s.0 v.current.owner).listeners }) h

-- A dispatch that was cancelled already, where `c` says so.
abbrev pub with_cancel : Bool → Going → Going
with_cancel c d = record d { cancelled = c || d.cancelled }

-- in the world
abbrev pub cancelled_as : Bool → InWorld → InWorld
cancelled_as c s = (s.0, with_cancel c s.1)

-- one of three
or_assoc : (a b c : Bool) → (a || (b || c)) ≡ ((a || b) || c)
or_assoc true b c = refl
or_assoc false b c = refl

-- no action asks whether it was
cancel-after_action : (c : Bool) (a : Action) (m : Bool) (d : Going) → with_cancel c (after_action a m d) ≡ after_action a m (with_cancel c d)
cancel-after_action c Cancel m d = ap (λ b. record d { cancelled = b }) (or_assoc c d.cancelled m)
cancel-after_action c a m d = refl

-- no call
cancel-call : (c : Bool) (e : EventWords) (v : Visit NodeName) (d : Going) (l : Listener NodeName) → with_cancel c (call e v d l) ≡ call e v (with_cancel c d) l
unfolding call
cancel-call c e v d l =
    cancel-after_action c l.words.action (may_cancel e l.words)
    (record d { listeners = kept_after name_eq l d.listeners; lines = d.lines ++ line_of v l.words ∷ [] })

-- nor a visit
cancel-visited : (c : Bool) (e : EventWords) (v : Visit NodeName) (d : Going) → with_cancel c (after_invoke name_eq e d v) ≡ after_invoke name_eq e
    (with_cancel c d) v
cancel-visited c e v d =
    through-visited (record { listeners = λ d. refl; stopped = λ d. refl; stopped_now = λ d. refl; call = cancel-call c e v }) d

-- in the world
pub cancel-visit : (c : Bool) (e : EventWords) (s : InWorld) (v : Visit NodeName) →
    world_visit e (cancelled_as c s) v ≡ cancelled_as c (world_visit e s v)
cancel-visit c e s v =
    let p = part_of s.0 v.current.owner in
    ap (λ (d : Going). (with_part s.0 (with_listeners p d.listeners), d)) (sym (cancel-visited c e v (record s.1 { listeners = p.listeners })))

-- what was cancelled stays so
pub cancelled-visit : (e : EventWords) (s : InWorld) (v : Visit NodeName) → s.1.cancelled ≡ true → (world_visit e s v).1.cancelled ≡ true
cancelled-visit e s v h =
    let same : s ≡ cancelled_as true s = ap (λ b. (s.0, record s.1 { cancelled = b })) h in
    ap (λ (r : InWorld). r.1.cancelled) (ap (λ r. world_visit e r v) same ∙ cancel-visit true e s v)

module _ (g : Owner → Bool) where
  -- whether a line of a listener is of the group
  abbrev pub in_line : EventLine NodeName → Bool
  in_line l = g l.current.owner

  -- what the group has of the lines of a dispatch
  abbrev pub seen : Going → Going
  seen d = record d { lines = filter in_line d.lines }

  -- a call
  seen-call : (e : EventWords) (v : Visit NodeName) → is_own_visit g v ≡ true → (d : Going) (l : Listener NodeName) →
      seen (call e v d l) ≡ call e v (seen d) l
  unfolding call
  seen-call e v h d l =
      sifted-after_action in_line l.words.action (may_cancel e l.words)
      (record d { listeners = kept_after name_eq l d.listeners; lines = d.lines ++ line_of v l.words ∷ [] })
      ∙ ap (λ ls. after_action l.words.action (may_cancel e l.words) (record d { listeners = kept_after name_eq l d.listeners; lines = ls }))
      (filter-append in_line d.lines (line_of v l.words ∷ []) ∙ ap (λ ls. filter in_line d.lines ++ ls) (filter-here in_line (line_of v l.words) [] h))

  -- a visit at a node of the group is seen as it is alone
  pub seen-visited : (e : EventWords) (v : Visit NodeName) → is_own_visit g v ≡ true → (d : Going) → seen (after_invoke name_eq e d v) ≡ after_invoke name_eq e
      (seen d) v
  seen-visited e v h d =
      through-visited (record { listeners = λ d. refl; stopped = λ d. refl; stopped_now = λ d. refl; call = seen-call e v h }) d

  -- A visit at a node outside adds no line of the group.
  module _ (e : EventWords) (v : Visit NodeName) (f : is_own_visit g v ≡ false) where
    -- no action adds a line
    same-lines : (a : Action) (c : Bool) (d : Going) → (after_action a c d).lines ≡ d.lines
    same-lines Log c d = refl
    same-lines a c d = refl

    -- a call adds one of another's
    call-outside : (d : Going) (l : Listener NodeName) → filter in_line (call e v d l).lines ≡ filter in_line d.lines
    unfolding call
    call-outside d l =
        ap (filter in_line) (same-lines l.words.action (may_cancel e l.words)
        (record d { listeners = kept_after name_eq l d.listeners; lines = d.lines ++ line_of v l.words ∷ [] }))
        ∙ filter-append in_line d.lines (line_of v l.words ∷ [])
        ∙ ap (λ ls. filter in_line d.lines ++ ls) (filter-away in_line (line_of v l.words) [] f) ∙ append-nil (filter in_line d.lines)

    -- a visit
    pub lines-outside : (d : Going) → filter in_line (after_invoke name_eq e d v).lines ≡ filter in_line d.lines
    lines-outside d =
        kept-visited (λ c. filter in_line c.lines ≡ filter in_line d.lines) e v (λ c l h. call-outside c l ∙ h) d refl

  -- What the group has of a dispatch on its way: its world, the flags and its lines. The listeners are each visit's own.
  abbrev pub group_going : InWorld → InWorld
  group_going s = (group_world g s.0, record s.1 { listeners = []; lines = filter in_line s.1.lines })

  -- a visit at a node of the group does what it does where no others are
  pub visit-in : (e : EventWords) (s : InWorld) (v : Visit NodeName) → is_own_visit g v ≡ true →
      group_going (world_visit e s v) ≡ group_going (world_visit e (group_going s) v)
  visit-in e s v h =
      let o = v.current.owner in
      let u = group_world g s.0 in
      let p = part_of s.0 o in
      let start : Going = record s.1 { listeners = p.listeners } in
      let heard = after_invoke name_eq e start v in
      let q = with_listeners p heard.listeners in
      let mine : g q.owner ≡ true = ap g (owner-part_of s.0 o) ∙ h in
      let left : group_going (world_visit e s v) ≡ (with_part u q, record (seen heard) { listeners = [] }) =
      ap (λ w. (w, record (seen heard) { listeners = [] })) (with_part-in g s.0 q mine) in
      let right : world_visit e (group_going s) v ≡ (with_part u q, seen heard) =
      ap (λ (p : Part). let d = after_invoke name_eq e (record (seen s.1) { listeners = p.listeners }) v in (with_part u (with_listeners p d.listeners), d))
      (part-in g s.0 o h)
      ∙ ap (λ (d : Going). (with_part u (with_listeners p d.listeners), d)) (sym (seen-visited e v h start)) in
      let again : group_going (with_part u q, seen heard) ≡ (with_part u q, record (seen heard) { listeners = [] }) =
      ap (λ w. (w, record (seen heard) { listeners = []; lines = filter in_line (filter in_line heard.lines) }))
      (with_part-in g u q mine ∙ ap (λ w. with_part w q) (group-twice g s.0))
      ∙ ap (λ ls. (with_part u q, record (seen heard) { listeners = []; lines = ls })) (filter-twice in_line heard.lines) in
      left ∙ sym again ∙ sym (ap group_going right)

  -- Two dispatches that the group has alike, but for what others cancelled in the first.
  pub record AreAlike (c : Bool) (s t : InWorld) : Type 0 where
    pub ordered : IsOrdered s.1
    pub same : group_going s ≡ cancelled_as c (group_going t)

  -- a visit at a node of the group keeps them so
  pub visit-alike : {c : Bool} {s t : InWorld} (e : EventWords) (v : Visit NodeName) → is_own_visit g v ≡ true → AreAlike c s t →
      AreAlike c (world_visit e s v) (world_visit e t v)
  visit-alike {c} {s} {t} e v h a = record {
    ordered = ordered-visit e s v a.ordered;
    same =
        visit-in e s v h ∙ ap (λ r. group_going (world_visit e r v)) a.same ∙ ap group_going (cancel-visit c e (group_going t) v)
        ∙ ap (cancelled_as c) (sym (visit-in e t v h));
  }

  -- a visit at another node does nothing but to the flags
  pub visit-out : (e : EventWords) (s : InWorld) (v : Visit NodeName) → is_own_visit g v ≡ false →
      group_going (world_visit e s v) ≡ (group_world g s.0, record (world_visit e s v).1 { listeners = []; lines = filter in_line s.1.lines })
  visit-out e s v f =
      let p = part_of s.0 v.current.owner in
      let start : Going = record s.1 { listeners = p.listeners } in
      let heard = after_invoke name_eq e start v in
      ap (λ w. (w, record (seen heard) { listeners = [] })) (with_part-out g s.0 (with_listeners p heard.listeners)
      (ap g (owner-part_of s.0 v.current.owner) ∙ f))
      ∙ ap (λ ls. (group_world g s.0, record heard { listeners = []; lines = ls })) (lines-outside e v f start)

module _ (g : Owner → Bool) where
  -- whether a view is at a node of the group
  abbrev pub in_view : View NodeName → Bool
  in_view v = g v.node.owner

  -- The visits at nodes of the group are those of the views there.
  pub group_visits : (bubbles : Bool) (vs : List (View NodeName)) →
      filter (is_own_visit g) (visits_of name_eq bubbles vs) ≡ visits_of name_eq bubbles (filter in_view vs)
  group_visits bubbles vs =
      let going_up = filter (λ v. bubbles || is_at_target name_eq v) in
      filter-append (is_own_visit g) (map (visit_of name_eq true) (reverse vs)) (map (visit_of name_eq false) (going_up vs))
      ∙ ap (λ xs. xs ++ filter (is_own_visit g) (map (visit_of name_eq false) (going_up vs)))
      (filter-map (is_own_visit g) (visit_of name_eq true) (reverse vs) ∙ ap (map (visit_of name_eq true)) (filter-reverse in_view vs))
      ∙ ap (λ xs. map (visit_of name_eq true) (reverse (filter in_view vs)) ++ xs)
      (filter-map (is_own_visit g) (visit_of name_eq false) (going_up vs)
      ∙ ap (map (visit_of name_eq false)) (filter-filter in_view (λ v. bubbles || is_at_target name_eq v) vs))

  -- the group's lines of a dispatch
  pub outputs-event_lines : (ls : List (EventLine NodeName)) → group_outputs g (map event_output ls) ≡ map event_output (filter (in_line g) ls)
  outputs-event_lines ls = filter-map (λ l. is_of g (owner_of_output l)) event_output ls

  -- what the group has of how a dispatch ends
  abbrev pub group_dispatched : Dispatched World → Dispatched World
  group_dispatched d = record { run = group_run g d.run; answer = d.answer }
