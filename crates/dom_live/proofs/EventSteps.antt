-- One small step of an event, as a group has it.
use Rattle.dom_base.proofs.Std.{◌≡◌, Bool, true, false, not, ◌&&◌, ◌||◌, List, [], ◌∷◌, ◌++◌, filter, Option, Some, None}
use Rattle.dom_base.proofs.Std.{refl, sym, ap, ◌∙◌, true≢false, cond-true, cond-false, if◌then◌else◌, list_any, AllByRecursion, and-false, and-true}
use Rattle.dom_base.proofs.Std.{or-true}
use Rattle.dom_model.proofs.Model.{Owner, NodeName, name_eq, Visit, Part, group_turn, is_of, says, replied, a_truth}
use Rattle.dom_model.specs.Listeners.{hears}
use Rattle.dom_model.specs.Names.{is_empty}
use Rattle.dom_worlds.proofs.ListLemmas.{by_cases}
use Rattle.dom_isolation.proofs.GroupSlots.{filter-here, filter-away}
use Rattle.dom_live.specs.Lines.{LiveLine, LiveRun, written, still, and_then}
use Rattle.dom_live.specs.Frames.{UnderWay, Frame, an_event}
use Rattle.dom_live.specs.Documents.{Documents, Live}
use Rattle.dom_live.specs.SmallSteps.{pushed, advance, between_visits, begun_visit, answered}
use Rattle.dom_live.specs.Groups.{is_own_visit, is_own_node, is_own_event, own_frames, own_live, own_run, own_outputs, is_own_output}
use Rattle.dom_live.specs.Groups.{is_own_step_of, is_next_own}
use Rattle.dom_live.specs.Things.{Thing, was_stopped, was_cancelled, told_by, done_if, is_secret}
use Rattle.dom_live.specs.Laws.{IsVisitAt}
use Rattle.dom_live.proofs.OwnFrames.{pushed-in, pushed-out}
use Rattle.dom_live.proofs.OwnEvents.{seen_event, hidden_event, event-own, event-other, visit-outside, cancelled_as}
use Rattle.dom_live.proofs.OwnSteps.{Agrees}

-- a test that fails
or-left_false : (a b : Bool) → (a || b) ≡ false → a ≡ false
or-left_false true b h = h
or-left_false false b h = refl

-- and its other part
pub or-right_false : (a b : Bool) → (a || b) ≡ false → b ≡ false
or-right_false true b h = absurd (true≢false h)
or-right_false false b h = h

-- what a member is shown of an event that is cancelled: that it is
pub shown-flag : (c k : Bool) → (c ≡ false → k ≡ false) → c ≡ ((c && not k) || k)
shown-flag true true h = refl
shown-flag true false h = refl
shown-flag false true h = sym (h refl)
shown-flag false false h = refl

-- the owners who know are none where it is not
pub none-knows : (g : Owner → Bool) (u : UnderWay) → (u.cancelled ≡ false → u.knowing ≡ []) → u.cancelled ≡ false → list_any g u.knowing ≡ false
none-knows g u i c = ap (list_any g) (i c)

module _ {g : Owner → Bool} {S V : Type 0} {P : S → Type 0} {d : Documents S} {view : S → V} {e : Documents V} (a : Agrees g P d view e)
    {L : Type 0} (read : L → LiveLine) where
  -- what follows what is told
  abbrev pub follow : Live V → Bool → Option (Thing L) → LiveRun (Live V)
  follow t own x = and_then (done_if e read t x) (λ u. if own then advance e u else still u)

  -- what a small step of a frame tells
  abbrev pub told_of : Bool → Frame → Live S → Option (Thing L)
  told_of own f s = told_by g s.live_listeners (d.tasks s.documents) own f

  -- The law, of a frame and what is around it.
  abbrev pub StepAgrees : Frame → Live S → Type 0
  StepAgrees f s =
      let own = is_own_step_of g (d.tasks s.documents) f in
      own_run g view (advance d (pushed f s)) ≡ follow (own_live g view (pushed f s)) own (told_of own f s)

  module _ (f : Frame) (s : Live S) where
    -- by what is told, and what the group has
    module _ (own : Bool) (x : Option (Thing L)) (t : Live V) where
      -- the law follows
      pub by_parts : is_own_step_of g (d.tasks s.documents) f ≡ own → told_of own f s ≡ x → own_live g view (pushed f s) ≡ t →
          own_run g view (advance d (pushed f s)) ≡ follow t own x → StepAgrees f s
      by_parts o k l r =
          r ∙ sym (ap (λ t. follow t own x) l) ∙ sym (ap (follow (own_live g view (pushed f s)) own) k)
          ∙ sym (ap (λ b. follow (own_live g view (pushed f s)) b (told_of b f s)) o)

    -- a step of others of which nothing is told
    pub quietly : is_own_step_of g (d.tasks s.documents) f ≡ false → told_of false f s ≡ None →
        own_run g view (advance d (pushed f s)) ≡ (own_live g view (pushed f s), []) → StepAgrees f s
    quietly o k r = by_parts false None (own_live g view (pushed f s)) o k refl r

  -- An own step of an event, before which it is told or not that it is cancelled.
  module _ (u w : UnderWay) (s : Live S) (q : Bool) where
    -- the law follows
    pub own_event-step : is_own_step_of g (d.tasks s.documents) (an_event u) ≡ true → told_of true (an_event u) s ≡ (if q then Some was_cancelled else None) →
        own_live g view (pushed (an_event u) s) ≡ pushed (an_event w) (own_live g view s) →
        own_run g view (advance d (pushed (an_event u) s)) ≡ advance e (pushed (an_event (cancelled_as (q || w.cancelled) w)) (own_live g view s)) →
        StepAgrees (an_event u) s
    own_event-step o k l r =
        by_parts (an_event u) s true (if q then Some was_cancelled else None) (pushed (an_event w) (own_live g view s)) o k l (r ∙ by_test q)
      where
        by_test : (q : Bool) → advance e (pushed (an_event (cancelled_as (q || w.cancelled) w)) (own_live g view s))
            ≡ follow (pushed (an_event w) (own_live g view s)) true (if q then Some was_cancelled else None)
        by_test true = refl
        by_test false = refl

  -- who dispatched an event is answered alike
  answers : (u w : UnderWay) (z : Bool) → z ≡ true → (u.cancelled ≡ false → u.knowing ≡ []) →
      own_outputs g (answered u u.by)
      ≡ answered (cancelled_as ((is_secret g u && (z && is_of g u.by)) || list_any g u.knowing) w) (group_turn g u.by)
  answers u w z h i = from u.by
    where
      from : (by : Option Owner) → own_outputs g (answered u by)
          ≡ answered (cancelled_as ((is_secret g u && (z && is_of g by)) || list_any g u.knowing) w) (group_turn g by)
      from None = refl
      from (Some o) =
          by_cases (g o)
          (λ m. filter-here (is_own_output g) (written (says o (replied (a_truth (not u.cancelled))))) [] m
          ∙ ap (λ c. written (says o (replied (a_truth (not c)))) ∷ []) (shown-flag u.cancelled (list_any g u.knowing) (none-knows g u i)
          ∙ ap (λ b. b || list_any g u.knowing) (sym (and-true (is_secret g u)))
          ∙ ap (λ b. (is_secret g u && b) || list_any g u.knowing) (sym (ap (λ b. z && b) m ∙ ap (λ b. b && true) h)))
          ∙ ap (λ (by : Option Owner). answered (cancelled_as ((is_secret g u && (z && g o)) || list_any g u.knowing) w) by)
          (sym (cond-true (g o) (Some o) None m)))
          (λ m. filter-away (is_own_output g) (written (says o (replied (a_truth (not u.cancelled))))) [] m
          ∙ ap (λ (by : Option Owner). answered (cancelled_as ((is_secret g u && (z && g o)) || list_any g u.knowing) w) by)
          (sym (cond-false (g o) (Some o) None m)))

  -- a stopped event is over
  over : (t : Live V) (w : UnderWay) (vs : List (Visit NodeName)) → w.stopped ≡ true → between_visits e t w vs ≡ (t, answered w w.by)
  over t w [] h = refl
  over t w (v ∷ vs) h = cond-true w.stopped (t, answered w w.by) _ h

  -- Between visits.
  module _ (u : UnderWay) (s : Live S) (i : u.cancelled ≡ false → u.knowing ≡ []) where
    -- with visits to come
    abbrev between : List (Visit NodeName) → Frame
    between vs = an_event (record u { visiting = None; visits = vs })

    -- an event of the group at its last step, as the group has it
    abbrev shown_last : List (Visit NodeName) → UnderWay
    shown_last vs =
        cancelled_as ((is_secret g u && ((u.stopped || is_empty vs) && is_of g u.by)) || list_any g u.knowing) (seen_event g (record u { visits = vs }) None)

    -- the last step of an event of the group
    ends-own : (vs : List (Visit NodeName)) → is_own_event g u ≡ true → (u.stopped || is_empty vs) ≡ true →
        is_own_step_of g (d.tasks s.documents) (between vs) ≡ true →
        advance d (pushed (between vs) s) ≡ (s, answered u u.by) →
        between_visits e (own_live g view s) (shown_last vs) (filter (is_own_visit g) vs)
        ≡ (own_live g view s, answered (shown_last vs) (group_turn g u.by)) →
        StepAgrees (between vs) s
    ends-own vs k z o left right =
        let w = seen_event g (record u { visits = vs }) None in
        own_event-step (record u { visiting = None; visits = vs }) w s (is_secret g u && ((u.stopped || is_empty vs) && is_of g u.by)) o refl
        (pushed-in g view (between vs) s k)
        (ap (own_run g view) left ∙ ap (λ ls. (own_live g view s, ls)) (answers u w (u.stopped || is_empty vs) z i) ∙ sym right)

    -- of an event of others
    ends-other : (vs : List (Visit NodeName)) → is_own_event g u ≡ false → advance d (pushed (between vs) s) ≡ (s, answered u u.by) → StepAgrees (between vs) s
    ends-other vs k left =
        quietly (between vs) s (ap (λ b. b && is_next_own g u.stopped vs) k) (ap (λ b. if b && (u.stopped && false) then Some was_stopped else None) k)
        (ap (own_run g view) left ∙ ap (λ ls. (own_live g view s, ls)) (unheard u.by (or-left_false (is_of g u.by) (list_any (is_own_node g) u.nodes) k))
        ∙ ap (λ t. (t, [])) (sym (pushed-out g view (between vs) s k)))
      where
        unheard : (by : Option Owner) → is_of g by ≡ false → own_outputs g (answered u by) ≡ []
        unheard None h = refl
        unheard (Some o) h = filter-away (is_own_output g) (written (says o (replied (a_truth (not u.cancelled))))) [] h

    -- nobody is told anything of a visit that begins
    not_ended : (own stop : Bool) → (own && (stop && false)) ≡ false
    not_ended own stop = ap (λ b. own && b) (and-false stop) ∙ and-false own

    -- A visit begins at a node of the group,
    begins-own : (v : Visit NodeName) (vs : List (Visit NodeName)) → is_own_event g u ≡ true → u.stopped ≡ false → is_own_visit g v ≡ true →
        StepAgrees (between (v ∷ vs)) s
    begins-own v vs k z o =
        let t = own_live g view s in
        let w = seen_event g (record u { visits = v ∷ vs }) None in
        let begun = begun_visit d s.documents u.event v in
        let q = is_secret g u && ((u.stopped || false) && is_of g u.by) in
        let silent : q ≡ false = ap (λ b. is_secret g u && ((b || false) && is_of g u.by)) z ∙ and-false (is_secret g u) in
        by_parts (between (v ∷ vs)) s true None (pushed (an_event w) t)
        (ap (λ b. b && (u.stopped || is_own_visit g v)) k ∙ ap (λ b. u.stopped || b) o ∙ or-true u.stopped)
        (cond-false q (Some was_cancelled) None silent)
        (pushed-in g view (between (v ∷ vs)) s k)
        (ap (own_run g view) (cond-false u.stopped (s, answered u u.by) _ z)
        ∙ ap (λ r. (r, [])) (pushed-in g view (an_event (record u { visits = vs; visiting = Some begun })) s k
        ∙ ap (λ x. pushed (an_event x) t) (event-own g (record u { visits = vs }) begun o))
        ∙ ap (λ (p : Part). still (pushed (an_event (record w {
          visits = filter (is_own_visit g) vs;
          visiting = Some (record begun {
            calls = filter (hears name_eq u.event v) p.listeners;
          });
        })) t)) (sym (a.part s.documents v.current.owner o))
        ∙ sym (ap (between_visits e t w) (filter-here (is_own_visit g) v vs o) ∙ cond-false u.stopped (t, answered w w.by) _ z))

    -- or at another's node.
    begins-other : (v : Visit NodeName) (vs : List (Visit NodeName)) → u.stopped ≡ false → is_own_visit g v ≡ false → StepAgrees (between (v ∷ vs)) s
    begins-other v vs z o =
        let begun = begun_visit d s.documents u.event v in
        quietly (between (v ∷ vs)) s
        (ap (λ b. is_own_event g u && (u.stopped || b)) o ∙ ap (λ b. is_own_event g u && (b || false)) z ∙ and-false (is_own_event g u))
        (cond-false (is_own_event g u && (u.stopped && false)) (Some was_stopped) None (not_ended (is_own_event g u) u.stopped))
        (ap (own_run g view) (cond-false u.stopped (s, answered u u.by) _ z)
        ∙ ap (λ fs. (record (own_live g view s) { frames = fs ++ own_frames g s.frames }, []))
        (ap (λ (x : UnderWay). if is_own_event g u then an_event x ∷ [] else [])
        (event-other g (record u { visits = vs }) begun o
        ∙ ap (λ xs. record (hidden_event g u) { visits = xs }) (sym (filter-away (is_own_visit g) v vs o))
        ∙ ap (λ b. record (seen_event g (record u { visits = v ∷ vs }) None) { stopped = b }) (sym z))))

    -- any step between visits
    pub between_visits-agree : (vs : List (Visit NodeName)) → AllByRecursion (IsVisitAt u.nodes) vs → StepAgrees (between vs) s
    between_visits-agree [] h =
        by_cases (is_own_event g u)
        (λ k. ends-own [] k (or-true u.stopped) (ap (λ b. b && true) k) refl refl)
        (λ k. ends-other [] k refl)
    between_visits-agree (v ∷ vs) h =
        by_cases u.stopped
        (λ z. by_cases (is_own_event g u)
        (λ k. ends-own (v ∷ vs) k (ap (λ b. b || false) z) (ap (λ b. b && (u.stopped || is_own_visit g v)) k ∙ ap (λ b. b || is_own_visit g v) z)
        (cond-true u.stopped (s, answered u u.by) _ z) (over (own_live g view s) (shown_last (v ∷ vs)) (filter (is_own_visit g) (v ∷ vs)) z))
        (λ k. ends-other (v ∷ vs) k (cond-true u.stopped (s, answered u u.by) _ z)))
        (λ z. by_cases (is_own_visit g v)
        (λ o. begins-own v vs (by_cases (is_own_event g u) (λ k. k)
        (λ k. absurd (true≢false (sym o ∙ visit-outside g u.nodes v (or-right_false (is_of g u.by) (list_any (is_own_node g) u.nodes) k) h.0)))) z o)
        (λ o. begins-other v vs z o))
