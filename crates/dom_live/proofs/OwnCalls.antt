-- The calls and dispatches of a member, in the frames of its group.
use Rattle.dom_base.proofs.Std.{◌≡◌, ℕ, zero, suc, Bool, true, false, ◌||◌, List, [], ◌∷◌, ◌++◌, filter, map, Option, Some, None, option_map}
use Rattle.dom_base.proofs.Std.{refl, sym, ap, ◌∙◌, true≢false, cond-true, cond-false, if◌then◌else◌, list_any, AllByRecursion, option_to_list}
use Rattle.dom_base.proofs.Std.{slice_get, slice_get-map, slice_get-map}
use Rattle.dom_model.proofs.Model.{Owner, owner_eq, owner_eq-true, is_of, Action}
use Rattle.dom_worlds.proofs.ListLemmas.{by_cases}
use Rattle.dom_isolation.proofs.GroupSlots.{filter-here, filter-away}
use Rattle.dom_live.specs.Frames.{Visiting, UnderWay, Frame, an_event, a_notification, a_microtask, a_checkpoint, event_caller, is_called}
use Rattle.dom_live.specs.Frames.{own_call, returned, acted, returned_visit}
use Rattle.dom_live.specs.Machine.{act_in, on_own_call, act_refusal, caller_may_cancel}
use Rattle.dom_live.specs.Groups.{is_own_visit, is_own_node, is_own_event, is_own_frame, own_visiting, kept_frame, own_frame, own_frames}
use Rattle.dom_live.specs.Laws.{IsFrame, IsVisitAt}
use Rattle.dom_live.proofs.OwnFrames.{frame-in, frame-out}
use Rattle.dom_live.proofs.VisitSteps.{status-acted}
use Rattle.dom_live.proofs.OwnEvents.{event-own, visit-outside, acted-own, acted-hidden, frame-hidden, same-hidden}

-- another part of a test
or-right_is : (a b : Bool) → (a || b) ≡ false → b ≡ false
or-right_is true b h = absurd (true≢false h)
or-right_is false b h = h

-- by an event in a visit, or in none
abbrev pub event_with : UnderWay → Option Visiting → Frame
event_with u m = an_event (record u { visiting = m })

module _ (g : Owner → Bool) where
  -- an event that visits a node of the group is the group's
  pub visit-inside : (u : UnderWay) (v : Visiting) → is_own_visit g v.visit ≡ true → IsVisitAt u.nodes v.visit → is_own_event g u ≡ true
  visit-inside u v o h =
      by_cases (is_own_event g u) (λ k. k)
      (λ k. absurd (true≢false (sym o ∙ visit-outside g u.nodes v.visit (or-right_is (is_of g u.by) (list_any (is_own_node g) u.nodes) k) h)))

  module _ (o : Owner) (mine : g o ≡ true) where
    -- a member who is called is called in a frame of the group,
    pub called-own : (f : Frame) → IsFrame f → is_called o f ≡ true → is_own_frame g f ≡ true
    called-own (an_event u) i h = from u.visiting i.visiting h
      where
        from : (m : Option Visiting) → AllByRecursion (λ (v : Visiting). IsVisitAt u.nodes v.visit) (option_to_list m) →
            is_of (owner_eq o) (event_caller m) ≡ true → is_own_event g u ≡ true
        from None k h = absurd (true≢false (sym h))
        from (Some v) k h = visit-inside u v (visited v.called h) k.0
          where
            visited : {A : Type 0} (c : Option A) → is_of (owner_eq o) (option_map (λ w. v.visit.current.owner) c) ≡ true → is_own_visit g v.visit ≡ true
            visited None h = absurd (true≢false (sym h))
            visited (Some w) h = ap g (sym (owner_eq-true o v.visit.current.owner h)) ∙ mine
    called-own (a_notification n) i h = from n.called h
      where
        from : (c : Option ℕ) → is_of (owner_eq o) (option_map (λ k. n.owner) c) ≡ true → g n.owner ≡ true
        from None h = absurd (true≢false (sym h))
        from (Some k) h = ap g (sym (owner_eq-true o n.owner h)) ∙ mine
    called-own (a_microtask c) i h = ap g (sym (owner_eq-true o c h)) ∙ mine
    called-own (a_checkpoint c) i h = absurd (true≢false (sym h))

    -- and there as the group has it
    pub called-kept : (f : Frame) → is_called o (kept_frame g f) ≡ is_called o f
    called-kept (an_event u) = from u.visiting
      where
        from : (m : Option Visiting) → is_of (owner_eq o) (event_caller (own_visiting g m)) ≡ is_of (owner_eq o) (event_caller m)
        from None = refl
        from (Some v) =
            by_cases (is_own_visit g v.visit)
            (λ h. ap (λ b. is_of (owner_eq o) (event_caller (if b then Some v else None))) h)
            (λ h. ap (λ b. is_of (owner_eq o) (event_caller (if b then Some v else None))) h ∙ sym (other v.called h))
          where
            other : {A : Type 0} (c : Option A) → is_own_visit g v.visit ≡ false → is_of (owner_eq o) (option_map (λ w. v.visit.current.owner) c) ≡ false
            other None h = refl
            other (Some w) h =
                by_cases (owner_eq o v.visit.current.owner)
                (λ e. absurd (true≢false (sym mine ∙ ap g (owner_eq-true o v.visit.current.owner e) ∙ h))) (λ e. e)
    called-kept (a_notification n) = refl
    called-kept (a_microtask c) = refl
    called-kept (a_checkpoint c) = refl

    -- the frames in which it is called
    pub called-frames : (fs : List Frame) → AllByRecursion IsFrame fs →
        filter (is_called o) (own_frames g fs) ≡ map (kept_frame g) (filter (is_called o) fs)
    called-frames [] i = refl
    called-frames (f ∷ fs) i =
        by_cases (is_own_frame g f)
        (λ h. ap (λ xs. filter (is_called o) (xs ++ own_frames g fs)) (frame-in g f h)
        ∙ by_cases (is_called o f)
        (λ c. filter-here (is_called o) (kept_frame g f) (own_frames g fs) (called-kept f ∙ c) ∙ ap (λ xs. kept_frame g f ∷ xs) (called-frames fs i.1)
        ∙ ap (map (kept_frame g)) (sym (filter-here (is_called o) f fs c)))
        (λ c. filter-away (is_called o) (kept_frame g f) (own_frames g fs) (called-kept f ∙ c) ∙ called-frames fs i.1
        ∙ ap (map (kept_frame g)) (sym (filter-away (is_called o) f fs c))))
        (λ h. ap (λ xs. filter (is_called o) (xs ++ own_frames g fs)) (frame-out g f h) ∙ called-frames fs i.1
        ∙ ap (map (kept_frame g)) (sym (filter-away (is_called o) f fs (by_cases (is_called o f)
        (λ c. absurd (true≢false (sym (called-own f i.0 c) ∙ h))) (λ c. c)))))

    -- its own calls
    pub own_call-in : (fs : List Frame) → AllByRecursion IsFrame fs → (k : ℕ) → own_call o k (own_frames g fs) ≡ option_map (kept_frame g) (own_call o k fs)
    own_call-in fs i k = ap (λ xs. slice_get xs k) (called-frames fs i) ∙ slice_get-map (kept_frame g) (filter (is_called o) fs) k

    -- why an act is refused
    pub act_refusal-in : (f : Option Frame) → act_refusal (option_map (kept_frame g) f) ≡ act_refusal f
    act_refusal-in None = refl
    act_refusal-in (Some (an_event u)) = refl
    act_refusal-in (Some (a_notification n)) = refl
    act_refusal-in (Some (a_microtask c)) = refl
    act_refusal-in (Some (a_checkpoint c)) = refl

    -- an act of a member
    pub act-kept : (a : Action) (f : Frame) → IsFrame f → is_called o f ≡ true → own_frame g (act_in o a f) ≡ act_in o a (kept_frame g f) ∷ []
    act-kept a (an_event u) i h = from u.visiting i.visiting h (called-own (an_event u) i h)
      where
        from : (m : Option Visiting) → AllByRecursion (λ (v : Visiting). IsVisitAt u.nodes v.visit) (option_to_list m) →
            is_of (owner_eq o) (event_caller m) ≡ true → is_own_event g u ≡ true →
            own_frame g (act_in o a (event_with u m)) ≡ act_in o a (kept_frame g (event_with u m)) ∷ []
        from None k h own = absurd (true≢false (sym h))
        from (Some v) k h own =
            let may = caller_may_cancel u.event (Some v) in
            let w = by_cases (is_own_visit g v.visit) (λ e. e) (λ e. absurd (true≢false (sym h ∙ other v.called e))) in
            frame-in g (an_event (acted o may a (record u { visiting = Some v }))) (status-acted g o may a (record u { visiting = Some v }) ∙ own)
            ∙ ap (λ x. an_event x ∷ []) (acted-own g u v o mine w may a)
            ∙ ap (λ x. act_in o a (an_event x) ∷ []) (sym (event-own g u v w))
          where
            other : {A : Type 0} (c : Option A) → is_own_visit g v.visit ≡ false → is_of (owner_eq o) (option_map (λ w. v.visit.current.owner) c) ≡ false
            other None h = refl
            other (Some w) h =
                by_cases (owner_eq o v.visit.current.owner)
                (λ e. absurd (true≢false (sym mine ∙ ap g (owner_eq-true o v.visit.current.owner e) ∙ h))) (λ e. e)
    act-kept a (a_notification n) i h = frame-in g (a_notification n) (called-own (a_notification n) i h)
    act-kept a (a_microtask c) i h = frame-in g (a_microtask c) (called-own (a_microtask c) i h)
    act-kept a (a_checkpoint c) i h = absurd (true≢false (sym h))

  -- An act of another leaves what the group has.
  pub act-hidden : (o : Owner) → g o ≡ false → (a : Action) (f : Frame) → is_called o f ≡ true → own_frame g (act_in o a f) ≡ own_frame g f
  act-hidden o h a (an_event u) c = from u.visiting c
    where
      from : (m : Option Visiting) → is_of (owner_eq o) (event_caller m) ≡ true → own_frame g (act_in o a (event_with u m)) ≡ own_frame g (event_with u m)
      from None c = absurd (true≢false (sym c))
      from (Some v) c = let f = visited v.called c in acted-hidden g u v v o h f f (caller_may_cancel u.event (Some v)) a
        where
          visited : {A : Type 0} (c : Option A) → is_of (owner_eq o) (option_map (λ w. v.visit.current.owner) c) ≡ true → is_own_visit g v.visit ≡ false
          visited None h = absurd (true≢false (sym h))
          visited (Some w) k = ap g (sym (owner_eq-true o v.visit.current.owner k)) ∙ h
  act-hidden o h a (a_notification n) c = refl
  act-hidden o h a (a_microtask x) c = refl
  act-hidden o h a (a_checkpoint x) c = refl

  -- on its call of a number
  pub acts-hidden : (o : Owner) → g o ≡ false → (a : Action) (k : ℕ) (fs : List Frame) → own_frames g (on_own_call o (act_in o a) k fs) ≡ own_frames g fs
  acts-hidden o h a k [] = refl
  acts-hidden o h a zero (f ∷ fs) =
      by_cases (is_called o f)
      (λ c. ap (own_frames g) (cond-true (is_called o f) (act_in o a f ∷ fs) (f ∷ on_own_call o (act_in o a) zero fs) c)
      ∙ ap (λ xs. xs ++ own_frames g fs) (act-hidden o h a f c))
      (λ c. ap (own_frames g) (cond-false (is_called o f) (act_in o a f ∷ fs) (f ∷ on_own_call o (act_in o a) zero fs) c)
      ∙ ap (λ xs. own_frame g f ++ xs) (acts-hidden o h a zero fs))
  acts-hidden o h a (suc k) (f ∷ fs) =
      by_cases (is_called o f)
      (λ c. ap (λ xs. own_frame g f ++ own_frames g xs) (cond-true (is_called o f) (on_own_call o (act_in o a) k fs) (on_own_call o (act_in o a) (suc k) fs) c)
      ∙ ap (λ xs. own_frame g f ++ xs) (acts-hidden o h a k fs))
      (λ c. ap (λ xs. own_frame g f ++ own_frames g xs) (cond-false (is_called o f) (on_own_call o (act_in o a) k fs) (on_own_call o (act_in o a) (suc k) fs) c)
      ∙ ap (λ xs. own_frame g f ++ xs) (acts-hidden o h a (suc k) fs))

  -- the return of another
  pub returned-hidden : (o : Owner) → g o ≡ false → (f : Frame) (fs : List Frame) → is_called o f ≡ true →
      own_frames g (returned f ++ fs) ≡ own_frames g (f ∷ fs)
  returned-hidden o h (an_event u) fs c = ap (λ xs. xs ++ own_frames g fs) (from u.visiting c)
    where
      from : (m : Option Visiting) → is_of (owner_eq o) (event_caller m) ≡ true →
          own_frame g (event_with u (option_map returned_visit m)) ≡ own_frame g (event_with u m)
      from None c = refl
      from (Some v) c = let f = visited v.called c in frame-hidden g u u (returned_visit v) v (same-hidden g u) f f
        where
          visited : {A : Type 0} (c : Option A) → is_of (owner_eq o) (option_map (λ w. v.visit.current.owner) c) ≡ true → is_own_visit g v.visit ≡ false
          visited None h = absurd (true≢false (sym h))
          visited (Some w) k = ap g (sym (owner_eq-true o v.visit.current.owner k)) ∙ h
  returned-hidden o h (a_notification n) fs c = ap (λ xs. xs ++ own_frames g fs) (either_if (g n.owner) n.called c)
    where
      either_if : (b : Bool) (m : Option ℕ) → is_of (owner_eq o) (option_map (λ k. n.owner) m) ≡ true →
          (if g n.owner then a_notification (record n { called = None }) ∷ [] else []) ≡ (if g n.owner then a_notification n ∷ [] else [])
      either_if b None c = absurd (true≢false (sym c))
      either_if b (Some k) c =
          let f = ap g (sym (owner_eq-true o n.owner c)) ∙ h in
          cond-false (g n.owner) (a_notification (record n { called = None }) ∷ []) [] f ∙ sym (cond-false (g n.owner) (a_notification n ∷ []) [] f)
  returned-hidden o h (a_microtask x) fs c =
      ap (λ xs. xs ++ own_frames g fs) (sym (frame-out g (a_microtask x) (ap g (sym (owner_eq-true o x c)) ∙ h)))
  returned-hidden o h (a_checkpoint x) fs c = absurd (true≢false (sym c))
