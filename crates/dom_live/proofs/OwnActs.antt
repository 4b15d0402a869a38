-- What a member's acts, returns and dispatches do to the frames of its group.
use Rattle.dom_base.proofs.Std.{◌≡◌, ℕ, zero, suc, ◌+◌, Bool, true, false, ◌||◌, List, [], ◌∷◌, ◌++◌, filter, length, Option, Some, None, option_map}
use Rattle.dom_base.proofs.Std.{refl, sym, ap, ◌∙◌, true≢false, cond-true, cond-false, if◌then◌else◌, list_any, AllByRecursion, option_to_list}
use Rattle.dom_base.proofs.Std.{nat_lt}
use Rattle.dom_model.proofs.Model.{Owner, owner_eq, owner_eq-true, is_of, Action, group_turn, is_in}
use Rattle.dom_base.proofs.Std.{slice_get, or-true}
use Rattle.dom_worlds.proofs.ListLemmas.{by_cases, all-filter, all-passed}
use Rattle.dom_isolation.proofs.GroupSlots.{filter-here, filter-away}
use Rattle.dom_live.specs.Frames.{Visiting, Frame, an_event, a_notification, a_microtask, a_checkpoint, is_called, is_dispatch_of, returned}
use Rattle.dom_live.specs.Frames.{own_call, returned_visit, event_caller}
use Rattle.dom_live.specs.Machine.{act_in, on_own_call, is_at_limit, is_prevented, max_dispatches}
use Rattle.dom_live.specs.Groups.{is_own_visit, is_own_node, is_own_event, is_own_frame, kept_frame, own_frame, own_frames}
use Rattle.dom_live.specs.Laws.{IsFrame, IsVisitAt, IsAware}
use Rattle.dom_live.proofs.OwnFrames.{frame-in, frame-out}
use Rattle.dom_live.proofs.OwnEvents.{event-own}
use Rattle.dom_live.proofs.OwnCalls.{called-own, called-kept, act-kept, event_with}

module _ (g : Owner → Bool) (o : Owner) (mine : g o ≡ true) where
  -- An act on an own call of a number.
  pub acts-in : (a : Action) (k : ℕ) (fs : List Frame) → AllByRecursion IsFrame fs →
      own_frames g (on_own_call o (act_in o a) k fs) ≡ on_own_call o (act_in o a) k (own_frames g fs)
  acts-in a k [] i = refl
  acts-in a k (f ∷ fs) i =
      by_cases (is_own_frame g f) (λ h. kept k h (λ k. acts-in a k fs i.1)) (λ h. gone k h (λ k. acts-in a k fs i.1))
    where
      change : Frame → Frame
      change = act_in o a

      More : Type 0
      More = (k : ℕ) → own_frames g (on_own_call o change k fs) ≡ on_own_call o change k (own_frames g fs)

      Goal : ℕ → Type 0
      Goal k = own_frames g (on_own_call o change k (f ∷ fs)) ≡ on_own_call o change k (own_frames g (f ∷ fs))

      here : is_own_frame g f ≡ true → (k : ℕ) → on_own_call o change k (own_frames g (f ∷ fs)) ≡ on_own_call o change k (kept_frame g f ∷ own_frames g fs)
      here h k = ap (λ xs. on_own_call o change k (xs ++ own_frames g fs)) (frame-in g f h)

      kept : (k : ℕ) → is_own_frame g f ≡ true → More → Goal k
      kept zero h more =
          by_cases (is_called o f)
          (λ c. ap (own_frames g) (cond-true (is_called o f) (change f ∷ fs) (f ∷ on_own_call o change zero fs) c)
          ∙ ap (λ xs. xs ++ own_frames g fs) (act-kept g o mine a f i.0 c)
          ∙ sym (here h zero ∙ cond-true (is_called o (kept_frame g f)) (change (kept_frame g f) ∷ own_frames g fs)
          (kept_frame g f ∷ on_own_call o change zero (own_frames g fs)) (called-kept g o mine f ∙ c)))
          (λ c. ap (own_frames g) (cond-false (is_called o f) (change f ∷ fs) (f ∷ on_own_call o change zero fs) c)
          ∙ ap (λ xs. xs ++ own_frames g (on_own_call o change zero fs)) (frame-in g f h) ∙ ap (λ xs. kept_frame g f ∷ xs) (more zero)
          ∙ sym (here h zero ∙ cond-false (is_called o (kept_frame g f)) (change (kept_frame g f) ∷ own_frames g fs)
          (kept_frame g f ∷ on_own_call o change zero (own_frames g fs)) (called-kept g o mine f ∙ c)))
      kept (suc k) h more =
          ap (λ xs. xs ++ own_frames g (if is_called o f then on_own_call o change k fs else on_own_call o change (suc k) fs)) (frame-in g f h)
          ∙ ap (λ xs. kept_frame g f ∷ xs) (by_cases (is_called o f)
          (λ c. ap (own_frames g) (cond-true (is_called o f) (on_own_call o change k fs) (on_own_call o change (suc k) fs) c) ∙ more k
          ∙ sym (cond-true (is_called o (kept_frame g f)) (on_own_call o change k (own_frames g fs)) (on_own_call o change (suc k) (own_frames g fs))
          (called-kept g o mine f ∙ c)))
          (λ c. ap (own_frames g) (cond-false (is_called o f) (on_own_call o change k fs) (on_own_call o change (suc k) fs) c) ∙ more (suc k)
          ∙ sym (cond-false (is_called o (kept_frame g f)) (on_own_call o change k (own_frames g fs)) (on_own_call o change (suc k) (own_frames g fs))
          (called-kept g o mine f ∙ c))))
          ∙ sym (here h (suc k))

      away : is_own_frame g f ≡ false → is_called o f ≡ false
      away h = by_cases (is_called o f) (λ c. absurd (true≢false (sym (called-own g o mine f i.0 c) ∙ h))) (λ c. c)

      gone : (k : ℕ) → is_own_frame g f ≡ false → More → Goal k
      gone zero h more =
          ap (own_frames g) (cond-false (is_called o f) (change f ∷ fs) (f ∷ on_own_call o change zero fs) (away h))
          ∙ ap (λ xs. xs ++ own_frames g (on_own_call o change zero fs)) (frame-out g f h) ∙ more zero
          ∙ sym (ap (λ xs. on_own_call o change zero (xs ++ own_frames g fs)) (frame-out g f h))
      gone (suc k) h more =
          ap (λ xs. xs ++ own_frames g (if is_called o f then on_own_call o change k fs else on_own_call o change (suc k) fs)) (frame-out g f h)
          ∙ ap (own_frames g) (cond-false (is_called o f) (on_own_call o change k fs) (on_own_call o change (suc k) fs) (away h)) ∙ more (suc k)
          ∙ sym (ap (λ xs. on_own_call o change (suc k) (xs ++ own_frames g fs)) (frame-out g f h))

  -- Whether the event of an own call is cancelled: the member knows it, if it is.
  in-any : (c : Owner) → g c ≡ true → (ks : List Owner) → is_in owner_eq c ks ≡ true → list_any g ks ≡ true
  in-any c h [] e = absurd (true≢false (sym e))
  in-any c h (k ∷ ks) e =
      by_cases (owner_eq c k)
      (λ m. ap (λ b. b || list_any g ks) (sym (ap g (owner_eq-true c k m)) ∙ h))
      (λ m. ap (λ b. g k || b) (in-any c h ks (sym (ap (λ b. b || is_in owner_eq c ks) m) ∙ e)) ∙ or-true (g k))

  -- in a frame
  prevented-frame : (f : Frame) → IsFrame f → is_called o f ≡ true → is_prevented (Some (kept_frame g f)) ≡ is_prevented (Some f)
  prevented-frame (an_event u) i c = from u.visiting i.aware c
    where
      from : (m : Option Visiting) → IsAware u (event_caller m) → is_of (owner_eq o) (event_caller m) ≡ true → list_any g u.knowing ≡ u.cancelled
      from None k c = absurd (true≢false (sym c))
      from (Some v) k c = called v.called k c
        where
          called : {A : Type 0} (m : Option A) → IsAware u (option_map (λ w. v.visit.current.owner) m) →
              is_of (owner_eq o) (option_map (λ w. v.visit.current.owner) m) ≡ true → list_any g u.knowing ≡ u.cancelled
          called None k c = absurd (true≢false (sym c))
          called (Some w) k c =
              by_cases u.cancelled
              (λ h. in-any v.visit.current.owner (ap g (sym (owner_eq-true o v.visit.current.owner c)) ∙ mine) u.knowing (k h) ∙ sym h)
              (λ h. ap (list_any g) (i.knowing h) ∙ sym h)
  prevented-frame (a_notification n) i c = refl
  prevented-frame (a_microtask x) i c = refl
  prevented-frame (a_checkpoint x) i c = refl

  -- in the frame of a number
  pub prevented-in : (fs : List Frame) → AllByRecursion IsFrame fs → (k : ℕ) →
      is_prevented (option_map (kept_frame g) (own_call o k fs)) ≡ is_prevented (own_call o k fs)
  prevented-in fs i k =
      at (filter (is_called o) fs) (all-filter IsFrame (is_called o) fs i) (all-passed (λ f. is_called o f ≡ true) (is_called o) (λ f h. h) fs) k
    where
      at : (xs : List Frame) → AllByRecursion IsFrame xs → AllByRecursion (λ f. is_called o f ≡ true) xs → (k : ℕ) →
          is_prevented (option_map (kept_frame g) (slice_get xs k)) ≡ is_prevented (slice_get xs k)
      at [] i c k = refl
      at (f ∷ fs) i c zero = prevented-frame f i.0 c.0
      at (f ∷ fs) i c (suc k) = at fs i.1 c.1 k

  -- ---- returns

  -- the frame whose innermost call is a member's
  pub returned-in : (f : Frame) (fs : List Frame) → IsFrame f → is_called o f ≡ true →
      own_frames g (returned f ++ fs) ≡ returned (kept_frame g f) ++ own_frames g fs
  returned-in (an_event u) fs i c = ap (λ xs. xs ++ own_frames g fs) (from u.visiting i.visiting c (called-own g o mine (an_event u) i c))
    where
      from : (m : Option Visiting) → AllByRecursion (λ (v : Visiting). IsVisitAt u.nodes v.visit) (option_to_list m) →
          is_of (owner_eq o) (event_caller m) ≡ true → is_own_event g u ≡ true →
          own_frame g (event_with u (option_map returned_visit m)) ≡ returned (kept_frame g (event_with u m))
      from None k c own = absurd (true≢false (sym c))
      from (Some v) k c own =
          let w = visited v.called c in
          frame-in g (event_with u (Some (returned_visit v))) own ∙ ap (λ x. an_event x ∷ []) (event-own g u (returned_visit v) w)
          ∙ sym (ap (λ x. returned (an_event x)) (event-own g u v w))
        where
          visited : {A : Type 0} (c : Option A) → is_of (owner_eq o) (option_map (λ w. v.visit.current.owner) c) ≡ true → is_own_visit g v.visit ≡ true
          visited None h = absurd (true≢false (sym h))
          visited (Some w) h = ap g (sym (owner_eq-true o v.visit.current.owner h)) ∙ mine
  returned-in (a_notification n) fs i c =
      ap (λ xs. xs ++ own_frames g fs) (frame-in g (a_notification (record n { called = None })) (called-own g o mine (a_notification n) i c))
  returned-in (a_microtask x) fs i c = refl
  returned-in (a_checkpoint x) fs i c = absurd (true≢false (sym c))

  -- ---- limits

  -- an event that a member dispatched is the group's
  dispatch-own : (f : Frame) → is_dispatch_of o f ≡ true → is_own_frame g f ≡ true
  dispatch-own (an_event u) h = from u.by h
    where
      from : (m : Option Owner) → is_of (owner_eq o) m ≡ true → (is_of g m || list_any (is_own_node g) u.nodes) ≡ true
      from None h = absurd (true≢false (sym h))
      from (Some x) h = ap (λ b. b || list_any (is_own_node g) u.nodes) (ap g (sym (owner_eq-true o x h)) ∙ mine)
  dispatch-own (a_notification n) h = absurd (true≢false (sym h))
  dispatch-own (a_microtask x) h = absurd (true≢false (sym h))
  dispatch-own (a_checkpoint x) h = absurd (true≢false (sym h))

  -- and it is there as the group has it
  dispatch-kept : (f : Frame) → is_dispatch_of o (kept_frame g f) ≡ is_dispatch_of o f
  dispatch-kept (an_event u) = from u.by
    where
      from : (m : Option Owner) → is_of (owner_eq o) (group_turn g m) ≡ is_of (owner_eq o) m
      from None = refl
      from (Some x) =
          by_cases (g x)
          (λ h. ap (λ b. is_of (owner_eq o) (if b then Some x else None)) h)
          (λ h. ap (λ b. is_of (owner_eq o) (if b then Some x else None)) h ∙ sym (by_cases (owner_eq o x)
          (λ e. absurd (true≢false (sym mine ∙ ap g (owner_eq-true o x e) ∙ h))) (λ e. e)))
  dispatch-kept (a_notification n) = refl
  dispatch-kept (a_microtask x) = refl
  dispatch-kept (a_checkpoint x) = refl

  -- how many there are
  dispatches-in : (fs : List Frame) → length (filter (is_dispatch_of o) (own_frames g fs)) ≡ length (filter (is_dispatch_of o) fs)
  dispatches-in [] = refl
  dispatches-in (f ∷ fs) =
      by_cases (is_own_frame g f)
      (λ h. ap (λ xs. length (filter (is_dispatch_of o) (xs ++ own_frames g fs))) (frame-in g f h)
      ∙ by_cases (is_dispatch_of o f)
      (λ c. ap length (filter-here (is_dispatch_of o) (kept_frame g f) (own_frames g fs) (dispatch-kept f ∙ c)) ∙ ap suc (dispatches-in fs)
      ∙ ap length (sym (filter-here (is_dispatch_of o) f fs c)))
      (λ c. ap length (filter-away (is_dispatch_of o) (kept_frame g f) (own_frames g fs) (dispatch-kept f ∙ c)) ∙ dispatches-in fs
      ∙ ap length (sym (filter-away (is_dispatch_of o) f fs c))))
      (λ h. ap (λ xs. length (filter (is_dispatch_of o) (xs ++ own_frames g fs))) (frame-out g f h) ∙ dispatches-in fs
      ∙ ap length (sym (filter-away (is_dispatch_of o) f fs (by_cases (is_dispatch_of o f) (λ c. absurd (true≢false (sym (dispatch-own f c) ∙ h))) (λ c. c)))))

  -- so a member is at its limit alike
  pub limit-in : (fs : List Frame) → is_at_limit o (own_frames g fs) ≡ is_at_limit o fs
  limit-in fs = ap (λ n. nat_lt max_dispatches (n + 1)) (dispatches-in fs)
