-- What a group has of frames, and what the removal of a listener does to it.
use Rattle.dom_base.proofs.Std.{◌≡◌, Bool, true, false, List, [], ◌∷◌, ◌++◌, map, Option, Some, None, option_map}
use Rattle.dom_base.proofs.Std.{refl, sym, ap, ◌∙◌, true≢false, cond-true, cond-false, if◌then◌else◌}
use Rattle.dom_model.proofs.Model.{Owner, NodeName, Word, name_eq, name_eq-true, with_listener_removed}
use Rattle.dom_worlds.proofs.ListLemmas.{by_cases}
use Rattle.dom_live.specs.Frames.{Visiting, Frame, an_event, a_notification, a_microtask, a_checkpoint, without_call, without_calls}
use Rattle.dom_live.specs.Documents.{Live}
use Rattle.dom_live.specs.SmallSteps.{pushed}
use Rattle.dom_live.specs.Groups.{is_own_visit, is_own_event, is_own_frame, own_visiting, own_stopped, own_event, kept_frame, own_frame, own_frames}
use Rattle.dom_live.specs.Groups.{own_live}

module _ (g : Owner → Bool) where
  -- A frame of the group's is kept, as the group has it,
  pub frame-in : (f : Frame) → is_own_frame g f ≡ true → own_frame g f ≡ kept_frame g f ∷ []
  frame-in f h = cond-true (is_own_frame g f) (kept_frame g f ∷ []) [] h

  -- and another one is not.
  pub frame-out : (f : Frame) → is_own_frame g f ≡ false → own_frame g f ≡ []
  frame-out f h = cond-false (is_own_frame g f) (kept_frame g f ∷ []) [] h

  module _ {S V : Type 0} (view : S → V) where
    -- so it is of live documents with one more
    pub pushed-in : (f : Frame) (s : Live S) → is_own_frame g f ≡ true → own_live g view (pushed f s) ≡ pushed (kept_frame g f) (own_live g view s)
    pushed-in f s h = ap (λ fs. record (own_live g view s) { frames = fs ++ own_frames g s.frames }) (frame-in f h)

    -- or with another
    pub pushed-out : (f : Frame) (s : Live S) → is_own_frame g f ≡ false → own_live g view (pushed f s) ≡ own_live g view s
    pushed-out f s h = ap (λ fs. record (own_live g view s) { frames = fs ++ own_frames g s.frames }) (frame-out f h)

  -- Removal: of a listener at a node of the group
  module _ (x : NodeName) (event label : Word) (capture : Bool) where
    -- the calls that are left
    abbrev pub sift : Frame → Frame
    sift f = without_calls x event label capture f

    -- of a visit
    sift-visiting : (m : Option Visiting) → own_visiting g (option_map (without_call x event label capture) m)
        ≡ option_map (without_call x event label capture) (own_visiting g m)
    sift-visiting None = refl
    sift-visiting (Some v) = by_test (is_own_visit g v.visit)
      where
        by_test : (b : Bool) → (if b then Some (without_call x event label capture v) else None)
            ≡ option_map (without_call x event label capture) (if b then Some v else None)
        by_test true = refl
        by_test false = refl

    -- the flag
    sift-stopped : (m : Option Visiting) (b : Bool) → own_stopped g (option_map (without_call x event label capture) m) b ≡ own_stopped g m b
    sift-stopped None b = refl
    sift-stopped (Some v) b = refl

    -- of a frame that is kept, or not
    sift-if : (b : Bool) (f k : Frame) → f ≡ sift k → (if b then f ∷ [] else []) ≡ map sift (if b then k ∷ [] else [])
    sift-if true f k h = ap (λ (x : Frame). x ∷ []) h
    sift-if false f k h = refl

    -- of a frame
    sift-frame : (f : Frame) → own_frame g (sift f) ≡ map sift (own_frame g f)
    sift-frame (an_event u) =
        let wc = without_call x event label capture in
        sift-if (is_own_event g u) (an_event (own_event g (record u { visiting = option_map wc u.visiting }))) (an_event (own_event g u))
        (ap (λ m. an_event (record (own_event g u) { visiting = m; stopped = own_stopped g (option_map wc u.visiting) u.stopped })) (sift-visiting u.visiting)
        ∙ ap (λ b. an_event (record (own_event g u) { visiting = option_map wc (own_visiting g u.visiting); stopped = b }))
        (sift-stopped u.visiting u.stopped))
    sift-frame (a_notification n) = sift-if (g n.owner) (a_notification n) (a_notification n) refl
    sift-frame (a_microtask o) = sift-if (g o) (a_microtask o) (a_microtask o) refl
    sift-frame (a_checkpoint c) = sift-if (is_own_frame g (a_checkpoint c)) (a_checkpoint c) (a_checkpoint c) refl

    -- lists of both
    map-both : (xs ys : List Frame) → map sift (xs ++ ys) ≡ map sift xs ++ map sift ys
    map-both [] ys = refl
    map-both (f ∷ fs) ys = ap (λ zs. sift f ∷ zs) (map-both fs ys)

    -- of all frames
    pub sift-frames : (fs : List Frame) → own_frames g (map sift fs) ≡ map sift (own_frames g fs)
    sift-frames [] = refl
    sift-frames (f ∷ fs) =
        ap (λ xs. xs ++ own_frames g (map sift fs)) (sift-frame f) ∙ ap (λ xs. map sift (own_frame g f) ++ xs) (sift-frames fs)
        ∙ sym (map-both (own_frame g f) (own_frames g fs))

    -- of a listener at another's node, which leaves what the group has: a visit,
    away-visiting : g x.owner ≡ false → (m : Option Visiting) → own_visiting g (option_map (without_call x event label capture) m) ≡ own_visiting g m
    away-visiting h None = refl
    away-visiting h (Some v) =
        by_cases (is_own_visit g v.visit)
        (λ o. let apart : name_eq v.visit.current x ≡ false = by_cases (name_eq v.visit.current x)
        (λ e. absurd (true≢false (sym o ∙ ap (λ (y : NodeName). g y.owner) (name_eq-true v.visit.current x e) ∙ h))) (λ e. e) in
        ap (λ b. if is_own_visit g v.visit then Some (record v { calls = if b then with_listener_removed name_eq x event label capture v.calls else v.calls })
        else None) apart)
        (λ o. cond-false (is_own_visit g v.visit) (Some (without_call x event label capture v)) None o
        ∙ sym (cond-false (is_own_visit g v.visit) (Some v) None o))

    -- a frame,
    away-frame : g x.owner ≡ false → (f : Frame) → own_frame g (sift f) ≡ own_frame g f
    away-frame h (an_event u) =
        ap (λ m. if is_own_event g u then an_event (record (own_event g u) {
          visiting = m;
          stopped = own_stopped g (option_map (without_call x event label capture) u.visiting) u.stopped;
        }) ∷ [] else [])
        (away-visiting h u.visiting)
        ∙ ap (λ b. if is_own_event g u then an_event (record (own_event g u) { stopped = b }) ∷ [] else []) (sift-stopped u.visiting u.stopped)
    away-frame h (a_notification n) = refl
    away-frame h (a_microtask o) = refl
    away-frame h (a_checkpoint c) = refl

    -- and all frames
    pub away-frames : g x.owner ≡ false → (fs : List Frame) → own_frames g (map sift fs) ≡ own_frames g fs
    away-frames h [] = refl
    away-frames h (f ∷ fs) = ap (λ xs. xs ++ own_frames g (map sift fs)) (away-frame h f) ∙ ap (λ xs. own_frame g f ++ xs) (away-frames h fs)
