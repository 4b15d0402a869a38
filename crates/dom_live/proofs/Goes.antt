-- Small steps one after another, and what is left of the stack: that it comes to rest, or goes down to frames below.
use Rattle.dom_base.proofs.Std.{◌≡◌, ℕ, zero, suc, ◌+◌, true, false, List, [], ◌∷◌, map, length, Option, Some, None, refl, sym, ap, ◌∙◌, arith, subst, ◌⊎◌}
use Rattle.dom_base.proofs.Std.{inl, inr, cond-true, cond-false, length-map}
use Rattle.dom_model.proofs.Model.{World, Task}
use Rattle.dom_worlds.proofs.ListLemmas.{by_cases}
use Rattle.dom_live.specs.Lines.{LiveRun, still, and_then}
use Rattle.dom_live.specs.Frames.{UnderWay, Frame, an_event, a_notification, a_microtask, a_checkpoint}
use Rattle.dom_live.specs.Documents.{Live, world_documents}
use Rattle.dom_live.specs.SmallSteps.{advance}
use Rattle.dom_live.specs.Runs.{is_resting, going, gone}

-- the state after one small step
abbrev pub next : Live World → Live World
next s = (advance world_documents s).0

-- after many
abbrev pub after : ℕ → Live World → Live World
after n s = gone world_documents n s

-- where it rests it stays
pub rest-stays : (n : ℕ) (s : Live World) → is_resting s ≡ true → after n s ≡ s
rest-stays zero s h = refl
rest-stays (suc n) s h =
    ap (λ (r : LiveRun (Live World)). r.0)
    (cond-true (is_resting s) (still s) (and_then (advance world_documents s) (going world_documents n)) h)

-- else it goes on
pub goes-on : (n : ℕ) (s : Live World) → is_resting s ≡ false → after (suc n) s ≡ after n (next s)
goes-on n s h =
    ap (λ (r : LiveRun (Live World)). r.0)
    (cond-false (is_resting s) (still s) (and_then (advance world_documents s) (going world_documents n)) h)

-- sums
pub none-more : (n : ℕ) → 0 + n ≡ n
none-more n = omega arith

-- one more
pub one-more : (m n : ℕ) → suc m + n ≡ suc (m + n)
one-more m n = omega arith

-- so many steps, and then more
pub after-more : (m n : ℕ) (s : Live World) → after (m + n) s ≡ after n (after m s)
after-more zero n s = ap (λ k. after k s) (none-more n)
after-more (suc m) n s =
    by_cases (is_resting s)
    (λ h. rest-stays (suc m + n) s h ∙ sym (ap (after n) (rest-stays (suc m) s h) ∙ rest-stays n s h))
    (λ h. ap (λ k. after k s) (one-more m n) ∙ goes-on (m + n) s h ∙ after-more m n (next s) ∙ sym (ap (after n) (goes-on m s h)))

-- what of a frame no step of frames above it changes: all but what an event still has to call
abbrev pub shape : Frame → Option Frame
shape (an_event u) = None
shape f = Some f

-- so many frames, of this kind, are under way, and these tasks wait
pub record IsAt (ts : List Task) (fs : List Frame) (s : Live World) : Type 0 where
  pub frames : map shape s.frames ≡ map shape fs
  pub tasks : s.documents.tasks ≡ ts

-- it rests, or has come to these frames and tasks
abbrev pub Comes : List Task → List Frame → Live World → Type 0
Comes ts fs s = (is_resting s ≡ true) ⊎ IsAt ts fs s

-- it rests, and so it does after more steps
pub rested : {ts : List Task} {fs : List Frame} (n : ℕ) (s : Live World) → is_resting s ≡ true → Comes ts fs (after n s)
rested n s h = inl (ap is_resting (rest-stays n s h) ∙ h)

-- one step
pub one-comes : {ts : List Task} {fs : List Frame} (s : Live World) → (is_resting s ≡ false → IsAt ts fs (next s)) → Comes ts fs (after 1 s)
one-comes {ts} {fs} s f =
    by_cases (is_resting s) (λ h. rested 1 s h) (λ h. inr (subst (IsAt ts fs) (sym (goes-on 0 s h)) (f h)))

-- steps, and then steps whose number the state tells
pub then-comes : {ts us : List Task} {fs gs : List Frame} (m : ℕ) (s : Live World) (k : Live World → ℕ) → Comes ts fs (after m s) →
    ((t : Live World) → IsAt ts fs t → Comes us gs (after (k t) t)) → Comes us gs (after (m + k (after m s)) s)
then-comes {ts} {us} {fs} {gs} m s k c f =
    subst (Comes us gs) (sym (after-more m (k (after m s)) s))
    (elim c [ inl h ↦ rested (k (after m s)) (after m s) h | inr a ↦ f (after m s) a ])

-- as many frames
pub same-length : (fs gs : List Frame) → map shape fs ≡ map shape gs → length fs ≡ length gs
same-length fs gs h = sym (length-map fs shape) ∙ ap length h ∙ length-map gs shape

-- frames of which the innermost is such a one
pub record Begins (s : Live World) (f : Frame) (gs : List Frame) : Type 0 where
  pub around : List Frame
  pub frames : s.frames ≡ f ∷ around
  pub same : map shape around ≡ map shape gs

-- no frame is none
pub at-none : {ts : List Task} {s : Live World} → IsAt ts [] s → s.frames ≡ []
at-none {ts} {s} a = by s.frames a.frames
  where
    by : (xs : List Frame) → map shape xs ≡ [] → xs ≡ []
    by [] h = refl
    by (x ∷ xs) h = cc

-- the innermost, if it is no event, is that very frame
pub begins-so : {ts : List Task} {f : Frame} {gs : List Frame} {s : Live World} → shape f ≡ Some f → IsAt ts (f ∷ gs) s → Begins s f gs
begins-so {ts} {f} {gs} {s} whole a = by s.frames refl (a.frames)
  where
    by : (xs : List Frame) → s.frames ≡ xs → map shape xs ≡ shape f ∷ map shape gs → Begins s f gs
    by [] q h = absurd (clash h)
      where
        clash : map shape [] ≡ shape f ∷ map shape gs → ⊥
        clash h = cc
    by (x ∷ xs) q h = record { around = xs; frames = q ∙ ap (λ y. y ∷ xs) (same x (heads h ∙ whole)); same = tails h }
      where
        heads : shape x ∷ map shape xs ≡ shape f ∷ map shape gs → shape x ≡ shape f
        heads h = cc

        tails : shape x ∷ map shape xs ≡ shape f ∷ map shape gs → map shape xs ≡ map shape gs
        tails h = cc

        same : (x : Frame) → shape x ≡ Some f → x ≡ f
        same (an_event u) h = cc
        same (a_notification n) h = cc
        same (a_microtask o) h = cc
        same (a_checkpoint c) h = cc

-- the innermost frame is an event
pub record HasEvent (s : Live World) (gs : List Frame) : Type 0 where
  pub event : UnderWay
  pub around : List Frame
  pub frames : s.frames ≡ an_event event ∷ around
  pub same : map shape around ≡ map shape gs

-- where one was
pub begins-event : {ts : List Task} {u : UnderWay} {gs : List Frame} {s : Live World} → IsAt ts (an_event u ∷ gs) s → HasEvent s gs
begins-event {ts} {u} {gs} {s} a = by s.frames refl a.frames
  where
    by : (xs : List Frame) → s.frames ≡ xs → map shape xs ≡ None ∷ map shape gs → HasEvent s gs
    by [] q h = absurd (clash h)
      where
        clash : map shape [] ≡ None ∷ map shape gs → ⊥
        clash h = cc
    by (x ∷ xs) q h = of_first x q (heads h)
      where
        heads : shape x ∷ map shape xs ≡ None ∷ map shape gs → shape x ≡ None
        heads h = cc

        tails : shape x ∷ map shape xs ≡ None ∷ map shape gs → map shape xs ≡ map shape gs
        tails h = cc

        of_first : (y : Frame) → s.frames ≡ y ∷ xs → shape y ≡ None → HasEvent s gs
        of_first (an_event e) q k = record { event = e; around = xs; frames = q; same = tails h }
        of_first (a_notification n) q k = cc
        of_first (a_microtask o) q k = cc
        of_first (a_checkpoint c) q k = cc
