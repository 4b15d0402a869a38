-- Runs that push a frame, and runs that are over.
use Rattle.dom_base.proofs.Std.{◌≡◌, List, [], refl, sym, ap, ◌∙◌, subst, Option, None, option_to_list, Result, Ok, Err, OnOk, IfOk}
use Rattle.dom_model.specs.Output.{Output}
use Rattle.dom_model.specs.World.{World}
use Rattle.dom_live.specs.Documents.{Live}
use Rattle.dom_live.specs.Frames as live
use Rattle.dom_live.specs.Lines.{LiveRun, LiveOutput, still}
use Rattle.dom_live.specs.SmallSteps.{pushed}
use Rattle.dom_callbacks.specs.declared.calling.Calling.{Calling}
use Rattle.dom_callbacks.specs.Bare.{bare_frame, bare}
use Rattle.dom_callbacks.specs.Outputs.{lines_in, calls_in}
use Rattle.dom_callbacks.specs.States.{Ran}

-- what holds where there is a result, and what holds of it
both : {X E : Type 0} (r : Result X E) {P : Type 0} {Q R : X → Type 0} → ((x : X) → P → Q x → R x) → OnOk r P → IfOk r Q → IfOk r R
both (Ok x) f p q = f x p q
both (Err e) f p q = tt

-- what holds anyway
pub on-ok : {X E P : Type 0} (r : Result X E) → P → OnOk r P
on-ok (Ok x) p = p
on-ok (Err e) p = tt

-- what a run with a frame pushed leaves
module _ (s now : Live World) (f g : live.Frame) where
  pub pushed-bare : bare s ≡ s → now ≡ pushed f s → f ≡ bare_frame g → now ≡ bare (pushed g s)
  pushed-bare bares n e =
      n ∙ ap (λ h. pushed h s) e ∙ ap (λ (t : Live World). pushed (bare_frame g) t) (sym bares)

module _ {A : Type 0} (adds : A → List Output → A → Type 0) where
  -- a run that is another
  module _ (r q : LiveRun (Live World)) (now : Live World) (a b : A) (k : Option Calling) where
    pub ran-as : r ≡ q → Ran adds q now a b k → Ran adds r now a b k
    ran-as e h = subst (λ (t : LiveRun (Live World)). Ran adds t now a b k) (sym e) h

  -- a run that pushes a frame, and writes these
  module _ (s now : Live World) (f g : live.Frame) (outputs : List LiveOutput) (a b : A) (k : Option Calling) where
    pub ran-pushed : bare s ≡ s → now ≡ pushed f s → f ≡ bare_frame g → adds a (lines_in outputs) b → option_to_list k ≡ calls_in outputs →
        Ran adds (pushed g s, outputs) now a b k
    ran-pushed bares n e told calls = record { state = pushed-bare s now f g bares n e; told = told; call = calls }

  -- and nothing
  module _ (s now : Live World) (f g : live.Frame) (a : A) (k : Option Calling) where
    pub ran-still : bare s ≡ s → now ≡ pushed f s → f ≡ bare_frame g → adds a [] a → k ≡ None → Ran adds (still (pushed g s)) now a a k
    ran-still bares n e told none =
        record { state = pushed-bare s now f g bares n e; told = told; call = ap option_to_list none }

  -- a run that leaves the state
  module _ (s : Live World) (outputs : List LiveOutput) (a b : A) (k : Option Calling) where
    pub ran-over : bare s ≡ s → adds a (lines_in outputs) b → k ≡ None → calls_in outputs ≡ [] → Ran adds (s, outputs) s a b k
    ran-over bares told none calls = record { state = sym bares; told = told; call = ap option_to_list none ∙ sym calls }

  -- a run that writes nothing, whatever it does
  module _ (run : LiveRun (Live World)) (x now : Live World) (a : A) where
    pub ran-moved : bare now ≡ now → run ≡ still x → adds a [] a → now ≡ x → Ran adds run now a a None
    ran-moved bares is told n =
        ran-as run (still x) now a a None is (record { state = sym bares ∙ ap (λ (t : Live World). bare t) n; told = told; call = refl })

  -- a step whose run is another
  module _ {E : Type 0} (r : Result (Option Calling) E) (run other : LiveRun (Live World)) (now : Live World) (a b : A) where
    pub run-same : run ≡ other → IfOk r (λ k. Ran adds other now a b k) → IfOk r (λ k. Ran adds run now a b k)
    run-same e h = both r (λ k same m. ran-as run other now a b k same m) (on-ok r e) h

  module _ {E : Type 0} (r : Result (Option Calling) E) (run : LiveRun (Live World)) (s now : Live World) where
    -- what a step that may fail makes of a run that pushes a frame, and writes nothing
    module _ (f g : live.Frame) (a : A) where
      pub pushed-still : bare s ≡ s → run ≡ still (pushed g s) → f ≡ bare_frame g → adds a [] a → OnOk r (now ≡ pushed f s) →
          IfOk r (λ k. k ≡ None) → IfOk r (λ k. Ran adds run now a a k)
      pushed-still bares is e told state none =
          both r (λ k n m. ran-as run (still (pushed g s)) now a a k is (ran-still s now f g a k bares n e told m)) state none

    -- and of a run that leaves the state
    module _ (outputs : List LiveOutput) (a b : A) where
      pub over : bare s ≡ s → run ≡ (s, outputs) → calls_in outputs ≡ [] → OnOk r (adds a (lines_in outputs) b) → IfOk r (λ k. k ≡ None) →
          IfOk r (λ k. Ran adds run s a b k)
      over bares is calls told none =
          both r (λ k t m. ran-as run (s, outputs) s a b k is (ran-over s outputs a b k bares t m calls)) told none

    -- and of one that writes nothing, whatever it does
    module _ (x : Live World) (a : A) where
      pub moved : bare now ≡ now → run ≡ still x → adds a [] a → OnOk r (now ≡ x) → IfOk r (λ k. k ≡ None) → IfOk r (λ k. Ran adds run now a a k)
      moved bares is told state none =
          both r (λ k n m. subst (λ j. Ran adds run now a a j) (sym m) (ran-moved run x now a bares is told n)) state none
