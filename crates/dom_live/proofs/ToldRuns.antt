-- The machine that is told things: what it does when it is told one thing more, or one step more.
use Rattle.dom_base.proofs.Std.{◌≡◌, ℕ, zero, suc, Bool, true, false, List, [], ◌∷◌, ◌++◌, Option, Some, None, refl, sym, ap, ◌∙◌, append_assoc, append-nil}
use Rattle.dom_base.proofs.Std.{if◌then◌else◌}
use Rattle.dom_live.specs.Lines.{LiveLine, LiveRun, still, and_then, each_then}
use Rattle.dom_live.specs.Documents.{Documents, Live}
use Rattle.dom_live.specs.SmallSteps.{advance}
use Rattle.dom_live.specs.Things.{Thing, LiveTrace, no_things, with_thing, with_thing_if, with_step_if, advanced, done, done_if, done_after, told_run}

module _ {S : Type 0} where
  -- a run, another, and a third
  pub then-then : (r : LiveRun S) (f h : S → LiveRun S) → and_then (and_then r f) h ≡ and_then r (λ t. and_then (f t) h)
  then-then r f h = ap (λ ls. ((h (f r.0).0).0, ls)) (append_assoc r.1 (f r.0).1 (h (f r.0).0).1)

  -- a run, and nothing more
  pub then-still : (r : LiveRun S) → and_then r (λ t. still t) ≡ r
  then-still r = ap (λ ls. (r.0, ls)) (append-nil r.1)

  -- one item more
  pub each-more : {A : Type 0} (f : S → A → LiveRun S) (s : S) (xs : List A) (x : A) →
      each_then f s (xs ++ x ∷ []) ≡ and_then (each_then f s xs) (λ t. f t x)
  each-more f s [] x = then-still (f s x)
  each-more f s (y ∷ ys) x =
      ap (λ (r : LiveRun S). (r.0, (f s y).1 ++ r.1)) (each-more f (f s y).0 ys x)
      ∙ sym (then-then (f s y) (λ t. each_then f t ys) (λ t. f t x))

module _ {S : Type 0} (d : Documents S) where
  -- one step more
  pub advanced-more : (n : ℕ) (s : Live S) → advanced d (suc n) s ≡ and_then (advanced d n s) (advance d)
  advanced-more zero s = then-still (advance d s)
  advanced-more (suc n) s =
      ap (λ (r : LiveRun (Live S)). (r.0, (advance d s).1 ++ r.1)) (advanced-more n (advance d s).0)
      ∙ sym (then-then (advance d s) (advanced d n) (advance d))

  module _ {L : Type 0} (read : L → LiveLine) (s : Live S) where
    -- an own step more
    told-step : (t : LiveTrace L) → told_run d read s (record t { steps = suc t.steps }) ≡ and_then (told_run d read s t) (advance d)
    told-step t =
        ap (λ (r : LiveRun (Live S)). (r.0, (each_then (done_after d read) s t.things).1 ++ r.1))
        (advanced-more t.steps (each_then (done_after d read) s t.things).0)
        ∙ sym (then-then (each_then (done_after d read) s t.things) (advanced d t.steps) (advance d))

    -- a thing more
    pub told-thing : (t : LiveTrace L) (x : Thing L) → told_run d read s (with_thing t x) ≡ and_then (told_run d read s t) (λ u. done d read u x)
    told-thing t x =
        then-still (each_then (done_after d read) s (t.things ++ (t.steps, x) ∷ []))
        ∙ each-more (done_after d read) s t.things (t.steps, x)
        ∙ sym (then-then (each_then (done_after d read) s t.things) (advanced d t.steps) (λ u. done d read u x))

    -- a thing more, if there is one
    pub told-thing_if : (t : LiveTrace L) (x : Option (Thing L)) →
        told_run d read s (with_thing_if t x) ≡ and_then (told_run d read s t) (λ u. done_if d read u x)
    told-thing_if t None = sym (then-still (told_run d read s t))
    told-thing_if t (Some x) = told-thing t x

    -- a step more, if it is an own one
    told-step_if : (own : Bool) (t : LiveTrace L) →
        told_run d read s (with_step_if own t) ≡ and_then (told_run d read s t) (λ u. if own then advance d u else still u)
    told-step_if true t = told-step t
    told-step_if false t = sym (then-still (told_run d read s t))

    -- both
    pub told-both : (own : Bool) (t : LiveTrace L) (x : Option (Thing L)) →
        told_run d read s (with_step_if own (with_thing_if t x))
        ≡ and_then (told_run d read s t) (λ u. and_then (done_if d read u x) (λ v. if own then advance d v else still v))
    told-both own t x =
        told-step_if own (with_thing_if t x)
        ∙ ap (λ r. and_then r (λ v. if own then advance d v else still v)) (told-thing_if t x)
        ∙ then-then (told_run d read s t) (λ u. done_if d read u x) (λ v. if own then advance d v else still v)

    -- nothing is told
    pub told-none : told_run d read s no_things ≡ still s
    told-none = refl
