-- What a group hears of its trace: the machine that is told things tells it.
use Rattle.dom_base.proofs.Std.{◌≡◌, ℕ, suc, Bool, true, false, List, [], ◌∷◌, ◌++◌, map, Option, Some, None, sym, ap, ◌∙◌}
use Rattle.dom_base.proofs.Std.{append-nil, append_assoc, map-append, if◌then◌else◌}
use Rattle.dom_live.specs.Lines.{LiveLine, LiveRun, still, and_then, each_then}
use Rattle.dom_live.specs.Documents.{Documents, Live}
use Rattle.dom_live.specs.SmallSteps.{advance}
use Rattle.dom_live.specs.Things.{Thing, own_line, shut_out, LiveTrace, with_thing, with_thing_if, with_step_if, advanced, done, done_if, done_after}
use Rattle.dom_live.specs.Things.{told_run}
use Rattle.dom_live.specs.Programs.{Heard, has_said, was_told}
use Rattle.dom_live.proofs.ToldRuns.{advanced-more, told-thing_if}

-- the line that is said, if a thing is one
abbrev pub said_in : {L : Type 0} → Thing L → List (Heard L)
said_in (own_line l) = has_said l ∷ []
said_in (shut_out l) = has_said l ∷ []
said_in x = []

-- if there is one
abbrev pub said_if : {L : Type 0} → Option (Thing L) → List (Heard L)
said_if None = []
said_if (Some x) = said_in x

module _ {V : Type 0} (d : Documents V) {L : Type 0} (read : L → LiveLine) where
  -- what is told in a run
  abbrev pub told_in : LiveRun (Live V) → List (Heard L)
  told_in r = map was_told r.1

  -- what is heard of the steps before a thing, and of the thing
  abbrev pub thing_heard : Live V → ℕ × Thing L → List (Heard L)
  thing_heard v x = told_in (advanced d x.0 v) ++ (said_in x.1 ++ told_in (done d read (advanced d x.0 v).0 x.1))

  -- of things
  abbrev pub things_heard : Live V → List (ℕ × Thing L) → List (Heard L)
  things_heard v [] = []
  things_heard v (x ∷ xs) = thing_heard v x ++ things_heard (done_after d read v x).0 xs

  -- where they lead
  abbrev pub things_done : Live V → List (ℕ × Thing L) → Live V
  things_done v xs = (each_then (done_after d read) v xs).0

  -- of a trace
  abbrev pub trace_heard : Live V → LiveTrace L → List (Heard L)
  trace_heard v t = things_heard v t.things ++ told_in (advanced d t.steps (things_done v t.things))

  -- one thing more
  more-heard : (xs : List (ℕ × Thing L)) (v : Live V) (x : ℕ × Thing L) →
      things_heard v (xs ++ x ∷ []) ≡ things_heard v xs ++ thing_heard (things_done v xs) x
  more-heard [] v x = append-nil (thing_heard v x)
  more-heard (y ∷ ys) v x =
      ap (λ hs. thing_heard v y ++ hs) (more-heard ys (done_after d read v y).0 x)
      ∙ sym (append_assoc (thing_heard v y) (things_heard (done_after d read v y).0 ys) (thing_heard (things_done v (y ∷ ys)) x))

  module _ (v : Live V) where
    -- at a trace
    heard-thing : (t : LiveTrace L) (x : Thing L) →
        trace_heard v (with_thing t x) ≡ trace_heard v t ++ (said_in x ++ told_in (done d read (told_run d read v t).0 x))
    heard-thing t x =
        append-nil (things_heard v (t.things ++ (t.steps, x) ∷ []))
        ∙ more-heard t.things v (t.steps, x)
        ∙ sym (append_assoc (things_heard v t.things) (told_in (advanced d t.steps (things_done v t.things)))
        (said_in x ++ told_in (done d read (told_run d read v t).0 x)))

    -- if there is one
    pub heard-thing_if : (t : LiveTrace L) (x : Option (Thing L)) →
        trace_heard v (with_thing_if t x) ≡ trace_heard v t ++ (said_if x ++ told_in (done_if d read (told_run d read v t).0 x))
    heard-thing_if t None = sym (append-nil (trace_heard v t))
    heard-thing_if t (Some x) = heard-thing t x

    -- one step more
    heard-step : (t : LiveTrace L) → trace_heard v (record t { steps = suc t.steps }) ≡ trace_heard v t ++ told_in (advance d (told_run d read v t).0)
    heard-step t =
        let end = things_done v t.things in
        ap (λ r. things_heard v t.things ++ told_in r) (advanced-more d t.steps end)
        ∙ ap (λ hs. things_heard v t.things ++ hs) (map-append was_told (advanced d t.steps end).1 (advance d (told_run d read v t).0).1)
        ∙ sym (append_assoc (things_heard v t.things) (told_in (advanced d t.steps end)) (told_in (advance d (told_run d read v t).0)))

    -- if it is an own one
    heard-step_if : (own : Bool) (t : LiveTrace L) → let u = (told_run d read v t).0 in
        trace_heard v (with_step_if own t) ≡ trace_heard v t ++ told_in (if own then advance d u else still u)
    heard-step_if true t = heard-step t
    heard-step_if false t = sym (append-nil (trace_heard v t))

    -- both
    pub heard-both : (own : Bool) (t : LiveTrace L) (x : Option (Thing L)) →
        trace_heard v (with_step_if own (with_thing_if t x))
        ≡ trace_heard v t ++ (said_if x
        ++ told_in (and_then (done_if d read (told_run d read v t).0 x) (λ w. if own then advance d w else still w)))
    heard-both own t x =
        let r = done_if d read (told_run d read v t).0 x in
        let more : Live V → LiveRun (Live V) = λ w. if own then advance d w else still w in
        heard-step_if own (with_thing_if t x)
        ∙ ap (λ (k : LiveRun (Live V)). trace_heard v (with_thing_if t x) ++ told_in (more k.0)) (told-thing_if d read v t x)
        ∙ ap (λ hs. hs ++ told_in (more r.0)) (heard-thing_if t x)
        ∙ append_assoc (trace_heard v t) (said_if x ++ told_in r) (told_in (more r.0))
        ∙ ap (λ hs. trace_heard v t ++ hs) (append_assoc (said_if x) (told_in r) (told_in (more r.0))
        ∙ ap (λ hs. said_if x ++ hs) (sym (map-append was_told r.1 (more r.0).1)))
