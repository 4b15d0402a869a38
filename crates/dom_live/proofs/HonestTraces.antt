-- What a trace tells, and no more.
use Rattle.dom_base.proofs.Std.{◌≡◌, ℕ, zero, suc, ◌+◌, Bool, true, false, List, []}
use Rattle.dom_base.proofs.Std.{◌∷◌, ◌++◌, filter, flat_map, fold, Option, Some, None, option_to_list, refl, sym}
use Rattle.dom_base.proofs.Std.{ap, ◌∙◌, arith, append-nil, append_assoc, cond-true, cond-false, if◌then◌else◌, flat_map-append}
use Rattle.dom_model.proofs.Model.{Owner, World, is_of, first_world, OutwardEvent}
use Rattle.dom_worlds.proofs.ListLemmas.{by_cases}
use Rattle.dom_live.specs.Lines.{LiveLine}
use Rattle.dom_live.specs.Documents.{Live, at_rest, world_documents}
use Rattle.dom_live.specs.SmallSteps.{advance}
use Rattle.dom_live.specs.Runs.{is_resting, frames_left}
use Rattle.dom_live.specs.Machine.{taken, ending, live_step}
use Rattle.dom_live.specs.Groups.{is_own_step}
use Rattle.dom_live.specs.Things.{Thing, own_line, shut_out, sent_out, was_stopped, was_cancelled, was_run, input_over, LiveTrace, no_things, with_thing}
use Rattle.dom_live.specs.Things.{with_thing_if, with_step_if, told_next, step_traced, steps_traced, run_traced, is_shut_out, owner_said, out_thing, goes_out}
use Rattle.dom_live.specs.Things.{line_thing, line_traced, lines_traced, whole_trace}
use Rattle.dom_live.specs.Honesty.{line_in, event_in, steps_in, sent_from, own_steps, own_steps_from}
use Rattle.dom_live.specs.Honesty.{TellsOwnLines, TellsOutwardEvents, CountsOwnSteps}
use Rattle.dom_live.proofs.GivenLines.{same-things}
use Rattle.dom_live.proofs.OwnThings.{IsOwnKind, own-kind}

-- ---- what is read off the things of a trace

module _ {L A : Type 0} (get : Thing L → List A) where
  -- of all of them
  abbrev got : LiveTrace L → List A
  got t = flat_map (λ (x : ℕ × Thing L). get x.1) t.things

  -- of a thing, if there is one
  abbrev got_if : Option (Thing L) → List A
  got_if None = []
  got_if (Some x) = get x

  -- a thing more
  got-thing : (t : LiveTrace L) (x : Option (Thing L)) → got (with_thing_if t x) ≡ got t ++ got_if x
  got-thing t None = sym (append-nil (got t))
  got-thing t (Some x) =
      flat_map-append (λ (x : ℕ × Thing L). get x.1) t.things ((t.steps, x) ∷ []) ∙ ap (λ ys. got t ++ ys) (append-nil (get x))

  -- Small steps add nothing, if what they tell has nothing.
  module _ (g : Owner → Bool) (nothing : (s : Live World) → got_if (told_next g s s.frames) ≡ []) where
    -- so many
    got-steps : (n : ℕ) (s : Live World) (t : LiveTrace L) → got (steps_traced g n s t) ≡ got t
    got-steps zero s t = refl
    got-steps (suc n) s t =
        by_cases (is_resting s)
        (λ k. ap got (cond-true (is_resting s) t later k))
        (λ k. ap got (cond-false (is_resting s) t later k)
        ∙ got-steps n (advance world_documents s).0 (step_traced g s t)
        ∙ ap (flat_map (λ (x : ℕ × Thing L). get x.1)) (same-things (is_own_step g s.documents.tasks s.frames) (with_thing_if t (told_next g s s.frames)))
        ∙ got-thing t (told_next g s s.frames) ∙ ap (λ ys. got t ++ ys) (nothing s) ∙ append-nil (got t))
      where
        later : LiveTrace L
        later = steps_traced g n (advance world_documents s).0 (step_traced g s t)

    module _ (read : L → LiveLine) where
      -- what lines tell, from live documents on
      abbrev got_from : Live World → List L → List A
      got_from s [] = []
      got_from s (l ∷ ls) = got_if (line_thing g read s l) ++ got_from (live_step world_documents s (read l)).0 ls

      -- of a script
      got-lines : (ls : List L) (s : Live World) (t : LiveTrace L) → got (fold (line_traced g read) (s, t) ls).1 ≡ got t ++ got_from s ls
      got-lines [] s t = sym (append-nil (got t))
      got-lines (l ∷ ls) s t =
          let r = taken world_documents s (read l) in
          let x = line_thing g read s l in
          let rest = got_from (live_step world_documents s (read l)).0 ls in
          got-lines ls (live_step world_documents s (read l)).0 (line_traced g read (s, t) l).1
          ∙ ap (λ ys. ys ++ rest) (got-steps (frames_left world_documents r.0.frames r.0) r.0 (with_thing_if t x) ∙ got-thing t x)
          ∙ append_assoc (got t) (got_if x) rest

      -- and its end
      got-whole : get input_over ≡ [] → (ls : List L) → got (whole_trace g read ls) ≡ got_from (at_rest first_world) ls
      got-whole h ls =
          let k = lines_traced g read ls in
          got-steps (frames_left world_documents (ending k.0).frames (ending k.0)) (ending k.0) (with_thing k.1 input_over)
          ∙ got-thing k.1 (Some input_over) ∙ ap (λ ys. got k.1 ++ ys) h ∙ append-nil (got k.1) ∙ got-lines ls (at_rest first_world) no_things

module _ {L : Type 0} (read : L → LiveLine) (g : Owner → Bool) where
  -- ---- lines

  -- what a small step tells has none
  no-line : (s : Live World) → got_if {L = L} line_in (told_next g s s.frames) ≡ []
  no-line s = by (told_next g s s.frames) (own-kind L g s s.frames)
    where
      by : (m : Option (Thing L)) → IsOwnKind m → got_if line_in m ≡ []
      by None h = refl
      by (Some (own_line l)) h = absurd h
      by (Some (shut_out l)) h = absurd h
      by (Some (sent_out e)) h = absurd h
      by (Some was_stopped) h = refl
      by (Some was_cancelled) h = refl
      by (Some was_run) h = refl
      by (Some input_over) h = refl

  -- what lines tell are the group's own
  own-lines : (ls : List L) (s : Live World) → got_from line_in g no-line read s ls ≡ filter (λ l. is_of g (owner_said (read l))) ls
  own-lines [] s = refl
  own-lines (l ∷ ls) s =
      ap (λ ys. got_if line_in (line_thing g read s l) ++ ys) (own-lines ls (live_step world_documents s (read l)).0)
      ∙ by (is_of g (owner_said (read l))) (is_shut_out g read s (read l)) (goes_out g read s (read l)) (filter (λ l. is_of g (owner_said (read l))) ls)
    where
      by : (own out : Bool) (e : Option OutwardEvent) (rest : List L) →
          got_if line_in (if own then Some (if out then shut_out l else own_line l) else out_thing g read e) ++ rest ≡ (if own then l ∷ rest else rest)
      by true true e rest = refl
      by true false e rest = refl
      by false out None rest = refl
      by false out (Some e) rest = refl

  -- the law
  pub tells-own_lines : TellsOwnLines read g
  tells-own_lines ls = got-whole line_in g no-line read refl ls ∙ own-lines ls (at_rest first_world)

  -- ---- outward events

  -- what a small step tells has none
  no-event : (s : Live World) → got_if {L = L} event_in (told_next g s s.frames) ≡ []
  no-event s = by (told_next g s s.frames) (own-kind L g s s.frames)
    where
      by : (m : Option (Thing L)) → IsOwnKind m → got_if event_in m ≡ []
      by None h = refl
      by (Some (own_line l)) h = absurd h
      by (Some (shut_out l)) h = absurd h
      by (Some (sent_out e)) h = absurd h
      by (Some was_stopped) h = refl
      by (Some was_cancelled) h = refl
      by (Some was_run) h = refl
      by (Some input_over) h = refl

  -- what lines tell are those of dispatches
  sent-lines : (ls : List L) (s : Live World) → got_from event_in g no-event read s ls ≡ sent_from read g s ls
  sent-lines [] s = refl
  sent-lines (l ∷ ls) s =
      ap (λ ys. got_if event_in (line_thing g read s l) ++ ys) (sent-lines ls (live_step world_documents s (read l)).0)
      ∙ ap (λ xs. xs ++ sent_from read g (live_step world_documents s (read l)).0 ls)
      (by (is_of g (owner_said (read l))) (is_shut_out g read s (read l)) (goes_out g read s (read l)))
    where
      by : (own out : Bool) (e : Option OutwardEvent) →
          got_if event_in (if own then Some (if out then shut_out l else own_line l) else out_thing g read e) ≡ (if own then [] else option_to_list e)
      by true true e = refl
      by true false e = refl
      by false out None = refl
      by false out (Some e) = refl

  -- the law
  pub tells-outward_events : TellsOutwardEvents read g
  tells-outward_events ls = got-whole event_in g no-event read refl ls ∙ sent-lines ls (at_rest first_world)

  -- ---- numbers of steps

  -- a sum goes on
  sum-more : (xs : List (ℕ × Thing L)) (n m : ℕ) (x : Thing L) →
      fold (λ n (x : ℕ × Thing L). n + x.0) n (xs ++ (m, x) ∷ []) ≡ fold (λ n (x : ℕ × Thing L). n + x.0) n xs + m
  sum-more [] n m x = refl
  sum-more (y ∷ ys) n m x = sum-more ys (n + y.0) m x

  -- a thing is no step
  thing-counted : (t : LiveTrace L) (x : Option (Thing L)) → steps_in (with_thing_if t x) ≡ steps_in t
  thing-counted t None = refl
  thing-counted t (Some x) = let e = sum-more t.things 0 t.steps x in omega (arith, e)

  -- an own step is one
  step-counted : (own : Bool) (t : LiveTrace L) → steps_in (with_step_if own t) ≡ steps_in t + (if own then 1 else 0)
  step-counted true t = omega arith
  step-counted false t = omega arith

  -- so many
  steps-counted : (n : ℕ) (s : Live World) (t : LiveTrace L) → steps_in (steps_traced g n s t) ≡ steps_in t + own_steps read g n s
  steps-counted zero s t = omega arith
  steps-counted (suc n) s t =
      by_cases (is_resting s)
      (λ k. ap steps_in (cond-true (is_resting s) t later k) ∙ plus (steps_in t) (cond-true (is_resting s) 0 more k))
      (λ k. ap steps_in (cond-false (is_resting s) t later k)
      ∙ (let a = steps-counted n (advance world_documents s).0 (step_traced g s t) in
      let b = step-counted own (with_thing_if t (told_next g s s.frames)) in
      let c = thing-counted t (told_next g s s.frames) in
      let e = cond-false (is_resting s) 0 more k in omega (arith, a, b, c, e)))
    where
      own : Bool
      own = is_own_step g s.documents.tasks s.frames

      later : LiveTrace L
      later = steps_traced g n (advance world_documents s).0 (step_traced g s t)

      more : ℕ
      more = (if own then 1 else 0) + own_steps read g n (advance world_documents s).0

      plus : (m : ℕ) {k : ℕ} → k ≡ 0 → m ≡ m + k
      plus m {k} e = omega (arith, e)

  -- of a script and its end
  lines-counted : (ls : List L) (s : Live World) (t : LiveTrace L) → let k = fold (line_traced g read) (s, t) ls in
      steps_in (run_traced g (ending k.0) (with_thing k.1 input_over)) ≡ steps_in t + own_steps_from read g s ls
  lines-counted [] s t =
      let a = steps-counted (frames_left world_documents (ending s).frames (ending s)) (ending s) (with_thing t input_over) in
      let b = thing-counted t (Some input_over) in omega (arith, a, b)
  lines-counted (l ∷ ls) s t =
      let r = taken world_documents s (read l) in
      let a = lines-counted ls (live_step world_documents s (read l)).0 (line_traced g read (s, t) l).1 in
      let b = steps-counted (frames_left world_documents r.0.frames r.0) r.0 (with_thing_if t (line_thing g read s l)) in
      let c = thing-counted t (line_thing g read s l) in omega (arith, a, b, c)

  -- the law
  pub counts-own_steps : CountsOwnSteps read g
  counts-own_steps ls = let e = lines-counted ls (at_rest first_world) no_things in omega (arith, e)
