-- A script and its end: a trace tells no more stops than others make.
use Rattle.dom_base.proofs.Std.{◌≡◌, ◌≤◌, ℕ, zero, suc, ◌+◌, Bool, true, false, not, ◌&&◌, List, [], ◌∷◌, ◌++◌, fold, Option, Some, None, is_none, option_map}
use Rattle.dom_base.proofs.Std.{refl, sym, ap, true≢false, arith, cond-true, cond-false, if◌then◌else◌, AllByRecursion, option_to_list}
use Rattle.dom_model.proofs.Model.{Owner, World, Command, Refusal, ListenerWords, Action, Log, Stop, StopNow, Cancel, owner_eq, owner_eq-true, is_of}
use Rattle.dom_model.proofs.Model.{first_world, part_of, refusal, named, nothing, OutwardEvent}
use Rattle.dom_worlds.proofs.ListLemmas.{by_cases}
use Rattle.dom_live.specs.Lines.{LiveCommand, plain, listen_live, observer_live, micro_live, prevent, stop, stop_now, prevented, give_back, LiveLine, ownerless}
use Rattle.dom_live.specs.Lines.{wordless, said, checkpoint, LiveRun, still, and_then, replying, unless_denied, loop_busy}
use Rattle.dom_live.specs.Frames.{Visiting, Frame, an_event, a_notification, a_microtask, a_checkpoint, returned, event_caller, is_called, own_call, of_loop}
use Rattle.dom_live.specs.Frames.{of_end, returned_visit}
use Rattle.dom_live.specs.Documents.{Live, at_rest, world_documents}
use Rattle.dom_live.specs.SmallSteps.{advance, pushed}
use Rattle.dom_live.specs.Runs.{is_resting, frames_left, going}
use Rattle.dom_live.specs.Machine.{taken, ending, live_step, obeyed, acting, act_in, act_refusal, on_own_call, call_returned, plain_refusal, return_refusal}
use Rattle.dom_live.specs.Machine.{caller_may_cancel, is_under_way}
use Rattle.dom_live.specs.Groups.{is_own_visit, is_own_event, is_own_step}
use Rattle.dom_live.specs.Things.{Thing, own_line, shut_out, input_over, LiveTrace, no_things, with_thing, with_thing_if, told_next, step_traced}
use Rattle.dom_live.specs.Things.{steps_traced, run_traced, line_thing, line_traced, is_shut_out, owner_said, goes_out, out_thing}
use Rattle.dom_live.specs.Honesty.{stop_in, stops_told, is_stop, stops_next, stops_by, stops_made, stops_from, TellsMadeStops}
use Rattle.dom_live.proofs.GivenLines.{same-things}
use Rattle.dom_live.proofs.StopCounts.{one_if, all_untold, untold, untold_in, told_count, acted-untold, sifted-untold, step-counts}

module _ (g : Owner → Bool) where
  -- ---- lines

  -- what a call leaves
  returned-untold : (f : Frame) (fs : List Frame) → all_untold g (returned f ++ fs) ≤ all_untold g (f ∷ fs)
  returned-untold (an_event u) fs = from u.visiting
    where
      from : (m : Option Visiting) →
          untold_in g (is_own_event g u) u.stopped (option_map returned_visit m) + all_untold g fs
          ≤ untold_in g (is_own_event g u) u.stopped m + all_untold g fs
      from None = omega arith
      from (Some v) = omega arith
  returned-untold (a_notification n) fs = omega arith
  returned-untold (a_microtask o) fs = omega arith
  returned-untold (a_checkpoint c) fs = omega arith

  -- an act in a frame where its owner is called
  act-untold : (o : Owner) (a : Action) (f : Frame) → is_called o f ≡ true → untold g (act_in o a f) ≤ untold g f + one_if (not (g o) && is_stop a)
  act-untold o a (an_event u) c =
      let h = acted-untold g o (caller_may_cancel u.event u.visiting) a u (is_own_event g u && not (g o)) (at u.visiting c) in
      let k = fewer (is_own_event g u) (not (g o)) (is_stop a) in omega (arith, h, k)
    where
      fewer : (e b c : Bool) → one_if ((e && b) && c) ≤ one_if (b && c)
      fewer true b c = omega arith
      fewer false b c = let n = one_if (b && c) in omega arith

      at : (m : Option Visiting) → is_of (owner_eq o) (event_caller m) ≡ true →
          AllByRecursion (λ (v : Visiting). (is_own_event g u && not (is_own_visit g v.visit)) ≡ (is_own_event g u && not (g o))) (option_to_list m)
      at None c = tt
      at (Some v) c = (by v.called c, tt)
        where
          by : (m : Option ListenerWords) → is_of (owner_eq o) (event_caller (Some (record v { called = m }))) ≡ true →
              (is_own_event g u && not (is_own_visit g v.visit)) ≡ (is_own_event g u && not (g o))
          by None c = absurd (true≢false (sym c))
          by (Some w) c = ap (λ x. is_own_event g u && not (g x)) (sym (owner_eq-true o v.visit.current.owner c))
  act-untold o a (a_notification n) c = let n = one_if (not (g o) && is_stop a) in omega arith
  act-untold o a (a_microtask x) c = let n = one_if (not (g o) && is_stop a) in omega arith
  act-untold o a (a_checkpoint x) c = let n = one_if (not (g o) && is_stop a) in omega arith

  -- on an own call of a number
  acts-untold : (o : Owner) (a : Action) (k : ℕ) (fs : List Frame) →
      all_untold g (on_own_call o (act_in o a) k fs) ≤ all_untold g fs + one_if (not (g o) && is_stop a)
  acts-untold o a k [] = let n = one_if (not (g o) && is_stop a) in omega arith
  acts-untold o a zero (f ∷ fs) =
      by_cases (is_called o f)
      (λ c. let e = ap (all_untold g) (cond-true (is_called o f) (act_in o a f ∷ fs) (f ∷ on_own_call o (act_in o a) zero fs) c) in
      let h = act-untold o a f c in omega (arith, e, h))
      (λ c. let e = ap (all_untold g) (cond-false (is_called o f) (act_in o a f ∷ fs) (f ∷ on_own_call o (act_in o a) zero fs) c) in
      let h = acts-untold o a zero fs in omega (arith, e, h))
  acts-untold o a (suc k) (f ∷ fs) =
      by_cases (is_called o f)
      (λ c. let e = ap (all_untold g) (cond-true (is_called o f) (on_own_call o (act_in o a) k fs) (on_own_call o (act_in o a) (suc k) fs) c) in
      let h = acts-untold o a k fs in omega (arith, e, h))
      (λ c. let e = ap (all_untold g) (cond-false (is_called o f) (on_own_call o (act_in o a) k fs) (on_own_call o (act_in o a) (suc k) fs) c) in
      let h = acts-untold o a (suc k) fs in omega (arith, e, h))

  module _ (s : Live World) (o : Owner) where
    -- a refusal, or what is accepted
    unless-untold : (m : Option Refusal) (run : LiveRun (Live World)) (n : ℕ) →
        all_untold g run.0.frames ≤ all_untold g s.frames + n → all_untold g (unless_denied o m s run).0.frames ≤ all_untold g s.frames + n
    unless-untold None run n h = h
    unless-untold (Some r) run n h = omega arith

    -- an act
    acting-untold : (a : Action) (k : ℕ) →
        all_untold g (acting world_documents s o a k).0.frames
        ≤ all_untold g s.frames + one_if (is_stop a && (not (g o) && is_none (act_refusal (own_call o k s.frames))))
    acting-untold a k = by (act_refusal (own_call o k s.frames))
      where
        turned : (b c : Bool) → one_if (b && c) ≡ one_if (c && (b && true))
        turned true true = refl
        turned true false = refl
        turned false true = refl
        turned false false = refl

        by : (m : Option Refusal) →
            all_untold g (unless_denied o m s (replying o nothing (record s { frames = on_own_call o (act_in o a) k s.frames }))).0.frames
            ≤ all_untold g s.frames + one_if (is_stop a && (not (g o) && is_none m))
        by None = let e = turned (not (g o)) (is_stop a) in let h = acts-untold o a k s.frames in omega (arith, e, h)
        by (Some r) = let n = one_if (is_stop a && (not (g o) && false)) in omega arith

    -- a command of the protocol
    plain-untold : (c : Command) → all_untold g (obeyed world_documents s o (plain c)).0.frames ≤ all_untold g s.frames + 0
    plain-untold (Command.dispatch x e r) = unless-untold (plain_refusal world_documents s o (Command.dispatch x e r)) _ 0 (omega arith)
    plain-untold (Command.unlisten x event label capture) =
        unless-untold (refusal s.documents o (Command.unlisten x event label capture)) _ 0
        (let e = sifted-untold g (named (part_of s.documents o) x) event label capture s.frames in omega (arith, e))
    plain-untold (Command.micro label) = unless-untold (refusal s.documents o (Command.micro label)) _ 0 (omega arith)
    plain-untold Command.end_turn = unless-untold (plain_refusal world_documents s o Command.end_turn) _ 0 (omega arith)
    plain-untold c = unless-untold (refusal s.documents o c) _ 0 (omega arith)

    -- any command
    command-untold : (c : LiveCommand) →
        all_untold g (obeyed world_documents s o c).0.frames ≤ all_untold g s.frames + one_if (stops_by g s.frames (said o c))
    command-untold (plain c) = plain-untold c
    command-untold (listen_live x w) = unless-untold (refusal s.documents o (Command.listen x (record w { action = Log }))) _ 0 (omega arith)
    command-untold observer_live = unless-untold (refusal s.documents o Command.observer) _ 0 (omega arith)
    command-untold (micro_live label) = unless-untold (refusal s.documents o (Command.micro label)) _ 0 (omega arith)
    command-untold (prevent k) = acting-untold Cancel k
    command-untold (stop k) = acting-untold Stop k
    command-untold (stop_now k) = acting-untold StopNow k
    command-untold (prevented k) = unless-untold (act_refusal (own_call o k s.frames)) _ 0 (omega arith)
    command-untold give_back = unless-untold (return_refusal o s.frames) _ 0 (back s.frames refl)
      where
        back : (fs : List Frame) → s.frames ≡ fs → all_untold g (call_returned s fs).frames ≤ all_untold g s.frames + 0
        back [] e = omega arith
        back (f ∷ fs) e = let q = ap (all_untold g) e in let h = returned-untold f fs in omega (arith, q, h)

  -- any line
  line-untold : (s : Live World) (l : LiveLine) →
      all_untold g (taken world_documents s l).0.frames ≤ all_untold g s.frames + one_if (stops_by g s.frames l)
  line-untold s ownerless = omega arith
  line-untold s (wordless o) = omega arith
  line-untold s (said o c) = command-untold s o c
  line-untold s checkpoint = by (is_under_way s.frames)
    where
      by : (b : Bool) → all_untold g (if b then (s, loop_busy ∷ []) else still (pushed (a_checkpoint of_loop) s)).0.frames ≤ all_untold g s.frames + 0
      by true = omega arith
      by false = omega arith

  -- the end of input
  ending-untold : (fs : List Frame) → all_untold g (fs ++ a_checkpoint of_end ∷ []) ≡ all_untold g fs
  ending-untold [] = refl
  ending-untold (f ∷ fs) = ap (λ n. untold g f + n) (ending-untold fs)

  -- ---- traces

  module _ {L : Type 0} where
    -- a sum goes on
    stops-more : (xs : List (ℕ × Thing L)) (n m : ℕ) (x : Thing L) →
        fold (λ n (x : ℕ × Thing L). n + stop_in x.1) n (xs ++ (m, x) ∷ []) ≡ fold (λ n (x : ℕ × Thing L). n + stop_in x.1) n xs + stop_in x
    stops-more [] n m x = refl
    stops-more (y ∷ ys) n m x = stops-more ys (n + stop_in y.1) m x

    -- a thing more
    thing-stops : (t : LiveTrace L) (x : Option (Thing L)) → stops_told (with_thing_if t x) ≡ stops_told t + told_count g L x
    thing-stops t None = omega arith
    thing-stops t (Some x) = stops-more t.things 0 t.steps x

    -- small steps
    steps-stops : (n : ℕ) (s : Live World) (t : LiveTrace L) →
        stops_told (steps_traced g n s t) + all_untold g (going world_documents n s).0.frames ≤ stops_told t + (all_untold g s.frames + stops_made g n s)
    steps-stops zero s t = omega arith
    steps-stops (suc n) s t =
        by_cases (is_resting s)
        (λ k. let a = ap stops_told (cond-true (is_resting s) t later k) in
        let b = ap (λ (r : LiveRun (Live World)). all_untold g r.0.frames) (cond-true (is_resting s) (still s) goes k) in
        let m = stops_made g (suc n) s in omega (arith, a, b))
        (λ k. let a = ap stops_told (cond-false (is_resting s) t later k) in
        let b = ap (λ (r : LiveRun (Live World)). all_untold g r.0.frames) (cond-false (is_resting s) (still s) goes k) in
        let c = cond-false (is_resting s) 0 (one_if (stops_next g s.live_listeners s.frames) + stops_made g n next) k in
        let d = steps-stops n next (step_traced g s t) in
        let e = ap (fold (λ n (x : ℕ × Thing L). n + stop_in x.1) 0) (same-things (is_own_step g s.documents.tasks s.frames) (with_thing_if t told)) in
        let f = thing-stops t told in
        let h = step-counts g L s in omega (arith, a, b, c, d, e, f, h))
      where
        next : Live World
        next = (advance world_documents s).0

        goes : LiveRun (Live World)
        goes = and_then (advance world_documents s) (going world_documents n)

        told : Option (Thing L)
        told = told_next g s s.frames

        later : LiveTrace L
        later = steps_traced g n next (step_traced g s t)

    module _ (read : L → LiveLine) where
      -- a line tells no stop
      line-tells : (s : Live World) (l : L) → told_count g L (line_thing g read s l) ≡ 0
      line-tells s l = by (is_of g (owner_said (read l))) (is_shut_out g read s (read l)) (goes_out g read s (read l))
        where
          by : (own out : Bool) (e : Option OutwardEvent) →
              told_count g L (if own then Some (if out then shut_out l else own_line l) else out_thing g read e) ≡ 0
          by true true e = refl
          by true false e = refl
          by false out None = refl
          by false out (Some e) = refl

      -- lines, and the end
      lines-stops : (ls : List L) (s : Live World) (t : LiveTrace L) → let k = fold (line_traced g read) (s, t) ls in
          stops_told (run_traced g (ending k.0) (with_thing k.1 input_over)) ≤ stops_told t + (all_untold g s.frames + stops_from g read s ls)
      lines-stops [] s t =
          let e = ending s in
          let a = steps-stops (frames_left world_documents e.frames e) e (with_thing t input_over) in
          let b = thing-stops t (Some input_over) in
          let c = ending-untold s.frames in omega (arith, a, b, c)
      lines-stops (l ∷ ls) s t =
          let r = (taken world_documents s (read l)).0 in
          let n = frames_left world_documents r.frames r in
          let x = line_thing g read s l in
          let a = lines-stops ls (live_step world_documents s (read l)).0 (line_traced g read (s, t) l).1 in
          let b = steps-stops n r (with_thing_if t x) in
          let c = thing-stops t x in
          let d = line-tells s l in
          let e = line-untold s (read l) in omega (arith, a, b, c, d, e)

  -- the law
  pub tells-made_stops : {L : Type 0} (read : L → LiveLine) → TellsMadeStops g read
  tells-made_stops read ls = let e = lines-stops read ls (at_rest first_world) no_things in omega (arith, e)
