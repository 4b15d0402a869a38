-- Where no line of an owner outside a group adds a listener that stops or cancels, or acts on an event, the group is told neither a stop nor a cancel.
use Rattle.dom_base.proofs.Std.{◌≡◌, ℕ, zero, suc, Bool, true, false, IsTrue, not, ◌&&◌}
use Rattle.dom_base.proofs.Std.{◌||◌, List, [], ◌∷◌, ◌++◌, flat_map, fold, Option, Some, None, refl, sym}
use Rattle.dom_base.proofs.Std.{ap, ◌∙◌, subst, true≢false, cond-true, cond-false}
use Rattle.dom_base.proofs.Std.{if◌then◌else◌, AllByRecursion, option_to_list, ⊤, list_any, and-false}
use Rattle.dom_model.proofs.Model.{Owner, World, Task, Command}
use Rattle.dom_model.proofs.Model.{Refusal, refusal, perform, part_of, named, is_of, owner_eq, Page, Component}
use Rattle.dom_model.proofs.Model.{owner_eq-true, first_world, Action, Log, Stop, StopNow, Cancel, OutwardEvent}
use Rattle.dom_worlds.specs.Definitions.{OnlyLogs}
use Rattle.dom_worlds.proofs.ListLemmas.{by_cases, all-append}
use Rattle.dom_live.specs.Lines.{LiveCommand, plain, listen_live, observer_live, micro_live, prevent}
use Rattle.dom_live.specs.Lines.{stop, stop_now, prevented, give_back, LiveLine, ownerless}
use Rattle.dom_live.specs.Lines.{wordless, said, checkpoint, LiveRun, unless_denied, still, loop_busy}
use Rattle.dom_live.specs.Frames.{Visiting, UnderWay, Frame, an_event, a_notification, a_microtask}
use Rattle.dom_live.specs.Frames.{a_checkpoint, event_caller, is_called, of_end, of_loop, own_call}
use Rattle.dom_live.specs.Documents.{Live, at_rest, world_documents}
use Rattle.dom_live.specs.SmallSteps.{advance, pushed}
use Rattle.dom_live.specs.Runs.{is_resting, frames_left, going}
use Rattle.dom_live.specs.Machine.{taken, ending, live_step, obeyed, plain_refusal, acting, act_in, on_own_call, call_returned, is_under_way}
use Rattle.dom_live.specs.Machine.{caller_may_cancel, act_refusal, return_refusal}
use Rattle.dom_live.specs.Groups.{is_own_step, is_own_event, is_own_going}
use Rattle.dom_live.specs.Things.{Thing, own_line, shut_out, was_stopped, was_cancelled, was_run, input_over, LiveTrace, no_things, with_thing}
use Rattle.dom_live.specs.Things.{with_thing_if, told_by, told_next, step_traced, steps_traced, is_shut_out, owner_said, out_thing, goes_out, is_secret}
use Rattle.dom_live.specs.Things.{ends_next, shows_next, line_thing, line_traced, lines_traced, whole_trace, sent_out}
use Rattle.dom_live.specs.Honesty.{lets_alone, IsQuietThing, IsOwnThing, QuietGroup, AloneGroup, event_in}
use Rattle.dom_live.proofs.HonestTraces.{tells-outward_events}
use Rattle.dom_live.proofs.OtherLogs.{OthersOnlyLog, logs-perform}
use Rattle.dom_live.proofs.GivenLines.{same-things}
use Rattle.dom_live.proofs.OtherLines.{is_still}
use Rattle.dom_live.proofs.QuietEvents.{IsQuietEvent, IsQuietFrame, IsQuiet, either-quiet}
use Rattle.dom_live.proofs.QuietEvents.{acted-quiet, listener-quiet, pushed-quiet, returned-quiet, advance-quiet}

-- ---- what is told

-- a thing, if there is one
abbrev IsQuietIf : {L : Type 0} → Option (Thing L) → Type 0
IsQuietIf None = ⊤
IsQuietIf (Some x) = IsQuietThing x

-- nothing
none-if : (L : Type 0) (b : Bool) (x : Thing L) → b ≡ false → IsQuietIf (if b then Some x else None)
none-if L true x h = absurd (true≢false h)
none-if L false x h = tt

module _ (g : Owner → Bool) where
  -- of the next small step
  told-quiet : (L : Type 0) (s : Live World) (fs : List Frame) → AllByRecursion (IsQuietFrame g) fs → IsQuietIf {L = L} (told_next g s fs)
  told-quiet L s [] q = tt
  told-quiet L s (f ∷ fs) q = by (is_own_step g s.documents.tasks (f ∷ fs)) s.documents.tasks f refl q.0
    where
      -- an own step of an event
      secret : (u : UnderWay) (more : Bool) → IsQuietEvent g u → (is_secret g u && more) ≡ false
      secret u more q =
          by_cases u.cancelled
          (λ k. ap (λ b. (u.cancelled && not b) && more) (q.cancelled k) ∙ ap (λ b. b && more) (and-false u.cancelled))
          (λ k. ap (λ b. (b && not (list_any g u.knowing)) && more) k)

      -- another step of an event
      stopped : (u : UnderWay) → IsQuietEvent g u → (is_own_event g u && is_own_going g u u.visiting) ≡ false →
          (is_own_event g u && (u.stopped && ends_next u.visiting)) ≡ false
      stopped u q o = from u.visiting q.visiting o
        where
          from : (m : Option Visiting) →
              AllByRecursion (λ (v : Visiting). g v.visit.current.owner ≡ false → (u.stopped ≡ false) × AllByRecursion OnlyLogs v.calls)
              (option_to_list m) → (is_own_event g u && is_own_going g u m) ≡ false →
              (is_own_event g u && (u.stopped && ends_next m)) ≡ false
          from None q o = ap (λ b. is_own_event g u && b) (and-false u.stopped) ∙ and-false (is_own_event g u)
          from (Some v) q o =
              by_cases (is_own_event g u)
              (λ k. ap (λ b. is_own_event g u && (b && ends_next (Some v))) (q.0 (sym (ap (λ b. b && g v.visit.current.owner) k) ∙ o)).0
              ∙ and-false (is_own_event g u))
              (λ k. ap (λ b. b && (u.stopped && ends_next (Some v))) k)

      by : (own : Bool) (tasks : List Task) (f : Frame) → own ≡ is_own_step g tasks (f ∷ fs) → IsQuietFrame g f →
          IsQuietIf {L = L} (told_by g s.live_listeners tasks own f)
      by true tasks (an_event u) o q = none-if L _ was_cancelled (secret u (shows_next g s.live_listeners u u.visiting) q)
      by false tasks (an_event u) o q = none-if L _ was_stopped (stopped u q (sym o))
      by false (t ∷ ts) (a_checkpoint c) o q = run_if _
        where
          run_if : (b : Bool) → IsQuietIf {L = L} (if b then Some was_run else None)
          run_if true = tt
          run_if false = tt
      by false [] (a_checkpoint c) o q = tt
      by true tasks (a_checkpoint c) o q = tt
      by true tasks (a_notification n) o q = tt
      by false tasks (a_notification n) o q = tt
      by true tasks (a_microtask x) o q = tt
      by false tasks (a_microtask x) o q = tt

  -- ---- lines

  -- whether an owner may add what it adds
  abbrev Adds : Owner → Command → Type 0
  Adds o c = g o ≡ false → lets_alone (said o (plain c)) ≡ true

  module _ (s : Live World) (o : Owner) (h : IsQuiet g s) where
    -- a refusal, or what is accepted
    unless-quiet : (m : Option Refusal) (run : LiveRun (Live World)) → (m ≡ None → IsQuiet g run.0) → IsQuiet g (unless_denied o m s run).0
    unless-quiet None run f = f refl
    unless-quiet (Some r) run f = h

    -- a command without an event
    performed-quiet : (c : Command) → Adds o c → is_still c ≡ true → OthersOnlyLog g (perform s.documents o c).0
    performed-quiet c f q = logs-perform g s.documents o c h.logs f q

    -- an act of a member
    acting-quiet : (a : Action) (k : ℕ) → g o ≡ true → IsQuiet g (acting world_documents s o a k).0
    acting-quiet a k mine =
        unless-quiet (act_refusal (own_call o k s.frames)) _ (λ r. record { logs = h.logs; frames = acts k s.frames h.frames })
      where
        act : (f : Frame) → is_called o f ≡ true → IsQuietFrame g f → IsQuietFrame g (act_in o a f)
        act (an_event u) c q =
            acted-quiet g o (caller_may_cancel u.event u.visiting) a u (λ k. absurd (true≢false (sym mine ∙ k))) (at u.visiting c) q
          where
            at : (m : Option Visiting) → is_of (owner_eq o) (event_caller m) ≡ true →
                AllByRecursion (λ (v : Visiting). v.visit.current.owner ≡ o) (option_to_list m)
            at None c = tt
            at (Some v) c = (by v.called c, tt)
              where
                by : (m : Option _) → is_of (owner_eq o) (event_caller (Some (record v { called = m }))) ≡ true → v.visit.current.owner ≡ o
                by None c = absurd (true≢false (sym c))
                by (Some w) c = sym (owner_eq-true o v.visit.current.owner c)
        act (a_notification n) c q = q
        act (a_microtask x) c q = q
        act (a_checkpoint x) c q = q

        acts : (k : ℕ) (fs : List Frame) → AllByRecursion (IsQuietFrame g) fs → AllByRecursion (IsQuietFrame g) (on_own_call o (act_in o a) k fs)
        acts k [] q = tt
        acts zero (f ∷ fs) q =
            by_cases (is_called o f)
            (λ c. subst (AllByRecursion (IsQuietFrame g)) (sym (cond-true (is_called o f) (act_in o a f ∷ fs) (f ∷ on_own_call o (act_in o a) zero fs) c))
            (act f c q.0, q.1))
            (λ c. subst (AllByRecursion (IsQuietFrame g)) (sym (cond-false (is_called o f) (act_in o a f ∷ fs) (f ∷ on_own_call o (act_in o a) zero fs) c))
            (q.0, acts zero fs q.1))
        acts (suc k) (f ∷ fs) q = (
          q.0,
          by_cases (is_called o f)
              (λ c. subst (AllByRecursion (IsQuietFrame g))
              (sym (cond-true (is_called o f) (on_own_call o (act_in o a) k fs) (on_own_call o (act_in o a) (suc k) fs) c)) (acts k fs q.1))
              (λ c. subst (AllByRecursion (IsQuietFrame g))
              (sym (cond-false (is_called o f) (on_own_call o (act_in o a) k fs) (on_own_call o (act_in o a) (suc k) fs) c)) (acts (suc k) fs q.1)),
        )

    -- a command of the protocol
    plain-quiet : (c : Command) → Adds o c → IsQuiet g (obeyed world_documents s o (plain c)).0
    plain-quiet (Command.dispatch x e r) f =
        unless-quiet (plain_refusal world_documents s o (Command.dispatch x e r)) _
        (λ m. pushed-quiet g _ s h (record { visiting = tt; cancelled = λ k. absurd (true≢false (sym k)) }))
    plain-quiet (Command.unlisten x event label capture) f =
        unless-quiet (refusal s.documents o (Command.unlisten x event label capture)) _
        (λ m. listener-quiet g (named (part_of s.documents o) x) event label capture s h)
    plain-quiet (Command.micro label) f =
        unless-quiet (refusal s.documents o (Command.micro label)) _
        (λ m. record { logs = performed-quiet (Command.micro label) f refl; frames = h.frames })
    plain-quiet Command.end_turn f =
        unless-quiet (plain_refusal world_documents s o Command.end_turn) _ (λ m. record { logs = h.logs; frames = (tt, h.frames) })
    plain-quiet c f = unless-quiet (refusal s.documents o c) _ (λ m. record { logs = performed-quiet c f refl; frames = h.frames })

    -- any command
    command-quiet : (c : LiveCommand) → (g o ≡ false → lets_alone (said o c) ≡ true) → IsQuiet g (obeyed world_documents s o c).0
    command-quiet (plain c) f = plain-quiet c f
    command-quiet (listen_live x w) f =
        let c = Command.listen x (record w { action = Log }) in
        unless-quiet (refusal s.documents o c) _ (λ m. record { logs = performed-quiet c (λ k. refl) refl; frames = h.frames })
    command-quiet observer_live f =
        unless-quiet (refusal s.documents o Command.observer) _
        (λ m. record { logs = performed-quiet Command.observer (λ k. refl) refl; frames = h.frames })
    command-quiet (micro_live label) f =
        unless-quiet (refusal s.documents o (Command.micro label)) _
        (λ m. record { logs = performed-quiet (Command.micro label) (λ k. refl) refl; frames = h.frames })
    command-quiet (prevent k) f = acting-quiet Cancel k (by_cases (g o) (λ e. e) (λ e. absurd (true≢false (sym (f e)))))
    command-quiet (stop k) f = acting-quiet Stop k (by_cases (g o) (λ e. e) (λ e. absurd (true≢false (sym (f e)))))
    command-quiet (stop_now k) f = acting-quiet StopNow k (by_cases (g o) (λ e. e) (λ e. absurd (true≢false (sym (f e)))))
    command-quiet (prevented k) f = unless-quiet (act_refusal (own_call o k s.frames)) _ (λ m. h)
    command-quiet give_back f = unless-quiet (return_refusal o s.frames) _ (λ m. back s.frames h.frames)
      where
        back : (fs : List Frame) → AllByRecursion (IsQuietFrame g) fs → IsQuiet g (call_returned s fs)
        back [] q = h
        back (x ∷ fs) q = record { logs = h.logs; frames = returned-quiet g x fs q.0 q.1 }

  -- any line
  line-quiet : (s : Live World) → IsQuiet g s → (l : LiveLine) → IsTrue (is_of g (owner_said l) || lets_alone l) →
      IsQuiet g (taken world_documents s l).0
  line-quiet s h ownerless f = h
  line-quiet s h (wordless o) f = h
  line-quiet s h (said o c) f = command-quiet s o h c (λ k. sym (ap (λ b. b || lets_alone (said o c)) k) ∙ f)
  line-quiet s h checkpoint f =
      either-quiet g (is_under_way s.frames) (s, loop_busy ∷ []) (still (pushed (a_checkpoint of_loop) s)) h (record { logs = h.logs; frames = (tt, h.frames) })

  -- ---- traces

  module _ (read : List ℕ → LiveLine) where
    -- all things of a trace are quiet
    abbrev AreQuiet : LiveTrace (List ℕ) → Type 0
    AreQuiet t = AllByRecursion (λ (x : ℕ × Thing (List ℕ)). IsQuietThing x.1) t.things

    -- with one more
    more-quiet : (t : LiveTrace (List ℕ)) (x : Option (Thing (List ℕ))) → AreQuiet t → IsQuietIf x → AreQuiet (with_thing_if t x)
    more-quiet t None h k = h
    more-quiet t (Some x) h k = all-append (λ (x : ℕ × Thing (List ℕ)). IsQuietThing x.1) t.things ((t.steps, x) ∷ []) h (k, tt)

    -- what small steps leave
    record Goes (s : Live World) (t : LiveTrace (List ℕ)) : Type 0 where
      quiet : IsQuiet g s
      things : AreQuiet t

    -- so many
    steps-quiet : (n : ℕ) (s : Live World) (t : LiveTrace (List ℕ)) → Goes s t → Goes (going world_documents n s).0 (steps_traced g n s t)
    steps-quiet zero s t h = h
    steps-quiet (suc n) s t h =
        by_cases (is_resting s)
        (λ k. subst (λ (r : LiveRun (Live World)). Goes r.0 (steps_traced g (suc n) s t)) (sym (cond-true (is_resting s) (still s) _ k))
        (subst (Goes s) (sym (cond-true (is_resting s) t _ k)) h))
        (λ k. subst (λ (r : LiveRun (Live World)). Goes r.0 (steps_traced g (suc n) s t)) (sym (cond-false (is_resting s) (still s) _ k))
        (subst (Goes (going world_documents n (advance world_documents s).0).0) (sym (cond-false (is_resting s) t _ k))
        (steps-quiet n (advance world_documents s).0 (step_traced g s t) (record {
          quiet = advance-quiet g s h.quiet;
          things = subst (AllByRecursion (λ (x : ℕ × Thing (List ℕ)). IsQuietThing x.1)) (sym (same-things _ (with_thing_if t (told_next g s s.frames))))
              (more-quiet t (told_next g s s.frames) h.things (told-quiet (List ℕ) s s.frames h.quiet.frames));
        }))))

    -- a line's thing
    thing-quiet : (s : Live World) (l : List ℕ) → IsQuietIf (line_thing g read s l)
    thing-quiet s l = by (is_of g (owner_said (read l))) (is_shut_out g read s (read l)) (goes_out g read s (read l))
      where
        by : (own out : Bool) (e : Option OutwardEvent) →
            IsQuietIf {L = List ℕ} (if own then Some (if out then shut_out l else own_line l) else out_thing g read e)
        by true true e = tt
        by true false e = tt
        by false out None = tt
        by false out (Some e) = tt

    -- lines
    lines-quiet : (ls : List (List ℕ)) (s : Live World) (t : LiveTrace (List ℕ)) → Goes s t →
        AllByRecursion (λ l. IsTrue (is_of g (owner_said (read l)) || lets_alone (read l))) ls →
        let k = fold (line_traced g read) (s, t) ls in Goes k.0 k.1
    lines-quiet [] s t h f = h
    lines-quiet (l ∷ ls) s t h f =
        let r = taken world_documents s (read l) in
        let n = frames_left world_documents r.0.frames r.0 in
        lines-quiet ls (live_step world_documents s (read l)).0 (line_traced g read (s, t) l).1
        (steps-quiet n r.0 (with_thing_if t (line_thing g read s l)) (record {
          quiet = line-quiet s h.quiet (read l) f.0;
          things = more-quiet t (line_thing g read s l) h.things (thing-quiet s l);
        }))
        f.1

    -- the law
    pub quiet-group : QuietGroup read g
    quiet-group ls f =
        let k = lines_traced g read ls in
        let h = lines-quiet ls (at_rest first_world) no_things
        (record { quiet = record { logs = first; frames = tt }; things = tt }) f in
        let s = ending k.0 in
        (steps-quiet (frames_left world_documents s.frames s) s (with_thing k.1 input_over) (record {
          quiet = record { logs = h.quiet.logs; frames = all-append (IsQuietFrame g) k.0.frames (a_checkpoint of_end ∷ []) h.quiet.frames (tt, tt) };
          things = more-quiet k.1 (Some input_over) h.things tt;
        })).things
      where
        first : OthersOnlyLog g first_world
        first Page k = tt
        first (Component j) k = tt

-- ---- where no event is sent out either

-- no thing of a trace is an outward event
none-sent : {L : Type 0} (xs : List (ℕ × Thing L)) → AllByRecursion (λ (x : ℕ × Thing L). IsQuietThing x.1) xs →
    flat_map (λ (x : ℕ × Thing L). event_in x.1) xs ≡ [] → AllByRecursion (λ (x : ℕ × Thing L). IsOwnThing x.1) xs
none-sent [] h e = tt
none-sent {L} (x ∷ xs) h e = let k = first x.1 h.0 (flat_map (λ (x : ℕ × Thing L). event_in x.1) xs) e in (k.0, none-sent xs h.1 k.1)
  where
    first : (x : Thing L) → IsQuietThing x → (rest : List OutwardEvent) → event_in x ++ rest ≡ [] → IsOwnThing x × (rest ≡ [])
    first (sent_out out) h rest e = absurd (clash e)
      where
        clash : out ∷ rest ≡ [] → ⊥
        clash e = cc
    first was_stopped h rest e = absurd h
    first was_cancelled h rest e = absurd h
    first (own_line l) h rest e = (tt, e)
    first (shut_out l) h rest e = (tt, e)
    first was_run h rest e = (tt, e)
    first input_over h rest e = (tt, e)

-- the law
pub alone-group : (read : List ℕ → LiveLine) (g : Owner → Bool) → AloneGroup read g
alone-group read g ls f e =
    none-sent (whole_trace g read ls).things (quiet-group g read ls f) (tells-outward_events read g ls ∙ e)
