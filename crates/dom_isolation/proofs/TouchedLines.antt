-- A command and a line of the group, whatever others' listeners do: one of the silent run, which takes a record for each event. A line of another owner is the
-- ending of the group's turn, where it ends it, and its outward event, as far as others let it come.
use Rattle.dom_base.proofs.Std.{◌≡◌, ℕ, Bool, true, false, not, ◌&&◌, List, [], ◌∷◌, ◌++◌, filter, Option, Some, None, refl, sym, ap, ◌∙◌, subst, true≢false}
use Rattle.dom_base.proofs.Std.{append-nil, option_map, if◌then◌else◌, is_none, cond-true, cond-false, append_assoc, and-false}
use Rattle.dom_model.proofs.Model.{Owner, Page, Component, Syntax, Line, no_owner, no_command, command, Command, EventWords, says, refused, Value, replied}
use Rattle.dom_model.proofs.Model.{nothing, a_truth, Run, quiet, run_then, refusing, answering, unless_refused, World, part_of, ending_turn, has_other_turn}
use Rattle.dom_model.proofs.Model.{ending_other_turn, opening_turn, run_command, step, refusal, accepted, KeepsMakers, group_world, group_turn, group_outputs}
use Rattle.dom_model.proofs.Model.{group_run, is_task_of, outward_words, ends_group_turn, OutwardEvent, is_of, owner_of_line, owner_of_output, outward_event}
use Rattle.dom_model.proofs.Model.{NodeName, Refusal, named, Part, Dispatched, dispatch_in}
use Rattle.dom_worlds.specs.Definitions.{Invariant, IsReached, IsWhole}
use Rattle.dom_worlds.proofs.TurnLemmas.{quiet-ending_other, quiet-dispatch}
use Rattle.dom_worlds.proofs.WorldLemmas.{ending-keeps_reached, ending-keeps_whole, quiet-step}
use Rattle.dom_worlds.proofs.ListLemmas.{by_cases}
use Rattle.dom_isolation.specs.Definitions.{Interference, untouched, first_record, ending_records, before_records, own_records, interference_at}
use Rattle.dom_isolation.specs.Definitions.{accepted_records, command_records, IsCalm, Told, told_run, ending_under, ending_other_under, run_command_under}
use Rattle.dom_isolation.specs.Definitions.{step_under, untold, dispatch_under, accepted_under}
use Rattle.dom_isolation.proofs.GroupSlots.{filter-away}
use Rattle.dom_isolation.proofs.GroupTurns.{same-calm, ending_other-out, no_other-ended, calm-ended, opening-in, opened-quiet, same-part}
use Rattle.dom_isolation.proofs.GroupDispatches.{outward_told, runs-then, IsSameWorld, any_world, world-dispatch_under, touched-in}
use Rattle.dom_isolation.proofs.GroupCommands.{fits, AreOfGroup, refusal-in, attach-alike, connected-alike, assigned-alike, micro-alike, effect-alike}
use Rattle.dom_isolation.proofs.GroupCommands.{words-inside}
use Rattle.dom_isolation.proofs.OutsideCommands.{touched_command-out}
use Rattle.dom_isolation.proofs.TouchedTurns.{Follows, follows-same, then-follows, ending-follows, ending_other-follows, rest-dispatch_under}
use Rattle.dom_isolation.proofs.TouchedTurns.{no_other-ended_under}

-- an accepted command keeps what holds of the world
accepted-world : {w : World} → Invariant false w → (o : Owner) → has_other_turn w o ≡ false → (c : Command) → refusal w o c ≡ None →
    Invariant false (accepted w o c).0
accepted-world {w} q o h c e =
    subst (λ r. Invariant false (unless_refused o r w (accepted w o c)).0) e
    (subst (λ (r : Run World). Invariant false (run_command o c r.0).0) (cond-false (has_other_turn w o) (ending_turn w) (quiet w) h)
    (quiet-step w (command o c) q (λ y. absurd (true≢false (sym y)))))

module _ (g : Owner → Bool) (closed : KeepsMakers g) where
  -- a reply
  answer-follows : {w v : World} → IsSameWorld g w v → (o : Owner) (a : Value) (rest : List Interference) →
      Follows g closed (answering o a w) (answering o a (v, rest)) rest
  answer-follows s o a rest = record {
    shown = ap (λ u. (u, group_outputs g (says o (replied a) ∷ []))) s.same;
    left = refl;
    first = s.first;
    second = s.second;
  }

  -- a run that takes no record
  untold-follows : {r s : Run World} (rest : List Interference) → group_run g r ≡ group_run g s → Invariant false r.0 → Invariant false s.0 →
      Follows g closed r (untold rest s) rest
  untold-follows rest same p q = record { shown = same; left = refl; first = p; second = q }

  -- a dispatch with its answer
  dispatch-follows : {w v : World} → IsSameWorld g w v → (o : Owner) {x : NodeName} {r : Option NodeName} (e : EventWords) → AreOfGroup g closed x r →
      (rest : List Interference) →
      let d = dispatch_in w x r e in
      let b = dispatch_under g (interference_at g w x r e) v x r e in
      Follows g closed (run_then d.run (answering o (a_truth d.answer))) (run_then (untold rest b.run) (answering o (a_truth b.answer))) rest
  dispatch-follows {w} {v} s o {x} {r} e mine rest =
      let i = interference_at g w x r e in
      let d = dispatch_in w x r e in
      let b = dispatch_under g i v x r e in
      let shown = touched-in g s e closed x r mine.target mine.related in
      let one = untold-follows rest (ap (λ (d : Dispatched World). d.run) shown) (quiet-dispatch w x r e s.first)
      (any_world (world-dispatch_under g i v s.second.world x r e)) in
      then-follows g closed d.run (untold rest b.run) (answering o (a_truth d.answer)) (answering o (a_truth b.answer)) one
      (subst (λ a. Follows g closed (answering o (a_truth d.answer) d.run.0) (answering o (a_truth a) (b.run.0, rest)) rest)
      (ap (λ (d : Dispatched World). d.answer) shown) (answer-follows (follows-same g closed one) o (a_truth d.answer) rest))

  -- Two worlds of which the group has the same, and an owner of the group, whose turn may be opened in both.
  module _ {w v : World} (s : IsSameWorld g w v) (o : Owner) (h : g o ≡ true) (a : has_other_turn w o ≡ false) (b : has_other_turn v o ≡ false) where
    -- the worlds in which the turn is open
    opened-same : IsSameWorld g (opening_turn w o) (opening_turn v o)
    opened-same = record {
      first = opened-quiet w s.first o;
      second = opened-quiet v s.second o;
      same = opening-in g closed w v s.same o (record { mine = h; first = a; second = b });
    }

    -- a command of which the group sees the same in both, and of which nothing is told
    seen-follows : (c : Command) → refusal w o c ≡ None → refusal v o c ≡ None → (rest : List Interference) →
        group_run g (accepted w o c) ≡ group_run g (accepted v o c) → Follows g closed (accepted w o c) (untold rest (accepted v o c)) rest
    seen-follows c d e rest alike = untold-follows rest alike (accepted-world s.first o a c d) (accepted-world s.second o b c e)

    -- An accepted command.
    accepted-follows : (c : Command) → refusal w o c ≡ None → refusal v o c ≡ None → (rest : List Interference) →
        Follows g closed (accepted w o c) (accepted_under g (v, accepted_records g w o c ++ rest) o c) rest
    accepted-follows Command.end_turn d e rest =
        let one = ending-follows g closed s rest in
        then-follows g closed (ending_turn w) (ending_under g (v, ending_records g w ++ rest)) (answering o nothing) (answering o nothing) one
        (answer-follows (follows-same g closed one) o nothing rest)
    accepted-follows (Command.dispatch x e r) d f rest =
        let p = part_of (opening_turn w o) o in
        let i = interference_at g (opening_turn w o) (named p x) (option_map (named p) r) e in
        let done : Part → Run Told = λ q. let k = dispatch_under g i (opening_turn v o) (named q x) (option_map (named q) r) e in
        run_then (untold rest k.run) (answering o (a_truth k.answer)) in
        subst (λ q. Follows g closed (accepted w o (Command.dispatch x e r)) (done q) rest)
        (same-part g closed (opening_turn w o) (opening_turn v o) opened-same.same o h)
        (dispatch-follows opened-same o e (words-inside g closed opened-same o h x r) rest)
    accepted-follows (Command.attach x) d e rest = seen-follows (Command.attach x) d e rest (attach-alike g closed opened-same o h x)
    accepted-follows (Command.connected x) d e rest = seen-follows (Command.connected x) d e rest (connected-alike g closed opened-same o h x)
    accepted-follows (Command.assigned x) d e rest = seen-follows (Command.assigned x) d e rest (assigned-alike g closed opened-same o h x)
    accepted-follows (Command.micro x) d e rest = seen-follows (Command.micro x) d e rest (micro-alike g closed opened-same o h x)
    accepted-follows c d e rest = seen-follows c d e rest (effect-alike g closed opened-same o h c)

    -- A command, refused or accepted.
    pub command-follows : (c : Command) (rest : List Interference) →
        Follows g closed (run_command o c w) (run_command_under g o c (v, command_records g w o c ++ rest)) rest
    command-follows c rest = subst (Case (refusal w o c)) same (from (refusal w o c) refl)
      where
        same : refusal w o c ≡ refusal v o c
        same = refusal-in g closed w v s.same o h c

        Case : Option Refusal → Option Refusal → Type 0
        Case x y =
            let t : Told = (v, (if is_none x then accepted_records g w o c else []) ++ rest) in
            Follows g closed (unless_refused o x w (accepted w o c)) (unless_refused o y t (accepted_under g t o c)) rest

        from : (x : Option Refusal) → refusal w o c ≡ x → Case x x
        from (Some r) e = record {
          shown = ap (λ u. (u, group_outputs g (says o (refused r) ∷ []))) s.same;
          left = refl;
          first = s.first;
          second = s.second;
        }
        from None e = accepted-follows c e (sym same ∙ e) rest

module _ (g : Owner → Bool) (closed : KeepsMakers g) where
  -- A line of the group.
  pub line-follows : {w v : World} → IsSameWorld g w v → IsCalm g w → (l : Line) → is_of g (owner_of_line l) ≡ true → (rest : List Interference) →
      Follows g closed (step w l) (step_under g (v, (before_records g w l ++ own_records g w l) ++ rest) l) rest
  line-follows s calm no_owner h rest = absurd (true≢false (sym h))
  line-follows {w} {v} s calm (no_command o) h rest =
      let before = before_records g w (no_command o) in
      let one = ending_other-follows g closed s calm rest o in
      let k = follows-same g closed one in
      subst (λ is. Follows g closed (step w (no_command o)) (step_under g (v, is ++ rest) (no_command o)) rest) (sym (append-nil before))
      (then-follows g closed (ending_other_turn w o) (ending_other_under g (v, before ++ rest) o) (refusing o Syntax) (refusing o Syntax) one
      (record { shown = ap (λ u. (u, group_outputs g (says o (refused Syntax) ∷ []))) k.same; left = refl; first = k.first; second = k.second }))
  line-follows {w} {v} s calm (command o c) h rest =
      let before = before_records g w (command o c) in
      let own = own_records g w (command o c) in
      let t : Told = (v, before ++ (own ++ rest)) in
      let one = ending_other-follows g closed s calm (own ++ rest) o in
      subst (λ is. Follows g closed (step w (command o c)) (step_under g (v, is) (command o c)) rest) (sym (append_assoc before own rest))
      (then-follows g closed (ending_other_turn w o) (ending_other_under g t o) (run_command o c) (run_command_under g o c) one
      (command-follows g closed (follows-same g closed one) o h (no_other-ended w o) (no_other-ended_under g t o) c rest))

  -- The ending of a turn by another's line, where it is the group's.
  abbrev pub ended_told : Bool → World → List Interference → Run World
  ended_told b v is = if b then told_run (ending_under g (v, is)) else quiet v

  -- what the group has of a run, and a run of the silent run, where both keep what holds of the world
  pub record Alike (r s : Run World) : Type 0 where
    pub shown : group_run g r ≡ group_run g s
    pub first : Invariant false r.0
    pub second : Invariant false s.0

  -- to two such worlds
  pub alike-same : {r s : Run World} → Alike r s → IsSameWorld g r.0 s.0
  alike-same a = record { first = a.first; second = a.second; same = ap (λ (r : Run World). r.0) a.shown }

  -- as in the silent run with its records
  alike-follows : {r : Run World} {m : Run Told} {rest : List Interference} → Follows g closed r m rest → Alike r (told_run m)
  alike-follows a = record { shown = a.shown; first = a.first; second = a.second }

  -- Such an ending.
  ended-alike : {w v : World} → IsSameWorld g w v → IsCalm g w → (o : Owner) (is : List Interference) →
      (has_other_turn w o ≡ true → is ≡ ending_records g w) →
      Alike (ending_other_turn w o) (ended_told (is_of g w.turn && has_other_turn w o) v is)
  ended-alike {w} {v} s calm o is told = by_cases (is_of g w.turn) (λ h. by_cases (has_other_turn w o) (ends h) (stays h)) apart
    where
      Goal : Run World → Bool → Type 0
      Goal r b = Alike r (ended_told b v is)

      nothing : {r : Run World} → group_run g r ≡ (group_world g w, []) → Invariant false r.0 → Goal r false
      nothing e q = record { shown = e ∙ ap (λ u. (u, [])) s.same; first = q; second = s.second }

      ends : is_of g w.turn ≡ true → has_other_turn w o ≡ true → Goal (ending_other_turn w o) (is_of g w.turn && has_other_turn w o)
      ends h e =
          subst (Goal (ending_other_turn w o)) (sym (ap (λ b. b && has_other_turn w o) h ∙ e))
          (subst (λ r. Goal r true) (sym (cond-true (has_other_turn w o) (ending_turn w) (quiet w) e))
          (subst (λ is. Alike (ending_turn w) (told_run (ending_under g (v, is)))) (append-nil (ending_records g w) ∙ sym (told e))
          (alike-follows (ending-follows g closed s []))))

      stays : is_of g w.turn ≡ true → has_other_turn w o ≡ false → Goal (ending_other_turn w o) (is_of g w.turn && has_other_turn w o)
      stays h e =
          subst (Goal (ending_other_turn w o)) (sym (ap (λ b. b && has_other_turn w o) h ∙ e))
          (subst (λ r. Goal r false) (sym (cond-false (has_other_turn w o) (ending_turn w) (quiet w) e)) (nothing refl s.first))

      apart : is_of g w.turn ≡ false → Goal (ending_other_turn w o) (is_of g w.turn && has_other_turn w o)
      apart h =
          subst (Goal (ending_other_turn w o)) (sym (ap (λ b. b && has_other_turn w o) h))
          (nothing (ending_other-out g closed w s.first calm h o) (quiet-ending_other w s.first o))

  -- outward events keep what holds of the world,
  outward-world : (reached : Option ℕ) (v : World) → Invariant false v → (e : Option OutwardEvent) → Invariant false (outward_told g closed reached v e).0
  outward-world reached v q None = q
  outward-world reached v q (Some e) =
      any_world (world-dispatch_under g (record untouched { reached = reached }) v q.world e.host None (outward_words e))

  -- and where the group has tasks a turn of its own is open
  outward-calm : (reached : Option ℕ) (v : World) → IsCalm g v → (e : Option OutwardEvent) → IsCalm g (outward_told g closed reached v e).0
  outward-calm reached v calm None = calm
  outward-calm reached v calm (Some e) =
      let rest = rest-dispatch_under g (record untouched { reached = reached }) v e.host None (outward_words e) in
      λ h. ap (λ (u : World). filter (is_task_of g) u.tasks) rest ∙ calm (sym (ap (λ (u : World). group_turn g u.turn) rest) ∙ h)

  -- What the silent run does for another's line.
  abbrev pub others_told : World → World → Line → Run World
  others_told w v l =
      run_then (ended_told (ends_group_turn g w l) v (before_records g w l))
      (λ u. outward_told g closed (first_record (own_records g w l)).reached u (outward_event g w l))

  -- a line of an owner outside ends a turn of the group where it ends a component's
  outside-ends : (w : World) (o : Owner) → g o ≡ false → (not (g o) && (is_of g w.turn && has_other_turn w o)) ≡ (is_of g w.turn && has_other_turn w o)
  outside-ends w o h = ap (λ b. not b && (is_of g w.turn && has_other_turn w o)) h

  -- such a line
  pub others-alike : {w v : World} → IsSameWorld g w v → IsReached false w → IsWhole w → IsCalm g w → (l : Line) → is_of g (owner_of_line l) ≡ false →
      (group_run g (step w l) ≡ group_run g (others_told w v l)) × Invariant false (others_told w v l).0 × IsCalm g (others_told w v l).0
  others-alike {w} {v} s r k calm no_owner h =
      subst (λ b. let m = run_then (ended_told b v []) quiet in
      (group_run g (step w no_owner) ≡ group_run g m) × Invariant false m.0 × IsCalm g m.0) (sym (and-false (is_of g w.turn)))
      (ap (λ u. (u, [])) s.same, s.second, same-calm g closed w v s.same calm)
  others-alike {w} {v} s r k calm (no_command o) h =
      let one = ended-alike s calm o (before_records g w (no_command o)) (λ e. cond-true (has_other_turn w o) (ending_records g w) [] e) in
      let same = alike-same one in
      let b = is_of g w.turn && has_other_turn w o in
      let ended = ended_told b v (before_records g w (no_command o)) in
      subst (λ b. let m = ended_told b v (before_records g w (no_command o)) in
      (group_run g (step w (no_command o)) ≡ group_run g (run_then m quiet)) × Invariant false m.0 × IsCalm g m.0) (sym (outside-ends w o h)) (
        runs-then g closed (ending_other_turn w o) ended (refusing o Syntax) quiet one.shown
            (ap (λ ls. (group_world g (ending_other_turn w o).0, ls)) (filter-away (λ l. is_of g (owner_of_output l)) (says o (refused Syntax)) [] h)
            ∙ ap (λ u. (u, [])) same.same),
        one.second,
        same-calm g closed (ending_other_turn w o).0 ended.0 same.same (calm-ended g closed w calm o),
      )
  others-alike s r k calm (command Page c) h = absurd (true≢false (sym closed.page ∙ h))
  others-alike {w} {v} s r k calm (command (Component j) c) h =
      let o = Component j in
      let l = command o c in
      let one = ended-alike s calm o (before_records g w l) (λ e. cond-true (has_other_turn w o) (ending_records g w) [] e) in
      let same = alike-same one in
      let b = is_of g w.turn && has_other_turn w o in
      let ended = ended_told b v (before_records g w l) in
      let u = (ending_other_turn w o).0 in
      let e = outward_event g w l in
      let reached = (first_record (own_records g w l)).reached in
      let send : World → Run World = λ x. outward_told g closed reached x e in
      subst (λ b. let m = run_then (ended_told b v (before_records g w l)) send in
      (group_run g (step w l) ≡ group_run g m) × Invariant false m.0 × IsCalm g m.0) (sym (outside-ends w o h)) (
        runs-then g closed (ending_other_turn w o) ended (run_command o c) send one.shown
            (touched_command-out g closed same j h (calm-ended g closed w calm o) (no_other-ended w o) c
            (fits u (ending-keeps_reached false w o r) (ending-keeps_whole false w o r k) o c)),
        outward-world reached ended.0 one.second e,
        outward-calm reached ended.0 (same-calm g closed u ended.0 same.same (calm-ended g closed w calm o)) e,
      )
