-- A group whose lines a program gives: the machine that is told things hears what the group hears, so the program gives the same lines.
use Rattle.dom_base.proofs.Std.{◌≡◌, ℕ, zero, suc, Bool, true, false, IsTrue, List, [], ◌∷◌, ◌++◌, map, fold, Option, Some, None, refl, sym, ap, ◌∙◌, subst}
use Rattle.dom_base.proofs.Std.{append-nil, append_assoc, map-append, filter-append, if◌then◌else◌, cond-true, cond-false, AllByRecursion}
use Rattle.dom_base.proofs.Std.{true≢false, not-true}
use Rattle.dom_model.proofs.Model.{Owner, World, is_of, first_world, OutwardEvent}
use Rattle.dom_worlds.proofs.ListLemmas.{by_cases}
use Rattle.dom_live.specs.Lines.{LiveLine, LiveRun, still, and_then}
use Rattle.dom_live.specs.Documents.{Documents, Live, world_documents, at_rest}
use Rattle.dom_live.specs.SmallSteps.{advance}
use Rattle.dom_live.specs.Runs.{going, frames_left, is_resting, ran}
use Rattle.dom_live.specs.Machine.{taken, live_step, live_lines, ending}
use Rattle.dom_live.specs.Groups.{own_live, own_outputs, is_own_output, is_own_step}
use Rattle.dom_live.specs.Things.{Thing, own_line, shut_out, input_over, LiveTrace, no_things, with_thing}
use Rattle.dom_live.specs.Things.{with_thing_if, done_if, told_next, step_traced, steps_traced, run_traced}
use Rattle.dom_live.specs.Things.{is_shut_out, owner_said, out_thing, goes_out, line_thing, line_traced, lines_traced, live_trace, whole_trace}
use Rattle.dom_live.specs.Laws.{IsLive}
use Rattle.dom_live.specs.Programs.{Heard, has_said, was_told, Program, trace_with, heard_at, heard_from, heard_to_end}
use Rattle.dom_live.specs.Programs.{FollowsFrom, Follows, SameByProgram, SameToEndByProgram, Moment, other, asked, played_from, IsOthers, AnswersCues}
use Rattle.dom_live.specs.Programs.{PlaysFollow}
use Rattle.dom_live.proofs.KeptSteps.{advance-kept}
use Rattle.dom_live.proofs.KeptLines.{lines-keep}
use Rattle.dom_live.proofs.GoingOn.{step-told}
use Rattle.dom_live.proofs.ToldRuns.{told-thing_if}
use Rattle.dom_live.proofs.Scripts.{HasMachine, line-told, step-kept, script-told, told, ended-told}
use Rattle.dom_live.proofs.Heard.{said_if, told_in, trace_heard, heard-thing_if, heard-both}
use Rattle.dom_live.proofs.OwnThings.{own-kind}
use Rattle.dom_live.proofs.GivenLines.{IsGivenIf, AreGiven, unsaid, same-things, given-none, more-given, same-given}

module _ {g : Owner → Bool} {V : Type 0} {view : World → V} {d : Documents V} {read : List ℕ → LiveLine} {v : V} (m : HasMachine g view d read v) where
  -- what is heard of a trace, from the first documents on
  abbrev hears : LiveTrace (List ℕ) → List (Heard (List ℕ))
  hears t = trace_heard d read (at_rest v) t

  -- what the group is told in a run
  abbrev told_of : LiveRun (Live World) → List (Heard (List ℕ))
  told_of r = map was_told (own_outputs g r.1)

  -- a run, and another after it
  told-then : (r : LiveRun (Live World)) (f : Live World → LiveRun (Live World)) → told_of (and_then r f) ≡ told_of r ++ told_of (f r.0)
  told-then r f = ap (map was_told) (filter-append (is_own_output g) r.1 (f r.0).1) ∙ map-append was_told (own_outputs g r.1) (own_outputs g (f r.0).1)

  -- a small step
  step-heard : (s : Live World) → IsLive s → (t : LiveTrace (List ℕ)) → (told m t).0 ≡ own_live g view s →
      hears (step_traced g s t) ≡ hears t ++ told_of (advance world_documents s)
  step-heard s i t h =
      let own = is_own_step g s.documents.tasks s.frames in
      let x = told_next g s s.frames in
      heard-both d read (at_rest v) own t x
      ∙ ap (λ hs. hears t ++ (hs ++ told_in d read (and_then (done_if d read (told m t).0 x) (λ w. if own then advance d w else still w))))
      (unsaid x (own-kind (List ℕ) g s s.frames))
      ∙ ap (λ u. hears t ++ told_in d read (and_then (done_if d read u x) (λ w. if own then advance d w else still w))) h
      ∙ ap (λ (r : LiveRun (Live V)). hears t ++ map was_told r.1) (sym (m.step s i))

  -- many
  steps-heard : (n : ℕ) (s : Live World) → IsLive s → (t : LiveTrace (List ℕ)) → (told m t).0 ≡ own_live g view s →
      hears (steps_traced g n s t) ≡ hears t ++ told_of (going world_documents n s)
  steps-heard zero s i t h = sym (append-nil (hears t))
  steps-heard (suc n) s i t h =
      by_cases (is_resting s)
      (λ k. ap hears (cond-true (is_resting s) t later k) ∙ sym (append-nil (hears t))
      ∙ ap (λ r. hears t ++ told_of r) (sym (cond-true (is_resting s) (still s) more k)))
      (λ k. ap hears (cond-false (is_resting s) t later k)
      ∙ steps-heard n r.0 (advance-kept s i) (step_traced g s t)
      (ap (λ (r : LiveRun (Live V)). r.0) (step-told g view d read m.step s i (at_rest v) t h))
      ∙ ap (λ hs. hs ++ told_of (going world_documents n r.0)) (step-heard s i t h)
      ∙ append_assoc (hears t) (told_of r) (told_of (going world_documents n r.0))
      ∙ ap (λ hs. hears t ++ hs) (sym (told-then r (going world_documents n)))
      ∙ ap (λ r. hears t ++ told_of r) (sym (cond-false (is_resting s) (still s) more k)))
    where
      r : LiveRun (Live World)
      r = advance world_documents s

      later : LiveTrace (List ℕ)
      later = steps_traced g n r.0 (step_traced g s t)

      more : LiveRun (Live World)
      more = and_then r (going world_documents n)

  -- the line of a group's thing
  said-line : (s : Live World) (l : List ℕ) → said_if (line_thing g read s l) ≡ (if is_of g (owner_said (read l)) then has_said l ∷ [] else [])
  said-line s l = by (is_of g (owner_said (read l))) (is_shut_out g read s (read l)) (goes_out g read s (read l))
    where
      by : (own out : Bool) (e : Option OutwardEvent) →
          said_if (if own then Some (if out then shut_out l else own_line l) else out_thing g read e) ≡ (if own then has_said l ∷ [] else [])
      by true true e = refl
      by true false e = refl
      by false out None = refl
      by false out (Some e) = refl

  -- a line, and what it sets going
  line-heard : (s : Live World) → IsLive s → (t : LiveTrace (List ℕ)) → (told m t).0 ≡ own_live g view s → (l : List ℕ) →
      hears (line_traced g read (s, t) l).1 ≡ hears t ++ heard_at read g s l
  line-heard s i t h l =
      let r = taken world_documents s (read l) in
      let x = line_thing g read s l in
      let n = frames_left world_documents r.0.frames r.0 in
      let first : (told m (with_thing_if t x)).0 ≡ own_live g view r.0 =
      ap (λ (k : LiveRun (Live V)). k.0) (told-thing_if d read (at_rest v) t x ∙ ap (λ u. and_then (told m t) (λ w. done_if d read u x)) h
      ∙ ap (λ k. and_then (told m t) (λ w. k)) (sym (m.line s i l))) in
      steps-heard n r.0 (lines-keep.line s (read l) i) (with_thing_if t x) first
      ∙ ap (λ hs. hs ++ told_of (going world_documents n r.0)) (heard-thing_if d read (at_rest v) t x
      ∙ ap (λ u. hears t ++ (said_if x ++ told_in d read (done_if d read u x))) h
      ∙ ap (λ (k : LiveRun (Live V)). hears t ++ (said_if x ++ map was_told k.1)) (sym (m.line s i l)))
      ∙ append_assoc (hears t) (said_if x ++ told_of r) (told_of (going world_documents n r.0))
      ∙ ap (λ hs. hears t ++ hs) (append_assoc (said_if x) (told_of r) (told_of (going world_documents n r.0))
      ∙ ap (λ hs. said_if x ++ hs) (sym (told-then r (ran world_documents)))
      ∙ ap (λ hs. hs ++ told_of (live_step world_documents s (read l))) (said-line s l))

  module _ {C : Type 0} (cue : List ℕ → C) (next : Program C (List ℕ)) where
    -- the lines of a trace are the program's
    abbrev IsProgram : LiveTrace (List ℕ) → Type 0
    IsProgram t = AreGiven cue next d read [] (at_rest v) t.things

    -- a thing more
    thing-given : (t : LiveTrace (List ℕ)) (x : Option (Thing (List ℕ))) → IsProgram t → IsGivenIf cue next (hears t) x → IsProgram (with_thing_if t x)
    thing-given t None p h = p
    thing-given t (Some x) p h = more-given cue next d read t.things [] (at_rest v) (t.steps, x) p h

    -- small steps
    steps-given : (n : ℕ) (s : Live World) (t : LiveTrace (List ℕ)) → IsProgram t → IsProgram (steps_traced g n s t)
    steps-given zero s t p = p
    steps-given (suc n) s t p =
        by_cases (is_resting s)
        (λ k. subst IsProgram (sym (cond-true (is_resting s) t later k)) p)
        (λ k. subst IsProgram (sym (cond-false (is_resting s) t later k))
        (steps-given n (advance world_documents s).0 (step_traced g s t)
        (subst (λ xs. AreGiven cue next d read [] (at_rest v) xs) (sym (same-things own (with_thing_if t x)))
        (thing-given t x p (given-none cue next (hears t) x (own-kind (List ℕ) g s s.frames))))))
      where
        own : Bool
        own = is_own_step g s.documents.tasks s.frames

        x : Option (Thing (List ℕ))
        x = told_next g s s.frames

        later : LiveTrace (List ℕ)
        later = steps_traced g n (advance world_documents s).0 (step_traced g s t)

    -- a line
    line-given : (s : Live World) (t : LiveTrace (List ℕ)) (l : List ℕ) → IsProgram t →
        (IsTrue (is_of g (owner_said (read l))) → next (cue l) (hears t) ≡ Some l) → IsProgram (line_traced g read (s, t) l).1
    line-given s t l p f =
        let r = taken world_documents s (read l) in
        steps-given (frames_left world_documents r.0.frames r.0) r.0 (with_thing_if t (line_thing g read s l))
        (thing-given t (line_thing g read s l) p (by (is_of g (owner_said (read l))) (is_shut_out g read s (read l)) (goes_out g read s (read l)) f))
      where
        by : (own out : Bool) (e : Option OutwardEvent) → (IsTrue own → next (cue l) (hears t) ≡ Some l) →
            IsGivenIf cue next (hears t) (if own then Some (if out then shut_out l else own_line l) else out_thing g read e)
        by true true e f = f refl
        by true false e f = f refl
        by false out None f = tt
        by false out (Some e) f = tt

    -- what is shown of a script
    record IsFollowed (heard : List (Heard (List ℕ))) (s : Live World) (t : LiveTrace (List ℕ)) (ls : List (List ℕ)) : Type 0 where
      given : IsProgram (fold (line_traced g read) (s, t) ls).1
      hears : hears (fold (line_traced g read) (s, t) ls).1 ≡ heard ++ heard_from read g s ls

    -- what is known after so much of a script
    record IsUnderWay (heard : List (Heard (List ℕ))) (s : Live World) (t : LiveTrace (List ℕ)) : Type 0 where
      kept : IsLive s
      state : (told m t).0 ≡ own_live g view s
      same : hears t ≡ heard
      given : IsProgram t

    -- lines one after another
    lines-followed : (ls : List (List ℕ)) (heard : List (Heard (List ℕ))) (s : Live World) (t : LiveTrace (List ℕ)) → IsUnderWay heard s t →
        FollowsFrom read g cue next heard s ls → IsFollowed heard s t ls
    lines-followed [] heard s t k f = record { given = k.given; hears = k.same ∙ sym (append-nil heard) }
    lines-followed (l ∷ ls) heard s t k f =
        let r = live_step world_documents s (read l) in
        let u = (line_traced g read (s, t) l).1 in
        let after : IsUnderWay (heard ++ heard_at read g s l) r.0 u = record {
          kept = step-kept m s k.kept l;
          state = ap (λ (k : LiveRun (Live V)). k.0) (line-told m s k.kept t k.state l);
          same = line-heard s k.kept t k.state l ∙ ap (λ hs. hs ++ heard_at read g s l) k.same;
          given = line-given s t l k.given (λ own. ap (next (cue l)) k.same ∙ f.0 own);
        } in
        let rest = lines-followed ls (heard ++ heard_at read g s l) r.0 u after f.1 in
        record { given = rest.given; hears = rest.hears ∙ append_assoc heard (heard_at read g s l) (heard_from read g r.0 ls) }

    -- a script
    script-followed : (ls : List (List ℕ)) → Follows read g cue next ls → IsFollowed [] (at_rest first_world) no_things ls
    script-followed ls f =
        lines-followed ls [] (at_rest first_world) no_things
        (record { kept = lines-keep.first; state = ap (λ x. at_rest x) m.beginning; same = refl; given = tt }) f

    -- traces with the same of others
    same-traces : (t u : LiveTrace (List ℕ)) → IsProgram t → IsProgram u → trace_with cue t ≡ trace_with cue u → t ≡ u
    same-traces t u p q e =
        let things = same-given cue next d read t.things u.things [] (at_rest v) (p, q) (ap (λ (t : LiveTrace C). t.things) e) in
        ap (λ xs. record t { things = xs }) things ∙ ap (λ n. record u { steps = n }) (ap (λ (t : LiveTrace C). t.steps) e)

    -- to the end of input
    end-given : (ls : List (List ℕ)) → Follows read g cue next ls → IsProgram (whole_trace g read ls)
    end-given ls f =
        let k = lines_traced g read ls in
        let s = ending k.0 in
        steps-given (frames_left world_documents s.frames s) s (with_thing k.1 input_over)
        (thing-given k.1 (Some input_over) (script-followed ls f).given tt)

  -- What is heard to the end.
  end-heard : {C : Type 0} (cue : List ℕ → C) (next : Program C (List ℕ)) (ls : List (List ℕ)) → Follows read g cue next ls →
      hears (whole_trace g read ls) ≡ heard_to_end read g ls
  end-heard cue next ls f =
      let k = lines_traced g read ls in
      let r = live_lines world_documents (at_rest first_world) (map read ls) in
      let told_all = script-told m ls in
      let s = ending r.0 in
      let t = with_thing (live_trace g read ls) input_over in
      let n = frames_left world_documents s.frames s in
      ap (λ s. hears (run_traced g (ending s) t)) told_all.state
      ∙ steps-heard n s (lines-keep.ending r.0 told_all.kept) t (ap (λ (k : LiveRun (Live V)). k.0) (ended-told m ls))
      ∙ ap (λ hs. hs ++ told_of (going world_documents n s)) (heard-thing_if d read (at_rest v) (live_trace g read ls) (Some input_over)
      ∙ append-nil (hears (live_trace g read ls)) ∙ (script-followed cue next ls f).hears)

  -- the law
  pub same-by_program : {C : Type 0} (cue : List ℕ → C) → SameByProgram read cue g
  same-by_program cue next ls ms f h e =
      let a = script-followed cue next ls f in
      let b = script-followed cue next ms h in
      let same = same-traces cue next (live_trace g read ls) (live_trace g read ms) a.given b.given e in
      (sym a.hears ∙ ap hears same ∙ b.hears, same)

  -- to the end
  pub same-to_end_by_program : {C : Type 0} (cue : List ℕ → C) → SameToEndByProgram read cue g
  same-to_end_by_program cue next ls ms f h e =
      let same = same-traces cue next (whole_trace g read ls) (whole_trace g read ms) (end-given cue next ls f) (end-given cue next ms h) e in
      (sym (end-heard cue next ls f) ∙ ap hears same ∙ end-heard cue next ms h, same)

module _ {L C : Type 0} (read : L → LiveLine) (cue : L → C) (g : Owner → Bool) (next : Program C L) (answers : AnswersCues read cue g next) where
  -- A play follows its program.
  plays : (moments : List (Moment C L)) (heard : List (Heard L)) (s : Live World) → AllByRecursion (IsOthers read cue g next) moments →
      FollowsFrom read g cue next heard s (played_from read cue g next heard s moments)
  plays [] heard s h = tt
  plays (other l ∷ moments) heard s h = (
    λ t. absurd (true≢false (sym t ∙ not-true (is_of g (owner_said (read l))) h.0)),
    plays moments (heard ++ heard_at read g s l) (live_step world_documents s (read l)).0 h.1,
  )
  plays (asked c ∷ moments) heard s h = from (next c heard) refl (λ hs t. plays moments hs t h.1)
    where
      from : (o : Option L) → next c heard ≡ o →
          ((hs : List (Heard L)) (t : Live World) → FollowsFrom read g cue next hs t (played_from read cue g next hs t moments)) →
          FollowsFrom read g cue next heard s (elim o as (λ x. List L) [
            | None ↦ played_from read cue g next heard s moments
            | Some l ↦ l ∷ played_from read cue g next (heard ++ heard_at read g s l) (live_step world_documents s (read l)).0 moments
          ])
      from None e later = later heard s
      from (Some l) e later = (
        λ t. ap (λ c. next c heard) (answers c heard l e) ∙ e,
        later (heard ++ heard_at read g s l) (live_step world_documents s (read l)).0,
      )

-- from the first world on
pub plays-follow : {L C : Type 0} (read : L → LiveLine) (cue : L → C) (g : Owner → Bool) (next : Program C L) → PlaysFollow read cue g next
plays-follow read cue g next answers moments h = plays read cue g next answers moments [] (at_rest first_world) h
