-- Lines and scripts as a group has them.
use Rattle.dom_base.proofs.Std.{◌≡◌, ℕ, Bool, true, List, [], ◌∷◌, ◌++◌, fold, map, Some, None, refl, sym, ap, ◌∙◌, cond-true, cond-false}
use Rattle.dom_base.proofs.Std.{if◌then◌else◌, append-nil}
use Rattle.dom_model.proofs.Model.{Owner, World, is_of, says, refused, Syntax, first_world}
use Rattle.dom_base.proofs.Std.{flat_map-append}
use Rattle.dom_live.specs.Frames.{of_end}
use Rattle.dom_live.specs.Groups.{own_frame}
use Rattle.dom_live.specs.Machine.{live_finish}
use Rattle.dom_worlds.proofs.ListLemmas.{by_cases}
use Rattle.dom_isolation.proofs.GroupSlots.{filter-here, filter-away}
use Rattle.dom_live.specs.Lines.{LiveLine, ownerless, wordless, said, checkpoint, LiveRun, written, still, and_then, loop_busy}
use Rattle.dom_live.specs.Frames.{a_checkpoint, of_loop}
use Rattle.dom_live.specs.Documents.{Documents, Live, world_documents, at_rest}
use Rattle.dom_live.specs.SmallSteps.{pushed, advance}
use Rattle.dom_live.specs.Runs.{ran, frames_left, going}
use Rattle.dom_live.specs.Machine.{taken, live_step, live_lines, ending, is_under_way}
use Rattle.dom_live.specs.Groups.{own_live, own_run, is_own_output}
use Rattle.dom_live.specs.Things.{LiveTrace, no_things, with_thing, with_thing_if, told_run, done, done_if, run_traced, line_thing, line_traced}
use Rattle.dom_live.specs.Things.{lines_traced, live_trace}
use Rattle.dom_live.specs.Things.{own_line, shut_out, is_shut_out, owner_said, out_thing, goes_out, input_over}
use Rattle.dom_live.specs.Laws.{IsLive, IsLiveWorld, followed, LineAgrees, LinesAgree, RunAgrees, SameOutput}
use Rattle.dom_live.proofs.OwnFrames.{pushed-out}
use Rattle.dom_live.proofs.OwnSteps.{Agrees}
use Rattle.dom_live.proofs.OtherLines.{LeavesOthers, command-out}
use Rattle.dom_live.proofs.OwnLines.{ObeysOwn, command-in}
use Rattle.dom_live.proofs.KeptLines.{lines-keep}
use Rattle.dom_live.proofs.ToldRuns.{told-thing, told-thing_if, then-then, then-still}
use Rattle.dom_live.proofs.GoingOn.{steps-keep, steps-told, own-then}

module _ {g : Owner → Bool} {V : Type 0} {view : World → V} {e : Documents V} (a : Agrees g IsLiveWorld world_documents view e)
    (mine : ObeysOwn g view e) (others : LeavesOthers g view e) {L : Type 0} (read : L → LiveLine) (s : Live World) (i : IsLive s) (line : L) where
  -- what a line of this reading is to the group
  abbrev told_of : LiveLine → LiveRun (Live V)
  told_of l =
      done_if e read (own_live g view s)
      (if is_of g (owner_said l) then Some (if is_shut_out g read s (read line) then shut_out line else own_line line)
      else out_thing g read (goes_out g read s l))

  -- one line, up to what it sets going
  pub line-agrees : own_run g view (taken world_documents s (read line)) ≡ done_if e read (own_live g view s) (line_thing g read s line)
  line-agrees = from (read line) refl
    where
      from : (l : LiveLine) → read line ≡ l → own_run g view (taken world_documents s l) ≡ told_of l
      from ownerless q = refl
      from checkpoint q =
          by_cases (is_under_way s.frames)
          (λ h. ap (own_run g view) (cond-true (is_under_way s.frames) (s, loop_busy ∷ []) (still (pushed (a_checkpoint of_loop) s)) h))
          (λ h. ap (own_run g view) (cond-false (is_under_way s.frames) (s, loop_busy ∷ []) (still (pushed (a_checkpoint of_loop) s)) h)
          ∙ ap (λ t. (t, [])) (pushed-out g view (a_checkpoint of_loop) s refl))
      from (wordless o) q =
          let thing = if is_shut_out g read s (read line) then shut_out line else own_line line in
          by_cases (g o)
          (λ h. ap (λ ls. (own_live g view s, ls)) (filter-here (is_own_output g) (written (says o (refused Syntax))) [] h)
          ∙ sym (ap (λ l. taken e (own_live g view s) l) q)
          ∙ sym (ap (λ b. done e read (own_live g view s) (if b then shut_out line else own_line line)) (ap (is_shut_out g read s) q))
          ∙ ap (done_if e read (own_live g view s)) (sym (cond-true (g o) (Some thing) None h)))
          (λ h. ap (λ ls. (own_live g view s, ls)) (filter-away (is_own_output g) (written (says o (refused Syntax))) [] h)
          ∙ ap (done_if e read (own_live g view s)) (sym (cond-false (g o) (Some thing) None h)))
      from (said o c) q =
          let thing = if is_shut_out g read s (read line) then shut_out line else own_line line in
          by_cases (g o)
          (λ h. command-in a mine s i o h read line c q
          ∙ ap (done_if e read (own_live g view s)) (sym (cond-true (g o) (Some thing) (out_thing g read (goes_out g read s (said o c))) h)))
          (λ h. command-out a others s i o h read c
          ∙ ap (done_if e read (own_live g view s)) (sym (cond-false (g o) (Some thing) (out_thing g read (goes_out g read s (said o c))) h)))

-- What is proved of a group's small steps and lines; `first` is what the group has of the first documents.
pub record HasMachine (g : Owner → Bool) {V : Type 0} (view : World → V) (d : Documents V) (read : List ℕ → LiveLine) (first : V) : Type 0 where
  pub beginning : first ≡ view first_world
  pub step : (s : Live World) → IsLive s → own_run g view (advance world_documents s) ≡ followed read g view d s
  pub line : LineAgrees read g view d

module _ {g : Owner → Bool} {V : Type 0} {view : World → V} {d : Documents V} {read : List ℕ → LiveLine} {v : V} (m : HasMachine g view d read v) where
  -- the run of a trace, from the first documents on
  abbrev pub told : LiveTrace (List ℕ) → LiveRun (Live V)
  told t = told_run d read (at_rest v) t

  -- what the group has of a run
  abbrev pub seen : LiveRun (Live World) → LiveRun (Live V)
  seen r = own_run g view r

  -- what a line adds, and what it sets going
  pub line-told : (s : Live World) → IsLive s → (t : LiveTrace (List ℕ)) → (told t).0 ≡ own_live g view s → (l : List ℕ) →
      told (line_traced g read (s, t) l).1 ≡ and_then (told t) (λ u. seen (live_step world_documents s (read l)))
  line-told s i t h l =
      let r = taken world_documents s (read l) in
      let t1 = with_thing_if t (line_thing g read s l) in
      let first : told t1 ≡ and_then (told t) (λ u. seen r) =
      told-thing_if d read (at_rest v) t (line_thing g read s l)
      ∙ ap (λ (k : LiveRun (Live V)). (k.0, (told t).1 ++ k.1))
      (ap (λ u. done_if d read u (line_thing g read s l)) h ∙ sym (m.line s i l)) in
      let n = frames_left world_documents r.0.frames r.0 in
      steps-told g view d read m.step n r.0 (lines-keep.line s (read l) i) (at_rest v) t1
      (ap (λ (k : LiveRun (Live V)). k.0) first)
      ∙ ap (λ k. and_then k (λ u. seen (going world_documents n r.0))) first
      ∙ then-then (told t) (λ u. seen r) (λ u. seen (going world_documents n r.0))
      ∙ ap (λ k. and_then (told t) (λ u. k)) (sym (own-then g view d read m.step r (ran world_documents)))

  -- it keeps what is asked
  pub step-kept : (s : Live World) → IsLive s → (l : List ℕ) → IsLive (live_step world_documents s (read l)).0
  step-kept s i l =
      let r = taken world_documents s (read l) in
      steps-keep (frames_left world_documents r.0.frames r.0) r.0 (lines-keep.line s (read l) i)

  -- lines
  pub record AreTold (s : Live World) (t : LiveTrace (List ℕ)) (r : LiveRun (Live World)) (k : Live World × LiveTrace (List ℕ)) : Type 0 where
    pub state : k.0 ≡ r.0
    pub trace : told k.1 ≡ and_then (told t) (λ u. seen r)
    pub kept : IsLive r.0

  -- one after another
  pub lines-told : (ls : List (List ℕ)) (s : Live World) → IsLive s → (t : LiveTrace (List ℕ)) → (told t).0 ≡ own_live g view s →
      AreTold s t (live_lines world_documents s (map read ls)) (fold (line_traced g read) (s, t) ls)
  lines-told [] s i t h = record {
    state = refl;
    trace = ap (λ u. (u, (told t).1)) h ∙ sym (ap (λ ls. (own_live g view s, ls)) (append-nil (told t).1));
    kept = i;
  }
  lines-told (l ∷ ls) s i t h =
      let r = live_step world_documents s (read l) in
      let one = line-told s i t h l in
      let next = (line_traced g read (s, t) l).1 in
      let rest = lines-told ls r.0 (step-kept s i l) next (ap (λ (k : LiveRun (Live V)). k.0) one) in
      let more = live_lines world_documents r.0 (map read ls) in
      record {
        state = rest.state;
        trace =
            rest.trace ∙ ap (λ k. and_then k (λ u. seen more)) one ∙ then-then (told t) (λ u. seen r) (λ u. seen more)
            ∙ ap (λ k. and_then (told t) (λ u. k))
            (sym (own-then g view d read m.step r (λ u. live_lines world_documents u (map read ls))));
        kept = rest.kept;
      }

  -- of a script
  pub script-told : (ls : List (List ℕ)) → AreTold (at_rest first_world) no_things (live_lines world_documents (at_rest first_world) (map read ls))
      (lines_traced g read ls)
  script-told ls = lines-told ls (at_rest first_world) lines-keep.first no_things (ap (λ x. at_rest x) m.beginning)

  -- the law
  pub lines-agree : LinesAgree read g view d v
  lines-agree ls = sym (script-told ls).trace

  -- the end of input
  ending-seen : (s : Live World) → ending (own_live g view s) ≡ own_live g view (ending s)
  ending-seen s =
      ap (λ fs. record (own_live g view s) { is_over = true; frames = fs }) (sym (flat_map-append (own_frame g) s.frames
      (a_checkpoint of_end ∷ [])))

  -- the trace, where the input is over
  pub ended-told : (ls : List (List ℕ)) → let r = live_lines world_documents (at_rest first_world) (map read ls) in
      told (with_thing (live_trace g read ls) input_over) ≡ (own_live g view (ending r.0), (seen r).1)
  ended-told ls =
      let r = live_lines world_documents (at_rest first_world) (map read ls) in
      told-thing d read (at_rest v) (live_trace g read ls) input_over
      ∙ ap (λ k. and_then k (λ u. still (ending u))) (script-told ls).trace
      ∙ then-still (ending (own_live g view r.0), (seen r).1) ∙ ap (λ u. (u, (seen r).1)) (ending-seen r.0)

  -- with its end
  pub run-agrees : RunAgrees read g view d v
  run-agrees ls =
      let r = live_lines world_documents (at_rest first_world) (map read ls) in
      let k = script-told ls in
      let s = ending r.0 in
      let t = with_thing (live_trace g read ls) input_over in
      let n = frames_left world_documents s.frames s in
      own-then g view d read m.step r (live_finish world_documents)
      ∙ sym (ap (λ s. told (run_traced g (ending s) t)) k.state
      ∙ steps-told g view d read m.step n s (lines-keep.ending r.0 k.kept) (at_rest v) t
      (ap (λ (k : LiveRun (Live V)). k.0) (ended-told ls))
      ∙ ap (λ k. and_then k (λ u. seen (going world_documents n s))) (ended-told ls))

  -- Two scripts with equal traces.
  pub same-output : SameOutput read g
  same-output ls ms h =
      ap (λ (k : LiveRun (Live V)). k.1) (run-agrees ls)
      ∙ ap (λ t. (told_run d read (at_rest v) t).1) h ∙ sym (ap (λ (k : LiveRun (Live V)). k.1) (run-agrees ms))
