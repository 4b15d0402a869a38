-- Whole scripts, whatever others' listeners do and whose turns they end: a group has of a script what the silent run does with its full trace. So two scripts
-- that agree in full show it the same.
use Rattle.dom_base.proofs.Std.{◌≡◌, ℕ, Bool, true, false, List, [], ◌∷◌, ◌++◌, map, Option, Some, None, refl, sym, ap, ◌∙◌, append-nil, subst, true≢false}
use Rattle.dom_base.proofs.Std.{option_to_list, if◌then◌else◌, cond-true, cond-false}
use Rattle.dom_model.proofs.Model.{Owner, Line, Run, run_then, run_each, World, first_world, step, finish, run_lines, KeepsMakers, group_world, group_outputs}
use Rattle.dom_model.proofs.Model.{group_run, ends_group_turn, output_of, OutwardEvent, is_of, owner_of_line, outward_event}
use Rattle.dom_worlds.specs.Definitions.{Invariant, IsReached, IsWhole}
use Rattle.dom_worlds.proofs.WorldLemmas.{quiet-first, first-is_reached, step-keeps_reached, first-is_whole, step-keeps_whole}
use Rattle.dom_worlds.proofs.ListLemmas.{by_cases}
use Rattle.dom_isolation.specs.Definitions.{Interference, FullItem, line_with, outward_with, turn_ended, first_record, before_records, own_records}
use Rattle.dom_isolation.specs.Definitions.{others_items, full_items, full_trace_from, records_at_end, GroupSeesItsFullTrace, SameGroupInFull, IsCalm, told_run}
use Rattle.dom_isolation.specs.Definitions.{ending_any_under, step_under, silent_step_under, silent_output_under}
use Rattle.dom_isolation.proofs.PageTexts.{run_each-append}
use Rattle.dom_isolation.proofs.GroupDispatches.{run_each-one, outward_told, runs-then, IsSameWorld, any_world}
use Rattle.dom_isolation.proofs.GroupCommands.{calm-in}
use Rattle.dom_isolation.proofs.GroupTurns.{same-calm}
use Rattle.dom_isolation.proofs.TouchedLines.{line-follows, others-alike, others_told, ended_told}
use Rattle.dom_isolation.proofs.TouchedTurns.{ending_any-follows}

-- The world of a script, and the one of the silent run on its full trace: of both the group has the same.
pub record IsFullPair (g : Owner → Bool) (w v : World) : Type 0 where
  pub same : group_world g w ≡ group_world g v
  pub left : IsReached false w
  pub whole : IsWhole w
  pub right : Invariant false v
  pub calm : IsCalm g w

-- they begin as one
pub pair-first : (g : Owner → Bool) → IsFullPair g first_world first_world
pair-first g = record { same = refl; left = first-is_reached false; whole = first-is_whole; right = quiet-first; calm = λ h. refl }

-- the group has the same in them
pair-same : {g : Owner → Bool} {w v : World} → IsFullPair g w v → IsSameWorld g w v
pair-same k = record { first = any_world k.left.world; second = k.right; same = k.same }

-- runs to two such worlds, of which the group has the same
pub record AreFullRuns (g : Owner → Bool) (r s : Run World) : Type 0 where
  pub shown : group_run g r ≡ group_run g s
  pub pair : IsFullPair g r.0 s.0

module _ (g : Owner → Bool) (closed : KeepsMakers g) {L : Type 0} (read : L → Line) where
  -- Items of another's line: an outward event,
  items-outward : (reached : Option ℕ) (v : World) (o : Option OutwardEvent) →
      run_each (silent_step_under g read) v (map (λ e. outward_with e reached) (option_to_list o)) ≡ outward_told g closed reached v o
  items-outward reached v None = refl
  items-outward reached v (Some e) = refl

  -- the ending of a turn,
  items-ended : (b : Bool) (v : World) (records : List Interference) →
      run_each (silent_step_under g read) v (if b then turn_ended records ∷ [] else []) ≡ ended_told g closed b v records
  items-ended true v records = run_each-one (silent_step_under g read) v (turn_ended records)
  items-ended false v records = refl

  -- and both
  items-others : (w v : World) (l : L) → run_each (silent_step_under g read) v (others_items read g w l) ≡ others_told g closed w v (read l)
  items-others w v l =
      let step_item = silent_step_under g read in
      let before = before_records g w (read l) in
      let reached = (first_record (own_records g w (read l))).reached in
      let ended : List (FullItem L) = if ends_group_turn g w (read l) then turn_ended before ∷ [] else [] in
      let sent : List (FullItem L) = map (λ e. outward_with e reached) (option_to_list (outward_event g w (read l))) in
      run_each-append step_item v ended sent
      ∙ ap (λ r. run_then r (λ u. run_each step_item u sent)) (items-ended (ends_group_turn g w (read l)) v before)
      ∙ ap (λ (r : Run World). (r.0, (ended_told g closed (ends_group_turn g w (read l)) v before).1 ++ r.1))
      (items-outward reached (ended_told g closed (ends_group_turn g w (read l)) v before).0 (outward_event g w (read l)))

  -- The invariant after a line.
  pair-step : {w v : World} → IsFullPair g w v → (l : Line) {m : Run World} → group_run g (step w l) ≡ group_run g m → Invariant false m.0 →
      IsCalm g (step w l).0 → AreFullRuns g (step w l) m
  pair-step {w} k l shown right calm = record {
    shown = shown;
    pair = record {
      same = ap (λ (r : Run World). r.0) shown;
      left = step-keeps_reached false w l k.left (λ e. absurd (true≢false (sym e)));
      whole = step-keeps_whole false w l k.left k.whole;
      right = right;
      calm = calm;
    };
  }

  -- One line, by its items of the full trace.
  pub line-items : (w v : World) → IsFullPair g w v → (l : L) → AreFullRuns g (step w (read l)) (run_each (silent_step_under g read) v (full_items read g w l))
  line-items w v k l = by_cases kept mine theirs
    where
      kept : Bool
      kept = is_of g (owner_of_line (read l))

      records : List Interference
      records = before_records g w (read l) ++ own_records g w (read l)

      Goal : List (FullItem L) → Type 0
      Goal items = AreFullRuns g (step w (read l)) (run_each (silent_step_under g read) v items)

      mine : kept ≡ true → Goal (full_items read g w l)
      mine h =
          let follows = line-follows g closed (pair-same k) k.calm (read l) h [] in
          let runs = pair-step k (read l) follows.shown follows.second (calm-in g closed w k.calm (read l) h) in
          subst Goal (sym (cond-true kept (line_with l records ∷ []) (others_items read g w l) h))
          (subst (AreFullRuns g (step w (read l))) (sym (run_each-one (silent_step_under g read) v (line_with l records)))
          (subst (λ is. AreFullRuns g (step w (read l)) (told_run (step_under g (v, is) (read l)))) (append-nil records) runs))

      theirs : kept ≡ false → Goal (full_items read g w l)
      theirs h =
          let others = others-alike g closed (pair-same k) k.left k.whole k.calm (read l) h in
          let m = others_told g closed w v (read l) in
          let calm = same-calm g closed m.0 (step w (read l)).0 (sym (ap (λ (r : Run World). r.0) others.0)) others.2 in
          let runs = pair-step k (read l) others.0 others.1 calm in
          subst Goal (sym (cond-false kept (line_with l records ∷ []) (others_items read g w l) h))
          (subst (AreFullRuns g (step w (read l))) (sym (items-others w v l)) runs)

  -- lines from a world on
  pub lines-full : (ls : List L) (w v : World) → IsFullPair g w v →
      AreFullRuns g (run_lines w (map read ls)) (run_each (silent_step_under g read) v (full_trace_from read g w ls))
  lines-full [] w v k = record { shown = ap (λ u. (u, [])) k.same; pair = k }
  lines-full (l ∷ ls) w v k =
      let u = (step w (read l)).0 in
      let items = full_items read g w l in
      let rest = full_trace_from read g u ls in
      let first = line-items w v k l in
      let silent = run_each (silent_step_under g read) v items in
      let later = lines-full ls u silent.0 first.pair in
      subst (AreFullRuns g (run_lines w (map read (l ∷ ls)))) (sym (run_each-append (silent_step_under g read) v items rest))
      (record {
        shown = runs-then g closed (step w (read l)) silent (λ t. run_lines t (map read ls)) (λ t. run_each (silent_step_under g read) t rest)
            first.shown later.shown;
        pair = later.pair;
      })

  -- with the end of input
  sees-full : (ls : List L) →
      group_outputs g (output_of read ls) ≡ group_outputs g (silent_output_under g read (full_trace_from read g first_world ls) (records_at_end read g ls))
  sees-full ls =
      let k = lines-full ls first_world first_world (pair-first g) in
      let all = run_lines first_world (map read ls) in
      let silent = run_each (silent_step_under g read) first_world (full_trace_from read g first_world ls) in
      let last = records_at_end read g ls in
      let ending = ending_any-follows g closed (pair-same k.pair) k.pair.calm [] in
      ap (λ (r : Run World). r.1)
      (runs-then g closed all silent finish (λ w. told_run (ending_any_under g (w, last))) k.shown
      (ending.shown ∙ ap (λ is. group_run g (told_run (ending_any_under g (silent.0, is)))) (append-nil last)))

module _ {L : Type 0} (read : L → Line) where
  -- a group sees its full trace
  pub group-sees_its_full_trace : GroupSeesItsFullTrace read
  group-sees_its_full_trace g closed ls = sees-full g closed read ls

  -- two scripts that agree in full
  pub same-group_in_full : SameGroupInFull read
  same-group_in_full g closed ls ms agree =
      sees-full g closed read ls ∙ ap (λ items. group_outputs g (silent_output_under g read items (records_at_end read g ls))) agree.0
      ∙ ap (λ last. group_outputs g (silent_output_under g read (full_trace_from read g first_world ms) last)) agree.1
      ∙ sym (sees-full g closed read ms)
