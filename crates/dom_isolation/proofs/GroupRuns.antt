-- Where no component listener stops or cancels, others do nothing to an event. So the laws of a group without interference follow from those with it: two
-- worlds of which the group has the same do what one silent run does, whose records tell nothing. A group has of a script what it has of its trace.
use Rattle.dom_base.proofs.Std.{◌≡◌, Bool, true, false, not, List, [], ◌∷◌, map, Option, Some, None, refl, sym, ap, ◌∙◌, subst, ◌&&◌, ◌||◌, ◌++◌, length}
use Rattle.dom_base.proofs.Std.{option_map, true≢false, arith, length-append, option_to_list, is_none, is_some, replicate, cond-true, cond-false, and_parts}
use Rattle.dom_base.proofs.Std.{not-true, AllByRecursion}
use Rattle.dom_model.proofs.Model.{Owner, Line, Command, EventWords, NodeWord, no_owner, no_command, command, part_refusal, Run, run_each, run_then, World}
use Rattle.dom_model.proofs.Model.{part_of, first_world, step, finish, run_lines, refusal, perform, KeepsMakers, group_world, group_outputs, group_run}
use Rattle.dom_model.proofs.Model.{outward_words, silent_step, ends_group_turn, outward_in, OutwardEvent, line, outward, is_of, owner_of_line, outward_event}
use Rattle.dom_model.proofs.Model.{line_may_stop, items_of, trace_from, no_component_stops, no_component_stops_from, is_page, is_log, outward_dispatch}
use Rattle.dom_model.proofs.Model.{may_stop, output_of, group_turns_stand, group_turns_stand_from, silent_output, GroupSeesItsTrace, SameGroup, Component, Page}
use Rattle.dom_model.proofs.Model.{NodeName, ComponentName, named, Dispatched, dispatch_in, ending_turn, ending_any_turn, ending_other_turn}
use Rattle.dom_worlds.specs.Definitions.{IsQuiet, IsReached, IsWhole}
use Rattle.dom_worlds.proofs.WorldLemmas.{quiet-first, sound, first-is_reached, step-keeps_reached, quiet-step, first-is_whole, step-keeps_whole}
use Rattle.dom_worlds.proofs.ListLemmas.{by_cases, either_way, all-append}
use Rattle.dom_worlds.proofs.TurnLemmas.{quiet-dispatch}
use Rattle.dom_isolation.proofs.PageTexts.{run_each-append}
use Rattle.dom_isolation.specs.Definitions.{IsCalm, AssignedAgree, SignalsAgree, StepAgrees, ViewsAgree, OutwardViewsAgree, DispatchAgrees, OtherDispatchAgrees}
use Rattle.dom_isolation.specs.Definitions.{EndingAgrees, LineAgrees, FinishAgrees, last_records, Interference, untouched, first_record, ending_records}
use Rattle.dom_isolation.specs.Definitions.{before_records, own_records, Told, told_run, dispatch_under, outward_under, ending_under, ending_other_under}
use Rattle.dom_isolation.specs.Definitions.{ending_any_under, step_under}
use Rattle.dom_isolation.specs.GroupLaws.{OtherLineAgrees}
use Rattle.dom_isolation.proofs.GroupDispatches.{run_each-one, outward_run, runs-then, outward_told, IsSameWorld, any_world, touched-in}
use Rattle.dom_isolation.proofs.GroupTurns.{same-calm}
use Rattle.dom_isolation.proofs.GroupCommands.{calm-in, calm-outward, event-host, refusal-in}
use Rattle.dom_isolation.proofs.FullTraces.{TellNothing, first-nothing, nothing-at, ending-nothing, before-nothing, own-nothing}
use Rattle.dom_isolation.proofs.GroupSlots.{in_node, ground-of, assigned-in}
use Rattle.dom_isolation.proofs.OwnVisits.{group_dispatched}
use Rattle.dom_isolation.proofs.OutsideCommands.{event-inside, touched_dispatch-out}
use Rattle.dom_isolation.proofs.TouchedLines.{ended_told, line-follows, others-alike}
use Rattle.dom_isolation.proofs.TouchedTurns.{Follows, ending-follows, ending_other-follows, ending_any-follows}
use Rattle.dom_isolation.proofs.GroupSignals.{signals-group}
use Rattle.dom_isolation.proofs.GroupSteps.{step-in}
use Rattle.dom_isolation.proofs.GroupPaths.{views-in}
use Rattle.dom_isolation.proofs.OutsideViews.{has-exit, views-exit}

-- records that tell nothing are known by how many they are
nothing-repeated : (records : List Interference) → TellNothing records → records ≡ replicate (length records) untouched
nothing-repeated [] h = refl
nothing-repeated (i ∷ records) h = ap (λ j. j ∷ records) h.0 ∙ ap (λ is. untouched ∷ is) (nothing-repeated records h.1)

-- so it does not matter which of them come first
nothing-turned : (xs ys : List Interference) → TellNothing xs → TellNothing ys → xs ++ ys ≡ ys ++ xs
nothing-turned xs ys h k =
    let sizes : length (xs ++ ys) ≡ length (ys ++ xs) = omega (arith, length-append xs ys, length-append ys xs) in
    nothing-repeated (xs ++ ys) (all-append (λ i. i ≡ untouched) xs ys h k) ∙ ap (λ n. replicate n untouched) sizes
    ∙ sym (nothing-repeated (ys ++ xs) (all-append (λ i. i ≡ untouched) ys xs k h))

-- Two worlds in which components' listeners only log, of which a group sees the same.
pub record IsSameView (g : Owner → Bool) (w v : World) : Type 0 where
  pub first : IsQuiet w
  pub second : IsQuiet v
  pub same : group_world g w ≡ group_world g v

-- whatever their listeners do
same-world : {g : Owner → Bool} {w v : World} → IsSameView g w v → IsSameWorld g w v
same-world a = record { first = any_world a.first.world; second = any_world a.second.world; same = a.same }

-- a world and itself
itself : {g : Owner → Bool} {w : World} → IsQuiet w → IsSameWorld g w w
itself q = record { first = any_world q.world; second = any_world q.world; same = refl }

-- whether a `listen` may stop is told by its refusal
may_stop-same : (w v : World) (o : Owner) (c : Command) → refusal w o c ≡ refusal v o c → may_stop w o c ≡ may_stop v o c
may_stop-same w v o (Command.listen x words) e = ap (λ r. not (is_page o || is_log words.action) && is_none r) e
may_stop-same w v o c e = refl

module _ (g : Owner → Bool) (closed : KeepsMakers g) where
  -- Two runs are alike that follow one silent run, of whose records none tells anything.
  module _ {r s : Run World} (v : World) (f : Told → Run Told) where
    -- whatever the records
    both-follow : (is js : List Interference) → TellNothing is → TellNothing js → ((rest : List Interference) → Follows g closed r (f (v, is ++ rest)) rest) →
        ((rest : List Interference) → Follows g closed s (f (v, js ++ rest)) rest) → group_run g r ≡ group_run g s
    both-follow is js h k a b =
        (a js).shown ∙ ap (λ records. group_run g (told_run (f (v, records)))) (nothing-turned is js h k) ∙ sym (b is).shown

  -- An event of a node of the group,
  pub dispatch-in : {w v : World} → IsSameView g w v → (x : NodeName) (r : Option NodeName) (e : EventWords) → in_node g x ≡ true →
      AllByRecursion (λ y. in_node g y ≡ true) (option_to_list r) → group_dispatched g (dispatch_in w x r e) ≡ group_dispatched g (dispatch_in v x r e)
  dispatch-in {w} {v} s x r e h k =
      touched-in g (same-world s) e closed x r h k
      ∙ ap (λ i. group_dispatched g (dispatch_under g i v x r e)) (nothing-at g closed.page w s.first x r e ∙ sym (nothing-at g closed.page v s.second x r e))
      ∙ sym (touched-in g (itself s.second) e closed x r h k)

  -- an outward event,
  pub outward-in : (w v : World) → IsSameView g w v → (o : Option OutwardEvent) → ((e : OutwardEvent) → o ≡ Some e → in_node g e.host ≡ true) →
      group_run g (outward_run w o) ≡ group_run g (outward_run v o)
  outward-in w v s None inside = ap (λ u. (u, [])) s.same
  outward-in w v s (Some e) inside =
      ap (group_run g) (run_each-one outward_in w e)
      ∙ ap (λ (d : Dispatched World). d.run) (dispatch-in s e.host None (outward_words e) (inside e refl) tt)
      ∙ ap (group_run g) (sym (run_each-one outward_in v e))

  -- which others let come to all visits,
  told-nothing : {i : Interference} (w : World) → IsQuiet w → i ≡ untouched → (o : Option OutwardEvent) →
      ((e : OutwardEvent) → o ≡ Some e → in_node g e.host ≡ true) → group_run g (outward_told g closed i.reached w o) ≡ group_run g (outward_run w o)
  told-nothing w q h None inside = refl
  told-nothing {i} w q h (Some e) inside =
      ap (λ (i : Interference). group_run g (outward_told g closed i.reached w (Some e))) h ∙ ap (group_run g) (run_each-one (outward_under g None) w e)
      ∙ ap (λ (d : Dispatched World). d.run)
      (ap (λ i. group_dispatched g (dispatch_under g i w e.host None (outward_words e))) (sym (nothing-at g closed.page w q e.host None (outward_words e)))
      ∙ sym (touched-in g (itself q) (outward_words e) closed e.host None (inside e refl) tt))
      ∙ ap (group_run g) (sym (run_each-one outward_in w e))

  -- and one of a component outside.
  module _ {w : World} (k : ComponentName) (q : IsQuiet w) (h : g (Component k) ≡ false) where
    -- which passes
    pub dispatched-out : (x : NodeWord) (e : EventWords) (r : Option NodeWord) →
        let c = Command.dispatch x e r in
        part_refusal (part_of w (Component k)) c ≡ None →
        group_run g (perform w (Component k) c) ≡ group_run g (outward_run w (outward_dispatch g w (Component k) c))
    dispatched-out x e r a =
        let p = part_of w (Component k) in
        let c = Command.dispatch x e r in
        touched_dispatch-out g closed (itself q) k h x e r a
        ∙ told-nothing w q (nothing-at g closed.page w q (named p x) (option_map (named p) r) e) (outward_dispatch g w (Component k) c)
        (event-inside g w (Component k) c)

  -- The ending of a turn,
  pub ending-in : (w v : World) → IsSameView g w v → group_run g (ending_turn w) ≡ group_run g (ending_turn v)
  ending-in w v s =
      both-follow v (ending_under g) _ _ (ending-nothing g closed.page w s.first) (ending-nothing g closed.page v s.second)
      (ending-follows g closed (same-world s)) (ending-follows g closed (itself s.second))

  -- before a line,
  ending_other-in : (w v : World) → IsSameView g w v → IsCalm g w → (o : Owner) → group_run g (ending_other_turn w o) ≡ group_run g (ending_other_turn v o)
  ending_other-in w v s calm o =
      both-follow v (λ t. ending_other_under g t o) _ _ (before-nothing g closed.page w s.first (no_command o))
      (before-nothing g closed.page v s.second (no_command o)) (λ rest. ending_other-follows g closed (same-world s) calm rest o)
      (λ rest. ending_other-follows g closed (itself s.second) (same-calm g closed w v s.same calm) rest o)

  -- and at the end of input.
  pub ending_any-in : (w v : World) → IsSameView g w v → IsCalm g w → group_run g (ending_any_turn w) ≡ group_run g (ending_any_turn v)
  ending_any-in w v s calm =
      both-follow v (ending_any_under g) _ _ (last-nothing w s.first) (last-nothing v s.second) (ending_any-follows g closed (same-world s) calm)
      (ending_any-follows g closed (itself s.second) (same-calm g closed w v s.same calm))
    where
      last-nothing : (w : World) → IsQuiet w → TellNothing (last_records g w)
      last-nothing w q = either_way TellNothing (is_some w.turn) (ending_records g w) [] (ending-nothing g closed.page w q) tt

  -- A line of the group,
  pub line-in : (w v : World) → IsSameView g w v → IsCalm g w → (l : Line) → is_of g (owner_of_line l) ≡ true → group_run g (step w l) ≡ group_run g (step v l)
  line-in w v s calm l h =
      both-follow v (λ t. step_under g t l) _ _ (line-nothing w s.first) (line-nothing v s.second) (line-follows g closed (same-world s) calm l h)
      (line-follows g closed (itself s.second) (same-calm g closed w v s.same calm) l h)
    where
      line-nothing : (w : World) → IsQuiet w → TellNothing (before_records g w l ++ own_records g w l)
      line-nothing w q =
          all-append (λ i. i ≡ untouched) (before_records g w l) (own_records g w l) (before-nothing g closed.page w q l) (own-nothing g closed.page w q l)

  -- which may stop an event in both worlds or in none,
  pub may_stop-in : (w v : World) → IsSameView g w v → IsCalm g w → (l : Line) → is_of g (owner_of_line l) ≡ true → line_may_stop w l ≡ line_may_stop v l
  may_stop-in w v s calm no_owner h = refl
  may_stop-in w v s calm (no_command o) h = refl
  may_stop-in w v s calm (command o c) h =
      let first = ending_other-in w v s calm o in
      may_stop-same (ending_other_turn w o).0 (ending_other_turn v o).0 o c
      (refusal-in g closed (ending_other_turn w o).0 (ending_other_turn v o).0 (ap (λ (r : Run World). r.0) first) o h c)

  -- and one of another owner, which ends no turn of the group.
  pub line-out : {w : World} → IsReached true w → IsWhole w → IsCalm g w → (l : Line) → is_of g (owner_of_line l) ≡ false → ends_group_turn g w l ≡ false →
      group_run g (step w l) ≡ group_run g (outward_run w (outward_event g w l))
  line-out {w} r k calm l h t =
      let q = sound w r in
      let any : IsReached false w = record { world = r.world; kinds = r.kinds; owners = r.owners; logs = λ e. absurd (true≢false (sym e)) } in
      let own = own_records g w l in
      let send : World → Run World = λ u. outward_told g closed (first_record own).reached u (outward_event g w l) in
      (others-alike g closed (itself q) any k calm l h).0
      ∙ ap (λ b. group_run g (run_then (ended_told g closed b w (before_records g w l)) send)) t
      ∙ told-nothing w q (first-nothing own (own-nothing g closed.page w q l)) (outward_event g w l) (event-host g w l)

-- slots
pub assigned-agree : AssignedAgree
assigned-agree g closed w i s h = assigned-in g closed w (ground-of w i) s h

-- signals
pub signals-agree : SignalsAgree
signals-agree g closed was now i j x around is_move = signals-group g closed (ground-of was i) (ground-of now j) x around is_move

-- steps
pub step-agrees : StepAgrees
step-agrees g closed o h w i s = step-in g closed o h w (ground-of w i) s

-- views
pub views-agree : ViewsAgree
views-agree g closed w i x related composed h k = views-in g closed w i x related h k composed

-- views of an event that goes out
pub outward_views-agree : OutwardViewsAgree
outward_views-agree g closed w i x host h e =
    let k = has-exit g closed w i x host e in
    views-exit g closed w i x host k ∙ views-in g closed w i host None k.inside tt true

-- a dispatch
pub dispatch-agrees : DispatchAgrees
dispatch-agrees g closed w v q p same x related e h k =
    let shown = dispatch-in g closed (record { first = q; second = p; same = same }) x related e h k in
    (ap (λ (d : Dispatched World). d.run) shown, ap (λ (d : Dispatched World). d.answer) shown)

-- of a component outside
pub other_dispatch-agrees : OtherDispatchAgrees
other_dispatch-agrees g closed w Page h q x e related r = absurd (true≢false (sym closed.page ∙ h))
other_dispatch-agrees g closed w (Component k) h q x e related r = dispatched-out g closed k q h x e related r

-- the ending of a turn
pub ending-agrees : EndingAgrees
ending-agrees g closed w v q p same = ending-in g closed w v (record { first = q; second = p; same = same })

-- lines
pub line-agrees : LineAgrees
line-agrees g closed w v q p same calm l h = line-in g closed w v (record { first = q; second = p; same = same }) calm l h

-- of others
pub other_line-agrees : OtherLineAgrees
other_line-agrees g closed w r k calm l h t = line-out g closed r k calm l h t

-- the end of input
pub finish-agrees : FinishAgrees
finish-agrees g closed w v q p same calm = ending_any-in g closed w v (record { first = q; second = p; same = same }) calm

-- The world of a script, and the one of its trace where all others are silent: of both the group has the same.
pub record IsPair (g : Owner → Bool) (closed : KeepsMakers g) (w v : World) : Type 0 where
  pub same : group_world g w ≡ group_world g v
  pub left : IsReached true w
  pub whole : IsWhole w
  pub right : IsQuiet v
  pub calm : IsCalm g w

-- the group sees the same in them
pair-view : {g : Owner → Bool} {closed : KeepsMakers g} {w v : World} → IsPair g closed w v → IsSameView g w v
pair-view {w} k = record { first = sound w k.left; second = k.right; same = k.same }

-- runs to two such worlds, of which the group has the same
pub record AreRuns (g : Owner → Bool) (closed : KeepsMakers g) (r s : Run World) : Type 0 where
  pub shown : group_run g r ≡ group_run g s
  pub pair : IsPair g closed r.0 s.0

module _ (g : Owner → Bool) (closed : KeepsMakers g) where
  -- an outward event keeps what the other run asks
  outward-quiet : (v : World) → IsQuiet v → (o : Option OutwardEvent) → IsQuiet (outward_run v o).0
  outward-quiet v p None = p
  outward-quiet v p (Some e) = quiet-dispatch v e.host None (outward_words e) p

  -- a line of which the group has what it has of another run
  line-shown : {w v : World} {r : Run World} → IsPair g closed w v → (l : Line) → line_may_stop w l ≡ false → group_run g (step w l) ≡ group_run g r →
      IsQuiet r.0 → IsCalm g (step w l).0 → AreRuns g closed (step w l) r
  line-shown {w} k l stops shown right calm = record {
    shown = shown;
    pair = record {
      same = ap (λ (q : Run World). q.0) shown;
      left = step-keeps_reached true w l k.left (λ e. stops);
      whole = step-keeps_whole true w l k.left k.whole;
      right = right;
      calm = calm;
    };
  }

  -- a line of the group
  line-own : (w v : World) → IsPair g closed w v → (l : Line) → line_may_stop w l ≡ false → is_of g (owner_of_line l) ≡ true →
      AreRuns g closed (step w l) (step v l)
  line-own w v k l stops h =
      line-shown k l stops (line-in g closed w v (pair-view k) k.calm l h)
      (quiet-step v l k.right (λ e. sym (may_stop-in g closed w v (pair-view k) k.calm l h) ∙ stops)) (calm-in g closed w k.calm l h)

  -- a line of another owner
  line-other : {w v : World} → IsPair g closed w v → (l : Line) → line_may_stop w l ≡ false → is_of g (owner_of_line l) ≡ false →
      ends_group_turn g w l ≡ false → AreRuns g closed (step w l) (outward_run v (outward_event g w l))
  line-other {w} {v} k l stops h t =
      let e = outward_event g w l in
      let own = line-out g closed k.left k.whole k.calm l h t in
      line-shown k l stops (own ∙ outward-in g closed w v (pair-view k) e (event-host g w l)) (outward-quiet v k.right e)
      (same-calm g closed (outward_run w e).0 (step w l).0 (sym (ap (λ (r : Run World). r.0) own)) (calm-outward g closed w k.calm e))

  module _ {L : Type 0} (read : L → Line) where
    -- an outward event as an item of the trace
    items-outward : (v : World) (o : Option OutwardEvent) → run_each (silent_step read) v (map outward (option_to_list o)) ≡ outward_run v o
    items-outward v None = refl
    items-outward v (Some e) = refl

    -- one line, by its items of the trace
    line-items : (w v : World) → IsPair g closed w v → (l : L) → line_may_stop w (read l) ≡ false → ends_group_turn g w (read l) ≡ false →
        AreRuns g closed (step w (read l)) (run_each (silent_step read) v (items_of read g w l))
    line-items w v k l stops t =
        let kept = is_of g (owner_of_line (read l)) in
        let others = map outward (option_to_list (outward_event g w (read l))) in
        let silent = run_each (silent_step read) v in
        by_cases kept
        (λ h. subst (AreRuns g closed (step w (read l)))
        (sym (ap silent (cond-true kept (line l ∷ []) others h) ∙ run_each-one (silent_step read) v (line l))) (line-own w v k (read l) stops h))
        (λ h. subst (AreRuns g closed (step w (read l)))
        (sym (ap silent (cond-false kept (line l ∷ []) others h) ∙ items-outward v (outward_event g w (read l)))) (line-other k (read l) stops h t))

    -- lines from a world on
    pub lines-group : (ls : List L) (w v : World) → IsPair g closed w v → no_component_stops_from read w ls ≡ true →
        group_turns_stand_from read g w ls ≡ true → AreRuns g closed (run_lines w (map read ls)) (run_each (silent_step read) v (trace_from read g w ls))
    lines-group [] w v k a b = record { shown = ap (λ u. (u, [])) k.same; pair = k }
    lines-group (l ∷ ls) w v k a b =
        let u = (step w (read l)).0 in
        let stops = and_parts (not (line_may_stop w (read l))) (no_component_stops_from read u ls) a in
        let stands = and_parts (not (ends_group_turn g w (read l))) (group_turns_stand_from read g u ls) b in
        let items = items_of read g w l in
        let rest = trace_from read g u ls in
        let first = line-items w v k l (not-true (line_may_stop w (read l)) stops.0) (not-true (ends_group_turn g w (read l)) stands.0) in
        let silent = run_each (silent_step read) v items in
        let later = lines-group ls u silent.0 first.pair stops.1 stands.1 in
        subst (AreRuns g closed (run_lines w (map read (l ∷ ls)))) (sym (run_each-append (silent_step read) v items rest))
        (record {
          shown = runs-then g closed (step w (read l)) silent (λ t. run_lines t (map read ls)) (λ t. run_each
              (silent_step read) t rest) first.shown later.shown;
          pair = later.pair;
        })

    -- the first world
    first-pair : IsPair g closed first_world first_world
    first-pair = record { same = refl; left = first-is_reached true; whole = first-is_whole; right = quiet-first; calm = λ h. refl }

    -- with the end of input
    pub group-sees : (ls : List L) → no_component_stops read ls ≡ true → group_turns_stand read g ls ≡ true →
        group_outputs g (output_of read ls) ≡ group_outputs g (silent_output read (trace_from read g first_world ls))
    group-sees ls a b =
        let k = lines-group ls first_world first_world first-pair a b in
        let all = run_lines first_world (map read ls) in
        let silent = run_each (silent_step read) first_world (trace_from read g first_world ls) in
        ap (λ (r : Run World). r.1)
        (runs-then g closed all silent finish finish k.shown
        (ending_any-in g closed all.0 silent.0 (record { first = sound all.0 k.pair.left; second = k.pair.right; same = k.pair.same }) k.pair.calm))

module _ {L : Type 0} (read : L → Line) where
  -- a group sees its trace
  pub group-sees_its_trace : GroupSeesItsTrace read
  group-sees_its_trace g closed ls a b = group-sees g closed read ls a b

  -- two scripts with one trace
  pub same-group : SameGroup read
  same-group g closed ls ms a b c d e =
      group-sees g closed read ls a c ∙ ap (λ items. group_outputs g (silent_output read items)) e ∙ sym (group-sees g closed read ms b d)
