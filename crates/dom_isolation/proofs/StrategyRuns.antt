-- A group that follows a strategy: its full trace is told by what others do to it, since the silent run hears what the script does, and so the strategy
-- gives the same lines.
use Rattle.dom_base.proofs.Std.{◌≡◌, ℕ, Bool, true, false, IsTrue, List, [], ◌∷◌, ◌++◌, map, flat_map, Option, Some, None, refl, sym, ap, ◌∙◌, subst, ⊤}
use Rattle.dom_base.proofs.Std.{append-nil, append_assoc, map-append, filter-append, option_to_list, if◌then◌else◌, cond-true, cond-false, AllByRecursion}
use Rattle.dom_base.proofs.Std.{true≢false, not-true}
use Rattle.dom_model.proofs.Model.{Owner, Line, Run, run_each, World, first_world, step, KeepsMakers, group_outputs, ends_group_turn, is_of}
use Rattle.dom_model.proofs.Model.{owner_of_line, outward_event, OutwardEvent, Output, owner_of_output, is_page}
use Rattle.dom_worlds.proofs.ListLemmas.{by_cases, all-append}
use Rattle.dom_isolation.specs.Definitions.{FullItem, line_with, outward_with, turn_ended, first_record, before_records, own_records, others_items, full_items}
use Rattle.dom_isolation.specs.Definitions.{full_trace_from, Interference, silent_step_under, Heard, said, told, Strategy, item_with}
use Rattle.dom_isolation.specs.Definitions.{heard_at, heard_from, FollowsFrom, EachFollowsFrom, SameByStrategies, SameByStrategy, SameToEndByStrategy}
use Rattle.dom_isolation.specs.Definitions.{SamePageByStrategy, Moment, other, asked}
use Rattle.dom_isolation.specs.Definitions.{played_from, IsOthers, PlaysFollow}
use Rattle.dom_isolation.proofs.Families.{page-is_group}
use Rattle.dom_isolation.proofs.TouchedRuns.{IsFullPair, pair-first, line-items, same-group_in_full}

-- Of a group, a reading, and what is told of the group's lines in place of them.
module _ (g : Owner → Bool) {L T : Type 0} (read : L → Line) (asked : L → T) where
  -- What is heard of an item in the silent run: a line, if it is one,
  abbrev said_in : FullItem L → List (Heard L)
  said_in (line_with l records) = said l ∷ []
  said_in (outward_with e reached) = []
  said_in (turn_ended records) = []

  -- and what the group is told
  abbrev heard_in : World → FullItem L → List (Heard L)
  heard_in v item = said_in item ++ map told (group_outputs g (silent_step_under g read v item).1)

  -- of items
  abbrev heard_silent : World → List (FullItem L) → List (Heard L)
  heard_silent v [] = []
  heard_silent v (item ∷ items) = heard_in v item ++ heard_silent (silent_step_under g read v item).0 items

  -- strategies, by what is told of the line
  abbrev Strategies : Type 0
  Strategies = T → Strategy L

  -- an item with the line that is said, if one is
  abbrev said_by : (T → Option L) → FullItem T → List (FullItem L)
  said_by o (line_with t records) = map (λ l. line_with l records) (option_to_list (o t))
  said_by o (outward_with e reached) = outward_with e reached ∷ []
  said_by o (turn_ended records) = turn_ended records ∷ []

  -- what others do, with the lines that strategies give in the silent run
  abbrev resaid : Strategies → List (Heard L) → World → List (FullItem T) → List (FullItem L)
  resaid next heard v [] = []
  resaid next heard v (item ∷ items) =
      flat_map (λ i. i ∷ resaid next (heard ++ heard_in v i) (silent_step_under g read v i).0 items) (said_by (λ t. next t heard) item)

  -- no line of the group
  abbrev IsNoLine : FullItem L → Type 0
  IsNoLine (line_with l records) = ⊥
  IsNoLine (outward_with e reached) = ⊤
  IsNoLine (turn_ended records) = ⊤

  -- one item
  resaid-one : (next : Strategies) (heard : List (Heard L)) (v : World) (i : FullItem L) (rest : List (FullItem T)) →
      said_by (λ t. next t heard) (item_with asked i) ≡ i ∷ [] →
      resaid next heard v (item_with asked i ∷ rest) ≡ i ∷ resaid next (heard ++ heard_in v i) (silent_step_under g read v i).0 rest
  resaid-one next heard v i rest e =
      let later : FullItem L → List (FullItem L) = λ i. i ∷ resaid next (heard ++ heard_in v i) (silent_step_under g read v i).0 rest in
      ap (flat_map later) e ∙ append-nil (later i)

  -- items that are no lines
  resaid-others : (next : Strategies) (is : List (FullItem L)) → AllByRecursion IsNoLine is → (heard : List (Heard L)) (v : World)
      (rest : List (FullItem T)) → resaid next heard v (map (item_with asked) is ++ rest)
      ≡ is ++ resaid next (heard ++ heard_silent v is) (run_each (silent_step_under g read) v is).0 rest
  resaid-others next [] none heard v rest = ap (λ h. resaid next h v rest) (sym (append-nil heard))
  resaid-others next (i ∷ is) none heard v rest =
      let u = (silent_step_under g read v i).0 in
      let end = (run_each (silent_step_under g read) u is).0 in
      resaid-one next heard v i (map (item_with asked) is ++ rest) (alone i none.0)
      ∙ ap (λ js. i ∷ js) (resaid-others next is none.1 (heard ++ heard_in v i) u rest
      ∙ ap (λ h. is ++ resaid next h end rest) (append_assoc heard (heard_in v i) (heard_silent u is)))
    where
      alone : (i : FullItem L) → IsNoLine i → said_by (λ t. next t heard) (item_with asked i) ≡ i ∷ []
      alone (line_with l records) h = absurd h
      alone (outward_with e reached) h = refl
      alone (turn_ended records) h = refl

  -- what is heard of more items
  heard-append : (is js : List (FullItem L)) (v : World) →
      heard_silent v (is ++ js) ≡ heard_silent v is ++ heard_silent (run_each (silent_step_under g read) v is).0 js
  heard-append [] js v = refl
  heard-append (i ∷ is) js v =
      let u = (silent_step_under g read v i).0 in
      ap (λ hs. heard_in v i ++ hs) (heard-append is js u)
      ∙ sym (append_assoc (heard_in v i) (heard_silent u is) (heard_silent (run_each (silent_step_under g read) u is).0 js))

  -- of items that are no lines it is what the group is told
  heard-others : (is : List (FullItem L)) → AllByRecursion IsNoLine is → (v : World) →
      heard_silent v is ≡ map told (group_outputs g (run_each (silent_step_under g read) v is).1)
  heard-others [] none v = refl
  heard-others (i ∷ is) none v =
      let r = silent_step_under g read v i in
      let later = run_each (silent_step_under g read) r.0 is in
      let outputs = group_outputs g r.1 in
      ap (λ hs. heard_in v i ++ hs) (heard-others is none.1 r.0)
      ∙ ap (λ ss. (ss ++ map told outputs) ++ map told (group_outputs g later.1)) (unsaid i none.0)
      ∙ sym (map-append told outputs (group_outputs g later.1))
      ∙ ap (map told) (sym (filter-append (λ l. is_of g (owner_of_output l)) r.1 later.1))
    where
      unsaid : (i : FullItem L) → IsNoLine i → said_in i ≡ []
      unsaid (line_with l records) h = absurd h
      unsaid (outward_with e reached) h = refl
      unsaid (turn_ended records) h = refl

  -- what a line of another gives are no lines
  others-no_lines : (w : World) (l : L) → AllByRecursion IsNoLine (others_items read g w l)
  others-no_lines w l =
      let before = before_records g w (read l) in
      let reached = (first_record (own_records g w (read l))).reached in
      all-append IsNoLine (if ends_group_turn g w (read l) then turn_ended before ∷ [] else [])
      (map (λ e. outward_with e reached) (option_to_list (outward_event g w (read l)))) (ended (ends_group_turn g w (read l)) before)
      (sent reached (outward_event g w (read l)))
    where
      ended : (b : Bool) (records : List Interference) → AllByRecursion IsNoLine (if b then turn_ended records ∷ [] else [])
      ended true records = (tt, tt)
      ended false records = tt

      sent : (reached : Option ℕ) (o : Option OutwardEvent) → AllByRecursion IsNoLine (map (λ e. outward_with e reached) (option_to_list o))
      sent reached None = tt
      sent reached (Some e) = (tt, tt)

  -- What is heard at a line is what the silent run hears of its items; and with the line that a strategy gives these items come of what others do.
  record IsHeard (next : Strategies) (heard : List (Heard L)) (w v : World) (l : L) : Type 0 where
    same : heard_at read g w l ≡ heard_silent v (full_items read g w l)
    again : (rest : List (FullItem T)) → resaid next heard v (map (item_with asked) (full_items read g w l) ++ rest)
        ≡ full_items read g w l ++ resaid next (heard ++ heard_silent v (full_items read g w l))
        (run_each (silent_step_under g read) v (full_items read g w l)).0 rest

module _ (g : Owner → Bool) (closed : KeepsMakers g) {L T : Type 0} (read : L → Line) (asked : L → T) (next : T → Strategy L) where
  -- one line
  line-heard : (heard : List (Heard L)) (w v : World) → IsFullPair g w v → (l : L) →
      (IsTrue (is_of g (owner_of_line (read l))) → next (asked l) heard ≡ Some l) → IsHeard g read asked next heard w v l
  line-heard heard w v k l follows = by_cases kept mine theirs
    where
      kept : Bool
      kept = is_of g (owner_of_line (read l))

      records : List Interference
      records = before_records g w (read l) ++ own_records g w (read l)

      outputs : List Output
      outputs = group_outputs g (step w (read l)).1

      -- what the group is told is what it is told in the silent run
      shown : outputs ≡ group_outputs g (run_each (silent_step_under g read) v (full_items read g w l)).1
      shown = ap (λ (r : Run World). r.1) (line-items g closed read w v k l).shown

      -- of a line of the group
      mine : kept ≡ true → IsHeard g read asked next heard w v l
      mine h =
          let items : full_items read g w l ≡ line_with l records ∷ [] = cond-true kept (line_with l records ∷ []) (others_items read g w l) h in
          let r = silent_step_under g read v (line_with l records) in
          record {
            same =
                ap (λ hs. hs ++ map told outputs) (cond-true kept (said l ∷ []) [] h)
                ∙ ap (λ os. said l ∷ map told os) (shown ∙ ap (λ is. group_outputs g (run_each (silent_step_under g read) v is).1) items
                ∙ ap (group_outputs g) (append-nil r.1))
                ∙ sym (append-nil (said l ∷ map told (group_outputs g r.1))) ∙ sym (ap (heard_silent g read asked v) items);
            again = λ rest.
                subst (λ is. resaid g read asked next heard v (map (item_with asked) is ++ rest)
                ≡ is ++ resaid g read asked next (heard ++ heard_silent g read asked v is) (run_each (silent_step_under g read) v is).0 rest) (sym items)
                (resaid-one g read asked next heard v (line_with l records) rest (ap (λ o. map (λ m. line_with m records) (option_to_list o)) (follows h))
                ∙ ap (λ hs. line_with l records ∷ resaid g read asked next (heard ++ hs) r.0 rest)
                (sym (append-nil (heard_in g read asked v (line_with l records)))));
          }

      -- of another's
      theirs : kept ≡ false → IsHeard g read asked next heard w v l
      theirs h =
          let others = others_items read g w l in
          let items : full_items read g w l ≡ others = cond-false kept (line_with l records ∷ []) others h in
          let none = others-no_lines g read asked w l in
          record {
            same =
                ap (λ hs. hs ++ map told outputs) (cond-false kept (said l ∷ []) [] h)
                ∙ ap (map told) (shown ∙ ap (λ is. group_outputs g (run_each (silent_step_under g read) v is).1) items)
                ∙ sym (heard-others g read asked others none v) ∙ sym (ap (heard_silent g read asked v) items);
            again = λ rest.
                subst (λ is. resaid g read asked next heard v (map (item_with asked) is ++ rest)
                ≡ is ++ resaid g read asked next (heard ++ heard_silent g read asked v is) (run_each (silent_step_under g read) v is).0 rest) (sym items)
                (resaid-others g read asked next others none heard v rest);
          }

  -- the lines of the group follow the strategies
  abbrev pub AreFollowed : List (Heard L) → World → List L → Type 0
  AreFollowed heard w [] = ⊤
  AreFollowed heard w (l ∷ ls) =
      (IsTrue (is_of g (owner_of_line (read l))) → next (asked l) heard ≡ Some l) × AreFollowed (heard ++ heard_at read g w l) (step w (read l)).0 ls

  -- The full trace is what others do, with the lines that the strategies give;
  pub trace-resaid : (ls : List L) (heard : List (Heard L)) (w v : World) → IsFullPair g w v → AreFollowed heard w ls →
      full_trace_from read g w ls ≡ resaid g read asked next heard v (map (item_with asked) (full_trace_from read g w ls))
  trace-resaid [] heard w v k f = refl
  trace-resaid (l ∷ ls) heard w v k f =
      let u = (step w (read l)).0 in
      let items = full_items read g w l in
      let rest = full_trace_from read g u ls in
      let end = (run_each (silent_step_under g read) v items).0 in
      let one = line-heard heard w v k l f.0 in
      let later = trace-resaid ls (heard ++ heard_at read g w l) u end (line-items g closed read w v k l).pair f.1 in
      ap (λ is. items ++ is) (later ∙ ap (λ hs. resaid g read asked next (heard ++ hs) end (map (item_with asked) rest)) one.same)
      ∙ sym (ap (resaid g read asked next heard v) (map-append (item_with asked) items rest) ∙ one.again (map (item_with asked) rest))

module _ (g : Owner → Bool) (closed : KeepsMakers g) {L T : Type 0} (read : L → Line) (asked : L → T) where
  -- and what is heard is what the silent run hears.
  heard-silent : (ls : List L) (w v : World) → IsFullPair g w v → heard_from read g w ls ≡ heard_silent g read asked v (full_trace_from read g w ls)
  heard-silent [] w v k = refl
  heard-silent (l ∷ ls) w v k =
      let u = (step w (read l)).0 in
      let items = full_items read g w l in
      let rest = full_trace_from read g u ls in
      let end = (run_each (silent_step_under g read) v items).0 in
      let one = line-heard g closed read asked (λ t hs. Some l) [] w v k l (λ t. refl) in
      ap (λ hs. hs ++ heard_from read g u ls) one.same
      ∙ ap (λ hs. heard_silent g read asked v items ++ hs) (heard-silent ls u end (line-items g closed read w v k l).pair)
      ∙ sym (heard-append g read asked items rest v)

  -- So two scripts that follow the strategies are one to the group.
  same-asked : (next : T → Strategy L) (ls ms : List L) → AreFollowed g closed read asked next [] first_world ls →
      AreFollowed g closed read asked next [] first_world ms →
      map (item_with asked) (full_trace_from read g first_world ls) ≡ map (item_with asked) (full_trace_from read g first_world ms) →
      (heard_from read g first_world ls ≡ heard_from read g first_world ms)
      × (full_trace_from read g first_world ls ≡ full_trace_from read g first_world ms)
  same-asked next ls ms f h e =
      let start = pair-first g in
      let traces = trace-resaid g closed read asked next ls [] first_world first_world start f ∙ ap (resaid g read asked next [] first_world) e
      ∙ sym (trace-resaid g closed read asked next ms [] first_world first_world start h) in (
        heard-silent ls first_world first_world start ∙ ap (heard_silent g read asked first_world) traces
            ∙ sym (heard-silent ms first_world first_world start),
        traces,
      )

module _ {L : Type 0} (read : L → Line) where
  -- one strategy
  module _ (g : Owner → Bool) (closed : KeepsMakers g) (next : Strategy L) where
    -- as strategies that are told of no line
    as-asked : (ls : List L) (heard : List (Heard L)) (w : World) → FollowsFrom read g next heard w ls →
        AreFollowed g closed read (λ l. tt) (λ (t : Unit {0}). next) heard w ls
    as-asked [] heard w f = tt
    as-asked (l ∷ ls) heard w f = (f.0, as-asked ls (heard ++ heard_at read g w l) (step w (read l)).0 f.1)

  -- two scripts that follow it
  pub same-by_strategy : SameByStrategy read
  same-by_strategy g closed next ls ms f h e =
      same-asked g closed read (λ l. tt) (λ (t : Unit {0}). next) ls ms (as-asked g closed next ls [] first_world f)
      (as-asked g closed next ms [] first_world h) e

  -- a strategy for each owner
  module _ (g : Owner → Bool) (closed : KeepsMakers g) (next : Owner → Strategy L) where
    -- of whoever speaks
    abbrev of_speaker : Option Owner → Strategy L
    of_speaker None heard = None
    of_speaker (Some o) heard = next o heard

    -- as strategies that are told who speaks
    each-asked : (ls : List L) (heard : List (Heard L)) (w : World) → EachFollowsFrom read g next heard w ls →
        AreFollowed g closed read (λ l. owner_of_line (read l)) of_speaker heard w ls
    each-asked [] heard w f = tt
    each-asked (l ∷ ls) heard w f = (from (owner_of_line (read l)) f.0, each-asked ls (heard ++ heard_at read g w l) (step w (read l)).0 f.1)
      where
        from : (m : Option Owner) → ((o : Owner) → m ≡ Some o → IsTrue (g o) → next o heard ≡ Some l) → IsTrue (is_of g m) → of_speaker m heard ≡ Some l
        from None a h = absurd (true≢false (sym h))
        from (Some o) a h = a o refl h

  -- two scripts in which each owner follows its own
  pub same-by_strategies : SameByStrategies read
  same-by_strategies g closed next ls ms f h e =
      same-asked g closed read (λ l. owner_of_line (read l)) (of_speaker g closed next) ls ms (each-asked g closed next ls [] first_world f)
      (each-asked g closed next ms [] first_world h) e

  -- to their ends
  pub same-to_end_by_strategy : SameToEndByStrategy read
  same-to_end_by_strategy g closed next ls ms f h e last =
      same-group_in_full read g closed ls ms ((same-by_strategy g closed next ls ms f h e).1, last)

  -- of the page
  pub same-page_by_strategy : SamePageByStrategy read
  same-page_by_strategy next ls ms f h e = same-by_strategy is_page page-is_group next ls ms f h e

module _ {L : Type 0} (read : L → Line) (g : Owner → Bool) (next : Strategy L) where
  -- A play follows its strategy.
  plays : (moments : List (Moment L)) (heard : List (Heard L)) (w : World) → AllByRecursion (IsOthers read g next) moments →
      FollowsFrom read g next heard w (played_from read g next heard w moments)
  plays [] heard w h = tt
  plays (other l ∷ moments) heard w h = (
    λ t. absurd (true≢false (sym t ∙ not-true (is_of g (owner_of_line (read l))) h.0)),
    plays moments (heard ++ heard_at read g w l) (step w (read l)).0 h.1,
  )
  plays (asked ∷ moments) heard w h = from (next heard) refl (λ hs v. plays moments hs v h.1)
    where
      from : (o : Option L) → next heard ≡ o → ((hs : List (Heard L)) (v : World) → FollowsFrom read g next hs v (played_from read g next hs v moments)) →
          FollowsFrom read g next heard w (elim o as (λ x. List L) [
            | None ↦ played_from read g next heard w moments
            | Some l ↦ l ∷ played_from read g next (heard ++ heard_at read g w l) (step w (read l)).0 moments
          ])
      from None e later = later heard w
      from (Some l) e later = (λ t. e, later (heard ++ heard_at read g w l) (step w (read l)).0)

  -- from the first world on
  pub plays-follow : PlaysFollow read g next
  plays-follow moments h = plays moments [] first_world h
