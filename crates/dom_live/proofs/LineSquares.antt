-- One line of the line protocol, and the lines of live documents that stand for it: they lead to the same world, and answer the same.
use Rattle.dom_base.proofs.Std.{◌≡◌, Bool, true, false, not, ◌&&◌, List, [], ◌∷◌, ◌++◌, map, Option, Some, None, refl, sym, ap, ◌∙◌, true≢false, subst}
use Rattle.dom_base.proofs.Std.{cond-true, cond-false, if◌then◌else◌, map-append, append-nil, option_or, option_map, and-false}
use Rattle.dom_base.proofs.Std.{option_map_or, and_parts}
use Rattle.dom_model.proofs.Model.{Owner, Page, Component, Word, World, Part, part_of, is_there, Command, Line, no_owner, no_command}
use Rattle.dom_model.proofs.Model.{command, Refusal, Syntax, Busy, Foreign, Unknown, Limit, refusal, refused, says, perform, accepted, run_command, step}
use Rattle.dom_model.proofs.Model.{unless_refused, Run, quiet, run_then, nothing, named, EventWords, NodeWord, owner_eq, is_command_of, names_foreign}
use Rattle.dom_model.proofs.Model.{part_refusal, first_refusal, ending_turn, ending_other_turn, has_other_turn, is_busy, is_page_turn, owner-part_of, name_eq}
use Rattle.dom_model.proofs.Model.{opening_turn, dispatch_in, with_listener_removed, turn-ending_turn, replied, a_truth}
use Rattle.dom_model.proofs.Model.{is_other_component}
use Rattle.dom_worlds.specs.Definitions.{IsReached}
use Rattle.dom_worlds.proofs.ListLemmas.{by_cases, all-append}
use Rattle.dom_worlds.proofs.OwnerLemmas.{owner-named}
use Rattle.dom_worlds.proofs.CommandLemmas.{accepted-facts}
use Rattle.dom_worlds.proofs.TurnLemmas.{at_end, quiet-at_end}
use Rattle.dom_worlds.proofs.WorldLemmas.{ending-keeps_reached}
use Rattle.dom_live.specs.Lines.{LiveLine, LiveRun, plain, said, wordless, checkpoint, written, still, and_then, unless_denied}
use Rattle.dom_live.specs.Frames.{Checkpoint, asked_by, of_loop, a_checkpoint}
use Rattle.dom_live.specs.Documents.{Live, world_documents}
use Rattle.dom_live.specs.SmallSteps.{checked}
use Rattle.dom_live.specs.Runs.{ran}
use Rattle.dom_live.specs.Machine.{is_at_limit, plain_refusal, plain_accepted, live_step, live_lines}
use Rattle.dom_live.specs.LineScripts.{without_turn, is_kept_out, as_live_lines, carried_out}
use Rattle.dom_live.proofs.ToldRuns.{then-then, then-still}
use Rattle.dom_live.proofs.Rested.{with_rest, tasks-rested}
use Rattle.dom_live.proofs.Visited.{there-rested}
use Rattle.dom_live.proofs.StillRuns.{quiet_live, leads-ran}
use Rattle.dom_live.proofs.StillParts.{written-there}
use Rattle.dom_live.proofs.StillEvents.{event-goes}
use Rattle.dom_live.proofs.StillTasks.{tasks-end, NoneIsLive}
use Rattle.dom_live.proofs.OncePending.{IsTidy, tidy-ending_other}
use Rattle.dom_live.proofs.TurnedCommands.{IsNoEnd, opened-turned}

-- Live documents with the world of the line protocol, in which no turn is open and nothing is live or under way.
abbrev pub lines_live : World → List (Owner × Bool) → Live World
lines_live w tasks = quiet_live (without_turn w) tasks [] false

-- A run of live documents that leads to such ones, and answers what a run of the line protocol answers.
pub record GoesAs (r : LiveRun (Live World)) (m : Run World) : Type 0 where
  pub left : List (Owner × Bool)
  pub none : NoneIsLive left
  pub goes : r ≡ (lines_live m.0 left, map written m.1)

-- one run, and then another
pub goes-then : (r : LiveRun (Live World)) (m : Run World) (f : Live World → LiveRun (Live World)) (h : World → Run World) → GoesAs r m →
    ((tasks : List (Owner × Bool)) → NoneIsLive tasks → GoesAs (f (lines_live m.0 tasks)) (h m.0)) → GoesAs (and_then r f) (run_then m h)
goes-then r m f h g k =
    let next = k g.left g.none in
    record {
      left = next.left;
      none = next.none;
      goes =
          ap (λ (r : LiveRun (Live World)). and_then r f) g.goes
          ∙ ap (λ (s : LiveRun (Live World)). (s.0, map written m.1 ++ s.1)) next.goes
          ∙ ap (λ ls. (lines_live (h m.0).0 next.left, ls)) (sym (map-append written m.1 (h m.0).1));
    }

-- tasks end where they run
pub tasks-at_end : (w : World) → with_rest (ending_turn w).0 [] None ≡ (ending_turn w).0
tasks-at_end w = sym (ap (λ (r : Run World). r.0) (tasks-rested [] None w.tasks (at_end w)))

-- Of a world as the document machine reaches it.
module _ (w : World) (tasks : List (Owner × Bool)) (no_live : NoneIsLive tasks) (i : IsReached false w) (tidy : IsTidy w) where
  -- live documents with its world
  abbrev stands : Live World
  stands = lines_live w tasks

  -- What a checkpoint comes to.
  pub record Checks (c : Checkpoint) (over : Bool) : Type 0 where
    pub left : List (Owner × Bool)
    pub none : NoneIsLive left
    pub goes : ran world_documents (quiet_live (without_turn w) tasks (a_checkpoint c ∷ []) over)
        ≡ (quiet_live (without_turn (ending_turn w).0) left [] over, map written (ending_turn w).1 ++ checked c)

  -- it comes to the end of a turn
  pub checks : (c : Checkpoint) (over : Bool) → Checks c over
  checks c over =
      let end = tasks-end c over w.tasks (at_end w) tasks
      (record { none = no_live; world = quiet-at_end w (record { world = i.world; logs = i.logs }); tidy = tidy }) i.owners.tasks in
      record {
        left = end.left;
        none = end.none;
        goes =
            leads-ran end.leads refl
            ∙ ap (λ u. (quiet_live (without_turn u) end.left [] over, map written (ending_turn w).1 ++ checked c)) (tasks-at_end w);
      }

  -- the event loop's checkpoint
  loop-goes : GoesAs (live_step world_documents stands checkpoint) (ending_turn w)
  loop-goes =
      let k = checks of_loop false in
      record {
        left = k.left;
        none = k.none;
        goes = k.goes ∙ ap (λ ls. (lines_live (ending_turn w).0 k.left, ls)) (append-nil (map written (ending_turn w).1));
      }

  -- before a line of an owner
  ended-goes : (o : Owner) → GoesAs (live_lines world_documents stands (if has_other_turn w o then checkpoint ∷ [] else [])) (ending_other_turn w o)
  ended-goes o = from (has_other_turn w o)
    where
      from : (b : Bool) → GoesAs (live_lines world_documents stands (if b then checkpoint ∷ [] else [])) (if b then ending_turn w else quiet w)
      from true =
          subst (λ r. GoesAs r (ending_turn w)) (sym (then-still (live_step world_documents stands checkpoint))) loop-goes
      from false = record { left = tasks; none = no_live; goes = refl }

  -- A command of an owner.
  module _ (o : Owner) where
    -- its part
    abbrev p : Part
    p = part_of w o

    -- a command that opens a turn
    performs : (c : Command) → IsNoEnd c → (left : List (Owner × Bool)) → NoneIsLive left → (r : LiveRun (Live World)) →
        r ≡ (quiet_live (perform (without_turn w) o c).0 left [] false, map written (perform (without_turn w) o c).1) →
        GoesAs r (perform (opening_turn w o) o c)
    performs c n left h r e = record {
      left = left;
      none = h;
      goes = e ∙ ap (λ (m : Run World). (quiet_live m.0 left [] false, map written m.1)) (sym (opened-turned w o c n));
    }

    -- a dispatch
    dispatch-goes : (x : NodeWord) (e : EventWords) (r : Option NodeWord) →
        GoesAs (and_then (plain_accepted world_documents stands o (Command.dispatch x e r)) (ran world_documents)) (accepted w o (Command.dispatch x e r))
    dispatch-goes x e r =
        let y = named p x in
        let near = option_map (named p) r in
        let d = dispatch_in (without_turn w) y near e in
        performs (Command.dispatch x e r) tt tasks no_live _
        (leads-ran (event-goes [] (λ z event label capture. refl) tasks false (without_turn w) e (Some o) [] y near
        (there-rested w i.world w.tasks None y near e)) refl
        ∙ ap (λ ls. (quiet_live d.run.0 tasks [] false, ls)) (sym (map-append written d.run.1 (says o (replied (a_truth d.answer)) ∷ []))))

    -- a listener is removed
    unlisten-goes : (x : NodeWord) (event label : Word) (capture : Bool) → is_there w o ≡ true →
        GoesAs (and_then (plain_accepted world_documents stands o (Command.unlisten x event label capture)) (ran world_documents))
        (accepted w o (Command.unlisten x event label capture))
    unlisten-goes x event label capture h =
        let y = named p x in
        let q : Owner → Part = λ a. let r = part_of w a in record r { listeners = with_listener_removed name_eq y event label capture r.listeners } in
        let line = written (says o (replied nothing)) in
        performs (Command.unlisten x event label capture) tt tasks no_live _
        (ap (λ a. (quiet_live (world_documents.with_part (without_turn w) (q a)) tasks [] false, line ∷ [])) (owner-named p x ∙ owner-part_of w o)
        ∙ ap (λ u. (quiet_live u tasks [] false, line ∷ [])) (written-there (without_turn w) (q o) o (owner-part_of w o) h))

    -- the owner's own checkpoint
    end-goes : GoesAs (and_then (plain_accepted world_documents stands o Command.end_turn) (ran world_documents)) (accepted w o Command.end_turn)
    end-goes =
        let k = checks (asked_by o) false in
        record {
          left = k.left;
          none = k.none;
          goes = k.goes ∙ ap (λ ls. (lines_live (ending_turn w).0 k.left, ls)) (sym (map-append written (ending_turn w).1 (says o (replied nothing) ∷ [])));
        }

    -- any that is accepted
    command-goes : (c : Command) → is_there w o ≡ true →
        GoesAs (and_then (plain_accepted world_documents stands o c) (ran world_documents)) (accepted w o c)
    command-goes (Command.dispatch x e r) h = dispatch-goes x e r
    command-goes (Command.unlisten x event label capture) h = unlisten-goes x event label capture h
    command-goes (Command.micro label) h =
        performs (Command.micro label) tt (tasks ++ (o, false) ∷ [])
        (all-append (λ (e : Owner × Bool). e.1 ≡ false) tasks ((o, false) ∷ []) no_live (refl, tt)) _ refl
    command-goes Command.end_turn h = end-goes
    command-goes c h = performs c tt tasks no_live _ (ap (λ ls. (quiet_live (perform (without_turn w) o c).0 tasks [] false, ls)) (append-nil _))

    -- why it is refused
    plain-refused : (c : Command) → plain_refusal world_documents stands o c ≡ refusal (without_turn w) o c
    plain-refused (Command.dispatch x e r) = from (refusal (without_turn w) o (Command.dispatch x e r))
      where
        from : (m : Option Refusal) → option_or m (first_refusal ((is_at_limit o [], Limit) ∷ [])) ≡ m
        from None = refl
        from (Some r) = refl
    plain-refused c = refl

    -- but that it is busy
    free-refused : (c : Command) → is_kept_out w (command o c) ≡ false → refusal (without_turn w) o c ≡ refusal w o c
    free-refused c h = from (is_command_of o c) (is_busy w o) h
      where
        why : Bool → Bool → Option Refusal
        why a b = option_or
            (first_refusal ((not a, Syntax) ∷ (b, Busy) ∷ (names_foreign c, Foreign) ∷ (not (is_there w o), Unknown) ∷ []))
            (part_refusal (part_of w o) c)

        from : (a b : Bool) → (a && b) ≡ false → why a false ≡ why a b
        from true b h = ap (why true) (sym h)
        from false b h = refl

    -- a command, refused or accepted
    said-goes : (c : Command) → is_kept_out w (command o c) ≡ false →
        GoesAs (live_step world_documents stands (said o (plain c))) (run_command o c w)
    said-goes c h =
        subst (λ m. GoesAs (and_then (unless_denied o m stands (plain_accepted world_documents stands o c)) (ran world_documents)) (run_command o c w))
        (sym (plain-refused c))
        (subst (λ m. GoesAs (and_then (unless_denied o (refusal (without_turn w) o c) stands (plain_accepted world_documents stands o c)) (ran world_documents))
        (unless_refused o m w (accepted w o c))) (free-refused c h) (by (refusal (without_turn w) o c) refl))
      where
        by : (m : Option Refusal) → refusal (without_turn w) o c ≡ m →
            GoesAs (and_then (unless_denied o m stands (plain_accepted world_documents stands o c)) (ran world_documents))
            (unless_refused o m w (accepted w o c))
        by (Some r) e = record { left = tasks; none = no_live; goes = refl }
        by None e = command-goes c (accepted-facts (without_turn w) o c e).there

-- lines, and then more
pub lines-append : (xs ys : List LiveLine) (s : Live World) →
    live_lines world_documents s (xs ++ ys) ≡ and_then (live_lines world_documents s xs) (λ t. live_lines world_documents t ys)
lines-append [] ys s = refl
lines-append (x ∷ xs) ys s =
    let first = live_step world_documents s x in
    ap (λ (r : LiveRun (Live World)). (r.0, first.1 ++ r.1)) (lines-append xs ys first.0)
    ∙ sym (then-then first (λ t. live_lines world_documents t xs) (λ t. live_lines world_documents t ys))

-- in the page's turn no other turn is open
page-turn_alone : (w : World) (o : Owner) → is_busy w o ≡ true → has_other_turn w o ≡ false
page-turn_alone w o h = from w.turn h
  where
    from : (t : Option Owner) → (is_page_turn t && not (owner_eq o Page)) ≡ true → option_map_or (is_other_component o) t false ≡ false
    from None h = absurd (true≢false (sym h))
    from (Some Page) h = refl
    from (Some (Component k)) h = absurd (true≢false (sym h))

-- a line that is not kept out is not kept out once another's turn is ended
ended-free : (w : World) (o : Owner) (c : Command) → is_kept_out w (command o c) ≡ false → is_kept_out (ending_other_turn w o).0 (command o c) ≡ false
ended-free w o c h = from (has_other_turn w o)
  where
    from : (b : Bool) → is_kept_out (if b then ending_turn w else quiet w).0 (command o c) ≡ false
    from true = ap (λ t. is_command_of o c && (is_page_turn t && not (owner_eq o Page))) (turn-ending_turn w) ∙ and-false (is_command_of o c)
    from false = h

-- a line that is kept out is refused, and ends no turn
pub kept-out_busy : (w : World) (o : Owner) (c : Command) → is_kept_out w (command o c) ≡ true → step w (command o c) ≡ (w, says o (refused Busy) ∷ [])
kept-out_busy w o c h =
    let both = and_parts (is_command_of o c) (is_busy w o) h in
    let why : Bool → Bool → Option Refusal = λ a b. option_or
    (first_refusal ((not a, Syntax) ∷ (b, Busy) ∷ (names_foreign c, Foreign) ∷ (not (is_there w o), Unknown) ∷ []))
    (part_refusal (part_of w o) c) in
    ap (λ (r : Run World). run_then r (run_command o c)) (cond-false (has_other_turn w o) (ending_turn w) (quiet w) (page-turn_alone w o both.1))
    ∙ ap (λ m. unless_refused o m w (accepted w o c)) (ap (λ a. why a (is_busy w o)) both.0 ∙ ap (why true) both.1)

-- Any line.
pub line-goes : (w : World) (tasks : List (Owner × Bool)) → NoneIsLive tasks → IsReached false w → IsTidy w → (l : Line) →
    GoesAs (live_lines world_documents (lines_live w tasks) (as_live_lines w l)) (carried_out w l)
line-goes w tasks none i y no_owner = record { left = tasks; none = none; goes = refl }
line-goes w tasks none i y (no_command o) =
    let before = if has_other_turn w o then checkpoint ∷ [] else [] in
    subst (λ r. GoesAs r (step w (no_command o))) (sym (lines-append before (wordless o ∷ []) (lines_live w tasks)))
    (goes-then (live_lines world_documents (lines_live w tasks) before) (ending_other_turn w o) (λ t. live_lines world_documents t (wordless o ∷ []))
    (λ u. (u, says o (refused Syntax) ∷ [])) (ended-goes w tasks none i y o) (λ left h. record { left = left; none = h; goes = refl }))
line-goes w tasks none i y (command o c) = by_cases (is_kept_out w (command o c)) kept free
  where
    before : List LiveLine
    before = if has_other_turn w o then checkpoint ∷ [] else []

    lines : Bool → List LiveLine
    lines b = before ++ (if b then [] else said o (plain c) ∷ [])

    kept : is_kept_out w (command o c) ≡ true → GoesAs (live_lines world_documents (lines_live w tasks) (as_live_lines w (command o c)))
        (carried_out w (command o c))
    kept h =
        subst (λ ls. GoesAs (live_lines world_documents (lines_live w tasks) ls) (carried_out w (command o c)))
        (sym (ap (λ b. (if b then checkpoint ∷ [] else []) ++ (if is_kept_out w (command o c) then [] else said o (plain c) ∷ []))
        (page-turn_alone w o (and_parts (is_command_of o c) (is_busy w o) h).1)
        ∙ ap (λ b. if b then [] else said o (plain c) ∷ []) h))
        (subst (λ m. GoesAs (still (lines_live w tasks)) m) (sym (cond-true (is_kept_out w (command o c)) (quiet w) (step w (command o c)) h))
        (record { left = tasks; none = none; goes = refl }))

    free : is_kept_out w (command o c) ≡ false → GoesAs (live_lines world_documents (lines_live w tasks) (as_live_lines w (command o c)))
        (carried_out w (command o c))
    free h =
        subst (λ ls. GoesAs (live_lines world_documents (lines_live w tasks) ls) (carried_out w (command o c))) (sym (ap lines h))
        (subst (λ m. GoesAs (live_lines world_documents (lines_live w tasks) (lines false)) m)
        (sym (cond-false (is_kept_out w (command o c)) (quiet w) (step w (command o c)) h))
        (subst (λ r. GoesAs r (step w (command o c))) (sym (lines-append before (said o (plain c) ∷ []) (lines_live w tasks)))
        (goes-then (live_lines world_documents (lines_live w tasks) before) (ending_other_turn w o)
        (λ t. live_lines world_documents t (said o (plain c) ∷ [])) (run_command o c) (ended-goes w tasks none i y o)
        (λ left n. subst (λ r. GoesAs r (run_command o c (ending_other_turn w o).0))
        (sym (then-still (live_step world_documents (lines_live (ending_other_turn w o).0 left) (said o (plain c)))))
        (said-goes (ending_other_turn w o).0 left n (ending-keeps_reached false w o i) (tidy-ending_other w o y) o c (ended-free w o c h))))))
