-- What the page sees of a run, and of steps: those of the page are its own, those of components are none. Visits at page nodes do what they do alone, so what
-- the page sees of a dispatch is what its first visits at page nodes do, as many as others let it come to.
use Rattle.dom_base.proofs.Std.{true≢false, ◌≡◌, ◌≢◌, Bool, true, false, List, [], ◌∷◌, filter, fold, Option, Some, None, refl, ap, ◌∙◌, ◌++◌, map, sym, not}
use Rattle.dom_base.proofs.Std.{option_map, subst, AllByRecursion, list_any, filter-append, cond-true, cond-false}
use Rattle.dom_model.proofs.Model.{Owner, Page, Component, NodeName, max_depth, owner_eq, name_eq, parent_of, Step, place, take_out, set_document}
use Rattle.dom_model.proofs.Model.{set_attribute, queue_record, is_taken, World, Task, micro_task, notify_task, part_of, is_notify_of, queued_notify}
use Rattle.dom_model.proofs.Model.{with_notify, components_below, shadow_root_of, with_part, signals, with_signal, world_step, world_after, stepped}
use Rattle.dom_model.proofs.Model.{with_signals, with_removal_signals, with_notify_if, with_shadow_document, page_of, is_page_task, page_step, page_notify_if}
use Rattle.dom_model.proofs.Model.{page_stepped, PageState, part_of-stepped, part_of-stepped-other, AllComponents, below-components, Output, Said, says}
use Rattle.dom_model.proofs.Model.{EventLine, Run, quiet, run_then, is_page_turn, is_page, outputs_for, is_of, owner_of_output, group_world, group_turn}
use Rattle.dom_model.proofs.Model.{group_run, is_task_of, Command, EventWords, named, Listener, Visit, after_invoke, begun, Part, views, plain_views}
use Rattle.dom_model.proofs.Model.{Dispatched, dispatched, dispatch_in, world_visit, event_output, visits_of, owner_eq-true, owner_eq-false, ne-owner_eq}
use Rattle.dom_model.proofs.Model.{part_of-with_part, part_of-with_part-other, owner-part_of}
use Rattle.dom_worlds.specs.Definitions.{IsForeignTo, IsThere, OnlyLogs, ComponentsOnlyLog}
use Rattle.dom_worlds.proofs.ListLemmas.{by_cases, all-from, all-passed, all-then}
use Rattle.dom_worlds.proofs.TurnLemmas.{page_tasks-queued_other, signals-foreign, Going, InWorld, part_of-visits, rest-visits, with_listeners, logs-visit}
use Rattle.dom_isolation.specs.Definitions.{page_run, page_dispatched, is_page_visit, is_page_line, page_going, VisitIsUnseen, FoldSkipsComponents}
use Rattle.dom_isolation.specs.Definitions.{Interference, untouched, interference_at, first_visits, dispatched_under, page_dispatch_under, OwnIsThere}
use Rattle.dom_isolation.specs.Definitions.{LogsEvent}
use Rattle.dom_isolation.proofs.GroupSlots.{any-kept, added-in, filter-sub, member-outputs, part-in}
use Rattle.dom_isolation.proofs.Touches.{all-first, alike-start, visits-touched}
use Rattle.dom_isolation.proofs.OwnVisits.{in_view, group_visits, seen, seen-visited, lines-outside}
use Rattle.dom_isolation.proofs.QuietVisits.{flags-visited}

-- an owner's lines of two lists
pub outputs_for-append : (o : Owner) (xs ys : List Output) → outputs_for o (xs ++ ys) ≡ outputs_for o xs ++ outputs_for o ys
outputs_for-append o xs ys = filter-append (λ l. is_of (owner_eq o) (owner_of_output l)) xs ys

-- the page's of the page's lines
pub outputs_for_page-says : (ss : List Said) → outputs_for Page (map (says Page) ss) ≡ map (says Page) ss
outputs_for_page-says [] = refl
outputs_for_page-says (s ∷ ss) = ap (λ ls. says Page s ∷ ls) (outputs_for_page-says ss)

-- the page's of another owner's lines
pub outputs_for_page-other : (o : Owner) → o ≢ Page → (ss : List Said) → outputs_for Page (map (says o) ss) ≡ []
outputs_for_page-other Page h ss = absurd (h refl)
outputs_for_page-other (Component k) h [] = refl
outputs_for_page-other (Component k) h (s ∷ ss) = outputs_for_page-other (Component k) h ss

-- one run and then another: the squares of the two make that of the whole
pub run_then-square : (r : Run World) (f : World → Run World) (g : PageState → Run PageState) →
    page_run (f r.0) ≡ g (page_of r.0) → page_run (run_then r f) ≡ run_then (page_run r) g
run_then-square r f g e =
    ap (λ ls. (page_of (f r.0).0, ls)) (outputs_for-append Page r.1 (f r.0).1) ∙ ap (λ (q : Run PageState). (q.0, outputs_for Page r.1 ++ q.1)) e

-- what the page does not see of the second, or of the first
pub run_then-quiet : (r : Run World) (f : World → Run World) → page_run (f r.0) ≡ quiet (page_of r.0) → page_run (run_then r f) ≡ run_then (page_run r) quiet
run_then-quiet r f e = run_then-square r f quiet e

-- the page's state of two worlds is the same
pub same_page_of : (v w : World) → part_of v Page ≡ part_of w Page → filter is_page_task v.tasks ≡ filter is_page_task w.tasks →
    is_page_turn v.turn ≡ is_page_turn w.turn → page_of v ≡ page_of w
same_page_of v w a b c = rw (a, b, c)

-- The page sees what the page alone has: of a world,
page_of-group : (w : World) → page_of (group_world is_page w) ≡ page_of w
page_of-group w =
    same_page_of (group_world is_page w) w (part-in is_page w Page refl) (filter-sub is_page_task (is_task_of is_page) task w.tasks) (turn w.turn)
  where
    task : (t : Task) → is_page_task t ≡ true → is_task_of is_page t ≡ true
    task (micro_task o label) h = h
    task (notify_task o) h = h

    turn : (t : Option Owner) → is_page_turn (group_turn is_page t) ≡ is_page_turn t
    turn (Some Page) = refl
    turn t = refl

-- and of a run, so of one that shows it nothing.
pub page_run-unseen : (r : Run World) (w : World) → group_run is_page r ≡ (group_world is_page w, []) → page_run r ≡ quiet (page_of w)
page_run-unseen r w h =
    ap (λ s. (s, outputs_for Page r.1)) (sym (page_of-group r.0))
    ∙ ap (λ ls. (page_of (group_world is_page r.0), ls)) (sym (member-outputs is_page Page refl r.1))
    ∙ ap (λ (q : Run World). (page_of q.0, outputs_for Page q.1)) h ∙ ap quiet (page_of-group w)

-- the page's notification is queued among the page's tasks
pub page_tasks-queued_page : (ts : List Task) → filter is_page_task (queued_notify Page ts) ≡ queued_notify Page (filter is_page_task ts)
page_tasks-queued_page ts =
    added-in is_page_task ts (notify_task Page) (list_any (is_notify_of Page) ts) (list_any (is_notify_of Page) (filter is_page_task ts))
    (any-kept (is_notify_of Page) is_page_task mine ts) refl
  where
    mine : (t : Task) → is_notify_of Page t ≡ true → is_page_task t ≡ true
    mine (micro_task o label) e = absurd (true≢false (sym e))
    mine (notify_task o) e = e

-- a signal, as the page sees it
page_of-with_signal : (w : World) (s : NodeName) → IsForeignTo Page s → page_of (with_signal w s) ≡ page_of w
page_of-with_signal w s h = same_page_of (with_signal w s) w refl (page_tasks-queued_other s.owner h w.tasks) refl

-- signals, as the page sees them
page_of-each_signal : (ss : List NodeName) (w : World) → AllByRecursion (IsForeignTo Page) ss → page_of (fold with_signal w ss) ≡ page_of w
page_of-each_signal [] w h = refl
page_of-each_signal (s ∷ ss) w h = page_of-each_signal ss (with_signal w s) h.1 ∙ page_of-with_signal w s h.0

-- the signals of a step
pub page_of-with_signals : (was now : World) (x around : NodeName) (is_move : Bool) → page_of (with_signals was now x around is_move) ≡ page_of now
page_of-with_signals was now x around is_move = page_of-each_signal (signals was now x around is_move) now (signals-foreign was now x around is_move)

-- the signals of a removal
pub page_of-with_removal_signals : (was now : World) (x : NodeName) (parent : Option NodeName) → page_of (with_removal_signals was now x parent) ≡ page_of now
page_of-with_removal_signals was now x None = refl
page_of-with_removal_signals was now x (Some parent) = page_of-with_signals was now x parent true

-- A step in a component's part.
pub page_of-stepped-other : (w : World) (c : Owner) (s : Step) → c ≢ Page → page_of (stepped c w s) ≡ page_of w
page_of-stepped-other w c s h = same_page_of (stepped c w s) w (part_of-stepped-other w c Page s h) refl refl

-- node documents in components' trees
page_of-documents : (cs : List Owner) (d : NodeName) (v : World) → AllComponents cs → page_of (fold (with_shadow_document d) v cs) ≡ page_of v
page_of-documents [] d v h = refl
page_of-documents (c ∷ cs) d v h = page_of-documents cs d (with_shadow_document d v c) h.1 ∙ page_of-stepped-other v c (set_document (shadow_root_of c) d) h.0

-- a component's notification
page_of-notify_other : (b : Bool) (c : Owner) (w : World) → c ≢ Page → page_of (with_notify_if b c w) ≡ page_of w
page_of-notify_other true c w h = same_page_of (with_notify w c) w refl (page_tasks-queued_other c h w.tasks) refl
page_of-notify_other false c w h = refl

-- a step of a component shows nothing
pub page_of-world_step-other : (c : Owner) → c ≢ Page → (w : World) (s : Step) → page_of (world_step c w s) ≡ page_of w
page_of-world_step-other c h w (place x parent before) =
    page_of-with_signals w (stepped c w (place x parent before)) x parent true ∙ page_of-stepped-other w c (place x parent before) h
page_of-world_step-other c h w (take_out x) =
    page_of-with_removal_signals w (stepped c w (take_out x)) x (parent_of (part_of w c).trees x) ∙ page_of-stepped-other w c (take_out x) h
page_of-world_step-other c h w (set_document x d) =
    page_of-documents (components_below max_depth w x) d (stepped c w (set_document x d)) (below-components max_depth w x) ∙
    page_of-stepped-other w c (set_document x d) h
page_of-world_step-other c h w (set_attribute x a v) =
    page_of-with_signals w (stepped c w (set_attribute x a v)) x x false ∙ page_of-stepped-other w c (set_attribute x a v) h
page_of-world_step-other c h w (queue_record r) =
    page_of-notify_other (is_taken (part_of w c) r) c (stepped c w (queue_record r)) h ∙ page_of-stepped-other w c (queue_record r) h
page_of-world_step-other c h w s = page_of-stepped-other w c s h

-- nor do many
pub page_of-world_after-other : (c : Owner) → c ≢ Page → (w : World) (steps : List Step) → page_of (world_after c w steps) ≡ page_of w
page_of-world_after-other c h w [] = refl
page_of-world_after-other c h w (s ∷ steps) = page_of-world_after-other c h (world_step c w s) steps ∙ page_of-world_step-other c h w s

-- A step in the page's part.
page_of-stepped : (w : World) (s : Step) → page_of (stepped Page w s) ≡ page_stepped (page_of w) s
page_of-stepped w s = ap (λ p. record (page_of w) { part = p }) (part_of-stepped w Page s)

-- the page's notification
page_of-notify : (b : Bool) (w : World) → page_of (with_notify_if b Page w) ≡ page_notify_if b (page_of w)
page_of-notify true w = ap (λ ts. record (page_of w) { tasks = ts }) (page_tasks-queued_page w.tasks)
page_of-notify false w = refl

-- a step of the page is the page machine's
pub page_of-world_step : (w : World) (s : Step) → page_of (world_step Page w s) ≡ page_step (page_of w) s
page_of-world_step w (place x parent before) =
    page_of-with_signals w (stepped Page w (place x parent before)) x parent true ∙ page_of-stepped w (place x parent before)
page_of-world_step w (take_out x) = page_of-with_removal_signals w (stepped Page w (take_out x)) x (parent_of (part_of w Page).trees x) ∙
    page_of-stepped w (take_out x)
page_of-world_step w (set_document x d) =
    page_of-documents (components_below max_depth w x) d (stepped Page w (set_document x d)) (below-components max_depth w x) ∙
    page_of-stepped w (set_document x d)
page_of-world_step w (set_attribute x a v) = page_of-with_signals w (stepped Page w (set_attribute x a v)) x x false ∙ page_of-stepped w (set_attribute x a v)
page_of-world_step w (queue_record c) =
    page_of-notify (is_taken (part_of w Page) c) (stepped Page w (queue_record c)) ∙ ap (page_notify_if (is_taken (part_of w Page) c))
    (page_of-stepped w (queue_record c))
page_of-world_step w s = page_of-stepped w s

-- and so are many
pub page_of-world_after : (w : World) (steps : List Step) → page_of (world_after Page w steps) ≡ fold page_step (page_of w) steps
page_of-world_after w [] = refl
page_of-world_after w (s ∷ steps) = page_of-world_after (world_step Page w s) steps ∙ ap (λ s'. fold page_step s' steps) (page_of-world_step w s)

-- a visit, with the owner of its node given
visit_as : Owner → EventWords → InWorld → Visit NodeName → InWorld
visit_as o e s v =
    let p = part_of s.0 o in
    let heard = after_invoke name_eq e (record s.1 { listeners = p.listeners }) v in
    (with_part s.0 (with_listeners p heard.listeners), heard)

-- a visit, by the owner of its node
visit-as : (o : Owner) (e : EventWords) (s : InWorld) (v : Visit NodeName) → v.current.owner ≡ o → world_visit e s v ≡ visit_as o e s v
unfolding visit_as
visit-as o e s v h = ap (λ o. visit_as o e s v) h

-- at a page node
page_going-visit_as : (e : EventWords) (s : InWorld) (v : Visit NodeName) → v.current.owner ≡ Page →
    page_going (visit_as Page e s v) ≡ after_invoke name_eq e (page_going s) v
unfolding visit_as
page_going-visit_as e s v h =
    let p = part_of s.0 Page in
    let heard = after_invoke name_eq e (record s.1 { listeners = p.listeners }) v in
    ap (λ (q : Part). record (seen is_page heard) { listeners = q.listeners })
    (part_of-with_part s.0 (with_listeners p heard.listeners) Page (owner-part_of s.0 Page))
    ∙ seen-visited is_page e v (ap is_page h) (record s.1 { listeners = p.listeners })

-- a visit at a page node does what it does alone
pub page_going-visit : (e : EventWords) (s : InWorld) (v : Visit NodeName) → v.current.owner ≡ Page →
    page_going (world_visit e s v) ≡ after_invoke name_eq e (page_going s) v
page_going-visit e s v h = ap page_going (visit-as Page e s v h) ∙ page_going-visit_as e s v h

-- at a component's node
pub page_going-visit_other : (e : EventWords) (s : InWorld) (v : Visit NodeName) → IsForeignTo Page v.current → ComponentsOnlyLog s.0 →
    page_going (world_visit e s v) ≡ page_going s
page_going-visit_other e s v f logs =
    let p = part_of s.0 v.current.owner in
    let heard = after_invoke name_eq e (record s.1 { listeners = p.listeners }) v in
    let ls = (part_of s.0 Page).listeners in
    let start : Going = record s.1 { listeners = p.listeners } in
    let logging = all-then OnlyLogs (LogsEvent e.event) (λ l log t. log) p.listeners (logs v.current.owner f) in
    ap (λ (q : Part). record (seen is_page heard) { listeners = q.listeners })
    (part_of-with_part-other s.0 (with_listeners p heard.listeners) Page (λ same. f (sym (owner-part_of s.0 v.current.owner) ∙ same)))
    ∙ ap (λ os. record heard { listeners = ls; lines = os }) (lines-outside is_page e v (ne-owner_eq v.current.owner Page f) start)
    ∙ flags-visited e v start logging ls (filter is_page_line s.1.lines)

-- visits at page nodes alone
pub page_going-own : (e : EventWords) (vs : List (Visit NodeName)) (s : InWorld) → AllByRecursion (λ v. is_page_visit v ≡ true) vs →
    page_going (fold (world_visit e) s vs) ≡ fold (after_invoke name_eq e) (page_going s) vs
page_going-own e [] s h = refl
page_going-own e (v ∷ vs) s h =
    page_going-own e vs (world_visit e s v) h.1
    ∙ ap (λ d. fold (after_invoke name_eq e) d vs) (page_going-visit e s v (owner_eq-true v.current.owner Page h.0))

-- all visits, as the page sees them
pub page_going-visits : (e : EventWords) (vs : List (Visit NodeName)) (s : InWorld) → ComponentsOnlyLog s.0 →
    page_going (fold (world_visit e) s vs) ≡ fold (after_invoke name_eq e) (page_going s) (filter is_page_visit vs)
page_going-visits e [] s logs = refl
page_going-visits e (v ∷ vs) s logs =
    let later = page_going-visits e vs (world_visit e s v) (logs-visit e s v logs) in
    by_cases (is_page_visit v)
    (λ h. later ∙ ap (λ d. fold (after_invoke name_eq e) d (filter is_page_visit vs)) (page_going-visit e s v (owner_eq-true v.current.owner Page h))
    ∙ ap (fold (after_invoke name_eq e) (page_going s)) (sym (cond-true (is_page_visit v) (v ∷ filter is_page_visit vs) (filter is_page_visit vs) h)))
    (λ h. later ∙ ap (λ d. fold (after_invoke name_eq e) d (filter is_page_visit vs)) (page_going-visit_other e s v
    (owner_eq-false v.current.owner Page h) logs)
    ∙ ap (fold (after_invoke name_eq e) (page_going s)) (sym (cond-false (is_page_visit v) (v ∷ filter is_page_visit vs) (filter is_page_visit vs) h)))

-- the law of all visits
pub fold-skips_components : FoldSkipsComponents
fold-skips_components e vs s logs = page_going-visits e vs s logs

-- the law of one visit
pub visit-unseen : VisitIsUnseen
visit-unseen w d e v f logs =
    let same = page_going-visit_other e (w, d) v f logs in (
      part_of-with_part-other w (with_listeners (part_of w v.current.owner) (world_visit e (w, d) v).1.listeners) Page
          (λ is. f (sym (owner-part_of w v.current.owner) ∙ is)),
      ap (λ (g : Going). g.stopped) same,
      ap (λ (g : Going). g.stopped_now) same,
      ap (λ (g : Going). g.cancelled) same,
      ap (λ (g : Going). g.lines) same,
    )

-- the lines
page_eq-sym : (o : Owner) → owner_eq Page o ≡ owner_eq o Page
page_eq-sym Page = refl
page_eq-sym (Component k) = refl

-- the page's lines of a dispatch
outputs_for-event_lines : (ls : List (EventLine NodeName)) → outputs_for Page (map event_output ls) ≡ map event_output (filter is_page_line ls)
outputs_for-event_lines [] = refl
outputs_for-event_lines (l ∷ ls) =
    by_cases (owner_eq l.current.owner Page) (λ h. rw (page_eq-sym l.current.owner, h) (ap (λ os. event_output l ∷ os) (outputs_for-event_lines ls)))
    (λ h. rw (page_eq-sym l.current.owner, h) (outputs_for-event_lines ls))

-- how a dispatch ends, as the page sees it: its listeners, its lines and the answer
abbrev pub page_end : Bool → PageState → Going → Dispatched PageState
page_end cancelled s d = dispatched_under cancelled (record s { part = with_listeners s.part d.listeners }) d

-- What the page has of a dispatch.
module _ (w : World) (target : NodeName) (related : Option NodeName) (e : EventWords) (there : IsThere w Page) where
  -- what others do to the event
  abbrev done : Interference
  done = interference_at is_page w target related e

  -- the visits of a path
  abbrev all_visits : List (Visit NodeName)
  all_visits = visits_of name_eq e.bubbles (views w target related e.composed)

  -- how it ends is how its first visits at page nodes end
  pub dispatch-touched :
      page_dispatched (dispatch_in w target related e)
      ≡ page_end done.cancelled (page_of w) (fold (after_invoke name_eq e) (begun (part_of w Page).listeners)
      (first_visits done.reached (visits_of name_eq e.bubbles (filter (in_view is_page) (views w target related e.composed)))))
  dispatch-touched =
      let start : InWorld = (w, begun []) in
      let end = fold (world_visit e) start all_visits in
      let own = first_visits done.reached (filter is_page_visit all_visits) in
      let alone = fold (world_visit e) start own in
      let ends = visits-touched is_page e all_visits start (alike-start is_page w) (all-from (OwnIsThere is_page w)
      (λ v h. subst (IsThere w) (sym (owner_eq-true v.current.owner Page h)) there) all_visits) in
      let page = ap (λ (v : World). (part_of v Page).listeners) ends.world in
      let same : (part_of end.0 Page).listeners ≡ (part_of alone.0 Page).listeners =
      ap (λ (p : Part). p.listeners) (sym (part-in is_page end.0 Page refl)) ∙ page ∙ ap (λ (p : Part). p.listeners) (part-in is_page alone.0 Page refl) in
      let by_parts : List (Listener NodeName) → List (EventLine NodeName) → Bool → Dispatched PageState =
      λ ls os cancelled. record {
        run = (record (page_of w) { part = with_listeners (part_of w Page) ls }, map event_output os);
        answer = not cancelled;
      } in
      let first : page_dispatched (dispatched end.0 end.1) ≡ by_parts (part_of end.0 Page).listeners (filter is_page_line end.1.lines) end.1.cancelled =
      ap (λ (v : World). record {
        run = (
          record { part = part_of end.0 Page; tasks = filter is_page_task v.tasks; is_open = is_page_turn v.turn },
          outputs_for Page (map event_output end.1.lines),
        );
        answer = not end.1.cancelled;
      }) (rest-visits e all_visits start)
      ∙ ap (λ (p : Part). record {
        run = (record (page_of w) { part = p }, outputs_for Page (map event_output end.1.lines));
        answer = not end.1.cancelled;
      }) (part_of-visits e all_visits start Page)
      ∙ ap (λ ls. record {
        run = (record (page_of w) { part = with_listeners (part_of w Page) (part_of end.0 Page).listeners }, ls);
        answer = not end.1.cancelled;
      }) (outputs_for-event_lines end.1.lines) in
      first
      ∙ ap (λ ls. by_parts ls (filter is_page_line end.1.lines) end.1.cancelled) same
      ∙ ap (λ os. by_parts (part_of alone.0 Page).listeners os end.1.cancelled) ends.lines
      ∙ ap (by_parts (part_of alone.0 Page).listeners (filter is_page_line alone.1.lines)) ends.cancelled
      ∙ ap (page_end done.cancelled (page_of w)) (page_going-own e own start
      (all-first (λ v. is_page_visit v ≡ true) done.reached (filter is_page_visit all_visits)
      (all-passed (λ v. is_page_visit v ≡ true) is_page_visit (λ v h. h) all_visits)))
      ∙ ap (λ vs. page_end done.cancelled (page_of w) (fold (after_invoke name_eq e) (begun (part_of w Page).listeners) (first_visits done.reached vs)))
      (group_visits is_page e.bubbles (views w target related e.composed))

  -- the page machine's dispatch, where the views at page nodes are its own
  pub dispatch-page : (x : NodeName) (near : Option NodeName) →
      filter (in_view is_page) (views w target related e.composed) ≡ plain_views (part_of w Page).trees x near →
      page_dispatched (dispatch_in w target related e) ≡ page_dispatch_under done (page_of w) x near e
  dispatch-page x near h =
      dispatch-touched
      ∙ ap (λ vs. page_end done.cancelled (page_of w) (fold (after_invoke name_eq e) (begun (part_of w Page).listeners)
      (first_visits done.reached (visits_of name_eq e.bubbles vs)))) h

-- What others do to the event of a command in the turn that is open, if it has one.
abbrev pub done_to : World → Owner → Command → Interference
done_to w o (Command.dispatch x e related) = let p = part_of w o in interference_at is_page w (named p x) (option_map (named p) related) e
done_to w o c = untouched
