-- Visits, notifications and the ends of turns, and what comes before a line: they keep what holds of the world.
use Rattle.dom_base.proofs.Std.{◌≡◌, ℕ, ◌≤◌, ◌<◌, true, false, [], filter, Option, Some, None, refl, sym, ap, ◌∙◌, subst, Bool, not, List, ◌∷◌, ◌++◌, fold}
use Rattle.dom_base.proofs.Std.{true≢false, is_some, slice_get, if◌then◌else◌, AllByRecursion, option_and_then, option_map_or, cond-true, cond-false}
use Rattle.dom_model.proofs.Model.{Owner, Page, Component, times_in, owner_eq, name_eq, Part, World, part_of, with_part, is_there, host_of, made_by}
use Rattle.dom_model.proofs.Model.{shadow_root_of, Task, micro_task, notify_task, is_page_turn, notified, slotchange, firing_slotchange, is_owned_by}
use Rattle.dom_model.proofs.Model.{without_signals, running_task, ending_turn, is_other_component, has_other_turn, ending_other_turn, opening_turn}
use Rattle.dom_model.proofs.Model.{is_page_task, page_of, owner_eq-true, owner_eq-false, part_of-with_part, part_of-with_part-other, owner-part_of}
use Rattle.dom_model.proofs.Model.{find-put, find-put-other, Action, Log, NodeName, EventLine, EventWords, Listener, Visit, Dispatching, after_invoke}
use Rattle.dom_model.proofs.Model.{after_inner_invoke, hears, is_listener, kept_after, after_action, may_cancel, line_of, begun, world_visit}
use Rattle.dom_model.proofs.Model.{dispatch_in, visits_of, run_each, Run, quiet, views, turn-ending_turn}
use Rattle.dom_worlds.specs.Definitions.{IsPart, IsRoot, IsWorld, IsOf, IsForeignTo, OnlyLogs, ComponentsOnlyLog, Invariant}
use Rattle.dom_worlds.proofs.Owners.{makers-same}
use Rattle.dom_worlds.proofs.Lists.{by_cases, all-filter}

-- parts with the same trees, count and hosts
pub record IsAlike (q p : Part) : Type 0 where
  pub trees : q.trees ≡ p.trees
  pub count : q.node_count ≡ p.node_count
  pub attached : q.attached ≡ p.attached

-- such a part is as it should be
pub part-alike : (q p : Part) → q.owner ≡ p.owner → IsAlike q p → IsPart p → IsPart q
part-alike q p e a i =
    record {
      unique = λ x. subst (λ t. times_in t x ≤ 1) (sym a.trees) (i.unique x);
      owned = λ x h. i.owned x (subst (λ t. 1 ≤ times_in t x) a.trees h) ∙ sym e;
      numbered = λ x h. subst (λ k. x.number < k) (sym a.count) (i.numbered x (subst (λ t. 1 ≤ times_in t x) a.trees h));
    }

-- worlds with such parts
abbrev pub AreAlike : World → World → Type 0
AreAlike v w = (o : Owner) → IsAlike (part_of v o) (part_of w o)

-- hosts are those of the page's list
pub host_of-same : (v w : World) → ((o : Owner) → (part_of v o).attached ≡ (part_of w o).attached) → (o : Owner) → host_of v o ≡ host_of w o
host_of-same v w a o = from (made_by o)
  where
    from : (m : Option (Owner × ℕ)) → option_and_then (λ (maker, k). slice_get (part_of v maker).attached k) m ≡ option_and_then
        (λ (maker, k). slice_get (part_of w maker).attached k) m
    from None = refl
    from (Some m) = ap (λ hs. slice_get hs m.1) (a m.0)

-- such a world is one too
pub world-alike : {w : World} (v : World) → AreAlike v w → (is_there w Page ≡ true → is_there v Page ≡ true) → AllByRecursion (IsForeignTo Page) v.signalled →
    (is_page_turn v.turn ≡ false → filter is_page_task v.tasks ≡ []) → IsWorld w → IsWorld v
world-alike {w} v a there signals tasks i =
    record {
      page = there i.page;
      parts = λ o. part-alike (part_of v o) (part_of w o) (owner-part_of v o ∙ sym (owner-part_of w o)) (a o) (i.parts o);
      hosts = λ o. subst (AllByRecursion (IsOf o)) (sym (a o).attached) (i.hosts o);
      makers = makers-same v w (λ o. (a o).attached) i.makers;
      shadow_roots = λ o h. subst (λ t. IsRoot t (shadow_root_of o)) (sym (a o).trees)
          (i.shadow_roots o (subst (λ x. is_some x ≡ true) (host_of-same v w (λ x. (a x).attached) o) h));
      signalled = signals;
      tasks = tasks;
    }

-- a part that is there stays there
pub there-with_part : (w : World) (p : Part) (o : Owner) → is_there w o ≡ true → is_there (with_part w p) o ≡ true
there-with_part w p o h =
    by_cases (owner_eq p.owner o) (λ e. ap is_some (find-put w.parts p o (owner_eq-true p.owner o e)))
    (λ e. ap is_some (find-put-other w.parts p o (owner_eq-false p.owner o e)) ∙ h)

-- another part of this kind for an owner
pub alike-with_part : (w : World) (p : Part) (o : Owner) → p.owner ≡ o → IsAlike p (part_of w o) → AreAlike (with_part w p) w
alike-with_part w p o e a other =
    by_cases (owner_eq o other)
    (λ h. let same = owner_eq-true o other h in
    subst (λ q. IsAlike q (part_of w other)) (sym (part_of-with_part w p other (e ∙ same))) (subst (λ x. IsAlike p (part_of w x)) same a))
    (λ h. subst (λ q. IsAlike q (part_of w other)) (sym (part_of-with_part-other w p other (λ g. owner_eq-false o other h (sym e ∙ g))))
    (record { trees = refl; count = refl; attached = refl }))

-- listeners of the parts of another world that are the same
pub logs-same : (v w : World) → ((o : Owner) → (part_of v o).listeners ≡ (part_of w o).listeners) → ComponentsOnlyLog w → ComponentsOnlyLog v
logs-same v w a logs o f = subst (AllByRecursion OnlyLogs) (sym (a o)) (logs o f)

-- another part with the same listeners
pub listeners-with_part : (w : World) (p : Part) (o : Owner) → p.owner ≡ o → p.listeners ≡ (part_of w o).listeners → (other : Owner) →
    (part_of (with_part w p) other).listeners ≡ (part_of w other).listeners
listeners-with_part w p o e a other =
    by_cases (owner_eq o other)
    (λ h. let same = owner_eq-true o other h in ap (λ (q : Part). q.listeners) (part_of-with_part w p other (e ∙ same)) ∙ a ∙
    ap (λ x. (part_of w x).listeners) same)
    (λ h. ap (λ (q : Part). q.listeners) (part_of-with_part-other w p other (λ g. owner_eq-false o other h (sym e ∙ g))))

-- a dispatch on its way
abbrev pub Going : Type 0
Going = Dispatching NodeName

-- a call, where none was stopped at once
unfoldable pub call : EventWords → Visit NodeName → Going → Listener NodeName → Going
call e v d l = after_action l.words.action (may_cancel e l.words)
    (record d { listeners = kept_after name_eq l d.listeners; lines = d.lines ++ line_of v l.words ∷ [] })

-- a call, unless the others are stopped
pub call-of : (e : EventWords) (v : Visit NodeName) (d : Going) (l : Listener NodeName) → d.stopped_now ≡ false → after_inner_invoke name_eq e v d l
    ≡ call e v d l
unfolding call
call-of e v d l s = cond-false d.stopped_now d (call e v d l) s

-- no call, where they are
pub no_call : (e : EventWords) (v : Visit NodeName) (d : Going) (l : Listener NodeName) → d.stopped_now ≡ true → after_inner_invoke name_eq e v d l ≡ d
unfolding call
no_call e v d l s = cond-true d.stopped_now d (call e v d l) s

-- An action does to some of the lines what it does to all.
pub sifted-after_action : (p : EventLine NodeName → Bool) (a : Action) (c : Bool) (d : Going) →
    record (after_action a c d) { lines = filter p (after_action a c d).lines } ≡ after_action a c (record d { lines = filter p d.lines })
sifted-after_action p Log c d = refl
sifted-after_action p a c d = refl

-- listeners that only log, without one that was for once
pub all-kept : (l : Listener NodeName) (ls : List (Listener NodeName)) → AllByRecursion OnlyLogs ls → AllByRecursion OnlyLogs (kept_after name_eq l ls)
all-kept l ls h =
    by_cases l.words.once (λ e. rw e (all-filter OnlyLogs (λ k. not (is_listener name_eq l.node l.words.event l.words.label l.words.capture k)) ls
    h)) (λ e. rw e h)

-- a call of a listener that only logs leaves such listeners
logs-call : (e : EventWords) (v : Visit NodeName) (d : Going) (l : Listener NodeName) → OnlyLogs l → AllByRecursion OnlyLogs d.listeners →
    AllByRecursion OnlyLogs (call e v d l).listeners
unfolding call
logs-call e v d l log h = rw log (all-kept l d.listeners h)

-- also where the others are stopped
logs-called : (e : EventWords) (v : Visit NodeName) (d : Going) (l : Listener NodeName) → OnlyLogs l → AllByRecursion OnlyLogs d.listeners →
    AllByRecursion OnlyLogs (after_inner_invoke name_eq e v d l).listeners
logs-called e v d l log h =
    let Only : Going → Type 0 = λ c. AllByRecursion OnlyLogs c.listeners in
    by_cases d.stopped_now (λ s. subst Only (sym (no_call e v d l s)) h) (λ s. subst Only (sym (call-of e v d l s)) (logs-call e v d l log h))

-- calls of all that hear
logs-calls : (e : EventWords) (v : Visit NodeName) (ls : List (Listener NodeName)) (d : Going) → AllByRecursion OnlyLogs ls →
    AllByRecursion OnlyLogs d.listeners → AllByRecursion OnlyLogs (fold (after_inner_invoke name_eq e v) d ls).listeners
logs-calls e v [] d logs h = h
logs-calls e v (l ∷ ls) d logs h = logs-calls e v ls (after_inner_invoke name_eq e v d l) logs.1 (logs-called e v d l logs.0 h)

-- a visit
logs-visited : (e : EventWords) (v : Visit NodeName) (d : Going) → AllByRecursion OnlyLogs d.listeners →
    AllByRecursion OnlyLogs (after_invoke name_eq e d v).listeners
logs-visited e v d h =
    let Only : Going → Type 0 = λ c. AllByRecursion OnlyLogs c.listeners in
    let hearing = filter (hears name_eq e v) d.listeners in
    by_cases d.stopped (λ s. subst Only (sym (cond-true d.stopped d (fold (after_inner_invoke name_eq e v) d hearing) s)) h)
    (λ s. subst Only (sym (cond-false d.stopped d (fold (after_inner_invoke name_eq e v) d hearing) s))
    (logs-calls e v hearing d (all-filter OnlyLogs (hears name_eq e v) d.listeners h) h))

-- The world in a dispatch, as the page sees it: its own listeners, the flags and its lines.
abbrev pub InWorld : Type 0
InWorld = World × Going

-- a state of the page's part in which only the listeners are others
abbrev pub with_listeners : Part → List (Listener NodeName) → Part
with_listeners p ls = record p { listeners = ls }

-- A visit changes listeners alone, and those of components still only log.
pub part_of-visit : (e : EventWords) (s : InWorld) (v : Visit NodeName) (o : Owner) →
    part_of (world_visit e s v).0 o ≡ with_listeners (part_of s.0 o) (part_of (world_visit e s v).0 o).listeners
part_of-visit e s v o =
    let p = part_of s.0 v.current.owner in
    let heard = after_invoke name_eq e (record s.1 { listeners = p.listeners }) v in
    by_cases (owner_eq v.current.owner o)
    (λ h. let same = owner_eq-true v.current.owner o h in
    let read = part_of-with_part s.0 (with_listeners p heard.listeners) o (owner-part_of s.0 v.current.owner ∙ same) in
    read ∙ ap (λ o. with_listeners (part_of s.0 o) heard.listeners) same ∙ ap (λ (q : Part). with_listeners (part_of s.0 o) q.listeners) (sym read))
    (λ h. let read = part_of-with_part-other s.0 (with_listeners p heard.listeners) o
    (λ same. owner_eq-false v.current.owner o h (sym (owner-part_of s.0 v.current.owner) ∙ same)) in
    read ∙ ap (λ (q : Part). with_listeners (part_of s.0 o) q.listeners) (sym read))

-- a visit keeps components' listeners as ones that only log
pub logs-visit : (e : EventWords) (s : InWorld) (v : Visit NodeName) → ComponentsOnlyLog s.0 → ComponentsOnlyLog (world_visit e s v).0
logs-visit e s v logs o f =
    let p = part_of s.0 v.current.owner in
    let heard = after_invoke name_eq e (record s.1 { listeners = p.listeners }) v in
    by_cases (owner_eq v.current.owner o)
    (λ h. let same = owner_eq-true v.current.owner o h in
    let read = part_of-with_part s.0 (with_listeners p heard.listeners) o (owner-part_of s.0 v.current.owner ∙ same) in
    let g : IsForeignTo Page v.current = λ page. f (sym same ∙ page) in
    subst (λ (q : Part). AllByRecursion OnlyLogs q.listeners) (sym read)
    (logs-visited e v (record s.1 { listeners = p.listeners }) (logs v.current.owner g)))
    (λ h. let read = part_of-with_part-other s.0 (with_listeners p heard.listeners) o
    (λ same. owner_eq-false v.current.owner o h (sym (owner-part_of s.0 v.current.owner) ∙ same)) in
    subst (λ (q : Part). AllByRecursion OnlyLogs q.listeners) (sym read) (logs o f))

-- visits change nothing of a part but its listeners
pub part_of-visits : (e : EventWords) (vs : List (Visit NodeName)) (s : InWorld) (o : Owner) →
    part_of (fold (world_visit e) s vs).0 o ≡ with_listeners (part_of s.0 o) (part_of (fold (world_visit e) s vs).0 o).listeners
part_of-visits e [] s o = refl
part_of-visits e (v ∷ vs) s o =
    part_of-visits e vs (world_visit e s v) o ∙ ap (λ p. with_listeners p (part_of (fold (world_visit e) s (v ∷ vs)).0 o).listeners) (part_of-visit e s v o)

-- visits keep components' listeners as ones that only log
pub logs-visits : (e : EventWords) (vs : List (Visit NodeName)) (s : InWorld) → ComponentsOnlyLog s.0 → ComponentsOnlyLog (fold (world_visit e) s vs).0
logs-visits e [] s logs = logs
logs-visits e (v ∷ vs) s logs = logs-visits e vs (world_visit e s v) (logs-visit e s v logs)

-- signals, tasks and the turn stay
pub rest-visits : (e : EventWords) (vs : List (Visit NodeName)) (s : InWorld) → record (fold (world_visit e) s vs).0 { parts = [] } ≡ record s.0 { parts = [] }
rest-visits e [] s = refl
rest-visits e (v ∷ vs) s = rest-visits e vs (world_visit e s v)

-- A dispatch keeps it, and the turn.
pub there-visits : (e : EventWords) (vs : List (Visit NodeName)) (s : InWorld) (o : Owner) → is_there s.0 o ≡ true →
    is_there (fold (world_visit e) s vs).0 o ≡ true
there-visits e [] s o h = h
there-visits e (v ∷ vs) s o h =
    there-visits e vs (world_visit e s v) o
    (there-with_part s.0 (record (part_of s.0 v.current.owner) { listeners = (world_visit e s v).1.listeners }) o h)

-- the parts' trees, counts and hosts stay
pub alike-dispatch : (w : World) (x : NodeName) (related : Option NodeName) (e : EventWords) → AreAlike (dispatch_in w x related e).run.0 w
alike-dispatch w x related e o =
    let is = part_of-visits e (visits_of name_eq e.bubbles (views w x related e.composed)) (w, begun []) o in
    record { trees = ap (λ (p : Part). p.trees) is; count = ap (λ (p : Part). p.node_count) is; attached = ap (λ (p : Part). p.attached) is }

-- what holds of the world
pub world-dispatch : (w : World) (x : NodeName) (related : Option NodeName) (e : EventWords) → IsWorld w → IsWorld (dispatch_in w x related e).run.0
world-dispatch w x related e i =
    let vs = visits_of name_eq e.bubbles (views w x related e.composed) in
    let start : InWorld = (w, begun []) in
    let end = fold (world_visit e) start vs in
    let rest = rest-visits e vs start in
    world-alike end.0 (alike-dispatch w x related e) (there-visits e vs start Page)
    (subst (λ (v : World). AllByRecursion (IsForeignTo Page) v.signalled) (sym rest) i.signalled)
    (subst (λ (v : World). is_page_turn v.turn ≡ false → filter is_page_task v.tasks ≡ []) (sym rest) i.tasks) i

module _ {only_log : Bool} where
  -- and of its listeners
  pub quiet-dispatch : (w : World) (x : NodeName) (related : Option NodeName) (e : EventWords) → Invariant only_log w →
      Invariant only_log (dispatch_in w x related e).run.0
  quiet-dispatch w x related e q =
      record {
        world = world-dispatch w x related e q.world;
        logs = λ y. logs-visits e (visits_of name_eq e.bubbles (views w x related e.composed)) (w, begun []) (q.logs y);
      }

  -- they keep what holds
  keeps-firings : (ss : List NodeName) (w : World) → Invariant only_log w → Invariant only_log (run_each firing_slotchange w ss).0
  keeps-firings [] w q = q
  keeps-firings (s ∷ ss) w q = keeps-firings ss (firing_slotchange w s).0 (quiet-dispatch w s None slotchange q)

-- The first part of a notification.
abbrev pub told_in : World → Owner → World
told_in w o = with_part (without_signals w o) (notified (part_of w o))

-- trees, counts and hosts stay
pub alike-told : (w : World) (o : Owner) → AreAlike (told_in w o) w
alike-told w o = alike-with_part (without_signals w o) (notified (part_of w o)) o (owner-part_of w o) (record { trees = refl; count = refl; attached = refl })

module _ {only_log : Bool} where
  -- what holds stays
  pub quiet-told : (w : World) (o : Owner) → Invariant only_log w → Invariant only_log (told_in w o)
  quiet-told w o q =
      let base = without_signals w o in
      let p = notified (part_of w o) in
      record {
        world = world-alike (told_in w o) (alike-told w o) (there-with_part base p Page)
            (all-filter (IsForeignTo Page) (λ s. not (is_owned_by o s)) w.signalled q.world.signalled) q.world.tasks q.world;
        logs = λ y. logs-same (told_in w o) w (listeners-with_part base p o (owner-part_of w o) refl) (q.logs y);
      }

  -- a task keeps what holds
  pub quiet-running : (w : World) → Invariant only_log w → (t : Task) → Invariant only_log (running_task w t).0
  quiet-running w q (micro_task o label) = q
  quiet-running w q (notify_task o) = keeps-firings (filter (is_owned_by o) w.signalled) (told_in w o) (quiet-told w o q)

  -- and so do all
  quiet-running_all : (ts : List Task) (w : World) → Invariant only_log w → Invariant only_log (run_each running_task w ts).0
  quiet-running_all [] w q = q
  quiet-running_all (t ∷ ts) w q = quiet-running_all ts (running_task w t).0 (quiet-running w q t)

-- The ending of a turn.
abbrev pub at_end : World → World
at_end w = record w { tasks = []; turn = None }

module _ {only_log : Bool} where
  -- with the tasks taken out
  pub quiet-at_end : (w : World) → Invariant only_log w → Invariant only_log (at_end w)
  quiet-at_end w q =
      record {
        world = world-alike (at_end w) (λ o. record { trees = refl; count = refl; attached = refl }) (λ h. h) q.world.signalled
            (λ h. refl) q.world;
        logs = q.logs;
      }

  -- it keeps what holds
  pub quiet-ending_turn : (w : World) → Invariant only_log w → Invariant only_log (ending_turn w).0
  quiet-ending_turn w q = quiet-running_all w.tasks (at_end w) (quiet-at_end w q)

  -- and keeps what holds
  pub quiet-ending_other : (w : World) → Invariant only_log w → (o : Owner) → Invariant only_log (ending_other_turn w o).0
  quiet-ending_other w q o =
      by_cases (has_other_turn w o)
      (λ h. subst (λ (r : Run World). Invariant only_log r.0) (sym (cond-true (has_other_turn w o) (ending_turn w) (quiet w) h)) (quiet-ending_turn w q))
      (λ h. subst (λ (r : Run World). Invariant only_log r.0) (sym (cond-false (has_other_turn w o) (ending_turn w) (quiet w) h)) q)

-- before a line of the page no component's turn is open
abbrev pub IsPageTime : World → Type 0
IsPageTime w = has_other_turn w Page ≡ false

-- so it is after the ending
pub page_time : (w : World) → IsPageTime (ending_other_turn w Page).0
page_time w =
    by_cases (has_other_turn w Page)
    (λ h. subst (λ (r : Run World). IsPageTime r.0) (sym (cond-true (has_other_turn w Page) (ending_turn w) (quiet w) h))
    (ap (λ t. option_map_or (is_other_component Page) t false) (turn-ending_turn w)))
    (λ h. subst (λ (r : Run World). IsPageTime r.0) (sym (cond-false (has_other_turn w Page) (ending_turn w) (quiet w) h)) h)

-- A turn is opened.
pub part_of-opening : (w : World) (o x : Owner) → part_of (opening_turn w o) x ≡ part_of w x
part_of-opening w o x =
    by_cases (is_some w.turn) (λ e. ap (λ v. part_of v x) (cond-true (is_some w.turn) w (record w { turn = Some o }) e))
    (λ e. ap (λ v. part_of v x) (cond-false (is_some w.turn) w (record w { turn = Some o }) e))

-- the page's turn
pub opening-page : (w : World) → IsPageTime w → page_of (opening_turn w Page) ≡ record (page_of w) { is_open = true }
opening-page w h = from w.turn refl h
  where
    opened : Option Owner → World
    opened t = if is_some t then w else record w { turn = Some Page }

    from : (t : Option Owner) → w.turn ≡ t → option_map_or (is_other_component Page) t false ≡ false →
        page_of (if is_some w.turn then w else record w { turn = Some Page }) ≡ record (page_of w) { is_open = true }
    from None e g = ap (λ t. page_of (if is_some t then w else record w { turn = Some Page })) e
    from (Some Page) e g = ap (λ t. page_of (if is_some t then w else record w { turn = Some Page })) e ∙
        ap (λ t. record (page_of w) { is_open = is_page_turn t }) e
    from (Some (Component k)) e g = absurd (true≢false g)

module _ {only_log : Bool} where
  -- either keeps what holds
  pub quiet-opening : (w : World) → Invariant only_log w → (o : Owner) → Invariant only_log (opening_turn w o)
  quiet-opening w q o = from w.turn refl
    where
      with_turn : World
      with_turn = record w { turn = Some o }

      tasks : w.turn ≡ None → is_page_turn (Some o) ≡ false → filter is_page_task w.tasks ≡ []
      tasks e g = q.world.tasks (ap is_page_turn e)

      from : (t : Option Owner) → w.turn ≡ t → Invariant only_log (if is_some w.turn then w else record w { turn = Some o })
      from None e =
          subst (λ t. Invariant only_log (if is_some t then w else record w { turn = Some o })) (sym e)
          (record {
            world = world-alike (record w { turn = Some o }) (λ x. record { trees = refl; count = refl; attached = refl }) (λ x. x)
                q.world.signalled (tasks e) q.world;
            logs = q.logs;
          })
      from (Some x) e = subst (λ t. Invariant only_log (if is_some t then w else record w { turn = Some o })) (sym e) q
