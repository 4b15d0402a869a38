-- Where nobody outside a group listens for a type of event with stop, stop-now or cancel, their listeners for it only log: all that runs keeps that.
use Rattle.dom_base.proofs.Std.{◌≡◌, ℕ, Bool, true, false, not, ◌&&◌, ◌||◌, List, [], ◌∷◌, ◌++◌, map, Option, None, Some, option_map, refl, sym, ap, ◌∙◌}
use Rattle.dom_base.proofs.Std.{subst, ⊤, true≢false, AllByRecursion, is_none, is_some, and_parts, not-true, not-false, list_any, option_map_or}
use Rattle.dom_base.proofs.Std.{and-true}
use Rattle.dom_model.proofs.Model.{Owner, Page, Component, NodeName, Word, Action, Log, text_eq, name_eq, parent_of, Command, Line, no_owner, no_command}
use Rattle.dom_model.proofs.Model.{command}
use Rattle.dom_model.proofs.Model.{EventWords, ListenerWords, effect, named, refusal, step, first_world, run_lines, Effect, tables, changes, nothing}
use Rattle.dom_model.proofs.Model.{answers, sets_walker, Walker, Value, Listener, is_listener, with_listener_added, Part, Step, take_out}
use Rattle.dom_model.proofs.Model.{part_step, leave, World, part_of, owner-part_of, owner-part_step, is_log, slotchange, ending_other_turn, opening_turn}
use Rattle.dom_model.proofs.Model.{after_invoke}
use Rattle.dom_model.proofs.Model.{says, notified_lines}
use Rattle.dom_worlds.proofs.ListLemmas.{all-append, all-filter, all-from, either_way}
use Rattle.dom_worlds.proofs.CommandLemmas.{KeepsBase, base-effect}
use Rattle.dom_worlds.proofs.WorldLemmas.{HoldsIn}
use Rattle.dom_isolation.specs.Definitions.{LogsEvent, OthersOnlyLog, may_stop_type, line_may_stop_type, others_log_from, OthersLogAfter, NothingTouchesType}
use Rattle.dom_isolation.specs.Definitions.{NothingTouchesSlots, NothingTouchesTypes, interference_at, untouched, accepted_records}
use Rattle.dom_isolation.proofs.QuietVisits.{all-visited, interference-is_on_purpose}
use Rattle.dom_isolation.proofs.FullTraces.{AreQuietAtSlots, ending-quiet, AreQuietFor, AreGood, trace-quiet}
use Rattle.dom_isolation.proofs.SaidRuns.{KeepsSaying, SaysEffect, IsGoodLine, says-line, says-dispatch, says-told, says-running, says-ending_other}

module _ (group : Owner → Bool) (event : Word) where
  -- the listeners of a part, if its owner is outside, only log the event
  abbrev pub LogsPart : Part → Type 0
  LogsPart p = group p.owner ≡ false → AllByRecursion (LogsEvent event) p.listeners

  -- a command adds no listener of an owner outside that does more
  abbrev AddsLog : Command → Type 0
  AddsLog (Command.listen x words) = text_eq words.event event ≡ true → words.action ≡ Log
  AddsLog c = ⊤

  -- so it is of an owner outside
  abbrev pub MayAdd : Owner → Command → Type 0
  MayAdd o c = group o ≡ false → AddsLog c

  -- No step changes listeners.
  listeners-step : (p : Part) (s : Step) → (part_step p s).listeners ≡ p.listeners
  listeners-step p (take_out x) = from (parent_of p.trees x)
    where
      from : (o : Option NodeName) → (option_map_or (leave p x) o p).listeners ≡ p.listeners
      from None = refl
      from (Some parent) = refl
  listeners-step p s = refl

  -- so steps keep such a part
  logs-step : (p : Part) (s : Step) → LogsPart p → LogsPart (part_step p s)
  logs-step p s h out = subst (AllByRecursion (LogsEvent event)) (sym (listeners-step p s)) (h (ap group (sym (owner-part_step p s)) ∙ out))

  -- An effect keeps listeners that only log the event, where the command adds no other.
  abbrev KeepsLog : Part → Type 0 → Effect → Type 0
  KeepsLog p Ok (tables q lines v) = Ok → AllByRecursion (LogsEvent event) p.listeners → AllByRecursion (LogsEvent event) q.listeners
  KeepsLog p Ok (changes steps v) = ⊤

  -- of an answer alone
  log-answer : (p : Part) (v : Value) → KeepsLog p ⊤ (answers p v)
  log-answer p v = λ m h. h

  -- a walker that is set
  log-walker : (p : Part) (k : ℕ) (w : Walker) (o : Option NodeName) (v : Value) → KeepsLog p ⊤ (sets_walker p k w o v)
  log-walker p k w None v = λ m h. h
  log-walker p k w (Some x) v = λ m h. h

  -- of a thing that may not be there
  log-some : {X : Type 0} (p : Part) (o : Option X) (f : X → Effect) → ((x : X) → KeepsLog p ⊤ (f x)) → KeepsLog p ⊤ (option_map_or f o (answers p nothing))
  log-some p None f h = log-answer p nothing
  log-some p (Some x) f h = h x

  -- one more listener
  log-listened : (x : NodeName) (w : ListenerWords) (ls : List (Listener NodeName)) → (text_eq w.event event ≡ true → w.action ≡ Log) →
      AllByRecursion (LogsEvent event) ls → AllByRecursion (LogsEvent event) (with_listener_added name_eq x w ls)
  log-listened x w ls e h =
      let more : List (Listener NodeName) = ls ++ record { node = x; words = w } ∷ [] in
      either_way (AllByRecursion (LogsEvent event)) (list_any (is_listener name_eq x w.event w.label w.capture) ls) ls more h
      (all-append (LogsEvent event) ls (record { node = x; words = w } ∷ []) h (e, tt))

  -- every command
  log-effect : (p : Part) (c : Command) → KeepsLog p (AddsLog c) (effect p c)
  log-effect p (Command.listen a b) = λ m. log-listened (named p a) b p.listeners m
  log-effect p (Command.unlisten a b c d) = λ m. all-filter (LogsEvent event) (λ l. not (is_listener name_eq (named p a) b c d l)) p.listeners
  log-effect p c = search (log-some, log-walker, log-answer)

  -- in its owner's part
  logs-effect : (o : Owner) (c : Command) (p : Part) → p.owner ≡ o → LogsPart p → MayAdd o c → SaysEffect LogsPart (λ s. ⊤) (λ s. ⊤) o (effect p c)
  logs-effect o c p e h may = from (effect p c) (base-effect p c) (log-effect p c)
    where
      from : (f : Effect) → KeepsBase p f → KeepsLog p (AddsLog c) f → SaysEffect LogsPart (λ s. ⊤) (λ s. ⊤) o f
      from (tables q lines v) base k = (
        λ out. let mine : group p.owner ≡ false = ap group (sym base.0) ∙ out in k (may (ap group (sym e) ∙ mine)) (h mine),
        all-from (λ s. ⊤) (λ s. tt) (map (says o) lines),
        tt,
      )
      from (changes steps v) base k = (all-from (λ s. ⊤) (λ s. tt) steps, tt)

  -- what is asked of runs
  pub logs-saying : KeepsSaying LogsPart (λ s. ⊤) (λ t. ⊤) (λ s. ⊤) (λ l. ⊤) MayAdd
  logs-saying = record {
    steps = record { step = λ p s h m. logs-step p s h; document = λ x d. tt; notify = λ o. tt };
    visit = λ e v p d o h lines. let heard = after_invoke name_eq e (record d { listeners = p.listeners }) v in (
      λ out. all-visited (LogsEvent event) e v (record d { listeners = p.listeners }) (h out),
      all-from (λ l. ⊤) (λ l. tt) heard.lines,
    );
    notified = λ p h. (h, all-from (λ s. ⊤) (λ s. tt) (notified_lines p));
    ran = λ o label h. tt;
    nobody = tt;
    wordless = λ o h. tt;
    refused = λ o c r h. tt;
    replied = λ o c v n h. tt;
    micro = λ o label h. tt;
    attached = λ p x h. h;
    root = λ o d out. tt;
    effect = logs-effect;
    first = first;
  }
    where
      first : (o : Owner) → LogsPart (part_of first_world o)
      first Page out = tt
      first (Component k) out = tt

  -- a world whose parts are such
  abbrev pub LogsIn : World → Type 0
  LogsIn w = HoldsIn LogsPart (λ t. ⊤) w

  -- in the words of the law
  pub others-log_in : (w : World) → LogsIn w → OthersOnlyLog group event w
  others-log_in w h o out = h.parts o (ap group (owner-part_of w o) ∙ out)

  -- A `listen` that may not stop only logs.
  only-log : (a : Action) → is_log a ≡ true → a ≡ Log
  only-log Log h = refl
  only-log a h = absurd (true≢false (sym h))

  -- an accepted command of an owner outside that may not stop
  adds-log : (w : World) (o : Owner) (c : Command) → may_stop_type group event w o c ≡ false → refusal w o c ≡ None → MayAdd o c
  adds-log w o (Command.listen a b) h e out = λ fits.
      let lines = group o || is_log b.action in
      let left : (not lines && true) ≡ false =
      ap (λ t. not lines && (t && true)) (sym fits) ∙ ap (λ r. not lines && (text_eq b.event event && is_none r)) (sym e) ∙ h in
      only-log b.action (ap (λ t. t || is_log b.action) (sym out) ∙ not-false lines (sym (and-true (not lines)) ∙ left))
  adds-log w o c h e out = tt

  -- a line that may not stop
  good-line : (w : World) (l : Line) → line_may_stop_type group event w l ≡ false → IsGoodLine (λ l. ⊤) MayAdd w l
  good-line w no_owner h = tt
  good-line w (no_command o) h = tt
  good-line w (command o c) h = (tt, λ e. adds-log (ending_other_turn w o).0 o c h e)

  -- keeps that
  pub logs-line : (w : World) (l : Line) → line_may_stop_type group event w l ≡ false → LogsIn w → LogsIn (step w l).0
  logs-line w l h i = (says-line logs-saying w l i (good-line w l h)).0

  -- the first world has it
  pub logs-first : LogsIn first_world
  logs-first = record { parts = logs-saying.first; tasks = tt }

  -- and so has each world of a script
  pub logs-lines : {L : Type 0} (read : L → Line) (ls : List L) (w : World) → others_log_from read group event w ls ≡ true → LogsIn w →
      LogsIn (run_lines w (map read ls)).0
  logs-lines read [] w h i = i
  logs-lines read (l ∷ ls) w h i =
      let v = (step w (read l)).0 in
      let both = and_parts (not (line_may_stop_type group event w (read l))) (others_log_from read group event v ls) h in
      logs-lines read ls v both.1 (logs-line w (read l) (not-true (line_may_stop_type group event w (read l)) both.0) i)

-- Where others' listeners for `slotchange` only log, nobody outside touches those of the ending of a turn.
slots-quiet : (group : Owner → Bool) → AreQuietAtSlots group (LogsIn group slotchange.event)
slots-quiet group =
    let k = logs-saying group slotchange.event in
    record {
      slot = λ w s i. interference-is_on_purpose group w s None slotchange (others-log_in group slotchange.event w i);
      fired = λ w s i. (says-dispatch k w s None slotchange i).0;
      told = λ w o i. says-told k w o i;
      ran = λ w t i. (says-running k w t i tt).0;
      at_end = λ w i. record { parts = i.parts; tasks = tt };
    }

-- Worlds in which others' listeners for some types only log.
module _ (group : Owner → Bool) (types : Word → Bool) where
  -- for each of the types
  abbrev pub LogTypes : World → Type 0
  LogTypes w = (event : Word) → types event ≡ true → LogsIn group event w

  -- nobody outside touches such an event
  pub types-event : (w : World) → LogTypes w → (x : NodeName) (r : Option NodeName) (e : EventWords) → types e.event ≡ true →
      interference_at group w x r e ≡ untouched
  types-event w q x r e h = interference-is_on_purpose group w x r e (others-log_in group e.event w (q e.event h))

  -- what comes before a line, and the turn that it opens
  pub types-ended : (w : World) (o : Owner) → LogTypes w → LogTypes (ending_other_turn w o).0
  types-ended w o q event h = (says-ending_other (logs-saying group event) w o (q event h)).0

  -- the turn
  pub types-opened : (w : World) (o : Owner) → LogTypes w → LogTypes (opening_turn w o)
  types-opened w o q event h =
      let i = q event h in
      either_way (LogsIn group event) (is_some w.turn) w (record w { turn = Some o }) i (record { parts = i.parts; tasks = i.tasks })

  -- together
  pub quiet-for_types : types slotchange.event ≡ true → AreQuietFor group types LogTypes
  quiet-for_types slots = record {
    event = types-event;
    ending = λ w q. ending-quiet (slots-quiet group) w (q slotchange.event slots);
    ended = types-ended;
    opened = types-opened;
  }

  -- they are kept by lines
  pub types-line : {L : Type 0} (read : L → Line) (l : L) (ls : List L) (w : World) → LogTypes w →
      ((event : Word) → types event ≡ true → others_log_from read group event w (l ∷ ls) ≡ true) →
      LogTypes (step w (read l)).0 × ((event : Word) → types event ≡ true → others_log_from read group event (step w (read l)).0 ls ≡ true)
  types-line read l ls w q h = (
    λ event t. let one = and_parts (not (line_may_stop_type group event w (read l))) (others_log_from read group event (step w (read l)).0 ls) (h event t) in
        logs-line group event w (read l) (not-true (line_may_stop_type group event w (read l)) one.0) (q event t),
    λ event t. (and_parts (not (line_may_stop_type group event w (read l))) (others_log_from read group event (step w (read l)).0 ls) (h event t)).1,
  )

module _ {L : Type 0} (read : L → Line) where
  -- After such a script others' listeners for the type only log.
  logs-after : (group : Owner → Bool) (event : Word) (ls : List L) → others_log_from read group event first_world ls ≡ true →
      LogsIn group event (run_lines first_world (map read ls)).0
  logs-after group event ls h = logs-lines group event read ls first_world h (logs-first group event)

  -- the law
  pub others-log_after : OthersLogAfter read
  others-log_after group event ls h = others-log_in group event (run_lines first_world (map read ls)).0 (logs-after group event ls h)

  -- the event of a line
  pub nothing-touches_type : NothingTouchesType read
  nothing-touches_type group event ls h o x e related is =
      let w = (run_lines first_world (map read ls)).0 in
      let v = (ending_other_turn w o).0 in
      let u = opening_turn v o in
      let i = (says-ending_other (logs-saying group event) w o (logs-after group event ls h)).0 in
      let opened : LogsIn group event u =
      either_way (LogsIn group event) (is_some v.turn) v (record v { turn = Some o }) i (record { parts = i.parts; tasks = i.tasks }) in
      let logs : OthersOnlyLog group e.event u = subst (λ t. OthersOnlyLog group t u) (sym is) (others-log_in group event u opened) in
      either_way (AllByRecursion (λ j. j ≡ untouched)) (is_none (refusal v o (Command.dispatch x e related)))
      (accepted_records group v o (Command.dispatch x e related)) []
      (interference-is_on_purpose group u (named (part_of u o) x) (option_map (named (part_of u o)) related) e logs, tt) tt

  -- the events of an ending
  pub nothing-touches_slots : NothingTouchesSlots read
  nothing-touches_slots group ls h =
      ending-quiet (slots-quiet group) (run_lines first_world (map read ls)).0 (logs-after group slotchange.event ls h)

  -- the worlds of a script
  module _ (group : Owner → Bool) (types : Word → Bool) (slots : types slotchange.event ≡ true) where
    along : (ls : List L) (w : World) → LogTypes group types w → ((event : Word) → types event ≡ true → others_log_from read group event w ls ≡ true) →
        AreGood read (quiet-for_types group types slots) w ls
    along [] w q h = tt
    along (l ∷ ls) w q h = let next = types-line group types read l ls w q h in (q, along ls (step w (read l)).0 next.0 next.1)

  -- so nothing is told in a full trace
  pub nothing-touches_types : NothingTouchesTypes read
  nothing-touches_types group types ls h slots typed =
      trace-quiet read (quiet-for_types group types slots) ls first_world
      (along group types slots ls first_world (λ event t. logs-first group event) h) typed
