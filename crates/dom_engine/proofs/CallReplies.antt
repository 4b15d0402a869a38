-- What a command tells ends in its reply or refusal, and what comes before is told to listeners, observers and microtasks.
use Rattle.dom_base.proofs.Std.{◌≡◌, ℕ, true, false, List, [], ◌∷◌, ◌++◌, map, filter, fold, Option, None, Some, refl, sym, ap, ◌∙◌, ⊤, append_assoc}
use Rattle.dom_base.proofs.Std.{AllByRecursion, option_map, option_map_or}
use Rattle.dom_model.proofs.Model.{Owner, NodeName, Refusal, name_eq, Command, EventWords, effect, named, world_visit, visits_of, dispatch_in}
use Rattle.dom_model.proofs.Model.{event_output, refusal, effect_in, perform, accepted, run_command, Effect, tables, changes, sets_walker, begun, Output, says}
use Rattle.dom_model.proofs.Model.{replied, refused, recorded, Said, Value, Change, EventLine, Part, Walker, views, Run, quiet, run_each, unless_refused}
use Rattle.dom_model.proofs.Model.{notified, notified_lines, records_of, queue_of, slotchange, firing_slotchange, is_owned_by, without_signals, running_task}
use Rattle.dom_model.proofs.Model.{ending_turn, has_other_turn, ending_other_turn, opening_turn, World, Task, micro_task, notify_task, part_of, with_part}
use Rattle.dom_worlds.proofs.ListLemmas.{all-append, all-flat_map, all-from, all-map, either_way}
use Rattle.dom_engine.specs.Calls.{is_reply, IsDelivery, EndsInReply, CommandEndsInReply}

-- lines of output without a reply or refusal
abbrev Delivers : List Output → Type 0
Delivers outputs = AllByRecursion IsDelivery outputs

-- runs one after another
delivers-each : {A : Type 0} (f : World → A → Run World) → ((w : World) (x : A) → Delivers (f w x).1) → (xs : List A) (w : World) → Delivers (run_each f w xs).1
delivers-each f h [] w = tt
delivers-each f h (x ∷ xs) w = all-append IsDelivery (f w x).1 (run_each f (f w x).0 xs).1 (h w x) (delivers-each f h xs (f w x).0)

-- calls of listeners
delivers-events : (ls : List (EventLine NodeName)) → Delivers (map event_output ls)
delivers-events [] = tt
delivers-events (l ∷ ls) = (refl, delivers-events ls)

-- a dispatch
delivers-dispatch : (w : World) (x : NodeName) (r : Option NodeName) (e : EventWords) → Delivers (dispatch_in w x r e).run.1
delivers-dispatch w x r e = delivers-events (fold (world_visit e) (w, begun []) (visits_of name_eq e.bubbles (views w x r e.composed))).1.lines

-- records
delivers-records : (o : Owner) (k : ℕ) (cs : List (Change NodeName)) → Delivers (map (λ c. says o (recorded k c)) cs)
delivers-records o k [] = tt
delivers-records o k (c ∷ cs) = (refl, delivers-records o k cs)

-- a notification
delivers-notified : (p : Part) → Delivers (notified_lines p)
delivers-notified p =
    all-flat_map IsDelivery (records_of p) p.pending
    (all-from (λ k. Delivers (records_of p k)) (λ k. delivers-records p.owner k (queue_of p.record_queues k)) p.pending)

-- a task
delivers-running : (w : World) (t : Task) → Delivers (running_task w t).1
delivers-running w (micro_task o label) = (refl, tt)
delivers-running w (notify_task o) =
    let told = with_part (without_signals w o) (notified (part_of w o)) in
    let slots = filter (is_owned_by o) w.signalled in
    all-append IsDelivery (notified_lines (part_of w o)) (run_each firing_slotchange told slots).1 (delivers-notified (part_of w o))
    (delivers-each firing_slotchange (λ u s. delivers-dispatch u s None slotchange) slots told)

-- the ending of a turn
delivers-ending : (w : World) → Delivers (ending_turn w).1
delivers-ending w = delivers-each running_task delivers-running w.tasks (record w { tasks = []; turn = None })

-- of another component's turn
delivers-ending_other : (w : World) (o : Owner) → Delivers (ending_other_turn w o).1
delivers-ending_other w o =
    either_way (λ (r : Run World). Delivers r.1) (has_other_turn w o) (ending_turn w) (quiet w) (delivers-ending w) tt

-- a reply or refusal alone, and after what was told
ends-alone : (o : Owner) (s : Said) → is_reply s ≡ true → EndsInReply o (says o s ∷ [])
ends-alone o s h = record { deliveries = []; reply = s; whole = refl; last = h; before = tt }

ends-after : (o : Owner) (told rest : List Output) → Delivers told → EndsInReply o rest → EndsInReply o (told ++ rest)
ends-after o told rest h e = record {
  deliveries = told ++ e.deliveries;
  reply = e.reply;
  whole = ap (λ (t : List Output). told ++ t) e.whole ∙ sym (append_assoc told e.deliveries (says o e.reply ∷ []));
  last = e.last;
  before = all-append IsDelivery told e.deliveries h e.before;
}

-- What an effect says before the reply: records alone.
abbrev SaysRecords : Effect → Type 0
SaysRecords (tables p lines v) = AllByRecursion (λ s. is_reply s ≡ false) lines
SaysRecords (changes steps v) = ⊤

-- nothing
says-none : ⊤
says-none = tt

-- of a thing that may not be there
says-some : {X : Type 0} (o : Option X) (f : X → Effect) (d : Effect) → ((x : X) → SaysRecords (f x)) → SaysRecords d → SaysRecords (option_map_or f o d)
says-some None f d h g = g
says-some (Some x) f d h g = h x

-- a walker that is set
says-walker : (p : Part) (k : ℕ) (w : Walker) (o : Option NodeName) (v : Value) → SaysRecords (sets_walker p k w o v)
says-walker p k w None v = tt
says-walker p k w (Some x) v = tt

-- records that are taken
says-taken : (k : ℕ) (cs : List (Change NodeName)) → AllByRecursion (λ s. is_reply s ≡ false) (map (recorded k) cs)
says-taken k [] = tt
says-taken k (c ∷ cs) = (refl, says-taken k cs)

-- every effect
says-effect : (p : Part) (c : Command) → SaysRecords (effect p c)
says-effect p (Command.take k) = says-taken k (queue_of p.record_queues k)
says-effect p c = search (says-some, says-walker, says-none)

-- an effect, with the reply
ends-effect : (w : World) (o : Owner) (e : Effect) → SaysRecords e → EndsInReply o (effect_in w o e).1
ends-effect w o (tables p lines v) h =
    ends-after o (map (says o) lines) (says o (replied v) ∷ []) (all-map IsDelivery (says o) lines h) (ends-alone o (replied v) refl)
ends-effect w o (changes steps v) h = ends-alone o (replied v) refl

-- what an accepted command does
ends-perform : (w : World) (o : Owner) (c : Command) → EndsInReply o (perform w o c).1
ends-perform w o (Command.attach x) = ends-alone o (replied _) refl
ends-perform w o (Command.connected x) = ends-alone o (replied _) refl
ends-perform w o (Command.assigned x) = ends-alone o (replied _) refl
ends-perform w o (Command.dispatch x e r) =
    let d = dispatch_in w (named (part_of w o) x) (option_map (named (part_of w o)) r) e in
    ends-after o d.run.1 (says o (replied _) ∷ []) (delivers-dispatch w (named (part_of w o) x) (option_map (named (part_of w o)) r) e)
    (ends-alone o (replied _) refl)
ends-perform w o (Command.micro label) = ends-alone o (replied _) refl
ends-perform w o Command.end_turn = ends-after o (ending_turn w).1 (says o (replied _) ∷ []) (delivers-ending w) (ends-alone o (replied _) refl)
ends-perform w o c = ends-effect w o (effect (part_of w o) c) (says-effect (part_of w o) c)

-- with the turn that it opens
ends-accepted : (w : World) (o : Owner) (c : Command) → EndsInReply o (accepted w o c).1
ends-accepted w o Command.end_turn = ends-perform w o Command.end_turn
ends-accepted w o c = ends-perform (opening_turn w o) o c

-- refused or accepted
ends-run_command : (o : Owner) (c : Command) (w : World) → EndsInReply o (run_command o c w).1
ends-run_command o c w = from (refusal w o c)
  where
    from : (r : Option Refusal) → EndsInReply o (unless_refused o r w (accepted w o c)).1
    from (Some r) = ends-alone o (refused r) refl
    from None = ends-accepted w o c

-- a command
pub command-ends_in_reply : CommandEndsInReply
command-ends_in_reply w o c =
    let ended = ending_other_turn w o in
    ends-after o ended.1 (run_command o c ended.0).1 (delivers-ending_other w o) (ends-run_command o c ended.0)
