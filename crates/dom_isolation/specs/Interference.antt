-- Interference: what listeners of others do to an event, as far as a group of owners can notice it; and the full trace of a script, which
-- tells it. Own rules, over the event flags of the DOM Standard.
use Rattle.std.specs.Prelude.{ℕ, suc, Bool, false, not, ◌&&◌, ◌||◌, List, [], ◌∷◌, ◌++◌, map, filter, Option, Some, None, option_map}
use Rattle.std.specs.Prelude.{option_to_list, is_none, if◌then◌else◌}
use Rattle.dom_base.specs.declared.Owner.{Owner}
use Rattle.dom_base.specs.declared.NodeName.{NodeName}
use Rattle.dom_model.specs.Names.{name_eq}
use Rattle.dom_model.specs.Command.{Command, Line, command, EventWords}
use Rattle.dom_model.specs.CommandNames.{named}
use Rattle.dom_model.specs.Listeners.{Visit, Dispatching, begun}
use Rattle.dom_model.specs.Paths.{views}
use Rattle.dom_model.specs.Runs.{Run}
use Rattle.dom_model.specs.World.{World, Task, micro_task, notify_task, part_of, with_part}
use Rattle.dom_model.specs.Dispatch.{world_visit, visits_of}
use Rattle.dom_model.specs.Turns.{slotchange, firing_slotchange, is_owned_by, without_signals, notified, running_task, ending_other_turn, opening_turn}
use Rattle.dom_model.specs.DocumentMachine.{refusal, step, first_world}
use Rattle.dom_model.specs.Trace.{OutwardEvent, TraceItem, line, outward, is_page, is_of, owner_of_line, outward_event}
use Rattle.dom_model.specs.Groups.{ends_other_turn, ends_group_turn}

-- What listeners of others did to an event: how many visits at the group's nodes came before one of them set the stop propagation flag, if one
-- did; and whether one of them set the canceled flag (DOM Standard, 2.2: event flags).
pub record Interference : Type 0 where
  pub reached : Option ℕ
  pub cancelled : Bool

-- nobody outside the group set either (own rule)
abbrev pub untouched : Interference
untouched = record { reached = None; cancelled = false }

-- what a visit at a node outside did, by the flags before and after it, and what came later (DOM Standard, 2.2: event flags)
abbrev pub touched : Dispatching NodeName → Dispatching NodeName → Interference → Interference
touched was now later = record {
  reached = if now.stopped && not was.stopped then Some 0 else later.reached;
  cancelled = (now.cancelled && not was.cancelled) || later.cancelled;
}

-- what a visit at a node of the group adds to what came later: one visit more (own rule)
abbrev pub one_more : Interference → Interference
one_more later = record later { reached = option_map suc later.reached }

-- what is told of what runs one after another (own rule)
abbrev pub records_each : {A : Type 0} → (World → A → Run World) → (World → A → List Interference) → World → List A → List Interference
records_each run tell w [] = []
records_each run tell w (x ∷ xs) = tell w x ++ records_each run tell (run w x).0 xs

-- the first of the records; where there is none, nothing was done (own rule)
abbrev pub first_record : List Interference → Interference
first_record [] = untouched
first_record (i ∷ later) = i

module _ (group : Owner → Bool) where
  -- whether a visit is at a node of the group
  abbrev pub is_own_visit : Visit NodeName → Bool
  is_own_visit v = group v.current.owner

  -- of the visits of a dispatch, from a state on
  abbrev pub interference_from : EventWords → World × Dispatching NodeName → List (Visit NodeName) → Interference
  interference_from e s [] = untouched
  interference_from e s (v ∷ vs) =
      let t = world_visit e s v in
      let later = interference_from e t vs in
      if is_own_visit v then one_more later else touched s.1 t.1 later

  -- of a dispatch
  abbrev pub interference_at : World → NodeName → Option NodeName → EventWords → Interference
  interference_at w target related e = interference_from e (w, begun []) (visits_of name_eq e.bubbles (views w target related e.composed))

  -- of `slotchange` at a slot
  abbrev pub slot_record : World → NodeName → List Interference
  slot_record w s = interference_at w s None slotchange ∷ []

  -- of a task: of each event that it fires at a slot of the group
  abbrev pub task_records : World → Task → List Interference
  task_records w (micro_task o label) = []
  task_records w (notify_task o) =
      let told = with_part (without_signals w o) (notified (part_of w o)) in
      if group o then records_each firing_slotchange slot_record told (filter (is_owned_by o) w.signalled) else []

  -- of the ending of a turn
  abbrev pub ending_records : World → List Interference
  ending_records w = records_each running_task task_records (record w { tasks = []; turn = None }) w.tasks

  -- of what an accepted command does: a dispatch has one event, which comes in the turn that it opens, and `.` those of the turn's ending
  abbrev pub accepted_records : World → Owner → Command → List Interference
  accepted_records w o (Command.dispatch x e related) =
      let v = opening_turn w o in
      let p = part_of v o in
      interference_at v (named p x) (option_map (named p) related) e ∷ []
  accepted_records w o Command.end_turn = ending_records w
  accepted_records w o c = []

  -- of a command, where it is accepted
  abbrev pub command_records : World → Owner → Command → List Interference
  command_records w o c = if is_none (refusal w o c) then accepted_records w o c else []

  -- of the ending of another component's turn before a line
  abbrev pub before_records : World → Line → List Interference
  before_records w l = if ends_other_turn w l then ending_records w else []

  -- of a line, after that ending
  abbrev pub own_records : World → Line → List Interference
  own_records w (command o c) = command_records (ending_other_turn w o).0 o c
  own_records w l = []

-- What a full trace has: a line, with what others did to each event that it fires at a node of the group, in order; an outward event, with how
-- far others let it come; and the ending of a turn of the group by another's line, with what others did to its events.
pub data FullItem (L : Type 0) : Type 0 where
  line_with : L → List Interference → FullItem L
  outward_with : OutwardEvent → Option ℕ → FullItem L
  turn_ended : List Interference → FullItem L

module _ {L : Type 0} where
  -- the items of the trace that an item has (own rule)
  abbrev pub plain_items : FullItem L → List (TraceItem L)
  plain_items (line_with l records) = line l ∷ []
  plain_items (outward_with e reached) = outward e ∷ []
  plain_items (turn_ended records) = []

module _ {L : Type 0} (read : L → Line) where
  -- what a line of another gives a group: the ending of the group's turn, where it ends it, and its outward event (own rule)
  abbrev pub others_items : (Owner → Bool) → World → L → List (FullItem L)
  others_items kept w l =
      let ended = if ends_group_turn kept w (read l) then turn_ended (before_records kept w (read l)) ∷ [] else [] in
      let reached = (first_record (own_records kept w (read l))).reached in
      ended ++ map (λ e. outward_with e reached) (option_to_list (outward_event kept w (read l)))

  -- The full trace for some owners: of a script from a world on, those owners' lines and the others' outward events, in order, with the
  -- interference (own rule).
  abbrev pub full_items : (Owner → Bool) → World → L → List (FullItem L)
  full_items kept w l =
      if is_of kept (owner_of_line (read l)) then line_with l (before_records kept w (read l) ++ own_records kept w (read l)) ∷ []
      else others_items kept w l

  -- the full trace of a script from a world on (own rule)
  abbrev pub full_trace_from : (Owner → Bool) → World → List L → List (FullItem L)
  full_trace_from kept w [] = []
  full_trace_from kept w (l ∷ ls) = full_items kept w l ++ full_trace_from kept (step w (read l)).0 ls

  -- the full trace of a script: the lines of the page, and all outward events, with the interference (own rule)
  abbrev pub full_trace_of : List L → List (FullItem L)
  full_trace_of ls = full_trace_from is_page first_world ls
