-- The silent run that is told the interference: the document machine on a group's full trace, in which the group's nodes alone are visited, as far as
-- others let an event come, and only the group's tasks run. The records of a line are a state, of which each event takes the first. All own rules.
use Rattle.std.specs.Prelude.{ℕ, Bool, List, [], ◌∷◌, filter, fold, Option, None, option_map, is_some, if◌then◌else◌}
use Rattle.dom_base.specs.declared.Owner.{Owner}
use Rattle.dom_base.specs.declared.NodeName.{NodeName}
use Rattle.dom_base.specs.declared.Refusal.TheVariants.{Syntax}
use Rattle.dom_model.specs.Names.{name_eq}
use Rattle.dom_model.specs.Command.{Command, Line, no_owner, no_command, command, EventWords}
use Rattle.dom_model.specs.CommandNames.{named}
use Rattle.dom_model.specs.Output.{Output, bad_owner, says, micro_ran, nothing, a_truth}
use Rattle.dom_model.specs.Listeners.{Dispatching, begun}
use Rattle.dom_model.specs.Paths.{views}
use Rattle.dom_model.specs.Runs.{Run, quiet, run_then, run_each, answering, refusing, unless_refused}
use Rattle.dom_model.specs.World.{World, Task, micro_task, notify_task, part_of, with_part}
use Rattle.dom_model.specs.Dispatch.{Dispatched, world_visit, visits_of}
use Rattle.dom_model.specs.Turns.{slotchange, is_owned_by, without_signals, notified, notified_lines, has_other_turn, opening_turn}
use Rattle.dom_model.specs.DocumentMachine.{refusal, perform, first_world}
use Rattle.dom_model.specs.Groups.{is_task_of, outward_words}
use Rattle.dom_model.specs.Trace.{OutwardEvent}
use Rattle.dom_isolation.specs.Interference.{Interference, untouched, first_record, is_own_visit, FullItem, line_with, outward_with, turn_ended}
use Rattle.dom_isolation.specs.TouchedMachines.{first_visits, dispatched_under}

-- a world, and the records that are still to be taken
abbrev pub Told : Type 0
Told = World × List Interference

-- the records behind the first
abbrev pub later_records : List Interference → List Interference
later_records [] = []
later_records (i ∷ later) = later

-- the world that is left
abbrev pub told_run : Run Told → Run World
told_run r = (r.0.0, r.1)

-- a run of the world alone, which takes no record
abbrev pub untold : List Interference → Run World → Run Told
untold records r = ((r.0, records), r.1)

module _ (group : Owner → Bool) where
  -- a dispatch in which the group's nodes alone are visited, as far as others let the event come
  abbrev pub dispatch_under : Interference → World → NodeName → Option NodeName → EventWords → Dispatched World
  dispatch_under i w target related e =
      let own = filter (is_own_visit group) (visits_of name_eq e.bubbles (views w target related e.composed)) in
      let end : World × Dispatching NodeName = fold (world_visit e) (w, begun []) (first_visits i.reached own) in
      dispatched_under i.cancelled end.0 end.1

  -- `slotchange` at a slot
  abbrev pub firing_under : Told → NodeName → Run Told
  firing_under t s = untold (later_records t.1) (dispatch_under (first_record t.1) t.0 s None slotchange).run

  -- a notification
  abbrev pub notifying_under : Told → Owner → Run Told
  notifying_under t o =
      let p = part_of t.0 o in
      let slots = filter (is_owned_by o) t.0.signalled in
      run_then (untold t.1 (with_part (without_signals t.0 o) (notified p), notified_lines p)) (λ u. run_each firing_under u slots)

  -- a task
  abbrev pub running_under : Told → Task → Run Told
  running_under t (micro_task o label) = (t, says o (micro_ran label) ∷ [])
  running_under t (notify_task o) = notifying_under t o

  -- a turn ends: the group's tasks run
  abbrev pub ending_under : Told → Run Told
  ending_under t = run_each running_under (record t.0 { tasks = []; turn = None }, t.1) (filter (is_task_of group) t.0.tasks)

  -- before a line
  abbrev pub ending_other_under : Told → Owner → Run Told
  ending_other_under t o = if has_other_turn t.0 o then ending_under t else quiet t

  -- at the end of input
  abbrev pub ending_any_under : Told → Run Told
  ending_any_under t = if is_some t.0.turn then ending_under t else quiet t

  -- what an accepted command does
  abbrev pub perform_under : Told → Owner → Command → Run Told
  perform_under t o (Command.dispatch x e related) =
      let p = part_of t.0 o in
      let d = dispatch_under (first_record t.1) t.0 (named p x) (option_map (named p) related) e in
      run_then (untold (later_records t.1) d.run) (answering o (a_truth d.answer))
  perform_under t o Command.end_turn = run_then (ending_under t) (answering o nothing)
  perform_under t o c = untold t.1 (perform t.0 o c)

  -- an accepted command, `.` apart, opens a turn
  abbrev pub accepted_under : Told → Owner → Command → Run Told
  accepted_under t o Command.end_turn = perform_under t o Command.end_turn
  accepted_under t o c = perform_under (opening_turn t.0 o, t.1) o c

  -- a command
  abbrev pub run_command_under : Owner → Command → Told → Run Told
  run_command_under o c t = unless_refused o (refusal t.0 o c) t (accepted_under t o c)

  -- first the ending of another component's turn, and then the line
  abbrev pub step_under : Told → Line → Run Told
  step_under t no_owner = (t, bad_owner ∷ [])
  step_under t (no_command o) = run_then (ending_other_under t o) (refusing o Syntax)
  step_under t (command o c) = run_then (ending_other_under t o) (run_command_under o c)

  -- an outward event is dispatched at its host, as far as others let it come
  abbrev pub outward_under : Option ℕ → World → OutwardEvent → Run World
  outward_under reached w e = (dispatch_under (record untouched { reached = reached }) w e.host None (outward_words e)).run

  module _ {L : Type 0} (read : L → Line) where
    -- one item of a full trace
    abbrev pub silent_step_under : World → FullItem L → Run World
    silent_step_under w (line_with l records) = told_run (step_under (w, records) (read l))
    silent_step_under w (outward_with e reached) = outward_under reached w e
    silent_step_under w (turn_ended records) = told_run (ending_under (w, records))

    -- the output of a full trace, and of the end of input with its records
    abbrev pub silent_output_under : List (FullItem L) → List Interference → List Output
    silent_output_under items last =
        (run_then (run_each silent_step_under first_world items) (λ w. told_run (ending_any_under (w, last)))).1
