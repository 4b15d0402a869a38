-- The page machine that is told the interference: it makes the first visits alone of an event that others stopped, and answers that an event is
-- cancelled which others cancelled. All own rules.
use Rattle.std.specs.Prelude.{ℕ, Bool, true, not, ◌||◌, List, map, fold, take, Option, Some, None, option_map}
use Rattle.dom_base.specs.declared.Owner.TheVariants.{Page}
use Rattle.dom_base.specs.declared.NodeName.{NodeName}
use Rattle.dom_model.specs.Names.{name_eq}
use Rattle.dom_model.specs.Command.{Command, Line, command, EventWords}
use Rattle.dom_model.specs.CommandNames.{named}
use Rattle.dom_model.specs.Output.{Output, a_truth}
use Rattle.dom_model.specs.Listeners.{Dispatching, after_invoke, begun}
use Rattle.dom_model.specs.Paths.{plain_views}
use Rattle.dom_model.specs.Runs.{Run, quiet, run_then, run_each, answering, unless_refused}
use Rattle.dom_model.specs.Dispatch.{Dispatched, visits_of, event_output}
use Rattle.dom_model.specs.Trace.{OutwardEvent}
use Rattle.dom_model.specs.Groups.{outward_words}
use Rattle.dom_model.specs.PageMachine.{PageState, page_perform, page_refusal, page_line, page_finish, first_page}
use Rattle.dom_isolation.specs.Interference.{Interference, untouched, first_record, FullItem, line_with, outward_with, turn_ended}

-- the visits that are made, where others let the event come so far
abbrev pub first_visits : {A : Type 0} → Option ℕ → List A → List A
first_visits None visits = visits
first_visits (Some k) visits = take k visits

-- how a dispatch ends whose event others may have cancelled
abbrev pub dispatched_under : {S : Type 0} → Bool → S → Dispatching NodeName → Dispatched S
dispatched_under cancelled s d = record { run = (s, map event_output d.lines); answer = not (cancelled || d.cancelled) }

-- an event is dispatched along the inclusive ancestors of its target, as far as others let it come
abbrev pub page_dispatch_under : Interference → PageState → NodeName → Option NodeName → EventWords → Dispatched PageState
page_dispatch_under i s x related e =
    let visits = visits_of name_eq e.bubbles (plain_views s.part.trees x related) in
    let end = fold (after_invoke name_eq e) (begun s.part.listeners) (first_visits i.reached visits) in
    dispatched_under i.cancelled (record s { part = record s.part { listeners = end.listeners } }) end

-- what an accepted command does
abbrev pub page_perform_under : Interference → PageState → Command → Run PageState
page_perform_under i s (Command.dispatch x e related) =
    let d = page_dispatch_under i s (named s.part x) (option_map (named s.part) related) e in
    run_then d.run (answering Page (a_truth d.answer))
page_perform_under i s c = page_perform s c

-- an accepted command, `.` apart, opens the turn
abbrev pub page_accepted_under : Interference → PageState → Command → Run PageState
page_accepted_under i s Command.end_turn = page_perform s Command.end_turn
page_accepted_under i s c = page_perform_under i (record s { is_open = true }) c

-- a command of the page
abbrev pub page_command_under : Interference → PageState → Command → Run PageState
page_command_under i s c = unless_refused Page (page_refusal s c) s (page_accepted_under i s c)

-- a line of the page
abbrev pub page_line_under : Interference → PageState → Line → Run PageState
page_line_under i s (command o c) = page_command_under i s c
page_line_under i s l = page_line s l

-- an outward event is dispatched at its host, as far as others let it come
abbrev pub page_outward_under : Option ℕ → PageState → OutwardEvent → Run PageState
page_outward_under reached s e = (page_dispatch_under (record untouched { reached = reached }) s e.host None (outward_words e)).run

module _ {L : Type 0} (read : L → Line) where
  -- one item of a full trace; a line of the page has one event at most, and nobody else ends the page's turn
  abbrev pub step_page_under : PageState → FullItem L → Run PageState
  step_page_under s (line_with l records) = page_line_under (first_record records) s (read l)
  step_page_under s (outward_with e reached) = page_outward_under reached s e
  step_page_under s (turn_ended records) = quiet s

  -- the items of a full trace, one after another
  abbrev pub run_page_under : PageState → List (FullItem L) → Run PageState
  run_page_under s items = run_each step_page_under s items

  -- the page machine's output on a full trace
  abbrev pub page_outputs_under : List (FullItem L) → List Output
  page_outputs_under items = (run_then (run_page_under first_page items) page_finish).1
