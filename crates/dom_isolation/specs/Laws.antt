-- The isolation laws, each about one step of the two machines: what the page sees of the document machine is what the page
-- machine does.
use Rattle.std.specs.Prelude.{◌≡◌, ◌≢◌, Bool, false, List, ◌++◌, filter, fold, map, Option, None, Some, option_to_list, IsTrue, true}
use Rattle.std.specs.List.{AllByRecursion}
use Rattle.dom_base.specs.declared.Owner.{Owner}
use Rattle.dom_base.specs.declared.Owner.TheVariants.{Page}
use Rattle.dom_base.specs.declared.NodeName.{NodeName}
use Rattle.dom_model.specs.Command.{Command, Line, EventWords, NodeWord, part_refusal}
use Rattle.dom_model.specs.Output.{Output, EventLine}
use Rattle.dom_model.specs.Listeners.{Visit, Dispatching, after_invoke}
use Rattle.dom_model.specs.Names.{name_eq}
use Rattle.dom_model.specs.Paths.{views, plain_views}
use Rattle.dom_model.specs.Runs.{Run, quiet, run_then, run_each}
use Rattle.dom_model.specs.World.{World, part_of}
use Rattle.dom_model.specs.Dispatch.{Dispatched, dispatch_in, world_visit, visits_of}
use Rattle.dom_model.specs.Turns.{notifying, ending_turn, ending_other_turn}
use Rattle.dom_model.specs.DocumentMachine.{first_world, step, run_lines, perform, finish}
use Rattle.dom_model.specs.Trace.{is_page, is_of, owner_of_line, outputs_for, boundary_host, outward_dispatch, outward_event, trace_from, trace_of}
use Rattle.dom_model.specs.Trace.{no_component_stops}
use Rattle.dom_model.specs.PageMachine.{PageState, page_of, page_dispatch, page_outward, page_turn_end, page_finish, page_line, first_page, run_page}
use Rattle.dom_model.specs.PageMachine.{page_outputs_of}
use Rattle.dom_worlds.specs.Worlds.{IsOf, ComponentsOnlyLog}
use Rattle.dom_worlds.specs.Reached.{IsQuiet}

-- what the page sees of a run of the world
abbrev pub page_run : Run World → Run PageState
page_run r = (page_of r.0, outputs_for Page r.1)

-- what the page sees of a dispatch
abbrev pub page_dispatched : Dispatched World → Dispatched PageState
page_dispatched d = record { run = page_run d.run; answer = d.answer }

-- whether a line of a listener is the page's
abbrev pub is_page_line : EventLine NodeName → Bool
is_page_line l = is_page l.current.owner

-- One visit: at a component's node it changes nothing of the page and none of the event's flags, and adds no page line.
abbrev pub VisitIsUnseen : Type 0
VisitIsUnseen =
    (w : World) (d : Dispatching NodeName) (e : EventWords) (v : Visit NodeName) → v.current.owner ≢ Page → ComponentsOnlyLog w →
    let end = world_visit e (w, d) v in
    (part_of end.0 Page ≡ part_of w Page) × (end.1.stopped ≡ d.stopped) × (end.1.stopped_now ≡ d.stopped_now) × (end.1.cancelled ≡ d.cancelled)
    × (filter is_page_line end.1.lines ≡ filter is_page_line d.lines)

-- what the page sees of a dispatch on its way: its own listeners, its own lines, and the event's flags
abbrev pub page_going : World × Dispatching NodeName → Dispatching NodeName
page_going s = record s.1 { listeners = (part_of s.0 Page).listeners; lines = filter is_page_line s.1.lines }

-- whether a visit is at a page node
abbrev pub is_page_visit : Visit NodeName → Bool
is_page_visit v = is_page v.current.owner

-- All visits: what the page sees of them is what the visits at its own nodes do to its own listeners.
abbrev pub FoldSkipsComponents : Type 0
FoldSkipsComponents =
    (e : EventWords) (vs : List (Visit NodeName)) (s : World × Dispatching NodeName) → ComponentsOnlyLog s.0 →
    page_going (fold (world_visit e) s vs) ≡ fold (after_invoke name_eq e) (page_going s) (filter is_page_visit vs)

-- The visits at page nodes, with what is seen there, are the page machine's: of an event of the page, and of one that goes
-- out of a shadow tree, which is the page machine's at the boundary host for the page, the outermost one.
abbrev pub PageVisitsAgree : Type 0
PageVisitsAgree =
    (w : World) → IsQuiet w → (x : NodeName) (related : Option NodeName) (bubbles composed : Bool) → x.owner ≡ Page →
    AllByRecursion (IsOf Page) (option_to_list related) →
    filter is_page_visit (visits_of name_eq bubbles (views w x related composed)) ≡ visits_of name_eq bubbles (plain_views (part_of w Page).trees x related)

-- of one that goes out
abbrev pub OutwardVisitsAgree : Type 0
OutwardVisitsAgree =
    (w : World) → IsQuiet w → (x host : NodeName) (bubbles : Bool) → x.owner ≢ Page → boundary_host is_page w x ≡ Some host →
    filter is_page_visit (visits_of name_eq bubbles (views w x None true)) ≡ visits_of name_eq bubbles (plain_views (part_of w Page).trees host None)

-- One dispatch: one of the page is the page machine's; one of a component is nothing, or its outward event.
abbrev pub PageDispatchAgrees : Type 0
PageDispatchAgrees =
    (w : World) → IsQuiet w → (x : NodeName) (related : Option NodeName) (e : EventWords) → x.owner ≡ Page →
    AllByRecursion (IsOf Page) (option_to_list related) →
    page_dispatched (dispatch_in w x related e) ≡ page_dispatch (page_of w) x related e

-- one of a component
abbrev pub ComponentDispatchAgrees : Type 0
ComponentDispatchAgrees =
    (w : World) (o : Owner) → o ≢ Page → IsQuiet w → (x : NodeWord) (e : EventWords) (related : Option NodeWord) →
    let c = Command.dispatch x e related in
    part_refusal (part_of w o) c ≡ None →
    page_run (perform w o c) ≡ run_each page_outward (page_of w) (option_to_list (outward_dispatch is_page w o c))

-- One notification of a component shows nothing; and the ending of a turn does to the page what its own tasks do.
abbrev pub NotificationIsUnseen : Type 0
NotificationIsUnseen = (w : World) (o : Owner) → o ≢ Page → IsQuiet w → page_run (notifying w o) ≡ quiet (page_of w)

-- the ending of a turn
abbrev pub TurnEndingAgrees : Type 0
TurnEndingAgrees = (w : World) → IsQuiet w → page_run (ending_turn w) ≡ page_turn_end (page_of w)

-- the ending of a component's turn before a line shows nothing
abbrev pub OtherEndingIsUnseen : Type 0
OtherEndingIsUnseen = (w : World) → IsQuiet w → (o : Owner) → page_run (ending_other_turn w o) ≡ quiet (page_of w)

-- One line: of the page, as the page machine takes it; of another, its outward event. And the end of input.
abbrev pub PageLineAgrees : Type 0
PageLineAgrees = (w : World) → IsQuiet w → (l : Line) → IsTrue (is_of is_page (owner_of_line l)) → page_run (step w l) ≡ page_line (page_of w) l

-- a line of another owner, or of none
abbrev pub OtherLineAgrees : Type 0
OtherLineAgrees =
    (w : World) → IsQuiet w → (l : Line) → is_of is_page (owner_of_line l) ≡ false →
    page_run (step w l) ≡ run_each page_outward (page_of w) (option_to_list (outward_event is_page w l))

-- the end of input
abbrev pub FinishAgrees : Type 0
FinishAgrees = (w : World) → IsQuiet w → page_run (finish w) ≡ page_finish (page_of w)

-- The lines so far: the page's part and the page's lines are those of the page machine on the trace.
abbrev pub PageRunAgrees : {L : Type 0} → (L → Line) → Type 0
PageRunAgrees {L = L} read =
    (ls : List L) → IsTrue (no_component_stops read ls) → page_run (run_lines first_world (map read ls)) ≡ run_page read first_page (trace_of read ls)

-- More lines only add to the trace, and so to what the page machine does.
abbrev pub TraceGoesOn : {L : Type 0} → (L → Line) → Type 0
TraceGoesOn {L = L} read =
    (ls more : List L) → let rest = trace_from read is_page (run_lines first_world (map read ls)).0 more in
    (trace_of read (ls ++ more) ≡ trace_of read ls ++ rest)
    × (run_page read first_page (trace_of read (ls ++ more)) ≡ run_then (run_page read first_page (trace_of read ls)) (λ s. run_page read s rest))

-- So what the page machine writes for the lines so far, without the ending, stands at the front of what it writes for these
-- lines and more, with the ending.
abbrev pub PageOutputGoesOn : {L : Type 0} → (L → Line) → Type 0
PageOutputGoesOn {L = L} read =
    (ls more : List L) → (rest : List Output) × (page_outputs_of read (trace_of read (ls ++ more)) ≡ (run_page read first_page (trace_of read ls)).1 ++ rest)

-- Of lines in which no component listener stops or cancels the same holds of some first lines.
abbrev pub FirstLinesStopNothing : {L : Type 0} → (L → Line) → Type 0
FirstLinesStopNothing {L = L} read = (ls more : List L) → IsTrue (no_component_stops read (ls ++ more)) → IsTrue (no_component_stops read ls)
