-- The scripts of the line protocol as scripts of live documents. There an owner's turn is open, and a line of another owner ends a component's turn, or
-- is refused in the page's. Live documents have no turns: each line is carried out where it comes; where it ended another's turn the event loop's
-- checkpoint comes before it; and what is refused in the page's turn is left out. All own rules.
use Rattle.std.specs.Prelude.{◌≡◌, Bool, true, false, ◌&&◌, List, [], ◌∷◌, ◌++◌, map, None, if◌then◌else◌}
use Rattle.dom_base.specs.declared.Owner.{Owner}
use Rattle.dom_base.specs.declared.Refusal.TheVariants.{Busy}
use Rattle.dom_model.specs.Command.{Command, Line, no_owner, no_command, command, is_command_of}
use Rattle.dom_model.specs.DocumentMachine.{first_world, is_busy, step, run_lines, finish, outputs_of}
use Rattle.dom_model.specs.Groups.{group_outputs}
use Rattle.dom_model.specs.Output.{says, refused}
use Rattle.dom_model.specs.Runs.{Run, quiet, run_then, run_each}
use Rattle.dom_model.specs.Trace.{is_page}
use Rattle.dom_model.specs.Turns.{has_other_turn}
use Rattle.dom_model.specs.World.{World}
use Rattle.dom_live.specs.Lines.{LiveLine, plain, ownerless, wordless, said, checkpoint, written}
use Rattle.dom_live.specs.Documents.{world_documents, at_rest}
use Rattle.dom_live.specs.Machine.{live_lines, live_run}
use Rattle.dom_live.specs.Things.{whole_trace}

-- a world in which no turn is open
abbrev pub without_turn : World → World
without_turn w = record w { turn = None }

-- the line, as one of live documents
abbrev pub live_line : Line → LiveLine
live_line no_owner = ownerless
live_line (no_command o) = wordless o
live_line (command o c) = said o (plain c)

-- whether a line ends another component's turn
abbrev pub ends_turn : World → Line → Bool
ends_turn w no_owner = false
ends_turn w (no_command o) = has_other_turn w o
ends_turn w (command o c) = has_other_turn w o

-- whether a line is refused since the page's turn is open
abbrev pub is_kept_out : World → Line → Bool
is_kept_out w (command o c) = is_command_of o c && is_busy w o
is_kept_out w l = false

-- the lines of live documents for one line: first the event loop's checkpoint, if the line ends another's turn; and then the line, unless it is kept out
abbrev pub as_live_lines : World → Line → List LiveLine
as_live_lines w l = (if ends_turn w l then checkpoint ∷ [] else []) ++ (if is_kept_out w l then [] else live_line l ∷ [])

-- for the lines of a script, from a world on
abbrev pub as_live_script : World → List Line → List LiveLine
as_live_script w [] = []
as_live_script w (l ∷ ls) = as_live_lines w l ++ as_live_script (step w l).0 ls

-- a line, unless it is kept out, of which nothing is said then
abbrev pub carried_out : World → Line → Run World
carried_out w l = if is_kept_out w l then quiet w else step w l

-- the lines of a script, one after another
abbrev pub carried_out_lines : World → List Line → Run World
carried_out_lines w ls = run_each carried_out w ls

-- and the end of input
abbrev pub carried_out_run : World → List Line → Run World
carried_out_run w ls = run_then (carried_out_lines w ls) finish

-- A line that is kept out is refused, and changes nothing: this refusal is all that carrying out the others leaves out.
abbrev pub KeptOutIsBusy : Type 0
KeptOutIsBusy = (w : World) (o : Owner) (c : Command) →
    is_kept_out w (command o c) ≡ true → step w (command o c) ≡ (w, says o (refused Busy) ∷ [])

-- After each list of lines live documents have the world of the line protocol, in which no turn is open; nothing is under way; and they have answered just
-- what the line protocol answers to the lines that are carried out.
abbrev pub LinesTranslate : Type 0
LinesTranslate = (ls : List Line) →
    let r = live_lines world_documents (at_rest first_world) (as_live_script first_world ls) in
    (r.0.documents ≡ without_turn (run_lines first_world ls).0) × (r.0.frames ≡ [])
    × (r.1 ≡ map written (carried_out_lines first_world ls).1)

-- And so at the end of input.
abbrev pub RunsTranslate : Type 0
RunsTranslate = (ls : List Line) →
    let r = live_run world_documents (at_rest first_world) (as_live_script first_world ls) in
    (r.0.documents ≡ without_turn (run_then (run_lines first_world ls) finish).0) × (r.0.frames ≡ [])
    × (r.1 ≡ map written (carried_out_run first_world ls).1)

-- Two scripts of the line protocol, and live scripts that read as what stands for them. Lines of live scripts are of any form. Where the live traces for a
-- group are equal, the line protocol answers the group the same, but for lines that are kept out.
abbrev pub SameLines : {L : Type 0} → (L → LiveLine) → (Owner → Bool) → Type 0
SameLines {L = L} read group =
    (ls ms : List Line) (xs ys : List L) → map read xs ≡ as_live_script first_world ls → map read ys ≡ as_live_script first_world ms →
    whole_trace group read xs ≡ whole_trace group read ys →
    group_outputs group (carried_out_run first_world ls).1 ≡ group_outputs group (carried_out_run first_world ms).1

-- No line of the page is kept out: what it is answered is the same.
abbrev pub SamePageLines : {L : Type 0} → (L → LiveLine) → Type 0
SamePageLines {L = L} read =
    (ls ms : List Line) (xs ys : List L) → map read xs ≡ as_live_script first_world ls → map read ys ≡ as_live_script first_world ms →
    whole_trace is_page read xs ≡ whole_trace is_page read ys →
    group_outputs is_page (outputs_of ls) ≡ group_outputs is_page (outputs_of ms)
