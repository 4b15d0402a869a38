-- Interference by the type of event: where nobody outside a group listens for a type with stop, stop-now or cancel, no event of this type is touched.
-- So scripts whose events are all of such types have equal output where their plain traces are equal, whatever listeners for other types do.
use Rattle.std.specs.Prelude.{◌≡◌, Bool, true, false, not, ◌&&◌, ◌||◌, IsTrue, List, [], ◌∷◌, Option, map, is_none, ⊤}
use Rattle.std.specs.List.{AllByRecursion}
use Rattle.dom_base.specs.declared.Owner.{Owner}
use Rattle.dom_base.specs.declared.Owner.TheVariants.{Page}
use Rattle.dom_model.specs.Command.{Command, Line, no_owner, no_command, command, NodeWord, EventWords}
use Rattle.dom_model.specs.DocumentMachine.{refusal, step, first_world, run_lines}
use Rattle.dom_model.specs.Isolation.{output_for}
use Rattle.dom_model.specs.Names.{Word, text_eq}
use Rattle.dom_model.specs.PageMachine.{page_outputs_of}
use Rattle.dom_model.specs.Trace.{TraceItem, line, outward, is_page, is_log, trace_of, trace_from}
use Rattle.dom_model.specs.Turns.{slotchange, ending_other_turn}
use Rattle.dom_model.specs.World.{World}
use Rattle.dom_isolation.specs.FullLaws.{IsUntouched, OthersOnlyLog}
use Rattle.dom_isolation.specs.Interference.{untouched, ending_records, own_records, full_trace_from, full_trace_of}

-- an accepted `listen` of an owner outside a group, for a type of event, with the action stop, stop-now or cancel
abbrev pub may_stop_type : (Owner → Bool) → Word → World → Owner → Command → Bool
may_stop_type group event w o (Command.listen x words) =
    not (group o || is_log words.action) && (text_eq words.event event && is_none (refusal w o (Command.listen x words)))
may_stop_type group event w o c = false

-- a line with such a `listen`
abbrev pub line_may_stop_type : (Owner → Bool) → Word → World → Line → Bool
line_may_stop_type group event w (command o c) = may_stop_type group event (ending_other_turn w o).0 o c
line_may_stop_type group event w l = false

-- the event of a command, if it is a dispatch, is of some types
abbrev pub HasEventIn : (Word → Bool) → Command → Type 0
HasEventIn types (Command.dispatch x e related) = IsTrue (types e.event)
HasEventIn types c = ⊤

-- of a line
abbrev pub HasLineIn : (Word → Bool) → Line → Type 0
HasLineIn types no_owner = ⊤
HasLineIn types (no_command o) = ⊤
HasLineIn types (command o c) = HasEventIn types c

module _ {L : Type 0} (read : L → Line) where
  -- the event of an item of a trace, if it has one, is of some types
  abbrev pub HasTypeIn : (Word → Bool) → TraceItem L → Type 0
  HasTypeIn types (line l) = HasLineIn types (read l)
  HasTypeIn types (outward e) = IsTrue (types e.event)

  -- no owner outside a group listens for a type with such an action: no line of a script, run from a world on, is such a `listen`
  abbrev pub others_log_from : (Owner → Bool) → Word → World → List L → Bool
  others_log_from group event w [] = true
  others_log_from group event w (l ∷ ls) = not (line_may_stop_type group event w (read l)) && others_log_from group event (step w (read l)).0 ls

  -- of a whole script
  abbrev pub others_log : (Owner → Bool) → Word → List L → Bool
  others_log group event ls = others_log_from group event first_world ls

  -- After such a script the listeners of others for the type only log, and so does nobody outside touch an event of the type,
  abbrev pub OthersLogAfter : Type 0
  OthersLogAfter =
      (group : Owner → Bool) (event : Word) (ls : List L) → IsTrue (others_log group event ls) →
      OthersOnlyLog group event (run_lines first_world (map read ls)).0

  -- neither the one of a line that comes then,
  abbrev pub NothingTouchesType : Type 0
  NothingTouchesType =
      (group : Owner → Bool) (event : Word) (ls : List L) → IsTrue (others_log group event ls) → (o : Owner) (x : NodeWord) (e : EventWords) →
      (related : Option NodeWord) → e.event ≡ event →
      let w = (run_lines first_world (map read ls)).0 in AllByRecursion (λ i. i ≡ untouched) (own_records group w (command o (Command.dispatch x e related)))

  -- nor those that the ending of a turn fires.
  abbrev pub NothingTouchesSlots : Type 0
  NothingTouchesSlots =
      (group : Owner → Bool) (ls : List L) → IsTrue (others_log group slotchange.event ls) →
      AllByRecursion (λ i. i ≡ untouched) (ending_records group (run_lines first_world (map read ls)).0)

  -- nobody outside a group listens for some types with such an action
  abbrev pub OthersLogTypes : (Owner → Bool) → (Word → Bool) → List L → Type 0
  OthersLogTypes group types ls = (event : Word) → IsTrue (types event) → IsTrue (others_log group event ls)

  -- So where all events of a trace are of such types, and `slotchange` is of them, which the endings of turns fire, nobody outside touches an event of the
  -- group.
  abbrev pub NothingTouchesTypes : Type 0
  NothingTouchesTypes =
      (group : Owner → Bool) (types : Word → Bool) (ls : List L) → OthersLogTypes group types ls → IsTrue (types slotchange.event) →
      AllByRecursion (HasTypeIn types) (trace_from read group first_world ls) → AllByRecursion IsUntouched (full_trace_from read group first_world ls)

  -- For the page `slotchange` need not be of them,
  abbrev pub NothingTouchesPageTypes : Type 0
  NothingTouchesPageTypes =
      (types : Word → Bool) (ls : List L) → OthersLogTypes is_page types ls → AllByRecursion (HasTypeIn types) (trace_of read ls) →
      AllByRecursion IsUntouched (full_trace_of read ls)

  -- and so its output is the page machine's on the trace;
  abbrev pub PageSeesItsTypedTrace : Type 0
  PageSeesItsTypedTrace =
      (types : Word → Bool) (ls : List L) → OthersLogTypes is_page types ls → AllByRecursion (HasTypeIn types) (trace_of read ls) →
      output_for read Page ls ≡ page_outputs_of read (trace_of read ls)

  -- two scripts with equal traces have equal output of the page.
  abbrev pub SamePageByTypes : Type 0
  SamePageByTypes =
      (types : Word → Bool) (ls ms : List L) → OthersLogTypes is_page types ls → OthersLogTypes is_page types ms →
      AllByRecursion (HasTypeIn types) (trace_of read ls) → trace_of read ls ≡ trace_of read ms → output_for read Page ls ≡ output_for read Page ms
