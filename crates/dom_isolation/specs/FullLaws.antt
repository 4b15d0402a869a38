-- The isolation laws with interference, each about one step of the two machines; and the laws that keep interference honest: that others have to
-- act to leave any, that it is small, and that it only adds to the trace.
use Rattle.std.specs.Prelude.{◌≡◌, ◌≤◌, ◌<◌, ℕ, Bool, true, false, ◌||◌, IsTrue, List, [], ◌∷◌, ◌++◌, filter, flat_map, fold, length}
use Rattle.std.specs.Prelude.{Option, None, Some, option_to_list}
use Rattle.std.specs.List.{AllByRecursion}
use Rattle.dom_base.specs.declared.Owner.{Owner}
use Rattle.dom_base.specs.declared.Owner.TheVariants.{Page}
use Rattle.dom_base.specs.declared.NodeName.{NodeName}
use Rattle.dom_model.specs.Names.{Word, text_eq, name_eq}
use Rattle.dom_model.specs.Command.{Line, EventWords}
use Rattle.dom_model.specs.Listeners.{Listener, Visit, Dispatching, begun}
use Rattle.dom_model.specs.Output.{EventLine}
use Rattle.dom_model.specs.Groups.{KeepsMakers, group_world}
use Rattle.dom_model.specs.Paths.{views}
use Rattle.dom_model.specs.Runs.{run_each}
use Rattle.dom_model.specs.World.{World, part_of}
use Rattle.dom_model.specs.Dispatch.{dispatch_in, world_visit, visits_of}
use Rattle.dom_model.specs.DocumentMachine.{step}
use Rattle.dom_model.specs.Trace.{is_page, is_of, owner_of_line, outward_event, trace_from, no_component_stops_from}
use Rattle.dom_model.specs.PageMachine.{page_of}
use Rattle.dom_worlds.specs.Worlds.{IsOf, IsThere, IsWorld, OnlyLogs, ComponentsOnlyLog}
use Rattle.dom_isolation.specs.Laws.{page_run, page_dispatched}
use Rattle.dom_isolation.specs.Interference.{untouched, first_record, is_own_visit, interference_from, interference_at, ending_records, own_records}
use Rattle.dom_isolation.specs.Interference.{plain_items, FullItem}
use Rattle.dom_isolation.specs.Interference.{line_with, outward_with, turn_ended, full_trace_from}
use Rattle.dom_isolation.specs.TouchedMachines.{first_visits, page_dispatch_under, page_line_under, page_outward_under}

-- a listener only logs, if it is one for this event
abbrev pub LogsEvent : Word → Listener NodeName → Type 0
LogsEvent event l = text_eq l.words.event event ≡ true → OnlyLogs l

-- the listeners for an event of all owners outside a group only log
abbrev pub OthersOnlyLog : (Owner → Bool) → Word → World → Type 0
OthersOnlyLog group event w = (o : Owner) → group o ≡ false → AllByRecursion (LogsEvent event) (part_of w o).listeners

-- the owner of a visit is there, if it is of the group
abbrev pub OwnIsThere : (Owner → Bool) → World → Visit NodeName → Type 0
OwnIsThere group w v = IsTrue (is_own_visit group v) → IsThere w v.current.owner

-- Interference is enough: what a group has of all visits of an event is what the first visits at its own nodes do, as many as others let the event
-- come to; and the event is cancelled if these cancel it, or if others did.
abbrev pub InterferenceIsEnough : Type 0
InterferenceIsEnough =
    (group : Owner → Bool) (w : World) (e : EventWords) (vs : List (Visit NodeName)) → AllByRecursion (OwnIsThere group w) vs →
    let start : World × Dispatching NodeName = (w, begun []) in
    let i = interference_from group e start vs in
    let all = fold (world_visit e) start vs in
    let own = fold (world_visit e) start (first_visits i.reached (filter (is_own_visit group) vs)) in
    let in_line : EventLine NodeName → Bool = λ l. group l.current.owner in
    (group_world group all.0 ≡ group_world group own.0) × (filter in_line all.1.lines ≡ filter in_line own.1.lines)
    × (all.1.cancelled ≡ (i.cancelled || own.1.cancelled))

-- Interference is on purpose: where the listeners of others for an event only log, nobody did anything to it.
abbrev pub InterferenceIsOnPurpose : Type 0
InterferenceIsOnPurpose =
    (group : Owner → Bool) (w : World) (x : NodeName) (related : Option NodeName) (e : EventWords) → OthersOnlyLog group e.event w →
    interference_at group w x related e ≡ untouched

-- It is small: what is told counts visits at the group's nodes.
abbrev pub InterferenceIsSmall : Type 0
InterferenceIsSmall =
    (group : Owner → Bool) (w : World) (x : NodeName) (related : Option NodeName) (e : EventWords) (k : ℕ) →
    (interference_at group w x related e).reached ≡ Some k →
    k ≤ length (filter (is_own_visit group) (visits_of name_eq e.bubbles (views w x related e.composed)))

-- The first visit of an event is at a node of the group, if any visit is: the event is visited from the end of its path, which is a root, and a root is in
-- no slot.
abbrev pub FirstVisitIsOwn : Type 0
FirstVisitIsOwn =
    (group : Owner → Bool) → KeepsMakers group → (w : World) → IsWorld w → (x : NodeName) (related : Option NodeName) (e : EventWords)
    (v : Visit NodeName) (vs : List (Visit NodeName)) → visits_of name_eq e.bubbles (views w x related e.composed) ≡ v ∷ vs →
    1 ≤ length (filter (is_own_visit group) (v ∷ vs)) → IsTrue (is_own_visit group v)

-- So others can't keep an event that comes to the group from the first of the group's visits, which is to the outermost of its nodes on the path, while the
-- event captures.
abbrev pub InterferenceLeavesFirst : Type 0
InterferenceLeavesFirst =
    (group : Owner → Bool) → KeepsMakers group → (w : World) → IsWorld w → (x : NodeName) (related : Option NodeName) (e : EventWords) (k : ℕ) →
    1 ≤ length (filter (is_own_visit group) (visits_of name_eq e.bubbles (views w x related e.composed))) →
    (interference_at group w x related e).reached ≡ Some k → 1 ≤ k

-- The last visit of an event is at a node of the group, if any visit is: it is to the outermost of its nodes on the path, or to the outermost one that
-- sees itself as the target.
abbrev pub LastVisitIsOwn : Type 0
LastVisitIsOwn =
    (group : Owner → Bool) → KeepsMakers group → (w : World) → IsWorld w → (x : NodeName) (related : Option NodeName) (e : EventWords)
    (vs : List (Visit NodeName)) (v : Visit NodeName) → visits_of name_eq e.bubbles (views w x related e.composed) ≡ vs ++ v ∷ [] →
    1 ≤ length (filter (is_own_visit group) (vs ++ v ∷ [])) → IsTrue (is_own_visit group v)

-- So where others are told to have stopped an event that comes to the group, they kept it from the last of the group's visits.
abbrev pub InterferenceTakesLast : Type 0
InterferenceTakesLast =
    (group : Owner → Bool) → KeepsMakers group → (w : World) → IsWorld w → (x : NodeName) (related : Option NodeName) (e : EventWords) (k : ℕ) →
    let own = filter (is_own_visit group) (visits_of name_eq e.bubbles (views w x related e.composed)) in
    1 ≤ length own → (interference_at group w x related e).reached ≡ Some k → k < length own

-- No event of the ending of a turn comes to a page node, so nothing is told of it: a line of the page has one record at most, that of its dispatch.
abbrev pub EndingsAreNotTold : Type 0
EndingsAreNotTold = (w : World) → IsWorld w → ending_records is_page w ≡ []

-- nothing was done
abbrev pub IsUntouched : {L : Type 0} → FullItem L → Type 0
IsUntouched (line_with l records) = AllByRecursion (λ i. i ≡ untouched) records
IsUntouched (outward_with e reached) = reached ≡ None
IsUntouched (turn_ended records) = AllByRecursion (λ i. i ≡ untouched) records

module _ {L : Type 0} (read : L → Line) where
  -- A full trace only adds to the trace.
  abbrev pub FullTraceIsTrace : Type 0
  FullTraceIsTrace =
      (kept : Owner → Bool) (w : World) (ls : List L) → flat_map plain_items (full_trace_from read kept w ls) ≡ trace_from read kept w ls

  -- Where no component listener stops or cancels, nobody does anything to an event of a group that has the page.
  abbrev pub NothingTouches : Type 0
  NothingTouches =
      (kept : Owner → Bool) → kept Page ≡ true → (w : World) → IsWorld w → ComponentsOnlyLog w →
      (ls : List L) → IsTrue (no_component_stops_from read w ls) → AllByRecursion IsUntouched (full_trace_from read kept w ls)

-- One dispatch: one of the page is the page machine's, as far as others let the event come.
abbrev pub PageDispatchAgreesInFull : Type 0
PageDispatchAgreesInFull =
    (w : World) → IsWorld w → (x : NodeName) (related : Option NodeName) (e : EventWords) → x.owner ≡ Page →
    AllByRecursion (IsOf Page) (option_to_list related) →
    page_dispatched (dispatch_in w x related e) ≡ page_dispatch_under (interference_at is_page w x related e) (page_of w) x related e

-- One line: of the page, as the page machine takes it that is told the interference; of another, its outward event, as far as others let it come.
abbrev pub PageLineAgreesInFull : Type 0
PageLineAgreesInFull =
    (w : World) → IsWorld w → (l : Line) → IsTrue (is_of is_page (owner_of_line l)) →
    page_run (step w l) ≡ page_line_under (first_record (own_records is_page w l)) (page_of w) l

-- a line of another owner, or of none
abbrev pub OtherLineAgreesInFull : Type 0
OtherLineAgreesInFull =
    (w : World) → IsWorld w → (l : Line) → is_of is_page (owner_of_line l) ≡ false →
    let reached = (first_record (own_records is_page w l)).reached in
    page_run (step w l) ≡ run_each (page_outward_under reached) (page_of w) (option_to_list (outward_event is_page w l))
