-- The machine of live documents: what each line does. Any owner's line is taken at any time, in whosever call; but a call returns only where it is the
-- innermost of all, and a checkpoint begins only where no call is under way.
use Rattle.std.specs.Prelude.{ℕ, zero, suc, ◌+◌, Bool, true, false, not, nat_lt, List, [], ◌∷◌, ◌++◌, filter, length, map, Option, Some, None}
use Rattle.std.specs.Prelude.{option_map, if◌then◌else◌}
use Rattle.std.specs.List.{list_any}
use Rattle.std.specs.Option.{option_or, option_map_or}
use Rattle.dom_base.specs.declared.Owner.{Owner}
use Rattle.dom_base.specs.declared.NodeName.{NodeName}
use Rattle.dom_base.specs.declared.Action.{Action}
use Rattle.dom_base.specs.declared.Action.TheVariants.{Log, Stop, StopNow, Cancel}
use Rattle.dom_base.specs.declared.Refusal.{Refusal}
use Rattle.dom_base.specs.declared.Refusal.TheVariants.{Syntax, Busy, Unknown, WrongKind, Limit}
use Rattle.dom_model.specs.Names.{name_eq}
use Rattle.dom_model.specs.Command.{Command, NodeWord, ListenerWords, EventWords}
use Rattle.dom_model.specs.CommandNames.{named}
use Rattle.dom_model.specs.Listeners.{Listener, is_listener, may_cancel}
use Rattle.dom_model.specs.Output.{bad_owner, nothing, a_truth}
use Rattle.dom_model.specs.Runs.{Run}
use Rattle.dom_model.specs.Validity.{first_refusal}
use Rattle.dom_live.specs.Lines.{LiveCommand, plain, listen_live, observer_live, micro_live, prevent, stop, stop_now, prevented, give_back}
use Rattle.dom_live.specs.Lines.{LiveLine, ownerless, wordless, said, checkpoint, written, loop_busy, LiveRun, still, and_then, each_then}
use Rattle.dom_live.specs.Lines.{replying, denying, unless_denied}
use Rattle.dom_live.specs.Frames.{Visiting, Frame, an_event, a_checkpoint, asked_by, of_loop, of_end}
use Rattle.dom_live.specs.Frames.{is_called, own_call, is_dispatch_of, returned, acted}
use Rattle.dom_live.specs.Documents.{Documents, Live}
use Rattle.dom_live.specs.SmallSteps.{pushed, dispatched_by, without_listener}
use Rattle.dom_live.specs.Runs.{ran}

-- how many dispatches of one owner are under way at most
abbrev pub max_dispatches : ℕ
max_dispatches = 64

-- whether an owner has as many under way
abbrev pub is_at_limit : Owner → List Frame → Bool
is_at_limit o frames = nat_lt max_dispatches (length (filter (is_dispatch_of o) frames) + 1)

-- whether a frame is an event
abbrev pub is_event : Frame → Bool
is_event (an_event u) = true
is_event f = false

-- why an act on the event of an own call is refused, if it is
abbrev pub act_refusal : Option Frame → Option Refusal
act_refusal None = Some Unknown
act_refusal (Some f) = if is_event f then None else Some WrongKind

-- whether an event of an own call is cancelled
abbrev pub is_prevented : Option Frame → Bool
is_prevented (Some (an_event u)) = u.cancelled
is_prevented f = false

-- whether the listener that is called may cancel the event (DOM Standard, 2.2: set the canceled flag)
abbrev pub caller_may_cancel : EventWords → Option Visiting → Bool
caller_may_cancel e None = false
caller_may_cancel e (Some v) = option_map_or (may_cancel e) v.called false

-- an owner's act on the event of a frame
abbrev pub act_in : Owner → Action → Frame → Frame
act_in o a (an_event u) = an_event (acted o (caller_may_cancel u.event u.visiting) a u)
act_in o a f = f

-- the frames with one changed: that of an owner's own call of this number
abbrev pub on_own_call : Owner → (Frame → Frame) → ℕ → List Frame → List Frame
on_own_call o change k [] = []
on_own_call o change zero (f ∷ fs) = if is_called o f then change f ∷ fs else f ∷ on_own_call o change zero fs
on_own_call o change (suc k) (f ∷ fs) = f ∷ (if is_called o f then on_own_call o change k fs else on_own_call o change (suc k) fs)

-- whether the innermost frame has a call of an owner
abbrev pub has_innermost : Owner → List Frame → Bool
has_innermost o [] = false
has_innermost o (f ∷ fs) = is_called o f

-- why a return is refused, if it is
abbrev pub return_refusal : Owner → List Frame → Option Refusal
return_refusal o frames = first_refusal ((not (list_any (is_called o) frames), Unknown) ∷ (not (has_innermost o frames), Busy) ∷ [])

-- whether something is under way: between two lines that is so where a call is
abbrev pub is_under_way : List Frame → Bool
is_under_way [] = false
is_under_way (f ∷ fs) = true

module _ {S : Type 0} where
  -- the innermost frame's call has returned
  abbrev pub call_returned : Live S → List Frame → Live S
  call_returned s [] = s
  call_returned s (f ∷ fs) = record s { frames = returned f ++ fs }

  -- with documents that a run of theirs leaves
  abbrev pub with_run : Live S → Run S → LiveRun (Live S)
  with_run s r = (record s { documents = r.0 }, map written r.1)

  -- the end of input: calls return at once, the innermost first, and then there is one checkpoint for all
  abbrev pub ending : Live S → Live S
  ending s = record s { is_over = true; frames = s.frames ++ a_checkpoint of_end ∷ [] }

module _ {S : Type 0} (d : Documents S) where
  -- an accepted command without an event
  abbrev pub performed : Live S → Owner → Command → LiveRun (Live S)
  performed s o c = with_run s (d.perform s.documents o c)

  -- an event is dispatched: its visits are those of this moment, and stay so (DOM Standard, concept: dispatch)
  abbrev pub dispatching : Live S → Owner → NodeWord → EventWords → Option NodeWord → Live S
  dispatching s o x e related =
      let p = d.part s.documents o in
      pushed (an_event (dispatched_by (Some o) e (d.visits s.documents (named p x) (option_map (named p) related) e))) s

  -- why a command of the protocol is refused: as there, but that nothing is busy save a checkpoint; and of a dispatch by its limit
  abbrev pub plain_refusal : Live S → Owner → Command → Option Refusal
  plain_refusal s o (Command.dispatch x e related) =
      option_or (d.refusal s.documents o (Command.dispatch x e related)) (first_refusal ((is_at_limit o s.frames, Limit) ∷ []))
  plain_refusal s o Command.end_turn =
      option_or (first_refusal ((is_under_way s.frames, Busy) ∷ [])) (d.refusal s.documents o Command.end_turn)
  plain_refusal s o c = d.refusal s.documents o c

  -- what an accepted one does
  abbrev pub plain_accepted : Live S → Owner → Command → LiveRun (Live S)
  plain_accepted s o (Command.dispatch x e related) = still (dispatching s o x e related)
  plain_accepted s o (Command.unlisten x event label capture) =
      replying o nothing (without_listener d (named (d.part s.documents o) x) event label capture s)
  plain_accepted s o (Command.micro label) =
      performed (record s { live_tasks = s.live_tasks ++ (o, false) ∷ [] }) o (Command.micro label)
  plain_accepted s o Command.end_turn = still (pushed (a_checkpoint (asked_by o)) s)
  plain_accepted s o c = performed s o c

  -- a listener that is live, unless it is there (DOM Standard, concept: add an event listener)
  abbrev pub with_live_listener : Live S → Owner → NodeWord → ListenerWords → List (Listener NodeName)
  with_live_listener s o x w =
      let p = d.part s.documents o in
      if list_any (is_listener name_eq (named p x) w.event w.label w.capture) p.listeners then s.live_listeners
      else s.live_listeners ++ record { node = named p x; words = w } ∷ []

  -- an act on an event of an own call
  abbrev pub acting : Live S → Owner → Action → ℕ → LiveRun (Live S)
  acting s o a k =
      unless_denied o (act_refusal (own_call o k s.frames)) s
      (replying o nothing (record s { frames = on_own_call o (act_in o a) k s.frames }))

  -- a command of an owner; what is live does in the documents what one does that only logs
  abbrev pub obeyed : Live S → Owner → LiveCommand → LiveRun (Live S)
  obeyed s o (plain c) = unless_denied o (plain_refusal s o c) s (plain_accepted s o c)
  obeyed s o (listen_live x w) =
      let c = Command.listen x (record w { action = Log }) in
      unless_denied o (plain_refusal s o c) s (performed (record s { live_listeners = with_live_listener s o x (record w { action = Log }) }) o c)
  obeyed s o observer_live =
      let k = length (d.part s.documents o).record_queues in
      unless_denied o (plain_refusal s o Command.observer) s
      (performed (record s { live_observers = s.live_observers ++ (o, k) ∷ [] }) o Command.observer)
  obeyed s o (micro_live label) =
      let c = Command.micro label in
      unless_denied o (plain_refusal s o c) s (performed (record s { live_tasks = s.live_tasks ++ (o, true) ∷ [] }) o c)
  obeyed s o (prevent k) = acting s o Cancel k
  obeyed s o (stop k) = acting s o Stop k
  obeyed s o (stop_now k) = acting s o StopNow k
  obeyed s o (prevented k) =
      let f = own_call o k s.frames in unless_denied o (act_refusal f) s (replying o (a_truth (is_prevented f)) s)
  obeyed s o give_back = unless_denied o (return_refusal o s.frames) s (replying o nothing (call_returned s s.frames))

  -- the event loop's checkpoint (HTML Standard, perform a microtask checkpoint)
  abbrev pub loop_checkpoint : Live S → LiveRun (Live S)
  loop_checkpoint s = if is_under_way s.frames then (s, loop_busy ∷ []) else still (pushed (a_checkpoint of_loop) s)

  -- a line, up to what it sets going
  abbrev pub taken : Live S → LiveLine → LiveRun (Live S)
  taken s ownerless = (s, written bad_owner ∷ [])
  taken s (wordless o) = denying o Syntax s
  taken s (said o c) = obeyed s o c
  taken s checkpoint = loop_checkpoint s

  -- a line, and what it sets going
  abbrev pub live_step : Live S → LiveLine → LiveRun (Live S)
  live_step s l = and_then (taken s l) (ran d)

  -- the lines of input, one after another
  abbrev pub live_lines : Live S → List LiveLine → LiveRun (Live S)
  live_lines s ls = each_then live_step s ls

  -- the end of input, and what it sets going
  abbrev pub live_finish : Live S → LiveRun (Live S)
  live_finish s = ran d (ending s)

  -- the lines of input, and its end
  abbrev pub live_run : Live S → List LiveLine → LiveRun (Live S)
  live_run s ls = and_then (live_lines s ls) live_finish
