-- What live documents answer, in two: the lines of the protocol, and the calls.
use Rattle.std.specs.Prelude.{List, filter_map, Option, Some, None}
use Rattle.dom_base.specs.declared.Owner.{Owner}
use Rattle.dom_model.specs.Output.{Output}
use Rattle.dom_live.specs.Frames.{UnderWay}
use Rattle.dom_live.specs.Lines.{CallWords, at_event, at_observer, at_microtask, LiveOutput, written, calls, loop_busy}
use Rattle.dom_callbacks.specs.declared.calling.Calling.{Calling}
use Rattle.dom_callbacks.specs.declared.calling.Called.{Called}
use Rattle.dom_callbacks.specs.declared.calling.Called.TheVariants as what

-- what an owner is told of a call
abbrev pub called_with : CallWords → Called
called_with (at_event e prevented) = what.Event e.bubbles e.cancelable e.composed prevented
called_with (at_observer k) = what.Observer k
called_with at_microtask = what.Microtask

-- the line of the protocol that an output is, if it is one
abbrev pub line_in : LiveOutput → Option Output
line_in (written o) = Some o
line_in (calls o w) = None
line_in loop_busy = None

-- the call that an output is, if it is one
abbrev pub call_in : LiveOutput → Option Calling
call_in (written o) = None
call_in (calls o w) = Some (record { owner = o; called = called_with w })
call_in loop_busy = None

-- the lines of the protocol among outputs
abbrev pub lines_in : List LiveOutput → List Output
lines_in outputs = filter_map line_in outputs

-- the calls among outputs
abbrev pub calls_in : List LiveOutput → List Calling
calls_in outputs = filter_map call_in outputs

-- the call of the owner of a listener of an event
abbrev pub call_at_event : Owner → UnderWay → Calling
call_at_event o u = record { owner = o; called = called_with (at_event u.event u.cancelled) }
