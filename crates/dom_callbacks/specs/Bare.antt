-- Live documents without what stands in their frames for the theorem alone: which nodes an event visits, and who knows that it is cancelled.
use Rattle.std.specs.Prelude.{[], map}
use Rattle.dom_live.specs.Frames.{UnderWay, Frame, an_event, a_notification, a_microtask, a_checkpoint}
use Rattle.dom_live.specs.Documents.{Live}

-- an event under way
abbrev pub bare_event : UnderWay → UnderWay
bare_event u = record u { nodes = []; knowing = [] }

-- a frame
abbrev pub bare_frame : Frame → Frame
bare_frame (an_event u) = an_event (bare_event u)
bare_frame (a_notification n) = a_notification n
bare_frame (a_microtask o) = a_microtask o
bare_frame (a_checkpoint c) = a_checkpoint c

-- live documents
abbrev pub bare : {S : Type 0} → Live S → Live S
bare s = record s { frames = map bare_frame s.frames }
