-- What a run writes of the page: the isolation theorem for the engine's runs, at their end and where a fault stops them.
use Rattle.std.specs.Prelude.{◌≡◌, ℕ, IsTrue, List, [], ◌++◌, take, Option, None, Some, ⊤}
use Rattle.std.specs.Io.KnownBytes.{IsAtEnd}
use Rattle.dom_base.specs.declared.Owner.{Owner}
use Rattle.dom_base.specs.declared.Owner.TheVariants.{Page, Component}
use Rattle.dom_model.specs.PageMachine.{first_page, run_page, page_outputs_of}
use Rattle.dom_model.specs.Trace.{trace_of, no_component_stops}
use Rattle.dom_isolation.specs.Interference.{full_trace_of}
use Rattle.dom_isolation.specs.TouchedMachines.{run_page_under, page_outputs_under}
use Rattle.dom_text.specs.Lines.{cut_of, lines_of}
use Rattle.dom_text.specs.Text.{output_text}
use Rattle.dom_text.specs.Decode.{decode}
use Rattle.dom_streams.specs.declared.fault.RunFault.{RunFault}
use Rattle.dom_streams.specs.declared.fault.RunFault.TheVariants.{Read, Write, Memory, InputLimit}
use Rattle.dom_streams.specs.Writing.{Taken, Takes}
use Rattle.dom_engine.specs.Run.{run_text, StopsRun}
use Rattle.dom_streams.specs.Views.{viewed}

-- the output of the page machine, which has no shadow trees, on the trace of lines, without the ending
abbrev pub page_text_so_far : List (List ℕ) → List ℕ
page_text_so_far lines = output_text (run_page decode first_page (trace_of decode lines)).1

-- with the ending
abbrev pub page_text_to_end : List (List ℕ) → List ℕ
page_text_to_end lines = output_text (page_outputs_of decode (trace_of decode lines))

-- of the lines of bytes
abbrev pub page_text : List ℕ → List ℕ
page_text bytes = page_text_to_end (lines_of bytes)

-- the output of the page machine on the full trace of lines, which tells the interference, without the ending
abbrev pub full_page_text_so_far : List (List ℕ) → List ℕ
full_page_text_so_far lines = output_text (run_page_under decode first_page (full_trace_of decode lines)).1

-- with the ending
abbrev pub full_page_text_to_end : List (List ℕ) → List ℕ
full_page_text_to_end lines = output_text (page_outputs_under decode (full_trace_of decode lines))

-- of the lines of bytes
abbrev pub full_page_text : List ℕ → List ℕ
full_page_text bytes = full_page_text_to_end (lines_of bytes)

-- The text that a run writes with the page's view is the output of the page machine on the full trace of the lines read.
abbrev pub PageTextIsThePageMachinesInFull : Type 0
PageTextIsThePageMachinesInFull = (bytes : List ℕ) → run_text (Some Page) bytes ≡ full_page_text bytes

-- Two inputs with equal lines of the page, equal outward events and equal interference, in order, have equal text of the page.
abbrev pub SamePageTextInFull : Type 0
SamePageTextInFull =
    (first second : List ℕ) → full_trace_of decode (lines_of first) ≡ full_trace_of decode (lines_of second) →
    run_text (Some Page) first ≡ run_text (Some Page) second

-- Where no component listener stops or cancels, the text that a run writes with the page's view is the output of the page
-- machine on the trace of the lines read.
abbrev pub PageTextIsThePageMachines : Type 0
PageTextIsThePageMachines =
    (bytes : List ℕ) → IsTrue (no_component_stops decode (lines_of bytes)) → run_text (Some Page) bytes ≡ page_text bytes

-- Two such inputs with equal traces, that is with equal lines of the page and equal outward events in order, have equal text
-- of the page.
abbrev pub SamePageText : Type 0
SamePageText =
    (first second : List ℕ) → IsTrue (no_component_stops decode (lines_of first)) → IsTrue (no_component_stops decode (lines_of second)) →
    trace_of decode (lines_of first) ≡ trace_of decode (lines_of second) → run_text (Some Page) first ≡ run_text (Some Page) second

-- the page's lines are written: with the page's view, or without a view
abbrev pub HasPage : Option Owner → Type 0
HasPage None = ⊤
HasPage (Some Page) = ⊤
HasPage (Some (Component k)) = ⊥

-- what the page sees of what is written: with its view all of it, and without a view the lines that begin with `p `
abbrev pub page_seen : Option Owner → List ℕ → List ℕ
page_seen None text = viewed (Some Page) text
page_seen (Some o) text = text

-- of what is written the page sees this text
pub record PageSees (view : Option Owner) (old new : Taken) (text : List ℕ) : Type 0 where
  pub written : List ℕ
  pub takes : Takes old new written
  pub seen : page_seen view written ≡ text

-- of what is written the page sees some first bytes of this text
pub record PageSeesFront (view : Option Owner) (old new : Taken) (text : List ℕ) : Type 0 where
  pub written : List ℕ
  pub takes : Takes old new written
  pub back : List ℕ
  pub split : text ≡ page_seen view written ++ back

module _ (view : Option Owner) (from to : Option (List ℕ)) (old new : Taken) where
  -- the bytes that were read when a fault stopped a run
  abbrev pub bytes_read : (e : RunFault) → StopsRun e view from to old new → List ℕ
  bytes_read Read s = s.given
  bytes_read Write s = s.early ++ s.late
  bytes_read Memory s = s.early ++ s.late
  bytes_read InputLimit s = s.given ++ s.more

  -- the lines whose text is written then, and on `Write` all lines, of whose text some first bytes are
  abbrev pub lines_named : (e : RunFault) → StopsRun e view from to old new → List (List ℕ)
  lines_named Read s = (cut_of s.given).finished
  lines_named Write s = lines_of (s.early ++ s.late)
  lines_named Memory s = take s.count (lines_of (s.early ++ s.late))
  lines_named InputLimit s = (cut_of s.given).finished

-- Bytes that may stand behind those that were read: on `Write` and `Memory` none where the end was reached.
abbrev pub MayFollow : RunFault → Option (List ℕ) → List ℕ → Type 0
MayFollow Read to more = ⊤
MayFollow Write to more = IsAtEnd to → more ≡ []
MayFollow Memory to more = IsAtEnd to → more ≡ []
MayFollow InputLimit to more = ⊤

-- the text of whole lines is written
abbrev pub WritesWholeLines : RunFault → Type 0
WritesWholeLines Read = ⊤
WritesWholeLines Write = ⊥
WritesWholeLines Memory = ⊤
WritesWholeLines InputLimit = ⊤

-- On `Read`, `Memory` and `InputLimit` the page sees the page machine's output on the trace of the lines whose text is written,
-- without the ending, where no component listener of these lines stops or cancels.
abbrev pub PageSeesLinesNamed : Type 0
PageSeesLinesNamed =
    (view : Option Owner) (from to : Option (List ℕ)) (old new : Taken) (e : RunFault) (s : StopsRun e view from to old new) → HasPage view →
    WritesWholeLines e →
    IsTrue (no_component_stops decode (lines_named view from to old new e s)) → PageSees view old new (page_text_so_far (lines_named view from to old new e s))

-- On every fault it sees some first bytes of the page machine's output on the trace of any input that begins with the bytes
-- read; where the end was reached, that input is these bytes.
abbrev pub PageSeesPrefix : Type 0
PageSeesPrefix =
    (view : Option Owner) (from to : Option (List ℕ)) (old new : Taken) (e : RunFault) (s : StopsRun e view from to old new) → HasPage view →
    IsTrue (no_component_stops decode (lines_named view from to old new e s)) →
    (more : List ℕ) → MayFollow e to more → PageSeesFront view old new (page_text (bytes_read view from to old new e s ++ more))

-- With interference: on `Read`, `Memory` and `InputLimit` the page sees the page machine's output on the full trace of the lines whose text is written,
-- without the ending.
abbrev pub PageSeesLinesNamedInFull : Type 0
PageSeesLinesNamedInFull =
    (view : Option Owner) (from to : Option (List ℕ)) (old new : Taken) (e : RunFault) (s : StopsRun e view from to old new) → HasPage view →
    WritesWholeLines e →
    PageSees view old new (full_page_text_so_far (lines_named view from to old new e s))

-- On every fault it sees some first bytes of the page machine's output on the full trace of any input that begins with the bytes
-- read; where the end was reached, that input is these bytes.
abbrev pub PageSeesPrefixInFull : Type 0
PageSeesPrefixInFull =
    (view : Option Owner) (from to : Option (List ℕ)) (old new : Taken) (e : RunFault) (s : StopsRun e view from to old new) → HasPage view →
    (more : List ℕ) → MayFollow e to more → PageSeesFront view old new (full_page_text (bytes_read view from to old new e s ++ more))
