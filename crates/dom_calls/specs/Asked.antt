-- What the words of a call ask: a command, or the refusal of words that say none.
use Rattle.std.specs.Prelude.{◌≡◌, ℕ, ◌==◌, Bool, true, false, not, ◌&&◌, ◌||◌, nat_lt, nat_le, if◌then◌else◌, List, [], ◌∷◌, length, map, Option, Some}
use Rattle.std.specs.Prelude.{None, Result, Ok, Err}
use Rattle.std.specs.Int.Bits.{bit_and}
use Rattle.std.specs.List.{list_all, slice_split}
use Rattle.std.specs.Str.Lossy.{utf8_lossy}
use Rattle.dom_base.specs.declared.Action.{Action}
use Rattle.dom_base.specs.declared.Action.TheVariants.{Log, Stop, StopNow, Cancel}
use Rattle.dom_base.specs.declared.Fault.{Fault}
use Rattle.dom_base.specs.declared.Fault.TheVariants.{Refused, Memory}
use Rattle.dom_base.specs.declared.Move.{Move}
use Rattle.dom_base.specs.declared.Move.TheVariants as moves
use Rattle.dom_base.specs.declared.Refusal.{Refusal}
use Rattle.dom_base.specs.declared.Refusal.TheVariants.{Syntax, NotSupported}
use Rattle.dom_base.specs.declared.Verdict.TheVariants.{Skip, Reject}
use Rattle.dom_model.specs.Command.{Command, NodeWord, Show, Filter, listen, unlisten, dispatch, observer, observe, micro, iterator_new, walker_new, walk}
use Rattle.dom_text.specs.Tokens.{is_label_byte}
use Rattle.dom_reader.specs.Views.{command_view}
use Rattle.dom_reader.specs.declared.line.Command.{Command as Said}
use Rattle.dom_calls.specs.declared.structs.DomNode.{DomNode}
use Rattle.dom_calls.specs.Owners.{is_none, word_at}

-- a command, or a refusal
abbrev pub Asked : Type 0
Asked = Result Command Refusal

-- what was made of the words of a call is what they ask, or memory was refused
abbrev pub IsAsked : Result Said Fault → Asked → Type 0
IsAsked (Ok said) asked = asked ≡ Ok (command_view said)
IsAsked (Err (Refused refusal)) asked = asked ≡ Err refusal
IsAsked (Err Memory) asked = Unit {0}

-- an error is out of memory
abbrev pub IsMemory : {X : Type 0} → Result X Fault → Type 0
IsMemory (Ok x) = Unit {0}
IsMemory (Err fault) = fault ≡ Memory

-- whether a number has no bits but these
abbrev pub is_within : ℕ → ℕ → Bool
is_within flags bits = bit_and flags bits == flags

-- whether a number has this bit
abbrev pub has_bit : ℕ → ℕ → Bool
has_bit flags bit = not (bit_and flags bit == 0)

-- whether bytes are a label, as types of events are too: 1 to 64 letters, digits, '-', '_', '.' and ':'
abbrev pub is_label : List ℕ → Bool
is_label text = nat_lt 0 (length text) && (nat_le (length text) 64 && list_all is_label_byte text)

-- a command whose words are so, else a refusal
abbrev pub asked_if : Bool → Refusal → Asked → Asked
asked_if b refusal asked = if b then asked else Err refusal

-- ---- cursors

-- the kinds that the bits of the Standard's NodeFilter show
abbrev pub kinds_shown : ℕ → Show
kinds_shown bits =
    record { element = has_bit bits 1; text = has_bit bits 4; comment = has_bit bits 128; document = has_bit bits 256; fragment = has_bit bits 1024 }

-- the filter with this verdict on elements of this name: 1 of none, 2 to reject them, 3 to skip them
abbrev pub filter_named : ℕ → ℕ → List ℕ → Option Filter
filter_named bits verdict name =
    if verdict == 1 then Some (record { shown = kinds_shown bits; named = None }) else (
    if verdict == 2 then Some (record { shown = kinds_shown bits; named = Some (record { name = name; verdict = Reject }) }) else (
    if verdict == 3 then Some (record { shown = kinds_shown bits; named = Some (record { name = name; verdict = Skip }) }) else None))

-- with bytes as the name
abbrev pub filter_with : ℕ → ℕ → List ℕ → Option Filter
filter_with bits verdict name = filter_named bits verdict (utf8_lossy name)

-- a command with what is there, else a refusal as no word
abbrev pub asked_with : {X : Type 0} → (X → Command) → Option X → Asked
asked_with f (Some x) = Ok (f x)
asked_with f None = Err Syntax

-- an iterator and a walker
abbrev pub asks_iterator : NodeWord → ℕ → ℕ → List ℕ → Asked
asks_iterator root bits verdict name = asked_with (iterator_new root) (filter_with bits verdict name)

abbrev pub asks_walker : NodeWord → ℕ → ℕ → List ℕ → Asked
asks_walker root bits verdict name = asked_with (walker_new root) (filter_with bits verdict name)

-- the move with this number
abbrev pub move_numbered : ℕ → Option Move
move_numbered n =
    if n == 0 then Some moves.Parent else (if n == 1 then Some moves.First else (if n == 2 then Some moves.Last else (if n == 3 then Some moves.Next else (
    if n == 4 then Some moves.Previous else (if n == 5 then Some moves.NextSibling else (if n == 6 then Some moves.PreviousSibling else None))))))

-- a walker's move
abbrev pub asks_move : ℕ → ℕ → Asked
asks_move walker n = asked_with (walk walker) (move_numbered n)

-- ---- listeners and events

-- what a listener with this number does; a live one (4) is not supported
abbrev pub action_numbered : ℕ → Result Action Refusal
action_numbered n =
    if n == 0 then Ok Log else (if n == 1 then Ok Stop else (if n == 2 then Ok StopNow else (if n == 3 then Ok Cancel else (
    if n == 4 then Err NotSupported else Err Syntax))))

-- the fault is this refusal
abbrev pub IsRefusedAs : {X : Type 0} → Fault → Result X Refusal → Type 0
IsRefusedAs (Refused refusal) told = told ≡ Err refusal
IsRefusedAs Memory told = ⊥

-- a listener with this type, this label, this action and these flags
abbrev pub asks_action : NodeWord → List ℕ → List ℕ → ℕ → Result Action Refusal → Asked
asks_action node event label flags (Err refusal) = Err refusal
asks_action node event label flags (Ok action) = Ok (listen node (record {
  event = utf8_lossy event;
  label = utf8_lossy label;
  action = action;
  capture = has_bit flags 1;
  once = has_bit flags 2;
  passive = has_bit flags 4;
}))

abbrev pub asks_listener : NodeWord → List ℕ → List ℕ → ℕ → ℕ → Asked
asks_listener node event label action flags =
    asked_if (is_within flags 7 && (is_label event && is_label label)) Syntax (asks_action node event label flags (action_numbered action))

-- its removal
abbrev pub asks_unlisten : NodeWord → List ℕ → List ℕ → ℕ → Asked
asks_unlisten node event label flags =
    asked_if (is_within flags 1 && (is_label event && is_label label)) Syntax (Ok (unlisten node (utf8_lossy event) (utf8_lossy label) (has_bit flags 1)))

-- a related node, where there is one
abbrev pub related_at : ℕ → DomNode → Option NodeWord
related_at owner related = if is_none related then None else Some (word_at owner related)

-- an event
abbrev pub asks_event : ℕ → DomNode → List ℕ → ℕ → DomNode → Asked
asks_event owner node event flags related =
    asked_if (is_within flags 56 && is_label event) Syntax (Ok (dispatch (word_at owner node)
    (record { event = utf8_lossy event; bubbles = has_bit flags 8; cancelable = has_bit flags 16; composed = has_bit flags 32 }) (related_at owner related)))

-- ---- observers and microtasks

-- an observer; a live one is not supported
abbrev pub asks_observer : Bool → Asked
asks_observer is_live = asked_if (not is_live) NotSupported (Ok observer)

-- a microtask; a live one is not supported
abbrev pub asks_micro : List ℕ → Bool → Asked
asks_micro label is_live = asked_if (is_label label) Syntax (asked_if (not is_live) NotSupported (Ok (micro (utf8_lossy label))))

-- the names between commas
abbrev pub names_between : List ℕ → List (List ℕ)
names_between names = map utf8_lossy (slice_split (λ b. b == 44) names)

-- a registration of an observer
abbrev pub asks_observe : ℕ → NodeWord → ℕ → List ℕ → Asked
asks_observe number node flags names =
    asked_if (is_within flags 127 && (has_bit flags 64 || (length names == 0))) Syntax (Ok (observe number node (record {
      child_list = has_bit flags 1;
      attributes = has_bit flags 2;
      character_data = has_bit flags 4;
      subtree = has_bit flags 8;
      attribute_old_value = has_bit flags 16;
      character_data_old_value = has_bit flags 32;
      filter = if has_bit flags 64 then Some (names_between names) else None;
    })))
