-- A line form of live documents, for worked examples: the line protocol, with the words `call` of listeners, observers and microtasks, the acts on events
-- under way, `return`, and `.` without an owner.
use Rattle.std.specs.Prelude.{ℕ, ◌+◌, ◌*◌, ◌-◌, Bool, true, false, ◌==◌, List, [], ◌∷◌, ◌++◌, map, fold, Option, Some, None, codes}
use Rattle.std.specs.Prelude.{if◌then◌else◌}
use Rattle.dom_model.specs.Names.{Word, text_eq}
use Rattle.dom_model.specs.Command.{Command, Line, no_owner, no_command, command}
use Rattle.dom_text.specs.Decode.{decode}
use Rattle.dom_text.specs.Lines.{onto_first_line, text_of_lines}
use Rattle.dom_text.specs.Text.{output_line, numbered_text}
use Rattle.dom_text.specs.Words.{owner_word}
use Rattle.dom_live.specs.Lines.{LiveCommand, plain, listen_live, observer_live, micro_live, prevent, stop, stop_now, prevented, give_back}
use Rattle.dom_live.specs.Lines.{LiveLine, ownerless, wordless, said, checkpoint, CallWords, at_event, at_observer, at_microtask}
use Rattle.dom_live.specs.Lines.{LiveOutput, written, calls, loop_busy}

-- ---- what a line says

-- a byte before words: a space ends a word
abbrev pub with_letter : Bool → ℕ → List Word → List Word
with_letter true b words = [] ∷ words
with_letter false b words = onto_first_line b words

-- the words of a line, between single spaces
abbrev pub words_of : List ℕ → List Word
words_of [] = []
words_of (b ∷ bytes) = with_letter (b == 32) b (words_of bytes)

-- a line of words
abbrev pub line_with : List Word → List ℕ
line_with [] = []
line_with (w ∷ []) = w
line_with (w ∷ v ∷ words) = w ++ codes " " ++ line_with (v ∷ words)

-- a number by its digits
abbrev pub number_of : Word → ℕ
number_of digits = fold (λ n b. n * 10 + (b - 48)) 0 digits

-- a command that has a plain form, as what is live
abbrev pub made_live : Command → LiveCommand
made_live (Command.listen x w) = listen_live x w
made_live Command.observer = observer_live
made_live (Command.micro label) = micro_live label
made_live c = plain c

-- a line of the protocol, of which the command is read so
abbrev pub as_live : (Command → LiveCommand) → Line → LiveLine
as_live f no_owner = ownerless
as_live f (no_command o) = wordless o
as_live f (command o c) = said o (f c)

-- a line whose owner is that of one of the protocol, and whose command is this
abbrev pub with_command : Word → LiveCommand → LiveLine
with_command owner c = as_live (λ x. c) (decode (owner ++ codes " ."))

-- an act on the event of the owner's own call of a number
abbrev pub an_act : Word → ℕ → Option LiveCommand
an_act word k =
    if text_eq word (codes "prevent") then Some (prevent k)
    else (if text_eq word (codes "stop") then Some (stop k)
    else (if text_eq word (codes "stop-now") then Some (stop_now k)
    else (if text_eq word (codes "prevented") then Some (prevented k)
    else (if text_eq word (codes "return") then Some give_back
    else None))))

-- what these words say, or else the line
abbrev pub act_line : Word → Option LiveCommand → List ℕ → LiveLine
act_line owner None line = as_live plain (decode line)
act_line owner (Some c) line = with_command owner c

-- what the line says that has these words
abbrev pub line_said : List Word → List ℕ → LiveLine
line_said (owner ∷ word ∷ []) line = act_line owner (an_act word 0) line
line_said (owner ∷ word ∷ last ∷ []) line =
    if text_eq last (codes "call") then as_live made_live (decode (line_with (owner ∷ word ∷ []))) else act_line owner (an_act word (number_of last)) line
line_said (owner ∷ word ∷ label ∷ last ∷ []) line =
    if text_eq last (codes "call") then as_live made_live (decode (line_with (owner ∷ word ∷ label ∷ []))) else as_live plain (decode line)
line_said (owner ∷ word ∷ node ∷ type ∷ label ∷ action ∷ more) line =
    if text_eq word (codes "listen") then (if text_eq action (codes "call")
    then as_live made_live (decode (line_with (owner ∷ word ∷ node ∷ type ∷ label ∷ codes "log" ∷ more))) else as_live plain (decode line))
    else as_live plain (decode line)
line_said words line = as_live plain (decode line)

-- what a line says
abbrev pub read_live : List ℕ → LiveLine
read_live line = if text_eq line (codes ".") then checkpoint else line_said (words_of line) line

-- ---- lines of output

-- a word, after one space, if so
abbrev pub word_if : Bool → Word → List ℕ
word_if true w = codes " " ++ w
word_if false w = []

-- what stands behind `call`
abbrev pub call_text : CallWords → List ℕ
call_text (at_event e is_prevented) =
    word_if e.bubbles (codes "bubbles") ++ word_if e.cancelable (codes "cancelable") ++ word_if e.composed (codes "composed")
    ++ word_if is_prevented (codes "prevented")
call_text (at_observer k) = codes " " ++ numbered_text (codes "o") k
call_text at_microtask = []

-- a line of output, without its end
abbrev pub live_line_text : LiveOutput → List ℕ
live_line_text (written l) = output_line l
live_line_text (calls o words) = owner_word o ++ codes " call" ++ call_text words
live_line_text loop_busy = codes "! busy"

-- lines of output, each with its end
abbrev pub live_text : List LiveOutput → List ℕ
live_text lines = text_of_lines (map live_line_text lines)
