-- The laws of the grammar: a line says one thing, and `decode` finds it; and what is written as lines is read as these lines.
use Rattle.std.specs.Prelude.{◌≡◌, ℕ, List}
use Rattle.std.specs.List.{AllByRecursion}
use Rattle.dom_base.specs.declared.Owner.{Owner}
use Rattle.dom_model.specs.Command.{Command, Line, command}
use Rattle.dom_text.specs.Grammar.{IsLine, Says}
use Rattle.dom_text.specs.Decode.{decode}
use Rattle.dom_text.specs.Lines.{lines_of, text_of_lines, kept_line, IsOneLine}

-- a line says at most one command, of one owner
abbrev pub SaysOneCommand : Type 0
SaysOneCommand = (line : List ℕ) (o p : Owner) (c d : Command) → IsLine line o c → IsLine line p d → command o c ≡ command p d

-- what `decode` finds in a line is what the line says by the grammar
abbrev pub IsDecoded : Type 0
IsDecoded = (line : List ℕ) → Says line (decode line)

-- a line says nothing else
abbrev pub SaysWhatIsDecoded : Type 0
SaysWhatIsDecoded = (line : List ℕ) (l : Line) → Says line l → l ≡ decode line

-- a line says what its part says that is kept while it comes
abbrev pub IsDecodedAsKept : Type 0
IsDecodedAsKept = (line : List ℕ) → decode (kept_line line) ≡ decode line

-- lines without line feeds, written one after another with their ends, are read as these lines
abbrev pub IsReadAsWritten : Type 0
IsReadAsWritten = (lines : List (List ℕ)) → AllByRecursion IsOneLine lines → lines_of (text_of_lines lines) ≡ lines
