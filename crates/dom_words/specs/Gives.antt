-- What a reader returned, seen as a reading of the specification.
use Rattle.std.specs.Prelude.{◌≡◌, ℕ, Bool, List, Option, Some, None, Result, Ok, Err}
use Rattle.dom_text.specs.Readers.{flag_at}
use Rattle.dom_words.specs.declared.not_read.NotRead.{NotRead}
use Rattle.dom_words.specs.declared.not_read.NotRead.TheVariants.{Syntax, Memory}

-- a reading that failed: nothing is read so, unless memory was refused
abbrev pub Fails : {Y : Type 0} → NotRead → Option Y → Type 0
Fails Syntax read = read ≡ None
Fails Memory read = Unit {0}

-- what was returned, seen by view, is what is read, unless memory was refused
abbrev pub Gives : {X Y : Type 0} → (X → Y) → Result X NotRead → Option Y → Type 0
Gives view (Ok x) read = read ≡ Some (view x)
Gives view (Err e) read = Fails e read

-- what was returned, seen by view, and the bytes left are what is read, unless memory was refused
abbrev pub Takes : {X Y : Type 0} → (X → Y) → Result X NotRead → Option (Y × List ℕ) → List ℕ → Type 0
Takes view (Ok x) read left = read ≡ Some (view x, left)
Takes view (Err e) read left = Fails e read

-- whether this word comes next
unfoldable pub comes_next : List ℕ → List ℕ → Bool
comes_next word bytes = (flag_at word bytes).0
