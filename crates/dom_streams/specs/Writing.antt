-- How the writing of a text ends.
use Rattle.std.specs.Prelude.{◌≡◌, ℕ, ◌+◌, List, ◌++◌, length, Option, Result, Ok, Err}
use Rattle.std.specs.Io.KnownBytes.{Appends}
use Rattle.dom_streams.specs.declared.fault.RunFault.{RunFault}
use Rattle.dom_streams.specs.declared.fault.RunFault.TheVariants.{Read, Write, Memory, InputLimit}

-- what a sink took so far: the bytes, where they are known, and their number
abbrev pub Taken : Type 0
Taken = Option (List ℕ) × ℕ

-- this text was taken
abbrev pub Takes : Taken → Taken → List ℕ → Type 0
Takes old new text = Appends old.0 new.0 text × (new.1 ≡ old.1 + length text)

-- some first bytes of the text were taken
pub record TakesFront (old new : Taken) (text : List ℕ) : Type 0 where
  pub front : List ℕ
  pub back : List ℕ
  pub split : text ≡ front ++ back
  pub takes : Takes old new front

-- How a fault ends the writing of a text, with the sink's count of failed calls and what it took, before and after: a write
-- failed, and some first bytes are written; or memory was refused, and what is written is some of it.
abbrev pub StopsWriting : RunFault → ℕ → ℕ → Taken → Taken → List ℕ → Type 0 → Type 0
StopsWriting Write failed fails old new text some = (fails ≡ failed + 1) × TakesFront old new text
StopsWriting Memory failed fails old new text some = (fails ≡ failed) × some
StopsWriting Read failed fails old new text some = ⊥
StopsWriting InputLimit failed fails old new text some = ⊥

-- how the writing of a text ends: all of it is written, or a fault stops it
abbrev pub EndsWriting : {A : Type 0} → Result A RunFault → ℕ → ℕ → Taken → Taken → List ℕ → Type 0 → Type 0
EndsWriting (Ok x) failed fails old new text some = (fails ≡ failed) × Takes old new text
EndsWriting (Err e) failed fails old new text some = StopsWriting e failed fails old new text some
