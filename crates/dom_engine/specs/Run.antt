-- What a run writes: the output of the lines that it reads, and of a view the lines of one owner.
use Rattle.std.specs.Prelude.{◌≡◌, ◌⊎◌, ℕ, ◌+◌, ◌^◌, ◌<◌, ◌≤◌, List, ◌++◌, length, take, map, Option, Result, Ok, Err}
use Rattle.std.specs.Io.KnownBytes.{Consumes, IsAtEnd}
use Rattle.dom_base.specs.declared.Owner.{Owner}
use Rattle.dom_model.specs.World.{World}
use Rattle.dom_model.specs.DocumentMachine.{first_world, run_lines, finish, run_to_end}
use Rattle.dom_text.specs.Lines.{cut_of, lines_of}
use Rattle.dom_text.specs.Text.{output_text}
use Rattle.dom_text.specs.Decode.{decode}
use Rattle.dom_streams.specs.declared.fault.RunFault.{RunFault}
use Rattle.dom_streams.specs.declared.fault.RunFault.TheVariants.{Read, Write, Memory, InputLimit}
use Rattle.dom_streams.specs.Views.{viewed}
use Rattle.dom_streams.specs.Writing.{Taken, Takes, EndsWriting}

-- the world after the lines
unfoldable pub world_after : World → List (List ℕ) → World
world_after w lines = (run_lines w (map decode lines)).0

-- the text of what the lines answer
unfoldable pub answers : World → List (List ℕ) → List ℕ
answers w lines = output_text (run_lines w (map decode lines)).1

-- the text of what the lines answer, and of the ending behind them
unfoldable pub answers_to_end : List (List ℕ) → List ℕ
answers_to_end lines = output_text (run_to_end first_world (map decode lines)).1

-- the text of the ending
unfoldable pub ending : World → List ℕ
ending w = output_text (finish w).1

-- what a run writes for the bytes that it read, to their end
abbrev pub run_text : Option Owner → List ℕ → List ℕ
run_text view bytes = viewed view (answers_to_end (lines_of bytes))

-- what a run has written when it has read these bytes, and more may come: nothing of the line that is not ended
abbrev pub finished_text : Option Owner → List ℕ → List ℕ
finished_text view bytes = viewed view (answers first_world (cut_of bytes).finished)

-- what a view keeps of the answers to lines
abbrev pub shown : Option Owner → World → List (List ℕ) → List ℕ
shown view w lines = viewed view (answers w lines)

-- what is written of some first lines was written
pub record WritesSome (old new : Taken) (text : List (List ℕ) → List ℕ) (lines : List (List ℕ)) : Type 0 where
  pub count : ℕ
  pub within : count ≤ length lines
  pub takes : Takes old new (text (take count lines))

-- How the running of lines ends, of which this text is written: all of it is, or a fault stops it, at Memory behind some of
-- the lines.
abbrev pub EndsLines : {A : Type 0} → Result A RunFault → ℕ → ℕ → Taken → Taken → (List (List ℕ) → List ℕ) → List (List ℕ) → Type 0
EndsLines r failed fails old new text lines = EndsWriting r failed fails old new (text lines) (WritesSome old new text lines)

-- the count of a sink's failed calls: one more where a write or the flush failed, and else the same
abbrev pub CountsWrites : {A : Type 0} → Result A RunFault → ℕ → ℕ → Type 0
CountsWrites (Ok x) old new = new ≡ old
CountsWrites (Err Read) old new = new ≡ old
CountsWrites (Err Write) old new = new ≡ old + 1
CountsWrites (Err Memory) old new = new ≡ old
CountsWrites (Err InputLimit) old new = new ≡ old

-- the count of a source's failed calls: one more where a read failed, and else the same
abbrev pub CountsReads : {A : Type 0} → Result A RunFault → ℕ → ℕ → Type 0
CountsReads (Ok x) old new = new ≡ old
CountsReads (Err Read) old new = new ≡ old + 1
CountsReads (Err Write) old new = new ≡ old
CountsReads (Err Memory) old new = new ≡ old
CountsReads (Err InputLimit) old new = new ≡ old

-- how many bytes one read is asked for at most
abbrev pub read_size : ℕ
read_size = 4096

-- how many bytes a run reads at most
abbrev pub input_limit : ℕ
input_limit = 2 ^ 30

-- how many bytes are given to a run at most: at the limit one read more decides
abbrev pub read_most : ℕ
read_most = input_limit + read_size

-- the count of the bytes that a source gave: no more of them than a run reads, but on InputLimit, where it is more
abbrev pub ReadsWithin : Result (Unit {0}) RunFault → ℕ → ℕ → Type 0
ReadsWithin (Ok x) old new = new ≤ old + input_limit
ReadsWithin (Err Read) old new = new ≤ old + input_limit
ReadsWithin (Err Write) old new = new ≤ old + input_limit
ReadsWithin (Err Memory) old new = new ≤ old + input_limit
ReadsWithin (Err InputLimit) old new = (old + input_limit < new) × (new ≤ old + read_most)

-- The end was reached: all bytes were read, they are no more than a run reads, and the whole run's text is written.
pub record RunsToEnd (view : Option Owner) (from to : Option (List ℕ)) (old new : Taken) : Type 0 where
  pub given : List ℕ
  pub few : length given ≤ input_limit
  pub consumed : Consumes from to given
  pub at_end : IsAtEnd to
  pub written : Takes old new (run_text view given)

-- Faults. The bytes that were read are no more than a run reads, but for those of the one read more that decides at the limit.

-- A read failed: what is written is the text of the lines that the bytes read before it end.
pub record StopsAtRead (view : Option Owner) (from to : Option (List ℕ)) (old new : Taken) : Type 0 where
  pub given : List ℕ
  pub few : length given ≤ input_limit
  pub consumed : Consumes from to given
  pub written : Takes old new (finished_text view given)

-- There are more bytes than a run reads: what is written is the text of the lines that those end which it does read.
pub record StopsAtLimit (view : Option Owner) (from to : Option (List ℕ)) (old new : Taken) : Type 0 where
  pub given : List ℕ
  pub more : List ℕ
  pub full : length given ≡ input_limit
  pub over : 0 < length more
  pub one_read : length more ≤ read_size
  pub consumed : Consumes from to (given ++ more)
  pub written : Takes old new (finished_text view given)

-- Memory was refused: what is written is the text of some first lines of the bytes read, among them all that are ended
-- before the bytes of the last read; a line that is not ended is among them only at the end of the input.
pub record StopsAtMemory (view : Option Owner) (from to : Option (List ℕ)) (old new : Taken) : Type 0 where
  pub early : List ℕ
  pub late : List ℕ
  pub near : length late ≤ read_size
  pub few : length (early ++ late) ≤ input_limit
  pub consumed : Consumes from to (early ++ late)
  pub count : ℕ
  pub since : length (cut_of early).finished ≤ count
  pub within : count ≤ length (lines_of (early ++ late))
  pub ended : (count ≤ length (cut_of (early ++ late)).finished) ⊎ IsAtEnd to
  pub written : Takes old new (viewed view (answers first_world (take count (lines_of (early ++ late)))))

-- A write or the flush failed: what is written is the text of the lines that are ended before the bytes of the last read,
-- and some first bytes of what comes behind it.
pub record StopsAtWrite (view : Option Owner) (from to : Option (List ℕ)) (old new : Taken) : Type 0 where
  pub early : List ℕ
  pub late : List ℕ
  pub near : length late ≤ read_size
  pub few : length (early ++ late) ≤ input_limit
  pub consumed : Consumes from to (early ++ late)
  pub front : List ℕ
  pub back : List ℕ
  pub split : (finished_text view (early ++ late) ≡ (finished_text view early ++ front) ++ back)
      ⊎ ((run_text view (early ++ late) ≡ (finished_text view early ++ front) ++ back) × IsAtEnd to)
  pub written : Takes old new (finished_text view early ++ front)

-- how a fault stops a run, of what it has read and written
abbrev pub StopsRun : RunFault → Option Owner → Option (List ℕ) → Option (List ℕ) → Taken → Taken → Type 0
StopsRun Read view from to old new = StopsAtRead view from to old new
StopsRun Write view from to old new = StopsAtWrite view from to old new
StopsRun Memory view from to old new = StopsAtMemory view from to old new
StopsRun InputLimit view from to old new = StopsAtLimit view from to old new
