-- How the program's run ends: as the engine's run does, unless its output was not handed on, which is a failed write (own rule).
use Rattle.std.specs.Prelude.{◌≡◌, ◌⊎◌, ℕ, ◌+◌, ◌<◌, ◌≤◌, List, Option, Result, Ok, Err}
use Rattle.dom_base.specs.declared.Owner.{Owner}
use Rattle.dom_streams.specs.declared.fault.RunFault.{RunFault}
use Rattle.dom_streams.specs.declared.fault.RunFault.TheVariants.{Read, Write, Memory, InputLimit}
use Rattle.dom_streams.specs.Writing.{Taken}
use Rattle.dom_engine.specs.Run.{RunsToEnd, StopsRun, input_limit, read_most}

-- the bytes were read, and the output was written, by a run that has come to its end or was stopped by some fault (own rule)
abbrev pub HasRun : Option Owner → Option (List ℕ) → Option (List ℕ) → Taken → Taken → Type 0
HasRun view from to old new = RunsToEnd view from to old new ⊎ ((e : RunFault) × StopsRun e view from to old new)

-- The count of failed reads: one more on Read, and else the same; but where output was lost, a read may have failed too (own rule).
abbrev pub CountsReadsOf : Result (Unit {0}) RunFault → ℕ → ℕ → Type 0
CountsReadsOf (Ok x) old new = new ≡ old
CountsReadsOf (Err Read) old new = new ≡ old + 1
CountsReadsOf (Err Write) old new = (new ≡ old) ⊎ (new ≡ old + 1)
CountsReadsOf (Err Memory) old new = new ≡ old
CountsReadsOf (Err InputLimit) old new = new ≡ old

-- The count of the bytes that were read: no more than a run reads, and more on InputLimit; where output was lost, at most one read more (own rule).
abbrev pub ReadsWithinOf : Result (Unit {0}) RunFault → ℕ → ℕ → Type 0
ReadsWithinOf (Ok x) old new = new ≤ old + input_limit
ReadsWithinOf (Err Read) old new = new ≤ old + input_limit
ReadsWithinOf (Err Write) old new = new ≤ old + read_most
ReadsWithinOf (Err Memory) old new = new ≤ old + input_limit
ReadsWithinOf (Err InputLimit) old new = (old + input_limit < new) × (new ≤ old + read_most)

-- the count of the output's failed calls: more on Write, and else the same (own rule)
abbrev pub CountsLosses : Result (Unit {0}) RunFault → ℕ → ℕ → Type 0
CountsLosses (Ok x) old new = new ≡ old
CountsLosses (Err Read) old new = new ≡ old
CountsLosses (Err Write) old new = old < new
CountsLosses (Err Memory) old new = new ≡ old
CountsLosses (Err InputLimit) old new = new ≡ old
