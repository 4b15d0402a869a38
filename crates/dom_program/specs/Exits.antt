-- How the program ends: its exit status, and what stands on standard error (own rule).
use Rattle.std.specs.Prelude.{ℕ, List, [], Result, Ok, Err, codes}
use Rattle.dom_streams.specs.declared.fault.RunFault.TheVariants.{Read, Write, Memory, InputLimit}
use Rattle.dom_program.specs.declared.exit_cause.ExitCause.{ExitCause}
use Rattle.dom_program.specs.declared.exit_cause.ExitCause.TheVariants.{Usage, Run}

-- the status
abbrev pub status_of : Result (Unit {0}) ExitCause → ℕ
status_of (Ok x) = 0
status_of (Err (Run Read)) = 1
status_of (Err Usage) = 2
status_of (Err (Run Memory)) = 3
status_of (Err (Run Write)) = 4
status_of (Err (Run InputLimit)) = 5

-- the text
abbrev pub text_of : Result (Unit {0}) ExitCause → List ℕ
text_of (Ok x) = []
text_of (Err (Run Read)) = codes "domrun: read"
text_of (Err Usage) = codes "domrun: usage"
text_of (Err (Run Memory)) = codes "domrun: memory"
text_of (Err (Run Write)) = codes "domrun: write"
text_of (Err (Run InputLimit)) = codes "domrun: input limit"
