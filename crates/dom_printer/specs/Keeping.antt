-- What a buffer has after a call that was refused memory.
use Rattle.std.specs.Prelude.{◌≡◌, ℕ, List, length, take}

-- the old bytes still begin the buffer
abbrev pub Keeps : List ℕ → List ℕ → Type 0
Keeps old new = take (length old) new ≡ old
