-- What a call of a source or a sink says of its counts of bytes and of failed calls.
use Rattle.std.specs.Prelude.{◌≡◌, ℕ, ◌+◌, ◌<◌, List, length, Result, MatchResult}

-- a call that failed adds one to the count, and no other does
abbrev pub CountsFailure : {A E : Type 0} → Result A E → ℕ → ℕ → Type 0
CountsFailure r old new = MatchResult r (λ _. new ≡ old) (λ _. new ≡ old + 1)

-- the bytes that a read gave are added to the count, and none where it failed
abbrev pub CountsBytes : {E : Type 0} → Result ℕ E → ℕ → ℕ → Type 0
CountsBytes r old new = MatchResult r (λ n. new ≡ old + n) (λ _. new ≡ old)

-- a write that failed, or took nothing where there were bytes to take, adds one to the count, and no other does
abbrev pub CountsWrite : {E : Type 0} → Result ℕ E → List ℕ → ℕ → ℕ → Type 0
CountsWrite r bytes old new =
    MatchResult r (λ n. (n ≡ 0 → 0 < length bytes → new ≡ old + 1) × (0 < n → new ≡ old) × (length bytes ≡ 0 → new ≡ old)) (λ _. new ≡ old + 1)
