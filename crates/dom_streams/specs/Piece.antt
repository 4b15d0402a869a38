-- Where the first line of some bytes ends.
use Rattle.std.specs.Prelude.{◌≡◌, ℕ, ◌+◌, ◌<◌, List, ◌∷◌, ◌++◌, length, take, drop}
use Rattle.dom_text.specs.Lines.{IsOneLine, line_feed}

-- the first line ends at this place
pub record EndsAt (bytes : List ℕ) (at : ℕ) : Type 0 where
  pub within : at < length bytes
  pub one : IsOneLine (take at bytes)
  pub split : bytes ≡ take at bytes ++ line_feed ∷ drop (at + 1) bytes
