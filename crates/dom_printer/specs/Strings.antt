-- Code units that stand as they are within a string.
use Rattle.std.specs.Prelude.{ℕ, Bool, not, ◌&&◌, ◌||◌, ◌==◌}
use Rattle.std.specs.Int.{is_in_range}

-- a unit that stands as it is: from 0x20 to 0x7E, and no quote or backslash
abbrev pub is_plain : ℕ → Bool
is_plain u = is_in_range 0x20 0x7E u && not ((u == 34) || (u == 92))
