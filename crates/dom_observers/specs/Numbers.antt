-- Numbers of observers, as the code holds them.
use Rattle.std.specs.Prelude.{ℕ, List, [], ◌∷◌}
use Rattle.dom_observers.specs.declared.numbers.Numbers.{Numbers}
use Rattle.dom_observers.specs.declared.numbers.Numbers.TheVariants.{Empty, One, More}

-- the numbers in order (own rule)
abbrev pub numbers_in : Numbers → List ℕ
numbers_in Empty = []
numbers_in (One k) = k ∷ []
numbers_in (More set) = set.value.keys
