-- Numbers that stand in a list, or in a set.
use Rattle.std.specs.Prelude.{ℕ, List}
use Rattle.dom_microtasks.specs.EachOnce.{IsEachOnce}
use Rattle.dom_microtasks.specs.declared.slot_numbers.Numbers.{Numbers}
use Rattle.dom_microtasks.specs.declared.slot_numbers.Numbers.TheVariants.{Few, Many}

-- all of them, in the order in which they came
abbrev pub numbers_now : Numbers → List ℕ
numbers_now (Few list) = list.items
numbers_now (Many set) = set.value.keys

-- no number is there twice
abbrev pub AreOnce : Numbers → Type 0
AreOnce (Few list) = IsEachOnce list.items
AreOnce (Many set) = Unit {0}
