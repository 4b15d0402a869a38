-- The numbers of the nodes that are held.
use Rattle.std.specs.Prelude.{ℕ, ◌<◌, List, length}
use Rattle.dom_base.specs.declared.NodeName.{NodeName}
use Rattle.dom_tree.specs.Forest.{name_at, count_of}

-- each node's number is below the count of its owner's nodes (own rule)
abbrev pub AreNumbered : List NodeName → Type 0
AreNumbered names = (k : ℕ) → k < length names → (name_at names k).number < count_of (name_at names k).owner names
