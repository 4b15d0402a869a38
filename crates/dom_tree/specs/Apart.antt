-- Names that tell keys apart. Own rule.
use Rattle.std.specs.Prelude.{◌≡◌, ℕ, ◌<◌, List, length}
use Rattle.dom_base.specs.declared.NodeName.{NodeName}
use Rattle.dom_tree.specs.Forest.{name_at}

-- names tell keys apart
abbrev pub TellApart : List NodeName → Type 0
TellApart names = (j k : ℕ) → j < length names → k < length names → name_at names j ≡ name_at names k → j ≡ k
