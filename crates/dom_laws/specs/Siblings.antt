-- The children of a node, one after the other.
use Rattle.std.specs.Prelude.{not, List, [], ◌∷◌, filter, Option, Some, None, if◌then◌else◌}
use Rattle.dom_base.specs.declared.NodeName.{NodeName}
use Rattle.dom_model.specs.Names.{name_eq, items_after}
use Rattle.dom_model.specs.Tree.{Trees, siblings}
use Rattle.dom_model.specs.TreeChanges.{is_given}

-- a node and the siblings behind it; none where there is no node
abbrev pub from_sibling : Trees → Option NodeName → List NodeName
from_sibling ts None = []
from_sibling ts (Some x) = x ∷ items_after name_eq x (siblings ts x)

-- x put into a list just before the name given, or behind all
abbrev pub put_name : Option NodeName → NodeName → List NodeName → List NodeName
put_name before x [] = x ∷ []
put_name before x (y ∷ ys) = if is_given before y then x ∷ y ∷ ys else y ∷ put_name before x ys

-- a list without x
abbrev pub without_name : NodeName → List NodeName → List NodeName
without_name x ys = filter (λ y. not (name_eq x y)) ys
