-- The nodes of a tree around one of them, in tree order.
use Rattle.std.specs.Prelude.{not, List, [], ◌∷◌, ◌++◌, filter, Option, Some, None}
use Rattle.dom_base.specs.declared.NodeName.{NodeName}
use Rattle.dom_model.specs.Names.{name_eq, items_before, items_after}
use Rattle.dom_model.specs.Tree.{Trees, inclusive_descendants, is_inclusive_ancestor}

-- the nodes of the tree of `top` before x
abbrev pub ahead_of : Trees → NodeName → NodeName → List NodeName
ahead_of ts top x = items_before name_eq x (inclusive_descendants ts top)

-- the nodes of the tree of `top` behind x
abbrev pub behind : Trees → NodeName → NodeName → List NodeName
behind ts top x = items_after name_eq x (inclusive_descendants ts top)

-- the nodes of the tree of `top` behind x that are not below x
abbrev pub beyond : Trees → NodeName → NodeName → List NodeName
beyond ts top x = filter (λ y. not (is_inclusive_ancestor ts x y)) (behind ts top x)

-- the nodes of the tree of `top` from a node on; none where there is no node
abbrev pub from_node : Trees → NodeName → Option NodeName → List NodeName
from_node ts top None = []
from_node ts top (Some x) = x ∷ behind ts top x

-- the nodes of the tree of `top` up to a node; none where there is no node
abbrev pub up_to_node : Trees → NodeName → Option NodeName → List NodeName
up_to_node ts top None = []
up_to_node ts top (Some x) = ahead_of ts top x ++ x ∷ []

-- the nodes of the tree of `top` up to a node and all that is below it; none where there is no node
abbrev pub up_to_tree : Trees → NodeName → Option NodeName → List NodeName
up_to_tree ts top None = []
up_to_tree ts top (Some x) = ahead_of ts top x ++ inclusive_descendants ts x
