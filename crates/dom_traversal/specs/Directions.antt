-- What a direction chooses: siblings, children and moves.
use Rattle.std.specs.Prelude.{Option}
use Rattle.dom_base.specs.declared.NodeName.{NodeName}
use Rattle.dom_base.specs.declared.Move.{Move}
use Rattle.dom_base.specs.declared.Move.TheVariants as moves
use Rattle.dom_model.specs.Names.{first_of, last_of}
use Rattle.dom_model.specs.Tree.{Trees, children_of, next_sibling, previous_sibling}
use Rattle.dom_traversal.specs.declared.iter.Direction.{Direction}
use Rattle.dom_traversal.specs.declared.iter.Direction.TheVariants.{Next, Previous}

-- the sibling of a node in a direction (DOM Standard, concepts: next sibling, previous sibling)
abbrev pub sibling_in : Direction → Trees → NodeName → Option NodeName
sibling_in Next ts x = next_sibling ts x
sibling_in Previous ts x = previous_sibling ts x

-- the child of a node that comes first in a direction (DOM Standard, concepts: first child, last child)
abbrev pub outer_child : Direction → Trees → NodeName → Option NodeName
outer_child Next ts x = first_of (children_of ts x)
outer_child Previous ts x = last_of (children_of ts x)

-- the move to that child (DOM Standard, interface TreeWalker)
abbrev pub child_move : Direction → Move
child_move Next = moves.First
child_move Previous = moves.Last

-- the move to a sibling (DOM Standard, interface TreeWalker)
abbrev pub sibling_move : Direction → Move
sibling_move Next = moves.NextSibling
sibling_move Previous = moves.PreviousSibling
