-- The two sides of a node among its siblings.
use Rattle.std.specs.Prelude.{Option}
use Rattle.dom_base.specs.declared.NodeName.{NodeName}
use Rattle.dom_model.specs.Names.{first_of, last_of}
use Rattle.dom_model.specs.Tree.{Trees, previous_sibling, next_sibling}
use Rattle.dom_model.specs.Selectors.{elements_before, elements_behind}
use Rattle.dom_selectors.specs.declared.siblings.Side.{Side}
use Rattle.dom_selectors.specs.declared.siblings.Side.TheVariants.{Before, Behind}

-- the sibling just beside a node (DOM Standard, concept: previous sibling, next sibling)
abbrev pub sibling_on : Side → Trees → NodeName → Option NodeName
sibling_on Before ts x = previous_sibling ts x
sibling_on Behind ts x = next_sibling ts x

-- the nearest element beside a node (own rule)
abbrev pub element_on : Side → Trees → NodeName → Option NodeName
element_on Before ts x = last_of (elements_before ts x)
element_on Behind ts x = first_of (elements_behind ts x)
