-- Which nodes are headings, and where a search for them begins.
use Rattle.std.specs.Prelude.{ℕ, codes, Bool, true, false, None}
use Rattle.dom_base.specs.declared.NodeName.{NodeName}
use Rattle.dom_model.specs.Command.{Filter}
use Rattle.dom_model.specs.Names.{text_eq}
use Rattle.dom_model.specs.Tree.{Trees, node_in}
use Rattle.dom_traversal.specs.Walkers.{KeyedWalker}

-- whether a node's name is `h1`
abbrev pub is_heading : Trees → NodeName → Bool
is_heading ts x = text_eq (node_in ts x).element (codes "h1")

-- elements are shown, and none is rejected
abbrev pub element_filter : Filter
element_filter = record { shown = record { element = true; text = false; comment = false; document = false; fragment = false }; named = None }

-- a walker over the elements below a node, at its beginning (DOM Standard, createTreeWalker())
abbrev pub from_top : ℕ → KeyedWalker
from_top top = record { root = top; current = top; filter = element_filter }
