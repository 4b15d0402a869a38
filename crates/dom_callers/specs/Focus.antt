-- Where the focus goes.
use Rattle.std.specs.Prelude.{Option}
use Rattle.std.specs.Option.{option_or}
use Rattle.dom_base.specs.declared.NodeName.{NodeName}
use Rattle.dom_base.specs.declared.Move.TheVariants.{Next}
use Rattle.dom_model.specs.Command.{Filter}
use Rattle.dom_model.specs.Traversal.{walker_move}
use Rattle.dom_model.specs.Tree.{Trees}

-- the next node that a filter lets through below a root, behind x in tree order (DOM Standard, nextNode() of a TreeWalker)
abbrev pub next_behind : Trees → Filter → NodeName → NodeName → Option NodeName
next_behind ts f root x = walker_move ts record { root = root; current = x; filter = f } Next

-- the next node behind x, and where there is none the first such node below the root (own rule)
abbrev pub focus_behind : Trees → Filter → NodeName → NodeName → Option NodeName
focus_behind ts f root x = option_or (next_behind ts f root x) (next_behind ts f root root)
