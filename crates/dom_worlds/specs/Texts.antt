-- Which Texts normalization changes.
use Rattle.std.specs.Prelude.{◌==◌, ◌||◌, length, not, Bool}
use Rattle.dom_base.specs.declared.NodeName.{NodeName}
use Rattle.dom_model.specs.Names.{is_empty}
use Rattle.dom_model.specs.Tree.{Trees, node_in}
use Rattle.dom_model.specs.TextChanges.{contiguous_texts_after}

-- whether a Text has no data, or a Text directly behind it: others stay as they are where Texts are normalized (own rule)
abbrev pub needs_normalizing : Trees → NodeName → Bool
needs_normalizing ts y = (length (node_in ts y).text == 0) || not (is_empty (contiguous_texts_after ts y))
