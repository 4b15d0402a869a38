-- What a button shows.
use Rattle.std.specs.Prelude.{ℕ, List, Option, Some, None, if◌then◌else◌}
use Rattle.dom_base.specs.declared.NodeName.{NodeName}
use Rattle.dom_model.specs.Tree.{Trees, node_in, kind_of, is_text}

-- the data of a node that is a Text (own rule)
abbrev pub text_at : Trees → NodeName → Option (List ℕ)
text_at ts x = if is_text (kind_of ts x) then Some (node_in ts x).text else None
