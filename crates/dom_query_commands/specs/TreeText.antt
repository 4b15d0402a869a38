-- The places in the text of trees, in their order.
use Rattle.std.specs.Prelude.{ℕ, List, Option, Some, None, if◌then◌else◌}
use Rattle.std.specs.Option.{option_map, option_map_or}
use Rattle.dom_base.specs.declared.NodeName.{NodeName}
use Rattle.dom_model.specs.Names.{name_eq, first_of}
use Rattle.dom_model.specs.Tree.{Trees, node_in, children_of, parent_of, next_sibling}
use Rattle.dom_text.specs.Text.{TreeStep, opens, closes}
use Rattle.dom_tree.specs.Forest.{name_at}
use Rattle.dom_printer.specs.Steps.{shown}
use Rattle.dom_query_commands.specs.declared.tree_text.Place.{Place}
use Rattle.dom_query_commands.specs.declared.tree_text.Place.TheVariants as places

-- where the node of a name opens, or where it closes
pub data NamedPlace : Type 0 where
  opening : NodeName → NamedPlace
  closing : NodeName → NamedPlace

-- the key of the node of a place
abbrev pub key_of : Place → ℕ
key_of (places.Opening key) = key
key_of (places.Closing key) = key

-- a place with the name of its node
abbrev pub place_view : List NodeName → Place → NamedPlace
place_view names (places.Opening key) = opening (name_at names key)
place_view names (places.Closing key) = closing (name_at names key)

-- the step at a place
abbrev pub step_at : Trees → NamedPlace → TreeStep
step_at ts (opening x) = opens (shown (node_in ts x))
step_at ts (closing x) = closes

-- the place after this one, up to where the node given closes
abbrev pub place_after : Trees → NodeName → NamedPlace → Option NamedPlace
place_after ts top (opening x) = Some (option_map_or opening (first_of (children_of ts x)) (closing x))
place_after ts top (closing x) =
    if name_eq x top then None else option_map_or (λ s. Some (opening s)) (next_sibling ts x) (option_map closing (parent_of ts x))
