-- On the world that a script leaves, the path of each node follows event parents (DOM Standard, concepts: get the parent,
-- dispatch).
use Rattle.std.specs.Prelude.{Bool, true, false, ◌&&◌, is_none, List, [], ◌∷◌, map, flat_map, option_to_list}
use Rattle.std.specs.List.{list_all}
use Rattle.dom_base.specs.declared.NodeName.{NodeName}
use Rattle.dom_model.specs.Names.{name_eq, is_in}
use Rattle.dom_model.specs.Tree.{nodes, names_of}
use Rattle.dom_model.specs.World.{World}
use Rattle.dom_model.specs.Paths.{event_parent, whole_path}
use Rattle.dom_model.specs.DocumentMachine.{first_world, run_lines}
use Rattle.dom_text.specs.Decode.{decode}
use Rattle.dom_examples.specs.Example.{Example}

-- each node of a path is the event's parent of the one before it, and the last has none
abbrev pub follows_parents : World → Bool → NodeName → List NodeName → Bool
follows_parents w composed first [] = true
follows_parents w composed first (x ∷ []) = is_none (event_parent w composed first x)
follows_parents w composed first (x ∷ y ∷ rest) =
    is_in name_eq y (option_to_list (event_parent w composed first x)) && follows_parents w composed first (y ∷ rest)

-- all nodes of a world
abbrev pub all_nodes : World → List NodeName
all_nodes w = flat_map (λ p. names_of (nodes p.trees)) w.parts

-- the paths of all nodes do, of composed events or of others
abbrev pub all_follow : World → Bool → Bool
all_follow w composed = list_all (λ x. follows_parents w composed x (whole_path w x composed)) (all_nodes w)

-- so they do after the script
abbrev pub paths_are_right : Example → Bool
paths_are_right e = let w = (run_lines first_world (map decode e.lines)).0 in all_follow w true && all_follow w false
