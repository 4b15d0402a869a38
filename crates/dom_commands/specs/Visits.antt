-- What a contract sees of the visits of an event, and of the composed path that was asked for last.
use Rattle.std.specs.Prelude.{◌≡◌, ℕ, ◌<◌, List, length, map, Option, Some, option_map, slice_get}
use Rattle.std.specs.Option.{ForSome}
use Rattle.dom_base.specs.declared.NodeName.{NodeName}
use Rattle.dom_model.specs.Listeners.{Visit as Visited}
use Rattle.dom_model.specs.Paths.{View}
use Rattle.dom_path.specs.Items.{PathNow}
use Rattle.dom_tree.specs.Forest.{name_at}
use Rattle.dom_commands.specs.declared.visits.Shown.{Shown}
use Rattle.dom_commands.specs.declared.visits.Visit.{Visit}

-- a visit
abbrev pub visit_shown : Visit → Visited NodeName
visit_shown v = record {
  current = v.current;
  phase = v.phase;
  capturing = v.capturing;
  target = v.target;
  related = v.related;
  path = v.path.value.items;
}

-- the nodes that an event shows at an item of its path, by names
abbrev pub path_at : List NodeName → PathNow → ℕ → Option (List NodeName)
path_at names p at = option_map (λ (v : View ℕ). map (name_at names) v.path) (slice_get p.views at)

-- what was asked for last are the nodes that an event shows at an item of its path
abbrev pub IsShownOf : List NodeName → PathNow → Shown → Type 0
IsShownOf names p s = ForSome s.last (λ l. (l.at < length p.items) × (path_at names p l.at ≡ Some l.nodes.value.items))
