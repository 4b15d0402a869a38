-- What proofs cite of this crate's definitions.
pub use Rattle.dom_path.specs.Built.{GoesOn, IsBuilt, IsEvent, IsItemOf, IsWay, next_name, related_name}
pub use Rattle.dom_path.specs.Hosted.{AreApart, AreAttached, IsAttached, IsHosted}
pub use Rattle.dom_path.specs.Items.{AreInTrees, HasNodes, IsWorldOf, item_named, items_along, PathItem, path_item, path_items, ShowsNodes, view_named}
pub use Rattle.dom_path.specs.Nests.{AreNested, Grows, hiding_host, IsNested, outer_of, roots_around, roots_up, seen_from, seen_up}
pub use Rattle.dom_path.specs.Outward.{GoesOut, IsAround}
pub use Rattle.dom_path.specs.PathNodes.{AreTrees, ends_before, HasTreeNodes, is_hidden_item, is_key, IsPathNode, is_silent, IsSlotBelow, IsTree, IsTreeOf}
pub use Rattle.dom_path.specs.PathNodes.{item_from, key_if, related_from, seen_of, shown_nodes, view_in}
pub use Rattle.dom_path.specs.Paths.{FollowsUp, GoesUp, IsPath, IsPathShown, IsTrail, item_at, items_at, view_of}
pub use Rattle.dom_path.specs.Ways.{chain_at, ends_at, EndsWithin, event_parent_at, host_above_at, is_empty_at, is_hidden_at, next_at, related_at, seen_at}
pub use Rattle.dom_path.specs.Ways.{unless_ended}
