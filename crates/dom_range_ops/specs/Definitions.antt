-- What proofs cite of this crate's definitions.
pub use Rattle.dom_range_ops.specs.Deletions.{AreLeaves, cutting, IsOfPoints, IsRangeIn}
pub use Rattle.dom_range_ops.specs.Extractions.{extracting_items, ShadowRootsHaveNoParent}
pub use Rattle.dom_range_ops.specs.Insertions.{inserting_before_tail, inserting_node, inserting_refusal, node_refusal, offset_behind}
pub use Rattle.dom_range_ops.specs.Pieces.{Adds, AreItems, ArePaths, AreSpanned, clone_item, cut_item, EndAlike, end_item, end_items, first_behind, first_from}
pub use Rattle.dom_range_ops.specs.Pieces.{from_sibling, HasPaths, heads, IsPieceIn, Item, item_in, items_of, made_by, side_items, tails, up_to, whole_item}
pub use Rattle.dom_range_ops.specs.Pieces.{whole_key, whole_keys, wholes, wholes_if}
pub use Rattle.dom_range_ops.specs.Takings.{clones_after, IsCopyOf, IsPieceOf, IsTaken, IsTaker, MayBeTaken, MayTake, names_in, new_names, TakesNew}
pub use Rattle.dom_range_ops.specs.Takings.{taking_item, taking_items, top_of}
pub use Rattle.dom_range_ops.specs.Texts.{AreEnds, contained_text, nodes_around, range_at_points, text_among, tree_text}
