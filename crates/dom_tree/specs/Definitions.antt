-- What proofs cite of this crate's definitions.
pub use Rattle.dom_tree.specs.Apart.{TellApart}
pub use Rattle.dom_tree.specs.Contents.{Contents, Stored, stored_from}
pub use Rattle.dom_tree.specs.EachNode.{change_each}
pub use Rattle.dom_tree.specs.Forest.{contents_of, count_of, err_of, IsKept, IsNode, name_at, NamedTrees, next_name, node_from, nodes_of, nodes_with, node_with}
pub use Rattle.dom_tree.specs.Forest.{stored_names}
pub use Rattle.dom_tree.specs.Owners.{AreInOrder, AreOf, AreOwned, HaveOwners, IsOwnChange, IsReadOwn, NoneBefore, StaysOwn, trees_of_owner}
pub use Rattle.dom_tree.specs.Rows.{below_within, in_order, is_root, node_at, put_key, root_keys, row, trees_of}
pub use Rattle.dom_tree.specs.Table.{HasRoom, keys_of, StandsAt}
pub use Rattle.dom_tree.specs.Within.{StandsBelow, StandsIn}
