-- What proofs cite of the laws on lists, names and trees.
pub use Rattle.dom_laws.proofs.Chains.{above-along, above-chain, above-split, ahead-apart, ahead-outside, beyond-outside, first-passes, some_ahead}
pub use Rattle.dom_laws.proofs.Children.{child-of_parent, children-single, Has-names, Has-root, In-names, names-tree, parent-of_child, Single-append}
pub use Rattle.dom_laws.proofs.Children.{Single-names, two_or_more}
pub use Rattle.dom_laws.proofs.Counts.{by_times, count-append, count-cons, none_or_some, Once, once_counted, once_parts, once_subtree, one, one-false, one-true}
pub use Rattle.dom_laws.proofs.Counts.{times_count, times-elsewhere, times-here, times_in-none, times_in-tree, times-more, times_or_else, times-parts}
pub use Rattle.dom_laws.proofs.Counts.{times_subtree}
pub use Rattle.dom_laws.proofs.KeptAncestors.{above_added, KeepsAbove, keeps_changed, keeps_changed_below, keeps_placed}
pub use Rattle.dom_laws.proofs.Lists.{after-in, after-split, all_drop, before-in, before-split, filter-all, filter-no, filter-none, filter-same, filter-yes}
pub use Rattle.dom_laws.proofs.Lists.{first-hit, first-miss, first_split, In, In-from, In-left, In-not, In-parts, In-right, is_in-from, is_in-not, last-hit}
pub use Rattle.dom_laws.proofs.Lists.{last-miss, last_of-end, last_split, name_eq-from, no_first, no_last, not_before, same_or_not, Single, Single-apart}
pub use Rattle.dom_laws.proofs.Lists.{Single-right, split_at}
pub use Rattle.dom_laws.proofs.Moves.{below_lacks, parent_taken, path_placed, path_put_root, path_root, path_taken}
pub use Rattle.dom_laws.proofs.Options.{is_some-map, no_key, none_left, was_none, was_some}
pub use Rattle.dom_laws.proofs.Order.{above-within, all_single, behind_is, below, here, inside-test, IsWithin, joined, outside-test, split_is, splits}
pub use Rattle.dom_laws.proofs.Order.{stands_in}
pub use Rattle.dom_laws.proofs.Paths.{Lacks, lacks_both, lacks_from, lacks_to, path_after, path_below, path_gone, path_head, path_here, path_lacks, path_none}
pub use Rattle.dom_laws.proofs.Paths.{subtree_gone, swapped}
pub use Rattle.dom_laws.proofs.Relatives.{behind_all, children_changed, children_once, children_parent, descendants_mapped, Each, each_all, first_lacks}
pub use Rattle.dom_laws.proofs.Relatives.{names_once, next_child, next_walked, NoTwice, once_below, parent_path, path_changed, path_mapped, subtree_mapped}
pub use Rattle.dom_laws.proofs.Removal.{above-put_others, Once-without, stays, without-apart}
pub use Rattle.dom_laws.proofs.Shapes.{above-absent, above-below, above-beside, above-from_below, above-here, above-itself, above-parent, above-present}
pub use Rattle.dom_laws.proofs.Shapes.{above-proper, above-root, below-from_above, Has, Has-above, has_or_not, Has-subtree, once_apart, proper-parent}
pub use Rattle.dom_laws.proofs.Shapes.{subtree-absent, subtree-below, subtree-beside, subtree-here, subtree-present, subtree-within, times-absent}
pub use Rattle.dom_laws.proofs.Siblings.{from_first, from_next, last_apart}
pub use Rattle.dom_laws.proofs.Steps.{ahead-previous, behind-next, child_places, first_child, following_place, last_child, next_places, no_child, no_last_child}
pub use Rattle.dom_laws.proofs.Steps.{no_next, no_previous, ordered, preceding_place, previous_places, top_places, within-child, within-itself, within-member}
pub use Rattle.dom_laws.proofs.Steps.{within-parent, within-root, within-top}
pub use Rattle.dom_laws.proofs.Walks.{above_inside, first_inside, left, StandsIn, walked, Walks, walks}
