-- What other crates cite of lists, and choices by a test.
pub use Rattle.dom_worlds.proofs.Lists.{and-true_false, by_cases, either_way, or-later, which_way, all-append, all-before, all-distinct}
pub use Rattle.dom_worlds.proofs.Lists.{all-dropped, all-filter, all-flat_map, all-from, all-map, all-passed, all-reverse, all-set, all-take_while, all-then}
pub use Rattle.dom_worlds.proofs.Lists.{filter-filter, filter-map, filter-reverse, filter_all, filter_none, filter_same, get-all, get-below, map_same}
pub use Rattle.dom_worlds.proofs.Lists.{take_while-no, take_while-yes, take_while_all}
