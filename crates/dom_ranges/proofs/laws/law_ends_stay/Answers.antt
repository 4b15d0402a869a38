use Rattle.dom_ranges.proofs.Staying.{none-within, same-within, more-within, within-at_nodes, some-within, made-within, removed-within, written-within}
use Rattle.dom_ranges.proofs.Staying.{start-within, end-within, collapsed-within, insert-within, removal-within, replace_data-within, split-within, join-within}
use Rattle.dom_ranges.proofs.laws.law_ends_stay.Goals as goal

pub returns-clause-none : goal.returns-clause-none
returns-clause-none c = none-within

pub returns-clause-same : goal.returns-clause-same
returns-clause-same c = same-within

pub returns-clause-more : goal.returns-clause-more
returns-clause-more c = more-within

pub returns-clause-at_nodes : goal.returns-clause-at_nodes
returns-clause-at_nodes c = within-at_nodes

pub returns-clause-bound : goal.returns-clause-bound
returns-clause-bound c = some-within

pub returns-clause-made : goal.returns-clause-made
returns-clause-made c = made-within

pub returns-clause-removed : goal.returns-clause-removed
returns-clause-removed c = removed-within

pub returns-clause-written : goal.returns-clause-written
returns-clause-written c = written-within

pub returns-clause-start : goal.returns-clause-start
returns-clause-start c = start-within

pub returns-clause-end : goal.returns-clause-end
returns-clause-end c = end-within

pub returns-clause-collapsed : goal.returns-clause-collapsed
returns-clause-collapsed c = collapsed-within

pub returns-clause-insert : goal.returns-clause-insert
returns-clause-insert c = insert-within

pub returns-clause-removal : goal.returns-clause-removal
returns-clause-removal c = removal-within

pub returns-clause-replace_data : goal.returns-clause-replace_data
returns-clause-replace_data c = replace_data-within

pub returns-clause-split : goal.returns-clause-split
returns-clause-split c = split-within

pub returns-clause-join : goal.returns-clause-join
returns-clause-join c = join-within
