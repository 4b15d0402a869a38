use Rattle.dom_ranges.proofs.Naming.{insert-named, removal-named, replace_data-named, split-named, join-named, start-named, end-named, grown-named, made-named}
use Rattle.dom_ranges.proofs.Naming.{removed-named, rewritten-named, collapsed-named}
use Rattle.dom_ranges.proofs.laws.law_keys_stand_for_names.Goals as goal

pub returns-clause-insert : goal.returns-clause-insert
returns-clause-insert c = insert-named

pub returns-clause-removal : goal.returns-clause-removal
returns-clause-removal c = removal-named

pub returns-clause-replace_data : goal.returns-clause-replace_data
returns-clause-replace_data c = replace_data-named

pub returns-clause-split : goal.returns-clause-split
returns-clause-split c = split-named

pub returns-clause-join : goal.returns-clause-join
returns-clause-join c = join-named

pub returns-clause-start : goal.returns-clause-start
returns-clause-start c = start-named

pub returns-clause-end : goal.returns-clause-end
returns-clause-end c = end-named

pub returns-clause-grown : goal.returns-clause-grown
returns-clause-grown c = grown-named

pub returns-clause-made : goal.returns-clause-made
returns-clause-made c = made-named

pub returns-clause-removed : goal.returns-clause-removed
returns-clause-removed c = removed-named

pub returns-clause-rewritten : goal.returns-clause-rewritten
returns-clause-rewritten c = rewritten-named

pub returns-clause-collapsed : goal.returns-clause-collapsed
returns-clause-collapsed c = collapsed-named
