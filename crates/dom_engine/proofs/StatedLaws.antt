-- The laws that the functions of `laws` state just as they are proved.
use Rattle.dom_engine.proofs.PagePrefixes.{page-sees_lines_named_in_full, page-sees_lines_named, page-sees_prefix_in_full, page-sees_prefix}
use Rattle.dom_engine.proofs.PagePrefixes.{page_text-agrees_in_full, page_text-agrees, page_text-same_in_full, page_text-same}
use Rattle.dom_isolation.proofs.GroupTexts.{same-around, same-around_while_turns_stand, same-around_in_full, same-component, same-component_while_turns_stand}
use Rattle.dom_isolation.proofs.GroupTexts.{same-component_in_full, same-family, same-family_while_turns_stand, same-family_in_full, same-member}
use Rattle.dom_isolation.proofs.GroupTexts.{same-member_while_turns_stand, same-member_in_full}
use Rattle.dom_engine.proofs.GroupRuns.{around_runs-same, around_runs-same_while_turns_stand, around_runs-same_in_full, component_runs-same}
use Rattle.dom_engine.proofs.GroupRuns.{component_runs-same_while_turns_stand, component_runs-same_in_full, family_runs-same}
use Rattle.dom_engine.proofs.GroupRuns.{family_runs-same_while_turns_stand, family_runs-same_in_full, group_runs-same, group_runs-same_while_turns_stand}
use Rattle.dom_engine.proofs.GroupRuns.{group_runs-same_in_full}
use Rattle.dom_isolation.proofs.PageTexts.{same-page_in_full, same-page}

-- of members of groups: of lists of lines, and of runs
pub ruleset group_lists = (same-member, same-member_while_turns_stand, same-member_in_full)

pub ruleset group_laws = (group_lists, group_runs-same, group_runs-same_while_turns_stand, group_runs-same_in_full)

-- of families: of lists of lines, and of runs
pub ruleset family_lists = (same-family, same-family_while_turns_stand, same-family_in_full)

pub ruleset family_laws = (family_lists, family_runs-same, family_runs-same_while_turns_stand, family_runs-same_in_full)

-- of components: of lists of lines, and of runs
pub ruleset component_lists = (same-component, same-component_while_turns_stand, same-component_in_full)

pub ruleset component_laws = (component_lists, component_runs-same, component_runs-same_while_turns_stand, component_runs-same_in_full)

-- of all around a component: of lists of lines, and of runs
pub ruleset around_lists = (same-around, same-around_while_turns_stand, same-around_in_full)

pub ruleset around_laws = (around_lists, around_runs-same, around_runs-same_while_turns_stand, around_runs-same_in_full)

-- of the page: of texts,
pub ruleset page_laws = (same-page_in_full, same-page, page_text-same_in_full, page_text-same, page_text-agrees_in_full, page_text-agrees)

-- and of what a fault leaves
pub ruleset prefix_laws = (page-sees_lines_named_in_full, page-sees_lines_named, page-sees_prefix_in_full, page-sees_prefix)
