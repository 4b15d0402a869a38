-- Laws that functions of the crate state just as they are proved.
use Rattle.dom_model.proofs.Model.{foreign_is_refused}
use Rattle.dom_isolation.proofs.PageTexts.{foreign_line-is_refused, decode-reads_prefix, trace-has_page_lines, output-has_page_lines, page_view-is_its_output}
use Rattle.dom_isolation.proofs.PageTexts.{page_lines-agree, page_lines-agree_so_far, page_text-agrees, full_trace-has_page_lines, page_lines-agree_in_full}
use Rattle.dom_isolation.proofs.PageTexts.{page_lines-agree_so_far_in_full, page_text-agrees_in_full, same-page_text_in_full, same-page_text}
use Rattle.dom_isolation.proofs.PageTexts.{output-has_its_lines, output-has_its_lines_so_far, picked_lines-agree, picked_lines-agree_so_far}
use Rattle.dom_isolation.proofs.PageTexts.{picked_lines-agree_in_full, picked_lines-agree_so_far_in_full, page_run-agrees, trace-goes_on, page_part-agrees}
use Rattle.dom_isolation.proofs.PageTexts.{page-sees_its_trace, page_run-agrees_in_full, page-agrees_in_full, page-sees_its_full_trace, full_trace-goes_on}
use Rattle.dom_isolation.proofs.PageTexts.{page_output-goes_on_in_full, page_output-goes_on, first_lines-stop_nothing, same-page, same-page_in_full}
use Rattle.dom_isolation.proofs.Families.{page-host_is_page, family-host_is_page}
use Rattle.dom_isolation.proofs.TouchedRuns.{group-sees_its_full_trace, same-group_in_full}
use Rattle.dom_isolation.proofs.GroupStates.{group-agrees_in_full, same-group_so_far_in_full, group_trace-goes_on, member_output-goes_on}
use Rattle.dom_isolation.proofs.GroupStates.{member_lines-agree_so_far_in_full, member_lines-agree_in_full}
use Rattle.dom_isolation.proofs.StrategyRuns.{same-by_strategy, same-by_strategies, same-to_end_by_strategy, same-page_by_strategy}
use Rattle.dom_isolation.proofs.StrategyRuns.{plays-follow}
use Rattle.dom_isolation.proofs.GroupRuns.{group-sees_its_trace, same-group}
use Rattle.dom_isolation.proofs.GroupTexts.{same-component_while_turns_stand, same-component, same-component_text, same-component_text_while_turns_stand}
use Rattle.dom_isolation.proofs.GroupTexts.{same-family_text, same-family_text_while_turns_stand, decode-reads_owners, own_lines-have_their_prefix}
use Rattle.dom_isolation.proofs.GroupTexts.{same-group_text, same-group_text_while_turns_stand, same-member_while_turns_stand, same-member}
use Rattle.dom_isolation.proofs.GroupTexts.{same-member_in_full, same-family_in_full, same-component_in_full, same-around_in_full}
use Rattle.dom_isolation.proofs.GroupTexts.{same-family_while_turns_stand, same-family, same-around_while_turns_stand, same-around, same-around_text}
use Rattle.dom_isolation.proofs.GroupTexts.{same-around_text_while_turns_stand}
use Rattle.dom_isolation.proofs.PlainLines.{decode-reads_plain_words}

-- all of them
pub ruleset laws = (
  foreign_is_refused,
  foreign_line-is_refused,
  decode-reads_prefix,
  trace-has_page_lines,
  output-has_page_lines,
  page_view-is_its_output,
  page_lines-agree,
  page_lines-agree_so_far,
  page_text-agrees,
  full_trace-has_page_lines,
  page_lines-agree_in_full,
  page_lines-agree_so_far_in_full,
  page_text-agrees_in_full,
  same-page_text_in_full,
  same-page_text,
  page-host_is_page,
  family-host_is_page,
  group-sees_its_full_trace,
  group-sees_its_trace,
  same-component_while_turns_stand,
  same-component,
  same-component_text,
  same-component_text_while_turns_stand,
  same-family_text,
  same-family_text_while_turns_stand,
  decode-reads_owners,
  own_lines-have_their_prefix,
  same-group_text,
  same-group_text_while_turns_stand,
  decode-reads_plain_words,
  output-has_its_lines,
  output-has_its_lines_so_far,
  picked_lines-agree,
  picked_lines-agree_so_far,
  picked_lines-agree_in_full,
  picked_lines-agree_so_far_in_full,
  page_run-agrees,
  trace-goes_on,
  page_part-agrees,
  page-sees_its_trace,
  page_run-agrees_in_full,
  page-agrees_in_full,
  page-sees_its_full_trace,
  full_trace-goes_on,
  page_output-goes_on_in_full,
  page_output-goes_on,
  first_lines-stop_nothing,
  same-page,
  same-page_in_full,
)

-- of `same_group`
pub ruleset group_laws = (same-group, same-member_while_turns_stand, same-member, same-page)

-- of `same_group_in_full`
pub ruleset full_laws = (same-group_in_full, same-member_in_full, same-family_in_full, same-component_in_full, same-around_in_full)

-- of `same_family`
pub ruleset family_laws = (same-family_while_turns_stand, same-family)

-- of `same_around`
pub ruleset around_laws = (same-around_while_turns_stand, same-around)

-- of `same_around_text`
pub ruleset around_text_laws = (same-around_text, same-around_text_while_turns_stand)

-- of `same_by_strategy`
pub ruleset strategy_laws = (same-by_strategy, same-by_strategies, same-to_end_by_strategy, same-page_by_strategy, plays-follow)

-- of `group_agrees_in_full`
pub ruleset state_laws = (
  group-agrees_in_full,
  same-group_so_far_in_full,
  group_trace-goes_on,
  member_output-goes_on,
  member_lines-agree_so_far_in_full,
  member_lines-agree_in_full,
)
