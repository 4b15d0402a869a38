-- What proofs cite of this crate's definitions.
pub use Rattle.dom_isolation.specs.Agreement.{AgreeWhileTurnsStand, AgreeWithClosedTurns, SameMember, SameMemberWhileTurnsStand}
pub use Rattle.dom_isolation.specs.FullGroups.{GroupSeesItsFullTrace, last_records, records_at_end, SameAroundInFull, SameComponentInFull, SameFamilyInFull}
pub use Rattle.dom_isolation.specs.FullGroups.{SameGroupInFull, SameMemberInFull}
pub use Rattle.dom_isolation.specs.FullIsolation.{full_lines_in, FullTraceGoesOn, FullTraceHasPageLines, PageAgreesInFull, PageLinesAgreeInFull}
pub use Rattle.dom_isolation.specs.FullIsolation.{PageLinesAgreeSoFarInFull, PageOutputGoesOnInFull, PageRunAgreesInFull, PageSeesItsFullTrace}
pub use Rattle.dom_isolation.specs.FullIsolation.{PageTextAgreesInFull, PickedLinesAgreeInFull, PickedLinesAgreeSoFarInFull, SamePageInFull, SamePageTextInFull}
pub use Rattle.dom_isolation.specs.FullLaws.{FirstVisitIsOwn, InterferenceLeavesFirst, LastVisitIsOwn, InterferenceTakesLast}
pub use Rattle.dom_isolation.specs.FullLaws.{EndingsAreNotTold, FullTraceIsTrace, InterferenceIsEnough, InterferenceIsSmall, IsUntouched, LogsEvent}
pub use Rattle.dom_isolation.specs.FullLaws.{NothingTouches, OtherLineAgreesInFull, OthersOnlyLog, OwnIsThere, PageDispatchAgreesInFull, PageLineAgreesInFull}
pub use Rattle.dom_isolation.specs.GroupLaws.{AssignedAgree, DispatchAgrees, EndingAgrees, FinishAgrees, IsCalm, LineAgrees, OtherDispatchAgrees}
pub use Rattle.dom_isolation.specs.GroupLaws.{OutwardViewsAgree, SignalsAgree, StepAgrees, ViewsAgree}
pub use Rattle.dom_isolation.specs.GroupTexts.{DecodeReadsOwners, GiveTheSame, IsWordOf, OwnLinesHaveTheirPrefix, ReadsOwners, SameAroundText}
pub use Rattle.dom_isolation.specs.GroupTexts.{SameAroundTextInFull, SameAroundTextWhileTurnsStand, SameComponentText, SameComponentTextInFull}
pub use Rattle.dom_isolation.specs.GroupTexts.{SameComponentTextWhileTurnsStand, SameFamilyText, SameFamilyTextInFull, SameFamilyTextWhileTurnsStand}
pub use Rattle.dom_isolation.specs.GroupTexts.{SameGroupText, SameGroupTextInFull, SameGroupTextWhileTurnsStand, text_of}
pub use Rattle.dom_isolation.specs.Groups.{FamilyHostIsPage, FamilyIsGroup, MakersAreGroup, OthersAreGroup, PageHostIsPage, PageIsGroup}
pub use Rattle.dom_isolation.specs.Interference.{accepted_records, before_records, command_records, ending_records, first_record, FullItem, full_items}
pub use Rattle.dom_isolation.specs.Interference.{full_trace_from, full_trace_of, Interference, interference_at, interference_from, is_own_visit, line_with}
pub use Rattle.dom_isolation.specs.Interference.{one_more, others_items, outward_with, own_records, plain_items, records_each, slot_record, task_records}
pub use Rattle.dom_isolation.specs.Interference.{touched, turn_ended, untouched}
pub use Rattle.dom_isolation.specs.Laws.{ComponentDispatchAgrees, FirstLinesStopNothing, FoldSkipsComponents, is_page_line, is_page_visit, OtherLineAgrees}
pub use Rattle.dom_isolation.specs.Laws.{OutwardVisitsAgree, PageDispatchAgrees, page_dispatched, page_going, PageLineAgrees, PageOutputGoesOn, page_run}
pub use Rattle.dom_isolation.specs.Laws.{PageRunAgrees, PageVisitsAgree, TraceGoesOn, VisitIsUnseen}
pub use Rattle.dom_isolation.specs.SeenNodes.{nodes_of_value, nodes_of_change, IsNamed, own, in_sight, document, IsHeard, NamesNodes, NamesSeen}
pub use Rattle.dom_isolation.specs.SeenNodes.{LineNamesSeen, FinishNamesSeen, ScriptNamesSeen}
pub use Rattle.dom_isolation.specs.SilentRuns.{accepted_under, dispatch_under, ending_any_under, ending_other_under, ending_under, firing_under}
pub use Rattle.dom_isolation.specs.SilentRuns.{notifying_under, outward_under, run_command_under, running_under, silent_output_under, silent_step_under}
pub use Rattle.dom_isolation.specs.SilentRuns.{step_under, Told, told_run, untold}
pub use Rattle.dom_isolation.specs.QuietTypes.{may_stop_type, line_may_stop_type, HasEventIn, HasLineIn, HasTypeIn, others_log_from, others_log}
pub use Rattle.dom_isolation.specs.QuietTypes.{OthersLogAfter, NothingTouchesType, NothingTouchesSlots, OthersLogTypes, NothingTouchesTypes}
pub use Rattle.dom_isolation.specs.QuietTypes.{NothingTouchesPageTypes, PageSeesItsTypedTrace, SamePageByTypes}
pub use Rattle.dom_isolation.specs.GroupStates.{run_silent_under, GroupAgreesInFull, SameGroupSoFarInFull, GroupTraceGoesOn, MemberOutputGoesOn}
pub use Rattle.dom_isolation.specs.GroupStates.{member_so_far, member_to_end, MemberLinesAgreeSoFarInFull, MemberLinesAgreeInFull}
pub use Rattle.dom_isolation.specs.Strategies.{Heard, said, told, Strategy, item_with, without_line, heard_at, heard_from, heard_of, FollowsFrom, Follows}
pub use Rattle.dom_isolation.specs.Strategies.{others_do}
pub use Rattle.dom_isolation.specs.Strategies.{EachFollowsFrom, EachFollows, others_do_to, SameByStrategies}
pub use Rattle.dom_isolation.specs.Strategies.{SameByStrategy, SameToEndByStrategy, SamePageByStrategy, Moment, other, asked, played_from, IsOthers}
pub use Rattle.dom_isolation.specs.Strategies.{PlaysFollow}
pub use Rattle.dom_isolation.specs.Texts.{ForeignLineIsRefused, lines_in, OutputHasPageLines, PageLinesAgree, PageLinesAgreeSoFar, PageTextAgrees}
pub use Rattle.dom_isolation.specs.Texts.{PageViewIsItsOutput, ReadsPrefix, SamePageText, TraceHasPageLines}
pub use Rattle.dom_isolation.specs.TouchedMachines.{dispatched_under, first_visits, page_accepted_under, page_command_under, page_dispatch_under}
pub use Rattle.dom_isolation.specs.TouchedMachines.{page_line_under, page_outputs_under, page_outward_under, page_perform_under, run_page_under}
pub use Rattle.dom_isolation.specs.TouchedMachines.{step_page_under}
pub use Rattle.dom_isolation.specs.Words.{HasNoFeed, HasPlainWords, IsPlainLine, OutputHasItsLines, OutputHasItsLinesSoFar, PickedLinesAgree}
pub use Rattle.dom_isolation.specs.Words.{PickedLinesAgreeSoFar, ReadsPlainWords}
