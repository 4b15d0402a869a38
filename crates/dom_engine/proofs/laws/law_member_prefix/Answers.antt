use Rattle.dom_engine.proofs.MemberRuns.{member_text-is_the_silent_runs, member-sees_lines_named, member-sees_prefix}
use Rattle.dom_engine.proofs.laws.law_member_prefix.Goals as goal

pub returns : goal.returns
returns c = record { text = member_text-is_the_silent_runs; lines = member-sees_lines_named; prefix = member-sees_prefix }
