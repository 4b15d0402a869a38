-- The theorem between components for the text of runs.
use Rattle.dom_base.proofs.Std.{◌≡◌, ℕ, List, map, Some, sym, ap, ◌∙◌}
use Rattle.dom_model.proofs.Model.{Owner, outputs_of}
use Rattle.dom_text.specs.Definitions.{decode, lines_of, lines_from, text_of_lines, output_line}
use Rattle.dom_isolation.proofs.PlainLines.{decode-reads_plain_words}
use Rattle.dom_isolation.specs.Definitions.{text_of, GiveTheSame}
use Rattle.dom_isolation.proofs.GroupTexts.{decode-reads_owners, same-group_text, same-group_text_while_turns_stand, same-family_text}
use Rattle.dom_isolation.proofs.GroupTexts.{same-family_text_while_turns_stand, same-component_text, same-component_text_while_turns_stand}
use Rattle.dom_isolation.proofs.GroupTexts.{same-around_text, same-around_text_while_turns_stand}
use Rattle.dom_isolation.proofs.GroupTexts.{same-group_text_in_full, same-family_text_in_full, same-component_text_in_full, same-around_text_in_full}
use Rattle.dom_engine.specs.GroupLaws.{SameGroupRuns, SameGroupRunsWhileTurnsStand, SameFamilyRuns, SameFamilyRunsWhileTurnsStand}
use Rattle.dom_engine.specs.GroupLaws.{SameComponentRuns, SameComponentRunsWhileTurnsStand, SameAroundRuns, SameAroundRunsWhileTurnsStand}
use Rattle.dom_engine.specs.GroupLaws.{SameGroupRunsInFull, SameFamilyRunsInFull, SameComponentRunsInFull, SameAroundRunsInFull}
use Rattle.dom_engine.specs.Run.{run_text, answers_to_end}
use Rattle.dom_engine.proofs.PagePrefixes.{lines_of-ended}

-- what a run writes with a view are the lines of its whole text that begin with the view's word
pub run_text-lines : (o : Owner) (bytes : List ℕ) → run_text (Some o) bytes ≡ text_of_lines (lines_from o (lines_of (text_of decode bytes)))
unfolding answers_to_end
run_text-lines o bytes =
    ap (λ (lines : List (List ℕ)). text_of_lines (lines_from o lines)) (lines_of-ended (map output_line (outputs_of (map decode (lines_of bytes)))))

-- so two inputs that give an owner the same have equal text of it
runs-same : (o : Owner) (first second : List ℕ) → GiveTheSame decode o first second → run_text (Some o) first ≡ run_text (Some o) second
runs-same o first second same = run_text-lines o first ∙ ap text_of_lines same ∙ sym (run_text-lines o second)

-- A group, while turns stand
pub group_runs-same_while_turns_stand : SameGroupRunsWhileTurnsStand
group_runs-same_while_turns_stand g closed member m t first second k =
    runs-same member first second
    (same-group_text_while_turns_stand decode decode-reads_owners decode-reads_plain_words g closed member m t first second k)

-- and with closed turns;
pub group_runs-same : SameGroupRuns
group_runs-same g closed member m t first second k =
    runs-same member first second (same-group_text decode decode-reads_owners decode-reads_plain_words g closed member m t first second k)

-- a family,
pub family_runs-same_while_turns_stand : SameFamilyRunsWhileTurnsStand
family_runs-same_while_turns_stand root member m t first second a b c d e =
    runs-same member first second
    (same-family_text_while_turns_stand decode decode-reads_owners decode-reads_plain_words root member m t first second a b c d e)

-- with closed turns;
pub family_runs-same : SameFamilyRuns
family_runs-same root member off m t first second a b c d e =
    runs-same member first second (same-family_text decode decode-reads_owners decode-reads_plain_words root member off m t first second a b c d e)

-- a component with its makers,
pub component_runs-same_while_turns_stand : SameComponentRunsWhileTurnsStand
component_runs-same_while_turns_stand c t first second k =
    runs-same c first second (same-component_text_while_turns_stand decode decode-reads_owners decode-reads_plain_words c t first second k)

-- with closed turns;
pub component_runs-same : SameComponentRuns
component_runs-same c t first second k =
    runs-same c first second (same-component_text decode decode-reads_owners decode-reads_plain_words c t first second k)

-- and around a component,
pub around_runs-same_while_turns_stand : SameAroundRunsWhileTurnsStand
around_runs-same_while_turns_stand c o off out t first second k =
    runs-same o first second (same-around_text_while_turns_stand decode decode-reads_owners decode-reads_plain_words c o off out t first second k)

-- with closed turns
pub around_runs-same : SameAroundRuns
around_runs-same c o off out t first second k =
    runs-same o first second (same-around_text decode decode-reads_owners decode-reads_plain_words c o off out t first second k)

-- Whatever others' listeners do: a group,
pub group_runs-same_in_full : SameGroupRunsInFull
group_runs-same_in_full g closed member m t first second k =
    runs-same member first second (same-group_text_in_full decode decode-reads_owners decode-reads_plain_words g closed member m t first second k)

-- a family,
pub family_runs-same_in_full : SameFamilyRunsInFull
family_runs-same_in_full root member m t first second k =
    runs-same member first second (same-family_text_in_full decode decode-reads_owners decode-reads_plain_words root member m t first second k)

-- a component with its makers,
pub component_runs-same_in_full : SameComponentRunsInFull
component_runs-same_in_full c t first second k =
    runs-same c first second (same-component_text_in_full decode decode-reads_owners decode-reads_plain_words c t first second k)

-- and around a component
pub around_runs-same_in_full : SameAroundRunsInFull
around_runs-same_in_full c o off out t first second k =
    runs-same o first second (same-around_text_in_full decode decode-reads_owners decode-reads_plain_words c o off out t first second k)
