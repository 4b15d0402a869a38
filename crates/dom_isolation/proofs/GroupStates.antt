-- After every line a group has what the silent run has on its full trace so far; and more lines only add to that.
use Rattle.dom_base.proofs.Std.{◌≡◌, ℕ, List, ◌++◌, map, sym, ap, ◌∙◌, append_assoc, filter-append}
use Rattle.dom_model.proofs.Model.{Owner, Line, Output, Run, run_then, World, first_world, run_lines, group_run, outputs_for, is_of}
use Rattle.dom_model.proofs.Model.{owner_eq, owner_of_output, output_of}
use Rattle.dom_text.specs.Definitions.{output_line, lines_of}
use Rattle.dom_isolation.specs.Definitions.{full_trace_from, records_at_end, silent_step_under, silent_output_under, told_run, ending_any_under}
use Rattle.dom_isolation.specs.Definitions.{run_silent_under, GroupAgreesInFull, SameGroupSoFarInFull, GroupTraceGoesOn, MemberOutputGoesOn}
use Rattle.dom_isolation.specs.Definitions.{MemberLinesAgreeSoFarInFull, MemberLinesAgreeInFull, ReadsOwners, ReadsPlainWords}
use Rattle.dom_isolation.proofs.PageTexts.{run_each-append, full_trace-on}
use Rattle.dom_isolation.proofs.GroupSlots.{member-outputs}
use Rattle.dom_isolation.proofs.GroupTexts.{own_lines-have_their_prefix, own_lines-have_their_prefix_so_far}
use Rattle.dom_isolation.proofs.TouchedRuns.{pair-first, lines-full, group-sees_its_full_trace}

-- an owner's lines of two runs
pub outputs_for-append : (o : Owner) (xs ys : List Output) → outputs_for o (xs ++ ys) ≡ outputs_for o xs ++ outputs_for o ys
outputs_for-append o xs ys = filter-append (λ l. is_of (owner_eq o) (owner_of_output l)) xs ys

module _ {L : Type 0} (read : L → Line) where
  -- after every list of lines
  pub group-agrees_in_full : GroupAgreesInFull read
  group-agrees_in_full g closed ls = (lines-full g closed read ls first_world first_world (pair-first g)).shown

  -- two lists of lines
  pub same-group_so_far_in_full : SameGroupSoFarInFull read
  same-group_so_far_in_full g closed ls ms e =
      group-agrees_in_full g closed ls ∙ ap (λ items. group_run g (run_silent_under read g first_world items)) e ∙ sym (group-agrees_in_full g closed ms)

  -- more lines
  pub group_trace-goes_on : GroupTraceGoesOn read
  group_trace-goes_on g ls more =
      let on = full_trace-on read g ls more first_world in (
        on,
        ap (run_silent_under read g first_world) on
            ∙ run_each-append (silent_step_under g read) first_world (full_trace_from read g first_world ls)
            (full_trace_from read g (run_lines first_world (map read ls)).0 more),
      )

  -- what a member is told
  pub member_output-goes_on : MemberOutputGoesOn read
  member_output-goes_on g member ls more =
      let so_far = run_silent_under read g first_world (full_trace_from read g first_world ls) in
      let later = run_silent_under read g so_far.0 (full_trace_from read g (run_lines first_world (map read ls)).0 more) in
      let end : World → Run World = λ v. told_run (ending_any_under g (v, records_at_end read g (ls ++ more))) in (
        outputs_for member (later.1 ++ (end later.0).1),
        ap (λ (r : Run World). outputs_for member (run_then r end).1) (group_trace-goes_on g ls more).1
            ∙ ap (outputs_for member) (append_assoc so_far.1 later.1 (end later.0).1)
            ∙ outputs_for-append member so_far.1 (later.1 ++ (end later.0).1),
      )

module _ (read : List ℕ → Line) (owners : ReadsOwners read) (plain : ReadsPlainWords read) where
  -- of the text so far
  pub member_lines-agree_so_far_in_full : MemberLinesAgreeSoFarInFull read
  member_lines-agree_so_far_in_full g closed member m t lines =
      let all = (run_lines first_world (map read lines)).1 in
      own_lines-have_their_prefix_so_far read owners plain member t lines
      ∙ ap (map output_line) (sym (member-outputs g member m all)
      ∙ ap (λ (r : Run World). outputs_for member r.1) (group-agrees_in_full read g closed lines)
      ∙ member-outputs g member m (run_silent_under read g first_world (full_trace_from read g first_world lines)).1)

  -- of a text
  pub member_lines-agree_in_full : MemberLinesAgreeInFull read
  member_lines-agree_in_full g closed member m t bytes =
      let lines = lines_of bytes in
      own_lines-have_their_prefix read owners plain member t bytes
      ∙ ap (map output_line) (sym (member-outputs g member m (output_of read lines))
      ∙ ap (outputs_for member) (group-sees_its_full_trace read g closed lines)
      ∙ member-outputs g member m (silent_output_under g read (full_trace_from read g first_world lines) (records_at_end read g lines)))
