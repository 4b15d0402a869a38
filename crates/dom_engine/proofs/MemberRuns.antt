-- What a member of a group sees of what a run writes is its output in the silent run: at the end of a run, and on each fault.
use Rattle.dom_base.proofs.Std.{◌≡◌, ℕ, Bool, IsTrue, List, map, Some, ap, ◌∙◌, ⊤}
use Rattle.dom_model.proofs.Model.{Owner, KeepsMakers, first_world, run_lines}
use Rattle.dom_text.specs.Definitions.{decode, lines_of, lines_from, text_of_lines, output_line, output_text}
use Rattle.dom_text.proofs.OutputLaws.{output_text-append}
use Rattle.dom_isolation.specs.Definitions.{IsWordOf, member_so_far}
use Rattle.dom_isolation.proofs.PlainLines.{decode-reads_plain_words}
use Rattle.dom_isolation.proofs.GroupTexts.{decode-reads_owners}
use Rattle.dom_isolation.proofs.GroupStates.{member_output-goes_on, member_lines-agree_so_far_in_full, member_lines-agree_in_full}
use Rattle.dom_streams.specs.Views.{viewed}
use Rattle.dom_engine.specs.GroupPrefixes.{member_text_so_far, member_text_to_end, MemberTextIsTheSilentRuns, MemberSeesLinesNamed, MemberSeesPrefix}
use Rattle.dom_engine.specs.Run.{answers, run_text}
use Rattle.dom_engine.proofs.PagePrefixes.{lines_of-ended}
use Rattle.dom_engine.proofs.OwnerPrefixes.{AreTold, lines-named, prefix-of}
use Rattle.dom_engine.proofs.GroupRuns.{run_text-lines}

module _ (g : Owner → Bool) (closed : KeepsMakers g) (member : Owner) (m : IsTrue (g member)) (t : IsWordOf member) where
  -- of a run that has come to its end
  member-text : (bytes : List ℕ) → run_text (Some member) bytes ≡ member_text_to_end g member (lines_of bytes)
  member-text bytes =
      run_text-lines member bytes
      ∙ ap text_of_lines (member_lines-agree_in_full decode decode-reads_owners decode-reads_plain_words g closed member m t bytes)

  -- of the answers to lines
  answers-member : (lines : List (List ℕ)) → viewed (Some member) (answers first_world lines) ≡ member_text_so_far g member lines
  unfolding answers
  answers-member lines =
      let outputs = (run_lines first_world (map decode lines)).1 in
      ap (λ (ls : List (List ℕ)). text_of_lines (lines_from member ls)) (lines_of-ended (map output_line outputs))
      ∙ ap text_of_lines (member_lines-agree_so_far_in_full decode decode-reads_owners decode-reads_plain_words g closed member m t lines)

  -- all lines pass
  member-told : AreTold member (member_text_so_far g member) (member_text_to_end g member) (λ lines. ⊤)
  member-told = record {
    answered = λ lines p. answers-member lines;
    ended = λ bytes p. member-text bytes;
    first = λ lines others p. p;
    goes_on = λ lines others. let on = member_output-goes_on decode g member lines others in
        (output_text on.0, ap output_text on.1 ∙ output_text-append (member_so_far decode g member lines) on.0);
  }

-- The laws: at the end of a run,
pub member_text-is_the_silent_runs : MemberTextIsTheSilentRuns
member_text-is_the_silent_runs g closed member m t bytes = member-text g closed member m t bytes

-- the lines named,
pub member-sees_lines_named : MemberSeesLinesNamed
member-sees_lines_named g closed member m t view from to old new e s p whole =
    lines-named (member-told g closed member m t) view from to old new e s p whole tt

-- and the prefix
pub member-sees_prefix : MemberSeesPrefix
member-sees_prefix g closed member m t view from to old new e s p more follows =
    prefix-of (member-told g closed member m t) view from to old new e s p tt more follows
