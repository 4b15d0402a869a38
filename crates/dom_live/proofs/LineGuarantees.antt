-- What the laws of live documents say of scripts of the line protocol.
use Rattle.dom_base.proofs.Std.{◌≡◌, Bool, true, List, [], ◌∷◌, ◌++◌, map, refl, sym, ap, ◌∙◌, true≢false, cond-true}
use Rattle.dom_base.proofs.Std.{cond-false, filter-append, and_parts, and-false, ℕ}
use Rattle.dom_model.proofs.Model.{Owner, Page, Component, World, Output, Line, no_owner, no_command, command, Run, quiet, step, finish}
use Rattle.dom_model.proofs.Model.{first_world, outputs_of, run_lines, group_outputs, is_page, is_of, owner_of_output, is_busy, is_command_of}
use Rattle.dom_model.proofs.Model.{is_page_turn, says, refused}
use Rattle.dom_model.proofs.Model.{Busy}
use Rattle.dom_worlds.proofs.ListLemmas.{by_cases, filter-map}
use Rattle.dom_live.specs.Lines.{LiveLine, LiveOutput, written, calls, loop_busy}
use Rattle.dom_live.specs.Documents.{at_rest, world_documents}
use Rattle.dom_live.specs.Machine.{live_run}
use Rattle.dom_live.specs.Groups.{is_own_output, own_outputs}
use Rattle.dom_live.specs.Laws.{SameOutput}
use Rattle.dom_live.specs.LineScripts.{is_kept_out, as_live_script, carried_out, carried_out_lines, carried_out_run, SameLines, SamePageLines}
use Rattle.dom_live.proofs.Scripts.{same-output}
use Rattle.dom_live.proofs.PageScripts.{page-machine}
use Rattle.dom_live.proofs.LineSquares.{kept-out_busy}
use Rattle.dom_live.proofs.LineRuns.{runs-translate, carried-world, carried-lines}

-- the lines of the line protocol among those of live documents
abbrev lines_written : List LiveOutput → List Output
lines_written [] = []
lines_written (written l ∷ ls) = l ∷ lines_written ls
lines_written (calls o w ∷ ls) = lines_written ls
lines_written (loop_busy ∷ ls) = lines_written ls

-- they are all that were written
written-back : (ls : List Output) → lines_written (map written ls) ≡ ls
written-back [] = refl
written-back (l ∷ ls) = ap (λ xs. l ∷ xs) (written-back ls)

module _ (read : List ℕ → LiveLine) (g : Owner → Bool) where
  -- what a group has of what stands for a script
  own-carried : (ls : List Line) (xs : List (List ℕ)) → map read xs ≡ as_live_script first_world ls →
      own_outputs g (live_run world_documents (at_rest first_world) (map read xs)).1 ≡ map written (group_outputs g (carried_out_run first_world ls).1)
  own-carried ls xs e =
      ap (λ ks. own_outputs g (live_run world_documents (at_rest first_world) ks).1) e
      ∙ ap (own_outputs g) (runs-translate ls).2
      ∙ filter-map (is_own_output g) written (carried_out_run first_world ls).1

  -- equal traces, equal answers
  pub same-lines : SameOutput read g → SameLines read g
  same-lines same ls ms xs ys e f t =
      sym (written-back (group_outputs g (carried_out_run first_world ls).1))
      ∙ ap lines_written (sym (own-carried ls xs e) ∙ same xs ys t ∙ own-carried ms ys f)
      ∙ written-back (group_outputs g (carried_out_run first_world ms).1)

-- what the page has of a line is what it has of it carried out
page-carried : (w : World) (l : Line) → group_outputs is_page (carried_out w l).1 ≡ group_outputs is_page (step w l).1
page-carried w no_owner = refl
page-carried w (no_command o) = refl
page-carried w (command o c) =
    by_cases (is_kept_out w (command o c))
    (λ h. ap (λ (r : Run World). group_outputs is_page r.1) (cond-true (is_kept_out w (command o c)) (quiet w) (step w (command o c)) h)
    ∙ sym (ap (λ (r : Run World). group_outputs is_page r.1) (kept-out_busy w o c h) ∙ not-page o (and_parts (is_command_of o c) (is_busy w o) h).1))
    (λ h. ap (λ (r : Run World). group_outputs is_page r.1) (cond-false (is_kept_out w (command o c)) (quiet w) (step w (command o c)) h))
  where
    not-page : (o : Owner) → is_busy w o ≡ true → group_outputs is_page (says o (refused Busy) ∷ []) ≡ []
    not-page Page b = absurd (true≢false (sym b ∙ and-false (is_page_turn w.turn)))
    not-page (Component k) b = refl

-- of lines
page-lines : (ls : List Line) (w : World) → group_outputs is_page (carried_out_lines w ls).1 ≡ group_outputs is_page (run_lines w ls).1
page-lines [] w = refl
page-lines (l ∷ ls) w =
    let page = group_outputs is_page in
    filter-append (λ x. is_of is_page (owner_of_output x)) (carried_out w l).1 (carried_out_lines (carried_out w l).0 ls).1
    ∙ ap (λ xs. xs ++ page (carried_out_lines (carried_out w l).0 ls).1) (page-carried w l)
    ∙ ap (λ u. page (step w l).1 ++ page (carried_out_lines u ls).1) (carried-world w l)
    ∙ ap (λ xs. page (step w l).1 ++ xs) (page-lines ls (step w l).0)
    ∙ sym (filter-append (λ x. is_of is_page (owner_of_output x)) (step w l).1 (run_lines (step w l).0 ls).1)

-- of a script
page-run : (ls : List Line) → group_outputs is_page (carried_out_run first_world ls).1 ≡ group_outputs is_page (outputs_of ls)
page-run ls =
    let page = group_outputs is_page in
    let m = carried_out_lines first_world ls in
    filter-append (λ x. is_of is_page (owner_of_output x)) m.1 (finish m.0).1
    ∙ ap (λ xs. xs ++ page (finish m.0).1) (page-lines ls first_world)
    ∙ ap (λ u. page (run_lines first_world ls).1 ++ page (finish u).1) (carried-lines ls first_world)
    ∙ sym (filter-append (λ x. is_of is_page (owner_of_output x)) (run_lines first_world ls).1 (finish (run_lines first_world ls).0).1)

-- the law for the page
pub same-page_lines : (read : List ℕ → LiveLine) → SamePageLines read
same-page_lines read ls ms xs ys e f t =
    sym (page-run ls) ∙ same-lines read is_page (same-output (page-machine read)) ls ms xs ys e f t ∙ page-run ms
