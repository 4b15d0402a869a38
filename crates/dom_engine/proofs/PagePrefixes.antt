-- The isolation theorem for the text of runs: what the page sees where a run comes to its end, and where a fault stops it.
use Rattle.dom_base.proofs.Std.{◌≡◌, ℕ, List, ◌++◌, map, Option, None, Some, IfSome, IsTrue, refl, sym, ap}
use Rattle.dom_base.proofs.Std.{◌∙◌, append-nil, ⊤, Consumes-whole}
use Rattle.dom_model.proofs.Model.{Owner, Page, Component, first_world, run_lines, outputs_of, first_page, PageState, run_page, page_finish, page_outputs_of}
use Rattle.dom_model.proofs.Model.{Run, run_then, trace_of, no_component_stops}
use Rattle.dom_text.specs.Definitions.{cut_of, last_line, lines_of, page_lines, text_of_lines, output_line, output_text, decode}
use Rattle.dom_text.proofs.LineLaws.{lines_of-cut}
use Rattle.dom_text.proofs.OutputLaws.{output_text-append}
use Rattle.dom_isolation.specs.Definitions.{full_trace_of, run_page_under, page_outputs_under}
use Rattle.dom_isolation.proofs.PageTexts.{page_output-goes_on_in_full, page_output-goes_on, first_lines-stop_nothing, told-nothing}
use Rattle.dom_isolation.proofs.PageTexts.{picked_lines-agree_so_far_in_full, picked_lines-agree_in_full}
use Rattle.dom_isolation.proofs.PlainLines.{decode-reads_plain_words}
use Rattle.dom_streams.specs.Writing.{Taken}
use Rattle.dom_engine.specs.Run.{answers, answers_to_end, RunsToEnd}
use Rattle.dom_streams.specs.Views.{viewed}
use Rattle.dom_engine.specs.PageLaws.{page_text_so_far, page_text_to_end, page_text, HasPage, page_seen, PageSees, PageSeesFront, PageSeesLinesNamed}
use Rattle.dom_engine.specs.PageLaws.{PageSeesPrefix, full_page_text_so_far, full_page_text_to_end}
use Rattle.dom_engine.specs.PageLaws.{full_page_text, PageSeesLinesNamedInFull, PageSeesPrefixInFull, PageTextIsThePageMachinesInFull, SamePageTextInFull}
use Rattle.dom_engine.specs.PageLaws.{PageTextIsThePageMachines, SamePageText}
use Rattle.dom_engine.specs.GroupPrefixes.{HasView, seen_by, OwnerSees, OwnerSeesFront}
use Rattle.dom_engine.proofs.LineRuns.{text-ended}
use Rattle.dom_engine.proofs.OwnerPrefixes.{AreTold, at-end, lines-named, prefix-of}

-- a text of lines is these lines, and no more
pub lines_of-ended : (lines : List (List ℕ)) → (cut_of (text_of_lines lines)).finished ≡ lines_of (text_of_lines lines)
lines_of-ended lines =
    let cut = cut_of (text_of_lines lines) in
    sym (append-nil cut.finished) ∙ ap (λ (rest : List ℕ). cut.finished ++ last_line rest) (sym (text-ended lines)) ∙ sym (lines_of-cut (text_of_lines lines))

-- with interference
pub page_text-agrees_in_full : PageTextIsThePageMachinesInFull
unfolding answers_to_end
page_text-agrees_in_full bytes =
    let outputs = outputs_of (map decode (lines_of bytes)) in
    ap (λ (lines : List (List ℕ)). text_of_lines (page_lines lines)) (lines_of-ended (map output_line outputs)) ∙
    ap text_of_lines (picked_lines-agree_in_full decode decode-reads_plain_words bytes)

-- two texts
pub page_text-same_in_full : SamePageTextInFull
page_text-same_in_full first second e =
    page_text-agrees_in_full first ∙ ap (λ items. output_text (page_outputs_under decode items)) e ∙ sym (page_text-agrees_in_full second)

-- where no component listener stops or cancels
pub page_text-agrees : PageTextIsThePageMachines
page_text-agrees bytes h =
    page_text-agrees_in_full bytes ∙ ap (λ (r : Run PageState). output_text (run_then r page_finish).1) (told-nothing decode (lines_of bytes) h)

-- two texts
pub page_text-same : SamePageText
page_text-same first second h g e = page_text-agrees first h ∙ ap (λ items. output_text (page_outputs_of decode items)) e ∙ sym (page_text-agrees second g)

-- ---- what the page sees

-- is what its owner sees
view-page : (view : Option Owner) → HasPage view → HasView Page view
view-page None p = tt
view-page (Some Page) p = refl
view-page (Some (Component k)) p = absurd p

-- of what is written
seen-page : (view : Option Owner) (text : List ℕ) → page_seen view text ≡ seen_by Page view text
seen-page None text = refl
seen-page (Some o) text = refl

-- all of it
sees-page : {view : Option Owner} {old new : Taken} {text : List ℕ} → OwnerSees Page view old new text → PageSees view old new text
sees-page {view} s = record { written = s.written; takes = s.takes; seen = seen-page view s.written ∙ s.seen }

-- or some first bytes
front-page : {view : Option Owner} {old new : Taken} {text : List ℕ} → OwnerSeesFront Page view old new text → PageSeesFront view old new text
front-page {view} s =
    record { written = s.written; takes = s.takes; back = s.back; split = s.split ∙ ap (λ (x : List ℕ). x ++ s.back) (sym (seen-page view s.written)) }

-- of the answers to lines
answers-page : (lines : List (List ℕ)) → viewed (Some Page) (answers first_world lines) ≡ full_page_text_so_far lines
unfolding answers
answers-page lines =
    let outputs = (run_lines first_world (map decode lines)).1 in
    ap (λ (ls : List (List ℕ)). text_of_lines (page_lines ls)) (lines_of-ended (map output_line outputs)) ∙
    ap text_of_lines (picked_lines-agree_so_far_in_full decode decode-reads_plain_words lines)

-- with interference every line passes
page-in_full : AreTold Page full_page_text_so_far full_page_text_to_end (λ lines. ⊤)
page-in_full = record {
  answered = λ lines p. answers-page lines;
  ended = λ bytes p. page_text-agrees_in_full bytes;
  first = λ lines others p. p;
  goes_on = λ lines others. let on = page_output-goes_on_in_full decode lines others in
      (output_text on.0, ap output_text on.1 ∙ output_text-append (run_page_under decode first_page (full_trace_of decode lines)).1 on.0);
}

-- without it lines pass in which no component listener stops or cancels
page-in_quiet : AreTold Page page_text_so_far page_text_to_end (λ lines. IsTrue (no_component_stops decode lines))
page-in_quiet = record {
  answered = λ lines p. answers-page lines ∙ ap (λ (r : Run PageState). output_text r.1) (told-nothing decode lines p);
  ended = λ bytes p. page_text-agrees bytes p;
  first = λ lines others p. first_lines-stop_nothing decode lines others p;
  goes_on = λ lines others. let on = page_output-goes_on decode lines others in
      (output_text on.0, ap output_text on.1 ∙ output_text-append (run_page decode first_page (trace_of decode lines)).1 on.0);
}

-- The end of a run, with interference and without.
pub page-at_end_in_full : {view : Option Owner} {from to : Option (List ℕ)} {old new : Taken} → RunsToEnd view from to old new
    → IfSome from (λ bytes. HasPage view → PageSees view old new (full_page_text bytes))
page-at_end_in_full {view = view} {from = from} {to = to} {old = old} {new = new} r =
    Consumes-whole from to r.given (λ bytes. HasPage view → PageSees view old new (full_page_text bytes)) r.consumed r.at_end
    (λ p. sees-page (at-end page-in_full r (view-page view p) tt))

-- without
pub page-at_end : {view : Option Owner} {from to : Option (List ℕ)} {old new : Taken} → RunsToEnd view from to old new
    → IfSome from (λ bytes. HasPage view → IsTrue (no_component_stops decode (lines_of bytes)) → PageSees view old new (page_text bytes))
page-at_end {view = view} {from = from} {to = to} {old = old} {new = new} r =
    Consumes-whole from to r.given (λ bytes. HasPage view → IsTrue (no_component_stops decode (lines_of bytes)) →
    PageSees view old new (page_text bytes)) r.consumed r.at_end (λ p h. sees-page (at-end page-in_quiet r (view-page view p) h))

-- The lines named, with interference and without.
pub page-sees_lines_named_in_full : PageSeesLinesNamedInFull
page-sees_lines_named_in_full view from to old new e s p whole =
    sees-page (lines-named page-in_full view from to old new e s (view-page view p) whole tt)

-- without
pub page-sees_lines_named : PageSeesLinesNamed
page-sees_lines_named view from to old new e s p whole h = sees-page (lines-named page-in_quiet view from to old new e s (view-page view p) whole h)

-- The prefix, with interference and without.
pub page-sees_prefix_in_full : PageSeesPrefixInFull
page-sees_prefix_in_full view from to old new e s p more follows =
    front-page (prefix-of page-in_full view from to old new e s (view-page view p) tt more follows)

-- without
pub page-sees_prefix : PageSeesPrefix
page-sees_prefix view from to old new e s p h more follows =
    front-page (prefix-of page-in_quiet view from to old new e s (view-page view p) h more follows)
