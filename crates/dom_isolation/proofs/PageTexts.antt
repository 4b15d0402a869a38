-- Whole scripts: the page's part and the page's output are the page machine's on the full trace; and where no component listener stops or cancels, on the
-- trace. Of texts: the page's lines of input and of output are those that begin with `p `, and the text of the output has the lines that were written.
use Rattle.dom_base.proofs.Std.{◌≡◌, ◌≢◌, ℕ, Bool, true, List, [], ◌∷◌, ◌++◌, map, flat_map, Option, Some, None, refl, sym, ap, ◌∙◌, true≢false, false, not}
use Rattle.dom_base.proofs.Std.{◌&&◌}
use Rattle.dom_base.proofs.Std.{append_assoc, option_to_list, cond-true, cond-false, false_from_ne_true, and_parts, AllByRecursion, flat_map-append}
use Rattle.dom_model.proofs.Model.{Owner, Page, Component, Command, Line, no_owner, no_command, command, is_command_of, step, first_world, run_lines}
use Rattle.dom_model.proofs.Model.{outputs_of, finish, Output, bad_owner, says, Run, run_then, run_each, PageState, page_outputs_of, first_page, page_of}
use Rattle.dom_model.proofs.Model.{step_page, run_page, page_finish, TraceItem, line, outward, is_page, is_of, owner_of_line, items_of, trace_from, outputs_for}
use Rattle.dom_model.proofs.Model.{outward_event, OutwardEvent, trace_of, line_may_stop, no_component_stops, no_component_stops_from, World, foreign_is_refused}
use Rattle.dom_model.proofs.Model.{PagePartAgrees, PageSeesItsTrace, SamePage}
use Rattle.dom_text.specs.Definitions.{lines_of, owner_prefix, begins_with, page_lines, text_of_lines, decode, output_line}
use Rattle.dom_text.proofs.TextLaws.{IsSaidBy, begins-says, says-begins}
use Rattle.dom_isolation.specs.Definitions.{ReadsPrefix, lines_in, OutputHasPageLines, PageViewIsItsOutput, TraceHasPageLines, PageLinesAgree}
use Rattle.dom_isolation.specs.Definitions.{PageLinesAgreeSoFar, PageTextAgrees, SamePageText, ForeignLineIsRefused, FullItem, line_with, outward_with}
use Rattle.dom_isolation.specs.Definitions.{turn_ended, plain_items, full_trace_of, full_items, full_trace_from, page_outputs_under, step_page_under}
use Rattle.dom_isolation.specs.Definitions.{run_page_under, full_lines_in, FullTraceHasPageLines, PageLinesAgreeInFull, PageLinesAgreeSoFarInFull}
use Rattle.dom_isolation.specs.Definitions.{PageTextAgreesInFull, SamePageTextInFull, PickedLinesAgreeInFull, PickedLinesAgreeSoFarInFull, PageRunAgreesInFull}
use Rattle.dom_isolation.specs.Definitions.{PageAgreesInFull, PageSeesItsFullTrace, SamePageInFull, FullTraceGoesOn, PageOutputGoesOnInFull, IsPlainLine}
use Rattle.dom_isolation.specs.Definitions.{HasPlainWords}
use Rattle.dom_isolation.specs.Definitions.{ReadsPlainWords, OutputHasItsLines, OutputHasItsLinesSoFar, PickedLinesAgree, PickedLinesAgreeSoFar, page_run}
use Rattle.dom_isolation.specs.Definitions.{PageRunAgrees, TraceGoesOn, PageOutputGoesOn, FirstLinesStopNothing}
use Rattle.dom_worlds.proofs.ListLemmas.{by_cases, all-from, all-map}
use Rattle.dom_worlds.proofs.WorldLemmas.{quiet-first, quiet-step}
use Rattle.dom_isolation.proofs.FullTraces.{full_trace-is_trace, trace-untouched, run-plain}
use Rattle.dom_isolation.proofs.PlainCommands.{plain-saying, plain-good}
use Rattle.dom_isolation.proofs.SaidRuns.{says-outputs, says-so_far, IsGood}
use Rattle.dom_isolation.proofs.PlainLines.{lines_of-output}
use Rattle.dom_worlds.specs.Definitions.{Invariant}
use Rattle.dom_isolation.proofs.PageSteps.{run_then-square}
use Rattle.dom_isolation.proofs.PageCommands.{ending_any-page}
use Rattle.dom_isolation.proofs.Lines.{line-items}

-- runs of lists in two parts
run_then-assoc : {S : Type 0} (r : Run S) (f g : S → Run S) → run_then (run_then r f) g ≡ run_then r (λ s. run_then (f s) g)
run_then-assoc r f g = ap (λ ls. ((g (f r.0).0).0, ls)) (append_assoc r.1 (f r.0).1 (g (f r.0).0).1)

-- a list in two parts
pub run_each-append : {S A : Type 0} (f : S → A → Run S) (s : S) (xs ys : List A) → run_each f s (xs ++ ys) ≡ run_then (run_each f s xs) (λ t. run_each f t ys)
run_each-append f s [] ys = refl
run_each-append f s (x ∷ xs) ys =
    ap (λ (r : Run _). (r.0, (f s x).1 ++ r.1)) (run_each-append f (f s x).0 xs ys) ∙ sym (run_then-assoc (f s x) (λ t. run_each f t xs) (λ t. run_each f t ys))

-- what a machine of the page writes for some items stands at the front of what it writes for these and more, with the ending
front-of : {A : Type 0} (f : PageState → A → Run PageState) (s : PageState) (xs ys : List A) →
    (rest : List Output) × ((run_then (run_each f s (xs ++ ys)) page_finish).1 ≡ (run_each f s xs).1 ++ rest)
front-of f s xs ys =
    let so_far = run_each f s xs in
    let more = run_each f so_far.0 ys in (
      more.1 ++ (page_finish more.0).1,
      ap (λ (r : Run PageState). (run_then r page_finish).1) (run_each-append f s xs ys) ∙ append_assoc so_far.1 more.1 (page_finish more.0).1,
    )

module _ {L : Type 0} (read : L → Line) where
  -- a world as the machine makes it is kept by all lines
  world-lines : (ls : List L) (w : World) → Invariant false w → Invariant false (run_lines w (map read ls)).0
  world-lines [] w q = q
  world-lines (l ∷ ls) w q = world-lines ls (step w (read l)).0 (quiet-step w (read l) q (λ y. absurd (true≢false (sym y))))

  -- lines from a world on, as the page sees them
  lines-page : (ls : List L) (w : World) → Invariant false w →
      page_run (run_lines w (map read ls)) ≡ run_page_under read (page_of w) (full_trace_from read is_page w ls)
  lines-page [] w q = refl
  lines-page (l ∷ ls) w q =
      let v = (step w (read l)).0 in
      let rest = full_trace_from read is_page v ls in
      let later = lines-page ls v (quiet-step w (read l) q (λ y. absurd (true≢false (sym y)))) in
      run_then-square (step w (read l)) (λ t. run_lines t (map read ls)) (λ s. run_page_under read s rest) later
      ∙ ap (λ (r : Run PageState). run_then r (λ s. run_page_under read s rest)) (line-items read w q l)
      ∙ sym (run_each-append (step_page_under read) (page_of w) (full_items read is_page w l) rest)

  -- lines from the first world on
  pub page_run-agrees_in_full : PageRunAgreesInFull read
  page_run-agrees_in_full ls = lines-page ls first_world quiet-first

  -- the page's part alone
  pub page-agrees_in_full : PageAgreesInFull read
  page-agrees_in_full ls = ap (λ (r : Run PageState). r.0) (page_run-agrees_in_full ls)

  -- the page's lines, with the end of input
  pub page-sees_its_full_trace : PageSeesItsFullTrace read
  page-sees_its_full_trace ls =
      ap (λ (r : Run PageState). r.1)
      (run_then-square (run_lines first_world (map read ls)) finish page_finish
      (ending_any-page (run_lines first_world (map read ls)).0 (world-lines ls first_world quiet-first))
      ∙ ap (λ (r : Run PageState). run_then r page_finish) (page_run-agrees_in_full ls))

  -- equal full traces
  pub same-page_in_full : SamePageInFull read
  same-page_in_full ls ms e = page-sees_its_full_trace ls ∙ ap (page_outputs_under read) e ∙ sym (page-sees_its_full_trace ms)

  -- lines and more lines, for any owners
  pub full_trace-on : (kept : Owner → Bool) (ls more : List L) (w : World) →
      full_trace_from read kept w (ls ++ more) ≡ full_trace_from read kept w ls ++ full_trace_from read kept (run_lines w (map read ls)).0 more
  full_trace-on kept [] more w = refl
  full_trace-on kept (l ∷ ls) more w =
      let v = (step w (read l)).0 in
      ap (λ items. full_items read kept w l ++ items) (full_trace-on kept ls more v)
      ∙ sym (append_assoc (full_items read kept w l) (full_trace_from read kept v ls) (full_trace_from read kept (run_lines v (map read ls)).0 more))

  -- of a script
  pub full_trace-goes_on : FullTraceGoesOn read
  full_trace-goes_on ls more =
      let rest = full_trace_from read is_page (run_lines first_world (map read ls)).0 more in
      let on = full_trace-on is_page ls more first_world in
      (on, ap (run_page_under read first_page) on ∙ run_each-append (step_page_under read) first_page (full_trace_of read ls) rest)

  -- what the page machine writes for the lines so far, and then for more of them and the ending
  pub page_output-goes_on_in_full : PageOutputGoesOnInFull read
  page_output-goes_on_in_full ls more =
      let rest = full_trace_from read is_page (run_lines first_world (map read ls)).0 more in
      let front = front-of (step_page_under read) first_page (full_trace_of read ls) rest in
      (front.0, ap (page_outputs_under read) (full_trace-on is_page ls more first_world) ∙ front.1)

  -- Where no component listener stops or cancels: the page machine on the full trace is that on the trace.
  pub told-nothing : (ls : List L) → no_component_stops read ls ≡ true →
      run_page_under read first_page (full_trace_of read ls) ≡ run_page read first_page (trace_of read ls)
  told-nothing ls h =
      run-plain read (full_trace_of read ls) first_page (trace-untouched read is_page refl ls first_world quiet-first h)
      ∙ ap (run_page read first_page) (full_trace-is_trace read is_page first_world ls)

  -- lines from the first world on
  pub page_run-agrees : PageRunAgrees read
  page_run-agrees ls h = page_run-agrees_in_full ls ∙ told-nothing ls h

  -- the page's part alone
  pub page_part-agrees : PagePartAgrees read
  page_part-agrees ls h = ap (λ (r : Run PageState). r.0) (page_run-agrees ls h)

  -- the page's lines, with the end of input
  pub page-sees_its_trace : PageSeesItsTrace read
  page-sees_its_trace ls h = page-sees_its_full_trace ls ∙ ap (λ (r : Run PageState). (run_then r page_finish).1) (told-nothing ls h)

  -- equal traces
  pub same-page : SamePage read
  same-page ls ms h g e = page-sees_its_trace ls h ∙ ap (page_outputs_of read) e ∙ sym (page-sees_its_trace ms g)

  -- lines and more lines
  trace-on : (ls more : List L) → trace_of read (ls ++ more) ≡ trace_of read ls ++ trace_from read is_page (run_lines first_world (map read ls)).0 more
  trace-on ls more =
      let v = (run_lines first_world (map read ls)).0 in
      let Plain = flat_map (plain_items {L = L}) in
      sym (full_trace-is_trace read is_page first_world (ls ++ more))
      ∙ ap Plain (full_trace-on is_page ls more first_world)
      ∙ flat_map-append plain_items (full_trace_of read ls) (full_trace_from read is_page v more)
      ∙ ap (λ items. items ++ Plain (full_trace_from read is_page v more)) (full_trace-is_trace read is_page first_world ls)
      ∙ ap (λ items. trace_of read ls ++ items) (full_trace-is_trace read is_page v more)

  -- of a script
  pub trace-goes_on : TraceGoesOn read
  trace-goes_on ls more =
      let rest = trace_from read is_page (run_lines first_world (map read ls)).0 more in
      (trace-on ls more, ap (run_page read first_page) (trace-on ls more) ∙ run_each-append (step_page read) first_page (trace_of read ls) rest)

  -- what the page machine writes for the lines so far, and then for more of them and the ending
  pub page_output-goes_on : PageOutputGoesOn read
  page_output-goes_on ls more =
      let rest = trace_from read is_page (run_lines first_world (map read ls)).0 more in
      let front = front-of (step_page read) first_page (trace_of read ls) rest in
      (front.0, ap (page_outputs_of read) (trace-on ls more) ∙ front.1)

  -- some first lines stop nothing where all lines stop nothing
  no_stops-first : (ls more : List L) (w : World) → no_component_stops_from read w (ls ++ more) ≡ true → no_component_stops_from read w ls ≡ true
  no_stops-first [] more w h = refl
  no_stops-first (l ∷ ls) more w h =
      let v = (step w (read l)).0 in
      let both = and_parts (not (line_may_stop w (read l))) (no_component_stops_from read v (ls ++ more)) h in
      ap (λ t. t && no_component_stops_from read v ls) both.0 ∙ no_stops-first ls more v both.1

  -- of a script
  pub first_lines-stop_nothing : FirstLinesStopNothing read
  first_lines-stop_nothing ls more h = no_stops-first ls more first_world h

-- a line is the page's just where it says something of the page
page-said : (l : Line) → is_of is_page (owner_of_line l) ≡ true → IsSaidBy Page l
page-said no_owner h = absurd (true≢false (sym h))
page-said (no_command Page) h = refl
page-said (no_command (Component k)) h = absurd (true≢false (sym h))
page-said (command Page c) h = refl
page-said (command (Component k) c) h = absurd (true≢false (sym h))

-- and the other way round
said-page : (l : Line) → IsSaidBy Page l → is_of is_page (owner_of_line l) ≡ true
said-page no_owner h = absurd h
said-page (no_command o) h = ap is_page h
said-page (command o c) h = ap is_page h

-- the protocol's reading
pub decode-reads_prefix : ReadsPrefix decode
decode-reads_prefix bytes =
    by_cases (begins_with (owner_prefix Page) bytes) (λ h. said-page (decode bytes) (begins-says bytes Page tt h) ∙ sym h)
    (λ h. false_from_ne_true (is_of is_page (owner_of_line (decode bytes)))
    (λ g. true≢false (sym (says-begins bytes Page (page-said (decode bytes) g)) ∙ h)) ∙ sym h)

-- The lines in a trace.
lines_in-append : {L : Type 0} (xs ys : List (TraceItem L)) → lines_in (xs ++ ys) ≡ lines_in xs ++ lines_in ys
lines_in-append [] ys = refl
lines_in-append (line l ∷ xs) ys = ap (λ ls. l ∷ ls) (lines_in-append xs ys)
lines_in-append (outward e ∷ xs) ys = lines_in-append xs ys

-- an outward event is no line
lines_in-outward : {L : Type 0} (o : Option OutwardEvent) → lines_in {L = L} (map outward (option_to_list o)) ≡ []
lines_in-outward None = refl
lines_in-outward (Some e) = refl

module _ (read : List ℕ → Line) where
  -- the lines in a trace from a world on
  lines_in-trace : ReadsPrefix read → (w : World) (ls : List (List ℕ)) → lines_in (trace_from read is_page w ls) ≡ page_lines ls
  lines_in-trace h w [] = refl
  lines_in-trace h w (l ∷ ls) =
      let kept = is_of is_page (owner_of_line (read l)) in
      let others = map outward (option_to_list (outward_event is_page w (read l))) in
      let rest = trace_from read is_page (step w (read l)).0 ls in
      let more = lines_in-trace h (step w (read l)).0 ls in
      let begins = begins_with (owner_prefix Page) l in
      lines_in-append (items_of read is_page w l) rest
      ∙ by_cases kept
      (λ e. ap (λ items. lines_in items ++ lines_in rest) (cond-true kept (line l ∷ []) others e) ∙ ap (λ xs. l ∷ xs) more ∙
      sym (cond-true begins (l ∷ page_lines ls) (page_lines ls) (sym (h l) ∙ e)))
      (λ e. ap (λ items. lines_in items ++ lines_in rest) (cond-false kept (line l ∷ []) others e) ∙
      ap (λ xs. xs ++ lines_in rest) (lines_in-outward (outward_event is_page w (read l))) ∙ more
      ∙ sym (cond-false begins (l ∷ page_lines ls) (page_lines ls) (sym (h l) ∙ e)))

  -- of a script
  pub trace-has_page_lines : ReadsPrefix read → TraceHasPageLines read
  trace-has_page_lines h lines = lines_in-trace h first_world lines

-- The page's lines of output.
page_lines-output : (o : Output) (os : List Output) → page_lines (map output_line os) ≡ map output_line (outputs_for Page os) →
    page_lines (map output_line (o ∷ os)) ≡ map output_line (outputs_for Page (o ∷ os))
page_lines-output bad_owner os h = h
page_lines-output (says Page s) os h = ap (λ ls. output_line (says Page s) ∷ ls) h
page_lines-output (says (Component k) s) os h = h

-- all lines of output
pub output-has_page_lines : OutputHasPageLines
output-has_page_lines [] = refl
output-has_page_lines (o ∷ os) = page_lines-output o os (output-has_page_lines os)

-- as text
pub page_view-is_its_output : PageViewIsItsOutput
page_view-is_its_output outputs = ap text_of_lines (output-has_page_lines outputs)

-- the lines in a full trace are those of the trace
lines-plain : {L : Type 0} (items : List (FullItem L)) → full_lines_in items ≡ lines_in (flat_map plain_items items)
lines-plain [] = refl
lines-plain (line_with l records ∷ items) = ap (λ ls. l ∷ ls) (lines-plain items)
lines-plain (outward_with e reached ∷ items) = lines-plain items
lines-plain (turn_ended records ∷ items) = lines-plain items

-- With interference.
module _ (read : List ℕ → Line) where
  -- the lines in a full trace
  pub full_trace-has_page_lines : ReadsPrefix read → FullTraceHasPageLines read
  full_trace-has_page_lines h lines =
      lines-plain (full_trace_of read lines) ∙ ap lines_in (full_trace-is_trace read is_page first_world lines) ∙ trace-has_page_lines read h lines

  -- the page's lines of a script's output
  pub page_lines-agree_in_full : PageLinesAgreeInFull read
  page_lines-agree_in_full lines =
      output-has_page_lines (outputs_of (map read lines)) ∙ ap (map output_line) (page-sees_its_full_trace read lines)

  -- of the lines so far
  pub page_lines-agree_so_far_in_full : PageLinesAgreeSoFarInFull read
  page_lines-agree_so_far_in_full lines =
      output-has_page_lines (run_lines first_world (map read lines)).1
      ∙ ap (λ (r : Run PageState). map output_line r.1) (page_run-agrees_in_full read lines)

  -- as text
  pub page_text-agrees_in_full : PageTextAgreesInFull read
  page_text-agrees_in_full bytes = ap text_of_lines (page_lines-agree_in_full (lines_of bytes))

  -- of two texts
  pub same-page_text_in_full : SamePageTextInFull read
  same-page_text_in_full first second e =
      page_text-agrees_in_full first ∙ ap (λ items. text_of_lines (map output_line (page_outputs_under read items))) e
      ∙ sym (page_text-agrees_in_full second)

-- Where no component listener stops or cancels.
module _ (read : List ℕ → Line) where
  -- the page's lines of a script's output
  pub page_lines-agree : PageLinesAgree read
  page_lines-agree lines h = output-has_page_lines (outputs_of (map read lines)) ∙ ap (map output_line) (page-sees_its_trace read lines h)

  -- of the lines so far
  pub page_lines-agree_so_far : PageLinesAgreeSoFar read
  page_lines-agree_so_far lines h =
      output-has_page_lines (run_lines first_world (map read lines)).1 ∙ ap (λ (r : Run PageState). map output_line r.1) (page_run-agrees read lines h)

  -- as text
  pub page_text-agrees : PageTextAgrees read
  page_text-agrees bytes h = ap text_of_lines (page_lines-agree (lines_of bytes) h)

  -- of two texts
  pub same-page_text : SamePageText read
  same-page_text first second h g e =
      page_text-agrees first h ∙ ap (λ items. text_of_lines (map output_line (page_outputs_of read items))) e ∙ sym (page_text-agrees second g)

-- Foreign names.
component-may_use : (o : Owner) (c : Command) → o ≢ Page → is_command_of o c ≡ true
component-may_use Page c off = absurd (off refl)
component-may_use (Component q) c off = refl

-- a line of bytes with such a command
pub foreign_line-is_refused : ForeignLineIsRefused
foreign_line-is_refused w bytes o c off e h =
    ap (step w) e ∙ foreign_is_refused w o c off (component-may_use o c off) h

module _ (read : List ℕ → Line) where
  -- what lines of bytes say has such words
  plain-lines : ReadsPlainWords read → (lines : List (List ℕ)) → AllByRecursion (IsGood IsPlainLine (λ o c. HasPlainWords c)) (map read lines)
  plain-lines h lines =
      all-map (IsGood IsPlainLine (λ o c. HasPlainWords c)) read lines
      (all-from (λ bytes. IsGood IsPlainLine (λ o c. HasPlainWords c) (read bytes)) (λ bytes. plain-good (read bytes) (h bytes)) lines)

  -- the lines of the text are those that were written
  pub output-has_its_lines : ReadsPlainWords read → OutputHasItsLines read
  output-has_its_lines h lines = lines_of-output (outputs_of (map read lines)) (says-outputs plain-saying (map read lines) (plain-lines h lines))

  -- of the lines so far
  pub output-has_its_lines_so_far : ReadsPlainWords read → OutputHasItsLinesSoFar read
  output-has_its_lines_so_far h lines =
      lines_of-output (run_lines first_world (map read lines)).1 (says-so_far plain-saying (map read lines) (plain-lines h lines))

  -- so those of the page are picked by their prefix, with interference
  pub picked_lines-agree_in_full : ReadsPlainWords read → PickedLinesAgreeInFull read
  picked_lines-agree_in_full h bytes =
      ap page_lines (output-has_its_lines h (lines_of bytes)) ∙ page_lines-agree_in_full read (lines_of bytes)

  -- of the lines so far
  pub picked_lines-agree_so_far_in_full : ReadsPlainWords read → PickedLinesAgreeSoFarInFull read
  picked_lines-agree_so_far_in_full h lines = ap page_lines (output-has_its_lines_so_far h lines) ∙ page_lines-agree_so_far_in_full read lines

  -- and where no component listener stops or cancels
  pub picked_lines-agree : ReadsPlainWords read → PickedLinesAgree read
  picked_lines-agree h bytes g = ap page_lines (output-has_its_lines h (lines_of bytes)) ∙ page_lines-agree read (lines_of bytes) g

  -- of the lines so far
  pub picked_lines-agree_so_far : ReadsPlainWords read → PickedLinesAgreeSoFar read
  picked_lines-agree_so_far h lines g = ap page_lines (output-has_its_lines_so_far h lines) ∙ page_lines-agree_so_far read lines g
