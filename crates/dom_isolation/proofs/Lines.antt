-- One line, as the page sees it: a line of the page is the page machine's, another's is its outward event, each as far as others let it come; where no
-- component listener stops or cancels they do nothing to an event.
use Rattle.dom_base.proofs.Std.{◌≡◌, ℕ, Bool, true, false, List, [], ◌∷◌, ◌++◌, map, Option, Some, None, refl, sym, ap, ◌∙◌, true≢false, option_map}
use Rattle.dom_base.proofs.Std.{option_to_list, if◌then◌else◌, cond-true, cond-false}
use Rattle.dom_model.proofs.Model.{Page, Component, Syntax, Line, no_owner, no_command, command, Command, Run, quiet, run_then, refusing, run_each, World, Task}
use Rattle.dom_model.proofs.Model.{micro_task, notify_task, part_of, with_part, firing_slotchange, without_signals, notified, ending_other_turn, running_task}
use Rattle.dom_model.proofs.Model.{step, run_command, is_page, is_of, owner_of_line, outward_event, OutwardEvent, outward_dispatch, ends_other_turn}
use Rattle.dom_model.proofs.Model.{ends_group_turn, PageState, page_of, page_outward, named}
use Rattle.dom_isolation.specs.Definitions.{Interference, FullItem, line_with, outward_with, turn_ended, records_each, first_record, slot_record, task_records}
use Rattle.dom_isolation.specs.Definitions.{ending_records, before_records, own_records, others_items, full_items, untouched, page_line_under}
use Rattle.dom_isolation.specs.Definitions.{page_command_under, run_page_under, page_dispatch_under, page_run, PageDispatchAgrees, ComponentDispatchAgrees}
use Rattle.dom_isolation.specs.Definitions.{PageLineAgrees, OtherLineAgrees, EndingsAreNotTold, PageDispatchAgreesInFull, PageLineAgreesInFull}
use Rattle.dom_isolation.specs.Definitions.{OtherLineAgreesInFull}
use Rattle.dom_worlds.specs.Definitions.{Invariant, IsQuiet}
use Rattle.dom_worlds.proofs.ListLemmas.{by_cases}
use Rattle.dom_worlds.proofs.TurnLemmas.{at_end, quiet-running, quiet-at_end, quiet-ending_other, page_time}
use Rattle.dom_isolation.proofs.PageSteps.{run_then-square, dispatch-page}
use Rattle.dom_isolation.proofs.PageCommands.{ending_other-quiet, no_page_slots, command-page}
use Rattle.dom_isolation.proofs.ComponentCommands.{outward_run, run_then-quiet_end, command-component, dispatched-component}
use Rattle.dom_isolation.proofs.FullTraces.{first-nothing, nothing-at, own-nothing, line-plain}
use Rattle.dom_isolation.proofs.PagePaths.{views-page}

-- after a run that shows nothing comes what is shown
quiet_first : (r : Run World) (s : PageState) (f : World → Run World) (g : PageState → Run PageState) → page_run r ≡ quiet s →
    page_run (f r.0) ≡ g (page_of r.0) → page_run (run_then r f) ≡ g s
quiet_first r s f g a b = run_then-square r f g b ∙ ap (λ (x : Run PageState). run_then x g) a

module _ {only_log : Bool} where
  -- a line of the page
  pub line-page : (w : World) → Invariant only_log w → (l : Line) → is_of is_page (owner_of_line l) ≡ true →
      page_run (step w l) ≡ page_line_under (first_record (own_records is_page w l)) (page_of w) l
  line-page w q no_owner h = absurd (true≢false (sym h))
  line-page w q (no_command Page) h = quiet_first (ending_other_turn w Page) (page_of w) (refusing Page Syntax) (refusing Page Syntax)
      (ending_other-quiet w q Page) refl
  line-page w q (no_command (Component k)) h = absurd (true≢false (sym h))
  line-page w q (command Page c) h =
      let i = first_record (own_records is_page w (command Page c)) in
      quiet_first (ending_other_turn w Page) (page_of w) (run_command Page c) (λ s. page_command_under i s c) (ending_other-quiet w q Page)
      (command-page (ending_other_turn w Page).0 (quiet-ending_other w q Page) (page_time w) c)
  line-page w q (command (Component k) c) h = absurd (true≢false (sym h))

  -- a line of another owner
  pub line-other : (w : World) → Invariant only_log w → (l : Line) → is_of is_page (owner_of_line l) ≡ false →
      page_run (step w l) ≡ outward_run (first_record (own_records is_page w l)).reached (page_of w) (outward_event is_page w l)
  line-other w q no_owner h = refl
  line-other w q (no_command Page) h = absurd (true≢false h)
  line-other w q (no_command (Component k)) h =
      quiet_first (ending_other_turn w (Component k)) (page_of w) (refusing (Component k) Syntax) quiet (ending_other-quiet w q (Component k)) refl
  line-other w q (command Page c) h = absurd (true≢false h)
  line-other w q (command (Component k) c) h =
      let reached = (first_record (own_records is_page w (command (Component k) c))).reached in
      quiet_first (ending_other_turn w (Component k)) (page_of w) (run_command (Component k) c)
      (λ s. outward_run reached s (outward_event is_page w (command (Component k) c))) (ending_other-quiet w q (Component k))
      (command-component (ending_other_turn w (Component k)).0 k (quiet-ending_other w q (Component k)) c)

-- No task fires an event at a page node: the page has no slots.
module _ {only_log : Bool} where
  -- so nothing is told of a task,
  no-task : (w : World) → Invariant only_log w → (t : Task) → task_records is_page w t ≡ []
  no-task w q (micro_task o label) = refl
  no-task w q (notify_task Page) =
      let told = with_part (without_signals w Page) (notified (part_of w Page)) in
      ap (records_each firing_slotchange (slot_record is_page) told) (no_page_slots w q.world)
  no-task w q (notify_task (Component k)) = refl

  -- nor of all,
  no-tasks : (ts : List Task) (w : World) → Invariant only_log w → records_each running_task (task_records is_page) w ts ≡ []
  no-tasks [] w q = refl
  no-tasks (t ∷ ts) w q =
      let v = (running_task w t).0 in
      ap (λ records. records ++ records_each running_task (task_records is_page) v ts) (no-task w q t) ∙ no-tasks ts v (quiet-running w q t)

  -- nor of the ending of a turn,
  no-ending : (w : World) → Invariant only_log w → ending_records is_page w ≡ []
  no-ending w q = no-tasks w.tasks (at_end w) (quiet-at_end w q)

  -- nor of the one before a line.
  no-before : (w : World) → Invariant only_log w → (l : Line) → before_records is_page w l ≡ []
  no-before w q l =
      by_cases (ends_other_turn w l) (λ h. cond-true (ends_other_turn w l) (ending_records is_page w) [] h ∙ no-ending w q)
      (λ h. cond-false (ends_other_turn w l) (ending_records is_page w) [] h)

-- the law
pub endings-are_not_told : EndingsAreNotTold
endings-are_not_told w i = no-ending {only_log = false} w (record { world = i; logs = λ y. absurd (true≢false (sym y)) })

-- One line, by its items of the full trace.
module _ {L : Type 0} (read : L → Line) where
  -- an outward event as an item of the trace
  items-outward : (k : Option ℕ) (s : PageState) (o : Option OutwardEvent) →
      run_page_under read s (map (λ e. outward_with e k) (option_to_list o)) ≡ outward_run k s o
  items-outward k s None = refl
  items-outward k s (Some e) = refl

  -- the page machine does nothing where a turn is ended
  ended-nothing : (b : Bool) (records : List Interference) (s : PageState) (items : List (FullItem L)) →
      run_page_under read s ((if b then turn_ended records ∷ [] else []) ++ items) ≡ run_page_under read s items
  ended-nothing true records s items = refl
  ended-nothing false records s items = refl

  -- any line
  pub line-items : {only_log : Bool} (w : World) → Invariant only_log w → (l : L) →
      page_run (step w (read l)) ≡ run_page_under read (page_of w) (full_items read is_page w l)
  line-items w q l =
      let kept = is_of is_page (owner_of_line (read l)) in
      let own = own_records is_page w (read l) in
      let before = before_records is_page w (read l) in
      let mine = line_with l (before ++ own) ∷ [] in
      let others = others_items read is_page w l in
      by_cases kept
      (λ h. line-page w q (read l) h ∙ sym (run_then-quiet_end (page_line_under (first_record own) (page_of w) (read l)))
      ∙ ap (λ is. run_page_under read (page_of w) (line_with l (is ++ own) ∷ [])) (sym (no-before w q (read l)))
      ∙ sym (ap (run_page_under read (page_of w)) (cond-true kept mine others h)))
      (λ h. line-other w q (read l) h
      ∙ sym (items-outward (first_record own).reached (page_of w) (outward_event is_page w (read l)))
      ∙ sym (ended-nothing (ends_group_turn is_page w (read l)) before (page_of w)
      (map (λ e. outward_with e (first_record own).reached) (option_to_list (outward_event is_page w (read l)))))
      ∙ sym (ap (run_page_under read (page_of w)) (cond-false kept mine others h)))

-- One dispatch of the page, with interference and without.
pub page_dispatch-agrees_in_full : PageDispatchAgreesInFull
page_dispatch-agrees_in_full w i x related e h g = dispatch-page w x related e i.page x related (views-page i x related e.composed h g)

-- without
pub page_dispatch-agrees : PageDispatchAgrees
page_dispatch-agrees w q x related e h g =
    page_dispatch-agrees_in_full w q.world x related e h g
    ∙ ap (λ i. page_dispatch_under i (page_of w) x related e) (nothing-at is_page refl w q x related e)

-- an outward event that others let come to all visits
outward-plain : (s : PageState) (o : Option OutwardEvent) → outward_run None s o ≡ run_each page_outward s (option_to_list o)
outward-plain s None = refl
outward-plain s (Some e) = refl

-- One of a component.
pub component_dispatch-agrees : ComponentDispatchAgrees
component_dispatch-agrees w Page off q x e related h = absurd (off refl)
component_dispatch-agrees w (Component k) off q x e related h =
    let c = Command.dispatch x e related in
    let p = part_of w (Component k) in
    let event = outward_dispatch is_page w (Component k) c in
    dispatched-component k q.world x e related h
    ∙ ap (λ (i : Interference). outward_run i.reached (page_of w) event)
    (nothing-at is_page refl w q (named p x) (option_map (named p) related) e)
    ∙ outward-plain (page_of w) event

-- what is told of a line
told-nothing : (w : World) → IsQuiet w → (l : Line) → first_record (own_records is_page w l) ≡ untouched
told-nothing w q l = first-nothing (own_records is_page w l) (own-nothing is_page refl w q l)

-- One line of the page, with interference and without.
pub page_line-agrees_in_full : PageLineAgreesInFull
page_line-agrees_in_full w i l h = line-page {only_log = false} w (record { world = i; logs = λ y. absurd (true≢false (sym y)) }) l h

-- without
pub page_line-agrees : PageLineAgrees
page_line-agrees w q l h =
    page_line-agrees_in_full w q.world l h ∙ ap (λ i. page_line_under i (page_of w) l) (told-nothing w q l) ∙ line-plain (page_of w) l

-- one of another owner, or of none
pub other_line-agrees_in_full : OtherLineAgreesInFull
other_line-agrees_in_full w i l h = line-other {only_log = false} w (record { world = i; logs = λ y. absurd (true≢false (sym y)) }) l h

-- without
pub other_line-agrees : OtherLineAgrees
other_line-agrees w q l h =
    let event = outward_event is_page w l in
    other_line-agrees_in_full w q.world l h
    ∙ ap (λ (i : Interference). outward_run i.reached (page_of w) event) (told-nothing w q l) ∙ outward-plain (page_of w) event
