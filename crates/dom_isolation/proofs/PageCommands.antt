-- Endings of turns and commands of the page do to the page's part what they do in the page machine; the endings of other turns are unseen.
use Rattle.dom_base.proofs.Std.{◌≡◌, Bool, true, false, not, List, [], ◌∷◌, ◌++◌, length, map, Option, Some, None, option_map, unwrap_or, refl, sym, ap}
use Rattle.dom_base.proofs.Std.{◌∙◌, true≢false, subst, filter, ◌≢◌, append-nil, is_none, option_to_list, if◌then◌else◌, is_some, AllByRecursion}
use Rattle.dom_base.proofs.Std.{last_or, option_or, option_map_or, filter-append, cond-true, cond-false, and-false}
use Rattle.dom_model.proofs.Model.{Page, Component, NodeName, Shadow, Refusal, Syntax, Busy, Foreign, Unknown, last_of, ComponentName, owner_eq, node_in}
use Rattle.dom_model.proofs.Model.{is_document, root_of, kind_of, Command, NodeWord, EventWords, is_command_of, part_refusal, names_foreign, effect, says}
use Rattle.dom_model.proofs.Model.{nothing, a_component, a_truth, Part, run_then, answering, unless_refused, Run, quiet, run_each, first_refusal, named, Effect}
use Rattle.dom_model.proofs.Model.{tables, changes, World, micro_task, part_of, with_part, is_there, kind_at, ancestors_at, is_connected, component_made, Task}
use Rattle.dom_model.proofs.Model.{notify_task, Dispatched, dispatch_in, ending_turn, opening_turn, is_page_turn, firing_slotchange, is_owned_by}
use Rattle.dom_model.proofs.Model.{without_signals, notified, running_task, is_other_component, has_other_turn, ending_other_turn, ending_any_turn}
use Rattle.dom_model.proofs.Model.{notified_lines, notifying, refusal, is_busy, effect_in, attaching, part_with_root, perform, accepted, run_command, is_page}
use Rattle.dom_model.proofs.Model.{outputs_for, owner_of_output, is_of, PageState, page_of, is_page_task, page_refusal, page_effect, page_attaching, page_task}
use Rattle.dom_model.proofs.Model.{page_turn_end, page_finish, part_of-with_part, part_of-with_part-other, owner-part_of, component_made-no_page, ne-owner_eq}
use Rattle.dom_model.proofs.Model.{Owner, Component-IsNoPage}
use Rattle.dom_isolation.specs.Definitions.{Interference, first_record, accepted_records, command_records, page_perform_under, page_accepted_under}
use Rattle.dom_isolation.specs.Definitions.{page_command_under, page_run}
use Rattle.dom_worlds.specs.Definitions.{Invariant, IsWorld, IsOf, IsForeignTo}
use Rattle.dom_isolation.proofs.PageSteps.{run_then-square, outputs_for_page-says, page_of-world_after, run_then-quiet, page_run-unseen}
use Rattle.dom_worlds.proofs.ShadowTreeLemmas.{ancestors-owned}
use Rattle.dom_worlds.proofs.TurnLemmas.{IsPageTime, opening-page, quiet-opening, told_in, quiet-running, at_end, quiet-at_end}
use Rattle.dom_worlds.proofs.CommandLemmas.{KeepsBase, base-effect}
use Rattle.dom_worlds.proofs.OwnerLemmas.{owner-named}
use Rattle.dom_worlds.proofs.ListLemmas.{by_cases, all-then, filter_all, filter_none}
use Rattle.dom_isolation.proofs.PagePaths.{shadow_including-page, views-page}
use Rattle.dom_isolation.proofs.PageSteps.{done_to, dispatch-page}
use Rattle.dom_isolation.proofs.Families.{page-is_group}
use Rattle.dom_isolation.proofs.GroupTurns.{IsLineOf, lines-notified, notifying-out}

-- a run and then another that both show nothing
pub quiet_then : (r : Run World) (s : PageState) (f : World → Run World) → page_run r ≡ quiet s → page_run (f r.0) ≡ quiet (page_of r.0) →
    page_run (run_then r f) ≡ quiet s
quiet_then r s f a b = run_then-quiet r f b ∙ ap (λ (x : Run PageState). run_then x quiet) a

-- the page sees those of the page
page-notified_lines : (p : Part) → p.owner ≡ Page → outputs_for Page (notified_lines p) ≡ notified_lines p
page-notified_lines p h =
    filter_all (λ l. is_of (owner_eq Page) (owner_of_output l)) (notified_lines p)
    (all-then (IsLineOf p.owner) (λ l. is_of (owner_eq Page) (owner_of_output l) ≡ true) (λ l e. ap (is_of (owner_eq Page)) (e ∙ ap Some h))
    (notified_lines p) (lines-notified p))

-- a component's notification shows nothing
pub notifying-other : {only_log : Bool} (w : World) (o : Owner) → o ≢ Page → Invariant only_log w → page_run (notifying w o) ≡ quiet (page_of w)
notifying-other w o f q = page_run-unseen (notifying w o) w (notifying-out is_page page-is_group w q o (ne-owner_eq o Page f))

-- the page has no signalled slots
pub no_page_slots : (w : World) → IsWorld w → filter (is_owned_by Page) w.signalled ≡ []
no_page_slots w i = filter_none (is_owned_by Page) w.signalled
    (all-then (IsForeignTo Page) (λ s. is_owned_by Page s ≡ false) (λ s f. ne-owner_eq s.owner Page f) w.signalled i.signalled)

-- the page's notification is the page machine's
notifying-page : {only_log : Bool} (w : World) → Invariant only_log w → page_run (notifying w Page) ≡ page_task (page_of w) (notify_task Page)
notifying-page w q =
    let p = part_of w Page in
    let told : Run World = (told_in w Page, notified_lines p) in
    ap (λ ss. page_run (run_then told (λ v. run_each firing_slotchange v ss))) (no_page_slots w q.world)
    ∙ ap (λ ls. (page_of (told_in w Page), outputs_for Page ls)) (append-nil (notified_lines p))
    ∙ ap (λ ls. (page_of (told_in w Page), ls)) (page-notified_lines p (owner-part_of w Page))
    ∙ ap (λ q. (record (page_of w) { part = q }, notified_lines p)) (part_of-with_part (without_signals w Page) (notified p) Page (owner-part_of w Page))

-- A task.
running-page : {only_log : Bool} (w : World) → Invariant only_log w → (t : Task) → is_page_task t ≡ true →
    page_run (running_task w t) ≡ page_task (page_of w) t
running-page w q (micro_task Page label) h = refl
running-page w q (micro_task (Component k) label) h = absurd (true≢false (sym h))
running-page w q (notify_task Page) h = notifying-page w q
running-page w q (notify_task (Component k)) h = absurd (true≢false (sym h))

-- a component's task shows nothing
running-other : {only_log : Bool} (w : World) → Invariant only_log w → (t : Task) → is_page_task t ≡ false → page_run (running_task w t) ≡ quiet (page_of w)
running-other w q (micro_task Page label) h = absurd (true≢false h)
running-other w q (micro_task (Component k) label) h = refl
running-other w q (notify_task Page) h = absurd (true≢false h)
running-other w q (notify_task (Component k)) h = notifying-other w (Component k) (Component-IsNoPage k) q

-- The tasks of a turn, in their order.
running-all : {only_log : Bool} (ts : List Task) (w : World) → Invariant only_log w →
    page_run (run_each running_task w ts) ≡ run_each page_task (page_of w) (filter is_page_task ts)
running-all [] w q = refl
running-all (t ∷ ts) w q =
    let v = (running_task w t).0 in
    let later = running-all ts v (quiet-running w q t) in
    let all = run_then-square (running_task w t) (λ v. run_each running_task v ts) (λ s. run_each page_task s (filter is_page_task ts)) later in
    by_cases (is_page_task t)
    (λ h. all ∙ ap (λ r. run_then r (λ s. run_each page_task s (filter is_page_task ts))) (running-page w q t h) ∙
    ap (run_each page_task (page_of w)) (sym (cond-true (is_page_task t) (t ∷ filter is_page_task ts) (filter is_page_task ts) h)))
    (λ h. all ∙ ap (λ r. run_then r (λ s. run_each page_task s (filter is_page_task ts))) (running-other w q t h) ∙
    ap (run_each page_task (page_of w)) (sym (cond-false (is_page_task t) (t ∷ filter is_page_task ts) (filter is_page_task ts) h)))

-- the ending, as the page sees it
pub ending_turn-page : {only_log : Bool} (w : World) → Invariant only_log w → page_run (ending_turn w) ≡ page_turn_end (page_of w)
ending_turn-page w q = running-all w.tasks (at_end w) (quiet-at_end w q)

-- An ending of a component's turn shows nothing.
pub ending-component : {only_log : Bool} (w : World) → Invariant only_log w → is_page_turn w.turn ≡ false → page_run (ending_turn w) ≡ quiet (page_of w)
ending-component w q h =
    ending_turn-page w q ∙ ap (λ ts. run_each page_task (record { part = part_of w Page; tasks = []; is_open = false }) ts) (q.world.tasks h)
    ∙ ap (λ ts. quiet (record { part = part_of w Page; tasks = ts; is_open = false })) (sym (q.world.tasks h))
    ∙ ap (λ b. quiet (record { part = part_of w Page; tasks = filter is_page_task w.tasks; is_open = b })) (sym h)

-- another component's turn is not the page's
other-no_page : (w : World) (o : Owner) → has_other_turn w o ≡ true → is_page_turn w.turn ≡ false
other-no_page w o h = from w.turn h
  where
    from : (t : Option Owner) → option_map_or (is_other_component o) t false ≡ true → is_page_turn t ≡ false
    from None h = refl
    from (Some Page) h = absurd (true≢false (sym h))
    from (Some (Component k)) h = refl

-- before a line it shows nothing
pub ending_other-quiet : {only_log : Bool} (w : World) → Invariant only_log w → (o : Owner) → page_run (ending_other_turn w o) ≡ quiet (page_of w)
ending_other-quiet w q o =
    by_cases (has_other_turn w o)
    (λ h. ap page_run (cond-true (has_other_turn w o) (ending_turn w) (quiet w) h) ∙ ending-component w q (other-no_page w o h))
    (λ h. ap page_run (cond-false (has_other_turn w o) (ending_turn w) (quiet w) h))

-- a component's turn, as the page sees it
pub opening-component : (w : World) (k : ComponentName) → is_page_turn w.turn ≡ false → page_of (opening_turn w (Component k)) ≡ page_of w
opening-component w k h =
    by_cases (is_some w.turn) (λ e. ap page_of (cond-true (is_some w.turn) w (record w { turn = Some (Component k) }) e))
    (λ e. ap page_of (cond-false (is_some w.turn) w (record w { turn = Some (Component k) }) e) ∙ ap (λ b. record (page_of w) { is_open = b }) (sym h))

-- The end of input.
pub ending_any-page : {only_log : Bool} (w : World) → Invariant only_log w → page_run (ending_any_turn w) ≡ page_finish (page_of w)
ending_any-page w q = from w.turn refl
  where
    from : (t : Option Owner) → w.turn ≡ t →
        page_run (if is_some w.turn then ending_turn w else quiet w) ≡ (if is_page_turn w.turn then page_turn_end (page_of w) else quiet (page_of w))
    from None e =
        ap (λ t. page_run (if is_some t then ending_turn w else quiet w)) e ∙
        sym (ap (λ t. if is_page_turn t then page_turn_end (page_of w) else quiet (page_of w)) e)
    from (Some Page) e =
        ap (λ t. page_run (if is_some t then ending_turn w else quiet w)) e ∙ ending_turn-page w q ∙
        sym (ap (λ t. if is_page_turn t then page_turn_end (page_of w) else quiet (page_of w)) e)
    from (Some (Component k)) e =
        ap (λ t. page_run (if is_some t then ending_turn w else quiet w)) e ∙ ending-component w q (ap is_page_turn e) ∙
        sym (ap (λ t. if is_page_turn t then page_turn_end (page_of w) else quiet (page_of w)) e)

-- the page's refusals are the page machine's
pub refusal-page : (w : World) → IsWorld w → (c : Command) → refusal w Page c ≡ page_refusal (page_of w) c
refusal-page w i c =
    ap (λ b. option_or (first_refusal ((not (is_command_of Page c), Syntax) ∷ (b, Busy) ∷ (names_foreign c, Foreign) ∷
    (not (is_there w Page), Unknown) ∷ [])) (part_refusal (part_of w Page) c)) (and-false (is_page_turn w.turn))
    ∙ ap (λ b. option_or (first_refusal ((not (is_command_of Page c), Syntax) ∷ (names_foreign c, Foreign) ∷ (not b, Unknown) ∷ []))
    (part_refusal (part_of w Page) c)) i.page

-- Effects.
pub page_of-with_part : (w : World) (p : Part) → p.owner ≡ Page → page_of (with_part w p) ≡ record (page_of w) { part = p }
page_of-with_part w p h = ap (λ q. record (page_of w) { part = q }) (part_of-with_part w p Page h)

-- an effect in the page's part is the page machine's
pub effect-page : (w : World) (e : Effect) → KeepsBase (part_of w Page) e → page_run (effect_in w Page e) ≡ page_effect (page_of w) e
effect-page w (tables p lines v) h =
    let here = page_of-with_part w p (h.0 ∙ owner-part_of w Page) in
    run_then-square (with_part w p, map (says Page) lines) (answering Page v) (answering Page v) refl
    ∙ ap (λ s. run_then (s, outputs_for Page (map (says Page) lines)) (answering Page v)) here
    ∙ ap (λ ls. run_then (record (page_of w) { part = p }, ls) (answering Page v)) (outputs_for_page-says lines)
effect-page w (changes steps v) h = ap (λ s. answering Page v s) (page_of-world_after w steps)

-- The commands that are no effects.
pub attaching-page : (w : World) (x : NodeName) → page_run (attaching w Page x) ≡ page_attaching (page_of w) x
attaching-page w x =
    let p = part_of w Page in
    let c = component_made Page (length p.attached) in
    let marked = with_part w (record p { attached = p.attached ++ x ∷ [] }) in
    let root = part_with_root c Shadow (node_in p.trees x).document in
    ap (λ q. answering Page (a_component c) (record (page_of w) { part = q }))
    (part_of-with_part-other marked root Page (component_made-no_page Page (length p.attached)) ∙
    part_of-with_part w (record p { attached = p.attached ++ x ∷ [] }) Page (owner-part_of w Page))

-- the last of the page's nodes is the page's
owner-last : (xs : List NodeName) (o : Option NodeName) (x : NodeName) → AllByRecursion (IsOf Page) xs →
    AllByRecursion (IsOf Page) (option_to_list o) → x.owner ≡ Page → (unwrap_or (last_or o xs) x).owner ≡ Page
owner-last [] None x h g e = e
owner-last [] (Some y) x h g e = g.0
owner-last (y ∷ xs) o x h g e = owner-last xs (Some y) x h.1 (h.0, tt) e

-- a page node is connected where its root is a document
pub connected-page : (w : World) → IsWorld w → (x : NodeName) → x.owner ≡ Page →
    is_connected w x ≡ is_document (kind_of (part_of w Page).trees (root_of (part_of w Page).trees x))
connected-page w i x h =
    let up = ancestors_at w x in
    let root = unwrap_or (last_of up) x in
    let owned = subst (λ o. AllByRecursion (IsOf o) up) h (ancestors-owned w i x) in
    ap (λ xs. is_document (kind_at w (unwrap_or (last_of xs) x))) (shadow_including-page w x h)
    ∙ ap (λ o. is_document (kind_of (part_of w o).trees root)) (owner-last up None x owned tt h)
    ∙ ap (λ o. is_document (kind_of (part_of w Page).trees (root_of (part_of w o).trees x))) h

-- of the page
pub page_named : (w : World) (x : NodeWord) → (named (part_of w Page) x).owner ≡ Page
page_named w x = owner-named (part_of w Page) x ∙ owner-part_of w Page

-- and a related one too
pub page_related : (w : World) (o : Option NodeWord) → AllByRecursion (IsOf Page) (option_to_list (option_map (named (part_of w Page)) o))
page_related w None = tt
page_related w (Some x) = (page_named w x, tt)

-- a dispatch of the page
dispatched-page : (w : World) → IsWorld w → (x : NodeWord) (e : EventWords) (related : Option NodeWord) →
    let c = Command.dispatch x e related in page_run (perform w Page c) ≡ page_perform_under (done_to w Page c) (page_of w) c
dispatched-page w i x e related =
    let p = part_of w Page in
    let d = dispatch_in w (named p x) (option_map (named p) related) e in
    let same = dispatch-page w (named p x) (option_map (named p) related) e i.page (named p x) (option_map (named p) related)
    (views-page i (named p x) (option_map (named p) related) e.composed (page_named w x) (page_related w related)) in
    run_then-square d.run (answering Page (a_truth d.answer)) (answering Page (a_truth d.answer)) refl
    ∙ ap (λ (f : Dispatched PageState). run_then f.run (answering Page (a_truth f.answer))) same

-- Every accepted command of the page.
module _ {only_log : Bool} where
  -- in the turn that is open
  perform-page : (w : World) → Invariant only_log w → (c : Command) → is_command_of Page c ≡ true →
      page_run (perform w Page c) ≡ page_perform_under (done_to w Page c) (page_of w) c
  perform-page w q (Command.attach a) h = attaching-page w (named (part_of w Page) a)
  perform-page w q (Command.connected a) h =
      ap (λ b. answering Page (a_truth b) (page_of w)) (connected-page w q.world (named (part_of w Page) a) (page_named w a))
  perform-page w q (Command.assigned a) h = absurd (true≢false (sym h))
  perform-page w q (Command.dispatch a b c) h = dispatched-page w q.world a b c
  perform-page w q (Command.micro a) h = ap (λ ts. answering Page nothing (record (page_of w) { tasks = ts }))
      (filter-append is_page_task w.tasks (micro_task Page a ∷ []))
  perform-page w q Command.end_turn h = run_then-square (ending_turn w) (answering Page nothing) (answering Page nothing) refl ∙
      ap (λ r. run_then r (answering Page nothing)) (ending_turn-page w q)
  perform-page w q c h = effect-page w (effect (part_of w Page) c) (base-effect (part_of w Page) c)

  -- with the turn that it opens
  opened : (w : World) → Invariant only_log w → IsPageTime w → (c : Command) → is_command_of Page c ≡ true →
      page_run (perform (opening_turn w Page) Page c) ≡ page_perform_under (done_to (opening_turn w Page) Page c) (record (page_of w) { is_open = true }) c
  opened w q t c h =
      perform-page (opening_turn w Page) (quiet-opening w q Page) c h
      ∙ ap (λ s. page_perform_under (done_to (opening_turn w Page) Page c) s c) (opening-page w t)

  -- the turn is opened by every command but `.`
  accepted-page : (w : World) → Invariant only_log w → IsPageTime w → (c : Command) → is_command_of Page c ≡ true →
      page_run (accepted w Page c) ≡ page_accepted_under (first_record (accepted_records is_page w Page c)) (page_of w) c
  accepted-page w q t Command.end_turn h = perform-page w q Command.end_turn h
  accepted-page w q t c h = opened w q t c h

-- A command of the page, refused or accepted.
not-refused : (b : Bool) (ts : List (Bool × Refusal)) (r : Option Refusal) → option_or (first_refusal ((not b, Syntax) ∷ ts)) r ≡ None → b ≡ true
not-refused true ts r h = refl
not-refused false ts r h = cc

-- refused or accepted
pub command-page : {only_log : Bool} (w : World) → Invariant only_log w → IsPageTime w → (c : Command) →
    page_run (run_command Page c w) ≡ page_command_under (first_record (command_records is_page w Page c)) (page_of w) c
command-page w q t c = from (refusal w Page c) refl
  where
    all : List Interference
    all = accepted_records is_page w Page c

    told : Option Refusal → Interference
    told r = first_record (if is_none r then all else [])

    from : (r : Option Refusal) → refusal w Page c ≡ r →
        page_run (unless_refused Page (refusal w Page c) w (accepted w Page c)) ≡ unless_refused Page (page_refusal (page_of w) c) (page_of w)
        (page_accepted_under (told (refusal w Page c)) (page_of w) c)
    from (Some r) e =
        ap (λ o. page_run (unless_refused Page o w (accepted w Page c))) e ∙
        sym (ap (λ o. unless_refused Page o (page_of w) (page_accepted_under (told (refusal w Page c)) (page_of w) c)) (sym (refusal-page w q.world c) ∙ e))
    from None e =
        let mine = not-refused (is_command_of Page c)
        ((is_busy w Page, Busy) ∷ (names_foreign c, Foreign) ∷ (not (is_there w Page), Unknown) ∷ []) (part_refusal (part_of w Page) c) e in
        ap (λ o. page_run (unless_refused Page o w (accepted w Page c))) e ∙ accepted-page w q t c mine
        ∙ ap (λ o. page_accepted_under (told o) (page_of w) c) (sym e)
        ∙ sym (ap (λ o. unless_refused Page o (page_of w) (page_accepted_under (told (refusal w Page c)) (page_of w) c)) (sym (refusal-page w q.world c) ∙ e))
