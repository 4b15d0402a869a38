-- What commands do to the page: its own what they do in the page machine, and others' nothing, but for the visits of their outward events.
use Rattle.dom_base.proofs.Std.{◌≡◌, Bool, true, false, not, List, [], ◌∷◌, ◌++◌, filter, Option, Some, None, option_map, refl, sym, ap, ◌∙◌}
use Rattle.dom_base.proofs.Std.{true≢false, AllByRecursion, and-false, append-nil, filter-append, option_or, option_to_list}
use Rattle.dom_model.proofs.Model.{Owner, Page, Component, NodeName, owner_eq, owner_eq-true, Command, NodeWord, EventWords, named, World, Refusal}
use Rattle.dom_model.proofs.Model.{first_refusal}
use Rattle.dom_model.proofs.Model.{refusal, perform, part_of, effect, is_page, page_of, PageState, outputs_for, group_outputs, Output}
use Rattle.dom_model.proofs.Model.{owner_of_output, is_of}
use Rattle.dom_model.proofs.Model.{visits_of, name_eq, micro_task, Run, bad_owner, says}
use Rattle.dom_model.proofs.Model.{is_command_of, names_foreign, is_there, part_refusal, is_page_turn, Syntax, Busy, Foreign, Unknown, is_page_task}
use Rattle.dom_model.proofs.Model.{answering, a_truth, nothing}
use Rattle.dom_model.proofs.Model.{ComponentName}
use Rattle.dom_model.specs.PageMachine.{page_perform}
use Rattle.dom_worlds.specs.Definitions.{IsOf}
use Rattle.dom_worlds.proofs.CommandLemmas.{base-effect}
use Rattle.dom_worlds.proofs.ListLemmas.{filter_same}
use Rattle.dom_isolation.specs.Definitions.{page_run}
use Rattle.dom_isolation.proofs.Families.{page-is_group}
use Rattle.dom_isolation.proofs.PagePaths.{views-page}
use Rattle.dom_isolation.proofs.PageSteps.{same_page_of}
use Rattle.dom_isolation.proofs.PageCommands.{effect-page, attaching-page, connected-page, page_named, page_related, refusal-page}
use Rattle.dom_isolation.proofs.ComponentCommands.{effect-other, attaching-component}
use Rattle.dom_live.specs.Documents.{page_documents, world_visits}
use Rattle.dom_live.specs.Groups.{is_own_visit}
use Rattle.dom_live.specs.Laws.{IsLiveWorld}
use Rattle.dom_live.proofs.OtherLines.{is_still, LeavesOthers, Stands, Takes, Shows, dispatch_visits}
use Rattle.dom_live.proofs.OwnLines.{ObeysOwn}
use Rattle.dom_live.proofs.OutwardLines.{own-visits, dispatch-shows}
use Rattle.dom_live.proofs.Turned.{connected-turned}

-- the page's lines
page-outputs : (ls : List Output) → group_outputs is_page ls ≡ outputs_for Page ls
page-outputs ls = filter_same (λ l. is_of is_page (owner_of_output l)) (λ l. is_of (owner_eq Page) (owner_of_output l)) ls (all ls)
  where
    same : (l : Output) → is_of is_page (owner_of_output l) ≡ is_of (owner_eq Page) (owner_of_output l)
    same bad_owner = refl
    same (says Page x) = refl
    same (says (Component k) x) = refl

    all : (ls : List Output) → AllByRecursion (λ l. is_of is_page (owner_of_output l) ≡ is_of (owner_eq Page) (owner_of_output l)) ls
    all [] = tt
    all (l ∷ ls) = (same l, all ls)

-- of a run
page-runs : {s : Run PageState} (r : Run World) → page_run r ≡ s → (page_of r.0, group_outputs is_page r.1) ≡ s
page-runs r h = ap (λ ls. (page_of r.0, ls)) (page-outputs r.1) ∙ h

-- The visits at nodes of the page.
module _ (w : World) (i : IsLiveWorld w) where
  -- are those that the page machine makes
  page-visits : (x : NodeName) (r : Option NodeName) (words : EventWords) → x.owner ≡ Page → AllByRecursion (IsOf Page) (option_to_list r) →
      filter (is_own_visit is_page) (world_visits w x r words) ≡ page_documents.visits (page_of w) x r words
  page-visits x r words h k = own-visits is_page w x r words ∙ ap (visits_of name_eq words.bubbles) (views-page i x r words.composed h k)

-- The page's own commands.
pub page-obeys : ObeysOwn is_page page_of page_documents
page-obeys = record { refuses = refuses; performs = performs; visits = visits }
  where
    refuses : (w : World) (o : Owner) (c : Command) → Stands is_page true w o → page_documents.refusal (page_of w) o c ≡ refusal w o c
    refuses w Page c h =
        let why : Bool → Option Refusal = λ b. option_or
        (first_refusal ((not (is_command_of Page c), Syntax) ∷ (b, Busy) ∷ (names_foreign c, Foreign) ∷ (not (is_there w Page), Unknown) ∷ []))
        (part_refusal (part_of w Page) c) in
        sym (refusal-page (record w { turn = Some Page }) h.world c) ∙ ap why (and-false true) ∙ sym (ap why (and-false (is_page_turn w.turn)))
    refuses w (Component k) c h = absurd (true≢false (sym h.side))

    plain : (w : World) (c : Command) → IsLiveWorld w → refusal w Page c ≡ None → is_still c ≡ true → page_run (perform w Page c) ≡ page_perform (page_of w) c
    plain w (Command.attach a) i r q = attaching-page w (named (part_of w Page) a)
    plain w (Command.connected a) i r q =
        let x = named (part_of w Page) a in
        ap (λ b. answering Page (a_truth b) (page_of w)) (sym (connected-turned w (Some Page) x)
        ∙ connected-page (record w { turn = Some Page }) i x (page_named w a))
    plain w (Command.assigned a) i r q = cc
    plain w (Command.dispatch a b c) i r q = absurd (true≢false (sym q))
    plain w (Command.micro a) i r q =
        ap (λ ts. answering Page nothing (record (page_of w) { tasks = ts })) (filter-append is_page_task w.tasks (micro_task Page a ∷ []))
    plain w Command.end_turn i r q = absurd (true≢false (sym q))
    plain w c i r q = effect-page w (effect (part_of w Page) c) (base-effect (part_of w Page) c)

    performs : (w : World) (o : Owner) (c : Command) → Takes is_page true w o c → is_still c ≡ true →
        (page_of (perform w o c).0, group_outputs is_page (perform w o c).1) ≡ page_documents.perform (page_of w) o c
    performs w Page c h q = page-runs (perform w Page c) (plain w c h.stands.world h.accepted q)
    performs w (Component k) c h q = absurd (true≢false (sym h.stands.side))

    visits : (w : World) (o : Owner) (x : NodeWord) (words : EventWords) (r : Option NodeWord) → Stands is_page true w o →
        filter (is_own_visit is_page) (dispatch_visits w o x words r)
        ≡ page_documents.visits (page_of w) (named (part_of w o) x) (option_map (named (part_of w o)) r) words
    visits w Page x words r h =
        page-visits w h.world (named (part_of w Page) x) (option_map (named (part_of w Page)) r) words (page_named w x) (page_related w r)
    visits w (Component k) x words r h = absurd (true≢false (sym h.side))

-- Commands of components.
pub page-leaves : LeavesOthers is_page page_of page_documents
page-leaves = record { performs = performs; dispatches = dispatches }
  where
    split : {s : PageState} (r : Run World) → page_run r ≡ (s, []) → (page_of r.0 ≡ s) × (group_outputs is_page r.1 ≡ [])
    split r h = (ap (λ (k : Run PageState). k.0) h, page-outputs r.1 ∙ ap (λ (k : Run PageState). k.1) h)

    plain : (w : World) (k : ComponentName) (c : Command) → is_still c ≡ true → page_run (perform w (Component k) c) ≡ (page_of w, [])
    plain w k (Command.attach a) q = attaching-component w k (named (part_of w (Component k)) a)
    plain w k (Command.connected a) q = refl
    plain w k (Command.assigned a) q = refl
    plain w k (Command.dispatch a b c) q = absurd (true≢false (sym q))
    plain w k (Command.micro a) q =
        ap (λ s. (s, [])) (same_page_of (record w { tasks = w.tasks ++ micro_task (Component k) a ∷ [] }) w refl
        (filter-append is_page_task w.tasks (micro_task (Component k) a ∷ []) ∙ append-nil (filter is_page_task w.tasks)) refl)
    plain w k Command.end_turn q = absurd (true≢false (sym q))
    plain w k c q = effect-other w k (effect (part_of w (Component k)) c) (base-effect (part_of w (Component k)) c)

    performs : (w : World) (o : Owner) (c : Command) → Takes is_page false w o c → is_still c ≡ true →
        (page_of (perform w o c).0 ≡ page_of w) × (group_outputs is_page (perform w o c).1 ≡ [])
    performs w Page c h q = absurd (true≢false h.stands.side)
    performs w (Component k) c h q = split (perform w (Component k) c) (plain w k c q)

    dispatches : (w : World) (o : Owner) (x : NodeWord) (words : EventWords) (r : Option NodeWord) →
        Takes is_page false w o (Command.dispatch x words r) → Shows is_page page_of page_documents w o x words r
    dispatches w Page x words r t = absurd (true≢false t.stands.side)
    dispatches w (Component k) x words r t =
        dispatch-shows page-is_group w k x words r t page_documents
        (λ host h words. page-visits w t.stands.world host None words (owner_eq-true host.owner Page h) tt)
