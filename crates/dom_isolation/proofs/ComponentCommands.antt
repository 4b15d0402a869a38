-- A dispatch and a command of a component, as the page sees it: nothing, or an outward event at its host.
use Rattle.dom_base.proofs.Std.{◌≡◌, ℕ, Bool, true, false, not, ◌&&◌, ◌||◌, List, [], ◌∷◌, ◌++◌, zero, suc, length, find, flat_map, filter, map, Option, Some}
use Rattle.dom_base.proofs.Std.{None, option_map, refl, sym, ap, ◌∙◌, true≢false, subst, append-nil, inl, inr, is_some, is_none, if◌then◌else◌, option_to_list}
use Rattle.dom_base.proofs.Std.{filter-append, cond-true, cond-false}
use Rattle.dom_model.proofs.Model.{Owner, Page, Component, NodeName, Shadow, Refusal, TypeFault, ComponentName, name_eq, owner_depth, node_in, root_of, Command}
use Rattle.dom_model.proofs.Model.{NodeWord, EventWords, part_refusal, effect, says, nothing, a_truth, Part, Run, quiet, run_then, answering, unless_refused}
use Rattle.dom_model.proofs.Model.{run_each, related_refusal, has_other_root, named, Effect, tables, changes, World, hosts_from, host_above, micro_task}
use Rattle.dom_model.proofs.Model.{part_of, with_part, component_made, dispatch_in, Dispatched, visits_of, ending_turn, opening_turn, is_page_turn, refusal}
use Rattle.dom_model.proofs.Model.{effect_in, attaching, part_with_root, perform, accepted, run_command, outputs_for, is_page, boundary_host, outward_of}
use Rattle.dom_model.proofs.Model.{outward_dispatch, outward_command, OutwardEvent, PageState, page_of, is_page_task, component_made-no_page, name_eq-true}
use Rattle.dom_model.proofs.Model.{owner_eq-true, ne-owner_eq, part_of-with_part-other, owner-part_of, Component-IsNoPage, views}
use Rattle.dom_isolation.specs.Definitions.{page_run, PageVisitsAgree, OutwardVisitsAgree, Interference, first_record, interference_at, accepted_records}
use Rattle.dom_isolation.specs.Definitions.{command_records, untouched, page_dispatch_under, page_outward_under}
use Rattle.dom_worlds.specs.Definitions.{Invariant, IsWorld, IsForeignTo}
use Rattle.dom_isolation.proofs.PageSteps.{done_to, dispatch-page, run_then-square, same_page_of, outputs_for_page-other, page_of-world_after-other}
use Rattle.dom_isolation.proofs.PageSteps.{page_run-unseen}
use Rattle.dom_worlds.proofs.ListLemmas.{by_cases, and-true_false}
use Rattle.dom_worlds.proofs.CommandLemmas.{next-test, part-accepted, accepted-facts, KeepsBase, base-effect}
use Rattle.dom_worlds.proofs.TurnLemmas.{part_of-opening, quiet-opening}
use Rattle.dom_worlds.proofs.OwnerLemmas.{owner-named}
use Rattle.dom_isolation.proofs.GroupDispatches.{outward_at, HasSameRoot, comes_to, no_dispatch}
use Rattle.dom_isolation.proofs.PageCommands.{quiet_then, ending-component, opening-component}
use Rattle.dom_isolation.proofs.PagePaths.{views-page}
use Rattle.dom_isolation.proofs.Families.{page-is_group}
use Rattle.dom_isolation.proofs.OwnVisits.{group_visits}
use Rattle.dom_isolation.proofs.OutsideViews.{has-exit, views-exit}

-- The page's answer to a dispatch of a component, as far as others let the event come.
abbrev pub outward_run : Option ℕ → PageState → Option OutwardEvent → Run PageState
outward_run reached s o = run_each (page_outward_under reached) s (option_to_list o)

-- nothing more after a run
pub run_then-quiet_end : (r : Run PageState) → run_then r quiet ≡ r
run_then-quiet_end r = ap (λ ls. (r.0, ls)) (append-nil r.1)

-- what the page sees of a dispatch is its outward event
abbrev pub IsOutward : World → NodeName → Option NodeName → EventWords → Type 0
IsOutward w x r e =
    page_run (dispatch_in w x r e).run ≡ outward_run (interference_at is_page w x r e).reached (page_of w) (outward_at is_page w x e r)

-- a dispatch of a component, as the page sees it
pub dispatch-component : {w : World} → IsWorld w → (x : NodeName) (related : Option NodeName) (e : EventWords) → IsForeignTo Page x → HasSameRoot w x related →
    IsOutward w x related e
dispatch-component {w} i x related e f same =
    let reached = (interference_at is_page w x related e).reached in
    elim (comes_to is_page page-is_group i x related e (ne-owner_eq x.owner Page f) same) [
      | inl k ↦ page_run-unseen (dispatch_in w x related e).run w (no_dispatch is_page w i x related e k.unseen)
          ∙ sym (ap (outward_run reached (page_of w)) k.none)
      | inr k ↦ ap (λ (d : Dispatched PageState). d.run)
          (dispatch-page w x related e i.page k.host None (k.shown ∙ views-page i k.host None e.composed (owner_eq-true k.host.owner Page k.inside) tt))
          ∙ ap (λ e. (page_dispatch_under (record untouched { reached = reached }) (page_of w) k.host None e).run) k.words
          ∙ sym (run_then-quiet_end (page_outward_under reached (page_of w) (outward_of e k.host)))
          ∙ sym (ap (outward_run reached (page_of w)) k.event)
    ]

-- The visits at page nodes.
pub page_visits-agree : PageVisitsAgree
page_visits-agree w q x related bubbles composed h g =
    group_visits is_page bubbles (views w x related composed) ∙ ap (visits_of name_eq bubbles) (views-page q.world x related composed h g)

-- of an event that goes out
pub outward_visits-agree : OutwardVisitsAgree
outward_visits-agree w q x host bubbles f e =
    let k = has-exit is_page page-is_group w q.world x host e in
    group_visits is_page bubbles (views w x None true)
    ∙ ap (visits_of name_eq bubbles)
    (views-exit is_page page-is_group w q.world x host k ∙ views-page q.world host None true (owner_eq-true host.owner Page k.inside) tt)

-- Effects in a component's part show nothing.
pub effect-other : (w : World) (k : ComponentName) (e : Effect) → KeepsBase (part_of w (Component k)) e →
    page_run (effect_in w (Component k) e) ≡ quiet (page_of w)
effect-other w k (tables p lines v) h =
    let f = Component-IsNoPage k in
    let mine = h.0 ∙ owner-part_of w (Component k) in
    quiet_then (with_part w p, map (says (Component k)) lines) (page_of w) (answering (Component k) v)
    (ap (λ s. (s, outputs_for Page (map (says (Component k)) lines)))
    (same_page_of (with_part w p) w (part_of-with_part-other w p Page (λ e. f (sym mine ∙ e))) refl refl)
    ∙ ap (λ ls. (page_of w, ls)) (outputs_for_page-other (Component k) f lines)) refl
effect-other w k (changes steps v) h = ap (λ s. quiet s) (page_of-world_after-other (Component k) (Component-IsNoPage k) w steps)

-- What an accepted dispatch of a component is known to have.
pub related-near : {k : ComponentName} (p : Part) (x : NodeWord) (e : EventWords) (y : NodeWord) → p.owner ≡ Component k →
    part_refusal p (Command.dispatch x e (Some y)) ≡ None → root_of p.trees (named p y) ≡ root_of p.trees (named p x)
related-near {k} p x e y o h =
    let c = Command.dispatch x e (Some y) in
    let own : related_refusal (Component k) p (named p x) (Some y) ≡ None =
    subst (λ o. related_refusal o p (named p x) (Some y) ≡ None) o (part-accepted p c h).own in
    let same = (next-test (has_other_root p (named p x) y || false) TypeFault [] own).0 in
    sym (name_eq-true (root_of p.trees (named p x)) (root_of p.trees (named p y))
    (from (name_eq (root_of p.trees (named p x)) (root_of p.trees (named p y))) same))
  where
    from : (b : Bool) → (not b || false) ≡ false → b ≡ true
    from true g = refl
    from false g = absurd (true≢false g)

-- in the world, where a related node is given
pub related-same_root : (w : World) (k : ComponentName) (x : NodeWord) (e : EventWords) (r : Option NodeWord) →
    part_refusal (part_of w (Component k)) (Command.dispatch x e r) ≡ None →
    HasSameRoot w (named (part_of w (Component k)) x) (option_map (named (part_of w (Component k))) r)
related-same_root w k x e None g = tt
related-same_root w k x e (Some y) g =
    let p = part_of w (Component k) in
    let o = owner-part_of w (Component k) in
    let at_y : (named p y).owner ≡ Component k = owner-named p y ∙ o in
    let at_x : (named p x).owner ≡ Component k = owner-named p x ∙ o in (
      (
        at_y ∙ sym at_x,
        ap (λ q. root_of (part_of w q).trees (named p y)) at_y ∙ related-near p x e y o g ∙
            ap (λ q. root_of (part_of w q).trees (named p x)) (sym at_x),
      ),
      tt,
    )

-- the outward event of a dispatch outside a group is that of its words
pub outward-same : (group : Owner → Bool) (w : World) {o : Owner} → group o ≡ false → (x : NodeWord) (e : EventWords) (r : Option NodeWord) →
    outward_at group w (named (part_of w o) x) e (option_map (named (part_of w o)) r) ≡ outward_dispatch group w o (Command.dispatch x e r)
outward-same group w {o} out x e None =
    sym (ap (λ b. if not b && e.composed then option_map (outward_of e) (boundary_host group w (named (part_of w o) x)) else None) out)
outward-same group w out x e (Some y) = refl

-- what the page sees of a command is its outward event, as far as others let it come
abbrev IsOutwardCommand : World → ComponentName → Command → Type 0
IsOutwardCommand w k c =
    page_run (perform w (Component k) c) ≡ outward_run (done_to w (Component k) c).reached (page_of w) (outward_dispatch is_page w (Component k) c)

-- A dispatch.
pub dispatched-component : {w : World} (k : ComponentName) → IsWorld w → (x : NodeWord) (e : EventWords) (related : Option NodeWord) →
    part_refusal (part_of w (Component k)) (Command.dispatch x e related) ≡ None → IsOutwardCommand w k (Command.dispatch x e related)
dispatched-component {w} k i x e related h =
    let p = part_of w (Component k) in
    let o = owner-part_of w (Component k) in
    let target = named p x in
    let near = option_map (named p) related in
    let mine : target.owner ≡ Component k = owner-named p x ∙ o in
    let d = dispatch_in w target near e in
    let seen = dispatch-component i target near e (λ z. Component-IsNoPage k (sym mine ∙ z)) (related-same_root w k x e related h) in
    let reached = (interference_at is_page w target near e).reached in
    run_then-square d.run (answering (Component k) (a_truth d.answer)) quiet refl
    ∙ ap (λ r. run_then r quiet) seen ∙ run_then-quiet_end (outward_run reached (page_of w) (outward_at is_page w target e near))
    ∙ ap (outward_run reached (page_of w)) (outward-same is_page w refl x e related)

-- An attach writes two parts, neither of which is the page's.
pub attaching-component : (w : World) (k : ComponentName) (x : NodeName) → page_run (attaching w (Component k) x) ≡ quiet (page_of w)
attaching-component w k x =
    let o = Component k in
    let p = part_of w o in
    let n = length p.attached in
    let marked = with_part w (record p { attached = p.attached ++ x ∷ [] }) in
    let root = part_with_root (component_made o n) Shadow (node_in p.trees x).document in
    ap quiet
    (same_page_of (with_part marked root) w
    (part_of-with_part-other marked root Page (component_made-no_page o n)
    ∙ part_of-with_part-other w (record p { attached = p.attached ++ x ∷ [] }) Page (λ e. Component-IsNoPage k (sym (owner-part_of w o) ∙ e)))
    refl refl)

-- Any accepted command.
perform-component : {only_log : Bool} (w : World) (k : ComponentName) → Invariant only_log w → is_page_turn w.turn ≡ false → (c : Command) →
    part_refusal (part_of w (Component k)) c ≡ None → IsOutwardCommand w k c
perform-component w k q t (Command.attach a) r = attaching-component w k (named (part_of w (Component k)) a)
perform-component w k q t (Command.connected a) r = refl
perform-component w k q t (Command.assigned a) r = refl
perform-component w k q t (Command.dispatch a b c) r = dispatched-component k q.world a b c r
perform-component w k q t (Command.micro a) r =
    ap quiet (same_page_of (record w { tasks = w.tasks ++ micro_task (Component k) a ∷ [] }) w refl
    (filter-append is_page_task w.tasks (micro_task (Component k) a ∷ []) ∙ append-nil (filter is_page_task w.tasks)) refl)
perform-component w k q t Command.end_turn r = quiet_then (ending_turn w) (page_of w) (answering (Component k) nothing) (ending-component w q t) refl
perform-component w k q t c r = effect-other w k (effect (part_of w (Component k)) c) (base-effect (part_of w (Component k)) c)

-- With the turn that it opens.
each-same : {X Y : Type 0} (f g : X → List Y) → ((x : X) → f x ≡ g x) → (xs : List X) → flat_map f xs ≡ flat_map g xs
each-same f g h [] = refl
each-same f g h (x ∷ xs) = ap (λ ys. ys ++ flat_map f xs) (h x) ∙ ap (λ ys. g x ++ ys) (each-same f g h xs)

-- the turn changes no chain of hosts
hosts-in_turn : (w : World) (t : Option Owner) (depth : ℕ) (x : NodeName) → hosts_from depth (record w { turn = t }) x ≡ hosts_from depth w x
hosts-in_turn w t zero x = refl
hosts-in_turn w t (suc depth) x =
    ap (λ ys. x ∷ ys) (each-same (hosts_from depth (record w { turn = t })) (hosts_from depth w) (hosts-in_turn w t depth) (option_to_list (host_above w x)))

-- nor an outward event
pub opened-event : (group : Owner → Bool) (w : World) (o : Owner) (c : Command) → outward_dispatch group (opening_turn w o) o c ≡ outward_dispatch group w o c
opened-event group w o c =
    by_cases (is_some w.turn) (λ e. ap (λ v. outward_dispatch group v o c) (cond-true (is_some w.turn) w (record w { turn = Some o }) e))
    (λ e. ap (λ v. outward_dispatch group v o c) (cond-false (is_some w.turn) w (record w { turn = Some o }) e) ∙ in_turn c)
  where
    in_turn : (c : Command) → outward_dispatch group (record w { turn = Some o }) o c ≡ outward_dispatch group w o c
    in_turn (Command.dispatch a b None) =
        let x = named (part_of w o) a in
        ap (λ xs. if not (group o) && b.composed then option_map (outward_of b) (find (λ y. group y.owner) xs) else None)
        (hosts-in_turn w (Some o) (owner_depth x.owner) x)
    in_turn c = refl

-- what the page sees of an accepted command, by what is told of it
abbrev Shows : List Interference → World → ComponentName → Command → Type 0
Shows told w k c = page_run (accepted w (Component k) c) ≡ outward_run (first_record told).reached (page_of w) (outward_dispatch is_page w (Component k) c)

-- The same of an accepted command, and of one that may be refused.
module _ {only_log : Bool} where
  -- with the turn that it opens
  opened : (w : World) (k : ComponentName) → Invariant only_log w → is_page_turn w.turn ≡ false → (c : Command) →
      part_refusal (part_of w (Component k)) c ≡ None →
      page_run (perform (opening_turn w (Component k)) (Component k) c)
      ≡ outward_run (done_to (opening_turn w (Component k)) (Component k) c).reached (page_of w) (outward_dispatch is_page w (Component k) c)
  opened w k q t c r =
      let v = opening_turn w (Component k) in
      let reached = (done_to v (Component k) c).reached in
      perform-component v k (quiet-opening w q (Component k)) (ap (λ (s : PageState). s.is_open) (opening-component w k t) ∙ t) c
      (ap (λ p. part_refusal p c) (part_of-opening w (Component k) (Component k)) ∙ r)
      ∙ ap (λ s. outward_run reached s (outward_dispatch is_page v (Component k) c)) (opening-component w k t)
      ∙ ap (outward_run reached (page_of w)) (opened-event is_page w (Component k) c)

  -- `.` apart, which opens none
  accepted-component : (w : World) (k : ComponentName) → Invariant only_log w → is_page_turn w.turn ≡ false → (c : Command) →
      part_refusal (part_of w (Component k)) c ≡ None → Shows (accepted_records is_page w (Component k) c) w k c
  accepted-component w k q t Command.end_turn r = perform-component w k q t Command.end_turn r
  accepted-component w k q t c r = opened w k q t c r

  -- refused or accepted
  pub command-component : (w : World) (k : ComponentName) → Invariant only_log w → (c : Command) →
      page_run (run_command (Component k) c w)
      ≡ outward_run (first_record (command_records is_page w (Component k) c)).reached (page_of w) (outward_command is_page w (Component k) c)
  command-component w k q c = from (refusal w (Component k) c) refl
    where
      shown : Option Refusal → Run PageState
      shown r =
          outward_run (first_record (if is_none r then accepted_records is_page w (Component k) c else [])).reached (page_of w)
          (if is_none r then outward_dispatch is_page w (Component k) c else None)

      from : (r : Option Refusal) → refusal w (Component k) c ≡ r →
          page_run (unless_refused (Component k) (refusal w (Component k) c) w (accepted w (Component k) c)) ≡ shown (refusal w (Component k) c)
      from (Some r) e =
          ap (λ o. page_run (unless_refused (Component k) o w (accepted w (Component k) c))) e ∙ sym (ap shown e)
      from None e =
          let a = accepted-facts w (Component k) c e in
          ap (λ o. page_run (unless_refused (Component k) o w (accepted w (Component k) c))) e
          ∙ accepted-component w k q (and-true_false (is_page_turn w.turn) a.calm) c a.part ∙ sym (ap shown e)
