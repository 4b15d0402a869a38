-- No line names what is hidden from its owner: lines of events, records and replies, of the ending of a turn and of each command.
use Rattle.dom_base.proofs.Std.{◌≡◌, ℕ, zero, suc, Bool, true, false, not, ◌&&◌, List, [], ◌∷◌, ◌++◌, filter, fold, map, Option, Some, None, option_map}
use Rattle.dom_base.proofs.Std.{option_to_list, refl, sym, ap, ◌∙◌, subst, ⊤, AllByRecursion, slice_set, is_some, true≢false, option_map_or, drop}
use Rattle.dom_base.proofs.Std.{◌||◌, or_left, or_right, and-false}
use Rattle.dom_model.proofs.Model.{Owner, NodeName, EventWords, name_eq, owner_eq, Refusal, Syntax, Command, Line, no_owner, no_command, command, part_refusal}
use Rattle.dom_model.proofs.Model.{named, refusal, step, finish, accepted, perform, run_command, effect, effect_in, Effect, tables, changes, dispatch_in}
use Rattle.dom_model.proofs.Model.{Output, says, bad_owner, recorded, replied, refused, event_seen, micro_ran, Said, Change, Run, run_each, quiet}
use Rattle.dom_model.proofs.Model.{unless_refused, Part}
use Rattle.dom_model.proofs.Model.{queue_of, records_of, notified, notified_lines, slotchange, firing_slotchange, is_owned_by, without_signals, running_task}
use Rattle.dom_model.proofs.Model.{ending_turn, ending_other_turn, has_other_turn, opening_turn, World, Task, micro_task, notify_task, part_of, first_world}
use Rattle.dom_model.proofs.Model.{run_lines, visits_of, views, begun, root_at, host_of, host_above, host_chain, parent_at, ancestors_at, is_in}
use Rattle.dom_model.proofs.Model.{is_in_shadow_tree}
use Rattle.dom_model.proofs.Model.{is_hidden_from, assigned_nodes, slottables_of, is_assigned_to, slot_of, children_of, trees_with, owner-part_of}
use Rattle.dom_model.proofs.Model.{owner_eq-true}
use Rattle.dom_model.proofs.Model.{owner_eq-false, part_of-with_part, part_of-with_part-other, name_eq-true, name_eq-same, node_in, node_or_null, NodeWord}
use Rattle.dom_model.proofs.Model.{nothing, a_truth, first_node, owner_depth}
use Rattle.dom_model.proofs.Model.{shadow_including_ancestors}
use Rattle.dom_worlds.specs.Definitions.{Invariant, IsWorld, IsOf, IsReached, IsWhole, IsThere, IsNodeIn}
use Rattle.dom_worlds.proofs.ListLemmas.{all-append, all-dropped, all-from, all-flat_map, all-map, all-passed, all-set, all-then, by_cases, either_way, get-all}
use Rattle.dom_worlds.proofs.CommandLemmas.{accepted-facts}
use Rattle.dom_worlds.proofs.OwnerLemmas.{AreAlike, component-host, hosted-is, owner-named}
use Rattle.dom_worlds.proofs.ShadowTreeLemmas.{IsInTree, above-host, below-host, chain-below, chain-first, hidden-by_chain, ancestors-in_tree}
use Rattle.dom_worlds.proofs.TurnLemmas.{at_end, told_in, quiet-at_end, quiet-dispatch, quiet-told, quiet-opening, part_of-visits, part_of-opening}
use Rattle.dom_worlds.proofs.WorldLemmas.{ending-keeps_reached, ending-keeps_whole, sound, first-is_reached, first-is_whole, step-keeps_reached}
use Rattle.dom_worlds.proofs.WorldLemmas.{step-keeps_whole}
use Rattle.dom_isolation.specs.Definitions.{nodes_of_value, nodes_of_change, IsNamed, own, in_sight, document, NamesNodes, NamesSeen, LineNamesSeen}
use Rattle.dom_isolation.specs.Definitions.{FinishNamesSeen, ScriptNamesSeen}
use Rattle.dom_isolation.proofs.GroupSlots.{ground-of, slot-is}
use Rattle.dom_isolation.proofs.SeenEvents.{hidden-alike, clear-dispatch}
use Rattle.dom_isolation.proofs.SeenValues.{IsKnown, queues-own, own-effect, OwnEffect, OwnSaid}

-- Two worlds with the same trees and hosts: what is seen in the one is seen in the other.
module _ (v w : World) (alike : AreAlike v w) where
  -- a node that is named
  named-alike : (o : Owner) (n : NodeName) → IsNamed v o n → IsNamed w o n
  named-alike o n (own e) = own e
  named-alike o n (in_sight x e h) = in_sight x e (sym (hidden-alike v w alike x n) ∙ h)
  named-alike o n (document x e h) = document x e (ap (λ ts. (node_in ts x).document) (sym (alike x.owner).trees) ∙ h)

  -- a line
  seen-alike : (l : Output) → NamesSeen v l → NamesSeen w l
  seen-alike bad_owner h = tt
  seen-alike (says o s) h = of_said s h
    where
      of_said : (s : Said) → NamesNodes v o s → NamesNodes w o s
      of_said (replied x) h = all-then (IsNamed v o) (IsNamed w o) (named-alike o) (nodes_of_value x) h
      of_said (refused r) h = tt
      of_said (event_seen l) h = (
        h.0,
        all-then (λ n. is_hidden_from v l.current n ≡ false) (λ n. is_hidden_from w l.current n ≡ false) (λ n e. sym (hidden-alike v w alike l.current n) ∙ e)
            (l.target ∷ (option_to_list l.related ++ l.path)) h.1,
      )
      of_said (recorded k c) h = h
      of_said (micro_ran label) h = tt

  -- all lines
  pub lines-alike : (ls : List Output) → AllByRecursion (NamesSeen v) ls → AllByRecursion (NamesSeen w) ls
  lines-alike ls h = all-then (NamesSeen v) (NamesSeen w) seen-alike ls h

-- record queues have records of an owner's nodes
abbrev AreOwnQueues : Owner → List (List (Change NodeName)) → Type 0
AreOwnQueues o queues = AllByRecursion (AllByRecursion (λ c. AllByRecursion (IsOf o) (nodes_of_change c))) queues

-- those of an owner's part do
abbrev HasOwnQueues : World → Owner → Type 0
HasOwnQueues w o = AreOwnQueues o (part_of w o).record_queues

-- The ending of a turn, from a world on: worlds on its way.
record IsOnWay (w v : World) : Type 0 where
  alike : AreAlike v w
  sound : Invariant false v
  queues : (o : Owner) → HasOwnQueues v o

-- a dispatch on its way
way-dispatch : (w v : World) → IsOnWay w v → (x : NodeName) (r : Option NodeName) (e : EventWords) → IsOnWay w (dispatch_in v x r e).run.0
way-dispatch w v k x r e =
    let u = (dispatch_in v x r e).run.0 in
    let same : (o : Owner) → part_of u o ≡ record (part_of v o) { listeners = (part_of u o).listeners } =
    λ o. part_of-visits e (visits_of name_eq e.bubbles (views v x r e.composed)) (v, begun []) o in
    record {
      alike = λ o. record {
        trees = ap (λ (p : Part). p.trees) (same o) ∙ (k.alike o).trees;
        count = ap (λ (p : Part). p.node_count) (same o) ∙ (k.alike o).count;
        attached = ap (λ (p : Part). p.attached) (same o) ∙ (k.alike o).attached;
      };
      sound = quiet-dispatch v x r e k.sound;
      queues = λ o. subst (AreOwnQueues o) (sym (ap (λ (p : Part). p.record_queues) (same o))) (k.queues o);
    }

-- the first part of a notification
way-told : (w v : World) → IsOnWay w v → (o : Owner) → IsOnWay w (told_in v o)
way-told w v k o =
    let base = without_signals v o in
    let p = notified (part_of v o) in
    let mine : p.owner ≡ o = owner-part_of v o in
    record {
      alike = λ a. by_cases (owner_eq o a)
          (λ e. let same = owner_eq-true o a e in
          let is = part_of-with_part base p a (mine ∙ same) ∙ ap (λ b. notified (part_of v b)) same in
          record {
            trees = ap (λ (q : Part). q.trees) is ∙ (k.alike a).trees;
            count = ap (λ (q : Part). q.node_count) is ∙ (k.alike a).count;
            attached = ap (λ (q : Part). q.attached) is ∙ (k.alike a).attached;
          })
          (λ e. let is = part_of-with_part-other base p a (λ same. owner_eq-false o a e (sym mine ∙ same)) in
          record {
            trees = ap (λ (q : Part). q.trees) is ∙ (k.alike a).trees;
            count = ap (λ (q : Part). q.node_count) is ∙ (k.alike a).count;
            attached = ap (λ (q : Part). q.attached) is ∙ (k.alike a).attached;
          });
      sound = quiet-told v o k.sound;
      queues = λ a. by_cases (owner_eq o a)
          (λ e. let same = owner_eq-true o a e in
          let is = part_of-with_part base p a (mine ∙ same) ∙ ap (λ b. notified (part_of v b)) same in
          subst (AreOwnQueues a) (sym (ap (λ (q : Part). q.record_queues) is))
          (emptied a (part_of v a).pending (part_of v a).record_queues (k.queues a)))
          (λ e. let is = part_of-with_part-other base p a (λ same. owner_eq-false o a e (sym mine ∙ same)) in
          subst (AreOwnQueues a) (sym (ap (λ (q : Part). q.record_queues) is)) (k.queues a));
    }
  where
    emptied : (a : Owner) (ks : List ℕ) (queues : List (List (Change NodeName))) → AreOwnQueues a queues →
        AreOwnQueues a (fold (λ queues k. slice_set queues k []) queues ks)
    emptied a [] queues h = h
    emptied a (j ∷ ks) queues h =
        emptied a ks (slice_set queues j []) (all-set (AllByRecursion (λ c. AllByRecursion (IsOf a) (nodes_of_change c))) queues j [] h tt)

-- the records that a notification tells
told-seen : (w v : World) → IsOnWay w v → (o : Owner) → AllByRecursion (NamesSeen w) (notified_lines (part_of v o))
told-seen w v k o =
    let p = part_of v o in
    all-flat_map (NamesSeen w) (records_of p) p.pending
    (all-from (λ j. AllByRecursion (NamesSeen w) (records_of p j)) (λ j. of_queue j (queue_of p.record_queues j) (at p.record_queues j (k.queues o))) p.pending)
  where
    at : (queues : List (List (Change NodeName))) (j : ℕ) → AreOwnQueues o queues →
        AllByRecursion (λ c. AllByRecursion (IsOf o) (nodes_of_change c)) (queue_of queues j)
    at [] j h = tt
    at (q ∷ qs) zero h = h.0
    at (q ∷ qs) (suc j) h = at qs j h.1

    of_queue : (j : ℕ) (cs : List (Change NodeName)) → AllByRecursion (λ c. AllByRecursion (IsOf o) (nodes_of_change c)) cs →
        AllByRecursion (NamesSeen w) (map (λ c. says (part_of v o).owner (recorded j c)) cs)
    of_queue j cs h =
        all-map (NamesSeen w) (λ c. says (part_of v o).owner (recorded j c)) cs
        (all-then (λ c. AllByRecursion (IsOf o) (nodes_of_change c)) (λ c. NamesSeen w (says (part_of v o).owner (recorded j c)))
        (λ c g. subst (λ a. AllByRecursion (IsOf a) (nodes_of_change c)) (sym (owner-part_of v o)) g) cs h)

-- runs on the way, with lines that name what is seen
abbrev IsOnRun : World → Run World → Type 0
IsOnRun w r = IsOnWay w r.0 × AllByRecursion (NamesSeen w) r.1

-- one after another
way-each : {A : Type 0} (w : World) (f : World → A → Run World) → ((v : World) (x : A) → IsOnWay w v → IsOnRun w (f v x)) → (xs : List A) (v : World) →
    IsOnWay w v → IsOnRun w (run_each f v xs)
way-each w f h [] v k = (k, tt)
way-each w f h (x ∷ xs) v k =
    let one = h v x k in
    let more = way-each w f h xs (f v x).0 one.0 in
    (more.0, all-append (NamesSeen w) (f v x).1 (run_each f (f v x).0 xs).1 one.1 more.1)

-- an event at a slot
way-fired : (w v : World) (s : NodeName) → IsOnWay w v → IsOnRun w (firing_slotchange v s)
way-fired w v s k =
    (way-dispatch w v k s None slotchange, lines-alike v w k.alike (firing_slotchange v s).1 (clear-dispatch v k.sound.world s None slotchange))

-- a task
way-running : (w v : World) (t : Task) → IsOnWay w v → IsOnRun w (running_task v t)
way-running w v (micro_task o label) k = (k, (tt, tt))
way-running w v (notify_task o) k =
    let slots = filter (is_owned_by o) v.signalled in
    let more = way-each w firing_slotchange (way-fired w) slots (told_in v o) (way-told w v k o) in
    (more.0, all-append (NamesSeen w) (notified_lines (part_of v o)) (run_each firing_slotchange (told_in v o) slots).1 (told-seen w v k o) more.1)

-- the ending of a turn
way-ending : (w v : World) → IsOnWay w v → IsOnRun w (ending_turn v)
way-ending w v k =
    way-each w running_task (way-running w) v.tasks (at_end v) (record { alike = k.alike; sound = quiet-at_end v k.sound; queues = k.queues })

-- A world that the machine reaches: its parts are known.
module _ (w : World) (r : IsReached false w) (whole : IsWhole w) where
  -- a part
  known : (o : Owner) → IsKnown (part_of w o)
  known o = record { part = r.world.parts o; tables = whole.tables o; records = whole.records o }

  -- it is on the way
  way-first : IsOnWay w w
  way-first = record {
    alike = λ o. record { trees = refl; count = refl; attached = refl };
    sound = sound w r;
    queues = λ o. queues-own o (part_of w o) (owner-part_of w o) (known o);
  }

  -- of another's turn
  ending-seen : (o : Owner) → IsOnRun w (ending_other_turn w o)
  ending-seen o = either_way (IsOnRun w) (has_other_turn w o) (ending_turn w) (quiet w) (way-ending w w way-first) (way-first, tt)

  -- the law on the end of input
  pub finish-seen : AllByRecursion (NamesSeen w) (finish w).1
  finish-seen = (either_way (IsOnRun w) (is_some w.turn) (ending_turn w) (quiet w) (way-ending w w way-first) (way-first, tt)).1

-- a command other than `.`
abbrev IsNoEnd : Command → Type 0
IsNoEnd Command.end_turn = ⊥
IsNoEnd c = ⊤

-- What is asked of a world in which a command runs.
record IsGround (w : World) : Type 0 where
  world : IsWorld w
  known : (o : Owner) → IsKnown (part_of w o)
  first : (o : Owner) → IsThere w o → IsNodeIn (part_of w o).trees (first_node (part_of w o))

module _ (w : World) (g : IsGround w) (o : Owner) where
  -- the owner's part
  abbrev mine : Part
  mine = part_of w o

  -- its nodes are the owner's
  own-name : (x : NodeWord) → (named mine x).owner ≡ o
  own-name x = owner-named mine x ∙ owner-part_of w o

  -- nodes of the owner may be named
  own-values : (xs : List NodeName) → AllByRecursion (IsOf mine.owner) xs → AllByRecursion (IsNamed w o) xs
  own-values xs h = all-then (IsOf mine.owner) (IsNamed w o) (λ n e. own (e ∙ owner-part_of w o)) xs h

  -- an effect that names such nodes
  effect-named : (e : Effect) → OwnEffect mine.owner mine refl (g.known o) e → AllByRecursion (NamesSeen w) (effect_in w o e).1
  effect-named (tables q lines v) h =
      all-append (NamesSeen w) (map (says o) lines) (says o (replied v) ∷ [])
      (all-map (NamesSeen w) (says o) lines
      (all-then (OwnSaid mine.owner mine refl (g.known o)) (λ s. NamesSeen w (says o s))
      (λ s k. subst (λ a. NamesNodes w a s) (owner-part_of w o) (k w)) lines h.0)) (own-values (nodes_of_value v) h.1, tt)
  effect-named (changes steps v) h = (own-values (nodes_of_value v) h.1, tt)

  -- a node document
  document-named : (x : NodeWord) (m : Option NodeName) → (node_in mine.trees (named mine x)).document ≡ m →
      AllByRecursion (IsNamed w o) (nodes_of_value (node_or_null m))
  document-named x None e = tt
  document-named x (Some d) e = (
    document (named mine x) (own-name x) (ap (λ a. (node_in (part_of w a).trees (named mine x)).document) (own-name x) ∙ e),
    tt,
  )

  -- Assigned nodes are not hidden from their slot.
  assigned-shown : (s host : NodeName) → host_above w s ≡ Some host → (y : NodeName) → is_assigned_to w s y ≡ true → is_hidden_from w s y ≡ false
  assigned-shown s host above y a =
      by_slot (slot_of w y) refl a
    where
      root-among : (parent : NodeName) → host ≡ parent → IsInTree w y.owner y → IsInTree w y.owner parent → is_in name_eq (root_at w y) (map (root_at w)
          (host_chain w s)) ≡ true
      root-among parent same t up =
          let below = below-host w g.world s host above in
          let first = chain-first (owner_depth host.owner) w host in
          let is : root_at w y ≡ root_at w host = t.root ∙ sym (ap (root_at w) same ∙ up.root) in
          let found : name_eq (root_at w y) (root_at w host) ≡ true = ap (λ z. name_eq z (root_at w host)) is ∙ name_eq-same (root_at w host) in
          let rest = map (root_at w) first.0 in
          ap (λ xs. is_in name_eq (root_at w y) (map (root_at w) xs)) (chain-below w s host below ∙ ap (λ xs. s ∷ xs) first.1)
          ∙ or_right (name_eq (root_at w y) (root_at w s)) (is_in name_eq (root_at w y) (root_at w host ∷ rest))
          (or_left (name_eq (root_at w y) (root_at w host)) (is_in name_eq (root_at w y) rest) found)

      by_tree : (parent : NodeName) → host ≡ parent → parent_at w y ≡ Some parent → (o : Option NodeName) → host_above w y ≡ o → is_hidden_from w s y ≡ false
      by_tree parent same up None e = ap (λ (m : Option NodeName). is_some m && not (is_in name_eq (root_at w y) (shadow_including_ancestors w s))) e
      by_tree parent same up (Some h) e =
          let t = (below-host w g.world y h e).tree in
          let all = all-dropped (IsInTree w y.owner) (ancestors_at w y) (ancestors-in_tree w g.world y.owner y t) in
          let above = get-all (IsInTree w y.owner) (drop 1 (ancestors_at w y)) 0 parent all up in
          hidden-by_chain w g.world s y
          ∙ ap (λ b. is_in_shadow_tree w y && not b) (root-among parent same t above) ∙ and-false (is_in_shadow_tree w y)

      by_slot : (m : Option NodeName) → slot_of w y ≡ m → is_in name_eq s (option_to_list m) ≡ true → is_hidden_from w s y ≡ false
      by_slot None e h = absurd (true≢false (sym h))
      by_slot (Some z) e h =
          let same : s ≡ z = name_eq-true s z (or-nothing (name_eq s z) h) in
          let k = slot-is w (ground-of w g.world) y z e in
          let hosted : host_of w s.owner ≡ Some k.parent =
          ap (host_of w) (ap (λ (x : NodeName). x.owner) same ∙ k.owner)
          ∙ hosted-is w k.component k.parent (component-host w g.world.makers k.parent k.component k.hosted) in
          let both : Some host ≡ Some k.parent = sym (above-host w s host above).0 ∙ hosted in
          let is : host ≡ k.parent = cc in
          by_tree k.parent is k.below (host_above w y) refl
        where
          or-nothing : (b : Bool) → (b || false) ≡ true → b ≡ true
          or-nothing true h = refl
          or-nothing false h = h

  -- so they may be named
  assigned-named : (x : NodeWord) → AllByRecursion (IsNamed w o) (assigned_nodes w (named mine x))
  assigned-named x = from (host_above w (named mine x)) refl
    where
      s : NodeName
      s = named mine x

      from : (m : Option NodeName) → host_above w s ≡ m → AllByRecursion (IsNamed w o) (option_map_or (slottables_of w s) m [])
      from None e = tt
      from (Some host) e =
          all-passed (IsNamed w o) (is_assigned_to w s) (λ y a. in_sight s (own-name x) (assigned-shown s host e y a)) (children_of (trees_with w host) host)

  -- What an accepted command says, `.` apart.
  perform-seen : (c : Command) → IsThere w o → part_refusal mine c ≡ None → IsNoEnd c → AllByRecursion (NamesSeen w) (perform w o c).1
  perform-seen (Command.attach x) t h n = (tt, tt)
  perform-seen (Command.connected x) t h n = (tt, tt)
  perform-seen (Command.assigned x) t h n = (assigned-named x, tt)
  perform-seen (Command.dispatch x e r) t h n =
      let d = dispatch_in w (named mine x) (option_map (named mine) r) e in
      all-append (NamesSeen w) d.run.1 (says o (replied (a_truth d.answer)) ∷ [])
      (clear-dispatch w g.world (named mine x) (option_map (named mine) r) e) (tt, tt)
  perform-seen (Command.micro label) t h n = (tt, tt)
  perform-seen Command.end_turn t h n = absurd n
  perform-seen (Command.document_of x) t h n = (document-named x (node_in mine.trees (named mine x)).document refl, tt)
  perform-seen c t h n = effect-named (effect mine c) (own-effect mine (g.known o) (g.first o t) c tt h)

-- A world that the machine reaches is such a ground,
ground-reached : (w : World) → IsReached false w → IsWhole w → IsGround w
ground-reached w r whole = record { world = r.world; known = known w r whole; first = whole.first }

-- with the turn that a command opens.
ground-opened : (w : World) → IsReached false w → IsWhole w → (o : Owner) → IsGround (opening_turn w o)
ground-opened w r whole o = record {
  world = (quiet-opening w (sound w r) o).world;
  known = either_way (λ v. (a : Owner) → IsKnown (part_of v a)) (is_some w.turn) w (record w { turn = Some o }) (known w r whole) (known w r whole);
  first = either_way (λ v. (a : Owner) → IsThere v a → IsNodeIn (part_of v a).trees (first_node (part_of v a))) (is_some w.turn) w (record w { turn = Some o })
      whole.first whole.first;
}

module _ (w : World) (r : IsReached false w) (whole : IsWhole w) (o : Owner) where
  -- the turn changes no tree
  opened-alike : AreAlike (opening_turn w o) w
  opened-alike = either_way (λ v. AreAlike v w) (is_some w.turn) w (record w { turn = Some o }) same same
    where
      same : AreAlike w w
      same a = record { trees = refl; count = refl; attached = refl }

  -- an accepted command
  accepted-seen : (c : Command) → IsThere w o → part_refusal (part_of w o) c ≡ None → AllByRecursion (NamesSeen w) (accepted w o c).1
  accepted-seen Command.end_turn t h =
      all-append (NamesSeen w) (ending_turn w).1 (says o (replied nothing) ∷ []) (way-ending w w (way-first w r whole)).1 (tt, tt)
  accepted-seen c t h =
      let u = opening_turn w o in
      lines-alike u w opened-alike (perform u o c).1
      (perform-seen u (ground-opened w r whole o) o c
      (either_way (λ v. IsThere v o) (is_some w.turn) w (record w { turn = Some o }) t t) (ap (λ q. part_refusal q c) (part_of-opening w o o) ∙ h) tt)

  -- refused or accepted
  command-seen : (c : Command) → AllByRecursion (NamesSeen w) (run_command o c w).1
  command-seen c = from (refusal w o c) refl
    where
      from : (m : Option Refusal) → refusal w o c ≡ m → AllByRecursion (NamesSeen w) (unless_refused o m w (accepted w o c)).1
      from (Some a) e = (tt, tt)
      from None e = let a = accepted-facts w o c e in accepted-seen c a.there a.part

-- The laws: a line,
pub line-names_seen : LineNamesSeen
line-names_seen w r whole no_owner = (tt, tt)
line-names_seen w r whole (no_command o) =
    all-append (NamesSeen w) (ending_other_turn w o).1 (says o (refused Syntax) ∷ []) (ending-seen w r whole o).1 (tt, tt)
line-names_seen w r whole (command o c) =
    let u = (ending_other_turn w o).0 in
    let before = ending-seen w r whole o in
    all-append (NamesSeen w) (ending_other_turn w o).1 (run_command o c u).1 before.1
    (lines-alike u w before.0.alike (run_command o c u).1
    (command-seen u (ending-keeps_reached false w o r) (ending-keeps_whole false w o r whole) o c))

-- the end of input,
pub finish-names_seen : FinishNamesSeen
finish-names_seen w r whole = finish-seen w r whole

-- and a script
pub script-names_seen : {L : Type 0} (read : L → Line) → ScriptNamesSeen read
script-names_seen {L} read ls l =
    let k = reached ls first_world (first-is_reached false) first-is_whole in
    line-names_seen (run_lines first_world (map read ls)).0 k.0 k.1 (read l)
  where
    reached : (ls : List L) (w : World) → IsReached false w → IsWhole w → IsReached false (run_lines w (map read ls)).0 × IsWhole (run_lines w (map read ls)).0
    reached [] w r whole = (r, whole)
    reached (m ∷ ms) w r whole =
        reached ms (step w (read m)).0 (step-keeps_reached false w (read m) r (λ e. absurd (true≢false (sym e)))) (step-keeps_whole false w (read m) r whole)
