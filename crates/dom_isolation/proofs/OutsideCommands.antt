-- A command of a component outside the group does nothing to the group, or what its outward event does.
use Rattle.dom_base.proofs.Std.{◌≡◌, ℕ, Bool, true, false, not, ◌&&◌, List, [], ◌∷◌, ◌++◌, length, map, filter, Option, Some, None, option_map, refl, sym, ap}
use Rattle.dom_base.proofs.Std.{◌∙◌, subst, true≢false, append-nil, is_none, if◌then◌else◌, option_map_or, filter-append}
use Rattle.dom_model.proofs.Model.{Owner, Page, Component, NodeName, Shadow, Refusal, Word, ComponentName, owner_eq, node_in, Command, NodeWord, EventWords}
use Rattle.dom_model.proofs.Model.{part_refusal, effect, Output, Said, Value, says, replied, refused, nothing, a_truth, a_component, Part, Run, run_then}
use Rattle.dom_model.proofs.Model.{answering, unless_refused, named, Effect, tables, changes, World, micro_task, part_of, with_part, component_made, host_chain}
use Rattle.dom_model.proofs.Model.{world_after, dispatch_in, ending_turn, opening_turn, has_other_turn, is_other_component, is_page_turn, refusal, effect_in}
use Rattle.dom_model.proofs.Model.{attaching, part_with_root, perform, accepted, run_command, KeepsMakers, group_world, group_outputs, group_run, is_task_of}
use Rattle.dom_model.proofs.Model.{OutwardEvent, is_of, owner_of_output, outward_of, outward_dispatch, outward_command, boundary_host, owner_eq-true}
use Rattle.dom_model.proofs.Model.{owner-part_of}
use Rattle.dom_worlds.specs.Definitions.{Invariant}
use Rattle.dom_isolation.specs.Definitions.{first_record, interference_at, accepted_records, command_records, IsCalm}
use Rattle.dom_worlds.proofs.CommandLemmas.{accepted-facts, attach-may, Holds, KeepsBase, base-effect}
use Rattle.dom_worlds.proofs.TurnLemmas.{part_of-opening}
use Rattle.dom_worlds.proofs.OwnerLemmas.{owner-named}
use Rattle.dom_worlds.proofs.ListLemmas.{by_cases, and-true_false}
use Rattle.dom_isolation.proofs.ComponentCommands.{opened-event, related-same_root, outward-same}
use Rattle.dom_isolation.proofs.GroupDispatches.{outward_at, outward_told, quiet-then, touched-out, IsSameWorld}
use Rattle.dom_isolation.proofs.GroupSlots.{in_node, with_part-out, filter-away, IsGround, ground-of, made-outside}
use Rattle.dom_isolation.proofs.GroupSteps.{steps-out}
use Rattle.dom_isolation.proofs.OutsideViews.{found-passes}
use Rattle.dom_isolation.proofs.GroupTurns.{ending-out, turn-none, same-turn, same-calm, opening-out, opened-quiet}

-- the host of an outward event is of the group
pub event-inside : (g : Owner → Bool) (w : World) (o : Owner) (c : Command) (e : OutwardEvent) → outward_dispatch g w o c ≡ Some e → in_node g e.host ≡ true
event-inside g w o (Command.dispatch x words None) e h =
    by_test (not (g o) && words.composed) (boundary_host g w (named (part_of w o) x)) refl h
  where
    by_test : (b : Bool) (m : Option NodeName) → boundary_host g w (named (part_of w o) x) ≡ m →
        (if b then option_map (outward_of words) m else None) ≡ Some e → in_node g e.host ≡ true
    by_test true None t k = cc
    by_test true (Some host) t k =
        let same : outward_of words host ≡ e = cc in
        ap (λ (e : OutwardEvent). g e.host.owner) (sym same) ∙ found-passes (in_node g) (host_chain w (named (part_of w o) x)) host t
    by_test false m t k = cc
event-inside g w o (Command.dispatch x words (Some y)) e h = cc
event-inside g w o c e h = cc

-- of a command, where it is accepted
pub command_event-inside : (g : Owner → Bool) (w : World) (o : Owner) (c : Command) (e : OutwardEvent) → outward_command g w o c ≡ Some e →
    in_node g e.host ≡ true
command_event-inside g w o c e h = by_test (is_none (refusal w o c)) h
  where
    by_test : (b : Bool) → (if b then outward_dispatch g w o c else None) ≡ Some e → in_node g e.host ≡ true
    by_test true k = event-inside g w o c e k
    by_test false k = cc

-- a command of a component outside the group passes, in a world that is calm and whose open turn is not the group's
record PassesOutside (g : Owner → Bool) (w : World) (k : ComponentName) (c : Command) : Type 0 where
  invariant : Invariant false w
  outside : g (Component k) ≡ false
  calm : IsCalm g w
  other_turn : is_of g w.turn ≡ false
  passes : part_refusal (part_of w (Component k)) c ≡ None
  fits : Holds (part_of w (Component k)) (effect (part_of w (Component k)) c)

module _ (g : Owner → Bool) (closed : KeepsMakers g) where
  -- a run of which the group has nothing
  abbrev pub ShowsNothing : World → Run World → Type 0
  ShowsNothing w r = group_run g r ≡ (group_world g w, [])

  -- a reply of a component outside
  answered-out : (o : Owner) → g o ≡ false → (a : Value) (w u : World) → group_world g u ≡ group_world g w → ShowsNothing w (answering o a u)
  answered-out o h a w u same =
      ap (λ x. (x, group_outputs g (says o (replied a) ∷ []))) same
      ∙ ap (λ ls. (group_world g w, ls)) (filter-away (λ l. is_of g (owner_of_output l)) (says o (replied a)) [] h)

  -- its lines
  says-out : (o : Owner) → g o ≡ false → (ls : List Said) → group_outputs g (map (says o) ls) ≡ []
  says-out o h [] = refl
  says-out o h (s ∷ ls) = filter-away (λ l. is_of g (owner_of_output l)) (says o s) (map (says o) ls) h ∙ says-out o h ls

  -- Effects.
  effect-out : {w : World} → IsGround w → (o : Owner) → g o ≡ false → (e : Effect) → KeepsBase (part_of w o) e → Holds (part_of w o) e →
      ShowsNothing w (effect_in w o e)
  effect-out {w} i o h (tables p lines a) k f =
      let here = with_part-out g w p (ap g (k.0 ∙ owner-part_of w o) ∙ h) in
      quiet-then g closed (with_part w p, map (says o) lines) w (answering o a) (w, [])
      (ap (λ u. (u, group_outputs g (map (says o) lines))) here ∙ ap (λ ls. (group_world g w, ls)) (says-out o h lines))
      (answered-out o h a w (with_part w p) here)
  effect-out {w} i o h (changes steps a) k f = answered-out o h a w (world_after o w steps) (steps-out g closed o h steps w i f)

  -- An attach writes two parts outside.
  attaching-out : (w : World) (o : Owner) → g o ≡ false → (x : NodeName) → g (component_made o (length (part_of w o).attached)) ≡ false →
      ShowsNothing w (attaching w o x)
  attaching-out w o h x t =
      let p = part_of w o in
      let c = component_made o (length p.attached) in
      let q : Part = record p { attached = p.attached ++ x ∷ [] } in
      let root = part_with_root c Shadow (node_in p.trees x).document in
      answered-out o h (a_component c) w (with_part (with_part w q) root)
      (with_part-out g (with_part w q) root t ∙ with_part-out g w q (ap g (owner-part_of w o) ∙ h))

  -- a reply that is not the group's, after a run
  quiet_reply : (o : Owner) → g o ≡ false → (u s : Run World) (v : Value) → group_run g u ≡ group_run g s →
      group_run g (run_then u (answering o v)) ≡ group_run g s
  quiet_reply o h u s v same =
      let test : Output → Bool = λ l. is_of g (owner_of_output l) in
      ap (λ ls. (group_world g u.0, ls))
      (filter-append test u.1 (says o (replied v) ∷ []) ∙ ap (λ ls. group_outputs g u.1 ++ ls) (filter-away test (says o (replied v)) [] h)
      ∙ append-nil (group_outputs g u.1))
      ∙ same

  -- The commands without events, which show the group nothing.
  module _ {w : World} {k : ComponentName} {c : Command} (out : PassesOutside g w k c) where
    -- an attach
    attach-silent : (a : NodeWord) → part_refusal (part_of w (Component k)) (Command.attach a) ≡ None →
        ShowsNothing w (perform w (Component k) (Command.attach a))
    attach-silent a passes =
        let o = Component k in
        attaching-out w o out.outside (named (part_of w o) a)
        (made-outside g closed o (length (part_of w o).attached) (attach-may w o a passes) out.outside)

    -- a reply
    reply-silent : (a : Value) → ShowsNothing w (answering (Component k) a w)
    reply-silent a = answered-out (Component k) out.outside a w w refl

    -- a microtask
    micro-silent : (a : Word) → ShowsNothing w (perform w (Component k) (Command.micro a))
    micro-silent a =
        let u : World = record w { tasks = w.tasks ++ micro_task (Component k) a ∷ [] } in
        answered-out (Component k) out.outside nothing w u
        (ap (λ ts. record (group_world g w) { tasks = ts })
        (filter-append (is_task_of g) w.tasks (micro_task (Component k) a ∷ [])
        ∙ ap (λ ts. filter (is_task_of g) w.tasks ++ ts) (filter-away (is_task_of g) (micro_task (Component k) a) [] out.outside)
        ∙ append-nil (filter (is_task_of g) w.tasks)))

    -- the ending of its turn
    end_turn-silent : ShowsNothing w (perform w (Component k) Command.end_turn)
    end_turn-silent =
        let first = ending-out g closed w out.invariant out.calm (turn-none g closed w.turn out.other_turn) in
        quiet-then g closed (ending_turn w) w (answering (Component k) nothing) (w, []) first
        (answered-out (Component k) out.outside nothing w (ending_turn w).0 (ap (λ (r : Run World). r.0) first))

    -- any other
    effect-silent : ShowsNothing w (effect_in w (Component k) (effect (part_of w (Component k)) c))
    effect-silent =
        effect-out (ground-of w out.invariant.world) (Component k) out.outside (effect (part_of w (Component k)) c) (base-effect (part_of w (Component k)) c)
        out.fits

  -- The turn that is open before a line of a component outside, where it is not the page's, is not the group's.
  turn-out : (w : World) (k : ComponentName) → g (Component k) ≡ false → has_other_turn w (Component k) ≡ false → is_page_turn w.turn ≡ false →
      is_of g w.turn ≡ false
  turn-out w k h a b = from w.turn a b
    where
      from : (t : Option Owner) → option_map_or (is_other_component (Component k)) t false ≡ false → is_page_turn t ≡ false →
          is_of g t ≡ false
      from None a b = refl
      from (Some Page) a b = absurd (true≢false b)
      from (Some (Component j)) a b =
          by_cases (owner_eq (Component j) (Component k))
          (λ s. ap g (owner_eq-true (Component j) (Component k) s) ∙ h) (λ s. absurd (true≢false (sym (ap not s) ∙ a)))

  -- In the turn that a command opens it passes too,
  passes-opened : {w : World} {k : ComponentName} {c : Command} → PassesOutside g w k c → PassesOutside g (opening_turn w (Component k)) k c
  passes-opened {w} {k} {c} out =
      let o = Component k in
      let u = opening_turn w o in
      let same = opening-out g closed w o out.outside in
      record {
        invariant = opened-quiet w out.invariant o;
        outside = out.outside;
        calm = same-calm g closed w u (sym same) out.calm;
        other_turn = by_cases (is_of g u.turn)
            (λ e. absurd (true≢false (sym e ∙ ap (is_of g) (same-turn g closed u w same e) ∙ out.other_turn))) (λ e. e);
        passes = ap (λ x. part_refusal x c) (part_of-opening w o o) ∙ out.passes;
        fits = subst (λ x. Holds x (effect x c)) (sym (part_of-opening w o o)) out.fits;
      }

  -- What an accepted command passes.
  module _ {w : World} {k : ComponentName} (q : Invariant false w) (h : g (Component k) ≡ false) (calm : IsCalm g w) where
    -- where no other component's turn is open
    accepted-passes : has_other_turn w (Component k) ≡ false → (c : Command) → refusal w (Component k) c ≡ None →
        Holds (part_of w (Component k)) (effect (part_of w (Component k)) c) → PassesOutside g w k c
    accepted-passes a c e f =
        let known = accepted-facts w (Component k) c e in
        record {
          invariant = q;
          outside = h;
          calm = calm;
          other_turn = turn-out w k h a (and-true_false (is_page_turn w.turn) known.calm);
          passes = known.part;
          fits = f;
        }

  -- Whatever others' listeners do: how far they let the event of a command come, if it has one.
  abbrev reached_in : World → Owner → Command → Option ℕ
  reached_in w o (Command.dispatch x e r) = (interference_at g w (named (part_of w o) x) (option_map (named (part_of w o)) r) e).reached
  reached_in w o c = None

  -- what the group has of a run, and what outward events do in the silent run
  abbrev pub ShowsTold : World → Run World → Option ℕ → Option OutwardEvent → Type 0
  ShowsTold v r reached e = group_run g r ≡ group_run g (outward_told g closed reached v e)

  -- a run that shows nothing, in another world of which the group has the same
  nothing-told : {w v : World} → IsSameWorld g w v → (r : Run World) → ShowsNothing w r → ShowsTold v r None None
  nothing-told s r h = h ∙ ap (λ u. (u, [])) s.same

  -- Two worlds of which the group has the same, and a component outside.
  module _ {w v : World} (s : IsSameWorld g w v) (k : ComponentName) where
    -- a dispatch
    pub touched_dispatch-out : g (Component k) ≡ false → (x : NodeWord) (e : EventWords) (r : Option NodeWord) →
        part_refusal (part_of w (Component k)) (Command.dispatch x e r) ≡ None →
        ShowsTold v (perform w (Component k) (Command.dispatch x e r)) (reached_in w (Component k) (Command.dispatch x e r))
        (outward_dispatch g w (Component k) (Command.dispatch x e r))
    touched_dispatch-out h x e r a =
        let o = Component k in
        let p = part_of w o in
        let d = dispatch_in w (named p x) (option_map (named p) r) e in
        let reached = reached_in w o (Command.dispatch x e r) in
        let shown = touched-out g closed s (named p x) (option_map (named p) r) e (ap g (owner-named p x ∙ owner-part_of w o) ∙ h)
        (related-same_root w k x e r a) in
        quiet_reply o h d.run (outward_told g closed reached v (outward_at g w (named p x) e (option_map (named p) r))) (a_truth d.answer) shown
        ∙ ap (λ b. group_run g (outward_told g closed reached v b)) (outward-same g w h x e r)

    -- Any accepted command.
    touched_perform-out : (c : Command) → PassesOutside g w k c →
        ShowsTold v (perform w (Component k) c) (reached_in w (Component k) c) (outward_dispatch g w (Component k) c)
    touched_perform-out (Command.attach a) out = nothing-told s (perform w (Component k) (Command.attach a)) (attach-silent out a out.passes)
    touched_perform-out (Command.connected a) out = nothing-told s (perform w (Component k) (Command.connected a)) (reply-silent out _)
    touched_perform-out (Command.assigned a) out = nothing-told s (perform w (Component k) (Command.assigned a)) (reply-silent out _)
    touched_perform-out (Command.dispatch a b c) out = touched_dispatch-out out.outside a b c out.passes
    touched_perform-out (Command.micro a) out = nothing-told s (perform w (Component k) (Command.micro a)) (micro-silent out a)
    touched_perform-out Command.end_turn out = nothing-told s (perform w (Component k) Command.end_turn) (end_turn-silent out)
    touched_perform-out c out = nothing-told s (perform w (Component k) c) (effect-silent out)

  -- with the turn that it opens
  touched_opened : {w v : World} → IsSameWorld g w v → (k : ComponentName) (c : Command) → PassesOutside g w k c →
      ShowsTold v (perform (opening_turn w (Component k)) (Component k) c) (reached_in (opening_turn w (Component k)) (Component k) c)
      (outward_dispatch g w (Component k) c)
  touched_opened {w} {v} s k c out =
      let o = Component k in
      let u = opening_turn w o in
      touched_perform-out (record { first = opened-quiet w s.first o; second = s.second; same = opening-out g closed w o out.outside ∙ s.same }) k c
      (passes-opened out)
      ∙ ap (λ e. group_run g (outward_told g closed (reached_in u o c) v e)) (opened-event g w o c)

  -- `.` apart, which opens none
  touched_accepted-out : {w v : World} → IsSameWorld g w v → (k : ComponentName) (c : Command) → PassesOutside g w k c →
      ShowsTold v (accepted w (Component k) c) (first_record (accepted_records g w (Component k) c)).reached (outward_dispatch g w (Component k) c)
  touched_accepted-out s k Command.end_turn out = touched_perform-out s k Command.end_turn out
  touched_accepted-out s k c out = touched_opened s k c out

  -- A command, refused or accepted.
  module _ {w v : World} (s : IsSameWorld g w v) (k : ComponentName) (h : g (Component k) ≡ false) where
    -- what it does fits where it is accepted
    pub touched_command-out : IsCalm g w → has_other_turn w (Component k) ≡ false →
        (c : Command) → (refusal w (Component k) c ≡ None → Holds (part_of w (Component k)) (effect (part_of w (Component k)) c)) →
        ShowsTold v (run_command (Component k) c w) (first_record (command_records g w (Component k) c)).reached (outward_command g w (Component k) c)
    touched_command-out calm a c f = from (refusal w (Component k) c) refl
      where
        Case : Option Refusal → Type 0
        Case r =
            ShowsTold v (unless_refused (Component k) r w (accepted w (Component k) c))
            (first_record (if is_none r then accepted_records g w (Component k) c else [])).reached
            (if is_none r then outward_dispatch g w (Component k) c else None)

        from : (r : Option Refusal) → refusal w (Component k) c ≡ r → Case r
        from (Some r) e =
            ap (λ ls. (group_world g w, ls)) (filter-away (λ l. is_of g (owner_of_output l)) (says (Component k) (refused r)) [] h)
            ∙ ap (λ u. (u, [])) s.same
        from None e = touched_accepted-out s k c (accepted-passes s.first h calm a c e (f e))
