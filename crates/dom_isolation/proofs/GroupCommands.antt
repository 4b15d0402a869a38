-- A command of the group does the same to the group in two worlds of which the group has the same. After each line the group has tasks in a turn of its own
-- alone.
use Rattle.dom_base.proofs.Std.{◌≡◌, Bool, true, not, ◌&&◌, List, [], ◌∷◌, ◌++◌, length, map, filter, Option, Some, None, option_map, unwrap_or, sym, ap, ◌∙◌}
use Rattle.dom_base.proofs.Std.{false, refl, true≢false, option_to_list, AllByRecursion, last_or, option_or, filter-append}
use Rattle.dom_model.proofs.Model.{Owner, Page, NodeName, Shadow, Refusal, Syntax, Busy, Foreign, Unknown, Word, owner_eq, last_of, node_in, is_document}
use Rattle.dom_model.proofs.Model.{kind_of, Command, NodeWord, Line, no_owner, no_command, command, is_command_of, part_refusal, names_foreign, effect, Value}
use Rattle.dom_model.proofs.Model.{says, replied, nothing, a_component, a_list, a_truth, Part, Run, answering, unless_refused, first_refusal, named, Effect}
use Rattle.dom_model.proofs.Model.{tables, changes, World, micro_task, part_of, with_part, is_there, kind_at, is_connected, component_made}
use Rattle.dom_model.proofs.Model.{shadow_including_ancestors, world_after, assigned_nodes, is_page_turn, has_other_turn, ending_other_turn, opening_turn}
use Rattle.dom_model.proofs.Model.{refusal, effect_in, attaching, part_with_root, perform, accepted, step, KeepsMakers, group_world, group_outputs, group_run}
use Rattle.dom_model.proofs.Model.{is_task_of, group_turn, outward_words, owner-part_of, OutwardEvent, is_of, owner_of_line, outward_event, turn-dispatch_in}
use Rattle.dom_worlds.proofs.OwnerLemmas.{owner-named}
use Rattle.dom_worlds.proofs.CommandLemmas.{KeepsBase, base-effect, accepted-facts, Holds, holds-effect}
use Rattle.dom_worlds.proofs.ListLemmas.{by_cases}
use Rattle.dom_worlds.proofs.WorldLemmas.{turn-world_after}
use Rattle.dom_isolation.proofs.GroupSlots.{in_node, part-in, there-in, with_part-in, with_part-out, filter-here, IsGround, ground-of, assigned-in}
use Rattle.dom_isolation.proofs.GroupSteps.{IsSameGround, steps-in}
use Rattle.dom_isolation.proofs.GroupPaths.{In, including-in, including-inside}
use Rattle.dom_isolation.proofs.GroupDispatches.{same-ground, runs-then, outward_run, IsSameWorld}
use Rattle.dom_isolation.proofs.GroupTurns.{same-part, same-page_turn, tasks-dispatch, tasks-ending_turn, no_other-ended, calm-ended, opening-own, turn-kept}
use Rattle.dom_worlds.specs.Definitions.{IsReached, IsWhole}
use Rattle.dom_isolation.specs.Definitions.{IsCalm}
use Rattle.dom_isolation.proofs.OutsideCommands.{command_event-inside}

-- what holds of all holds of the last, or of another
last-all : (P : NodeName → Type 0) (d : Option NodeName) (xs : List NodeName) (x : NodeName) → AllByRecursion P xs → P (unwrap_or d x) →
    P (unwrap_or (last_or d xs) x)
last-all P d [] x a h = h
last-all P d (y ∷ ys) x a h = last-all P (Some y) ys x a.1 a.0

module _ (g : Owner → Bool) (closed : KeepsMakers g) where
  -- Refusals are the same.
  pub refusal-in : (w v : World) → group_world g w ≡ group_world g v → (o : Owner) → g o ≡ true → (c : Command) → refusal w o c ≡ refusal v o c
  refusal-in w v same o h c =
      let why : Bool → Bool → Part → Option Refusal = λ open_page there p. option_or
      (first_refusal ((not (is_command_of o c), Syntax) ∷ (open_page && not (owner_eq o Page), Busy) ∷ (names_foreign c, Foreign) ∷ (not there, Unknown) ∷ []))
      (part_refusal p c) in
      ap (λ b. why b (is_there w o) (part_of w o)) (same-page_turn g closed w v same)
      ∙ ap (λ b. why (is_page_turn v.turn) b (part_of w o)) (sym (there-in g w o h) ∙ ap (λ u. is_there u o) same ∙ there-in g v o h)
      ∙ ap (why (is_page_turn v.turn) (is_there v o)) (same-part g closed w v same o h)

  -- a world with the same reply
  answered : (o : Owner) (a : Value) (u v : World) → group_world g u ≡ group_world g v → group_run g (answering o a u) ≡ group_run g (answering o a v)
  answered o a u v same = ap (λ x. (x, group_outputs g (says o (replied a) ∷ []))) same

  -- Effects.
  pub effect-in : {w v : World} → IsSameGround g w v → (o : Owner) → g o ≡ true → (e : Effect) → KeepsBase (part_of w o) e →
      group_run g (effect_in w o e) ≡ group_run g (effect_in v o e)
  effect-in {w} {v} s o h (tables p lines a) k =
      let mine = ap g (k.0 ∙ owner-part_of w o) ∙ h in
      let here : group_world g (with_part w p) ≡ group_world g (with_part v p) =
      with_part-in g w p mine ∙ ap (λ u. with_part u p) s.same ∙ sym (with_part-in g v p mine) in
      runs-then g closed (with_part w p, map (says o) lines) (with_part v p, map (says o) lines) (answering o a) (answering o a)
      (ap (λ u. (u, group_outputs g (map (says o) lines))) here) (answered o a (with_part w p) (with_part v p) here)
  effect-in {w} {v} s o h (changes steps a) k =
      answered o a (world_after o w steps) (world_after o v steps) (steps-in g closed o h steps w v s)

  -- An attach writes the part of the group, and the new component's, which may be of the group or outside.
  attaching-in : (w v : World) → group_world g w ≡ group_world g v → (o : Owner) → g o ≡ true → (x : NodeName) →
      group_run g (attaching w o x) ≡ group_run g (attaching v o x)
  attaching-in w v same o h x =
      let made : World → Part → Run World = λ u p. answering o (a_component (component_made o (length p.attached)))
      (with_part (with_part u (record p { attached = p.attached ++ x ∷ [] }))
      (part_with_root (component_made o (length p.attached)) Shadow (node_in p.trees x).document)) in
      let p = part_of w o in
      let c = component_made o (length p.attached) in
      let q : Part = record p { attached = p.attached ++ x ∷ [] } in
      let root = part_with_root c Shadow (node_in p.trees x).document in
      let mine = ap g (owner-part_of w o) ∙ h in
      let marked : group_world g (with_part w q) ≡ group_world g (with_part v q) =
      with_part-in g w q mine ∙ ap (λ u. with_part u q) same ∙ sym (with_part-in g v q mine) in
      answered o (a_component c) (with_part (with_part w q) root) (with_part (with_part v q) root)
      (by_cases (g c)
      (λ t. with_part-in g (with_part w q) root t ∙ ap (λ u. with_part u root) marked ∙ sym (with_part-in g (with_part v q) root t))
      (λ t. with_part-out g (with_part w q) root t ∙ marked ∙ sym (with_part-out g (with_part v q) root t)))
      ∙ ap (λ p. group_run g (made v p)) (same-part g closed w v same o h)

  -- whether a node is connected
  connected-group : (w : World) → IsGround w → (x : NodeName) → in_node g x ≡ true → is_connected (group_world g w) x ≡ is_connected w x
  connected-group w i x h =
      let last = unwrap_or (last_of (shadow_including_ancestors w x)) x in
      ap (λ xs. is_document (kind_at (group_world g w) (unwrap_or (last_of xs) x))) (including-in g closed w i x h)
      ∙ ap (λ (p : Part). is_document (kind_of p.trees last))
      (part-in g w last.owner (last-all (In g closed w i) None (shadow_including_ancestors w x) x (including-inside g closed w i x h) h))

  -- a target and a related node of the group
  pub record AreOfGroup (x : NodeName) (r : Option NodeName) : Type 0 where
    pub target : in_node g x ≡ true
    pub related : AllByRecursion (λ y. in_node g y ≡ true) (option_to_list r)

  -- a microtask
  micro-in : (w v : World) → group_world g w ≡ group_world g v → (o : Owner) → g o ≡ true → (label : Word) →
      group_world g (record w { tasks = w.tasks ++ micro_task o label ∷ [] }) ≡ group_world g (record v { tasks = v.tasks ++ micro_task o label ∷ [] })
  micro-in w v same o h label =
      let more : (u : World) → filter (is_task_of g) (u.tasks ++ micro_task o label ∷ []) ≡ filter (is_task_of g) u.tasks ++ micro_task o label ∷ [] =
      λ u. filter-append (is_task_of g) u.tasks (micro_task o label ∷ [])
      ∙ ap (λ ts. filter (is_task_of g) u.tasks ++ ts) (filter-here (is_task_of g) (micro_task o label) [] h) in
      ap (λ ts. record (group_world g w) { tasks = ts }) (more w) ∙ ap (λ (u : World). record u { tasks = u.tasks ++ micro_task o label ∷ [] }) same
      ∙ sym (ap (λ ts. record (group_world g v) { tasks = ts }) (more v))

  -- The commands without events, in two worlds of which the group has the same.
  module _ {w v : World} (s : IsSameWorld g w v) (o : Owner) (h : g o ≡ true) where
    -- a word of the owner names a node of the group
    named-inside : (a : NodeWord) → in_node g (named (part_of w o) a) ≡ true
    named-inside a = ap g (owner-named (part_of w o) a ∙ owner-part_of w o) ∙ h

    -- an attach
    pub attach-alike : (a : NodeWord) → group_run g (perform w o (Command.attach a)) ≡ group_run g (perform v o (Command.attach a))
    attach-alike a =
        attaching-in w v s.same o h (named (part_of w o) a) ∙ ap (λ x. group_run g (attaching v o (named x a))) (same-part g closed w v s.same o h)

    -- what is asked of a node, and is the same of it in both
    asked-alike : {A : Type 0} (say : A → Value) (ask : World → NodeName → A) (a : NodeWord) →
        ask w (named (part_of w o) a) ≡ ask v (named (part_of w o) a) →
        group_run g (answering o (say (ask w (named (part_of w o) a))) w) ≡ group_run g (answering o (say (ask v (named (part_of v o) a))) v)
    asked-alike say ask a same =
        answered o (say (ask w (named (part_of w o) a))) w v s.same
        ∙ ap (λ b. group_run g (answering o (say b) v)) same
        ∙ ap (λ r. group_run g (answering o (say (ask v (named r a))) v)) (same-part g closed w v s.same o h)

    -- whether a node is connected
    pub connected-alike : (a : NodeWord) → group_run g (perform w o (Command.connected a)) ≡ group_run g (perform v o (Command.connected a))
    connected-alike a =
        let x = named (part_of w o) a in
        asked-alike a_truth is_connected a (sym (connected-group w (ground-of w s.first.world) x (named-inside a))
        ∙ ap (λ u. is_connected u x) s.same ∙ connected-group v (ground-of v s.second.world) x (named-inside a))

    -- what is assigned to a slot
    pub assigned-alike : (a : NodeWord) → group_run g (perform w o (Command.assigned a)) ≡ group_run g (perform v o (Command.assigned a))
    assigned-alike a =
        let x = named (part_of w o) a in
        asked-alike a_list assigned_nodes a (sym (assigned-in g closed w (ground-of w s.first.world) x (named-inside a))
        ∙ ap (λ u. assigned_nodes u x) s.same ∙ assigned-in g closed v (ground-of v s.second.world) x (named-inside a))

    -- a microtask
    pub micro-alike : (a : Word) → group_run g (perform w o (Command.micro a)) ≡ group_run g (perform v o (Command.micro a))
    micro-alike a =
        answered o nothing (record w { tasks = w.tasks ++ micro_task o a ∷ [] }) (record v { tasks = v.tasks ++ micro_task o a ∷ [] })
        (micro-in w v s.same o h a)

    -- any other
    pub effect-alike : (c : Command) → group_run g (effect_in w o (effect (part_of w o) c)) ≡ group_run g (effect_in v o (effect (part_of v o) c))
    effect-alike c =
        effect-in (same-ground s) o h (effect (part_of w o) c) (base-effect (part_of w o) c)
        ∙ ap (λ x. group_run g (effect_in v o (effect x c))) (same-part g closed w v s.same o h)

    -- the target and the related node of a dispatch are of the group
    pub words-inside : (a : NodeWord) (r : Option NodeWord) → AreOfGroup (named (part_of w o) a) (option_map (named (part_of w o)) r)
    words-inside a None = record { target = named-inside a; related = tt }
    words-inside a (Some b) = record { target = named-inside a; related = (named-inside b, tt) }

-- an effect leaves the turn
turn-effect : (w : World) (o : Owner) (e : Effect) → (effect_in w o e).0.turn ≡ w.turn
turn-effect w o (tables p lines a) = refl
turn-effect w o (changes steps a) = turn-world_after o steps w

-- what a command of a component does fits where it is accepted
pub fits : {only_log : Bool} (w : World) → IsReached only_log w → IsWhole w → (o : Owner) (c : Command) → refusal w o c ≡ None →
    Holds (part_of w o) (effect (part_of w o) c)
fits w r k o c e =
    let known = accepted-facts w o c e in
    holds-effect (part_of w o) (r.world.parts o) (k.tables o) (k.first o known.there) c known.part

module _ (g : Owner → Bool) (closed : KeepsMakers g) where
  -- Where the group has tasks, a turn of its own is open: outward events keep that,
  pub calm-outward : (w : World) → IsCalm g w → (o : Option OutwardEvent) → IsCalm g (outward_run w o).0
  calm-outward w calm None = calm
  calm-outward w calm (Some e) =
      λ h. ap (filter (is_task_of g)) (tasks-dispatch w e.host None (outward_words e))
      ∙ calm (sym (ap (group_turn g) (turn-dispatch_in w e.host None (outward_words e))) ∙ h)

  -- and so does each command of the group. In a turn of the group,
  open-calm : (w u : World) → is_of g w.turn ≡ true → u.turn ≡ w.turn → IsCalm g u
  open-calm w u t e h =
      let kept = turn-kept g closed w.turn t in
      let none : w.turn ≡ None = sym kept ∙ sym (ap (group_turn g) e) ∙ h in
      absurd (true≢false (sym t ∙ ap (is_of g) none))

  -- what a command does
  perform-calm : (w : World) (o : Owner) → is_of g w.turn ≡ true → (c : Command) → IsCalm g (perform w o c).0
  perform-calm w o t (Command.attach a) = open-calm w (perform w o (Command.attach a)).0 t refl
  perform-calm w o t (Command.connected a) = open-calm w (perform w o (Command.connected a)).0 t refl
  perform-calm w o t (Command.assigned a) = open-calm w (perform w o (Command.assigned a)).0 t refl
  perform-calm w o t (Command.dispatch a e r) =
      open-calm w (perform w o (Command.dispatch a e r)).0 t (turn-dispatch_in w (named (part_of w o) a) (option_map (named (part_of w o)) r) e)
  perform-calm w o t (Command.micro a) = open-calm w (perform w o (Command.micro a)).0 t refl
  perform-calm w o t Command.end_turn = λ h. ap (filter (is_task_of g)) (tasks-ending_turn w)
  perform-calm w o t c = open-calm w (perform w o c).0 t (turn-effect w o (effect (part_of w o) c))

  -- an accepted one
  accepted-calm : (w : World) (o : Owner) → g o ≡ true → has_other_turn w o ≡ false → (c : Command) → IsCalm g (accepted w o c).0
  accepted-calm w o h a Command.end_turn = λ t. ap (filter (is_task_of g)) (tasks-ending_turn w)
  accepted-calm w o h a c = perform-calm (opening_turn w o) o (opening-own g closed w o h a) c

  -- a line
  pub calm-in : (w : World) → IsCalm g w → (l : Line) → is_of g (owner_of_line l) ≡ true → IsCalm g (step w l).0
  calm-in w calm no_owner h = calm
  calm-in w calm (no_command o) h = calm-ended g closed w calm o
  calm-in w calm (command o c) h = from (refusal u o c)
    where
      u : World
      u = (ending_other_turn w o).0

      from : (r : Option Refusal) → IsCalm g (unless_refused o r u (accepted u o c)).0
      from (Some r) = calm-ended g closed w calm o
      from None = accepted-calm u o h (no_other-ended w o) c

-- the host of a line's outward event is of the group
pub event-host : (g : Owner → Bool) (w : World) (l : Line) (e : OutwardEvent) → outward_event g w l ≡ Some e → in_node g e.host ≡ true
event-host g w no_owner e h = cc
event-host g w (no_command o) e h = cc
event-host g w (command o c) e h = command_event-inside g (ending_other_turn w o).0 o c e h
