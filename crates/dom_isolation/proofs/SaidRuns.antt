-- What holds of all parts and tasks of a world and of all that is said: runs keep it where visits, notifications and the effects of commands do.
use Rattle.dom_base.proofs.Std.{◌≡◌, refl, length, List, [], ◌∷◌, ◌++◌, filter, fold, map, Option, None, Some, option_map, ⊤, is_some, AllByRecursion}
use Rattle.dom_model.proofs.Model.{Owner, NodeName, Shadow, Refusal, Syntax, Word, name_eq, node_in, Command, Line, no_owner, no_command, command, EventWords}
use Rattle.dom_model.proofs.Model.{effect, named, world_visit, visits_of, dispatch_in, event_output, first_world, part_with_root, refusal, effect_in, perform}
use Rattle.dom_model.proofs.Model.{accepted, run_command, step, run_lines, finish, outputs_of, Effect, tables, changes, Visit, Dispatching, after_invoke, begun}
use Rattle.dom_model.proofs.Model.{Output, bad_owner, says, replied, refused, micro_ran, Value, a_tree, EventLine, Part, views, Run, quiet, run_then, run_each}
use Rattle.dom_model.proofs.Model.{answering, refusing, unless_refused, Step, notified, notified_lines, slotchange, firing_slotchange, is_owned_by}
use Rattle.dom_model.proofs.Model.{without_signals, running_task, ending_turn, has_other_turn, ending_other_turn, ending_any_turn, opening_turn, World, Task}
use Rattle.dom_model.proofs.Model.{micro_task, notify_task, part_of, with_part, component_made, owner-part_of}
use Rattle.dom_worlds.proofs.ListLemmas.{all-append, all-from, all-map, either_way}
use Rattle.dom_worlds.proofs.WorldLemmas.{HoldsIn, IsKeptIn, holds-with_part, holds-world_after}

-- a run to such a world, which says such lines
abbrev pub SaysIn : (Part → Type 0) → (Task → Type 0) → (Output → Type 0) → Run World → Type 0
SaysIn Inv IsTask IsSaid r = HoldsIn Inv IsTask r.0 × AllByRecursion IsSaid r.1

-- the line of a call of a listener
abbrev pub IsSaidEvent : (Output → Type 0) → EventLine NodeName → Type 0
IsSaidEvent IsSaid l = IsSaid (event_output l)

-- a reply other than a tree
abbrev pub HasNoTree : Value → Type 0
HasNoTree (a_tree ts) = ⊥
HasNoTree v = ⊤

-- an effect that leaves such a part, or makes such steps, and says such lines
abbrev pub SaysEffect : (Part → Type 0) → (Step → Type 0) → (Output → Type 0) → Owner → Effect → Type 0
SaysEffect Inv May IsSaid o (tables p lines v) = Inv p × AllByRecursion IsSaid (map (says o) lines) × IsSaid (says o (replied v))
SaysEffect Inv May IsSaid o (changes steps v) = AllByRecursion May steps × IsSaid (says o (replied v))

-- What is asked, of parts, steps, tasks, what is said, lines of input, and accepted commands.
pub record KeepsSaying (Inv : Part → Type 0) (May : Step → Type 0) (IsTask : Task → Type 0) (IsSaid : Output → Type 0) (MayCome : Line → Type 0)
    (MayRun : Owner → Command → Type 0) : Type 0 where
  pub steps : IsKeptIn Inv May IsTask
  pub visit : (e : EventWords) (v : Visit NodeName) (p : Part) (d : Dispatching NodeName) → p.owner ≡ v.current.owner → Inv p →
      AllByRecursion (IsSaidEvent IsSaid) d.lines → let heard = after_invoke name_eq e (record d { listeners = p.listeners }) v in
      Inv (record p { listeners = heard.listeners }) × AllByRecursion (IsSaidEvent IsSaid) heard.lines
  pub notified : (p : Part) → Inv p → Inv (notified p) × AllByRecursion IsSaid (notified_lines p)
  pub ran : (o : Owner) (label : Word) → IsTask (micro_task o label) → IsSaid (says o (micro_ran label))
  pub nobody : IsSaid bad_owner
  pub wordless : (o : Owner) → MayCome (no_command o) → IsSaid (says o (refused Syntax))
  pub refused : (o : Owner) (c : Command) (r : Refusal) → MayCome (command o c) → IsSaid (says o (refused r))
  pub replied : (o : Owner) (c : Command) (v : Value) → HasNoTree v → MayRun o c → IsSaid (says o (replied v))
  pub micro : (o : Owner) (label : Word) → MayRun o (Command.micro label) → IsTask (micro_task o label)
  pub attached : (p : Part) (x : NodeName) → Inv p → Inv (record p { attached = p.attached ++ x ∷ [] })
  pub root : (o : Owner) (d : Option NodeName) → Inv (part_with_root o Shadow d)
  pub effect : (o : Owner) (c : Command) (p : Part) → p.owner ≡ o → Inv p → MayRun o c → SaysEffect Inv May IsSaid o (effect p c)
  pub first : (o : Owner) → Inv (part_of first_world o)

-- a line that may come, and whose command may run if it is accepted
abbrev pub IsGoodLine : (Line → Type 0) → (Owner → Command → Type 0) → World → Line → Type 0
IsGoodLine MayCome MayRun w no_owner = ⊤
IsGoodLine MayCome MayRun w (no_command o) = MayCome (no_command o)
IsGoodLine MayCome MayRun w (command o c) = MayCome (command o c) × (refusal (ending_other_turn w o).0 o c ≡ None → MayRun o c)

-- one that is so in every world
abbrev pub IsGood : (Line → Type 0) → (Owner → Command → Type 0) → Line → Type 0
IsGood MayCome MayRun l = (w : World) → IsGoodLine MayCome MayRun w l

module _ {Inv : Part → Type 0} {May : Step → Type 0} {IsTask : Task → Type 0} {IsSaid : Output → Type 0} {MayCome : Line → Type 0}
    {MayRun : Owner → Command → Type 0} (k : KeepsSaying Inv May IsTask IsSaid MayCome MayRun) where
  -- such a world, and such a run
  abbrev In : World → Type 0
  In w = HoldsIn Inv IsTask w

  -- such a run
  abbrev Says : Run World → Type 0
  Says r = SaysIn Inv IsTask IsSaid r

  -- one run and then another
  says-then : (r : Run World) (f : World → Run World) → Says r → (In r.0 → Says (f r.0)) → Says (run_then r f)
  says-then r f h g = let more = g h.0 in (more.0, all-append IsSaid r.1 (f r.0).1 h.1 more.1)

  -- a run for each item
  says-each : {A : Type 0} (P : A → Type 0) (f : World → A → Run World) → ((w : World) (x : A) → In w → P x → Says (f w x)) → (xs : List A) {w : World} →
      In w → AllByRecursion P xs → Says (run_each f w xs)
  says-each P f g [] h all = (h, tt)
  says-each P f g (x ∷ xs) {w} h all = says-then (f w x) (λ v. run_each f v xs) (g w x h all.0) (λ i. says-each P f g xs i all.1)

  -- Visits,
  says-visits : (e : EventWords) (vs : List (Visit NodeName)) (w : World) (d : Dispatching NodeName) → In w → AllByRecursion (IsSaidEvent IsSaid) d.lines →
      In (fold (world_visit e) (w, d) vs).0 × AllByRecursion (IsSaidEvent IsSaid) (fold (world_visit e) (w, d) vs).1.lines
  says-visits e [] w d h g = (h, g)
  says-visits e (v ∷ vs) w d h g =
      let o = v.current.owner in
      let p = part_of w o in
      let heard = after_invoke name_eq e (record d { listeners = p.listeners }) v in
      let one = k.visit e v p d (owner-part_of w o) (h.parts o) g in
      says-visits e vs (with_part w (record p { listeners = heard.listeners })) heard
      (holds-with_part k.steps w (record p { listeners = heard.listeners }) h one.0) one.1

  -- a dispatch,
  pub says-dispatch : (w : World) (x : NodeName) (r : Option NodeName) (e : EventWords) → In w → Says (dispatch_in w x r e).run
  says-dispatch w x r e h =
      let vs = visits_of name_eq e.bubbles (views w x r e.composed) in
      let end = says-visits e vs w (begun []) h tt in
      (end.0, all-map IsSaid event_output (fold (world_visit e) (w, begun []) vs).1.lines end.1)

  -- the first part of a notification,
  pub says-told : (w : World) (o : Owner) → In w → In (with_part (without_signals w o) (notified (part_of w o)))
  says-told w o h =
      holds-with_part k.steps (without_signals w o) (notified (part_of w o)) (record { parts = h.parts; tasks = h.tasks })
      (k.notified (part_of w o) (h.parts o)).0

  -- a task,
  pub says-running : (w : World) (t : Task) → In w → IsTask t → Says (running_task w t)
  says-running w (micro_task o label) h g = (h, (k.ran o label g, tt))
  says-running w (notify_task o) h g =
      let slots = filter (is_owned_by o) w.signalled in
      says-then (with_part (without_signals w o) (notified (part_of w o)), notified_lines (part_of w o)) (λ v. run_each firing_slotchange v slots)
      (says-told w o h, (k.notified (part_of w o) (h.parts o)).1)
      (λ i. says-each (λ s. ⊤) firing_slotchange (λ u s j t. says-dispatch u s None slotchange j) slots i (all-from (λ s. ⊤) (λ s. tt) slots))

  -- the ending of a turn,
  pub says-ending : (w : World) → In w → Says (ending_turn w)
  says-ending w h = says-each IsTask running_task says-running w.tasks (record { parts = h.parts; tasks = tt }) h.tasks

  -- of another component's turn,
  pub says-ending_other : (w : World) (o : Owner) → In w → Says (ending_other_turn w o)
  says-ending_other w o h = either_way Says (has_other_turn w o) (ending_turn w) (quiet w) (says-ending w h) (h, tt)

  -- and at the end of input.
  says-ending_any : (w : World) → In w → Says (ending_any_turn w)
  says-ending_any w h = either_way Says (is_some w.turn) (ending_turn w) (quiet w) (says-ending w h) (h, tt)

  -- An effect,
  says-effect : (w : World) (o : Owner) (e : Effect) → In w → SaysEffect Inv May IsSaid o e → Says (effect_in w o e)
  says-effect w o (tables p lines v) h g =
      says-then (with_part w p, map (says o) lines) (answering o v) (holds-with_part k.steps w p h g.0, g.1) (λ i. (i, (g.2, tt)))
  says-effect w o (changes steps v) h g = (holds-world_after k.steps o steps w h g.0, (g.1, tt))

  -- a command,
  says-perform : (w : World) (o : Owner) (c : Command) → In w → MayRun o c → Says (perform w o c)
  says-perform w o (Command.attach x) h g =
      let p = part_of w o in
      let q : Part = record p { attached = p.attached ++ named p x ∷ [] } in
      let root = part_with_root (component_made o (length p.attached)) Shadow (node_in p.trees (named p x)).document in (
        holds-with_part k.steps (with_part w q) root (holds-with_part k.steps w q h (k.attached p (named p x) (h.parts o)))
            (k.root (component_made o (length p.attached)) (node_in p.trees (named p x)).document),
        (k.replied o (Command.attach x) _ tt g, tt),
      )
  says-perform w o (Command.connected x) h g = (h, (k.replied o (Command.connected x) _ tt g, tt))
  says-perform w o (Command.assigned x) h g = (h, (k.replied o (Command.assigned x) _ tt g, tt))
  says-perform w o (Command.dispatch x e r) h g =
      let p = part_of w o in
      says-then (dispatch_in w (named p x) (option_map (named p) r) e).run (answering o _) (says-dispatch w (named p x) (option_map (named p) r) e h)
      (λ i. (i, (k.replied o (Command.dispatch x e r) _ tt g, tt)))
  says-perform w o (Command.micro label) h g = (
    record { parts = h.parts; tasks = all-append IsTask w.tasks (micro_task o label ∷ []) h.tasks (k.micro o label g, tt) },
    (k.replied o (Command.micro label) _ tt g, tt),
  )
  says-perform w o Command.end_turn h g =
      says-then (ending_turn w) (answering o _) (says-ending w h) (λ i. (i, (k.replied o Command.end_turn _ tt g, tt)))
  says-perform w o c h g =
      says-effect w o (effect (part_of w o) c) h (k.effect o c (part_of w o) (owner-part_of w o) (h.parts o) g)

  -- with the turn that it opens,
  says-accepted : (w : World) (o : Owner) (c : Command) → In w → MayRun o c → Says (accepted w o c)
  says-accepted w o Command.end_turn h g = says-perform w o Command.end_turn h g
  says-accepted w o c h g =
      says-perform (opening_turn w o) o c
      (either_way In (is_some w.turn) w (record w { turn = Some o }) h (record { parts = h.parts; tasks = h.tasks })) g

  -- refused or accepted,
  says-run_command : (o : Owner) (c : Command) (w : World) → In w → MayCome (command o c) → (refusal w o c ≡ None → MayRun o c) → Says (run_command o c w)
  says-run_command o c w h come run = from (refusal w o c) refl
    where
      from : (r : Option Refusal) → refusal w o c ≡ r → Says (unless_refused o r w (accepted w o c))
      from (Some r) e = (h, (k.refused o c r come, tt))
      from None e = says-accepted w o c h (run e)

  -- a line,
  pub says-line : (w : World) (l : Line) → In w → IsGoodLine MayCome MayRun w l → Says (step w l)
  says-line w no_owner h g = (h, (k.nobody, tt))
  says-line w (no_command o) h g =
      says-then (ending_other_turn w o) (refusing o Syntax) (says-ending_other w o h) (λ i. (i, (k.wordless o g, tt)))
  says-line w (command o c) h g = says-then (ending_other_turn w o) (run_command o c) (says-ending_other w o h)
      (λ i. says-run_command o c (ending_other_turn w o).0 i g.0 g.1)

  -- and the lines of a script.
  says-lines : (ls : List Line) → AllByRecursion (IsGood MayCome MayRun) ls → Says (run_lines first_world ls)
  says-lines ls h = says-each (IsGood MayCome MayRun) step (λ w l i g. says-line w l i (g w)) ls (record { parts = k.first; tasks = tt }) h

  -- what they say
  pub says-so_far : (ls : List Line) → AllByRecursion (IsGood MayCome MayRun) ls → AllByRecursion IsSaid (run_lines first_world ls).1
  says-so_far ls h = (says-lines ls h).1

  -- with the end of input
  pub says-outputs : (ls : List Line) → AllByRecursion (IsGood MayCome MayRun) ls → AllByRecursion IsSaid (outputs_of ls)
  says-outputs ls h = (says-then (run_lines first_world ls) finish (says-lines ls h) (says-ending_any (run_lines first_world ls).0)).1
