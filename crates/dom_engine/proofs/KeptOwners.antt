-- Owners that are there stay there.
use Rattle.dom_base.proofs.Std.{◌≡◌, Bool, true, false, List, [], ◌∷◌, ◌++◌, length, fold, Option, Some, None, is_some, option_map, AllByRecursion}
use Rattle.dom_model.proofs.Model.{Owner, NodeName, World, Task, Part, part_of, with_part, is_there, Command, command, Effect, tables, changes, effect}
use Rattle.dom_model.proofs.Model.{effect_in, perform, accepted, refusal, run_command, step, Run, run_each, unless_refused, named, Refusal}
use Rattle.dom_model.proofs.Model.{world_step, world_after, stepped, with_signal, with_removal_signals, with_shadow_document, signals, with_notify_if}
use Rattle.dom_model.proofs.Model.{components_below, shadow_root_of, max_depth, is_taken, parent_of, part_step, part_with_root, component_made, node_in, Shadow}
use Rattle.dom_model.proofs.Model.{Step, place, take_out, set_document, set_attribute, queue_record, dispatch_in, views, visits_of, begun, name_eq, EventWords}
use Rattle.dom_model.proofs.Model.{running_task, ending_turn, ending_other_turn, has_other_turn, opening_turn, quiet, NodeWord}
use Rattle.dom_worlds.specs.Definitions.{IsThere, task_owner}
use Rattle.dom_worlds.proofs.ListLemmas.{all-then, either_way}
use Rattle.dom_worlds.proofs.OwnerLemmas.{there-with_part}
use Rattle.dom_worlds.proofs.TurnLemmas.{stays-running, there-visits}

module _ (a : Owner) where
  -- an owner is there after something if it was there before
  abbrev Stays : World → World → Type 0
  Stays v w = IsThere w a → IsThere v a

  -- signals
  stays-signals : (xs : List NodeName) (w : World) → Stays (fold with_signal w xs) w
  stays-signals [] w h = h
  stays-signals (x ∷ xs) w h = stays-signals xs (with_signal w x) h

  -- node documents of shadow trees
  stays-documents : (d : NodeName) (cs : List Owner) (w : World) → Stays (fold (with_shadow_document d) w cs) w
  stays-documents d [] w h = h
  stays-documents d (c ∷ cs) w h = stays-documents d cs (with_shadow_document d w c) (there-with_part w (with_shadow_document_part d w c) a h)
    where
      with_shadow_document_part : NodeName → World → Owner → Part
      with_shadow_document_part d w c = part_step (part_of w c) (set_document (shadow_root_of c) d)

  -- a step
  stays-stepped : (o : Owner) (w : World) (s : Step) → Stays (stepped o w s) w
  stays-stepped o w s h = there-with_part w (part_step (part_of w o) s) a h

  stays-step : (o : Owner) (w : World) (s : Step) → Stays (world_step o w s) w
  stays-step o w (place x parent before) h =
      let v = stepped o w (place x parent before) in stays-signals (signals w v x parent true) v (stays-stepped o w (place x parent before) h)
  stays-step o w (take_out x) h = from (parent_of (part_of w o).trees x)
    where
      from : (m : Option NodeName) → IsThere (with_removal_signals w (stepped o w (take_out x)) x m) a
      from None = stays-stepped o w (take_out x) h
      from (Some parent) = let v = stepped o w (take_out x) in stays-signals (signals w v x parent true) v (stays-stepped o w (take_out x) h)
  stays-step o w (set_attribute x n value) h =
      let v = stepped o w (set_attribute x n value) in stays-signals (signals w v x x false) v (stays-stepped o w (set_attribute x n value) h)
  stays-step o w (set_document x d) h =
      stays-documents d (components_below max_depth w x) (stepped o w (set_document x d)) (stays-stepped o w (set_document x d) h)
  stays-step o w (queue_record c) h = from (is_taken (part_of w o) c)
    where
      from : (b : Bool) → IsThere (with_notify_if b o (stepped o w (queue_record c))) a
      from true = stays-stepped o w (queue_record c) h
      from false = stays-stepped o w (queue_record c) h
  stays-step o w s h = stays-stepped o w s h

  -- steps
  stays-steps : (o : Owner) (steps : List Step) (w : World) → Stays (world_after o w steps) w
  stays-steps o [] w h = h
  stays-steps o (s ∷ steps) w h = stays-steps o steps (world_step o w s) (stays-step o w s h)

  -- an effect
  stays-effect : (w : World) (o : Owner) (e : Effect) → Stays (effect_in w o e).0 w
  stays-effect w o (tables p lines v) h = there-with_part w p a h
  stays-effect w o (changes steps v) h = stays-steps o steps w h

  -- tasks
  stays-tasks : (ts : List Task) (w : World) → Stays (run_each running_task w ts).0 w
  stays-tasks [] w h = h
  stays-tasks (t ∷ ts) w h = stays-tasks ts (running_task w t).0 (stays-running w t a h)

  -- an accepted command
  stays-perform : (w : World) (o : Owner) (c : Command) → Stays (perform w o c).0 w
  stays-perform w o (Command.attach x) h =
      let p = part_of w o in
      let marked = record p { attached = p.attached ++ named p x ∷ [] } in
      there-with_part (with_part w marked) (part_with_root (component_made o (length p.attached)) Shadow (node_in p.trees (named p x)).document) a
      (there-with_part w marked a h)
  stays-perform w o (Command.connected x) h = h
  stays-perform w o (Command.assigned x) h = h
  stays-perform w o (Command.dispatch x e related) h =
      let p = part_of w o in
      there-visits e (visits_of name_eq e.bubbles (views w (named p x) (option_map (named p) related) e.composed)) (w, begun []) a h
  stays-perform w o (Command.micro label) h = h
  stays-perform w o Command.end_turn h = stays-tasks w.tasks (record w { tasks = []; turn = None }) h
  stays-perform w o c h = stays-effect w o (effect (part_of w o) c) h

  -- which opens a turn, but for the end of one
  stays-accepted : (w : World) (o : Owner) (c : Command) → Stays (accepted w o c).0 w
  stays-accepted w o Command.end_turn h = stays-perform w o Command.end_turn h
  stays-accepted w o c h = stays-perform (opening_turn w o) o c (either_way (λ v. IsThere v a) (is_some w.turn) w (record w { turn = Some o }) h h)

  -- a command
  stays-command : (w : World) (o : Owner) (c : Command) → Stays (run_command o c w).0 w
  stays-command w o c h = from (refusal w o c)
    where
      from : (r : Option Refusal) → IsThere (unless_refused o r w (accepted w o c)).0 a
      from None = stays-accepted w o c h
      from (Some r) = h

  -- the end of another component's turn
  stays-ending : (w : World) (o : Owner) → Stays (ending_other_turn w o).0 w
  stays-ending w o h =
      either_way (λ (r : Run World). IsThere r.0 a) (has_other_turn w o) (ending_turn w) (quiet w)
      (stays-tasks w.tasks (record w { tasks = []; turn = None }) h) h

  -- the machine's step on a command
  pub stays-machine_step : (w : World) (o : Owner) (c : Command) → Stays (step w (command o c)).0 w
  stays-machine_step w o c h = stays-command (ending_other_turn w o).0 o c (stays-ending w o h)

-- the owners of tasks
pub task_owners-stay : (w : World) (o : Owner) (c : Command) (ts : List Task) →
    AllByRecursion (λ t. IsThere w (task_owner t)) ts → AllByRecursion (λ t. IsThere (step w (command o c)).0 (task_owner t)) ts
task_owners-stay w o c ts h =
    all-then (λ t. IsThere w (task_owner t)) (λ t. IsThere (step w (command o c)).0 (task_owner t)) (λ t. stays-machine_step (task_owner t) w o c) ts h
