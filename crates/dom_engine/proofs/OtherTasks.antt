-- What a command without a checkpoint does does not depend on the open turn, and what it queues comes after the tasks that are there, whatever they are.
use Rattle.dom_base.proofs.Std.{◌≡◌, ℕ, zero, suc, Bool, true, false, List, [], ◌∷◌, ◌++◌, filter_map, flat_map, fold, Option, Some, None, refl, sym, ap}
use Rattle.dom_base.proofs.Std.{◌∙◌, subst, option_to_list, option_map, true≢false}
use Rattle.dom_model.proofs.Model.{Owner, NodeName, World, Task, micro_task, part_of, Command, Effect, tables, changes, effect, effect_in, perform, Run, Word}
use Rattle.dom_model.proofs.Model.{world_step, world_after, stepped, with_signal, with_removal_signals, with_shadow_document, signals, with_notify_if}
use Rattle.dom_model.proofs.Model.{components_below, component_at, shadow_root_of, max_depth, trees_with, inclusive_descendants, is_taken, parent_of}
use Rattle.dom_model.proofs.Model.{Step, place, take_out, set_document, set_attribute, queue_record, queued_notify, append_once, name_eq, EventWords, named}
use Rattle.dom_model.proofs.Model.{host_above, views, view_at, way_up, ancestors_at, hosts_from, with_slots, slot_of, is_connected, says, replied, nothing}
use Rattle.dom_model.proofs.Model.{dispatch_in, Dispatched, dispatched, world_visit, visits_of, Visit, Dispatching, begun, answering, a_truth, run_then}
use Rattle.dom_engine.specs.Documents.{is_end_turn}

-- What is done to the tasks, and what is queued, may change places.
pub record KeepsQueues (f : List Task → List Task) : Type 0 where
  pub notify : (o : Owner) (ts : List Task) → f (queued_notify o ts) ≡ queued_notify o (f ts)
  pub micro : (o : Owner) (label : Word) (ts : List Task) → f (ts ++ micro_task o label ∷ []) ≡ f ts ++ micro_task o label ∷ []

module _ (f : List Task → List Task) (k : KeepsQueues f) (t : Option Owner) where
  -- the world with other tasks, and another turn
  abbrev pub other : World → World
  other w = record w { tasks = f w.tasks; turn = t }

  -- a run that ends in it
  abbrev pub other_run : Run World → Run World
  other_run r = (other r.0, r.1)

  -- ---- steps

  -- a signal
  signal-other : (x : NodeName) (w : World) → with_signal (other w) x ≡ other (with_signal w x)
  signal-other x w =
      ap (λ (ts : List Task). record w { signalled = append_once name_eq w.signalled x; tasks = ts; turn = t }) (sym (k.notify x.owner w.tasks))

  -- signals
  signals-other : (xs : List NodeName) (w : World) → fold with_signal (other w) xs ≡ other (fold with_signal w xs)
  signals-other [] w = refl
  signals-other (x ∷ xs) w = ap (λ v. fold with_signal v xs) (signal-other x w) ∙ signals-other xs (with_signal w x)

  -- node documents of shadow trees
  documents-other : (d : NodeName) (cs : List Owner) (w : World) → fold (with_shadow_document d) (other w) cs ≡ other (fold (with_shadow_document d) w cs)
  documents-other d [] w = refl
  documents-other d (c ∷ cs) w = documents-other d cs (with_shadow_document d w c)

  -- the components below a node
  below-other : (w : World) (n : ℕ) → components_below n (other w) ≡ components_below n w
  below-other w zero = refl
  below-other w (suc n) = ap below (below-other w n)
    where
      below : (NodeName → List Owner) → NodeName → List Owner
      below g x = flat_map (λ c. c ∷ g (shadow_root_of c)) (filter_map (component_at w) (inclusive_descendants (trees_with w x) x))

  -- a step
  step-other : (o : Owner) (w : World) (s : Step) → world_step o (other w) s ≡ other (world_step o w s)
  step-other o w (place x parent before) =
      let v = stepped o w (place x parent before) in signals-other (signals w v x parent true) v
  step-other o w (take_out x) = from (parent_of (part_of w o).trees x)
    where
      from : (m : Option NodeName) → with_removal_signals (other w) (other (stepped o w (take_out x))) x m ≡
          other (with_removal_signals w (stepped o w (take_out x)) x m)
      from None = refl
      from (Some parent) = let v = stepped o w (take_out x) in signals-other (signals w v x parent true) v
  step-other o w (set_attribute x a v) =
      let u = stepped o w (set_attribute x a v) in signals-other (signals w u x x false) u
  step-other o w (set_document x d) =
      let v = stepped o w (set_document x d) in
      ap (λ (g : NodeName → List Owner). fold (with_shadow_document d) (other v) (g x)) (below-other w max_depth)
      ∙ documents-other d (components_below max_depth w x) v
  step-other o w (queue_record c) = from (is_taken (part_of w o) c)
    where
      from : (b : Bool) → with_notify_if b o (other (stepped o w (queue_record c))) ≡ other (with_notify_if b o (stepped o w (queue_record c)))
      from true = ap (λ (ts : List Task). record (stepped o w (queue_record c)) { tasks = ts; turn = t }) (sym (k.notify o w.tasks))
      from false = refl
  step-other o w s = refl

  -- steps
  steps-other : (o : Owner) (steps : List Step) (w : World) → world_after o (other w) steps ≡ other (world_after o w steps)
  steps-other o [] w = refl
  steps-other o (s ∷ steps) w = ap (λ v. world_after o v steps) (step-other o w s) ∙ steps-other o steps (world_step o w s)

  -- an effect
  effect-other : (w : World) (o : Owner) (e : Effect) → effect_in (other w) o e ≡ other_run (effect_in w o e)
  effect-other w o (tables p lines v) = refl
  effect-other w o (changes steps v) = ap (answering o v) (steps-other o steps w)

  -- ---- paths

  -- a node and what comes after it
  abbrev after : (NodeName → List NodeName) → (NodeName → List NodeName) → NodeName → List NodeName
  after next g x = x ∷ flat_map g (next x)

  module _ (w : World) where
    -- chains of hosts
    hosts-other : (n : ℕ) → hosts_from n (other w) ≡ hosts_from n w
    hosts-other zero = refl
    hosts-other (suc n) = ap (after (λ x. option_to_list (host_above w x))) (hosts-other n)

    -- ways through slots
    slots-other : (n : ℕ) → with_slots n (other w) ≡ with_slots n w
    slots-other zero = refl
    slots-other (suc n) = ap (after (λ x. flat_map (ancestors_at w) (option_to_list (slot_of w x)))) (slots-other n)

    -- at a node
    hosts-at : (n : ℕ) (x : NodeName) → hosts_from n (other w) x ≡ hosts_from n w x
    hosts-at n x = ap (λ (g : NodeName → List NodeName). g x) (hosts-other n)

    -- the way up
    way-other : way_up (other w) ≡ way_up w
    way-other = λ j x. flat_map (slots-other max_depth j) (ancestors_at w x)

    -- what an event shows at a node
    view-at : (x : NodeName) (r : Option NodeName) (path : List NodeName) (y : NodeName) → view_at (other w) x r path y ≡ view_at w x r path y
    view-at x r path y = simp hosts-at

    -- at any
    view-other : (x : NodeName) (r : Option NodeName) (path : List NodeName) → view_at (other w) x r path ≡ view_at w x r path
    view-other x r path = λ j y. view-at x r path y j

    -- views
    views-other : (x : NodeName) (r : Option NodeName) (composed : Bool) → views (other w) x r composed ≡ views w x r composed
    views-other x r composed = simp (hosts-at, way-other, view-other)

    -- whether a node is connected
    connected-other : (x : NodeName) → is_connected (other w) x ≡ is_connected w x
    connected-other x = simp hosts-at

  -- ---- events

  -- visits
  visits-run : (e : EventWords) (vs : List (Visit NodeName)) (w : World) (d : Dispatching NodeName) →
      fold (world_visit e) (other w, d) vs ≡ (other (fold (world_visit e) (w, d) vs).0, (fold (world_visit e) (w, d) vs).1)
  visits-run e [] w d = refl
  visits-run e (v ∷ vs) w d = let s = world_visit e (w, d) v in visits-run e vs s.0 s.1

  -- a dispatch ends in the other world
  abbrev other_dispatched : Dispatched World → Dispatched World
  other_dispatched d = record { run = other_run d.run; answer = d.answer }

  -- a dispatch
  pub dispatch-other : (w : World) (x : NodeName) (r : Option NodeName) (e : EventWords) → dispatch_in (other w) x r e ≡ other_dispatched (dispatch_in w x r e)
  dispatch-other w x r e =
      ap (λ vs. let s = fold (world_visit e) (other w, begun []) (visits_of name_eq e.bubbles vs) in dispatched s.0 s.1) (views-other w x r e.composed)
      ∙ ap (λ (s : World × Dispatching NodeName). dispatched s.0 s.1) (visits-run e (visits_of name_eq e.bubbles (views w x r e.composed)) w (begun []))

  -- ---- commands

  -- an accepted command
  pub perform-other : (w : World) (o : Owner) (c : Command) → is_end_turn c ≡ false → perform (other w) o c ≡ other_run (perform w o c)
  perform-other w o (Command.attach x) q = refl
  perform-other w o (Command.connected x) q = ap (λ b. answering o (a_truth b) (other w)) (connected-other w (named (part_of w o) x))
  perform-other w o (Command.assigned x) q = refl
  perform-other w o (Command.dispatch x e related) q =
      let p = part_of w o in
      ap (λ (d : Dispatched World). run_then d.run (answering o (a_truth d.answer))) (dispatch-other w (named p x) (option_map (named p) related) e)
  perform-other w o (Command.micro label) q =
      ap (λ (ts : List Task). answering o nothing (record w { tasks = ts; turn = t })) (sym (k.micro o label w.tasks))
  perform-other w o Command.end_turn q = absurd (true≢false q)
  perform-other w o c q = effect-other w o (effect (part_of w o) c)
