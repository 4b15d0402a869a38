-- Paths, dispatches and tasks do not depend on the tasks that wait, nor on the open turn.
use Rattle.dom_base.proofs.Std.{◌≡◌, ℕ, zero, suc, Bool, List, [], ◌∷◌, ◌++◌, flat_map, filter, filter_map, fold, Option, None, refl, ap, ◌∙◌, option_to_list}
use Rattle.dom_model.proofs.Model.{Owner, NodeName, World, Task, micro_task, notify_task, host_above, views, view_at, way_up, ancestors_at, hosts_from}
use Rattle.dom_model.proofs.Model.{with_slots, slot_of, max_depth, is_connected, EventWords, Visit, world_visit, visits_of, name_eq, dispatch_in, dispatched}
use Rattle.dom_model.proofs.Model.{begun, Dispatched, Run, run_then, run_each, part_of, with_part, notified, notified_lines, is_owned_by, without_signals}
use Rattle.dom_model.proofs.Model.{components_below, component_at, shadow_root_of, trees_with, inclusive_descendants}
use Rattle.dom_model.proofs.Model.{firing_slotchange, running_task, slotchange, View}
use Rattle.dom_worlds.proofs.TurnLemmas.{InWorld}

-- a world with other tasks, in another turn
abbrev pub with_rest : World → List Task → Option Owner → World
with_rest w ts t = record w { tasks = ts; turn = t }

-- a run to such a world
abbrev pub rest_run : List Task → Option Owner → Run World → Run World
rest_run ts t r = (with_rest r.0 ts t, r.1)

module _ (w : World) (ts : List Task) (t : Option Owner) where
  -- the world so
  abbrev rested : World
  rested = with_rest w ts t

  -- a node and what is behind it
  abbrev before : (NodeName → List NodeName) → (NodeName → List NodeName) → NodeName → List NodeName
  before behind f x = x ∷ flat_map f (behind x)

  -- chains of hosts
  chain-rested : (n : ℕ) → hosts_from n rested ≡ hosts_from n w
  chain-rested zero = refl
  chain-rested (suc n) = ap (before (λ x. option_to_list (host_above w x))) (chain-rested n)

  -- ways through slots
  slots-rested : (n : ℕ) → with_slots n rested ≡ with_slots n w
  slots-rested zero = refl
  slots-rested (suc n) = ap (before (λ x. flat_map (ancestors_at w) (option_to_list (slot_of w x)))) (slots-rested n)

  -- at a node
  pub hosts-rested : (n : ℕ) (x : NodeName) → hosts_from n rested x ≡ hosts_from n w x
  hosts-rested n x = ap (λ (f : NodeName → List NodeName). f x) (chain-rested n)

  -- the way up
  way-rested : way_up rested ≡ way_up w
  way-rested = λ j x. flat_map (slots-rested max_depth j) (ancestors_at w x)

  -- what an event shows at a node
  view-at : (x : NodeName) (r : Option NodeName) (path : List NodeName) (y : NodeName) → view_at rested x r path y ≡ view_at w x r path y
  view-at x r path y = simp hosts-rested

  -- at any
  view-rested : (x : NodeName) (r : Option NodeName) (path : List NodeName) → view_at rested x r path ≡ view_at w x r path
  view-rested x r path = λ j y. view-at x r path y j

  -- views
  pub views-rested : (x : NodeName) (r : Option NodeName) (composed : Bool) → views rested x r composed ≡ views w x r composed
  views-rested x r composed = simp (hosts-rested, way-rested, view-rested)

  -- whether a node is connected
  pub connected-rested : (x : NodeName) → is_connected rested x ≡ is_connected w x
  connected-rested x = simp hosts-rested

  -- the components below a node
  pub below-rested : (n : ℕ) → components_below n rested ≡ components_below n w
  below-rested zero = refl
  below-rested (suc n) = ap below (below-rested n)
    where
      below : (NodeName → List Owner) → NodeName → List Owner
      below f x = flat_map (λ c. c ∷ f (shadow_root_of c)) (filter_map (component_at w) (inclusive_descendants (trees_with w x) x))

module _ (ts : List Task) (t : Option Owner) where
  -- visits
  visits-rested : (e : EventWords) (vs : List (Visit NodeName)) (s : InWorld) →
      fold (world_visit e) (with_rest s.0 ts t, s.1) vs ≡ (with_rest (fold (world_visit e) s vs).0 ts t, (fold (world_visit e) s vs).1)
  visits-rested e [] s = refl
  visits-rested e (v ∷ vs) s = visits-rested e vs (world_visit e s v)

  -- how a dispatch ends there
  abbrev pub rest_dispatched : Dispatched World → Dispatched World
  rest_dispatched d = record { run = rest_run ts t d.run; answer = d.answer }

  -- a dispatch
  pub dispatch-rested : (w : World) (x : NodeName) (r : Option NodeName) (e : EventWords) →
      dispatch_in (with_rest w ts t) x r e ≡ rest_dispatched (dispatch_in w x r e)
  dispatch-rested w x r e =
      let ends : InWorld → Dispatched World = λ s. dispatched s.0 s.1 in
      ap (λ (vs : List (View NodeName)). ends (fold (world_visit e) (with_rest w ts t, begun []) (visits_of name_eq e.bubbles vs)))
      (views-rested w ts t x r e.composed)
      ∙ ap ends (visits-rested e (visits_of name_eq e.bubbles (views w x r e.composed)) (w, begun []))

  -- `slotchange` at slots
  firings-rested : (xs : List NodeName) (w : World) →
      run_each firing_slotchange (with_rest w ts t) xs ≡ rest_run ts t (run_each firing_slotchange w xs)
  firings-rested [] w = refl
  firings-rested (x ∷ xs) w =
      ap (λ (d : Dispatched World). run_then d.run (λ u. run_each firing_slotchange u xs)) (dispatch-rested w x None slotchange)
      ∙ ap (λ (r : Run World). (r.0, (firing_slotchange w x).1 ++ r.1)) (firings-rested xs (firing_slotchange w x).0)

  -- a task
  pub running-rested : (w : World) (k : Task) → running_task (with_rest w ts t) k ≡ rest_run ts t (running_task w k)
  running-rested w (micro_task o label) = refl
  running-rested w (notify_task o) =
      ap (λ (r : Run World). (r.0, notified_lines (part_of w o) ++ r.1))
      (firings-rested (filter (is_owned_by o) w.signalled) (with_part (without_signals w o) (notified (part_of w o))))

  -- tasks
  pub tasks-rested : (ks : List Task) (w : World) →
      run_each running_task (with_rest w ts t) ks ≡ rest_run ts t (run_each running_task w ks)
  tasks-rested [] w = refl
  tasks-rested (k ∷ ks) w =
      ap (λ (r : Run World). run_then r (λ u. run_each running_task u ks)) (running-rested w k)
      ∙ ap (λ (r : Run World). (r.0, (running_task w k).1 ++ r.1)) (tasks-rested ks (running_task w k).0)
