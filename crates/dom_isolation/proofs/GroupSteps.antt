-- Steps as a group has them: those of its owners are the same in the world with its own parts alone, and others' are none.
use Rattle.dom_base.proofs.Std.{◌≡◌, Bool, true, false, not, List, [], ◌∷◌, ◌++◌, filter, fold, Option, Some, None, refl, sym, ap, ◌∙◌, subst, true≢false, ⊤}
use Rattle.dom_base.proofs.Std.{◌&&◌, if◌then◌else◌, AllByRecursion, list_any}
use Rattle.dom_model.proofs.Model.{Owner, NodeName, name_eq, is_in, is_empty, append_once, distinct, list_eq, max_depth, node_in, parent_of, Part, Step, place}
use Rattle.dom_model.proofs.Model.{take_out, set_document, set_attribute, queue_record, part_step, is_taken, World, Task, micro_task, notify_task, part_of}
use Rattle.dom_model.proofs.Model.{with_part, is_notify_of, with_notify, components_below, shadow_root_of, is_in_shadow_tree, signals, with_signal}
use Rattle.dom_model.proofs.Model.{assigned_nodes, is_slot_element, assigned_nodes_changed, own_slots, other_slots, world_step, world_after, stepped}
use Rattle.dom_model.proofs.Model.{with_signals, with_removal_signals, with_notify_if, with_shadow_document, KeepsMakers, group_world, is_task_of}
use Rattle.dom_model.proofs.Model.{owner_eq-true, name_eq-same, owner-part_of, owner-part_step}
use Rattle.dom_worlds.specs.Definitions.{IsOf}
use Rattle.dom_worlds.proofs.ListLemmas.{filter_none, all-from, by_cases}
use Rattle.dom_worlds.proofs.PlanLemmas.{rest-step, Fits, MadeIn}
use Rattle.dom_worlds.proofs.WorldLemmas.{Ground, ground-stepped, ground-world_step, part-own_step, IsKeptIn, holds-world_after, attached-with_part}
use Rattle.dom_isolation.proofs.GroupSlots.{in_node, part-in, part-out, with_part-in, with_part-out, group-twice, filter-here, filter-away, IsGround, owned-by}
use Rattle.dom_isolation.proofs.GroupSlots.{parent-in, is_in-kept, any-kept, added-in, added-out}
use Rattle.dom_isolation.proofs.GroupSignals.{signals-group, below-outside, below-group}

-- What is asked of a world stays with steps.
base : (w : World) → IsGround w → Ground w
base w i = record { parts = i.parts; makers = i.makers }

-- a step in its part
pub stepped-ground : (o : Owner) (w : World) (s : Step) → IsGround w → IsGround (stepped o w s)
stepped-ground o w s i =
    let k = ground-stepped o w s (base w i) in
    let p = part_step (part_of w o) s in
    record {
      parts = k.parts;
      hosts = λ x. subst (AllByRecursion (IsOf x))
          (sym (attached-with_part w p o (owner-part_step (part_of w o) s ∙ owner-part_of w o) (rest-step (part_of w o) s).0 x)) (i.hosts x);
      makers = k.makers;
    }

-- a step in the world
pub world_step-ground : (o : Owner) (w : World) (s : Step) → IsGround w → IsGround (world_step o w s)
world_step-ground o w s i =
    let k = ground-world_step o w s (base w i) in
    let Owned : Part → Type 0 = λ p. AllByRecursion (IsOf p.owner) p.attached in
    let rules : IsKeptIn Owned (λ s. ⊤) (λ t. ⊤) = record {
      step = λ p s h m. subst (λ o. AllByRecursion (IsOf o) (part_step p s).attached) (sym (owner-part_step p s))
          (subst (AllByRecursion (IsOf p.owner)) (sym (rest-step p s).0) h);
      document = λ x d. tt;
      notify = λ o. tt;
    } in
    let kept = holds-world_after rules o (s ∷ []) w
    (record {
      parts = λ x. subst (λ a. AllByRecursion (IsOf a) (part_of w x).attached) (sym (owner-part_of w x)) (i.hosts x);
      tasks = all-from (λ t. ⊤) (λ t. tt) w.tasks;
    }) (tt, tt) in
    record {
      parts = k.parts;
      hosts = λ x. subst (λ a. AllByRecursion (IsOf a) (part_of (world_step o w s) x).attached) (owner-part_of (world_step o w s) x) (kept.parts x);
      makers = k.makers;
    }

-- a list is like itself
list_eq-same : (xs : List NodeName) → list_eq name_eq xs xs ≡ true
list_eq-same [] = refl
list_eq-same (x ∷ xs) = ap (λ b. b && list_eq name_eq xs xs) (name_eq-same x) ∙ list_eq-same xs

-- where nothing changed, nothing is signalled but a slot without assigned nodes
unchanged : (w : World) (xs : List NodeName) → filter (assigned_nodes_changed w w) xs ≡ []
unchanged w xs = filter_none (assigned_nodes_changed w w) xs (all-from (λ s. assigned_nodes_changed w w s ≡ false) (λ s. ap not (list_eq-same
    (assigned_nodes w s))) xs)

module _ (g : Owner → Bool) where
  -- Notifications: one of the group is among its tasks,
  notify-in : (o : Owner) → g o ≡ true → (t : Task) → is_notify_of o t ≡ true → is_task_of g t ≡ true
  notify-in o h (micro_task x label) e = absurd (true≢false (sym e))
  notify-in o h (notify_task x) e = ap g (owner_eq-true x o e) ∙ h

  -- in the world
  pub with_notify-in : (o : Owner) → g o ≡ true → (w : World) → group_world g (with_notify w o) ≡ with_notify (group_world g w) o
  with_notify-in o h w =
      let mine = filter (is_task_of g) w.tasks in
      ap (λ ts. record (group_world g w) { tasks = ts })
      (added-in (is_task_of g) w.tasks (notify_task o) (list_any (is_notify_of o) w.tasks) (list_any (is_notify_of o) mine)
      (any-kept (is_notify_of o) (is_task_of g) (notify-in o h) w.tasks) h)

  -- another's is not seen
  pub with_notify-out : (o : Owner) → g o ≡ false → (w : World) → group_world g (with_notify w o) ≡ group_world g w
  with_notify-out o h w =
      ap (λ ts. record (group_world g w) { tasks = ts }) (added-out (is_task_of g) w.tasks (notify_task o) (list_any (is_notify_of o) w.tasks) h)

  -- A step in a part of the group, and in another.
  pub stepped-in : (o : Owner) → g o ≡ true → (w : World) (s : Step) → group_world g (stepped o w s) ≡ stepped o (group_world g w) s
  stepped-in o h w s =
      with_part-in g w (part_step (part_of w o) s) (ap g (owner-part_step (part_of w o) s ∙ owner-part_of w o) ∙ h)
      ∙ ap (λ p. with_part (group_world g w) (part_step p s)) (sym (part-in g w o h))

  -- in another
  pub stepped-out : (o : Owner) → g o ≡ false → (w : World) (s : Step) → group_world g (stepped o w s) ≡ group_world g w
  stepped-out o h w s = with_part-out g w (part_step (part_of w o) s) (ap g (owner-part_step (part_of w o) s ∙ owner-part_of w o) ∙ h)

  -- node documents of shadow trees
  documents-group : (d : NodeName) (cs : List Owner) (w : World) →
      group_world g (fold (with_shadow_document d) w cs) ≡ fold (with_shadow_document d) (group_world g w) (filter g cs)
  documents-group d [] w = refl
  documents-group d (c ∷ cs) w =
      let s = set_document (shadow_root_of c) d in
      documents-group d cs (stepped c w s)
      ∙ by_cases (g c)
      (λ h. ap (λ v. fold (with_shadow_document d) v (filter g cs)) (stepped-in c h w s)
      ∙ sym (ap (fold (with_shadow_document d) (group_world g w)) (filter-here g c cs h)))
      (λ h. ap (λ v. fold (with_shadow_document d) v (filter g cs)) (stepped-out c h w s)
      ∙ sym (ap (fold (with_shadow_document d) (group_world g w)) (filter-away g c cs h)))

-- Two worlds as steps want them, of which a group sees the same.
pub record IsSameGround (g : Owner → Bool) (w v : World) : Type 0 where
  pub first : IsGround w
  pub second : IsGround v
  pub same : group_world g w ≡ group_world g v

module _ (g : Owner → Bool) (closed : KeepsMakers g) where
  -- a signal
  signal-in : (s : NodeName) → in_node g s ≡ true → (w : World) → group_world g (with_signal w s) ≡ with_signal (group_world g w) s
  signal-in s h w =
      let xs = w.signalled in
      with_notify-in g s.owner h (record w { signalled = append_once name_eq xs s })
      ∙ ap (λ xs. with_notify (record (group_world g w) { signalled = xs }) s.owner)
      (added-in (in_node g) xs s (is_in name_eq s xs) (is_in name_eq s (filter (in_node g) xs)) (is_in-kept g closed s xs h) h)

  -- of a slot outside
  signal-out : (s : NodeName) → in_node g s ≡ false → (w : World) → group_world g (with_signal w s) ≡ group_world g w
  signal-out s h w =
      with_notify-out g s.owner h (record w { signalled = append_once name_eq w.signalled s })
      ∙ ap (λ xs. record (group_world g w) { signalled = xs }) (added-out (in_node g) w.signalled s (is_in name_eq s w.signalled) h)

  -- all of them
  each_signal : (ss : List NodeName) (w : World) → group_world g (fold with_signal w ss) ≡ fold with_signal (group_world g w) (filter (in_node g) ss)
  each_signal [] w = refl
  each_signal (s ∷ ss) w =
      each_signal ss (with_signal w s)
      ∙ by_cases (in_node g s)
      (λ h. ap (λ v. fold with_signal v (filter (in_node g) ss)) (signal-in s h w)
      ∙ sym (ap (fold with_signal (group_world g w)) (filter-here (in_node g) s ss h)))
      (λ h. ap (λ v. fold with_signal v (filter (in_node g) ss)) (signal-out s h w)
      ∙ sym (ap (fold with_signal (group_world g w)) (filter-away (in_node g) s ss h)))

  -- the signals of a step, as a group has them
  with_signals-group : {was now : World} → IsGround was → IsGround now → (x around : NodeName) (is_move : Bool) →
      group_world g (with_signals was now x around is_move) ≡ with_signals (group_world g was) (group_world g now) x around is_move
  with_signals-group {was} {now} i j x around is_move =
      each_signal (signals was now x around is_move) now
      ∙ ap (fold with_signal (group_world g now)) (sym (signals-group g closed i j x around is_move))

  -- of a removal
  removal_signals-group : (was now : World) → IsGround was → IsGround now → (x : NodeName) (parent : Option NodeName) →
      group_world g (with_removal_signals was now x parent) ≡ with_removal_signals (group_world g was) (group_world g now) x parent
  removal_signals-group was now i j x None = refl
  removal_signals-group was now i j x (Some parent) = with_signals-group i j x parent true

  -- A step of an owner of the group does to the group what it does where no others are.
  abbrev IsAlone : Owner → World → Step → Type 0
  IsAlone o w s = group_world g (world_step o w s) ≡ group_world g (world_step o (group_world g w) s)

  -- where it is made in what the group has, as it stands
  whole : (o : Owner) (w : World) (s : Step) → group_world g (world_step o w s) ≡ world_step o (group_world g w) s → IsAlone o w s
  whole o w s e = sym (group-twice g (world_step o w s)) ∙ ap (group_world g) e

  -- a step in the world
  pub step-in : (o : Owner) → g o ≡ true → (w : World) → IsGround w → (s : Step) → IsAlone o w s
  step-in o h w i (place x parent before) =
      let s = place x parent before in
      whole o w s (with_signals-group i (stepped-ground o w s i) x parent true
      ∙ ap (λ now. with_signals (group_world g w) now x parent true) (stepped-in g o h w s))
  step-in o h w i (take_out x) =
      let s = take_out x in
      let v = group_world g w in
      whole o w s (removal_signals-group w (stepped o w s) i (stepped-ground o w s i) x (parent_of (part_of w o).trees x)
      ∙ ap (λ now. with_removal_signals v now x (parent_of (part_of w o).trees x)) (stepped-in g o h w s)
      ∙ ap (λ (p : Part). with_removal_signals v (stepped o v s) x (parent_of p.trees x)) (sym (part-in g w o h)))
  step-in o h w i (set_attribute x a v) =
      let s = set_attribute x a v in
      whole o w s (with_signals-group i (stepped-ground o w s i) x x false
      ∙ ap (λ now. with_signals (group_world g w) now x x false) (stepped-in g o h w s))
  step-in o h w i (set_document x d) =
      let s = set_document x d in
      let v = group_world g w in
      let same : group_world g (stepped o w s) ≡ group_world g (stepped o v s) =
      sym (group-twice g (stepped o w s)) ∙ ap (group_world g) (stepped-in g o h w s) in
      documents-group g d (components_below max_depth w x) (stepped o w s)
      ∙ ap (λ u. fold (with_shadow_document d) u (filter g (components_below max_depth w x))) same
      ∙ ap (fold (with_shadow_document d) (group_world g (stepped o v s))) (sym (below-group g closed max_depth w i x))
      ∙ sym (documents-group g d (components_below max_depth v x) (stepped o v s))
  step-in o h w i (queue_record c) =
      let s = queue_record c in
      let v = group_world g w in
      whole o w s (notify (is_taken (part_of w o) c) (stepped o w s)
      ∙ ap (with_notify_if (is_taken (part_of w o) c) o) (stepped-in g o h w s)
      ∙ ap (λ p. with_notify_if (is_taken p c) o (stepped o v s)) (sym (part-in g w o h)))
    where
      notify : (b : Bool) (u : World) → group_world g (with_notify_if b o u) ≡ with_notify_if b o (group_world g u)
      notify true u = with_notify-in g o h u
      notify false u = refl
  step-in o h w i s = whole o w s (stepped-in g o h w s)

  -- so many steps do the same in two worlds of which the group has the same
  pub steps-in : (o : Owner) → g o ≡ true → (steps : List Step) (w v : World) → IsSameGround g w v →
      group_world g (world_after o w steps) ≡ group_world g (world_after o v steps)
  steps-in o h [] w v s = s.same
  steps-in o h (s ∷ steps) w v k =
      steps-in o h steps (world_step o w s) (world_step o v s)
      (record {
        first = world_step-ground o w s k.first;
        second = world_step-ground o v s k.second;
        same = step-in o h w k.first s ∙ ap
            (λ u. group_world g (world_step o u s)) k.same ∙ sym (step-in o h v k.second s);
      })

  -- The signals of a step outside: where nothing of the group's changed there are none.
  no_signals : (v : World) (x around : NodeName) (is_move : Bool) → (is_move ≡ true → is_slot_element (node_in (part_of v around.owner).trees around) ≡ false) →
      signals v v x around is_move ≡ []
  no_signals v x around is_move bare =
      let parent : List NodeName = if is_move && (is_slot_element (node_in (part_of v around.owner).trees around)
      && (is_in_shadow_tree v around && is_empty (assigned_nodes v around))) then around ∷ [] else [] in
      ap (λ xs. distinct name_eq (xs ++ parent ++ filter (assigned_nodes_changed v v) (other_slots v x around))) (unchanged v (own_slots v v x))
      ∙ ap (λ xs. distinct name_eq (parent ++ xs)) (unchanged v (other_slots v x around))
      ∙ ap (λ xs. distinct name_eq (xs ++ [])) (none_bare is_move bare)
    where
      none_bare : (m : Bool) → (m ≡ true → is_slot_element (node_in (part_of v around.owner).trees around) ≡ false) →
          (if m && (is_slot_element (node_in (part_of v around.owner).trees around) && (is_in_shadow_tree v around && is_empty (assigned_nodes v around)))
          then around ∷ [] else []) ≡ []
      none_bare false b = refl
      none_bare true b = ap (λ t. if t && (is_in_shadow_tree v around && is_empty (assigned_nodes v around)) then around ∷ [] else []) (b refl)

  -- An owner outside.
  module _ (o : Owner) (h : g o ≡ false) where
    -- of a node outside
    signals-out : {w : World} → IsGround w → (s : Step) (x around : NodeName) (is_move : Bool) → (is_move ≡ true → around.owner ≡ o) →
        group_world g (with_signals w (stepped o w s) x around is_move) ≡ group_world g w
    signals-out {w} i s x around is_move near =
        let v = group_world g w in
        with_signals-group i (stepped-ground o w s i) x around is_move
        ∙ ap (λ now. with_signals v now x around is_move) (stepped-out g o h w s)
        ∙ ap (fold with_signal v) (no_signals v x around is_move
        (λ m. ap (λ (p : Part). is_slot_element (node_in p.trees around)) (part-out g w around.owner (ap g (near m) ∙ h))))

    -- A step of another owner is none.
    pub step-out : (w : World) → IsGround w → (s : Step) → Fits (part_of w o) s →
        group_world g (world_step o w s) ≡ group_world g w
    step-out w i (place x parent before) f =
        signals-out i (place x parent before) x parent true (λ m. owned-by w i o parent f.0)
    step-out w i (take_out x) f = from (parent_of (part_of w o).trees x) refl
      where
        from : (p : Option NodeName) → parent_of (part_of w o).trees x ≡ p →
            group_world g (with_removal_signals w (stepped o w (take_out x)) x p) ≡ group_world g w
        from None e = stepped-out g o h w (take_out x)
        from (Some parent) e = signals-out i (take_out x) x parent true (λ m. parent-in w i o x parent e)
    step-out w i (set_attribute x a v) f = signals-out i (set_attribute x a v) x x false (λ m. absurd (true≢false (sym m)))
    step-out w i (set_document x d) f =
        let s = set_document x d in
        documents-group g d (components_below max_depth w x) (stepped o w s)
        ∙ ap (fold (with_shadow_document d) (group_world g (stepped o w s)))
        (below-outside g closed max_depth w i x (ap g (f ∙ owner-part_of w o) ∙ h))
        ∙ stepped-out g o h w s
    step-out w i (queue_record c) f = notify (is_taken (part_of w o) c) (stepped o w (queue_record c)) ∙ stepped-out g o h w (queue_record c)
      where
        notify : (b : Bool) (u : World) → group_world g (with_notify_if b o u) ≡ group_world g u
        notify true u = with_notify-out g o h u
        notify false u = refl
    step-out w i s f = stepped-out g o h w s

    -- nor are many
    pub steps-out : (steps : List Step) (w : World) → IsGround w → MadeIn (part_of w o) steps →
        group_world g (world_after o w steps) ≡ group_world g w
    steps-out [] w i m = refl
    steps-out (s ∷ steps) w i m =
        steps-out steps (world_step o w s) (world_step-ground o w s i)
        (subst (λ p. MadeIn p steps) (sym (part-own_step o w s (base w i) m.0)) m.1)
        ∙ step-out w i s m.0
