-- Steps, dispatches and notifications: no owner's part comes or goes, and what they leave open, queued and signalled is of owners that are there.
use Rattle.dom_base.proofs.Std.{◌≡◌, ℕ, zero, suc, Bool, true, false, not, ◌&&◌, List, [], ◌∷◌, ◌++◌, length, filter, fold, filter_map, Option, Some, None}
use Rattle.dom_base.proofs.Std.{refl, sym, ap, ◌∙◌, true≢false, subst, ◌≤◌, ◌||◌, map, flat_map, take_while, reverse, if◌then◌else◌, is_some, option_to_list}
use Rattle.dom_base.proofs.Std.{AllByRecursion, list_any, cons_option, option_and_then, option_map_or, and_parts}
use Rattle.dom_model.proofs.Model.{Owner, NodeName, name_eq, first_of, is_in, list_eq, max_depth, is_empty, inclusive_descendants, times_in, Part}
use Rattle.dom_model.proofs.Model.{assigned_nodes, slottables_of, assigned_nodes_changed, is_bare_slot, is_slot_element, own_slots, other_slots, signals}
use Rattle.dom_model.proofs.Model.{with_signal, slot_of, Step, set_document, part_step, World, Task, notify_task, part_of, with_part, node_at, trees_with}
use Rattle.dom_model.proofs.Model.{root_at, host_of, some_if, is_in_shadow_tree, is_notify_of, with_notify, component_at, components_below, shadow_root_of}
use Rattle.dom_model.proofs.Model.{ancestors_at, host_chain, world_step, world_after, stepped, with_shadow_document, owner-part_of, owner-part_step, EventWords}
use Rattle.dom_model.proofs.Model.{world_visit, visits_of, visit_of, is_at_target, dispatch_in, Visit, Dispatching, after_invoke, begun, View, views, view_at}
use Rattle.dom_model.proofs.Model.{event_path, whole_path, way_up, with_slots, ends_at, is_node, retarget_related, is_owned_by, without_signals, notified}
use Rattle.dom_worlds.specs.Definitions.{IsReached, owners_in, IsThere, task_owner, components_of, is_made_by, is_unmade, HasMakers, HasOwners, IsWorld}
use Rattle.dom_worlds.proofs.Turns.{host_of-same, there-with_part, told_in}
use Rattle.dom_worlds.proofs.Lists.{all-append, all-passed, all-distinct, all-then, all-flat_map, by_cases, either_way, all-filter, all-map, all-reverse}
use Rattle.dom_worlds.proofs.Lists.{by_some_is, kept-fold, all-from, all-take_while}
use Rattle.dom_worlds.proofs.Owners.{makers-same, component-host, hosted-is, there-same, owners-put, hosted-there, node-there}
use Rattle.dom_worlds.proofs.PartSteps.{rest-step}
use Rattle.dom_worlds.proofs.WorldSteps.{attached-with_part, kept-world_step}
use Rattle.dom_worlds.proofs.Trees.{ancestors-there}

-- What steps keep: the owners, and that whoever has hosts may attach.
pub record IsPeopled (w : World) : Type 0 where
  pub owners : HasOwners w
  pub makers : HasMakers w

-- An owner that is there, in such a world.
pub record IsPresent (w : World) (o : Owner) : Type 0 where
  pub there : IsThere w o
  pub people : IsPeopled w

-- so it is of a world that is reached
pub people : {only_log : Bool} (w : World) → IsReached only_log w → IsPeopled w
people w r = record { owners = r.owners; makers = r.world.makers }

-- the same owners, and the same hosts
abbrev SamePeople : World → World → Type 0
SamePeople v w = (owners_in v ≡ owners_in w) × ((o : Owner) → (part_of v o).attached ≡ (part_of w o).attached)

-- of items whose owners are there
all-there : {X : Type 0} (v w : World) (owner : X → Owner) → owners_in v ≡ owners_in w → (xs : List X) →
    AllByRecursion (λ x. IsThere w (owner x)) xs → AllByRecursion (λ x. IsThere v (owner x)) xs
all-there v w owner e xs h = all-then (λ x. IsThere w (owner x)) (λ x. IsThere v (owner x)) (λ x t. there-same v w e (owner x) ∙ t) xs h

-- a world with the same owners and hosts
pub same-people : {w : World} (v : World) → SamePeople v w → AllByRecursion (IsThere w) (option_to_list v.turn) →
    AllByRecursion (λ t. IsThere w (task_owner t)) v.tasks → AllByRecursion (λ s. IsThere w s.owner) v.signalled → IsPeopled w → IsPeopled v
same-people {w} v same turn tasks signalled i =
    record {
      owners = record {
        first = ap first_of same.0 ∙ i.owners.first;
        unmade = ap (filter is_unmade) same.0 ∙ i.owners.unmade;
        made = λ o. ap (filter (is_made_by o)) same.0 ∙ i.owners.made o ∙ ap (λ (hs : List NodeName). components_of o (length hs)) (sym (same.1 o));
        turn = all-there v w (λ o. o) same.0 (option_to_list v.turn) turn;
        tasks = all-there v w task_owner same.0 v.tasks tasks;
        signalled = all-there v w (λ (s : NodeName). s.owner) same.0 v.signalled signalled;
      };
      makers = makers-same v w same.1 i.makers;
    }

-- A part of an owner that is there, with the same attached hosts.
module _ (w : World) (p : Part) (o : Owner) (e : p.owner ≡ o) (h : IsThere w o) (a : p.attached ≡ (part_of w o).attached) where
  -- A part that is there is written, with its hosts.
  people-with_part : SamePeople (with_part w p) w
  people-with_part = (owners-put w.parts p (subst (IsThere w) (sym e) h), attached-with_part w p o e a)

  -- it keeps who is there
  pub peopled-with_part : IsPeopled w → IsPeopled (with_part w p)
  peopled-with_part i = same-people (with_part w p) (people-with_part) i.owners.turn i.owners.tasks i.owners.signalled i

-- a step in its part leaves owners and hosts
people-stepped : (w : World) (o : Owner) (s : Step) → IsThere w o → SamePeople (stepped o w s) w
people-stepped w o s h = people-with_part w (part_step (part_of w o) s) o (owner-part_step (part_of w o) s ∙ owner-part_of w o) h (rest-step (part_of w o) s).0

-- and keeps who is there
peopled-stepped : (w : World) (o : Owner) (s : Step) → IsPresent w o → IsPeopled (stepped o w s)
peopled-stepped w o s h =
    same-people (stepped o w s) (people-stepped w o s h.there) h.people.owners.turn h.people.owners.tasks h.people.owners.signalled h.people

-- Notifications and signals.
pub peopled-with_notify : (w : World) (o : Owner) → IsPresent w o → IsPeopled (with_notify w o)
peopled-with_notify w o h =
    let P : Task → Type 0 = λ t. IsThere w (task_owner t) in
    same-people (with_notify w o) (refl, λ x. refl) h.people.owners.turn
    (either_way (AllByRecursion P) (list_any (is_notify_of o) w.tasks) w.tasks (w.tasks ++ notify_task o ∷ []) h.people.owners.tasks
    (all-append P w.tasks (notify_task o ∷ []) h.people.owners.tasks (h.there, tt))) h.people.owners.signalled h.people

-- a signal
peopled-with_signal : (w : World) (s : NodeName) → IsThere w s.owner → IsPeopled w → IsPeopled (with_signal w s)
peopled-with_signal w s h i =
    let g = peopled-with_notify w s.owner (record { there = h; people = i }) in
    let P : NodeName → Type 0 = λ s. IsThere w s.owner in
    same-people (with_signal w s) (refl, λ x. refl) g.owners.turn g.owners.tasks
    (either_way (AllByRecursion P) (is_in name_eq s w.signalled) w.signalled (w.signalled ++ s ∷ []) i.owners.signalled
    (all-append P w.signalled (s ∷ []) i.owners.signalled (h, tt))) g

-- signals
peopled-each_signal : (ss : List NodeName) (w : World) → AllByRecursion (λ s. IsThere w s.owner) ss → IsPeopled w → IsPeopled (fold with_signal w ss)
peopled-each_signal [] w h i = i
peopled-each_signal (s ∷ ss) w h i = peopled-each_signal ss (with_signal w s) h.1 (peopled-with_signal w s h.0 i)

-- a slot of an owner without host has no assigned nodes
assigned-none : (w : World) (s : NodeName) → host_of w s.owner ≡ None → assigned_nodes w s ≡ []
assigned-none w s e = ap (λ o. option_map_or (slottables_of w s) (option_and_then (some_if (name_eq (root_at w s) (shadow_root_of s.owner))) o) []) e

-- a slot whose assigned nodes changed
changed-there : (was now : World) → IsPeopled now → ((o : Owner) → host_of was o ≡ host_of now o) → (s : NodeName) → assigned_nodes_changed was now s ≡ true →
    IsThere now s.owner
changed-there was now i same s h =
    by_some_is (λ (o : Option NodeName). IsThere now s.owner) (host_of now s.owner)
    (λ e. absurd (true≢false (sym h ∙ ap (λ xs. not (list_eq name_eq xs (assigned_nodes now s))) (assigned-none was s (same s.owner ∙ e)) ∙
    ap (λ xs. not (list_eq name_eq [] xs)) (assigned-none now s e))))
    (λ x e. hosted-there now i.owners s.owner (ap is_some e))

-- a slot without assigned nodes
bare-there : (now : World) → IsPeopled now → (s : NodeName) (is_move : Bool) → (is_move && is_bare_slot now s) ≡ true → IsThere now s.owner
bare-there now i s is_move h =
    let both = and_parts is_move (is_bare_slot now s) h in
    let inside = and_parts (is_slot_element (node_at now s)) (is_in_shadow_tree now s && is_empty (assigned_nodes now s)) both.1 in
    let in_tree = and_parts (is_in_shadow_tree now s) (is_empty (assigned_nodes now s)) inside.1 in
    by_some_is (λ (o : Option NodeName). is_in_shadow_tree now s ≡ true → IsThere now s.owner) (host_of now s.owner)
    (λ e g. absurd (true≢false (sym g ∙ ap (λ o. is_some (option_and_then (some_if (name_eq (root_at now s) (shadow_root_of s.owner))) o)) e)))
    (λ x e g. hosted-there now i.owners s.owner (ap is_some e)) in_tree.0

-- all that is signalled
signals-there : {now : World} (was : World) → IsPeopled now → ((o : Owner) → host_of was o ≡ host_of now o) → (x around : NodeName) (is_move : Bool) →
    AllByRecursion (λ s. IsThere now s.owner) (signals was now x around is_move)
signals-there {now} was i same x around is_move =
    let P : NodeName → Type 0 = λ s. IsThere now s.owner in
    let bare : List NodeName = if is_move && is_bare_slot now around then around ∷ [] else [] in
    let own = filter (assigned_nodes_changed was now) (own_slots was now x) in
    let other = filter (assigned_nodes_changed was now) (other_slots now x around) in
    let bare-all : AllByRecursion P bare = by_cases (is_move && is_bare_slot now around) (λ e. rw e (bare-there now i around is_move e, tt)) (λ e. rw e tt) in
    let own-all : AllByRecursion P own = all-passed P (assigned_nodes_changed was now) (changed-there was now i same) (own_slots was now x) in
    let other-all : AllByRecursion P other = all-passed P (assigned_nodes_changed was now) (changed-there was now i same) (other_slots now x around) in
    all-distinct P name_eq (own ++ bare ++ other) (all-append P (own ++ bare) other (all-append P own bare own-all bare-all) other-all)

-- the signals of a step
signalled-after : {w : World} {o : Owner} (s : Step) → IsPresent w o → (x around : NodeName) (is_move : Bool) →
    IsPeopled (fold with_signal (stepped o w s) (signals w (stepped o w s) x around is_move))
signalled-after {w} {o} s h x around is_move =
    let now = stepped o w s in
    let k = peopled-stepped w o s h in
    peopled-each_signal (signals w now x around is_move) now
    (signals-there w k (λ a. sym (host_of-same now w (people-stepped w o s h.there).1 a)) x around is_move) k

-- the components in a tree are there
all-components : (w : World) → IsPeopled w → (xs : List NodeName) → AllByRecursion (IsThere w) (filter_map (component_at w) xs)
all-components w i [] = tt
all-components w i (x ∷ xs) = from (component_at w x) refl (all-components w i xs)
  where
    from : (c : Option Owner) → component_at w x ≡ c → AllByRecursion (IsThere w) (filter_map (component_at w) xs) →
        AllByRecursion (IsThere w) (cons_option c (filter_map (component_at w) xs))
    from None e h = h
    from (Some c) e h = (hosted-there w i.owners c (ap is_some (hosted-is w c x (component-host w i.makers x c e))), h)

-- at any depth
below-there : (depth : ℕ) (w : World) → IsPeopled w → (x : NodeName) → AllByRecursion (IsThere w) (components_below depth w x)
below-there zero w i x = tt
below-there (suc depth) w i x =
    let hosted = filter_map (component_at w) (inclusive_descendants (trees_with w x) x) in
    all-flat_map (IsThere w) (λ c. c ∷ components_below depth w (shadow_root_of c)) hosted
    (all-then (IsThere w) (λ c. AllByRecursion (IsThere w) (c ∷ components_below depth w (shadow_root_of c)))
    (λ c h. (h, below-there depth w i (shadow_root_of c))) hosted (all-components w i (inclusive_descendants (trees_with w x) x)))

-- node documents of shadow trees
peopled-documents : (cs : List Owner) (d : NodeName) (w : World) → AllByRecursion (IsThere w) cs → IsPeopled w → IsPeopled (fold (with_shadow_document d) w cs)
peopled-documents [] d w h i = i
peopled-documents (c ∷ cs) d w h i =
    let v = with_shadow_document d w c in
    peopled-documents cs d v (all-there v w (λ o. o) (people-stepped w c (set_document (shadow_root_of c) d) h.0).0 cs h.1)
    (peopled-stepped w c (set_document (shadow_root_of c) d) (record { there = h.0; people = i }))

-- A step in the world.
peopled-world_step : (o : Owner) (w : World) (s : Step) → IsPresent w o → IsPeopled (world_step o w s)
peopled-world_step o w s h =
    let v = stepped o w s in
    let k = peopled-stepped w o s h in
    let same = (people-stepped w o s h.there).0 in
    kept-world_step IsPeopled o w s (record {
      own = k;
      signals = signalled-after s h;
      documents = λ x d. peopled-documents (components_below max_depth w x) d v
          (all-there v w (λ o. o) same (components_below max_depth w x) (below-there max_depth w h.people x)) k;
      notify = peopled-with_notify v o (record { there = there-same v w same o ∙ h.there; people = k });
    })

-- who is there stays there
stays-world_step : (o : Owner) (w : World) (s : Step) (a : Owner) → IsThere w a → IsThere (world_step o w s) a
stays-world_step o w s a h =
    let P : World → Type 0 = λ v. IsThere v a in
    let stays : (v : World) (c : Owner) (s : Step) → P v → P (stepped c v s) = λ v c s. there-with_part v (part_step (part_of v c) s) a in
    let k = stays w o s h in
    kept-world_step P o w s (record {
      own = k;
      signals = λ x around is_move. kept-fold P with_signal (λ v y g. g) (signals w (stepped o w s) x around is_move) (stepped o w s) k;
      documents = λ x d. kept-fold P (with_shadow_document d) (λ v c g. stays v c (set_document (shadow_root_of c) d) g)
          (components_below max_depth w x) (stepped o w s) k;
      notify = k;
    })

-- many steps
pub peopled-world_after : (o : Owner) (steps : List Step) (w : World) → IsPresent w o → IsPeopled (world_after o w steps)
peopled-world_after o [] w h = h.people
peopled-world_after o (s ∷ steps) w h =
    peopled-world_after o steps (world_step o w s) (record { there = stays-world_step o w s o h.there; people = peopled-world_step o w s h })

-- A dispatch: each node of its path has ancestors, and so is of an owner that is there.
ancestors-of_there : (w : World) → IsWorld w → (x : NodeName) → AllByRecursion (λ y. IsThere w y.owner) (ancestors_at w x)
ancestors-of_there w i x =
    all-then (λ y. 1 ≤ times_in (trees_with w x) y) (λ y. IsThere w y.owner)
    (λ y h. subst (IsThere w) (sym ((i.parts x.owner).owned y h ∙ owner-part_of w x.owner)) (node-there w x.owner y h)) (ancestors_at w x)
    (ancestors-there (trees_with w x) x)

-- a node and its way through slots
slots-of_there : (depth : ℕ) (w : World) → IsWorld w → (x : NodeName) → IsThere w x.owner → AllByRecursion (λ y. IsThere w y.owner) (with_slots depth w x)
slots-of_there zero w i x h = (h, tt)
slots-of_there (suc depth) w i x h =
    let up = flat_map (ancestors_at w) (option_to_list (slot_of w x)) in (
      h,
      all-flat_map (λ y. IsThere w y.owner) (with_slots depth w) up
          (all-then (λ y. IsThere w y.owner) (λ y. AllByRecursion (λ z. IsThere w z.owner) (with_slots depth w y)) (slots-of_there depth w i) up
          (all-flat_map (λ y. IsThere w y.owner) (ancestors_at w) (option_to_list (slot_of w x))
          (all-from (λ s. AllByRecursion (λ y. IsThere w y.owner) (ancestors_at w s)) (ancestors-of_there w i) (option_to_list (slot_of w x))))),
    )

-- a way up
way_up-of_there : (w : World) → IsWorld w → (x : NodeName) → AllByRecursion (λ y. IsThere w y.owner) (way_up w x)
way_up-of_there w i x =
    all-flat_map (λ y. IsThere w y.owner) (with_slots max_depth w) (ancestors_at w x)
    (all-then (λ y. IsThere w y.owner) (λ y. AllByRecursion (λ z. IsThere w z.owner) (with_slots max_depth w y)) (slots-of_there max_depth w i)
    (ancestors_at w x) (ancestors-of_there w i x))

-- the path of an event
path-of_there : (w : World) → IsWorld w → (x : NodeName) (related : Option NodeName) (composed : Bool) →
    AllByRecursion (λ y. IsThere w y.owner) (event_path w x related composed)
path-of_there w i x related composed =
    let P : NodeName → Type 0 = λ y. IsThere w y.owner in
    let from : List NodeName = if composed then host_chain w x else x ∷ [] in
    let whole = all-flat_map P (way_up w) from (all-from (λ y. AllByRecursion P (way_up w y)) (way_up-of_there w i) from) in
    either_way (AllByRecursion P) (is_node x (retarget_related w related x) && not (is_node x related)) []
    (take_while (λ y. not (ends_at w x related y)) (whole_path w x composed)) tt
    (all-take_while P (λ y. not (ends_at w x related y)) (whole_path w x composed) whole)

-- the visits of a path
visits-of_there : (w : World) (bubbles : Bool) (vs : List (View NodeName)) → AllByRecursion (λ (v : View NodeName). IsThere w v.node.owner) vs →
    AllByRecursion (λ (v : Visit NodeName). IsThere w v.current.owner) (visits_of name_eq bubbles vs)
visits-of_there w bubbles vs h =
    let P : Visit NodeName → Type 0 = λ v. IsThere w v.current.owner in
    let V : View NodeName → Type 0 = λ v. IsThere w v.node.owner in
    all-append P (map (visit_of name_eq true) (reverse vs)) (map (visit_of name_eq false) (filter (λ v. bubbles || is_at_target name_eq v) vs))
    (all-map P (visit_of name_eq true) (reverse vs) (all-reverse V vs h))
    (all-map P (visit_of name_eq false) (filter (λ v. bubbles || is_at_target name_eq v) vs)
    (all-filter V (λ v. bubbles || is_at_target name_eq v) vs h))

-- visits
peopled-visits : (e : EventWords) (vs : List (Visit NodeName)) (w : World) (d : Dispatching NodeName) →
    AllByRecursion (λ (v : Visit NodeName). IsThere w v.current.owner) vs → IsPeopled w → IsPeopled (fold (world_visit e) (w, d) vs).0
peopled-visits e [] w d h i = i
peopled-visits e (v ∷ vs) w d h i =
    let o = v.current.owner in
    let p = part_of w o in
    let heard = after_invoke name_eq e (record d { listeners = p.listeners }) v in
    let q = record p { listeners = heard.listeners } in
    peopled-visits e vs (with_part w q) heard
    (all-then (λ (v : Visit NodeName). IsThere w v.current.owner) (λ v. IsThere (with_part w q) v.current.owner)
    (λ u t. there-with_part w q u.current.owner t) vs h.1)
    (peopled-with_part w q o (owner-part_of w o) h.0 refl i)

-- which leave whose parts are there
people-visits : (e : EventWords) (vs : List (Visit NodeName)) (w : World) (d : Dispatching NodeName) →
    AllByRecursion (λ (v : Visit NodeName). IsThere w v.current.owner) vs → owners_in (fold (world_visit e) (w, d) vs).0 ≡ owners_in w
people-visits e [] w d h = refl
people-visits e (v ∷ vs) w d h =
    let o = v.current.owner in
    let p = part_of w o in
    let heard = after_invoke name_eq e (record d { listeners = p.listeners }) v in
    let q = record p { listeners = heard.listeners } in
    people-visits e vs (with_part w q) heard (all-then (λ (v : Visit NodeName). IsThere w v.current.owner) (λ v. IsThere (with_part w q) v.current.owner)
    (λ u t. there-with_part w q u.current.owner t) vs h.1)
    ∙ owners-put w.parts q (subst (IsThere w) (sym (owner-part_of w o)) h.0)

-- a dispatch
visits-of_dispatch : (w : World) → IsWorld w → (x : NodeName) (related : Option NodeName) (e : EventWords) →
    AllByRecursion (λ (v : Visit NodeName). IsThere w v.current.owner) (visits_of name_eq e.bubbles (views w x related e.composed))
visits-of_dispatch w i x related e =
    let path = event_path w x related e.composed in
    visits-of_there w e.bubbles (views w x related e.composed) (all-map (λ (v : View NodeName). IsThere w v.node.owner) (view_at w x related path) path
    (path-of_there w i x related e.composed))

-- keeps who is there
pub peopled-dispatch : (w : World) → IsWorld w → (x : NodeName) (related : Option NodeName) (e : EventWords) → IsPeopled w →
    IsPeopled (dispatch_in w x related e).run.0
peopled-dispatch w i x related e h =
    peopled-visits e (visits_of name_eq e.bubbles (views w x related e.composed)) w (begun []) (visits-of_dispatch w i x related e) h

-- and whose parts are there
pub people-dispatch : (w : World) → IsWorld w → (x : NodeName) (related : Option NodeName) (e : EventWords) →
    owners_in (dispatch_in w x related e).run.0 ≡ owners_in w
people-dispatch w i x related e = people-visits e (visits_of name_eq e.bubbles (views w x related e.composed)) w (begun []) (visits-of_dispatch w i x related e)

-- a notification, before its events
pub peopled-told : (w : World) (o : Owner) → IsThere w o → IsPeopled w → IsPeopled (told_in w o)
peopled-told w o h i =
    let base = without_signals w o in
    let calm = same-people base (refl, λ x. refl) i.owners.turn i.owners.tasks
    (all-filter (λ s. IsThere w s.owner) (λ s. not (is_owned_by o s)) w.signalled i.owners.signalled) i in
    peopled-with_part base (notified (part_of w o)) o (owner-part_of w o) h refl calm
