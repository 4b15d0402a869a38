-- Listeners and observers keep to nodes that are there, and so does what an accepted command does to tables.
use Rattle.dom_base.proofs.Std.{◌≡◌, ◌≤◌, ◌<◌, ℕ, true, false, not, ◌&&◌, List, [], ◌∷◌, ◌++◌, map, filter, length, Option, Some, None, refl, sym, ap, ◌∙◌}
use Rattle.dom_base.proofs.Std.{arith, length-append, ⊤, slice_get, slice_set, is_some, ◌==◌, AllByRecursion, list_any, option_map_or, option_or, and_parts}
use Rattle.dom_base.proofs.Std.{length-set}
use Rattle.dom_model.proofs.Model.{NodeName, observed, Command, NodeWord, ObserveWords, ListenerWords, part_refusal, own_refusal, effect, named, has_range}
use Rattle.dom_model.proofs.Model.{limit_on, made_by_insert_node, answers, moves_iterator, sets_walker, node_or_null, collapsed_to, new_iterator, new_walker}
use Rattle.dom_model.proofs.Model.{both_at, extracting, Listener, with_listener_added, is_listener, name_eq, Registration, asked_for, with_registration}
use Rattle.dom_model.proofs.Model.{with_options, is_asked_for, stems_from, options_of, nothing, a_node, a_string, boundaries, reference, Part, first_node}
use Rattle.dom_model.proofs.Model.{range_at, cannot_take_node, insert_node_refusal, insertion_parent, start_reference, range_text_of, inserting_into_range}
use Rattle.dom_model.proofs.Model.{deleting, Range, at, with_start, with_end, Iterator, Walker, iterator_next_node, iterator_previous_node, walker_move, Trees}
use Rattle.dom_model.proofs.Model.{has_node, parent_of, length_of, pre_insert_refusal}
use Rattle.dom_worlds.specs.Definitions.{IsPart, IsNodeIn, EndsIn, IsIteratorIn, IsWalkerIn, IsRegistrationIn, IsListenerIn, HasTables}
use Rattle.dom_worlds.proofs.Effects.{IsPartAccepted, or-none, part-accepted, range-steps}
use Rattle.dom_worlds.proofs.Descents.{inside-ancestor}
use Rattle.dom_worlds.proofs.Insides.{inside-itself}
use Rattle.dom_worlds.proofs.InsideAncestors.{times-has_node, parent-there}
use Rattle.dom_worlds.proofs.KindLines.{has_node-times}
use Rattle.dom_worlds.proofs.Lists.{all-append, all-then, all-filter, all-map, get-below, either_way}
use Rattle.dom_worlds.proofs.Owners.{owner-named}
use Rattle.dom_worlds.proofs.PlanPlaces.{MayGo, leads-removing, leads-adopting, leads-inserting}
use Rattle.dom_worlds.proofs.PlanTexts.{leads-replacing, leads-setting_attribute, leads-unsetting_attribute, leads-replacing_data, leads-splitting}
use Rattle.dom_worlds.proofs.PlanTexts.{leads-normalizing, leads-setting_text}
use Rattle.dom_worlds.proofs.PlanContents.{range-ends, leads-extracting, leads-deleting, leads-inserting_into_range}
use Rattle.dom_worlds.proofs.ShadowRoots.{not_taken}
use Rattle.dom_worlds.proofs.TableSteps.{HasNode, MadeIn, tables-iterators, tables-ranges, tables-telling, tables-walkers}
use Rattle.dom_worlds.proofs.PlanRoots.{ends-at}
use Rattle.dom_worlds.proofs.TableRecords.{IfSome, all-get}
use Rattle.dom_worlds.proofs.Roots.{roots-same}
use Rattle.dom_worlds.proofs.TableCommands.{Holds, append-may, exists-first, insert-may, named-may, replace-may, some-holds, tables-range}
use Rattle.dom_worlds.proofs.TableCommands.{ends-mapped, ends-with_start, ends-with_end, ends-collapsed, iterator-next, iterator-previous, tables-iterator}
use Rattle.dom_worlds.proofs.TableCommands.{walker-moved, tables-walker}
use Rattle.dom_worlds.proofs.Placings.{insertion-tested}

-- Listeners.
pub all-heard : (P : Listener NodeName → Type 0) (x : NodeName) (w : ListenerWords) (ls : List (Listener NodeName)) →
    P (record { node = x; words = w }) → AllByRecursion P ls → AllByRecursion P (with_listener_added name_eq x w ls)
all-heard P x w ls g h =
    let one : Listener NodeName = record { node = x; words = w } in
    either_way (AllByRecursion P) (list_any (is_listener name_eq x w.event w.label w.capture) ls) ls (ls ++ one ∷ []) h (all-append P ls (one ∷ []) h (g, tt))

-- with other listeners
pub tables-listeners : (p : Part) (ls : List (Listener NodeName)) → HasTables p → AllByRecursion (IsListenerIn p.trees) ls →
    HasTables (record p { listeners = ls })
tables-listeners p ls h g = tables-telling h h.registrations h.pending g

-- Observers. What other options leave as it is, and what holds of a new registration of an observer at a node.
record HoldsRegistered (P : Registration NodeName → Type 0) (k : ℕ) (x : NodeName) (o : ObserveWords) : Type 0 where
  changed : (r : Registration NodeName) → P r → P (record r { options = o })
  made : P (record { node = x; observer = k; options = o; source = asked_for })

-- holds of all
all-registered_with : {P : Registration NodeName → Type 0} {k : ℕ} {x : NodeName} {o : ObserveWords} (rs : List (Registration NodeName)) →
    HoldsRegistered P k x o → AllByRecursion P rs → AllByRecursion P (with_registration name_eq k x o rs)
all-registered_with {P} {k} {x} {o} rs each h =
    let left = filter (λ (r : Registration NodeName). not ((r.observer == k) && stems_from name_eq x r.source)) rs in
    let one : Registration NodeName = record { node = x; observer = k; options = o; source = asked_for } in
    either_way (AllByRecursion P) (list_any (is_asked_for name_eq k x) rs) (map (with_options name_eq k x o) left) (rs ++ one ∷ [])
    (all-map P (with_options name_eq k x o) left
    (all-then P (λ r. P (with_options name_eq k x o r)) (λ r m. either_way P (is_asked_for name_eq k x r) (record r { options = o }) r (each.changed r m) m)
    left (all-filter P (λ (r : Registration NodeName). not ((r.observer == k) && stems_from name_eq x r.source)) rs h)))
    (all-append P rs (one ∷ []) h (each.made, tt))

-- with other queues and registrations
tables-observers : {p : Part} (queues : _) (rs : List (Registration NodeName)) (ks : List ℕ) → HasTables p →
    AllByRecursion (IsRegistrationIn p.trees (length queues)) rs → AllByRecursion (λ k. k < length queues) ks →
    HasTables (record p { record_queues = queues; registrations = rs; pending = ks })
tables-observers queues rs ks h g m = tables-telling h g m h.listeners

-- of more observers
pub more-registered : (ts : Trees) (j k : ℕ) → j ≤ k → (rs : List (Registration NodeName)) → AllByRecursion (IsRegistrationIn ts j) rs →
    AllByRecursion (IsRegistrationIn ts k) rs
more-registered ts j k e rs h = all-then (IsRegistrationIn ts j) (IsRegistrationIn ts k)
    (λ r i. record { node = i.node; observer = let o = i.observer in omega arith; source = i.source }) rs h

-- and more pending
pub more-pending : (j k : ℕ) → j ≤ k → (ks : List ℕ) → AllByRecursion (λ i. i < j) ks → AllByRecursion (λ i. i < k) ks
more-pending j k e ks h = all-then (λ i. i < j) (λ i. i < k) (λ i o. omega arith) ks h

-- the parent into which a node goes is there
pub parent-of_range : (p : Part) (range : Range NodeName) → HasNode p range.start.node → HasNode p (insertion_parent p.trees range)
parent-of_range p range t = from (start_reference p.trees range)
  where
    of : (o : Option NodeName) → IfSome (HasNode p) o → HasNode p (Rattle.std.specs.Prelude.unwrap_or o range.start.node)
    of None h = t
    of (Some x) h = h

    up : (x : NodeName) (o : Option NodeName) → parent_of p.trees x ≡ o → IfSome (HasNode p) o
    up x None e = tt
    up x (Some y) e = parent-there p.trees x y e

    from : (o : Option NodeName) →
        HasNode p (Rattle.std.specs.Prelude.unwrap_or (Rattle.std.specs.Option.option_and_then (parent_of p.trees) o) range.start.node)
    from None = t
    from (Some x) = of (parent_of p.trees x) (up x (parent_of p.trees x) refl)

-- an accepted `insert-node` is valid
pub insert_node-valid : (p : Part) (k : ℕ) (x : NodeWord) → own_refusal p (Command.insert_node k x) ≡ None → (range : Range NodeName) →
    range_at p k ≡ Some range → insert_node_refusal p.trees range (named p x) ≡ None
insert_node-valid p k x r range e =
    let tests = λ (q : Range NodeName). option_or (insert_node_refusal p.trees q (named p x)) (limit_on p.node_count (made_by_insert_node p q)) in
    let here : tests range ≡ None = sym (ap (λ a. option_map_or tests a None) e) ∙ r in
    (or-none (insert_node_refusal p.trees range (named p x)) (limit_on p.node_count (made_by_insert_node p range)) here).0

-- so its node may go there
pub insert_node-may : {p : Part} {k : ℕ} {x : NodeWord} {range : Range NodeName} → IsPart p → HasTables p → IsPartAccepted p (Command.insert_node k x) →
    range_at p k ≡ Some range → MayGo (insertion_parent p.trees range) p (named p x)
insert_node-may {p} {k} {x} {range} i h a e =
    let t = exists-first p x true (has_range p k) a.exist in
    let valid = not_taken (cannot_take_node p.trees range (named p x))
    (pre_insert_refusal p.trees (insertion_parent p.trees range) (named p x) (start_reference p.trees range))
    (insert_node-valid p k x a.own range e) in
    named-may x (insertion_parent p.trees range) i t (parent-of_range p range (range-ends p k h range e).0)
    (insertion-tested p.trees (insertion_parent p.trees range) (named p x) (start_reference p.trees range) valid).apart

-- any thing or none
some-any : {X : Type 0} (o : Option X) → IfSome (λ x. ⊤) o
some-any None = tt
some-any (Some x) = tt

-- Every accepted command.
pub holds-effect : (p : Part) → IsPart p → HasTables p → IsNodeIn p.trees (first_node p) → (c : Command) → part_refusal p c ≡ None → Holds p (effect p c)
holds-effect p i h f (Command.append a x) r =
    (leads-inserting observed (named p x) (named p a) None i (append-may i a x (part-accepted p (Command.append a x) r))).made
holds-effect p i h f (Command.insert a x c) r =
    (leads-inserting observed (named p x) (named p a) _ i (insert-may i a x c (part-accepted p (Command.insert a x c) r))).made
holds-effect p i h f (Command.replace a x c) r =
    (leads-replacing (named p a) (named p x) (named p c) p i (replace-may i a x c (part-accepted p (Command.replace a x c) r))).made
holds-effect p i h f (Command.remove x) r = (leads-removing observed (named p x) p i).made
holds-effect p i h f (Command.adopt d x) r = (leads-adopting (named p d) (named p x) p i (owner-named p x)).made
holds-effect p i h f (Command.normalize x) r = (leads-normalizing (named p x) p i).made
holds-effect p i h f (Command.set_attribute x a v) r = (leads-setting_attribute (named p x) a v p i).made
holds-effect p i h f (Command.unset_attribute x a) r = (leads-unsetting_attribute (named p x) a p i).made
holds-effect p i h f (Command.set_data x s) r = (leads-replacing_data (named p x) 0 (length_of p.trees (named p x)) s p i).made
holds-effect p i h f (Command.replace_data x j n s) r = (leads-replacing_data (named p x) j n s p i).made
holds-effect p i h f (Command.split x j) r = (leads-splitting (named p x) j p i).made
holds-effect p i h f (Command.set_text x s) r =
    let k = part-accepted p (Command.set_text x s) r in
    (leads-setting_text (named p x) s p i (exists-first p x true true k.exist)).made
holds-effect p i h f Command.range_new r =
    tables-ranges h (all-append (EndsIn p.trees) p.ranges (Some (both_at (at (first_node p) 0)) ∷ []) h.ranges
    (record { start = f; end = f; one_root = roots-same p.trees (first_node p) (first_node p) refl }, tt))
holds-effect p i h f (Command.range_start k x j) r =
    let a = part-accepted p (Command.range_start k x j) r in
    let b = at (named p x) j in
    let t = times-has_node p.trees (named p x) (exists-first p x true (has_range p k) a.exist) in
    tables-range p k _ h (ends-mapped p.trees (with_start p.trees b) (ends-with_start p.trees b t) (range_at p k) (ends-at p k h))
holds-effect p i h f (Command.range_end k x j) r =
    let a = part-accepted p (Command.range_end k x j) r in
    let b = at (named p x) j in
    let t = times-has_node p.trees (named p x) (exists-first p x true (has_range p k) a.exist) in
    tables-range p k _ h (ends-mapped p.trees (with_end p.trees b) (ends-with_end p.trees b t) (range_at p k) (ends-at p k h))
holds-effect p i h f (Command.range_collapse k s) r =
    tables-range p k _ h (ends-mapped p.trees (collapsed_to s) (ends-collapsed p.trees s) (range_at p k) (ends-at p k h))
holds-effect p i h f (Command.range_drop k) r = tables-range p k None h tt
holds-effect p i h f (Command.range_get k) r =
    some-holds p (range_at p k) (λ (r : Range NodeName). answers p (boundaries r.start r.end)) (some-any (range_at p k)) (λ x t. h) h
holds-effect p i h f (Command.range_text k) r =
    some-holds p (range_at p k) (λ (r : Range NodeName). answers p (a_string (range_text_of p.trees r))) (some-any (range_at p k)) (λ x t. h) h
holds-effect p i h f (Command.extract k) r =
    range-steps (MadeIn p) p k tt (λ range. extracting k range p) (λ range e. (leads-extracting k range p i (range-ends p k h range e).0).made)
holds-effect p i h f (Command.delete k) r =
    range-steps (MadeIn p) p k tt (λ range. deleting k range p) (λ range e. (leads-deleting k range p i (range-ends p k h range e).0).made)
holds-effect p i h f (Command.insert_node k x) r =
    let a = part-accepted p (Command.insert_node k x) r in
    range-steps (MadeIn p) p k tt (λ range. inserting_into_range k range (named p x) p)
    (λ range e. (leads-inserting_into_range k (named p x) i h e
    (insert_node-may i h a e)).made)
holds-effect p i h f (Command.iterator_new x w) r =
    let a = part-accepted p (Command.iterator_new x w) r in
    let t = times-has_node p.trees (named p x) (exists-first p x true true a.exist) in
    tables-iterators h (all-append (IsIteratorIn p.trees) p.iterators (new_iterator (named p x) w ∷ []) h.iterators (
      record {
        root = t;
        reference = t;
        within = inside-ancestor p.trees (named p x) (named p x) i.unique
            (inside-itself p.trees (named p x) (has_node-times p.trees (named p x) t));
      },
      tt,
    ))
holds-effect p i h f (Command.walker_new x w) r =
    let a = part-accepted p (Command.walker_new x w) r in
    let t = times-has_node p.trees (named p x) (exists-first p x true true a.exist) in
    tables-walkers h (all-append (IsWalkerIn p.trees) p.walkers (new_walker (named p x) w ∷ []) h.walkers (record { root = t; current = t }, tt))
holds-effect p i h f (Command.iterator_next k) r =
    some-holds p (slice_get p.iterators k) (λ i. moves_iterator p k false i (iterator_next_node p.trees i))
    (all-get (IsIteratorIn p.trees) p.iterators k h.iterators)
    (λ j g. tables-iterator k false (iterator_next_node p.trees j) h g (iterator-next p.trees j i.unique g)) h
holds-effect p i h f (Command.iterator_previous k) r =
    some-holds p (slice_get p.iterators k) (λ i. moves_iterator p k true i (iterator_previous_node p.trees i))
    (all-get (IsIteratorIn p.trees) p.iterators k h.iterators)
    (λ j g. tables-iterator k true (iterator_previous_node p.trees j) h g (iterator-previous p.trees j i.unique g)) h
holds-effect p i h f (Command.iterator_at k) r =
    some-holds p (slice_get p.iterators k) (λ (i : Iterator). answers p (reference i.reference i.before))
    (all-get (IsIteratorIn p.trees) p.iterators k h.iterators) (λ j g. h) h
holds-effect p i h f (Command.walk k m) r =
    some-holds p (slice_get p.walkers k) (λ w. sets_walker p k w (walker_move p.trees w m) (node_or_null (walker_move p.trees w m)))
    (all-get (IsWalkerIn p.trees) p.walkers k h.walkers) (λ w g. tables-walker k (walker_move p.trees w m) _ h g (walker-moved p.trees w m)) h
holds-effect p i h f (Command.walker_at k) r =
    some-holds p (slice_get p.walkers k) (λ (w : Walker). answers p (a_node w.current)) (all-get (IsWalkerIn p.trees) p.walkers k h.walkers) (λ j g. h) h
holds-effect p i h f (Command.walker_set k x) r =
    let a = part-accepted p (Command.walker_set k x) r in
    let t = times-has_node p.trees (named p x) (exists-first p x true (is_some (slice_get p.walkers k)) a.exist) in
    some-holds p (slice_get p.walkers k) (λ w. sets_walker p k w (Some (named p x)) nothing) (all-get (IsWalkerIn p.trees) p.walkers k h.walkers)
    (λ w g. tables-walker k (Some (named p x)) nothing h g t) h
holds-effect p i h f (Command.listen x w) r =
    let a = part-accepted p (Command.listen x w) r in
    tables-listeners p _ h (all-heard (IsListenerIn p.trees) (named p x) w p.listeners
    (times-has_node p.trees (named p x) (exists-first p x true true a.exist)) h.listeners)
holds-effect p i h f (Command.unlisten x e l c) r =
    tables-listeners p _ h (all-filter (IsListenerIn p.trees) (λ m. not (is_listener name_eq (named p x) e l c m)) p.listeners h.listeners)
holds-effect p i h f Command.observer r =
    let more : length p.record_queues ≤ length (p.record_queues ++ [] ∷ []) = let e = length-append p.record_queues ([] ∷ []) in omega arith in
    tables-observers (p.record_queues ++ [] ∷ []) p.registrations p.pending h
    (more-registered p.trees (length p.record_queues) (length (p.record_queues ++ [] ∷ [])) more p.registrations h.registrations)
    (more-pending (length p.record_queues) (length (p.record_queues ++ [] ∷ [])) more p.pending h.pending)
holds-effect p i h f (Command.observe k x w) r =
    let a = part-accepted p (Command.observe k x w) r in
    let t = times-has_node p.trees (named p x) (exists-first p x true (is_some (slice_get p.record_queues k)) a.exist) in
    let below = get-below p.record_queues k (and_parts (has_node p.trees (named p x) && true) (is_some (slice_get p.record_queues k)) a.exist).1 in
    let P = IsRegistrationIn p.trees (length p.record_queues) in
    let each : HoldsRegistered P k (named p x) (options_of w) = record {
      changed = λ r m. record { node = m.node; observer = m.observer; source = m.source };
      made = record { node = t; observer = below; source = tt };
    } in
    tables-observers p.record_queues (with_registration name_eq k (named p x) (options_of w) p.registrations) p.pending h
    (all-registered_with p.registrations each h.registrations) h.pending
holds-effect p i h f (Command.disconnect k) r =
    let same : length p.record_queues ≤ length (slice_set p.record_queues k []) = let e = length-set p.record_queues k [] in omega arith in
    let left = filter (λ (r : Registration NodeName). not (r.observer == k)) p.registrations in
    tables-observers (slice_set p.record_queues k []) left p.pending h
    (more-registered p.trees (length p.record_queues) (length (slice_set p.record_queues k [])) same left
    (all-filter (IsRegistrationIn p.trees (length p.record_queues)) (λ (r : Registration NodeName). not (r.observer == k)) p.registrations
    h.registrations))
    (more-pending (length p.record_queues) (length (slice_set p.record_queues k [])) same p.pending h.pending)
holds-effect p i h f (Command.take k) r =
    let same : length p.record_queues ≤ length (slice_set p.record_queues k []) = let e = length-set p.record_queues k [] in omega arith in
    tables-observers (slice_set p.record_queues k []) p.registrations p.pending h
    (more-registered p.trees (length p.record_queues) (length (slice_set p.record_queues k [])) same p.registrations h.registrations)
    (more-pending (length p.record_queues) (length (slice_set p.record_queues k [])) same p.pending h.pending)
holds-effect p i h f c r = search
