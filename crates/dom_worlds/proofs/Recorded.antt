-- The records of plans name nodes that are there where they are queued, and steps keep that of all records.
use Rattle.dom_base.proofs.Std.{◌≤◌, ℕ, not, ◌&&◌, List, [], ◌∷◌, ◌++◌, fold, length, Option, Some, None, unwrap_or, arith, ⊤, slice_get, slice_set, ◌==◌}
use Rattle.dom_base.proofs.Std.{AllByRecursion, list_any, option_map_or}
use Rattle.dom_model.proofs.Model.{NodeName, Word, DomString, name_eq, items_before, items_after, Trees, node_in, kind_of, is_fragment, subtree, children_of}
use Rattle.dom_model.proofs.Model.{parent_of, siblings, previous_sibling, next_sibling, times_in, attribute_value, inclusive_ancestors, target_of, fitting}
use Rattle.dom_model.proofs.Model.{without_old, asks_for_old, Change, child_list, attributes, character_data, Part, queue_of, Step, make, place, take_out}
use Rattle.dom_model.proofs.Model.{set_document, set_attribute, replace_data, queue_record, part_step, leave, interested_in, record_in, after, Plan, ◌and_then◌}
use Rattle.dom_model.proofs.Model.{in_turn, doing, Observing, observed, suppressed, telling, removal_record, remove_plan, removing_from, has_document}
use Rattle.dom_model.proofs.Model.{changing_document, adopt_plan, document_below, placed_nodes, making_room, placing, sibling_before, insert_plan}
use Rattle.dom_model.proofs.Model.{reference_child, replace_plan, setting_attribute, unsetting_attribute, replacing_data}
use Rattle.dom_worlds.specs.Definitions.{IsPart, IsNodeIn, IsNodeIf, IsRecordIn, HasRecords}
use Rattle.dom_worlds.proofs.Insides.{times-taken_out_all}
use Rattle.dom_worlds.proofs.InsideAncestors.{children-inside, child-there, parent-there, times-has_node}
use Rattle.dom_worlds.proofs.Lists.{all-then, all-append, all-from, all-set, either_way, by_some, by_some_is}
use Rattle.dom_worlds.proofs.PlanPlaces.{Changed, Leads, MayGo, may-still, still, leads-eased, leads-one, removing-each, placing-each, leads-removing}
use Rattle.dom_worlds.proofs.PlanPlaces.{leads-inserting}
use Rattle.dom_worlds.proofs.PlanTexts.{leads-plan}
use Rattle.dom_worlds.proofs.TableSteps.{HasNode, Fits, Grows, grows-step, grows-times}
use Rattle.dom_worlds.proofs.TableRecords.{IfSome, first-all, last-all, before-all, after-all, all-get}
use Rattle.dom_laws.proofs.Laws.{times_subtree}
use Rattle.dom_worlds.proofs.PlanChildren.{Joins, each-by, inserting-by}

-- What a step records is there.
abbrev pub Tells : Part → Step → Type 0
Tells p (queue_record c) = IsRecordIn p.trees c
Tells p s = ⊤

-- of steps, each where it is made
abbrev pub TellsIn : Part → List Step → Type 0
TellsIn p [] = ⊤
TellsIn p (s ∷ steps) = Tells p s × TellsIn (part_step p s) steps

-- Records where there are more nodes.
if-grows : (ts us : Trees) → Grows ts us → (o : Option NodeName) → IsNodeIf ts o → IsNodeIf us o
if-grows ts us g None h = tt
if-grows ts us g (Some x) h = g x h

-- one record
record-grows : (ts us : Trees) → Grows ts us → (c : Change NodeName) → IsRecordIn ts c → IsRecordIn us c
record-grows ts us g (child_list x added removed before behind) h = (
  g x h.0,
  all-then (IsNodeIn ts) (IsNodeIn us) g added h.1,
  all-then (IsNodeIn ts) (IsNodeIn us) g removed h.2,
  if-grows ts us g before h.3,
  if-grows ts us g behind h.4,
)
record-grows ts us g (attributes x a old) h = g x h
record-grows ts us g (character_data x old) h = g x h

-- all of them
pub records-grow : (ts us : Trees) → Grows ts us → (qs : List (List (Change NodeName))) → AllByRecursion (AllByRecursion (IsRecordIn ts)) qs →
    AllByRecursion (AllByRecursion (IsRecordIn us)) qs
records-grow ts us g qs h = all-then (AllByRecursion (IsRecordIn ts)) (AllByRecursion (IsRecordIn us))
    (λ q k. all-then (IsRecordIn ts) (IsRecordIn us) (record-grows ts us g) q k) qs h

-- without the old value
record-without_old : (ts : Trees) (c : Change NodeName) → IsRecordIn ts c → IsRecordIn ts (without_old c)
record-without_old ts (attributes x a old) h = h
record-without_old ts c h = h

-- what is found, or none
or-all : {X : Type 0} (P : List X → Type 0) (o : Option (List X)) → IfSome P o → P [] → P (unwrap_or o [])
or-all P None h e = e
or-all P (Some x) h e = h

-- the records of those that are told
records-told : (p : Part) (c : Change NodeName) → IsRecordIn p.trees c → (ks : List ℕ) (qs : List (List (Change NodeName))) →
    AllByRecursion (AllByRecursion (IsRecordIn p.trees)) qs →
    AllByRecursion (AllByRecursion (IsRecordIn p.trees)) (fold (λ queues k. slice_set queues k (queue_of queues k ++ record_in p c k ∷ [])) qs ks)
records-told p c r [] qs h = h
records-told p c r (k ∷ ks) qs h =
    let R = IsRecordIn p.trees in
    let path = inclusive_ancestors p.trees (target_of c) in
    let mine : R (record_in p c k) = either_way R
    (list_any (λ r. (r.observer == k) && asks_for_old r.options c) (fitting name_eq path p.registrations c)) c (without_old c) r
    (record-without_old p.trees c r) in
    records-told p c r ks (slice_set qs k (queue_of qs k ++ record_in p c k ∷ []))
    (all-set (AllByRecursion R) qs k (queue_of qs k ++ record_in p c k ∷ []) h
    (all-append R (queue_of qs k) (record_in p c k ∷ []) (or-all (AllByRecursion R) (slice_get qs k) (all-get (AllByRecursion R) qs k h) tt)
    (mine, tt)))

-- queues that are emptied
pub records-emptied : (P : Change NodeName → Type 0) (ks : List ℕ) (qs : List (List (Change NodeName))) → AllByRecursion (AllByRecursion P) qs →
    AllByRecursion (AllByRecursion P) (fold (λ queues k. slice_set queues k []) qs ks)
records-emptied P [] qs h = h
records-emptied P (k ∷ ks) qs h = records-emptied P ks (slice_set qs k []) (all-set (AllByRecursion P) qs k [] h tt)

-- A step keeps all records.
pub records-step : (p : Part) (s : Step) → IsPart p → Fits p s → Tells p s → HasRecords p → HasRecords (part_step p s)
records-step p (make n) i f t h = records-grow p.trees (part_step p (make n)).trees (grows-step p (make n) i f) p.record_queues h
records-step p (place x parent before) i f t h =
    records-grow p.trees (part_step p (place x parent before)).trees (grows-step p (place x parent before) i f) p.record_queues h
records-step p (take_out x) i f t h =
    by_some (λ (o : Option NodeName). HasRecords (option_map_or (leave p x) o p)) (parent_of p.trees x) h
    (λ parent. records-grow p.trees (leave p x parent).trees
    (grows-times p.trees (leave p x parent).trees (λ y. let a = times-taken_out_all p.trees x y i.unique in omega arith)) p.record_queues h)
records-step p (set_document x d) i f t h = records-grow p.trees (part_step p (set_document x d)).trees (grows-step p (set_document x d) i f) p.record_queues h
records-step p (set_attribute x a v) i f t h =
    records-grow p.trees (part_step p (set_attribute x a v)).trees (grows-step p (set_attribute x a v) i f) p.record_queues h
records-step p (replace_data x offset count new) i f t h =
    records-grow p.trees (part_step p (replace_data x offset count new)).trees (grows-step p (replace_data x offset count new) i f) p.record_queues h
records-step p (queue_record c) i f t h = records-told p c t (interested_in p c) p.record_queues h
records-step p s i f t h = h

-- Steps after steps.
pub tells-append : (p : Part) (xs ys : List Step) → TellsIn p xs → TellsIn (after p xs) ys → TellsIn p (xs ++ ys)
tells-append p [] ys h g = g
tells-append p (x ∷ xs) ys h g = (h.0, tells-append (part_step p x) xs ys h.1 g)

-- one plan and then another
pub tells-plan : {spot : Option NodeName} {p : Part} (f g : Plan) → Leads spot p (f p) → TellsIn p (f p) → ((q : Part) → Changed spot p q → TellsIn q (g q)) →
    TellsIn p ((f and_then g) p)
tells-plan {p} f g l a b = tells-append p (f p) (g (after p (f p))) a (b (after p (f p)) l.changed)

-- as other plans need it
pub tells-joins_on : Joins TellsIn
tells-joins_on = record { nothing = λ p. tt; append = λ p xs ys c. tells-append p xs ys }

-- Nodes that are there stay there.
pub still-all : {spot : Option NodeName} {p q : Part} → Changed spot p q → (xs : List NodeName) → AllByRecursion (HasNode p) xs → AllByRecursion (HasNode q) xs
still-all {p = p} {q = q} c xs h = all-then (HasNode p) (HasNode q) (λ x. still c x) xs h

-- one, if there is one
pub still-if : {spot : Option NodeName} {p q : Part} → Changed spot p q → (o : Option NodeName) → IfSome (HasNode p) o → IfSome (HasNode q) o
still-if c None h = tt
still-if c (Some x) h = still c x h

-- as a record has it
node_if : (p : Part) (o : Option NodeName) → IfSome (HasNode p) o → IsNodeIf p.trees o
node_if p None h = tt
node_if p (Some x) h = times-has_node p.trees x h

-- What a record names is there, by the counts.
abbrev pub AreThere : Part → Change NodeName → Type 0
AreThere p (child_list x added removed before behind) = HasNode p x × AllByRecursion (HasNode p) added × AllByRecursion (HasNode p) removed ×
    IfSome (HasNode p) before × IfSome (HasNode p) behind
AreThere p (attributes x a old) = HasNode p x
AreThere p (character_data x old) = HasNode p x

-- it is a record in the trees then
pub recorded : (p : Part) (c : Change NodeName) → AreThere p c → IsRecordIn p.trees c
recorded p (child_list x added removed before behind) h =
    let each = λ (xs : List NodeName) (a : AllByRecursion (HasNode p) xs). all-then (HasNode p) (IsNodeIn p.trees) (times-has_node p.trees) xs a in
    (times-has_node p.trees x h.0, each added h.1, each removed h.2, node_if p before h.3, node_if p behind h.4)
recorded p (attributes x a old) h = times-has_node p.trees x h
recorded p (character_data x old) h = times-has_node p.trees x h

-- Children and siblings are there.
pub children-there : (p : Part) (y : NodeName) → AllByRecursion (HasNode p) (children_of p.trees y)
children-there p y = all-then (λ z. 1 ≤ times_in (subtree p.trees y) z) (HasNode p) (λ z h. let s = times_subtree p.trees y z in omega arith)
    (children_of p.trees y) (children-inside p.trees y)

-- siblings
siblings-there : (p : Part) (x : NodeName) → HasNode p x → AllByRecursion (HasNode p) (siblings p.trees x)
siblings-there p x t =
    by_some (λ (o : Option NodeName). AllByRecursion (HasNode p) (option_map_or (children_of p.trees) o (x ∷ []))) (parent_of p.trees x) ((t, tt))
    (λ y. children-there p y)

-- the one before
previous-there : (p : Part) (x : NodeName) → HasNode p x → IfSome (HasNode p) (previous_sibling p.trees x)
previous-there p x t = last-all (HasNode p) (items_before name_eq x (siblings p.trees x)) (before-all (HasNode p) x (siblings p.trees x) (siblings-there p x t))

-- the one behind
pub next-there : (p : Part) (x : NodeName) → HasNode p x → IfSome (HasNode p) (next_sibling p.trees x)
next-there p x t = first-all (HasNode p) (items_after name_eq x (siblings p.trees x)) (after-all (HasNode p) x (siblings p.trees x) (siblings-there p x t))

-- a reference
pub reference-there : (p : Part) (node : NodeName) (o : Option NodeName) → HasNode p node → IfSome (HasNode p) o →
    IfSome (HasNode p) (reference_child p.trees node o)
reference-there p node None t h = tt
reference-there p node (Some c) t h = either_way (IfSome (HasNode p)) (name_eq c node) (next_sibling p.trees node) (Some c) (next-there p node t) h

-- the one in front of what is inserted
front-there : (p : Part) (parent : NodeName) (o : Option NodeName) → IfSome (HasNode p) o → IfSome (HasNode p) (sibling_before p.trees parent o)
front-there p parent None h = last-all (HasNode p) (children_of p.trees parent) (children-there p parent)
front-there p parent (Some c) h = previous-there p c h

-- Removals.
tells-telling : (how : Observing) (c : Change NodeName) (p : Part) → IsRecordIn p.trees c → TellsIn p (telling how c)
tells-telling observed c p h = (h, tt)
tells-telling suppressed c p h = tt

-- a removal
pub tells-removing : (how : Observing) (x : NodeName) (p : Part) → IsPart p → TellsIn p (remove_plan how x p)
tells-removing how x p i =
    by_some_is (λ (o : Option NodeName). TellsIn p (option_map_or (removing_from how x p.trees) o [])) (parent_of p.trees x) (λ e. tt)
    (λ parent e. let q = part_step p (take_out x) in
    let c = (leads-one p (take_out x) i tt).changed in
    let t = child-there p.trees x parent e in
    let before = previous_sibling p.trees x in
    let behind = next_sibling p.trees x in (
      tt,
      tells-telling how (removal_record p.trees parent x) q
          (recorded q (child_list parent [] (x ∷ []) before behind) (
            still c parent (parent-there p.trees x parent e),
            tt,
            (still c x t, tt),
            still-if c before (previous-there p x t),
            still-if c behind (next-there p x t),
          )),
    ))

-- an adoption
pub tells-adopting : (d x : NodeName) (p : Part) → IsPart p → TellsIn p (adopt_plan d x p)
tells-adopting d x p i =
    let q = after p (remove_plan observed x p) in
    tells-append p (remove_plan observed x p) (changing_document d x q) (tells-removing observed x p i)
    (either_way (TellsIn q) (not (has_document q.trees d x)) (set_document x d ∷ []) [] (tt, tt) tt)

-- a node that is placed
tells-placing : (parent : NodeName) (before : Option NodeName) (p : Part) (x : NodeName) → IsPart p → MayGo parent p x → TellsIn p (placing parent before x p)
tells-placing parent before p x i m = let d =
    document_below p.trees parent in tells-append p (adopt_plan d x p) (place x parent before ∷ []) (tells-adopting d x p i) (tt, tt)

-- removals
pub tells-removals : (how : Observing) (xs : List NodeName) (p : Part) → IsPart p → TellsIn p (in_turn (remove_plan how) xs p)
tells-removals how xs p i = each-by tells-joins_on (removing-each how) (λ q y j t. tells-removing how y q j) xs p i
    (all-from (λ y. ⊤) (λ y. tt) xs)

-- what is placed is there
placed-there : (p : Part) (node : NodeName) → HasNode p node → AllByRecursion (HasNode p) (placed_nodes p.trees node)
placed-there p node t = either_way (AllByRecursion (HasNode p)) (is_fragment (kind_of p.trees node)) (children_of p.trees node) (node ∷ [])
    (children-there p node) (t, tt)

-- An insertion, before a node that is there.
pub tells-inserting : {node parent : NodeName} {p : Part} (how : Observing) (before : Option NodeName) → IsPart p → MayGo parent p node →
    IfSome (HasNode p) before → TellsIn p (insert_plan how node parent before p)
tells-inserting {node} {parent} {p} how before i m b =
    let moved = placed_nodes p.trees node in
    let there = placed-there p node m.there in
    let front = sibling_before p.trees parent before in
    inserting-by tells-joins_on i m (record {
      removals = tells-removals suppressed moved p i;
      left = λ q c. (recorded q (child_list node [] moved None None) (still c node m.there, tt, still-all c moved there, tt, tt), tt);
      room = λ q. roomy before q;
      placed = λ q c may. each-by tells-joins_on (placing-each parent before) (tells-placing parent before) moved q c.part may;
      told = λ q c. tells-telling how (child_list parent moved [] front before) q (recorded q (child_list parent moved [] front before) (
        still c parent m.below,
        still-all c moved there,
        tt,
        still-if c front (front-there p parent before b),
        still-if c before b,
      ));
    })
  where
    roomy : (before : Option NodeName) (q : Part) → TellsIn q (making_room parent before (length (placed_nodes p.trees node)) q)
    roomy None q = tt
    roomy (Some child) q = (tt, tt)

-- a replacement
pub tells-replacing : {parent node : NodeName} {p : Part} (child : NodeName) → IsPart p → MayGo parent p node → HasNode p child →
    TellsIn p (replace_plan parent node child p)
tells-replacing {parent} {node} {p} child i m t =
    let spot = Some parent in
    let reference = reference_child p.trees node (next_sibling p.trees child) in
    let there = reference-there p node (next_sibling p.trees child) m.there (next-there p child t) in
    let front = previous_sibling p.trees child in
    let moved = placed_nodes p.trees node in
    let gone = leads-eased spot p (remove_plan suppressed child p) (leads-removing suppressed child p i) in
    tells-plan (remove_plan suppressed child and_then insert_plan suppressed node parent reference)
    (doing (queue_record (child_list parent moved (child ∷ []) front reference)))
    (leads-plan spot (remove_plan suppressed child) (insert_plan suppressed node parent reference) p gone
    (λ q c. leads-inserting suppressed node parent reference c.part (may-still parent p q node c m)))
    (tells-plan (remove_plan suppressed child) (insert_plan suppressed node parent reference) gone (tells-removing suppressed child p i)
    (λ q c. tells-inserting suppressed reference c.part (may-still parent p q node c m) (still-if c reference there)))
    (λ q c. (
      recorded q (child_list parent moved (child ∷ []) front reference) (
        still c parent m.below,
        still-all c moved (placed-there p node m.there),
        (still c child t, tt),
        still-if c front (previous-there p child t),
        still-if c reference there,
      ),
      tt,
    ))

-- Attributes and data.
pub tells-setting_attribute : (x : NodeName) (a : Word) (v : DomString) (p : Part) → HasNode p x → TellsIn p (setting_attribute x a v p)
tells-setting_attribute x a v p t = (times-has_node p.trees x t, (tt, tt))

-- an attribute that goes
pub tells-unsetting_attribute : (x : NodeName) (a : Word) (p : Part) → HasNode p x → TellsIn p (unsetting_attribute x a p)
tells-unsetting_attribute x a p t = from (attribute_value (node_in p.trees x) a)
  where
    from : (v : Option DomString) → TellsIn p (option_map_or (λ old. queue_record (attributes x a (Some old)) ∷ set_attribute x a None ∷ []) v [])
    from None = tt
    from (Some old) = (times-has_node p.trees x t, (tt, tt))

-- data
pub tells-replacing_data : (x : NodeName) (offset count : ℕ) (new : DomString) (p : Part) → HasNode p x → TellsIn p (replacing_data x offset count new p)
tells-replacing_data x offset count new p t = (times-has_node p.trees x t, (tt, tt))
