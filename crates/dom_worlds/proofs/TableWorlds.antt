-- Steps in the world keep the tables of all parts, and each signalled slot a node.
use Rattle.dom_base.proofs.Std.{◌≡◌, ℕ, zero, suc, ◌≤◌, ◌<◌, Bool, true, ◌&&◌, List, [], ◌∷◌, ◌++◌, filter, filter_map, find, fold, Option, Some, None}
use Rattle.dom_base.proofs.Std.{option_map, refl, sym, ap, ◌∙◌, arith, true≢false, subst, if◌then◌else◌, option_to_list, unwrap_or, AllByRecursion, cons_option}
use Rattle.dom_base.proofs.Std.{option_and_then, and_parts}
use Rattle.dom_model.proofs.Model.{NodeName, Owner, Page, DomString, name_eq, owner_eq, owner_depth, node_of, max_depth, is_empty, is_in, Trees, Node, nodes}
use Rattle.dom_model.proofs.Model.{node_in, no_node, subtree, inclusive_descendants, is_element, times_in, Part, is_slot_element, slottable_name, slot_in}
use Rattle.dom_model.proofs.Model.{slot_of, has_slot_name, assigned_nodes, assigned_nodes_changed, is_bare_slot, own_slots, slots_among, other_slots, signals}
use Rattle.dom_model.proofs.Model.{with_signal, Step, set_document, part_step, World, part_of, with_part, trees_with, node_at, root_at, parent_at, component_at}
use Rattle.dom_model.proofs.Model.{components_below, shadow_root_of, shadow_tree, is_in_shadow_tree, world_step, world_after, stepped, with_shadow_document}
use Rattle.dom_model.proofs.Model.{owner_eq-true, owner_eq-false, part_of-with_part, part_of-with_part-other, owner-part_of, IsOther, IsApart, part_of-own_step}
use Rattle.dom_worlds.specs.Definitions.{IsPart, IsWorld, HasMakers, IsNodeIn, HasTables, HasRecords, IsNodeAt}
use Rattle.dom_worlds.proofs.InsideAncestors.{times-has_node}
use Rattle.dom_worlds.proofs.Lists.{all-append, all-filter, all-then, all-map, all-flat_map, all-distinct, by_cases, either_way, kept-fold}
use Rattle.dom_worlds.proofs.Owners.{makers-same, component-deeper}
use Rattle.dom_worlds.proofs.PartSteps.{part-step, rest-step}
use Rattle.dom_worlds.proofs.Recorded.{Tells, TellsIn, records-step}
use Rattle.dom_worlds.proofs.ShadowRoots.{found-absent}
use Rattle.dom_worlds.proofs.TableSteps.{Fits, MadeIn, Grows, grows-step}
use Rattle.dom_worlds.proofs.TableRecords.{tables-step, IfSome}
use Rattle.dom_laws.proofs.Laws.{by_times, times_subtree}
use Rattle.dom_worlds.proofs.Trees.{nodes-there}
use Rattle.dom_worlds.proofs.WorldSteps.{attached-with_part, stepped_owner, kept-world_step}

-- All parts keep the nodes that they have.
abbrev pub AllGrow : World → World → Type 0
AllGrow w v = (o : Owner) → Grows (part_of w o).trees (part_of v o).trees

-- What is carried through steps: names are as they should be, and whoever has hosts may attach.
pub record Ground (w : World) : Type 0 where
  pub parts : (o : Owner) → IsPart (part_of w o)
  pub makers : HasMakers w

-- so it is of a world as it should be
pub ground-of : (w : World) → IsWorld w → Ground w
ground-of w i = record { parts = i.parts; makers = i.makers }

-- The tables, the records, the page's first document, and the signalled slots.
pub record Frame (w : World) : Type 0 where
  pub tables : (o : Owner) → HasTables (part_of w o)
  pub records : (o : Owner) → HasRecords (part_of w o)
  pub first : IsNodeIn (part_of w Page).trees (node_of Page 0)
  pub signalled : AllByRecursion (IsNodeAt w) w.signalled

-- What holds of a part of a world in which another part is written.
module _ (P : Owner → Part → Type 0) (w : World) (p : Part) where
  -- of the part that is written
  own-part : (o x : Owner) → p.owner ≡ o → o ≡ x → P o p → P x (part_of (with_part w p) x)
  own-part o x e same h = subst (P x) (sym (part_of-with_part w p x (e ∙ same))) (subst (λ y. P y p) same h)

  -- of another
  other-part : (x : Owner) → (p.owner ≡ x → ⊥) → P x (part_of w x) → P x (part_of (with_part w p) x)
  other-part x off h = subst (P x) (sym (part_of-with_part-other w p x off)) h

  -- of each
  pub each-part : (o : Owner) → p.owner ≡ o → P o p → ((x : Owner) → P x (part_of w x)) → (x : Owner) → P x (part_of (with_part w p) x)
  each-part o e h g x =
      by_cases (owner_eq o x) (λ k. own-part o x e (owner_eq-true o x k) h) (λ k. other-part x (λ s. owner_eq-false o x k (sym e ∙ s)) (g x))

-- another part with more nodes
pub grow-with_part : (w : World) (p : Part) (o : Owner) → p.owner ≡ o → Grows (part_of w o).trees p.trees → AllGrow w (with_part w p)
grow-with_part w p o e g = each-part (λ x q. Grows (part_of w x).trees q.trees) w p o e g (λ x y h. h)

-- a world in which all parts have grown
pub frame-grown : {w : World} (v : World) → AllGrow w v → ((o : Owner) → HasTables (part_of v o)) → ((o : Owner) → HasRecords (part_of v o)) →
    AllByRecursion (IsNodeAt w) v.signalled → Frame w → Frame v
frame-grown {w} v g t r s f = record {
  tables = t;
  records = r;
  first = g Page (node_of Page 0) f.first;
  signalled = all-then (IsNodeAt w) (IsNodeAt v) (λ x. g x.owner x) v.signalled s;
}

-- A part that is written for its owner.
module _ (w : World) (p : Part) (o : Owner) (e : p.owner ≡ o) where
  -- another part
  pub frame-with_part : HasTables p → HasRecords p → Grows (part_of w o).trees p.trees → Frame w → Frame (with_part w p)
  frame-with_part h r g f =
      frame-grown (with_part w p) (grow-with_part w p o e g) (each-part (λ x q. HasTables q) w p o e h f.tables)
      (each-part (λ x q. HasRecords q) w p o e r f.records) f.signalled f

  -- with its hosts
  ground-with_part : IsPart p → p.attached ≡ (part_of w o).attached → Ground w → Ground (with_part w p)
  ground-with_part i a g =
      record { parts = each-part (λ x q. IsPart q) w p o e i g.parts; makers = makers-same (with_part w p) w (attached-with_part w p o e a) g.makers }

-- What is asked of a step: it fits where it is made, and what it records is there.
abbrev pub Suits : Part → Step → Type 0
Suits p s = Fits p s × Tells p s

-- names and hosts
pub ground-stepped : (o : Owner) (w : World) (s : Step) → Ground w → Ground (stepped o w s)
ground-stepped o w s g = ground-with_part w (part_step (part_of w o) s) o (stepped_owner w o s) (part-step (part_of w o) s (g.parts o))
    (rest-step (part_of w o) s).0 g

-- nodes
grow-stepped : (o : Owner) (w : World) (s : Step) → Fits (part_of w o) s → Ground w → AllGrow w (stepped o w s)
grow-stepped o w s h g = grow-with_part w (part_step (part_of w o) s) o (stepped_owner w o s) (grows-step (part_of w o) s (g.parts o) h)

-- tables
frame-stepped : (o : Owner) (w : World) (s : Step) → Suits (part_of w o) s → Ground w → Frame w → Frame (stepped o w s)
frame-stepped o w s h g f =
    frame-with_part w (part_step (part_of w o) s) o (stepped_owner w o s) (tables-step (part_of w o) s (g.parts o) h.0 (f.tables o))
    (records-step (part_of w o) s (g.parts o) h.0 h.1 (f.records o)) (grows-step (part_of w o) s (g.parts o) h.0) f

-- Slots that are signalled are nodes. First, a node of a part is one of its owner's trees.
at-owner : (w : World) → Ground w → (o : Owner) (x : NodeName) → 1 ≤ times_in (part_of w o).trees x → IsNodeAt w x
at-owner w g o x h =
    let mine : o ≡ x.owner = sym ((g.parts o).owned x h ∙ owner-part_of w o) in
    subst (λ a. IsNodeIn (part_of w a).trees x) mine (times-has_node (part_of w o).trees x h)

-- a node that is found
found-listed : (P : Node → Type 0) (test : Node → Bool) (ns : List Node) → AllByRecursion P ns → IfSome P (find test ns)
found-listed P test [] h = tt
found-listed P test (n ∷ ns) h = either_way (IfSome P) (test n) (Some n) (find test ns) h.0 (found-listed P test ns h.1)

-- the slot of a node
slot-at : (w : World) → Ground w → (x : NodeName) → IfSome (IsNodeAt w) (slot_of w x)
slot-at w g x = from (option_and_then (component_at w) (parent_at w x))
  where
    name_if : (o : Option Node) → IfSome (λ (n : Node). IsNodeAt w n.name) o → IfSome (IsNodeAt w) (option_map (λ (s : Node). s.name) o)
    name_if None h = tt
    name_if (Some n) h = h

    looked : (c : Owner) (name : Option DomString) →
        IfSome (IsNodeAt w) (option_and_then (λ name. option_map (λ (s : Node). s.name) (find (has_slot_name name) (nodes (shadow_tree w c)))) name)
    looked c None = tt
    looked c (Some name) =
        let ts = (part_of w c).trees in
        let P : Node → Type 0 = λ n. IsNodeAt w n.name in
        let all = all-then (λ (n : Node). 1 ≤ times_in (shadow_tree w c) n.name) P
        (λ n h. at-owner w g c n.name (let s = times_subtree ts (shadow_root_of c) n.name in omega arith)) (nodes (shadow_tree w c))
        (nodes-there (shadow_tree w c)) in
        name_if (find (has_slot_name name) (nodes (shadow_tree w c))) (found-listed P (has_slot_name name) (nodes (shadow_tree w c)) all)

    from : (c : Option Owner) → IfSome (IsNodeAt w) (option_and_then (λ c. slot_in (shadow_tree w c) (node_at w x)) c)
    from None = tt
    from (Some c) = looked c (slottable_name (node_at w x))

-- one that is there, or none
all-if : {X : Type 0} (P : X → Type 0) (o : Option X) → IfSome P o → AllByRecursion P (option_to_list o)
all-if P None h = tt
all-if P (Some x) h = (h, tt)

-- what holds of what is there
if-then : {X : Type 0} (P Q : X → Type 0) (o : Option X) → ((x : X) → P x → Q x) → IfSome P o → IfSome Q o
if-then P Q None f h = tt
if-then P Q (Some x) f h = f x h

-- slots of trees of an owner
among-at : (w : World) → Ground w → (o : Owner) (us : Trees) → ((y : NodeName) → times_in us y ≤ times_in (part_of w o).trees y) →
    AllByRecursion (IsNodeAt w) (slots_among us)
among-at w g o us h =
    all-map (IsNodeAt w) (λ (n : Node). n.name) (filter is_slot_element (nodes us))
    (all-filter (λ (n : Node). IsNodeAt w n.name) is_slot_element (nodes us)
    (all-then (λ (n : Node). 1 ≤ times_in us n.name) (λ n. IsNodeAt w n.name) (λ n k. at-owner w g o n.name (let a = h n.name in omega arith))
    (nodes us) (nodes-there us)))

-- an element is there
element-there : (ts : Trees) (x : NodeName) → is_element (node_in ts x).kind ≡ true → IsNodeIn ts x
element-there ts x h = times-has_node ts x
    (by_times (times_in ts x) (λ z. absurd
    (true≢false (sym h ∙ ap (λ (o : Option Node). is_element (unwrap_or o (no_node x)).kind) (found-absent ts x z)))) (λ z. z))

-- a slot without assigned nodes
bare-at : (w : World) (s : NodeName) (is_move : Bool) → (is_move && is_bare_slot w s) ≡ true → IsNodeAt w s
bare-at w s is_move h =
    let both = and_parts is_move (is_bare_slot w s) h in
    let slot = and_parts (is_slot_element (node_at w s)) (is_in_shadow_tree w s && is_empty (assigned_nodes w s)) both.1 in
    element-there (trees_with w s) s (and_parts (is_element (node_at w s).kind) _ slot.0).0

-- all that is signalled
signals-at : {was now : World} → Ground was → Ground now → AllGrow was now → (x around : NodeName) (is_move : Bool) →
    AllByRecursion (IsNodeAt now) (signals was now x around is_move)
signals-at {was} {now} g h grow x around is_move =
    let P = IsNodeAt now in
    let bare : List NodeName = if is_move && is_bare_slot now around then around ∷ [] else [] in
    let own = filter (assigned_nodes_changed was now) (own_slots was now x) in
    let other = filter (assigned_nodes_changed was now) (other_slots now x around) in
    let bare-all : AllByRecursion P bare = by_cases (is_move && is_bare_slot now around) (λ e. rw e (bare-at now around is_move e, tt)) (λ e. rw e tt) in
    let own-all = all-filter P (assigned_nodes_changed was now) (own_slots was now x)
    (all-append P (option_to_list (slot_of was x)) (option_to_list (slot_of now x))
    (all-if P (slot_of was x) (if-then (IsNodeAt was) P (slot_of was x) (λ y. grow y.owner y) (slot-at was g x)))
    (all-if P (slot_of now x) (slot-at now h x))) in
    let other-all = all-filter P (assigned_nodes_changed was now) (other_slots now x around)
    (all-append P (slots_among (subtree (trees_with now around) (root_at now around))) (slots_among (subtree (trees_with now x) x))
    (among-at now h around.owner (subtree (trees_with now around) (root_at now around)) (times_subtree (trees_with now around) (root_at now around)))
    (among-at now h x.owner (subtree (trees_with now x) x) (times_subtree (trees_with now x) x))) in
    all-distinct P name_eq (own ++ bare ++ other) (all-append P (own ++ bare) other (all-append P own bare own-all bare-all) other-all)

-- a signal, and signals
frame-signal : (w : World) (s : NodeName) → IsNodeAt w s → Frame w → Frame (with_signal w s)
frame-signal w s h f =
    record {
      tables = f.tables;
      records = f.records;
      first = f.first;
      signalled = either_way (AllByRecursion (IsNodeAt w)) (is_in name_eq s w.signalled) w.signalled (w.signalled ++ s ∷ []) f.signalled
          (all-append (IsNodeAt w) w.signalled (s ∷ []) f.signalled (h, tt));
    }

-- all of them
frame-each_signal : (ss : List NodeName) (w : World) → AllByRecursion (IsNodeAt w) ss → Frame w → Frame (fold with_signal w ss)
frame-each_signal [] w h f = f
frame-each_signal (s ∷ ss) w h f = frame-each_signal ss (with_signal w s) h.1 (frame-signal w s h.0 f)

-- Node documents of shadow trees.
fits-document : (w : World) (c : Owner) (d : NodeName) → Fits (part_of w c) (set_document (shadow_root_of c) d)
fits-document w c d = sym (owner-part_of w c)

-- of all of them
frame-documents : (cs : List Owner) (d : NodeName) (w : World) → Ground w → Frame w → Frame (fold (with_shadow_document d) w cs)
frame-documents [] d w g f = f
frame-documents (c ∷ cs) d w g f =
    let s = set_document (shadow_root_of c) d in
    frame-documents cs d (stepped c w s) (ground-stepped c w s g) (frame-stepped c w s (fits-document w c d, tt) g f)

-- A step in the world.
frame-world_step : (o : Owner) (w : World) (s : Step) → Suits (part_of w o) s → Ground w → Frame w → Frame (world_step o w s)
frame-world_step o w s h g f =
    let v = stepped o w s in
    let m = ground-stepped o w s g in
    let k = frame-stepped o w s h g f in
    kept-world_step Frame o w s (record {
      own = k;
      signals = λ x around is_move. frame-each_signal (signals w v x around is_move) v (signals-at g m (grow-stepped o w s h.0 g) x around is_move) k;
      documents = λ x d. frame-documents (components_below max_depth w x) d v m k;
      notify = record { tables = k.tables; records = k.records; first = k.first; signalled = k.signalled };
    })

-- names and hosts stay
pub ground-world_step : (o : Owner) (w : World) (s : Step) → Ground w → Ground (world_step o w s)
ground-world_step o w s g =
    let k = ground-stepped o w s g in
    kept-world_step Ground o w s (record {
      own = k;
      signals = λ x around is_move. kept-fold Ground with_signal (λ v y h. record { parts = h.parts; makers = h.makers })
          (signals w (stepped o w s) x around is_move) (stepped o w s) k;
      documents = λ x d. kept-fold Ground (with_shadow_document d) (λ v c h. ground-stepped c v (set_document (shadow_root_of c) d) h)
          (components_below max_depth w x) (stepped o w s) k;
      notify = record { parts = k.parts; makers = k.makers };
    })

-- What a step does in its owner's part is not done again elsewhere: the components below a node are deeper than its owner.
abbrev IsDeeper : Owner → Owner → Type 0
IsDeeper o c = owner_depth o < owner_depth c

-- those at nodes
found-deeper : (w : World) → Ground w → (o : Owner) (xs : List NodeName) → AllByRecursion (λ (y : NodeName). y.owner ≡ o) xs →
    AllByRecursion (IsDeeper o) (filter_map (component_at w) xs)
found-deeper w g o [] h = tt
found-deeper w g o (x ∷ xs) h = from (component_at w x) refl (found-deeper w g o xs h.1)
  where
    from : (c : Option Owner) → component_at w x ≡ c → AllByRecursion (IsDeeper o) (filter_map (component_at w) xs) →
        AllByRecursion (IsDeeper o) (cons_option c (filter_map (component_at w) xs))
    from None e more = more
    from (Some c) e more = (subst (λ a. IsDeeper a c) h.0 (component-deeper w g.makers x c e), more)

-- the nodes of a tree are of one owner
descendants-owned : (w : World) → Ground w → (x : NodeName) → AllByRecursion (λ (y : NodeName). y.owner ≡ x.owner) (inclusive_descendants (trees_with w x) x)
descendants-owned w g x =
    let ts = trees_with w x in
    all-map (λ (y : NodeName). y.owner ≡ x.owner) (λ (n : Node). n.name) (nodes (subtree ts x))
    (all-then (λ (n : Node). 1 ≤ times_in (subtree ts x) n.name) (λ n. n.name.owner ≡ x.owner)
    (λ n h. (g.parts x.owner).owned n.name (let s = times_subtree ts x n.name in omega arith) ∙ owner-part_of w x.owner) (nodes (subtree ts x))
    (nodes-there (subtree ts x)))

-- those at any depth
below-deeper : (depth : ℕ) (w : World) → Ground w → (x : NodeName) → AllByRecursion (IsDeeper x.owner) (components_below depth w x)
below-deeper zero w g x = tt
below-deeper (suc depth) w g x =
    let below : Owner → List Owner = λ c. components_below depth w (shadow_root_of c) in
    let found = filter_map (component_at w) (inclusive_descendants (trees_with w x) x) in
    all-flat_map (IsDeeper x.owner) (λ c. c ∷ below c) found
    (all-then (IsDeeper x.owner) (λ c. AllByRecursion (IsDeeper x.owner) (c ∷ below c))
    (λ c h. (h, all-then (IsDeeper c) (IsDeeper x.owner) (λ e k. omega (arith, h, k)) (below c) (below-deeper depth w g (shadow_root_of c)))) found
    (found-deeper w g x.owner (inclusive_descendants (trees_with w x) x) (descendants-owned w g x)))

-- so they are others
step-apart : (o : Owner) (w : World) (s : Step) → Ground w → Fits (part_of w o) s → IsApart o w s
step-apart o w (set_document x d) g h =
    subst (λ a. AllByRecursion (IsOther a) (components_below max_depth w x)) (h ∙ owner-part_of w o)
    (all-then (IsDeeper x.owner) (IsOther x.owner) (λ c k e. let same = ap owner_depth e in absurd (omega (arith, k, same)))
    (components_below max_depth w x) (below-deeper max_depth w g x))
step-apart o w s g h = tt

-- a step in its part
pub part-own_step : (o : Owner) (w : World) (s : Step) → Ground w → Fits (part_of w o) s → part_of (world_step o w s) o ≡ part_step (part_of w o) s
part-own_step o w s g h = part_of-own_step o w s (step-apart o w s g h)

-- many steps, each of which fits where it is made
pub frame-world_after : (o : Owner) (steps : List Step) {w : World} → Ground w → MadeIn (part_of w o) steps → TellsIn (part_of w o) steps → Frame w →
    Frame (world_after o w steps)
frame-world_after o [] g h t f = f
frame-world_after o (s ∷ steps) {w} g h t f =
    let own = sym (part-own_step o w s g h.0) in
    frame-world_after o steps (ground-world_step o w s g) (subst (λ p. MadeIn p steps) own h.1)
    (subst (λ p. TellsIn p steps) own t.1) (frame-world_step o w s (h.0, t.0) g f)
