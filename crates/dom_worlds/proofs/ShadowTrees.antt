-- Shadow trees: who is hidden from whom, and that no slot of the page is signalled.
use Rattle.dom_base.proofs.Std.{◌≡◌, ◌≢◌, ◌≤◌, Bool, true, false, List, [], ◌∷◌, find, flat_map, option_map, Option, Some, None, refl, sym, ap, ◌∙◌, arith}
use Rattle.dom_base.proofs.Std.{true≢false, subst, ℕ, zero, suc, ◌++◌, ◌&&◌, filter, append-nil, IsTrue, is_some, option_to_list, if◌then◌else◌, AllByRecursion}
use Rattle.dom_base.proofs.Std.{list_any, option_and_then, cond-true, cond-false, and_parts, filter-append}
use Rattle.dom_model.proofs.Model.{Owner, Page, NodeName, DomString, name_eq, is_in, is_empty, Trees, Node, nodes, root_of, times_in, World, part_of, node_at}
use Rattle.dom_model.proofs.Model.{trees_with, root_at, parent_at, ancestors_at, component_at, host_of, some_if, shadow_root_of, shadow_tree, is_in_shadow_tree}
use Rattle.dom_model.proofs.Model.{Task, notify_task, is_notify_of, queued_notify, slot_of, slot_in, has_slot_name, slottable_name, signals, assigned_nodes}
use Rattle.dom_model.proofs.Model.{is_slot_element, is_bare_slot, assigned_nodes_changed, own_slots, other_slots, ne-owner_eq, name_eq-same, owner-part_of}
use Rattle.dom_model.proofs.Model.{with_slots, is_page_task}
use Rattle.dom_worlds.specs.Definitions.{IsWorld, IsOf, HasMakers, IsForeignTo}
use Rattle.dom_worlds.proofs.Lists.{all-then, by_cases, all-append, all-passed, all-distinct}
use Rattle.dom_worlds.proofs.Owners.{component-host, hosted-is, hosted-no_page}
use Rattle.dom_worlds.proofs.Trees.{ancestors-there, ancestors-root, root-of-root, nodes-there}
use Rattle.dom_laws.proofs.Laws.{times_subtree}

-- A node's ancestors are of its owner.
pub owned-in : (w : World) → IsWorld w → (o : Owner) (y : NodeName) → 1 ≤ times_in (part_of w o).trees y → y.owner ≡ o
owned-in w i o y h = (i.parts o).owned y h ∙ owner-part_of w o

-- all of them
pub ancestors-owned : (w : World) → IsWorld w → (x : NodeName) → AllByRecursion (IsOf x.owner) (ancestors_at w x)
ancestors-owned w i x =
    all-then (λ y. 1 ≤ times_in (trees_with w x) y) (IsOf x.owner) (λ y h. owned-in w i x.owner y h) (ancestors_at w x) (ancestors-there (trees_with w x) x)

-- A component that is attached is no page, and has its host.
component-facts : (w : World) → HasMakers w → (x : NodeName) (c : Owner) → component_at w x ≡ Some c → (c ≢ Page) × IsTrue (is_some (host_of w c))
component-facts w makers x c h = let k = component-host w makers x c h in (hosted-no_page w c x k, ap is_some (hosted-is w c x k))

-- The slot of a node is in the shadow tree of a component that is attached.
find-all : {X : Type 0} (P : X → Type 0) (t : X → Bool) (xs : List X) (y : X) → AllByRecursion P xs → find t xs ≡ Some y → P y
find-all P t [] y h e = cc
find-all P t (x ∷ xs) y h e =
    by_cases (t x) (λ a. let same : Some x ≡ Some y = sym (cond-true (t x) (Some x) (find t xs) a) ∙ e in subst P (cc) h.0)
    (λ a. find-all P t xs y h.1 (sym (cond-false (t x) (Some x) (find t xs) a) ∙ e))

-- a slot that is found is there
pub slot_in-there : (ts : Trees) (n : Node) (s : NodeName) → slot_in ts n ≡ Some s → 1 ≤ times_in ts s
slot_in-there ts n s h = by_name (slottable_name n) refl
  where
    by_found : (name : DomString) (o : Option Node) → find (has_slot_name name) (nodes ts) ≡ o → option_map (λ (m : Node). m.name) o ≡ Some s →
        1 ≤ times_in ts s
    by_found name None e g = cc
    by_found name (Some m) e g =
        let same : m.name ≡ s = cc in
        subst (λ s. 1 ≤ times_in ts s) same (find-all (λ (m : Node). 1 ≤ times_in ts m.name) (has_slot_name name) (nodes ts) m (nodes-there ts) e)

    by_name : (o : Option DomString) → slottable_name n ≡ o → 1 ≤ times_in ts s
    by_name None e = let none : slot_in ts n ≡ None =
        ap (λ o. option_and_then (λ name. option_map (λ (s : Node). s.name) (find (has_slot_name name) (nodes ts))) o) e in cc
    by_name (Some name) e =
        by_found name (find (has_slot_name name) (nodes ts)) refl
        (sym (ap (λ o. option_and_then (λ name. option_map (λ (s : Node). s.name) (find (has_slot_name name) (nodes ts))) o) e) ∙ h)

-- a node that stands in the shadow tree of c
pub record IsInTree (w : World) (c : Owner) (y : NodeName) : Type 0 where
  pub foreign : c ≢ Page
  pub owner : y.owner ≡ c
  pub host : IsTrue (is_some (host_of w c))
  pub root : root_at w y ≡ shadow_root_of c

-- the slot of a node
pub slot-in_tree : (w : World) → IsWorld w → (x s : NodeName) → slot_of w x ≡ Some s → (c : Owner) × IsInTree w c s
slot-in_tree w i x s h = by_component (option_and_then (component_at w) (parent_at w x)) refl
  where
    from_parent : (o : Option NodeName) (c : Owner) → option_and_then (component_at w) o ≡ Some c → (c ≢ Page) × IsTrue (is_some (host_of w c))
    from_parent None c e = cc
    from_parent (Some p) c e = component-facts w i.makers p c e

    by_component : (o : Option Owner) → option_and_then (component_at w) (parent_at w x) ≡ o → (c : Owner) × IsInTree w c s
    by_component None e = let none : slot_of w x ≡ None = ap (λ o. option_and_then (λ c. slot_in (shadow_tree w c) (node_at w x)) o) e in cc
    by_component (Some c) e =
        let facts = from_parent (parent_at w x) c e in
        let here : slot_in (shadow_tree w c) (node_at w x) ≡ Some s = sym (ap (λ o. option_and_then (λ c. slot_in (shadow_tree w c) (node_at w x)) o) e) ∙ h in
        let there = slot_in-there (shadow_tree w c) (node_at w x) s here in
        let within = times_subtree (part_of w c).trees (shadow_root_of c) s in
        let mine : s.owner ≡ c = owned-in w i c s (omega arith) in
        let root = root-of-root (part_of w c).trees (i.parts c).unique (shadow_root_of c) (i.shadow_roots c facts.1).alone s there in
        (c, record { foreign = facts.0; owner = mine; host = facts.1; root = ap (λ o. root_of (part_of w o).trees s) mine ∙ root })

-- then its ancestors stand there too
pub ancestors-in_tree : (w : World) → IsWorld w → (c : Owner) (s : NodeName) → IsInTree w c s → AllByRecursion (IsInTree w c) (ancestors_at w s)
ancestors-in_tree w i c s t =
    all_two (ancestors_at w s) (ancestors-owned w i s) (ancestors-root (trees_with w s) (i.parts s.owner).unique s)
  where
    all_two : (ys : List NodeName) → AllByRecursion (IsOf s.owner) ys →
        AllByRecursion (λ y. root_of (trees_with w s) y ≡ root_of (trees_with w s) s) ys → AllByRecursion (IsInTree w c) ys
    all_two [] a b = tt
    all_two (y ∷ ys) a b = (
      record { foreign = t.foreign; owner = a.0 ∙ t.owner; host = t.host; root = ap (λ o. root_of (part_of w o).trees y) a.0 ∙ b.0 ∙ t.root },
      all_two ys a.1 b.1,
    )

-- it has a shadow-including ancestor that no page node has
pub in_tree : (w : World) (c : Owner) (y : NodeName) → IsInTree w c y → is_in_shadow_tree w y ≡ true
in_tree w c y t = by_host (host_of w c) refl t.host
  where
    root_is : name_eq (root_at w y) (shadow_root_of y.owner) ≡ true
    root_is = ap (λ r. name_eq r (shadow_root_of y.owner)) (t.root ∙ ap shadow_root_of (sym t.owner)) ∙ name_eq-same (shadow_root_of y.owner)

    by_host : (o : Option NodeName) → host_of w c ≡ o → is_some o ≡ true → is_in_shadow_tree w y ≡ true
    by_host None e h = absurd (true≢false (sym h))
    by_host (Some x) e h =
        ap (λ o. is_some (option_and_then (some_if (name_eq (root_at w y) (shadow_root_of y.owner))) o)) (ap (host_of w) t.owner ∙ e) ∙
        ap (λ b. is_some (some_if b x)) root_is

-- a node of another owner is not among an owner's
pub not_in : (r : NodeName) (xs : List NodeName) (o : Owner) → r.owner ≢ o → AllByRecursion (IsOf o) xs → is_in name_eq r xs ≡ false
not_in r [] o f h = refl
not_in r (x ∷ xs) o f h = rw (ne-owner_eq r.owner x.owner (λ e. f (e ∙ h.0))) (not_in r xs o f h.1)

-- The way through the shadow trees in which a node is slotted, through so many at most, one in another.
abbrev pub slot_way : ℕ → World → NodeName → List NodeName
slot_way zero w x = []
slot_way (suc depth) w x = flat_map (with_slots depth w) (flat_map (ancestors_at w) (option_to_list (slot_of w x)))

-- it comes behind the node
pub slots-behind : (depth : ℕ) (w : World) (x : NodeName) → with_slots depth w x ≡ x ∷ slot_way depth w x
slots-behind zero w x = refl
slots-behind (suc depth) w x = refl

-- so with each of some nodes
pub slots-first : (depth : ℕ) (w : World) (x : NodeName) (xs : List NodeName) →
    flat_map (with_slots depth w) (x ∷ xs) ≡ x ∷ (slot_way depth w x ++ flat_map (with_slots depth w) xs)
slots-first depth w x xs = ap (λ ys. ys ++ flat_map (with_slots depth w) xs) (slots-behind depth w x)

-- Queued notifications.
pub page_tasks-queued_other : (o : Owner) → o ≢ Page → (ts : List Task) → filter is_page_task (queued_notify o ts) ≡ filter is_page_task ts
page_tasks-queued_other o h ts =
    by_cases (list_any (is_notify_of o) ts) (λ e. rw e refl)
    (λ e. rw e (filter-append is_page_task ts (notify_task o ∷ []) ∙ rw (ne-owner_eq o Page h) (append-nil (filter is_page_task ts))))

-- Signals are of components' slots alone.
assigned-page : (w : World) (s : NodeName) → s.owner ≡ Page → assigned_nodes w s ≡ []
assigned-page w s e = rw e refl

-- a slot whose assigned nodes changed is no page node
changed-foreign : (was now : World) (s : NodeName) → assigned_nodes_changed was now s ≡ true → IsForeignTo Page s
changed-foreign was now s h e = true≢false (sym h ∙ rw (assigned-page was s e, assigned-page now s e) refl)

-- a page node is in no shadow tree
pub page_in_no_tree : (w : World) (x : NodeName) → x.owner ≡ Page → is_in_shadow_tree w x ≡ false
page_in_no_tree w x e = rw e refl

-- a slot without assigned nodes is no page node
bare-foreign : (w : World) (s : NodeName) (is_move : Bool) → (is_move && is_bare_slot w s) ≡ true → IsForeignTo Page s
bare-foreign w s is_move h e =
    let both = and_parts is_move (is_bare_slot w s) h in
    let inside = and_parts (is_slot_element (node_at w s)) (is_in_shadow_tree w s && is_empty (assigned_nodes w s)) both.1 in
    let in_tree = and_parts (is_in_shadow_tree w s) (is_empty (assigned_nodes w s)) inside.1 in
    true≢false (sym in_tree.0 ∙ page_in_no_tree w s e)

-- all that is signalled
pub signals-foreign : (was now : World) (x around : NodeName) (is_move : Bool) → AllByRecursion (IsForeignTo Page) (signals was now x around is_move)
signals-foreign was now x around is_move =
    let P = IsForeignTo Page in
    let bare : List NodeName = if is_move && is_bare_slot now around then around ∷ [] else [] in
    let own = filter (assigned_nodes_changed was now) (own_slots was now x) in
    let other = filter (assigned_nodes_changed was now) (other_slots now x around) in
    let bare-all : AllByRecursion P bare = by_cases (is_move && is_bare_slot now around) (λ e. rw e (bare-foreign now around is_move e, tt)) (λ e. rw e tt) in
    let own-all : AllByRecursion P own = all-passed P (assigned_nodes_changed was now) (changed-foreign was now) (own_slots was now x) in
    let other-all : AllByRecursion P other = all-passed P (assigned_nodes_changed was now) (changed-foreign was now) (other_slots now x around) in
    all-distinct P name_eq (own ++ bare ++ other) (all-append P (own ++ bare) other (all-append P own bare own-all bare-all) other-all)
