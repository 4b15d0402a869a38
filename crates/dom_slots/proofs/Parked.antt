-- The list of a slot that a step took out of its tree, and what comes of it in further steps.
use Rattle.dom_base.proofs.Std.{◌≡◌, ◌≢◌, ℕ, ◌<◌, Bool, true, false, not, ◌&&◌, ◌||◌, List, [], Some, map, filter, find, length, refl, sym, ap, subst, ◌∙◌}
use Rattle.dom_base.proofs.Std.{option_map, option_map_or, option_and_then, option_to_list, none-some, ForSome, All, All-nil, if◌then◌else◌}
use Rattle.dom_model.proofs.Model.{NodeName, DomString, text_eq, name_eq, is_in, name_eq-other, is_slot_element, has_slot_name, slot_name, Trees, Node}
use Rattle.dom_model.proofs.Model.{nodes, node_in, subtree, parent_of, root_of, children_of}
use Rattle.dom_tree.specs.Definitions.{NamedTrees, name_at, TellApart}
use Rattle.dom_laws.proofs.Laws.{In, Has, Once, filter-all, filter-same, name_eq-from, parent-of_child}
use Rattle.dom_slots.specs.Definitions.{ShadowHost, host_of_root, root_of_host, host_named, root_named, bearer_at, name_code, SlotsNow, IsEndOf, StandsOnce}
use Rattle.dom_slots.specs.Definitions.{Hints, hints_of, IsBeside, IsParked, ParkedNow, shadows, assigned_at, assigned_under, is_assigned_at, is_first_at}
use Rattle.dom_slots.specs.Definitions.{looks_for, step_node, is_move, list_of}
use Rattle.dom_slots.specs.declared.index.Bearer.TheVariants.{Only}
use Rattle.dom_slots.specs.declared.step.SlotChange.{SlotChange}
use Rattle.dom_slots.proofs.Bare.{both, here-was, here-now, carries, root-was}
use Rattle.dom_slots.proofs.Ended.{there-was, there-now, node-within}
use Rattle.dom_slots.proofs.Firsts.{assigned-first, text_same, text_true}
use Rattle.dom_slots.proofs.Hosted.{host-named, root-named, host-node}
use Rattle.dom_slots.proofs.Indexed.{first-called, only-called}
use Rattle.dom_slots.proofs.PlacedTrees.{others}
use Rattle.dom_slots.proofs.Rooted.{root-of_root}

-- to the first slot of a name in the tree of a shadow root those children of the host are assigned that look for its name
module _ (f : NamedTrees) (once : Once f.trees) (hosts : List ShadowHost) (r h y : NodeName) where
  first-assigned : Has f.trees h → host_named f.names hosts (root_of f.trees y) ≡ Some h → root_named f.names hosts h ≡ Some r →
      Some y ≡ option_map (λ (n : Node). n.name) (find (has_slot_name (slot_name (node_in f.trees y))) (nodes (subtree f.trees r))) →
      assigned_at (shadows f hosts) y ≡ filter (λ c. looks_for (slot_name (node_in f.trees y)) (node_in f.trees c)) (children_of f.trees h)
  first-assigned at hosted shadow found =
      let s = shadows f hosts in
      let own = slot_name (node_in f.trees y) in
      let first : is_first_at s h y ≡ true =
      ap (λ o. is_in name_eq y (option_to_list
      (option_and_then (λ t. option_map (λ (n : Node). n.name) (find (has_slot_name own) (nodes (subtree f.trees t)))) o))) shadow
      ∙ (ap (λ o. is_in name_eq y (option_to_list o)) (sym found) ∙ ap (λ b. b || false) (name_eq-from y y refl)) in
      ap (λ o. option_map_or (assigned_under s y) o []) hosted
      ∙ filter-same (is_assigned_at s y) (λ c. looks_for own (node_in f.trees c)) (children_of f.trees h)
      (λ c i. assigned-first s once h y c (parent-of_child f.trees h c once at i).0 ∙ ap (λ b. b && looks_for own (node_in f.trees c)) first)

-- the children of a node of which x is none
without_it : (ts : Trees) → Once ts → (x h : NodeName) → Has ts h → parent_of ts x ≢ Some h → others x (children_of ts h) ≡ children_of ts h
without_it ts once x h at off =
    filter-all (λ y. not (name_eq x y)) (children_of ts h)
    (λ y i. ap not (name_eq-other x y (λ same. off (subst (λ z. parent_of ts z ≡ Some h) (sym same) (parent-of_child ts h y once at i).0))))

module _ (was : Trees) (f : NamedTrees) (s : SlotsNow) (b : SlotChange) (ended : IsEndOf was f s b) (stands : StandsOnce f) where
  abbrev x : NodeName
  x = name_at f.names (step_node b.step)

  abbrev before : NamedTrees
  before = record { names = f.names; trees = was }

  -- beside a host a move leaves the children that look for a name
  looked : is_move b.step ≡ true → (k h : ℕ) → k < length f.names → h < length f.names → IsBeside was f.trees x (name_at f.names h) →
      filter (λ y. looks_for (slot_name (node_in was (name_at f.names k))) (node_in was y)) (children_of was (name_at f.names h))
      ≡ filter (λ y. looks_for (slot_name (node_in f.trees (name_at f.names k))) (node_in f.trees y)) (children_of f.trees (name_at f.names h))
  looked moves k h node host beside =
      let c = carries was f s b ended stands moves in
      let w = both was f s b ended stands in
      let top = name_at f.names h in
      let h_was = there-was was f s b ended stands h host in
      let h_now = there-now was f s b ended stands h host in
      let same : children_of was top ≡ children_of f.trees top =
      sym (without_it was w.once_was x top h_was beside.0) ∙ (c.children top ∙ without_it f.trees w.once_now x top h_now beside.1) in
      let name = slot_name (node_in f.trees (name_at f.names k)) in
      ap (λ (n : Node). filter (λ y. looks_for (slot_name n) (node_in was y)) (children_of was top))
      (c.nodes (name_at f.names k) (there-was was f s b ended stands k node) (there-now was f s b ended stands k node))
      ∙ (filter-same (λ y. looks_for name (node_in was y)) (λ y. looks_for name (node_in f.trees y)) (children_of was top)
      (λ y i. ap (looks_for name) (c.nodes y (parent-of_child was top y w.once_was h_was i).1
      (parent-of_child f.trees top y w.once_now h_now (subst (In y) same i)).1))
      ∙ ap (filter (λ y. looks_for name (node_in f.trees y))) same)

  -- so what was kept stays right
  pub parked-stays : (p : ParkedNow) → is_move b.step ≡ true → IsBeside was f.trees x (name_at f.names p.host) → s.parked ≡ Some p → IsParked f s.hosts p
  parked-stays p moves beside is =
      let old = ended.slots.parked p is in
      record {
        hosted = old.hosted;
        slot = old.slot;
        host = old.host;
        nodes = old.nodes;
        list = old.list ∙ looked moves p.slot p.host old.slot old.host beside;
      }

  -- and what was assigned to a slot that was moved, and alone had its name in its tree
  module _ (distinct : TellApart f.names) (top host : ℕ) (moves : is_move b.step ≡ true) (slot : is_slot_element (node_in f.trees x) ≡ true) where
    pub parked-moved : top < length f.names → name_at f.names top ≡ option_map_or (λ k. root_of f.trees (name_at f.names k)) b.left x →
        host_of_root s.hosts top ≡ Some host → root_of_host s.hosts host ≡ Some top → IsBeside was f.trees x (name_at f.names host) →
        bearer_at s.index (name_code top (slot_name (node_in f.trees x))) ≡ Some (Only (step_node b.step)) →
        IsParked f s.hosts record { slot = step_node b.step; host = host; list = list_of s.table (step_node b.step) }
    parked-moved node up hosted shadow beside only =
        let k = step_node b.step in
        let within = node-within f.names b.step ended.nodes in
        let nodes = ended.slots.hosts in
        let once = (both was f s b ended stands).once_was in
        let h_node : host < length f.names = host-node f.names s.hosts nodes top host hosted in
        let same : node_in was x ≡ node_in f.trees x =
        (carries was f s b ended stands moves).nodes x (here-was was f s b ended stands) (here-now was f s b ended stands) in
        let name = slot_name (node_in was x) in
        let root : root_of was x ≡ name_at f.names top = root-was was f s b ended stands top moves up in
        let own_root : root_of was (name_at f.names top) ≡ name_at f.names top =
        ap (root_of was) (sym root) ∙ (root-of_root was once x (here-was was f s b ended stands) ∙ root) in
        let hit : has_slot_name name (node_in was x) ≡ true =
        ap (λ d. d && has_own (node_in was x)) (ap is_slot_element same ∙ slot) ∙ text_same name in
        let called = only-called before ended.begun.stands s.hosts s.index ended.slots.index top node name host hosted own_root k
        (ap (λ (n : Node). bearer_at s.index (name_code top (slot_name n))) same ∙ only) hit root in
        record {
          hosted = λ none. none-some host (sym (ap (λ hs. host_of_root hs top) none) ∙ hosted);
          slot = within;
          host = h_node;
          nodes = ended.slots.table.nodes k;
          list = ended.slots.table.lists k within
              ∙ (first-assigned before once s.hosts (name_at f.names top) (name_at f.names host) x (there-was was f s b ended stands host h_node)
              (ap (host_named f.names s.hosts) root ∙ (sym (host-named f.names distinct s.hosts nodes top node) ∙ ap (option_map (name_at f.names)) hosted))
              (sym (root-named f.names distinct s.hosts nodes host h_node) ∙ ap (option_map (name_at f.names)) shadow)
              (first-called before ended.begun.stands s.hosts s.index ended.slots.index top node name (Some x) called)
              ∙ looked moves k host within h_node beside);
        }
      where
        has_own : Node → Bool
        has_own n = text_eq (slot_name n) (slot_name (node_in was x))

-- so it is of its node
module _ (was : Trees) (f : NamedTrees) (s : SlotsNow) (b : SlotChange) (ended : IsEndOf was f s b) (stands : StandsOnce f) (distinct : TellApart f.names)
    (k : ℕ) (is : step_node b.step ≡ k) (top host : ℕ) (moves : is_move b.step ≡ true)
    (slot : is_slot_element (node_in f.trees (name_at f.names k)) ≡ true) where
  pub parked-at : top < length f.names →
      name_at f.names top ≡ option_map_or (λ j. root_of f.trees (name_at f.names j)) b.left (name_at f.names (step_node b.step)) →
      host_of_root s.hosts top ≡ Some host → root_of_host s.hosts host ≡ Some top →
      IsBeside was f.trees (name_at f.names (step_node b.step)) (name_at f.names host) →
      bearer_at s.index (name_code top (slot_name (node_in f.trees (name_at f.names k)))) ≡ Some (Only k) →
      IsParked f s.hosts record { slot = k; host = host; list = list_of s.table k }
  parked-at node up hosted shadow beside only =
      subst (λ j. IsParked f s.hosts record { slot = j; host = host; list = list_of s.table j }) is
      (parked-moved was f s b ended stands distinct top host moves (ap (λ j. is_slot_element (node_in f.trees (name_at f.names j))) is ∙ slot) node up hosted
      shadow beside (subst (λ j. bearer_at s.index (name_code top (slot_name (node_in f.trees (name_at f.names j)))) ≡ Some (Only j)) (sym is) only))

-- what is kept stays where the hosts stay and it too
pub parked-same : {f : NamedTrees} (s t : SlotsNow) → t.hosts ≡ s.hosts → hints_of t ≡ hints_of s → ForSome s.parked (IsParked f s.hosts) →
    ForSome t.parked (IsParked f t.hosts)
parked-same {f} s t hosts hints old p is =
    subst (λ hs. IsParked f hs p) (sym hosts) (old p (sym (ap (λ (h : Hints). h.2) hints) ∙ is))

-- the list that is kept serves a name that is wanted
module _ (f : NamedTrees) (hosts : List ShadowHost) (p : ParkedNow) (right : IsParked f hosts p) (own wanted name : DomString) (list under : List ℕ)
    (owns : own ≡ slot_name (node_in f.trees (name_at f.names p.slot))) (same : text_eq own wanted ≡ true) (is : text_eq name wanted ≡ true)
    (found : under ≡ (if text_eq own name then list else [])) (kept : list ≡ p.list) where
  named : own ≡ name
  named = text_true own wanted same ∙ sym (text_true name wanted is)

  all : under ≡ p.list
  all = found ∙ (ap (λ (d : Bool). if d then list else []) (ap (text_eq own) (sym named) ∙ text_same own) ∙ kept)

  pub parked-serves : map (name_at f.names) under ≡ filter (λ y. looks_for name (node_in f.trees y)) (children_of f.trees (name_at f.names p.host))
  parked-serves =
      ap (map (name_at f.names)) all ∙ (right.list
      ∙ ap (λ a. filter (λ y. looks_for a (node_in f.trees y)) (children_of f.trees (name_at f.names p.host))) (sym owns ∙ named))

-- and has nodes
pub parked-nodes : {n : ℕ} (d : Bool) (list under : List ℕ) → under ≡ (if d then list else []) → All (λ k. k < n) list → All (λ k. k < n) under
parked-nodes {n} true list under e nodes = subst (All (λ k. k < n)) (sym e) nodes
parked-nodes {n} false list under e nodes = subst (All (λ k. k < n)) (sym e) (All-nil (λ k. k < n))
