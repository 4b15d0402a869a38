-- Hosts by their keys and by their names, and the slot of a node by the way in which it is looked for.
use Rattle.dom_base.proofs.Std.{◌≡◌, inl, inr, ℕ, ◌<◌, Bool, true, false, ◌||◌, List, [], ◌∷◌, length, Option, Some, None, refl, sym, ap, ◌∙◌, nat_eq, not}
use Rattle.dom_base.proofs.Std.{if◌then◌else◌, find, is_some, is_none, option_to_list, option_map, option_and_then, option_eq, ForSome, cases_Bool, eqb-true}
use Rattle.dom_base.proofs.Std.{eq-eqb, both_ways, same_Some, none-some}
use Rattle.dom_model.proofs.Model.{NodeName, DomString, name_eq, is_in, Node, node_in, nodes, parent_of, subtree, has_slot_name, slottable_name, slot_in}
use Rattle.dom_model.proofs.Model.{name_eq-other}
use Rattle.dom_tree.specs.Definitions.{NamedTrees, name_at, TellApart}
use Rattle.dom_laws.proofs.Laws.{name_eq-from}
use Rattle.node_arena.specs.contracts.key.KeyPartialEq.TheImpl as KeyImpl
use Rattle.dom_slots.specs.Definitions.{ShadowHost, HostsAreNodes, host_of_root, root_of_host, host_named, root_named, ShadowTrees, shadows, slot_at}

-- a value that is there has a name
pub is_some-named : {X Y : Type 0} (f : X → Y) (o : Option X) → is_some o ≡ is_some (option_map f o)
is_some-named f None = refl
is_some-named f (Some x) = refl

-- so one that is not there has none, as the code tests it
pub is_none-named : {X Y : Type 0} (f : X → Y) (o : Option X) (named : Option Y) (b : Bool) → is_some o ≡ not b → option_map f o ≡ named → b ≡ is_none named
is_none-named f o named b told is = twice b ∙ ap not (sym told ∙ (is_some-named f o ∙ ap is_some is))
  where
    twice : (x : Bool) → x ≡ not (not x)
    twice true = refl
    twice false = refl

-- what is found among hosts by the name of one of their nodes is the name of a node
module _ (names : List NodeName) (by of : ShadowHost → ℕ) (within : (h : ShadowHost) → h.host < length names → h.root < length names → of h < length names)
  where
    found-key : (hosts : List ShadowHost) → HostsAreNodes names hosts → (r x : NodeName) →
        option_map (λ h. name_at names (of h)) (find (λ h. name_eq r (name_at names (by h))) hosts) ≡ Some x →
        (k : ℕ) × (k < length names) × (name_at names k ≡ x)
    found-key [] nodes r x e = absurd (none-some x e)
    found-key (g ∷ hosts) nodes r x e = at (name_eq r (name_at names (by g))) e (found-key hosts nodes.2 r x)
      where
        at : (b : Bool) → option_map (λ h. name_at names (of h)) (if b then Some g else find (λ h. name_eq r (name_at names (by h))) hosts) ≡ Some x →
            (option_map (λ h. name_at names (of h)) (find (λ h. name_eq r (name_at names (by h))) hosts) ≡ Some x →
            (k : ℕ) × (k < length names) × (name_at names k ≡ x)) → (k : ℕ) × (k < length names) × (name_at names k ≡ x)
        at true is deeper = (of g, within g nodes.0 nodes.1, same_Some (name_at names (of g)) x is)
        at false is deeper = deeper is

pub host-key : (names : List NodeName) (hosts : List ShadowHost) → HostsAreNodes names hosts → (r h : NodeName) → host_named names hosts r ≡ Some h →
    (k : ℕ) × (k < length names) × (name_at names k ≡ h)
host-key names = found-key names (λ h. h.root) (λ h. h.host) (λ h i j. i)

pub root-key : (names : List NodeName) (hosts : List ShadowHost) → HostsAreNodes names hosts → (h r : NodeName) → root_named names hosts h ≡ Some r →
    (k : ℕ) × (k < length names) × (name_at names k ≡ r)
root-key names = found-key names (λ h. h.host) (λ h. h.root) (λ h i j. j)

module _ (names : List NodeName) (distinct : TellApart names) where
  -- the test of keys is that of names
  pub key-test : (j k : ℕ) → j < length names → k < length names → nat_eq j k ≡ name_eq (name_at names j) (name_at names k)
  key-test j k h i = elim (cases_Bool (nat_eq j k)) [
    | inl e ↦ e ∙ sym (name_eq-from (name_at names j) (name_at names k) (ap (name_at names) (eqb-true j k e)))
    | inr e ↦ e ∙ sym (name_eq-other (name_at names j) (name_at names k) (λ same. both_ways _ e (eq-eqb j k (distinct j k h i same))))
  ]

  -- one node of a host that is found by its other one, by keys and by names
  module _ (by of : ShadowHost → ℕ) (within : (h : ShadowHost) → h.host < length names → h.root < length names → by h < length names) where
    found-named : (hosts : List ShadowHost) → HostsAreNodes names hosts → (k : ℕ) → k < length names →
        option_map (name_at names) (option_map of (find (λ h. nat_eq k (by h)) hosts))
        ≡ option_map (λ h. name_at names (of h)) (find (λ h. name_eq (name_at names k) (name_at names (by h))) hosts)
    found-named [] h k i = refl
    found-named (x ∷ hosts) h k i =
        let same = key-test k (by x) i (within x h.0 h.1) in
        elim (cases_Bool (nat_eq k (by x))) [ inl e ↦ rw (sym same ∙ e, e) refl | inr e ↦ rw (sym same ∙ e, e) (found-named hosts h.2 k i) ]

  -- the host of a root by keys is that by names, and so the root of a host
  pub host-named : (hosts : List ShadowHost) → HostsAreNodes names hosts → (k : ℕ) → k < length names →
      option_map (name_at names) (host_of_root hosts k) ≡ host_named names hosts (name_at names k)
  host-named = found-named (λ h. h.root) (λ h. h.host) (λ h i j. j)

  pub root-named : (hosts : List ShadowHost) → HostsAreNodes names hosts → (k : ℕ) → k < length names →
      option_map (name_at names) (root_of_host hosts k) ≡ root_named names hosts (name_at names k)
  root-named = found-named (λ h. h.host) (λ h. h.root) (λ h i j. i)

  -- a host that is found by the key of a root has the name of the host of that root
  pub host-found : (hosts : List ShadowHost) → HostsAreNodes names hosts → {o : Option ℕ} {k : ℕ} {root : NodeName} → o ≡ host_of_root hosts k →
      k < length names → name_at names k ≡ root → option_map (name_at names) o ≡ host_named names hosts root
  host-found hosts within {o} {k} e node is = ap (option_map (name_at names)) e ∙ (host-named hosts within k node ∙ ap (host_named names hosts) is)

  -- and one that is not found, as the code tests it, is not there
  pub none-found : (hosts : List ShadowHost) → HostsAreNodes names hosts → {o : Option ℕ} {k : ℕ} {root : NodeName} {b : Bool} → o ≡ host_of_root hosts k →
      k < length names → name_at names k ≡ root → is_some o ≡ not b → b ≡ is_none (host_named names hosts root)
  none-found hosts within {o} {k} {root} {b} e node is told =
      is_none-named (name_at names) o (host_named names hosts root) b told (host-found hosts within e node is)

  -- whether a key is the one found, by names
  pub found-test : (o : Option ℕ) (k : ℕ) → ForSome o (λ j. j < length names) → k < length names →
      option_eq KeyImpl.ghosts.eq o (Some k) ≡ is_in name_eq (name_at names k) (option_to_list (option_map (name_at names) o))
  found-test None k h i = refl
  found-test (Some j) k h i = elim (cases_Bool (nat_eq j k)) [
    | inl e ↦ e ∙ sym (ap (λ b. b || false) (name_eq-from (name_at names k) (name_at names j) (ap (name_at names) (sym (eqb-true j k e)))))
    | inr e ↦ e ∙ sym (ap (λ b. b || false)
        (name_eq-other (name_at names k) (name_at names j) (λ same. both_ways _ e (eq-eqb j k (sym (distinct k j i (h j refl) same))))))
  ]

  -- a key that has the name of another one is that one
  pub named-key : (o : Option ℕ) → ForSome o (λ k. k < length names) → (k : ℕ) → k < length names →
      option_map (name_at names) o ≡ Some (name_at names k) → o ≡ Some k
  named-key None nodes k within e = absurd (none-some (name_at names k) e)
  named-key (Some j) nodes k within e = ap Some (distinct j k (nodes j refl) within (same_Some (name_at names j) (name_at names k) e))

-- a root that is found is a node
pub root-node : (names : List NodeName) (hosts : List ShadowHost) → HostsAreNodes names hosts → (k r : ℕ) → root_of_host hosts k ≡ Some r → r < length names
root-node names [] h k r e = cc
root-node names (x ∷ hosts) h k r e = elim (cases_Bool (nat_eq k x.host)) [
  | inl is ↦ let same : Some x.root ≡ Some r = rw is at e in let at : x.root ≡ r = cc in rw (← at) h.1
  | inr is ↦ root-node names hosts h.2 k r (rw is at e)
]

-- so is a host
pub host-node : (names : List NodeName) (hosts : List ShadowHost) → HostsAreNodes names hosts → (k r : ℕ) → host_of_root hosts k ≡ Some r → r < length names
host-node names [] h k r e = cc
host-node names (x ∷ hosts) h k r e = elim (cases_Bool (nat_eq k x.root)) [
  | inl is ↦ let same : Some x.host ≡ Some r = rw is at e in let at : x.host ≡ r = cc in rw (← at) h.0
  | inr is ↦ host-node names hosts h.2 k r (rw is at e)
]

-- a node is looked for in the shadow tree of its parent
module _ (s : ShadowTrees) (x p : NodeName) (up : Some p ≡ parent_of s.trees x) where
  -- a parent without a shadow root
  pub slot-no_root : None ≡ s.shadow_of p → None ≡ slot_at s x
  slot-no_root e =
      ap (option_and_then (λ r. slot_in (subtree s.trees r) (node_in s.trees x))) e
      ∙ ap (λ o. option_and_then (λ r. slot_in (subtree s.trees r) (node_in s.trees x)) (option_and_then s.shadow_of o)) up

  -- the first slot of its name
  pub slot-searched : (r : NodeName) (name : DomString) → Some r ≡ s.shadow_of p → Some name ≡ slottable_name (node_in s.trees x)
      → option_map (λ (n : Node). n.name) (find (has_slot_name name) (nodes (subtree s.trees r))) ≡ slot_at s x
  slot-searched r name e is =
      ap (option_and_then (λ a. option_map (λ (n : Node). n.name) (find (has_slot_name a) (nodes (subtree s.trees r))))) is
      ∙ (ap (option_and_then (λ q. slot_in (subtree s.trees q) (node_in s.trees x))) e
      ∙ ap (λ o. option_and_then (λ q. slot_in (subtree s.trees q) (node_in s.trees x)) (option_and_then s.shadow_of o)) up)

-- a node whose parent has no shadow root has no slot
module _ (f : NamedTrees) (distinct : TellApart f.names) (hosts : List ShadowHost) (within : HostsAreNodes f.names hosts) where
  pub slot-rootless : (x : NodeName) {p : ℕ} → Some (name_at f.names p) ≡ parent_of f.trees x → p < length f.names → None ≡ root_of_host hosts p →
      None ≡ slot_at (shadows f hosts) x
  slot-rootless x {p} up node none =
      slot-no_root (shadows f hosts) x (name_at f.names p) up (ap (option_map (name_at f.names)) none ∙ root-named f.names distinct hosts within p node)
