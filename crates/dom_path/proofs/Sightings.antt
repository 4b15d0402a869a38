-- What is read of trees with hosts is what is read of a world that has just these: roots, chains of hosts, event parents, and what is
-- hidden. So the trees with hosts of such a world are as a path asks.
use Rattle.dom_path.proofs.Cited.{◌≡◌, inl, inr, ℕ, zero, suc, ◌≤◌, Bool, true, false, ◌&&◌, ◌||◌, not, List, ◌∷◌, map, find, Option, Some, None}
use Rattle.dom_path.proofs.Cited.{unwrap_or, refl, sym, ap, ◌∙◌, arith, if◌then◌else◌, is_some, option_map, option_to_list, IsTrue, option_or}
use Rattle.dom_path.proofs.Cited.{cases_Bool, both_ways, NodeName, Owner, name_eq, is_in, owner_depth, max_depth, is_node, is_hidden_from, retarget}
use Rattle.dom_path.proofs.Cited.{retarget_related, event_parent, slot_of, is_assigned_to, Trees, Node, is_shadow, has_node, node_in, parent_of}
use Rattle.dom_path.proofs.Cited.{root_of, World, component_at, shadow_root_of, host_above, host_chain, kind_at, parent_at, root_at, depth-maker}
use Rattle.dom_path.proofs.Cited.{name_eq-true, IsNodeAt, above-host, below-host, hosts-alone, chain-below, hidden-by_chain, shadow-name, hosted}
use Rattle.dom_path.proofs.Cited.{hosted-maker, hosted-owned, hosted-is, component-host, shadow_roots-are_roots, NamedTrees, read_own, name_eq-from}
use Rattle.dom_path.proofs.Cited.{ShadowHost, host_named, root_named, ShadowTrees, shadows, IsShownBy, slot_at, is_assigned_at, slot-shown, IsHosted}
use Rattle.dom_path.proofs.Cited.{IsWorldOf, EndsWithin, chain_at, is_hidden_at, seen_at, related_at, event_parent_at, ends_at, is_empty_at}
use Rattle.dom_path.proofs.Cited.{parent-shown, node-shown, root-shown, host-shown}
use Rattle.dom_path.proofs.Places.{chain-alone, chain-host, ends-all}

module _ (f : NamedTrees) (hosts : List ShadowHost) (w : World) (is : IsWorldOf f hosts w) where
  abbrev s : ShadowTrees
  s = shadows f hosts

  shown : IsShownBy s w
  shown = is.shown

  pub kind-is : (x : NodeName) → is_shadow (kind_at w x) ≡ is_shadow (node_in f.trees x).kind
  kind-is x = ap (λ (n : Node). is_shadow n.kind) (node-shown s w shown x)

  -- a node of the forest is one of the world
  pub there-is : (x : NodeName) → has_node f.trees x ≡ true → IsNodeAt w x
  there-is x h = ap (λ (ts : Trees). has_node ts x) (shown.trees x.owner) ∙ sym (read_own f.trees shown.owned x.owner x refl).presence ∙ h

  -- ---- chains of hosts

  -- a node in a shadow tree is not deeper than nodes may be
  not_deeper : (x host : NodeName) → host_above w x ≡ Some host → owner_depth x.owner ≤ max_depth
  not_deeper x host e =
      let below = below-host w is.reached.world x host e in
      let deeper = below.deeper in
      let k = hosted w x.owner host (above-host w x host e).0 in
      let room = depth-maker k.maker (hosted-maker w is.reached.world.makers x.owner host k) in
      let own = ap owner_depth (hosted-owned w is.reached.world x.owner host k) in
      omega (arith, deeper, room, own)

  -- the chains are the same
  chain-from : (depth : ℕ) (x : NodeName) → owner_depth x.owner ≤ depth → host_chain w x ≡ chain_at s depth x
  chain-from zero x h = by (host_above w x) refl
    where
      by : (o : Option NodeName) → host_above w x ≡ o → host_chain w x ≡ chain_at s zero x
      by None e = hosts-alone (owner_depth x.owner) w x e
      by (Some host) e = let deeper = (below-host w is.reached.world x host e).deeper in absurd (omega (arith, h, deeper))
  chain-from (suc depth) x h = by (λ y g. chain-from depth y g) (host_above w x) refl
    where
      by : ((y : NodeName) → owner_depth y.owner ≤ depth → host_chain w y ≡ chain_at s depth y) → (o : Option NodeName) → host_above w x ≡ o →
          host_chain w x ≡ chain_at s (suc depth) x
      by again None e = hosts-alone (owner_depth x.owner) w x e ∙ sym (chain-alone s (suc depth) x (sym (host-shown s w shown x) ∙ e))
      by again (Some host) e =
          let below = below-host w is.reached.world x host e in
          let deeper = below.deeper in
          chain-below w x host below ∙ ap (λ ys. x ∷ ys) (again host (omega (arith, h, deeper))) ∙
          sym (chain-host s depth x host (sym (host-shown s w shown x) ∙ e))

  chain-is : (x : NodeName) → host_chain w x ≡ chain_at s max_depth x
  chain-is x = by (host_above w x) refl
    where
      by : (o : Option NodeName) → host_above w x ≡ o → host_chain w x ≡ chain_at s max_depth x
      by None e = hosts-alone (owner_depth x.owner) w x e ∙ sym (chain-alone s max_depth x (sym (host-shown s w shown x) ∙ e))
      by (Some host) e = chain-from max_depth x (not_deeper x host e)

  -- and they end
  ends-is : (x : NodeName) → EndsWithin s max_depth x
  ends-is = ends-all s (λ x host e. let deeper = (below-host w is.reached.world x host (host-shown s w shown x ∙ e)).deeper in omega (arith, deeper)) max_depth
      (λ x host e. not_deeper x host (host-shown s w shown x ∙ e))

  -- a host is that of its shadow root
  theirs-is : (host root : NodeName) → root_named f.names hosts host ≡ Some root → host_named f.names hosts root ≡ Some host
  theirs-is host root e = by (component_at w host) refl
    where
      by : (o : Option Owner) → component_at w host ≡ o → host_named f.names hosts root ≡ Some host
      by None g = let both : Some root ≡ None = sym e ∙ shown.roots host ∙ ap (option_map shadow_root_of) g in cc
      by (Some c) g =
          let both : Some root ≡ Some (shadow_root_of c) = sym e ∙ shown.roots host ∙ ap (option_map shadow_root_of) g in
          let same : root ≡ shadow_root_of c = cc in
          ap (host_named f.names hosts) same ∙ shown.hosts c ∙ hosted-is w c host (component-host w is.reached.world.makers host c g)

  -- which has no parent
  roots-is : (root : NodeName) → IsTrue (is_some (host_named f.names hosts root)) → parent_of f.trees root ≡ None
  roots-is root h = elim (cases_Bool (name_eq root (shadow_root_of root.owner))) [
    | inl e ↦
        let same = name_eq-true root (shadow_root_of root.owner) e in
        let there : is_some (Rattle.dom_model.specs.World.host_of w root.owner) ≡ true =
        ap is_some (sym (shown.hosts root.owner)) ∙ ap (λ r. is_some (host_named f.names hosts r)) (sym same) ∙ h in
        sym (parent-shown s w shown root) ∙ ap (parent_at w) same ∙ (shadow_roots-are_roots false w is.reached root.owner there).2
    | inr e ↦
        let none : host_named f.names hosts root ≡ None = shown.only root (λ same. both_ways _ e (name_eq-from root (shadow_root_of root.owner) same)) in
        let both : false ≡ true = ap is_some (sym none) ∙ h in
        cc
  ]

  -- so they are as a path asks
  pub world-hosted : IsHosted f hosts max_depth
  world-hosted = record { nested = ends-is; theirs = theirs-is; roots = roots-is }

  -- ---- what is seen

  -- what is hidden
  pub hidden-is : (x y : NodeName) → is_hidden_from w x y ≡ is_hidden_at s max_depth x y
  hidden-is x y =
      hidden-by_chain w is.reached.world x y ∙ (λ j. is_some (host-shown s w shown y j) &&
      not (is_in name_eq (root-shown s w shown y j) (map (λ z. root-shown s w shown z j) (chain-is x j))))

  -- what is seen
  pub seen-is : (a x : NodeName) → retarget w a x ≡ seen_at s max_depth x a
  seen-is a x = λ j. unwrap_or (find (λ z. not (hidden-is x z j)) (chain-is a j)) a

  -- of the related node
  pub related-is : (r : Option NodeName) (x : NodeName) → retarget_related w r x ≡ related_at s max_depth x r
  related-is None x = refl
  related-is (Some a) x = ap Some (seen-is a x)

  -- where a path ends
  pub ends_at-is : (target : NodeName) (related : Option NodeName) (x : NodeName) →
      Rattle.dom_model.specs.Paths.ends_at w target related x ≡ ends_at s max_depth target related x
  ends_at-is target related x = λ j. not (name_eq x target) && (name_eq x (seen-is target x j) && is_node x (related-is related x j))

  -- and whether there is one
  pub empty-is : (target : NodeName) (related : Option NodeName) →
      (is_node target (retarget_related w related target) && not (is_node target related)) ≡ is_empty_at s max_depth target related
  empty-is target related = ap (λ o. is_node target o && not (is_node target related)) (related-is related target)

  -- the slot that was entered
  pub entered-is : (y x : NodeName) → is_assigned_to w y x ≡ is_assigned_at s y x
  entered-is y x = ap (λ o. is_in name_eq y (option_to_list o)) (slot-shown s w shown x)

  -- the host of a shadow root
  shadow-host : (composed : Bool) (first x : NodeName) → is_shadow (kind_at w x) ≡ true → Rattle.dom_model.specs.World.host_of w x.owner ≡ s.host_of x
  shadow-host composed first x e =
      let its : x ≡ shadow_root_of x.owner = (shadow-name w is.reached composed first x x.owner refl e).1 in
      sym (ap s.host_of its ∙ shown.hosts x.owner)

  -- the event parent
  pub up-is : (composed : Bool) (first x : NodeName) → event_parent w composed first x ≡ event_parent_at s composed (root_of f.trees first) x
  up-is composed first x = from (is_shadow (kind_at w x)) refl
    where
      from : (b : Bool) → is_shadow (kind_at w x) ≡ b → event_parent w composed first x ≡ event_parent_at s composed (root_of f.trees first) x
      from true e =
          ap (λ (b : Bool). if b then (if composed || not (name_eq x (root_at w first)) then Rattle.dom_model.specs.World.host_of w x.owner else
          None) else option_or (slot_of w x) (parent_at w x)) e
          ∙ (λ j. if composed || not (name_eq x (root-shown s w shown first j)) then shadow-host composed first x e j else None)
          ∙ sym (ap (λ (b : Bool). if b then (if composed || not (name_eq x (root_of f.trees first)) then s.host_of x else None) else option_or
          (slot_at s x) (parent_of f.trees x)) (sym (kind-is x) ∙ e))
      from false e =
          ap (λ (b : Bool). if b then (if composed || not (name_eq x (root_at w first)) then Rattle.dom_model.specs.World.host_of w x.owner else
          None) else option_or (slot_of w x) (parent_at w x)) e
          ∙ (λ j. option_or (slot-shown s w shown x j) (parent-shown s w shown x j))
          ∙ sym (ap (λ (b : Bool). if b then (if composed || not (name_eq x (root_of f.trees first)) then s.host_of x else None) else option_or
          (slot_at s x) (parent_of f.trees x)) (sym (kind-is x) ∙ e))
