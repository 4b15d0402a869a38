-- The whole path of a node is its orbit under the event parent.
use Rattle.dom_base.proofs.Std.{zero, suc, ◌≡◌, ◌≤◌, ◌<◌, ◌+◌, ℕ, Bool, true, false, not, ◌||◌, List, [], ◌∷◌, ◌++◌, drop, flat_map, unwrap_or, Option, Some}
use Rattle.dom_base.proofs.Std.{None, refl, sym, ap, ◌∙◌, arith, subst, append-nil, if◌then◌else◌, IsTrue, is_some, option_to_list, AllByRecursion, option_or}
use Rattle.dom_base.proofs.Std.{option_and_then, cond-true, cond-false, false_from_ne_true}
use Rattle.dom_model.proofs.Model.{Kind, Shadow, NodeName, Owner, Page, Component, name_eq, first_of, last_of, owner_depth, max_depth, with_slots, way_up}
use Rattle.dom_model.proofs.Model.{event_parent, FollowsParents, slot_in, slot_of, Trees, is_shadow, inclusive_ancestors, parent_of, root_of, times_in, World}
use Rattle.dom_model.proofs.Model.{part_of, trees_with, node_at, kind_at, root_at, parent_at, ancestors_at, component_at, host_of, host_above, shadow_root_of}
use Rattle.dom_model.proofs.Model.{shadow_tree, some_if, MayAttach, host_chain, name_eq-same, depth-maker, Component-IsNoPage}
use Rattle.dom_worlds.specs.Definitions.{IsReached, MayBeShadow, IsOf, IsWorld, PathFollowsParents, IsNodeIn, IsWhole}
use Rattle.dom_worlds.proofs.Chains.{IsBelow, above-host, root-owned, below-host, hosts-alone, chain-below, other-owner}
use Rattle.dom_worlds.proofs.ShadowTrees.{owned-in, ancestors-owned, IsInTree, slot-in_tree, slot_in-there, slot_way, slots-first}
use Rattle.dom_worlds.proofs.InsideAncestors.{parent-there, child-there, no_parent-root}
use Rattle.dom_worlds.proofs.Lists.{all-then, by_cases, either_way, get-all, by_some_is}
use Rattle.dom_worlds.proofs.Owners.{component-host, component-maker, component-deeper, hosted-is, node-there, there-hosted, hosted, hosted-owned}
use Rattle.dom_worlds.proofs.Reached.{root-alone, no_other_shadow_roots, shadow_roots-are_roots}
use Rattle.dom_worlds.proofs.Roots.{ancestors-step}
use Rattle.dom_laws.proofs.Laws.{Once, times_subtree}
use Rattle.dom_worlds.proofs.Trees.{ancestors-present, ancestors-root, ancestors-there, all-both}
use Rattle.dom_worlds.proofs.KindLines.{has_node-times}
use Rattle.dom_worlds.proofs.KindCases.{failing, of_kinds}

-- A node and those that come after it: each is followed by what is above it, and the last by the end.
abbrev pub Runs : (NodeName → Option NodeName) → NodeName → List NodeName → Option NodeName → Type 0
Runs up x [] e = up x ≡ e
Runs up x (y ∷ ys) e = (up x ≡ Some y) × Runs up y ys e

-- such a node, with those after it and the end
pub record LaterRun (up : NodeName → Option NodeName) : Type 0 where
  pub node : NodeName
  pub others : List NodeName
  pub end : Option NodeName
  pub runs : Runs up node others end

-- one after another
pub runs-join : (up : NodeName → Option NodeName) (x : NodeName) (xs : List NodeName) (later : LaterRun up) → Runs up x xs (Some later.node) →
    Runs up x (xs ++ later.node ∷ later.others) later.end
runs-join up x [] later h = (h, later.runs)
runs-join up x (z ∷ xs) later h = (h.0, runs-join up z xs later h.1)

-- by another function that agrees
runs-change : {e : Option NodeName} {up to : NodeName → Option NodeName} {Q : NodeName → Type 0} → ((y z : NodeName) → Q y → up y ≡ Some z → to y ≡ Some z) →
    ((y : NodeName) → Q y → up y ≡ None → to y ≡ e) → (x : NodeName) (xs : List NodeName) → AllByRecursion Q (x ∷ xs) → Runs up x xs None → Runs to x xs e
runs-change f g x [] q h = g x q.0 h
runs-change f g x (y ∷ ys) q h = (f x y q.0 h.0, runs-change f g y ys q.1 h.1)

-- Ancestors: each is followed by its parent.
ancestors-run : (ts : Trees) → Once ts → (x : NodeName) (path : List NodeName) → inclusive_ancestors ts x ≡ x ∷ path → Runs (parent_of ts) x path None
ancestors-run ts u x [] h = ap (λ p. first_of (drop 1 p)) h
ancestors-run ts u x (y ∷ path) h =
    let up : parent_of ts x ≡ Some y = ap (λ p. first_of (drop 1 p)) h in
    let both : x ∷ inclusive_ancestors ts y ≡ x ∷ y ∷ path = sym (ancestors-step ts x y u up) ∙ h in
    (up, ancestors-run ts u y path (ap (drop 1) both))

-- a node without a parent is its root
pub root-itself : (ts : Trees) (y : NodeName) → Once ts → 1 ≤ times_in ts y → parent_of ts y ≡ None → root_of ts y ≡ y
root-itself ts y u t h = ap (λ p. unwrap_or (last_of p) y) (root-alone ts u y (no_parent-root ts y t h))

-- The slot of a node: in the shadow tree of its parent, which is deeper than the node's owner.
record IsSlotOf (w : World) (x s : NodeName) : Type 0 where
  component : Owner
  tree : IsInTree w component s
  there : 1 ≤ times_in (trees_with w s) s
  host : host_of w component ≡ parent_at w x
  parent : (p : NodeName) × (parent_at w x ≡ Some p)
  maker : MayAttach x.owner
  deeper : owner_depth x.owner < owner_depth component

-- is such
slot-facts : (w : World) → IsWorld w → (x s : NodeName) → slot_of w x ≡ Some s → IsSlotOf w x s
slot-facts w i x s h = from (parent_at w x) refl
  where
    at_parent : (p : NodeName) (c : Option Owner) → parent_at w x ≡ Some p → component_at w p ≡ c →
        option_and_then (λ c. slot_in (shadow_tree w c) (node_at w x)) c ≡ Some s → IsSlotOf w x s
    at_parent p None e f g = cc
    at_parent p (Some c) e f g =
        let t = slot-in_tree w i x s h in
        let inner = slot_in-there (shadow_tree w c) (node_at w x) s g in
        let within = times_subtree (part_of w c).trees (shadow_root_of c) s in
        let mine : s.owner ≡ c = owned-in w i c s (omega arith) in
        let same : t.0 ≡ c = sym t.1.owner ∙ mine in
        let own : p.owner ≡ x.owner = owned-in w i x.owner p (parent-there (trees_with w x) x p e) in
        record {
          component = c;
          tree = subst (λ o. IsInTree w o s) same t.1;
          there = subst (λ o. 1 ≤ times_in (part_of w o).trees s) (sym mine) (omega arith);
          host = hosted-is w c p (component-host w i.makers p c f) ∙ sym e;
          parent = (p, e);
          maker = subst MayAttach own (component-maker w i.makers p c f);
          deeper = subst (λ o. owner_depth o < owner_depth c) own (component-deeper w i.makers p c f);
        }

    from : (o : Option NodeName) → parent_at w x ≡ o → IsSlotOf w x s
    from None e = let none_at : slot_of w x ≡ None =
        ap (λ o. option_and_then (λ c. slot_in (shadow_tree w c) (node_at w x)) (option_and_then (component_at w) o)) e in cc
    from (Some p) e = at_parent p (component_at w p) e refl
        (sym (ap (λ o. option_and_then (λ c. slot_in (shadow_tree w c) (node_at w x)) (option_and_then (component_at w) o)) e) ∙ h)

-- nor has one of an owner that is as deep as there can be
slot-deepest : (w : World) → IsWorld w → (x : NodeName) → max_depth ≤ owner_depth x.owner → slot_of w x ≡ None
slot-deepest w i x h =
    by_some_is (λ (o : Option NodeName). slot_of w x ≡ None) (slot_of w x) (λ e. e)
    (λ s e. let room = depth-maker x.owner (slot-facts w i x s e).maker in absurd (omega (arith, h, room)))

-- Kinds.
pub shadow-kind : (k : Kind) → is_shadow k ≡ true → k ≡ Shadow
shadow-kind = of_kinds (λ k. is_shadow k ≡ true → k ≡ Shadow) failing failing (λ h. refl) failing failing failing

module _ {only_log : Bool} (w : World) (r : IsReached only_log w) (composed : Bool) (first : NodeName) where
  -- the event parent
  abbrev up_from : NodeName → Option NodeName
  up_from = event_parent w composed first

  -- of a node that is no shadow root
  plain-up : (y : NodeName) → is_shadow (kind_at w y) ≡ false → up_from y ≡ option_or (slot_of w y) (parent_at w y)
  plain-up y e = cond-false (is_shadow (kind_at w y)) (if composed || not (name_eq y (root_at w first)) then host_of w y.owner else None)
      (option_or (slot_of w y) (parent_at w y)) e

  -- of a shadow root
  pub shadow-up : (y : NodeName) → is_shadow (kind_at w y) ≡ true →
      up_from y ≡ (if composed || not (name_eq y (root_at w first)) then host_of w y.owner else None)
  shadow-up y e = cond-true (is_shadow (kind_at w y)) (if composed || not (name_eq y (root_at w first)) then host_of w y.owner else None)
      (option_or (slot_of w y) (parent_at w y)) e

  -- a shadow root has its owner's first name
  pub shadow-name : (y : NodeName) (o : Owner) → y.owner ≡ o → is_shadow (kind_at w y) ≡ true → (o ≡ Page → ⊥) × (y ≡ shadow_root_of y.owner)
  shadow-name y o e h = named o e (subst (λ a. MayBeShadow a y) e (no_other_shadow_roots only_log w r y (shadow-kind (kind_at w y) h)))
    where
      named : (o : Owner) → y.owner ≡ o → MayBeShadow o y → (o ≡ Page → ⊥) × (y ≡ shadow_root_of y.owner)
      named Page e m = absurd m
      named (Component k) e m = (Component-IsNoPage k, m ∙ ap shadow_root_of (sym e))

  -- an attached shadow root is a root: a node with a parent is none
  shadow-child : (y z : NodeName) → is_shadow (kind_at w y) ≡ true → parent_at w y ≡ Some z → ⊥
  shadow-child y z k up =
      let named = shadow-name y y.owner refl k in
      let there = node-there w y.owner y (child-there (trees_with w y) y z up) in
      let root = shadow_roots-are_roots only_log w r y.owner (there-hosted w r.world.makers r.owners y.owner named.0 there) in
      let none_up : parent_at w y ≡ None = ap (parent_at w) named.1 ∙ root.2 in
      let both : Some z ≡ None = sym up ∙ none_up in
      cc

  -- What comes after a node, but for its slot: its parent, or what comes after a shadow root.
  abbrev pub next_up : NodeName → Option NodeName
  next_up y = if is_shadow (kind_at w y) then up_from y else parent_at w y

  -- so of a node with a parent
  next-parent : (y z : NodeName) → parent_at w y ≡ Some z → is_shadow (kind_at w y) ≡ false
  next-parent y z e = false_from_ne_true (is_shadow (kind_at w y)) (λ k. shadow-child y z k e)

  -- of one without a slot nothing else comes after it
  next-alone : (y : NodeName) → slot_of w y ≡ None → up_from y ≡ next_up y
  next-alone y e =
      by_cases (is_shadow (kind_at w y)) (λ k. sym (cond-true (is_shadow (kind_at w y)) (up_from y) (parent_at w y) k))
      (λ k. plain-up y k ∙ ap (λ o. option_or o (parent_at w y)) e ∙ sym (cond-false (is_shadow (kind_at w y)) (up_from y) (parent_at w y) k))

  -- after an attached shadow root comes its host, where it lets the event out
  next-shadow : (c : Owner) → IsTrue (is_some (host_of w c)) →
      next_up (shadow_root_of c) ≡ (if composed || not (name_eq (shadow_root_of c) (root_at w first)) then host_of w c else None)
  next-shadow c h =
      let root = shadow_root_of c in
      let k = ap is_shadow (shadow_roots-are_roots only_log w r c h).1 in
      cond-true (is_shadow (kind_at w root)) (up_from root) (parent_at w root) k ∙ shadow-up root k

  -- Up through a tree, and on from its root.
  tree-run : (x : NodeName) (path : List NodeName) → ancestors_at w x ≡ x ∷ path → (e : Option NodeName) →
      (parent_at w (root_at w x) ≡ None → next_up (root_at w x) ≡ e) → Runs next_up x path e
  tree-run x path at e ends =
      let ts = trees_with w x in
      let u = (r.world.parts x.owner).unique in
      let owned = subst (AllByRecursion (IsOf x.owner)) at (ancestors-owned w r.world x) in
      let rooted = subst (AllByRecursion (λ y. root_of ts y ≡ root_of ts x)) at (ancestors-root ts u x) in
      let there = subst (AllByRecursion (λ y. 1 ≤ times_in ts y)) at (ancestors-there ts x) in
      let same = λ (y : NodeName) (g : y.owner ≡ x.owner). ap (λ o. parent_of (part_of w o).trees y) g in
      runs-change
      (λ y z q g. let up : parent_at w y ≡ Some z = same y q.0 ∙ g in cond-false (is_shadow (kind_at w y)) (up_from y) (parent_at w y) (next-parent y z up)
      ∙ up)
      (λ y q g. let root : root_of ts x ≡ y = sym q.1.1 ∙ root-itself ts y u q.1.0 g in
      subst (λ z. next_up z ≡ e) root (ends (subst (λ z. parent_at w z ≡ None) (sym root) (same y q.0 ∙ g))))
      x path
      (all-both (IsOf x.owner) (λ y. (1 ≤ times_in ts y) × (root_of ts y ≡ root_of ts x)) (x ∷ path) owned
      (all-both (λ y. 1 ≤ times_in ts y) (λ y. root_of ts y ≡ root_of ts x) (x ∷ path) there rooted))
      (ancestors-run ts u x path at)

  -- All ways of a list of nodes, each of which leads to the next.
  all-ways : (depth : ℕ) (x : NodeName) (path : List NodeName) (e : Option NodeName) →
      AllByRecursion (λ y. Runs up_from y (slot_way depth w y) (next_up y)) (x ∷ path) →
      Runs next_up x path e → Runs up_from x (slot_way depth w x ++ flat_map (with_slots depth w) path) e
  all-ways depth x [] e h g = subst (λ ys. Runs up_from x ys e) (sym (append-nil (slot_way depth w x))) (subst (Runs up_from x (slot_way depth w x)) g h.0)
  all-ways depth x (y ∷ path) e h g =
      subst (λ ys. Runs up_from x (slot_way depth w x ++ ys) e) (sym (slots-first depth w y path))
      (runs-join up_from x (slot_way depth w x) (record {
        node = y;
        others = slot_way depth w y ++ flat_map (with_slots depth w) path;
        end = e;
        runs = all-ways depth y path e h.1 g.1;
      }) (subst (Runs up_from x (slot_way depth w x)) g.0 h.0))

  -- Shadow roots deeper than this let the event out.
  module _ (least : ℕ) (opens : (c : Owner) → least < owner_depth c → (composed || not (name_eq (shadow_root_of c) (root_at w first))) ≡ true) where
    -- The way from a node through its slot, up to what comes after it but for the slot.
    slot-ways : (depth : ℕ) (y : NodeName) → least ≤ owner_depth y.owner → max_depth ≤ owner_depth y.owner + depth →
        Runs up_from y (slot_way depth w y) (next_up y)
    slot-ways zero y l m = next-alone y (slot-deepest w r.world y (omega (arith, m)))
    slot-ways (suc depth) y l m = from (slot_of w y) refl (slot-ways depth)
      where
        from : (o : Option NodeName) → slot_of w y ≡ o →
            ((z : NodeName) → least ≤ owner_depth z.owner → max_depth ≤ owner_depth z.owner + depth → Runs up_from z (slot_way depth w z) (next_up z)) →
            Runs up_from y (slot_way (suc depth) w y) (next_up y)
        from None h deeper =
            subst (λ o. Runs up_from y (flat_map (with_slots depth w) (flat_map (ancestors_at w) (option_to_list o))) (next_up y)) (sym h) (next-alone y h)
        from (Some s) h deeper =
            let k = slot-facts w r.world y s h in
            let c = k.component in
            let at = ancestors-present (trees_with w s) s k.there in
            let deep : owner_depth y.owner < owner_depth c = k.deeper in
            let owned = subst (AllByRecursion (IsOf s.owner)) at.1 (ancestors-owned w r.world s) in
            let each = all-then (IsOf s.owner) (λ z. Runs up_from z (slot_way depth w z) (next_up z))
            (λ z e. let same : owner_depth z.owner ≡ owner_depth c = ap owner_depth (e ∙ k.tree.owner) in deeper z (omega (arith, l, deep, same))
            (omega (arith, m, deep, same)))
            (s ∷ at.0) owned in
            let plain : is_shadow (kind_at w y) ≡ false = next-parent y k.parent.0 k.parent.1 in
            let after_y : next_up y ≡ parent_at w y = cond-false (is_shadow (kind_at w y)) (up_from y) (parent_at w y) plain in
            let shut = composed || not (name_eq (shadow_root_of c) (root_at w first)) in
            let out : next_up (root_at w s) ≡ next_up y =
            ap next_up k.tree.root ∙ next-shadow c k.tree.host ∙ cond-true shut (host_of w c) None (opens c (omega (arith, l, deep))) ∙ k.host ∙ sym after_y in
            let way = all-ways depth s at.0 (next_up y) each (tree-run s at.0 at.1 (next_up y) (λ p. out)) in
            let is : slot_way (suc depth) w y ≡ s ∷ (slot_way depth w s ++ flat_map (with_slots depth w) at.0) =
            ap (λ o. flat_map (with_slots depth w) (flat_map (ancestors_at w) (option_to_list o))) h
            ∙ ap (flat_map (with_slots depth w)) (append-nil (ancestors_at w s) ∙ at.1) ∙ slots-first depth w s at.0 in
            subst (λ ys. Runs up_from y ys (next_up y)) (sym is) (plain-up y plain ∙ ap (λ o. option_or o (parent_at w y)) h, way)

    -- The way up from a node, with all slots.
    pub node-way : (x : NodeName) → least ≤ owner_depth x.owner → 1 ≤ times_in (trees_with w x) x → (e : Option NodeName) →
        (parent_at w (root_at w x) ≡ None → next_up (root_at w x) ≡ e) →
        (rest : List NodeName) × (way_up w x ≡ x ∷ rest) × Runs up_from x rest e
    node-way x l t e ends =
        let at = ancestors-present (trees_with w x) x t in
        let owned = subst (AllByRecursion (IsOf x.owner)) at.1 (ancestors-owned w r.world x) in
        let each = all-then (IsOf x.owner) (λ z. Runs up_from z (slot_way max_depth w z) (next_up z))
        (λ z e. slot-ways max_depth z (subst (λ o. least ≤ owner_depth o) (sym e) l) (omega arith)) (x ∷ at.0) owned in (
          slot_way max_depth w x ++ flat_map (with_slots max_depth w) at.0,
          ap (flat_map (with_slots max_depth w)) at.1 ∙ slots-first max_depth w x at.0,
          all-ways max_depth x at.0 e each (tree-run x at.0 at.1 e ends),
        )

  -- Where a way up ends: below a host at it, if the event is let out,
  pub root-out : (x host : NodeName) → IsBelow w x host → (composed || not (name_eq (shadow_root_of x.owner) (root_at w first))) ≡ true →
      next_up (root_at w x) ≡ Some host
  root-out x host b opens =
      ap next_up b.tree.root ∙ next-shadow x.owner b.tree.host
      ∙ cond-true (composed || not (name_eq (shadow_root_of x.owner) (root_at w first))) (host_of w x.owner) None opens ∙ (above-host w x host b.above).0

  -- at the shadow root, if it is not,
  pub root-shut : (x host : NodeName) → IsBelow w x host → (composed || not (name_eq (shadow_root_of x.owner) (root_at w first))) ≡ false →
      next_up (root_at w x) ≡ None
  root-shut x host b shut =
      ap next_up b.tree.root ∙ next-shadow x.owner b.tree.host
      ∙ cond-false (composed || not (name_eq (shadow_root_of x.owner) (root_at w first))) (host_of w x.owner) None shut

  -- and in no shadow tree at the root
  pub root-loose : (x : NodeName) → host_above w x ≡ None → parent_at w (root_at w x) ≡ None → next_up (root_at w x) ≡ None
  root-loose x loose top =
      let root = root_at w x in
      let own = root-owned w r.world x in
      by_cases (is_shadow (kind_at w root))
      (λ k. let named : root ≡ shadow_root_of x.owner = (shadow-name root root.owner refl k).1 ∙ ap shadow_root_of own in
      cond-true (is_shadow (kind_at w root)) (up_from root) (parent_at w root) k ∙ shadow-up root k
      ∙ either_way (λ o. o ≡ None) (composed || not (name_eq root (root_at w first))) (host_of w root.owner) None
      (ap (host_of w) own ∙ unhosted (host_of w x.owner) refl named) refl)
      (λ k. cond-false (is_shadow (kind_at w root)) (up_from root) (parent_at w root) k ∙ top)
    where
      unhosted : (o : Option NodeName) → host_of w x.owner ≡ o → root_at w x ≡ shadow_root_of x.owner → host_of w x.owner ≡ None
      unhosted None e named = e
      unhosted (Some h) e named =
          let its : name_eq (root_at w x) (shadow_root_of x.owner) ≡ true = ap (λ n. name_eq n (shadow_root_of x.owner)) named
          ∙ name_eq-same (shadow_root_of x.owner) in
          let above : host_above w x ≡ Some h =
          ap (option_and_then (some_if (name_eq (root_at w x) (shadow_root_of x.owner)))) e ∙ ap (λ b. some_if b h) its in
          let both : None ≡ Some h = sym loose ∙ above in
          cc

-- As the definition says it.
follows-run : (w : World) (composed : Bool) (first x : NodeName) (xs : List NodeName) → Runs (event_parent w composed first) x xs None →
    FollowsParents w composed first (x ∷ xs)
follows-run w composed first x [] h = h
follows-run w composed first x (y ∷ xs) h = (h.0, follows-run w composed first y xs h.1)

-- a path that begins at the target and goes on so
follows-path : {x : NodeName} {path xs : List NodeName} (w : World) (composed : Bool) → path ≡ x ∷ xs → Runs (event_parent w composed x) x xs None →
    (first_of path ≡ Some x) × FollowsParents w composed x path
follows-path {x} {xs} w composed e h = (ap first_of e, subst (FollowsParents w composed x) (sym e) (follows-run w composed x x xs h))

-- a host is a node of its owner
host-there : (w : World) → IsWorld w → IsWhole w → (o : Owner) (host : NodeName) → host_of w o ≡ Some host → 1 ≤ times_in (trees_with w host) host
host-there w i h o host e =
    let k = hosted w o host e in
    let ts = (part_of w k.maker).trees in
    subst (λ a. 1 ≤ times_in (part_of w a).trees host) (sym (hosted-owned w i o host k))
    (has_node-times ts host (get-all (IsNodeIn ts) (part_of w k.maker).attached k.number host (h.tables k.maker).hosts k.found))

module _ {only_log : Bool} (w : World) (r : IsReached only_log w) where
  -- A composed event: the way up from each node of the chain leads to the next one.
  climbs : IsWhole w → (first : NodeName) (depth : ℕ) {x : NodeName} → owner_depth x.owner ≤ depth → 1 ≤ times_in (trees_with w x) x → {o : Option NodeName} →
      host_above w x ≡ o → (rest : List NodeName) × (flat_map (way_up w) (host_chain w x) ≡ x ∷ rest) × Runs (event_parent w true first) x rest None
  climbs h first depth {x} d t {o = None} e =
      let way = node-way w r true first 0 (λ c g. refl) x (omega arith) t None (root-loose w r true first x e) in
      (way.0, ap (flat_map (way_up w)) (hosts-alone (owner_depth x.owner) w x e) ∙ append-nil (way_up w x) ∙ way.1, way.2)
  climbs h first zero {x} d t {o = Some host} e = let deep = (below-host w r.world x host e).deeper in absurd (omega (arith, d, deep))
  climbs h first (suc depth) {x} d t {o = Some host} e =
      let b = below-host w r.world x host e in
      let deep = b.deeper in
      let way = node-way w r true first 0 (λ c g. refl) x (omega arith) t (Some host) (λ p. root-out w r true first x host b refl) in
      let there = host-there w r.world h x.owner host (above-host w x host e).0 in
      let on = climbs h first depth (omega (arith, d, deep)) there refl in (
        way.0 ++ host ∷ on.0,
        ap (flat_map (way_up w)) (chain-below w x host b) ∙ ap (λ xs. xs ++ flat_map (way_up w) (host_chain w host)) way.1 ∙ ap (λ ys. (x ∷ way.0) ++ ys) on.1,
        runs-join (event_parent w true first) x way.0 (record { node = host; others = on.0; end = None; runs = on.2 }) way.2,
      )

  -- An event that is not composed: deeper shadow roots let it out, and that of its target's tree does not.
  deeper-opens : (x : NodeName) (c : Owner) → owner_depth x.owner < owner_depth c → not (name_eq (shadow_root_of c) (root_at w x)) ≡ true
  deeper-opens x c g =
      ap not (other-owner (shadow_root_of c) (root_at w x) (λ e. let same = ap owner_depth (e ∙ root-owned w r.world x) in absurd (omega (arith, g, same))))

  -- so it goes up one way
  stays : (x : NodeName) → 1 ≤ times_in (trees_with w x) x → (o : Option NodeName) → host_above w x ≡ o →
      (rest : List NodeName) × (way_up w x ≡ x ∷ rest) × Runs (event_parent w false x) x rest None
  stays x t None e = node-way w r false x (owner_depth x.owner) (deeper-opens x) x (omega arith) t None (root-loose w r false x x e)
  stays x t (Some host) e =
      let b = below-host w r.world x host e in
      let root = shadow_root_of x.owner in
      let shut : not (name_eq root (root_at w x)) ≡ false = ap (λ y. not (name_eq root y)) b.tree.root ∙ ap not (name_eq-same root) in
      node-way w r false x (owner_depth x.owner) (deeper-opens x) x (omega arith) t None (λ p. root-shut w r false x x host b shut)

-- the law
pub path-follows_parents : PathFollowsParents
path-follows_parents b w r h x true t =
    let way = climbs w r h x (owner_depth x.owner) (omega arith) (has_node-times (trees_with w x) x t) refl in
    follows-path w true way.1 way.2
path-follows_parents b w r h x false t =
    let way = stays w r x (has_node-times (trees_with w x) x t) (host_above w x) refl in
    follows-path w false (append-nil (way_up w x) ∙ way.1) way.2
