-- What an event of a node outside the group shows at the group's nodes: nothing, or where it goes out, what one at its boundary host shows. With a related
-- node in the same shadow tree its path ends before the host.
use Rattle.dom_base.proofs.Std.{◌≡◌, ℕ, zero, suc, ◌≤◌, Bool, true, false, not, ◌&&◌, List, [], ◌∷◌, ◌++◌, filter, find, flat_map, map, Option, Some, None}
use Rattle.dom_base.proofs.Std.{unwrap_or, refl, sym, ap, ◌∙◌, subst, arith, ◌||◌, take_while, if◌then◌else◌, is_some, AllByRecursion, cond-true, cond-false}
use Rattle.dom_base.proofs.Std.{and_from, flat_map-append, filter-append}
use Rattle.dom_model.proofs.Model.{Owner, NodeName, name_eq, owner_depth, max_depth, is_in, World, root_at, ancestors_at, host_above, host_chain}
use Rattle.dom_model.proofs.Model.{shadow_including_ancestors, trees_with, View, is_hidden_from, retarget, retarget_related, is_node, with_slots, way_up}
use Rattle.dom_model.proofs.Model.{whole_path, ends_at, event_path, view_at, views, KeepsMakers, boundary_host, times_in, name_eq-same}
use Rattle.dom_worlds.specs.Definitions.{IsWorld}
use Rattle.dom_worlds.proofs.ShadowTreeLemmas.{IsBelow, has-chain, below-host, hosts-alone, chain-below, chain-first, absent-host, other-owner, hidden-itself}
use Rattle.dom_worlds.proofs.ShadowTreeLemmas.{hidden-deeper, IsInTree, ancestors-in_tree, slots-behind, slot_way, slots-first}
use Rattle.dom_worlds.proofs.ListLemmas.{all-append, all-then, all-from, all-passed, all-flat_map, filter-map, filter_none, map_same, all-take_while}
use Rattle.dom_worlds.proofs.ListLemmas.{all-before, by_cases, either_way}
use Rattle.dom_worlds.proofs.TreeLemmas.{all-both, ancestors-present}
use Rattle.dom_isolation.proofs.PagePaths.{IsInSome, slot_way-in_some, uncut}
use Rattle.dom_isolation.proofs.GroupSlots.{in_node}
use Rattle.dom_isolation.proofs.OwnVisits.{in_view}
use Rattle.dom_isolation.proofs.GroupPaths.{hidden-outside, way-outside, ground, Inside, Outside, veiled-hidden}
use Rattle.dom_laws.proofs.Laws.{by_times, path_none as ancestors-absent}

-- what is left of a path
abbrev pub cut_at : World → NodeName → Option NodeName → List NodeName → List NodeName
cut_at w target related xs = take_while (λ y. not (ends_at w target related y)) xs

-- a front of a list whose nodes all have a property
pub cut-all : (P : NodeName → Type 0) (w : World) (target : NodeName) (related : Option NodeName) (xs : List NodeName) → AllByRecursion P xs →
    AllByRecursion P (cut_at w target related xs)
cut-all P w target related xs h = all-take_while P (λ y. not (ends_at w target related y)) xs h

-- a test that fails
none_ends : (a b : Bool) → (a && (b && false)) ≡ false
none_ends true true = refl
none_ends a b = refl

-- without a related node no path ends early
pub no_end : (w : World) (target y : NodeName) → ends_at w target None y ≡ false
no_end w target y = none_ends (not (name_eq y target)) (name_eq y (retarget w target y))

-- A related node in the same shadow tree: the path ends before the host of the tree's root, which is seen in place of both.
retarget-host : (w : World) → IsWorld w → (x host : NodeName) → IsBelow w x host → retarget w x host ≡ host
retarget-host w i x host b =
    let at = chain-first (owner_depth host.owner) w host in
    let deep = b.deeper in
    let seen : NodeName → Bool = λ z. not (is_hidden_from w host z) in
    ap (λ xs. unwrap_or (find seen xs) x) (chain-below w x host b ∙ ap (λ xs. x ∷ xs) at.1)
    ∙ ap (λ o. unwrap_or o x) (cond-false (seen x) (Some x) (find seen (host ∷ at.0)) (ap not (hidden-deeper w i host x b.tree (omega (arith, deep)))))
    ∙ ap (λ o. unwrap_or o x) (cond-true (seen host) (Some host) (find seen at.0) (ap not (hidden-itself w i host)))

-- Two nodes below a host in a world.
module _ (w : World) (i : IsWorld w) (x y host : NodeName) (u : IsBelow w x host) (v : IsBelow w y host) where
  -- so it ends there
  ends-at_host : ends_at w x (Some y) host ≡ true
  ends-at_host =
      let deep = u.deeper in
      let other : name_eq host x ≡ false = other-owner host x (λ e. let same = ap owner_depth e in absurd (omega (arith, deep, same))) in
      and_from (not (name_eq host x)) (name_eq host (retarget w x host) && is_node host (retarget_related w (Some y) host)) (ap not other)
      (and_from (name_eq host (retarget w x host)) (is_node host (retarget_related w (Some y) host))
      (ap (name_eq host) (retarget-host w i x host u) ∙ name_eq-same host)
      (ap (λ z. is_in name_eq host (z ∷ [])) (retarget-host w i y host v) ∙ ap (λ b. b || false) (name_eq-same host)))

  -- so the nodes of the path are on the way up from the first one
  pub related-cut : (P : NodeName → Type 0) → AllByRecursion P (way_up w x) → AllByRecursion P (cut_at w x (Some y) (whole_path w x true))
  related-cut P way =
      by_times (times_in (trees_with w host) host) absent (λ z. present (ancestors-present (trees_with w host) host z)
      (chain-first (owner_depth host.owner) w host))
    where
      -- a host that is no node has no node on the path
      absent : times_in (trees_with w host) host ≡ 0 → AllByRecursion P (cut_at w x (Some y) (whole_path w x true))
      absent z =
          let none_up : way_up w host ≡ [] = ap (flat_map (with_slots max_depth w)) (ancestors-absent (trees_with w host) host z) in
          let whole : whole_path w x true ≡ way_up w x ++ [] =
          ap (flat_map (way_up w)) (chain-below w x host u ∙ ap (λ xs. x ∷ xs) (hosts-alone (owner_depth host.owner) w host (absent-host w i host z)))
          ∙ ap (λ xs. way_up w x ++ (xs ++ [])) none_up in
          subst (λ xs. AllByRecursion P (cut_at w x (Some y) xs)) (sym whole) (cut-all P w x (Some y) (way_up w x ++ []) (all-append P (way_up w x) [] way tt))

      -- at another one the path ends
      present : ((rest : List NodeName) × (ancestors_at w host ≡ host ∷ rest)) → ((rest : List NodeName) × (host_chain w host ≡ host ∷ rest)) →
          AllByRecursion P (cut_at w x (Some y) (whole_path w x true))
      present at chain =
          let more = slot_way max_depth w host ++ flat_map (with_slots max_depth w) at.0 in
          let outer = flat_map (way_up w) chain.0 in
          let whole : whole_path w x true ≡ way_up w x ++ host ∷ (more ++ outer) =
          ap (flat_map (way_up w)) (chain-below w x host u ∙ ap (λ xs. x ∷ xs) chain.1)
          ∙ ap (λ xs. way_up w x ++ (xs ++ outer)) (ap (flat_map (with_slots max_depth w)) at.1 ∙ slots-first max_depth w host at.0) in
          subst (λ xs. AllByRecursion P (cut_at w x (Some y) xs)) (sym whole)
          (all-before P (λ z. not (ends_at w x (Some y) z)) (way_up w x) host (more ++ outer) (ap not ends-at_host) way)

-- what is found behind nodes that do not pass
pub find-past : (test : NodeName → Bool) (xs ys : List NodeName) → AllByRecursion (λ x. test x ≡ false) xs → find test (xs ++ ys) ≡ find test ys
find-past test [] ys h = refl
find-past test (x ∷ xs) ys h = cond-false (test x) (Some x) (find test (xs ++ ys)) h.0 ∙ find-past test xs ys h.1

-- what is found passes
pub found-passes : (test : NodeName → Bool) (xs : List NodeName) (y : NodeName) → find test xs ≡ Some y → test y ≡ true
found-passes test [] y e = cc
found-passes test (x ∷ xs) y e =
    by_cases (test x)
    (λ t. let both : Some x ≡ Some y = sym (cond-true (test x) (Some x) (find test xs) t) ∙ e in let same : x ≡ y = cc in ap test (sym same) ∙ t)
    (λ t. found-passes test xs y (sym (cond-false (test x) (Some x) (find test xs) t) ∙ e))

-- where nothing is found, nothing passes
pub none-found : (test : NodeName → Bool) (xs : List NodeName) → find test xs ≡ None → AllByRecursion (λ x. test x ≡ false) xs
none-found test [] e = tt
none-found test (x ∷ xs) e =
    by_cases (test x) (λ t. let both : Some x ≡ None = sym (cond-true (test x) (Some x) (find test xs) t) ∙ e in cc)
    (λ t. (t, none-found test xs (sym (cond-false (test x) (Some x) (find test xs) t) ∙ e)))

-- where the last one passes, something is found
last-found : (test : NodeName → Bool) (xs : List NodeName) (last : NodeName) → test last ≡ true → (a b : NodeName) →
    unwrap_or (find test (xs ++ last ∷ [])) a ≡ unwrap_or (find test (xs ++ last ∷ [])) b
last-found test [] last h a b =
    let found = cond-true (test last) (Some last) None h in
    ap (λ o. unwrap_or o a) found ∙ sym (ap (λ o. unwrap_or o b) found)
last-found test (x ∷ xs) last h a b = from (test x) (last-found test xs last h a b)
  where
    from : (t : Bool) → unwrap_or (find test (xs ++ last ∷ [])) a ≡ unwrap_or (find test (xs ++ last ∷ [])) b →
        unwrap_or (if t then Some x else find test (xs ++ last ∷ [])) a ≡ unwrap_or (if t then Some x else find test (xs ++ last ∷ [])) b
    from true later = refl
    from false later = later

module _ (g : Owner → Bool) (closed : KeepsMakers g) (w : World) (i : IsWorld w) where
  -- nodes outside
  abbrev Away : NodeName → Type 0
  Away y = Outside g closed w i y

  -- A path without nodes of the group shows the group nothing.
  views-away : (x : NodeName) (r : Option NodeName) (composed : Bool) → AllByRecursion Away (cut_at w x r (whole_path w x composed)) →
      filter (in_view g) (views w x r composed) ≡ []
  views-away x r composed h =
      let path = event_path w x r composed in
      let away : AllByRecursion Away path = either_way (AllByRecursion Away) (is_node x (retarget_related w r x) && not (is_node x r)) []
      (cut_at w x r (whole_path w x composed)) tt h in
      filter-map (in_view g) (view_at w x r path) path ∙ ap (map (view_at w x r path)) (filter_none (in_node g) path away)

  -- an event that is not composed
  pub views-kept_in : (x : NodeName) (r : Option NodeName) → Away x → filter (in_view g) (views w x r false) ≡ []
  views-kept_in x r h =
      views-away x r false (cut-all Away w x r (way_up w x ++ []) (all-append Away (way_up w x) [] (way-outside g closed w (ground g closed w i) x h) tt))

  -- an event whose chain of hosts is outside
  pub views-far : (x : NodeName) (r : Option NodeName) (composed : Bool) → AllByRecursion Away (host_chain w x) → filter (in_view g) (views w x r composed) ≡ []
  views-far x r composed h =
      let from : List NodeName = if composed then host_chain w x else x ∷ [] in
      let at = chain-first (owner_depth x.owner) w x in
      let first : Away x = (subst (AllByRecursion Away) at.1 h).0 in
      views-away x r composed (cut-all Away w x r (whole_path w x composed)
      (all-flat_map Away (way_up w) from
      (all-then Away (λ y. AllByRecursion Away (way_up w y)) (way-outside g closed w (ground g closed w i)) from
      (either_way (AllByRecursion Away) composed (host_chain w x) (x ∷ []) h (first, tt)))))

  -- a related node in the same shadow tree: the path ends before the host
  pub views-related : (x y host : NodeName) → Away x → IsBelow w x host → IsBelow w y host → filter (in_view g) (views w x (Some y) true) ≡ []
  views-related x y host far u v =
      views-away x (Some y) true (related-cut w i x y host u v Away (way-outside g closed w (ground g closed w i) x far))

  -- The way out of a node to the group: hosts outside in shadow trees, and then the chain of hosts of a node of the group.
  pub record HasExit (x host : NodeName) : Type 0 where
    pub inner : List NodeName
    pub chain : host_chain w x ≡ inner ++ host_chain w host
    pub trees : AllByRecursion (λ y. IsInTree w y.owner y) inner
    pub away : AllByRecursion Away inner
    pub inside : Inside g closed w i host

  -- a node of the group is its own boundary host
  pub boundary-here : (x : NodeName) → in_node g x ≡ true → boundary_host g w x ≡ Some x
  boundary-here x h =
      let at = chain-first (owner_depth x.owner) w x in
      ap (find (in_node g)) at.1 ∙ cond-true (in_node g x) (Some x) (find (in_node g) at.0) h

  -- a node outside has that of the host above,
  pub boundary-above : (x up : NodeName) → Away x → IsBelow w x up → boundary_host g w x ≡ boundary_host g w up
  boundary-above x up h b = ap (find (in_node g)) (chain-below w x up b) ∙ cond-false (in_node g x) (Some x) (find (in_node g) (host_chain w up)) h

  -- and without one it has none
  pub boundary-alone : (x : NodeName) → Away x → host_above w x ≡ None → boundary_host g w x ≡ None
  boundary-alone x h e = ap (find (in_node g)) (hosts-alone (owner_depth x.owner) w x e) ∙ cond-false (in_node g x) (Some x) None h

  -- the way out of a node of the group is no step,
  exit-here : (x host : NodeName) → in_node g x ≡ true → boundary_host g w x ≡ Some host → HasExit x host
  exit-here x host h b =
      let both : Some x ≡ Some host = sym (boundary-here x h) ∙ b in
      let same : x ≡ host = cc in
      subst (HasExit x) same (record { inner = []; chain = refl; trees = tt; away = tt; inside = h })

  -- and that of a node outside begins with it, and goes on at the host above
  exit-above : (x host : NodeName) → Away x → boundary_host g w x ≡ Some host →
      ((up : NodeName) → IsBelow w x up → boundary_host g w up ≡ Some host → HasExit up host) → HasExit x host
  exit-above x host h b more = from (host_above w x) refl
    where
      from : (o : Option NodeName) → host_above w x ≡ o → HasExit x host
      from None e = let both : None ≡ Some host = sym (boundary-alone x h e) ∙ b in cc
      from (Some up) e =
          let below = below-host w i x up e in
          let k = more up below (sym (boundary-above x up h below) ∙ b) in
          record {
            inner = x ∷ k.inner;
            chain = chain-below w x up below ∙ ap (λ xs. x ∷ xs) k.chain;
            trees = (below.tree, k.trees);
            away = (h, k.away);
            inside = k.inside;
          }

  -- each node with a boundary host has one
  climb : (depth : ℕ) (x host : NodeName) → owner_depth x.owner ≤ depth → boundary_host g w x ≡ Some host → HasExit x host
  climb zero x host d b =
      by_cases (in_node g x) (λ h. exit-here x host h b)
      (λ h. exit-above x host h b (λ up below c. let deep = below.deeper in absurd (omega (arith, d, deep))))
  climb (suc depth) x host d b =
      by_cases (in_node g x) (λ h. exit-here x host h b)
      (λ h. exit-above x host h b (λ up below c. let deep = below.deeper in climb depth up host (omega (arith, d, deep)) c))

  -- any
  pub has-exit : (x host : NodeName) → boundary_host g w x ≡ Some host → HasExit x host
  has-exit x host b = climb (owner_depth x.owner) x host (omega arith) b

  -- A node without a boundary host has no node of the group in its chain.
  pub exit-away : (x : NodeName) → boundary_host g w x ≡ None → AllByRecursion Away (host_chain w x)
  exit-away x b = none-found (in_node g) (host_chain w x) b

  -- An event that goes out shows the group what one at that host shows.
  -- the path
  path-chain : (x : NodeName) → event_path w x None true ≡ flat_map (way_up w) (host_chain w x)
  path-chain x = uncut w x None (whole_path w x true) (all-from (λ y. ends_at w x None y ≡ false) (no_end w x) (whole_path w x true))

  -- with an exit
  path-exit : (x host : NodeName) → (k : HasExit x host) →
      event_path w x None true ≡ flat_map (way_up w) k.inner ++ flat_map (way_up w) (host_chain w host)
  path-exit x host k = path-chain x ∙ ap (flat_map (way_up w)) k.chain ∙ flat_map-append (way_up w) k.inner (host_chain w host)

  -- Of each chain of hosts something is seen: its last node is in no shadow tree.
  something-seen : (x y other : NodeName) →
      unwrap_or (find (λ z. not (is_hidden_from w y z)) (host_chain w x)) other ≡ unwrap_or (find (λ z. not (is_hidden_from w y z)) (host_chain w x)) x
  something-seen x y other =
      let k = has-chain w i x in
      let seen : NodeName → Bool = λ z. not (is_hidden_from w y z) in
      let last : seen k.last ≡ true = ap (λ (o : Option NodeName).
      not (is_some o && not (is_in name_eq (root_at w k.last) (shadow_including_ancestors w y)))) k.out in
      subst (λ xs. unwrap_or (find seen xs) other ≡ unwrap_or (find seen xs) x) (sym k.chain) (last-found seen k.inner k.last last other x)

  -- so it is seen as the host is
  retarget-exit : (x host y : NodeName) → HasExit x host → Inside g closed w i y → retarget w x y ≡ retarget w host y
  retarget-exit x host y k h =
      let seen : NodeName → Bool = λ z. not (is_hidden_from w y z) in
      let hidden : AllByRecursion (λ z. seen z ≡ false) k.inner =
      all-then (λ z. Away z × IsInTree w z.owner z) (λ z. seen z ≡ false)
      (λ z both. ap not (hidden-outside g closed w (ground g closed w i) z.owner y z h both.0 both.1)) k.inner
      (all-both Away (λ z. IsInTree w z.owner z) k.inner k.away k.trees) in
      ap (λ xs. unwrap_or (find seen xs) x) k.chain ∙ ap (λ o. unwrap_or o x) (find-past seen k.inner (host_chain w host) hidden)
      ∙ something-seen host y x

  -- the ways up inside are outside and in shadow trees
  inner-away : (x host : NodeName) → (k : HasExit x host) → AllByRecursion Away (flat_map (way_up w) k.inner)
  inner-away x host k =
      all-flat_map Away (way_up w) k.inner (all-then Away (λ y. AllByRecursion Away (way_up w y)) (way-outside g closed w (ground g closed w i)) k.inner k.away)

  -- in shadow trees
  inner-veiled : (x host : NodeName) → (k : HasExit x host) → AllByRecursion (IsInSome w) (flat_map (way_up w) k.inner)
  inner-veiled x host k =
      all-flat_map (IsInSome w) (way_up w) k.inner (all-then (λ y. IsInTree w y.owner y) (λ y. AllByRecursion (IsInSome w) (way_up w y)) up k.inner k.trees)
    where
      up : (y : NodeName) → IsInTree w y.owner y → AllByRecursion (IsInSome w) (way_up w y)
      up y t =
          all-flat_map (IsInSome w) (with_slots max_depth w) (ancestors_at w y)
          (all-then (IsInTree w y.owner) (λ z. AllByRecursion (IsInSome w) (with_slots max_depth w z))
          (λ z s. subst (AllByRecursion (IsInSome w)) (sym (slots-behind max_depth w z)) ((y.owner, s), slot_way-in_some max_depth w i z)) (ancestors_at w y)
          (ancestors-in_tree w i y.owner y t))

  -- the views
  pub views-exit : (x host : NodeName) → HasExit x host → filter (in_view g) (views w x None true) ≡ filter (in_view g) (views w host None true)
  views-exit x host k =
      let inner = flat_map (way_up w) k.inner in
      let outer = flat_map (way_up w) (host_chain w host) in
      let mine = filter (in_node g) outer in
      let kept : filter (in_node g) (inner ++ outer) ≡ mine =
      filter-append (in_node g) inner outer ∙ ap (λ xs. xs ++ mine) (filter_none (in_node g) inner (inner-away x host k)) in
      let hidden : (y : NodeName) → Inside g closed w i y →
      filter (λ z. not (is_hidden_from w y z)) (inner ++ outer) ≡ filter (λ z. not (is_hidden_from w y z)) outer =
      λ y h. filter-append (λ z. not (is_hidden_from w y z)) inner outer
      ∙ ap (λ xs. xs ++ filter (λ z. not (is_hidden_from w y z)) outer)
      (filter_none (λ z. not (is_hidden_from w y z)) inner
      (all-then (λ z. Away z × IsInSome w z) (λ z. not (is_hidden_from w y z) ≡ false) (λ z both. veiled-hidden g closed w i y h z (λ q. both.1) both.0) inner
      (all-both Away (IsInSome w) inner (inner-away x host k) (inner-veiled x host k)))) in
      let shown : NodeName → NodeName → List NodeName → View NodeName = λ y t q. record { node = y; target = t; related = None; path = q } in
      let at : (y : NodeName) → Inside g closed w i y → view_at w x None (inner ++ outer) y ≡ view_at w host None outer y =
      λ y h. ap (λ t. shown y t (filter (λ z. not (is_hidden_from w y z)) (inner ++ outer))) (retarget-exit x host y k h)
      ∙ ap (shown y (retarget w host y)) (hidden y h) in
      ap (λ path. filter (in_view g) (map (view_at w x None path) path)) (path-exit x host k)
      ∙ filter-map (in_view g) (view_at w x None (inner ++ outer)) (inner ++ outer) ∙ ap (map (view_at w x None (inner ++ outer))) kept
      ∙ map_same (view_at w x None (inner ++ outer)) (view_at w host None outer) mine
      (all-then (Inside g closed w i) (λ y. view_at w x None (inner ++ outer) y ≡ view_at w host None outer y) at mine
      (all-passed (Inside g closed w i) (in_node g) (λ y e. e) outer))
      ∙ sym (ap (λ path. filter (in_view g) (map (view_at w host None path) path)) (path-chain host)
      ∙ filter-map (in_view g) (view_at w host None outer) outer)
