-- A node is connected where the last root is a document that is found by going up from its root: from a root to its host, and
-- to the root of that one's tree.
use Rattle.dom_mutation.proofs.Cited.{◌≡◌, ℕ, ◌<◌, ◌≤◌, zero, suc, Bool, true, false, List, [], ◌∷◌, ◌++◌, length, Option, Some, None, flat_map, unwrap_or}
use Rattle.dom_mutation.proofs.Cited.{refl, sym, ap, subst, ◌∙◌, inl, inr, arith, option_to_list, count_by, option_and_then, option_map_or, cases_Bool}
use Rattle.dom_mutation.proofs.Cited.{true≢false, append-nil, last_or, NodeName, Owner, name_eq, last_of, owner_depth, Trees, Node, nodes, inclusive_ancestors}
use Rattle.dom_mutation.proofs.Cited.{kind_of, is_document, root_of, times_in, World, part_of, host_of, host_above, some_if, shadow_root_of, hosts_from}
use Rattle.dom_mutation.proofs.Cited.{ancestors_at, kind_at, root_at, is_connected, name_eq-true, host_named, ShadowTrees, IsShownBy, shadows, host-key}
use Rattle.dom_mutation.proofs.Cited.{name_eq-from, times_count, path_gone, NamedTrees, name_at, read_own, stays_own, AllTables, IsDoc, contents, world_from}
use Rattle.dom_mutation.proofs.Cited.{outermost_root}
use Rattle.dom_mutation.proofs.DocInvariant.{are_hosts}
use Rattle.dom_mutation.proofs.HostedWorlds.{world_shown}

-- ---- the host of a node's root

kept_if : {X : Type 0} (o : Option X) (b : Bool) → b ≡ true → option_and_then (some_if b) o ≡ o
kept_if None b e = refl
kept_if (Some x) b e = ap (λ c. some_if c x) e

dropped_if : {X : Type 0} (o : Option X) (b : Bool) → b ≡ false → option_and_then (some_if b) o ≡ None
dropped_if None b e = refl
dropped_if (Some x) b e = ap (λ c. some_if c x) e

host_shown : (s : ShadowTrees) (w : World) → IsShownBy s w → (x : NodeName) → host_above w x ≡ s.host_of (root_of s.trees x)
host_shown s w shown x =
    let r = root_of s.trees x in
    let o = host_of w x.owner in
    let its = shadow_root_of x.owner in
    let root : root_at w x ≡ r = ap (λ (ts : Trees). root_of ts x) (shown.trees x.owner) ∙ sym (read_own s.trees shown.owned x.owner x refl).root in
    ap (λ y. option_and_then (some_if (name_eq y its)) o) root ∙ elim (cases_Bool (name_eq r its)) [
      | inl e ↦ kept_if o (name_eq r its) e ∙ (sym (shown.hosts x.owner) ∙ ap s.host_of (sym (name_eq-true r its e)))
      | inr e ↦
          let owner : r.owner ≡ x.owner = (stays_own s.trees shown.owned x.owner x refl).root in
          dropped_if o (name_eq r its) e ∙ sym (shown.only r (λ same. true≢false (sym (name_eq-from r its (same ∙ ap shadow_root_of owner)) ∙ e)))
    ]

-- ---- the last of the shadow-including ancestors

last_behind : {X : Type 0} (o : Option X) (xs : List X) (y : X) (ys : List X) → last_or o (xs ++ y ∷ ys) ≡ last_or (Some y) ys
last_behind o [] y ys = refl
last_behind o (x ∷ xs) y ys = last_behind (Some x) xs y ys

last_same : {X : Type 0} (y : X) (ys : List X) (a b : X) → unwrap_or (last_or (Some y) ys) a ≡ unwrap_or (last_or (Some y) ys) b
last_same y [] a b = refl
last_same y (z ∷ ys) a b = last_same z ys a b

module _ (w : World) where
  -- whether the last of the shadow-including ancestors is a document, where a chain of hosts is so long at most
  abbrev connected_from : ℕ → NodeName → Bool
  connected_from depth x = is_document (kind_at w (unwrap_or (last_of (flat_map (ancestors_at w) (hosts_from depth w x))) x))

  -- without a host the chain is the node alone, so it is the root
  from_alone : (depth : ℕ) (x : NodeName) → hosts_from depth w x ≡ x ∷ [] → connected_from depth x ≡ is_document (kind_at w (root_at w x))
  from_alone depth x alone =
      ap (λ (path : List NodeName). is_document (kind_at w (unwrap_or (last_of path) x)))
      (ap (flat_map (ancestors_at w)) alone ∙ append-nil (ancestors_at w x))

  -- a chain begins with its node
  chain_begins : (depth : ℕ) (x : NodeName) → (rest : List NodeName) × (hosts_from depth w x ≡ x ∷ rest)
  chain_begins zero x = ([], refl)
  chain_begins (suc depth) x = (flat_map (hosts_from depth w) (option_to_list (host_above w x)), refl)

  -- with a host it is that of the host
  from_host : (depth : ℕ) (x : NodeName) {h a : NodeName} {path : List NodeName} → host_above w x ≡ Some h → ancestors_at w h ≡ a ∷ path →
      connected_from (suc depth) x ≡ connected_from depth h
  from_host depth x {h} {a} {path} above stands =
      ap (λ (hs : List NodeName). is_document (kind_at w (unwrap_or (last_of (flat_map (ancestors_at w) hs)) x))) chain
      ∙ (ap (λ (p : List NodeName). is_document (kind_at w (unwrap_or (last_of (ancestors_at w x ++ p)) x))) behind
      ∙ (ap (λ (o : Option NodeName). is_document (kind_at w (unwrap_or o x))) (last_behind None (ancestors_at w x) a later)
      ∙ (ap (λ y. is_document (kind_at w y)) (last_same a later x h) ∙
      sym (ap (λ (p : List NodeName). is_document (kind_at w (unwrap_or (last_of p) h))) behind))))
    where
      begins : (rest : List NodeName) × (hosts_from depth w h ≡ h ∷ rest)
      begins = chain_begins depth h

      later : List NodeName
      later = path ++ flat_map (ancestors_at w) begins.0

      chain : hosts_from (suc depth) w x ≡ x ∷ hosts_from depth w h
      chain = ap (λ (g : Option NodeName). x ∷ flat_map (hosts_from depth w) (option_to_list g)) above ∙
          ap (λ (hs : List NodeName). x ∷ hs) (append-nil (hosts_from depth w h))

      behind : flat_map (ancestors_at w) (hosts_from depth w h) ≡ a ∷ later
      behind = ap (flat_map (ancestors_at w)) begins.1 ∙ ap (λ (p : List NodeName). p ++ flat_map (ancestors_at w) begins.0) stands

-- ---- up from a root, from host to host

module _ (s : ShadowTrees) where
  -- a root without a host is the last
  pub outermost_none : (depth : ℕ) (r : NodeName) → s.host_of r ≡ None → outermost_root s depth r ≡ r
  outermost_none zero r e = refl
  outermost_none (suc depth) r e = ap (λ (o : Option NodeName). option_map_or (λ h. outermost_root s depth (root_of s.trees h)) o r) e

  -- from another one it goes on at the root of its host
  pub outermost_some : (depth : ℕ) (r h : NodeName) → s.host_of r ≡ Some h → outermost_root s (suc depth) r ≡ outermost_root s depth (root_of s.trees h)
  outermost_some depth r h e = ap (λ (o : Option NodeName). option_map_or (λ g. outermost_root s depth (root_of s.trees g)) o r) e

module _ (s : ShadowTrees) (w : World) (shown : IsShownBy s w) (stands : (r h : NodeName) → s.host_of r ≡ Some h → 1 ≤ times_in s.trees h) where
  root_kind : (x : NodeName) → is_document (kind_at w (root_at w x)) ≡ is_document (kind_of s.trees (root_of s.trees x))
  root_kind x =
      let o = x.owner in
      let y = root_of s.trees x in
      let own = sym (shown.trees o) in
      let root : y ≡ root_at w x = (read_own s.trees shown.owned o x refl).root ∙ ap (λ (ts : Trees). root_of ts x) own in
      let of : y.owner ≡ o = (stays_own s.trees shown.owned o x refl).root in
      let kind : kind_of s.trees y ≡ kind_of (part_of w o).trees y =
      ap (λ (n : Node). n.kind) (read_own s.trees shown.owned o y of).node ∙ ap (λ (ts : Trees). kind_of ts y) own in
      ap (λ (z : NodeName). is_document (kind_at w z)) (sym root)
      ∙ ap (λ (p : Owner). is_document (kind_of (part_of w p).trees y)) of
      ∙ ap is_document (sym kind)

  -- the shadow-including root is the one that is found so
  connected_above : (depth : ℕ) (x : NodeName) → connected_from w depth x ≡ is_document (kind_of s.trees (outermost_root s depth (root_of s.trees x)))
  connected_above zero x = from_alone w 0 x refl ∙ root_kind x
  connected_above (suc depth) x = by (connected_above depth) (host_above w x) refl
    where
      by : ((y : NodeName) → connected_from w depth y ≡ is_document (kind_of s.trees (outermost_root s depth (root_of s.trees y)))) →
          (o : Option NodeName) → host_above w x ≡ o →
          connected_from w (suc depth) x ≡ is_document (kind_of s.trees (outermost_root s (suc depth) (root_of s.trees x)))
      by above None e =
          from_alone w (suc depth) x (ap (λ (g : Option NodeName). x ∷ flat_map (hosts_from depth w) (option_to_list g)) e)
          ∙ (root_kind x
          ∙ ap (λ r. is_document (kind_of s.trees r)) (sym (outermost_none s (suc depth) (root_of s.trees x) (sym (host_shown s w shown x) ∙ e))))
      by above (Some h) e = at (inclusive_ancestors s.trees h) refl
        where
          host : s.host_of (root_of s.trees x) ≡ Some h
          host = sym (host_shown s w shown x) ∙ e

          at : (path : List NodeName) → inclusive_ancestors s.trees h ≡ path →
              connected_from w (suc depth) x ≡ is_document (kind_of s.trees (outermost_root s (suc depth) (root_of s.trees x)))
          at [] i = let there = stands (root_of s.trees x) h host in let gone = path_gone s.trees h i in absurd (omega (arith, there, gone))
          at (a ∷ path) i =
              from_host w depth x e
              (ap (λ (ts : Trees). inclusive_ancestors ts h) (shown.trees h.owner) ∙ (sym (read_own s.trees shown.owned h.owner h refl).path ∙ i))
              ∙ (above h ∙ ap (λ r. is_document (kind_of s.trees r)) (sym (outermost_some s depth (root_of s.trees x) h host)))

-- ---- in what is held

pub connected_held : (f : NamedTrees) {tables : AllTables} → IsDoc f.names f.trees tables →
    ((k : ℕ) → k < length f.names → count_by (λ n. name_eq n.name (name_at f.names k)) (nodes f.trees) ≡ 1) → (x : NodeName) →
    is_connected (world_from f.names f.trees tables) x ≡ is_document (kind_of f.trees (outermost_root (shadows f tables.slots.hosts)
    (owner_depth x.owner) (root_of f.trees x)))
connected_held f {tables} held once x =
    connected_above (shadows f tables.slots.hosts) (world_from f.names f.trees tables)
    (world_shown (contents f.names f.trees tables) tables.slots.hosts (are_hosts f.names f.trees tables held)) stands (owner_depth x.owner) x
  where
    stands : (r h : NodeName) → host_named f.names tables.slots.hosts r ≡ Some h → 1 ≤ times_in f.trees h
    stands r h e =
        let is = host-key f.names tables.slots.hosts held.signals.slots.hosts r h e in
        let times = times_count f.trees (name_at f.names is.0) in
        let one = once is.0 is.1 in
        subst (λ (y : NodeName). 1 ≤ times_in f.trees y) is.2 (omega (arith, times, one))
