-- In trees whose shadow trees lie in one another each event has a path, and only one. From a node the way goes through its slot, whose
-- tree lies one level further in, up to that tree's root, and on with the node's own parent: so by levels each way ends.
use Rattle.dom_path.proofs.Cited.{◌≡◌, ℕ, zero, suc, ◌≤◌, ◌<◌, ◌+◌, Bool, true, false, not, ◌||◌, List, [], ◌∷◌, drop, find, length, Option, Some, None, refl}
use Rattle.dom_path.proofs.Cited.{sym, ap, subst, ◌∙◌, arith, true≢false, is_some, option_map, if◌then◌else◌, ⊤, option_and_then, option_map_or, option_or}
use Rattle.dom_path.proofs.Cited.{cond-true, cond-false, NodeName, name_eq, first_of, slot_in, is_shadow, inclusive_ancestors, node_in, parent_of, root_of}
use Rattle.dom_path.proofs.Cited.{subtree, by_cases, NamedTrees, name_at, Has, Has-subtree, above-parent, above-present, Once, ShadowHost, HostsAreNodes}
use Rattle.dom_path.proofs.Cited.{host_named, root_named, ShadowTrees, shadows, slot_at, root-alone, root-parent, IsHosted, GoesUp, IsPath, EndsWithin}
use Rattle.dom_path.proofs.Cited.{host_above_at, event_parent_at, ends_at, is_empty_at, unless_ended}
use Rattle.dom_path.proofs.Steps.{slot-root, slot-has}

-- ---- levels

module _ (s : ShadowTrees) where
  -- how many shadow trees a node stands in, counted up to a number
  level : ℕ → NodeName → ℕ
  level zero x = 0
  level (suc d) x = option_map_or (λ host. suc (level d host)) (host_above_at s x) 0

  level-most : (d : ℕ) (x : NodeName) → level d x ≤ d
  unfolding level
  level-most zero x = omega arith
  level-most (suc d) x = by (λ host. level-most d host) (host_above_at s x)
    where
      by : ((host : NodeName) → level d host ≤ d) → (o : Option NodeName) → option_map_or (λ host. suc (level d host)) o 0 ≤ suc d
      by again None = omega arith
      by again (Some host) = let h = again host in omega (arith, h)

  -- counted further it is the same
  level-enough : (d e : ℕ) (x : NodeName) → EndsWithin s d x → d ≤ e → level e x ≡ level d x
  unfolding level
  level-enough zero zero x ends h = refl
  level-enough zero (suc e) x ends h = ap (λ o. option_map_or (λ host. suc (level e host)) o 0) ends
  level-enough (suc d) zero x ends h = absurd (omega (arith, h))
  level-enough (suc d) (suc e) x ends h = by (λ host g. level-enough d e host (ends host g) (omega (arith, h))) (host_above_at s x) refl
    where
      by : ((host : NodeName) → host_above_at s x ≡ Some host → level e host ≡ level d host) → (o : Option NodeName) → host_above_at s x ≡ o
          → option_map_or (λ host. suc (level e host)) o 0 ≡ option_map_or (λ host. suc (level d host)) o 0
      by again None g = refl
      by again (Some host) g = ap suc (again host g)

  -- nodes of one tree are on one level
  level-same : (d : ℕ) (x y : NodeName) → root_of s.trees x ≡ root_of s.trees y → level d x ≡ level d y
  unfolding level
  level-same zero x y e = refl
  level-same (suc d) x y e = ap (λ root. option_map_or (λ host. suc (level d host)) (s.host_of root) 0) e

  -- and a node is one level further in than its host
  level-host : (d : ℕ) (x host : NodeName) → EndsWithin s d x → host_above_at s x ≡ Some host → level d x ≡ suc (level d host)
  unfolding level
  level-host zero x host ends e = let both : None ≡ Some host = sym ends ∙ e in cc
  level-host (suc d) x host ends e =
      ap (λ o. option_map_or (λ host. suc (level d host)) o 0) e ∙ ap suc (sym (level-enough d (suc d) host (ends host e) (omega arith)))

-- ---- orbits

module _ (up : NodeName → Option NodeName) where
  -- the nodes behind x, each above the one before, and nothing above the last
  Orbit : NodeName → List NodeName → Type 0
  Orbit x [] = up x ≡ None
  Orbit x (y ∷ ys) = (up x ≡ Some y) × Orbit y ys

  -- the way from a node ends
  Ends : NodeName → Type 0
  Ends x = (xs : List NodeName) × Orbit x xs

  -- of a node that is there or not
  EndsIf : Option NodeName → Type 0
  EndsIf None = ⊤
  EndsIf (Some x) = Ends x

  ends-step : (x : NodeName) → EndsIf (up x) → Ends x
  unfolding Ends EndsIf Orbit
  ends-step x h = by (up x) refl h
    where
      by : (o : Option NodeName) → up x ≡ o → EndsIf o → Ends x
      by None e h = ([], e)
      by (Some y) e h = (y ∷ h.0, (e, h.1))

module _ (f : NamedTrees) (hosts : List ShadowHost) (once : Once f.trees) (depth : ℕ) (hosted : IsHosted f hosts depth)
    (host_there : (root host : NodeName) → host_named f.names hosts root ≡ Some host → Has f.trees host)
    (root_there : (host root : NodeName) → root_named f.names hosts host ≡ Some root → Has f.trees root)
    (composed : Bool) (top : NodeName) where
  abbrev s : ShadowTrees
  s = shadows f hosts

  abbrev up : NodeName → Option NodeName
  up = event_parent_at s composed top

  abbrev shadow : NodeName → Bool
  shadow x = is_shadow (node_in f.trees x).kind

  -- what comes behind a node, but for its slot
  plain : NodeName → Option NodeName
  plain x = if shadow x then up x else parent_of f.trees x

  -- of a shadow root its host, or none
  up-shadow : (x : NodeName) → shadow x ≡ true → EndsIf up (s.host_of x) → EndsIf up (up x)
  unfolding EndsIf
  up-shadow x e h =
      subst (EndsIf up) (sym (cond-true (shadow x) (if composed || not (name_eq x top) then s.host_of x else None)
      (option_or (slot_at s x) (parent_of f.trees x)) e)) (by (composed || not (name_eq x top)))
    where
      by : (b : Bool) → EndsIf up (if b then s.host_of x else None)
      by true = h
      by false = tt

  up-plain : (x : NodeName) → shadow x ≡ false → up x ≡ option_or (slot_at s x) (parent_of f.trees x)
  up-plain x e = cond-false (shadow x) (if composed || not (name_eq x top) then s.host_of x else None) (option_or (slot_at s x) (parent_of f.trees x)) e

  -- up a tree
  climb : {root : NodeName} → ((z : NodeName) → Has f.trees z → root_of f.trees z ≡ root → EndsIf up (plain z) → Ends up z) → EndsIf up (s.host_of root)
      → (path : List NodeName) {z : NodeName} → Has f.trees z → root_of f.trees z ≡ root → inclusive_ancestors f.trees z ≡ z ∷ path → Ends up z
  unfolding plain EndsIf
  climb again out [] {z} has of path = again z has of (by_cases (shadow z)
      (λ e. subst (EndsIf up) (sym (cond-true (shadow z) (up z) (parent_of f.trees z) e))
      (up-shadow z e (subst (λ y. EndsIf up (s.host_of y)) (sym of ∙ alone) out)))
      (λ e. subst (EndsIf up) (sym (cond-false (shadow z) (up z) (parent_of f.trees z) e ∙ none)) tt))
    where
      none : parent_of f.trees z ≡ None
      none = ap (λ p. first_of (drop 1 p)) path

      alone : root_of f.trees z ≡ z
      alone = root-alone f.trees z has none
  climb again out (p ∷ path) {z} has of is =
      let parent : parent_of f.trees z ≡ Some p = ap (λ p. first_of (drop 1 p)) is in
      let above = above-parent f.trees z p once has parent in
      let rest : inclusive_ancestors f.trees p ≡ p ∷ path = ap (drop 1) (sym above.0 ∙ is) in
      let further = climb again out path above.1 (sym (root-parent f.trees once z p has parent) ∙ of) rest in
      again z has of (by_cases (shadow z)
      (λ e. subst (EndsIf up) (sym (cond-true (shadow z) (up z) (parent_of f.trees z) e)) (up-shadow z e (loose parent (s.host_of z) refl)))
      (λ e. subst (EndsIf up) (sym (cond-false (shadow z) (up z) (parent_of f.trees z) e ∙ parent)) further))
    where
      loose : parent_of f.trees z ≡ Some p → (o : Option NodeName) → s.host_of z ≡ o → EndsIf up (s.host_of z)
      loose parent None e = subst (EndsIf up) (sym e) tt
      loose parent (Some host) e = let both : Some p ≡ None = sym parent ∙ hosted.roots z (ap is_some e) in cc

  -- a whole tree
  tree-ends : (x : NodeName) → Has f.trees x → ((z : NodeName) → Has f.trees z → root_of f.trees z ≡ root_of f.trees x → EndsIf up (plain z) → Ends up z)
      → EndsIf up (s.host_of (root_of f.trees x)) → Ends up x
  tree-ends x has again out = let path = above-present f.trees x has in climb again out path.0 has refl path.1

  -- The slot of a node, with its shadow root.
  record HasSlot (x y : NodeName) : Type 0 where
    parent : NodeName
    root : NodeName
    up_is : parent_of f.trees x ≡ Some parent
    attached : root_named f.names hosts parent ≡ Some root
    found : slot_in (subtree f.trees root) (node_in f.trees x) ≡ Some y

  has-slot : (x y : NodeName) → slot_at s x ≡ Some y → HasSlot x y
  has-slot x y e = by_parent (parent_of f.trees x) refl e
    where
      by_root : (p : NodeName) → parent_of f.trees x ≡ Some p → (o : Option NodeName) → root_named f.names hosts p ≡ o
          → option_and_then (λ r. slot_in (subtree f.trees r) (node_in f.trees x)) o ≡ Some y → HasSlot x y
      by_root p g None a h = cc
      by_root p g (Some r) a h = record { parent = p; root = r; up_is = g; attached = a; found = h }

      by_parent : (o : Option NodeName) → parent_of f.trees x ≡ o →
          option_and_then (λ r. slot_in (subtree f.trees r) (node_in f.trees x)) (option_and_then (root_named f.names hosts) o) ≡ Some y → HasSlot x y
      by_parent None g h = cc
      by_parent (Some p) g h = by_root p g (root_named f.names hosts p) refl h

  -- The way from a node with a slot.
  record Enters (x y : NodeName) : Type 0 where
    there : Has f.trees y
    out : s.host_of (root_of f.trees y) ≡ parent_of f.trees x
    in_further : level s depth y ≡ suc (level s depth x)

  enters : (x y : NodeName) → Has f.trees x → slot_at s x ≡ Some y → Enters x y
  enters x y has e =
      let k = has-slot x y e in
      let root = slot-root f hosts once x k.up_is k.attached (root_there k.parent k.root k.attached) e hosted in
      let above : host_above_at s y ≡ Some k.parent = ap s.host_of (sym root) ∙ hosted.theirs k.parent k.root k.attached in
      record {
        there = Has-subtree f.trees k.root y once (slot-has (subtree f.trees k.root) (node_in f.trees x) y k.found);
        out = above ∙ sym k.up_is;
        in_further = level-host s depth y k.parent (hosted.nested y) above ∙
            ap suc (level-same s depth k.parent x (sym (root-parent f.trees once x k.parent has k.up_is)));
      }

  -- from a node whose slot's way ends
  through : (x : NodeName) → EndsIf up (plain x) → ((y : NodeName) → slot_at s x ≡ Some y → EndsIf up (parent_of f.trees x) → Ends up y) → Ends up x
  unfolding plain EndsIf
  through x h slot = by_cases (shadow x)
      (λ e. ends-step up x (subst (EndsIf up) (cond-true (shadow x) (up x) (parent_of f.trees x) e) h))
      (λ e. ends-step up x (subst (EndsIf up) (sym (up-plain x e))
      (by (subst (EndsIf up) (cond-false (shadow x) (up x) (parent_of f.trees x) e) h) (slot_at s x) refl)))
    where
      by : EndsIf up (parent_of f.trees x) → (o : Option NodeName) → slot_at s x ≡ o → EndsIf up (option_or o (parent_of f.trees x))
      by h None e = h
      by h (Some y) e = slot y e h

  -- through the slots of a node that is so many levels above the innermost
  slot-ends : (k : ℕ) (x : NodeName) → Has f.trees x → depth ≤ level s depth x + k → EndsIf up (plain x) → Ends up x
  slot-ends zero x has room h = through x h
      (λ y e out. let further = (enters x y has e).in_further in let most = level-most s depth y in absurd (omega (arith, further, most, room)))
  slot-ends (suc k) x has room h = through x h (λ y e out. let g = enters x y has e in
      tree-ends y g.there
      (λ z there same plain_ends. slot-ends k z there
      (let further = g.in_further in let level_is = level-same s depth z y same in omega (arith, further, level_is, room)) plain_ends)
      (subst (EndsIf up) (sym g.out) out))

  -- from a node in no more shadow trees than this
  ways-end : (d : ℕ) (x : NodeName) → EndsWithin s d x → Has f.trees x → Ends up x
  unfolding EndsIf
  ways-end zero x ends has = tree-ends x has (λ z there same plain_ends. slot-ends depth z there (omega arith) plain_ends) (subst (EndsIf up) (sym ends) tt)
  ways-end (suc d) x ends has = tree-ends x has (λ z there same plain_ends. slot-ends depth z there (omega arith) plain_ends)
      (by (λ host e. ways-end d host (ends host e) (host_there (root_of f.trees x) host e)) (host_above_at s x) refl)
    where
      by : ((host : NodeName) → host_above_at s x ≡ Some host → Ends up host) → (o : Option NodeName) → host_above_at s x ≡ o → EndsIf up (host_above_at s x)
      by again None e = subst (EndsIf up) (sym e) tt
      by again (Some host) e = subst (EndsIf up) (sym e) (again host e)

-- ---- paths

module _ (s : ShadowTrees) (depth : ℕ) (target : NodeName) (related : Option NodeName) (composed : Bool) where
  -- an orbit up to where the path ends
  cut : (x : NodeName) (xs : List NodeName) → Orbit (event_parent_at s composed (root_of s.trees target)) x xs → (ys : List NodeName) ×
      GoesUp s depth target related composed x ys
  unfolding Orbit
  cut x [] e = ([], ap (option_and_then (unless_ended s depth target related)) e)
  cut x (y ∷ xs) h =
      let rest = cut y xs h.1 in
      let next = ap (option_and_then (unless_ended s depth target related)) h.0 in
      by_cases (ends_at s depth target related y)
      (λ e. ([], next ∙ ap (λ (b : Bool). if b then None else Some y) e))
      (λ e. (y ∷ rest.0, (next ∙ ap (λ (b : Bool). if b then None else Some y) e, rest.1)))

  -- so there is a path
  path-there : Ends (event_parent_at s composed (root_of s.trees target)) target → (nodes : List NodeName) × IsPath s depth target related composed nodes
  unfolding Ends
  path-there h =
      let rest = cut target h.0 h.1 in
      by_cases (is_empty_at s depth target related) (λ e. ([], e)) (λ e. (target ∷ rest.0, (e, refl, rest.1)))

  -- and only one
  up-once : (x : NodeName) (xs ys : List NodeName) → GoesUp s depth target related composed x xs → GoesUp s depth target related composed x ys → xs ≡ ys
  up-once x [] [] g h = refl
  up-once x [] (y ∷ ys) g h = let both : None ≡ Some y = sym g ∙ h.0 in cc
  up-once x (y ∷ xs) [] g h = let both : None ≡ Some y = sym h ∙ g.0 in cc
  up-once x (y ∷ xs) (z ∷ ys) g h =
      let both : Some y ≡ Some z = sym g.0 ∙ h.0 in
      let same : y ≡ z = cc in
      λ j. same j ∷ up-once y xs ys g.1 (subst (λ a. GoesUp s depth target related composed a ys) (sym same) h.1) j

  pub path-once : (xs ys : List NodeName) → IsPath s depth target related composed xs → IsPath s depth target related composed ys → xs ≡ ys
  path-once [] [] g h = refl
  path-once [] (y ∷ ys) g h = absurd (true≢false (sym g ∙ h.0))
  path-once (x ∷ xs) [] g h = absurd (true≢false (sym h ∙ g.0))
  path-once (x ∷ xs) (y ∷ ys) g h =
      let same = g.1 ∙ sym h.1 in
      λ j. same j ∷ up-once x xs ys g.2 (subst (λ a. GoesUp s depth target related composed a ys) (sym same) h.2) j

-- the hosts of a forest are its nodes, and their trees are nested no deeper than this
pub record HostsStand (f : NamedTrees) (hosts : List ShadowHost) (depth : ℕ) : Type 0 where
  pub hosted : IsHosted f hosts depth
  pub nodes : HostsAreNodes f.names hosts

module _ (f : NamedTrees) (there : ((k : ℕ) → k < length f.names → Has f.trees (name_at f.names k))) where
  module _ (key value : ShadowHost → ℕ) (within : (h : ShadowHost) → h.host < length f.names → h.root < length f.names → value h < length f.names) where
    -- one of two keys that is found among hosts by the other one is a node
    found-has : (hosts : List ShadowHost) → HostsAreNodes f.names hosts → (x y : NodeName) →
        option_map (λ (h : ShadowHost). name_at f.names (value h)) (find (λ (h : ShadowHost). name_eq x (name_at f.names (key h))) hosts) ≡ Some y →
        Has f.trees y
    found-has [] nodes x y e = cc
    found-has (h ∷ hosts) nodes x y e = by (name_eq x (name_at f.names (key h))) (λ k. found-has hosts nodes.2 x y k) e
      where
        by : (b : Bool) →
            (option_map (λ (k : ShadowHost). name_at f.names (value k)) (find (λ (k : ShadowHost). name_eq x (name_at f.names (key k))) hosts) ≡ Some y →
            Has f.trees y) → option_map (λ (k : ShadowHost). name_at f.names (value k))
            (if b then Some h else find (λ (k : ShadowHost). name_eq x (name_at f.names (key k))) hosts) ≡ Some y → Has f.trees y
        by true again k = let same : name_at f.names (value h) ≡ y = cc in subst (Has f.trees) same (there (value h) (within h nodes.0 nodes.1))
        by false again k = again k

  -- each node has its path
  pub paths-end : Once f.trees → {hosts : List ShadowHost} {depth : ℕ} → HostsStand f hosts depth → (k : ℕ) → k < length f.names →
      (related : Option NodeName) (composed : Bool) → (nodes : List NodeName) × IsPath (shadows f hosts) depth (name_at f.names k) related composed nodes
  paths-end once {hosts = hosts} {depth = depth} stand k node related composed =
      let t = name_at f.names k in
      path-there (shadows f hosts) depth t related composed
      (ways-end f hosts once depth stand.hosted (found-has (λ h. h.root) (λ h. h.host) (λ h host root. host) hosts stand.nodes)
      (found-has (λ h. h.host) (λ h. h.root) (λ h host root. root) hosts stand.nodes) composed (root_of f.trees t) depth t
      (stand.hosted.nested t) (there k node))
