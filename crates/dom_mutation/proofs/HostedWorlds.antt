-- The world of what is held with hosts: its hosts, and the components in a tree, are looked up in the list of hosts.
use Rattle.dom_mutation.proofs.Cited.{◌≡◌, ℕ, zero, suc, ◌+◌, ◌<◌, ◌≤◌, Bool, true, false, ltb, List, [], ◌∷◌, ◌++◌, Option, Some, None, filter_map, flat_map}
use Rattle.dom_mutation.proofs.Cited.{position, length, refl, sym, ap, subst, ◌∙◌, ◌⊎◌, inl, inr, arith, zero-add, find, if◌then◌else◌, slice_get, option_map}
use Rattle.dom_mutation.proofs.Cited.{AllByRecursion, cons_option, position_or_len, option_and_then, cases_Bool, lt-ltb, le-ltb, cases_lt, length-map}
use Rattle.dom_mutation.proofs.Cited.{same_Some, none-some, one-add, NodeName, Owner, Page, owner_eq, name_eq, Part, inclusive_descendants, MayAttach, part_of}
use Rattle.dom_mutation.proofs.Cited.{is_there, component_at, component_made, made_by, components_below, host_of, shadow_root_of, owner_eq-true, owner_eq-false}
use Rattle.dom_mutation.proofs.Cited.{made_by-is, made_by-made, name_eq-other, HasMakers, ShadowHost, host_named, root_named, IsShownBy, shadow_trees}
use Rattle.dom_mutation.proofs.Cited.{name_eq-from, name_at, trees_of_owner, read_own, Contents, world_of, maker_of, hosts_of, AreMadeBehind, host_names}
use Rattle.dom_mutation.proofs.Cited.{attached_of, host_owners, component_named, AreHostsOf}
use Rattle.dom_model.proofs.Model.{trees_with}
use Rattle.dom_mutation.proofs.HostsOfOwners.{count_hosts, own-host, other-host, own-counted, other-counted, made-named, single_owners_of}
use Rattle.dom_mutation.proofs.HostsOfOwners.{no_page-owners, may_of}
use Rattle.dom_mutation.proofs.Worlds.{In, Single, part_at, part_off, in_there}

-- ---- places in a list

module _ {X : Type 0} (p : X → Bool) (x : X) (xs : List X) where
  -- an item that passes is the first
  position-yes : p x ≡ true → position p (x ∷ xs) ≡ Some 0
  position-yes e = rw e (ap (λ b. if b then Some 0 else None) (lt-ltb 0 (length (x ∷ xs)) (omega arith)))

  -- else it is one among the others
  position-no : p x ≡ false → position p (x ∷ xs) ≡ option_map suc (position p xs)
  position-no e =
      rw e
      (ap (λ n. if ltb n (length (x ∷ xs)) then Some n else None) (one-add (position_or_len p xs))
      ∙ (ap (λ (b : Bool). if b then Some (suc (position_or_len p xs)) else None) (same (cases_lt (position_or_len p xs) (length xs))) ∙
      by (ltb (position_or_len p xs) (length xs))))
    where
      same : (position_or_len p xs < length xs) ⊎ (length xs ≤ position_or_len p xs) →
          ltb (suc (position_or_len p xs)) (length (x ∷ xs)) ≡ ltb (position_or_len p xs) (length xs)
      same (inl h) = lt-ltb (suc (position_or_len p xs)) (length (x ∷ xs)) (omega arith) ∙ sym (lt-ltb (position_or_len p xs) (length xs) h)
      same (inr h) = le-ltb (suc (position_or_len p xs)) (length (x ∷ xs)) (omega arith) ∙ sym (le-ltb (position_or_len p xs) (length xs) h)

      by : (b : Bool) → (if b then Some (suc (position_or_len p xs)) else None) ≡ option_map suc (if b then Some (position_or_len p xs) else None)
      by true = refl
      by false = refl

-- ---- the list of hosts

module _ (names : List NodeName) where
  -- the component of a node, from that many on, by its place among these
  abbrev among : NodeName → ℕ → List NodeName → Option Owner
  among x n xs = option_map (λ j. component_made x.owner (n + j)) (position (name_eq x) xs)

  -- the component of a host is that of its place among its owner's hosts
  component_from : (earlier hosts : List ShadowHost) (x : NodeName) → AreMadeBehind names earlier hosts → component_named names hosts x ≡
      option_map (λ j. component_made x.owner (count_hosts names earlier x.owner + j)) (position (name_eq x) (attached_of names hosts x.owner))
  component_from earlier [] x made = refl
  component_from earlier (h ∷ hosts) x made =
      at (cases_Bool (owner_eq (maker_of names h) x.owner)) (cases_Bool (name_eq x (name_at names h.host)))
      (component_from (earlier ++ h ∷ []) hosts x made.1)
    where
      looked : (b : Bool) → name_eq x (name_at names h.host) ≡ b → component_named names (h ∷ hosts) x ≡
          (if b then Some h.owner else component_named names hosts x)
      looked true e = ap (λ (b : Bool). option_map (λ (g : ShadowHost). g.owner) (if b then Some h else find (λ g. name_eq x (name_at names g.host)) hosts)) e
      looked false e = ap (λ (b : Bool). option_map (λ (g : ShadowHost). g.owner) (if b then Some h else find (λ g. name_eq x (name_at names g.host)) hosts)) e

      next : (n : ℕ) (m : Option ℕ) → option_map (λ j. component_made x.owner (suc n + j)) m ≡
          option_map (λ j. component_made x.owner (n + j)) (option_map suc m)
      next n None = refl
      next n (Some j) = let same : suc n + j ≡ n + suc j = omega arith in ap (λ i. Some (component_made x.owner i)) same

      at : (owner_eq (maker_of names h) x.owner ≡ true) ⊎ (owner_eq (maker_of names h) x.owner ≡ false)
          → (name_eq x (name_at names h.host) ≡ true) ⊎ (name_eq x (name_at names h.host) ≡ false)
          → component_named names hosts x ≡ among x (count_hosts names (earlier ++ h ∷ []) x.owner) (attached_of names hosts x.owner)
          → component_named names (h ∷ hosts) x ≡ among x (count_hosts names earlier x.owner) (attached_of names (h ∷ hosts) x.owner)
      at (inl e) (inl hit) deeper =
          let same = owner_eq-true (maker_of names h) x.owner e in
          let first : count_hosts names earlier x.owner ≡ count_hosts names earlier x.owner + 0 = omega arith in
          looked true hit
          ∙ (ap (λ q. Some q) (made.0.owner ∙ (ap (λ (m : Owner). component_made m (count_hosts names earlier m)) same ∙ ap (component_made x.owner) first))
          ∙ (sym (ap (option_map (λ j. component_made x.owner (count_hosts names earlier x.owner + j)))
          (position-yes (name_eq x) (name_at names h.host) (attached_of names hosts x.owner) hit))
          ∙ sym (ap (λ hs. among x (count_hosts names earlier x.owner) (host_names names hs)) (own-host names h hosts x.owner e))))
      at (inl e) (inr miss) deeper =
          looked false miss
          ∙ (deeper
          ∙ (ap (λ n. among x n (attached_of names hosts x.owner)) (own-counted names earlier h x.owner e)
          ∙ (next (count_hosts names earlier x.owner) (position (name_eq x) (attached_of names hosts x.owner))
          ∙ (sym (ap (option_map (λ j. component_made x.owner (count_hosts names earlier x.owner + j)))
          (position-no (name_eq x) (name_at names h.host) (attached_of names hosts x.owner) miss))
          ∙ sym (ap (λ hs. among x (count_hosts names earlier x.owner) (host_names names hs)) (own-host names h hosts x.owner e))))))
      at (inr e) hit deeper =
          looked false (name_eq-other x (name_at names h.host)
          (λ same. owner_eq-false (maker_of names h) x.owner e (ap (λ (y : NodeName). y.owner) (sym same))))
          ∙ (deeper
          ∙ (ap (λ n. among x n (attached_of names hosts x.owner)) (other-counted names earlier h x.owner e)
          ∙ sym (ap (λ hs. among x (count_hosts names earlier x.owner) (host_names names hs)) (other-host names h hosts x.owner e))))

  -- the shadow root of a host is its component's
  pub root-component : (earlier hosts : List ShadowHost) (x : NodeName) → AreMadeBehind names earlier hosts →
      root_named names hosts x ≡ option_map shadow_root_of (component_named names hosts x)
  root-component earlier [] x made = refl
  root-component earlier (h ∷ hosts) x made =
      (λ j. picked (name_eq x (name_at names h.host)) (λ g. name_at names g.root) j)
      ∙ ((λ j. if name_eq x (name_at names h.host) then Some (made.0.root j) else root-component (earlier ++ h ∷ []) hosts x made.1 j)
      ∙ (chosen (name_eq x (name_at names h.host)) ∙ sym (ap (option_map shadow_root_of) (picked (name_eq x (name_at names h.host)) (λ g. g.owner)))))
    where
      picked : {A : Type 0} (b : Bool) (f : ShadowHost → A) →
          option_map f (if b then Some h else find (λ g. name_eq x (name_at names g.host)) hosts) ≡
          (if b then Some (f h) else option_map f (find (λ g. name_eq x (name_at names g.host)) hosts))
      picked true f = refl
      picked false f = refl

      chosen : (b : Bool) → (if b then Some (shadow_root_of h.owner) else option_map shadow_root_of (component_named names hosts x)) ≡ option_map
          shadow_root_of (if b then Some h.owner else component_named names hosts x)
      chosen true = refl
      chosen false = refl

  -- a node that is the shadow root of no component that was made has no host
  host_none : (earlier hosts : List ShadowHost) (x : NodeName) → AreMadeBehind names earlier hosts →
      ((m : Owner) (k : ℕ) → MayAttach m → x ≡ shadow_root_of (component_made m k) → ⊥) → host_named names hosts x ≡ None
  host_none earlier [] x made other = refl
  host_none earlier (h ∷ hosts) x made other =
      let miss = name_eq-other x (name_at names h.root) (λ e. other (maker_of names h) (count_hosts names earlier (maker_of names h)) made.0.maker
      (e ∙ (made.0.root ∙ ap shadow_root_of made.0.owner))) in
      ap (λ (b : Bool). option_map (λ (g : ShadowHost). name_at names g.host)
      (if b then Some h else find (λ g. name_eq x (name_at names g.root)) hosts)) miss ∙ host_none (earlier ++ h ∷ []) hosts x made.1 other

  -- the host of a component is at its place among its maker's
  host_from : (earlier hosts : List ShadowHost) (o : Owner) {m : Owner} (i : ℕ) → made_by o ≡ Some (m, count_hosts names earlier m + i) →
      AreMadeBehind names earlier hosts → host_named names hosts (shadow_root_of o) ≡ slice_get (attached_of names hosts m) i
  host_from earlier [] o i named made = refl
  host_from earlier (h ∷ hosts) o {m} i named made =
      at (cases_Bool (owner_eq (maker_of names h) m)) i named (λ j again. host_from (earlier ++ h ∷ []) hosts o j again made.1)
    where
      looked : (b : Bool) → name_eq (shadow_root_of o) (name_at names h.root) ≡ b → host_named names (h ∷ hosts) (shadow_root_of o) ≡
          (if b then Some (name_at names h.host) else host_named names hosts (shadow_root_of o))
      looked true e = ap (λ (b : Bool). option_map (λ (g : ShadowHost). name_at names g.host)
          (if b then Some h else find (λ g. name_eq (shadow_root_of o) (name_at names g.root)) hosts)) e
      looked false e = ap (λ (b : Bool). option_map (λ (g : ShadowHost). name_at names g.host)
          (if b then Some h else find (λ g. name_eq (shadow_root_of o) (name_at names g.root)) hosts)) e

      -- where it is another component it is not this host
      missed : (j : ℕ) → made_by o ≡ Some (m, count_hosts names earlier m + j) →
          ((maker_of names h ≡ m) → count_hosts names earlier (maker_of names h) ≡ count_hosts names earlier m + j → ⊥) →
          name_eq (shadow_root_of o) (name_at names h.root) ≡ false
      missed j named other = name_eq-other (shadow_root_of o) (name_at names h.root) (λ same.
          let both = same_Some (maker_of names h, count_hosts names earlier (maker_of names h)) (m, count_hosts names earlier m + j)
          (sym (made-named names earlier h made.0) ∙ (ap made_by (sym (ap (λ (y : NodeName). y.owner) (same ∙ made.0.root))) ∙ named)) in
          other (ap (λ (p : Owner × ℕ). p.0) both) (ap (λ (p : Owner × ℕ). p.1) both))

      at : (owner_eq (maker_of names h) m ≡ true) ⊎ (owner_eq (maker_of names h) m ≡ false)
          → (j : ℕ) → made_by o ≡ Some (m, count_hosts names earlier m + j)
          → ((k : ℕ) → made_by o ≡ Some (m, count_hosts names (earlier ++ h ∷ []) m + k) →
          host_named names hosts (shadow_root_of o) ≡ slice_get (attached_of names hosts m) k)
          → host_named names (h ∷ hosts) (shadow_root_of o) ≡ slice_get (attached_of names (h ∷ hosts) m) j
      at (inl e) zero named deeper =
          let same = owner_eq-true (maker_of names h) m e in
          let first : count_hosts names earlier m + 0 ≡ count_hosts names earlier m = omega arith in
          let is : o ≡ h.owner = sym (made_by-is o m (count_hosts names earlier m + 0) named)
          ∙ (ap (component_made m) first ∙ (ap (λ (q : Owner). component_made q (count_hosts names earlier q)) (sym same) ∙ sym made.0.owner)) in
          looked true (name_eq-from (shadow_root_of o) (name_at names h.root) (ap shadow_root_of is ∙ sym made.0.root))
          ∙ sym (ap (λ hs. slice_get (host_names names hs) 0) (own-host names h hosts m e))
      at (inl e) (suc j) named deeper =
          let one_more = own-counted names earlier h m e in
          let later : count_hosts names earlier m + suc j ≡ count_hosts names (earlier ++ h ∷ []) m + j = omega (arith, one_more) in
          looked false (missed (suc j) named (λ same number.
          let here = ap (count_hosts names earlier) same in omega (arith, here, number)))
          ∙ (deeper j (named ∙ ap (λ n. Some (m, n)) later)
          ∙ sym (ap (λ hs. slice_get (host_names names hs) (suc j)) (own-host names h hosts m e)))
      at (inr e) j named deeper =
          let as_many = other-counted names earlier h m e in
          let later : count_hosts names earlier m + j ≡ count_hosts names (earlier ++ h ∷ []) m + j = omega (arith, as_many) in
          looked false (missed j named (λ same number. owner_eq-false (maker_of names h) m e same))
          ∙ (deeper j (named ∙ ap (λ n. Some (m, n)) later)
          ∙ sym (ap (λ hs. slice_get (host_names names hs) j) (other-host names h hosts m e)))

  -- a component that is found is one of the owners
  component_in : (hosts : List ShadowHost) (x : NodeName) (o : Owner) → component_named names hosts x ≡ Some o → In o (host_owners hosts)
  component_in [] x o e = cc
  component_in (h ∷ hosts) x o e = by (name_eq x (name_at names h.host)) refl (component_in hosts x o)
    where
      by : (b : Bool) → name_eq x (name_at names h.host) ≡ b → (component_named names hosts x ≡ Some o → In o (host_owners hosts)) →
          In o (host_owners (h ∷ hosts))
      by true i deeper =
          let found : Some h.owner ≡ Some o =
          sym (ap (λ (b : Bool). option_map (λ (g : ShadowHost). g.owner)
          (if b then Some h else find (λ g. name_eq x (name_at names g.host)) hosts)) i) ∙ e in
          inl cc
      by false i deeper = inr (deeper (sym
          (ap (λ (b : Bool). option_map (λ (g : ShadowHost). g.owner) (if b then Some h else find (λ g. name_eq x (name_at names g.host)) hosts))
          i) ∙ e))

-- ---- the world

module _ (c : Contents) (hosts : List ShadowHost) (held : AreHostsOf c hosts) where
  -- each owner stands there once
  pub single_hosted : Single c.owners
  single_hosted = subst Single (sym held.owners) (no_page-owners c.names [] hosts held.made, single_owners_of c.names [] hosts held.made)

  -- the page is there
  pub page_hosted : is_there (world_of c) Page ≡ true
  page_hosted = in_there c Page (subst (In Page) (sym held.owners) (inl refl))

  -- and so is each component
  pub component_hosted : (o : Owner) → In o (host_owners hosts) → is_there (world_of c) o ≡ true
  component_hosted o i = in_there c o (subst (In o) (sym held.owners) (inr i))

  -- the hosts of each owner
  pub attached_hosted : (o : Owner) → (part_of (world_of c) o).attached ≡ attached_of c.names hosts o
  attached_hosted o = elim (cases_Bool (is_there (world_of c) o)) [
    | inl there ↦ ap (λ (p : Part). p.attached) (part_at c o there) ∙ held.attached o
    | inr off ↦ ap (λ (p : Part). p.attached) (part_off c o off) ∙ sym (sym (held.attached o) ∙ held.unhosted o off)
  ]

  -- whoever has some may attach
  pub makers_hosted : HasMakers (world_of c)
  makers_hosted o some = may_of c.names o [] hosts held.made
      (let as_many = ap length (attached_hosted o) in let named = length-map (hosts_of c.names hosts o) (λ h. name_at c.names h.host) in
      omega (arith, some, as_many, named))

  -- an owner's trees
  pub trees_hosted : (o : Owner) → (part_of (world_of c) o).trees ≡ trees_of_owner o c.trees
  trees_hosted o = elim (cases_Bool (is_there (world_of c) o)) [
    | inl there ↦ ap (λ (p : Part). p.trees) (part_at c o there)
    | inr off ↦ ap (λ (p : Part). p.trees) (part_off c o off) ∙ sym (held.absent o off)
  ]

  -- the component at a node, looked up among the hosts
  pub component_looked : (x : NodeName) → component_at (world_of c) x ≡ component_named c.names hosts x
  component_looked x =
      ap (λ xs. option_map (component_made x.owner) (position (name_eq x) xs)) (attached_hosted x.owner)
      ∙ (first (position (name_eq x) (attached_of c.names hosts x.owner)) ∙ sym (component_from c.names [] hosts x held.made))
    where
      first : (o : Option ℕ) → option_map (component_made x.owner) o ≡ option_map (λ j. component_made x.owner (0 + j)) o
      first None = refl
      first (Some j) = ap (λ i. Some (component_made x.owner i)) (sym (zero-add j))

  -- the host of a component's shadow root, looked up too
  pub host_looked : (o : Owner) → host_of (world_of c) o ≡ host_named c.names hosts (shadow_root_of o)
  host_looked o = by (made_by o) refl
    where
      by : (m : Option (Owner × ℕ)) → made_by o ≡ m → host_of (world_of c) o ≡ host_named c.names hosts (shadow_root_of o)
      by None e =
          ap (option_and_then (λ (m : Owner × ℕ). slice_get (part_of (world_of c) m.0).attached m.1)) e
          ∙ sym (host_none c.names [] hosts (shadow_root_of o) held.made (λ maker k may same.
          none-some (maker, k) (sym e ∙ (ap (λ (y : NodeName). made_by y.owner) same ∙ made_by-made maker k may))))
      by (Some (maker, k)) e =
          ap (option_and_then (λ (m : Owner × ℕ). slice_get (part_of (world_of c) m.0).attached m.1)) e
          ∙ (ap (λ xs. slice_get xs k) (attached_hosted maker)
          ∙ sym (host_from c.names [] hosts o k (e ∙ ap (λ n. Some (maker, n)) (sym (zero-add k))) held.made))

  -- The world has just these trees and hosts: so its slots, assigned nodes and signals are those of the hosts
  -- (`law_slots_are_of_worlds` of dom_slots).
  pub world_shown : IsShownBy (shadow_trees c.names c.trees hosts) (world_of c)
  world_shown = record {
    trees = trees_hosted;
    owned = held.owned;
    roots = λ x. root-component c.names [] hosts x held.made ∙ sym (ap (option_map shadow_root_of) (component_looked x));
    hosts = λ o. sym (host_looked o);
    only = λ x other. host_none c.names [] hosts x held.made (λ m k may e. other (e ∙ ap (λ (y : NodeName). shadow_root_of y.owner) (sym e)));
  }

  -- the components of the hosts in the tree of a node
  pub near_looked : (x : NodeName) → filter_map (component_at (world_of c)) (inclusive_descendants (trees_with (world_of c) x) x) ≡
      filter_map (component_named c.names hosts) (inclusive_descendants c.trees x)
  near_looked x =
      (λ j. filter_map (λ y. component_looked y j) (inclusive_descendants (trees_hosted x.owner j) x)) ∙
      ap (filter_map (component_named c.names hosts)) (sym (read_own c.trees held.owned x.owner x refl).inside)

  -- each of them is there
  near_there : (ys : List NodeName) → AllByRecursion (λ o. is_there (world_of c) o ≡ true) (filter_map (component_named c.names hosts) ys)
  near_there [] = tt
  near_there (y ∷ ys) = by (component_named c.names hosts y) refl (near_there ys)
    where
      by : (m : Option Owner) → component_named c.names hosts y ≡ m →
          AllByRecursion (λ o. is_there (world_of c) o ≡ true) (filter_map (component_named c.names hosts) ys) →
          AllByRecursion (λ o. is_there (world_of c) o ≡ true) (cons_option m (filter_map (component_named c.names hosts) ys))
      by None e rest = rest
      by (Some o) e rest = (component_hosted o (component_in c.names hosts y o e), rest)

  -- and so is each below a node, at any depth
  there_both : (os ps : List Owner) → AllByRecursion (λ o. is_there (world_of c) o ≡ true) os → AllByRecursion (λ o. is_there (world_of c) o ≡ true) ps →
      AllByRecursion (λ o. is_there (world_of c) o ≡ true) (os ++ ps)
  there_both [] ps h g = g
  there_both (o ∷ os) ps h g = (h.0, there_both os ps h.1 g)

  there_each : (f : Owner → List Owner) → ((o : Owner) → AllByRecursion (λ p. is_there (world_of c) p ≡ true) (f o)) → (os : List Owner) →
      AllByRecursion (λ o. is_there (world_of c) o ≡ true) os → AllByRecursion (λ o. is_there (world_of c) o ≡ true) (flat_map (λ o. o ∷ f o) os)
  there_each f deeper [] h = tt
  there_each f deeper (o ∷ os) h = there_both (o ∷ f o) (flat_map (λ p. p ∷ f p) os) (h.0, deeper o) (there_each f deeper os h.1)

  pub below_there : (depth : ℕ) (x : NodeName) → AllByRecursion (λ o. is_there (world_of c) o ≡ true) (components_below depth (world_of c) x)
  below_there zero x = tt
  below_there (suc depth) x =
      there_each (λ o. components_below depth (world_of c) (shadow_root_of o)) (λ o. below_there depth (shadow_root_of o))
      (filter_map (component_at (world_of c)) (inclusive_descendants (trees_with (world_of c) x) x))
      (subst (AllByRecursion (λ o. is_there (world_of c) o ≡ true)) (sym (near_looked x)) (near_there (inclusive_descendants c.trees x)))
