-- The trees on an event's way by keys, and what is seen from them, are those by names.
use Rattle.dom_path.proofs.Cited.{◌≡◌, ℕ, zero, suc, ◌<◌, Bool, true, false, not, ◌&&◌, ◌||◌, List, [], ◌∷◌, length, map, find, flat_map, Option, Some, None}
use Rattle.dom_path.proofs.Cited.{refl, sym, ap, subst, ◌∙◌, arith, append-nil, nat_eq, option_map, option_to_list, unwrap_or, slice_get, is_some, ◌≤◌}
use Rattle.dom_path.proofs.Cited.{if◌then◌else◌, AllByRecursion, option_map_or, cond-true, cond-false, NodeName, name_eq, is_in, root_of, NamedTrees, name_at}
use Rattle.dom_path.proofs.Cited.{TellApart, ShadowHost, host_named, ShadowTrees, shadows, key-test, is_some-named, Tree, IsHosted, AreNested, roots_up}
use Rattle.dom_path.proofs.Cited.{roots_around, hiding_host, outer_of, seen_up, seen_from, IsTreeOf, AreTrees, EndsWithin, chain_at, host_above_at}
use Rattle.dom_path.proofs.Cited.{is_hidden_at, seen_at, owner_depth}
use Rattle.dom_path.proofs.Nesting.{hides, hiding-is, outer-is, outer-below}

-- ---- the chain of hosts of a node

module _ (s : ShadowTrees) where
  -- a node in no shadow tree is alone
  pub chain-alone : (depth : ℕ) (x : NodeName) → host_above_at s x ≡ None → chain_at s depth x ≡ x ∷ []
  chain-alone zero x e = refl
  chain-alone (suc depth) x e = ap (λ o. x ∷ flat_map (chain_at s depth) (option_to_list o)) e

  -- any other one stands before the chain of its host
  pub chain-host : (depth : ℕ) (x host : NodeName) → host_above_at s x ≡ Some host → chain_at s (suc depth) x ≡ x ∷ chain_at s depth host
  chain-host depth x host e =
      ap (λ o. x ∷ flat_map (chain_at s depth) (option_to_list o)) e ∙ ap (λ ys. x ∷ ys) (append-nil (chain_at s depth host))

  -- the node is the first
  pub chain-first : (depth : ℕ) (x : NodeName) → (rest : List NodeName) × (chain_at s depth x ≡ x ∷ rest)
  chain-first zero x = ([], refl)
  chain-first (suc depth) x = (flat_map (chain_at s depth) (option_to_list (host_above_at s x)), refl)

  -- a node in no shadow tree stands in no more of them than any number
  pub ends-outside : (depth : ℕ) (x : NodeName) → host_above_at s x ≡ None → EndsWithin s depth x
  ends-outside zero x e = e
  ends-outside (suc depth) x e = λ h g. let both : None ≡ Some h = sym e ∙ g in cc

  -- where each host stands in fewer of them than its node, all ways up end
  module _ (deeper : (x host : NodeName) → host_above_at s x ≡ Some host → owner_depth host.owner < owner_depth x.owner) where
    ends-from : (depth : ℕ) (x : NodeName) → owner_depth x.owner ≤ depth → EndsWithin s depth x
    ends-from zero x h = by (host_above_at s x) refl
      where
        by : (o : Option NodeName) → host_above_at s x ≡ o → host_above_at s x ≡ None
        by None e = e
        by (Some host) e = let less = deeper x host e in absurd (omega (arith, less, h))
    ends-from (suc depth) x h = λ host e. let less = deeper x host e in ends-from depth host (omega (arith, less, h))

    pub ends-all : (depth : ℕ) → ((x host : NodeName) → host_above_at s x ≡ Some host → owner_depth x.owner ≤ depth) → (x : NodeName) → EndsWithin s depth x
    ends-all depth within x = by (host_above_at s x) refl
      where
        by : (o : Option NodeName) → host_above_at s x ≡ o → EndsWithin s depth x
        by None e = ends-outside depth x e
        by (Some host) e = ends-from depth x (within x host e)

-- the test of a key among others is that of its name
in-named : (names : List NodeName) → TellApart names → (k : ℕ) (ks : List ℕ) → k < length names → AllByRecursion (λ j. j < length names) ks
    → is_in nat_eq k ks ≡ is_in name_eq (name_at names k) (map (name_at names) ks)
in-named names distinct k [] h g = refl
in-named names distinct k (j ∷ ks) h g = λ i. key-test names distinct k j h g.0 i || in-named names distinct k ks h g.1 i

-- a host, unless the tree is around the viewer
pick : (o : Option NodeName) (b : Bool) → (if b then None else o) ≡ (if is_some o && not b then o else None)
pick None true = refl
pick (Some x) true = refl
pick o b = refl

picked : (o : Option NodeName) (b : Bool) → is_some (if b then None else o) ≡ (is_some o && not b)
picked None true = refl
picked (Some x) true = refl
picked o b = refl

pick-named : (names : List NodeName) (o : Option ℕ) (b : Bool) →
    option_map (name_at names) (if b then None else o) ≡ (if b then None else option_map (name_at names) o)
pick-named names o true = refl
pick-named names o false = refl

-- ---- nodes

module _ (f : NamedTrees) (hosts : List ShadowHost) (trees : List Tree) (are : AreTrees f hosts trees) where
  -- the roots around a tree are nodes
  roots-nodes : (n place : ℕ) → AllByRecursion (λ k. k < length f.names) (roots_up trees n place)
  roots-nodes zero place = tt
  roots-nodes (suc n) place = from (roots-nodes n) (slice_get trees place) refl
    where
      from : ((outer : ℕ) → AllByRecursion (λ k. k < length f.names) (roots_up trees n outer)) → (o : Option Tree) → slice_get trees place ≡ o
          → AllByRecursion (λ k. k < length f.names) (option_map_or (λ (t : Tree). t.root ∷ (if is_some t.host then roots_up trees n t.outer else [])) o [])
      from again None e = tt
      from again (Some t) e = ((are.nodes place t e).root, by (is_some t.host) (again t.outer))
        where
          by : (b : Bool) → AllByRecursion (λ k. k < length f.names) (roots_up trees n t.outer) →
              AllByRecursion (λ k. k < length f.names) (if b then roots_up trees n t.outer else [])
          by true h = h
          by false h = tt

  -- and so is what is seen of one
  seen-up_node : (n viewer node place : ℕ) → AreNested trees → node < length f.names → seen_up trees n viewer node place < length f.names
  seen-up_node zero viewer node place nested h = h
  seen-up_node (suc n) viewer node place nested h =
      from (λ host g. seen-up_node n viewer host (outer_of trees place) nested g) (hiding_host trees viewer place) refl
    where
      from : ((host : ℕ) → host < length f.names → seen_up trees n viewer host (outer_of trees place) < length f.names) → (o : Option ℕ) →
          hiding_host trees viewer place ≡ o
          → option_map_or (λ host. seen_up trees n viewer host (outer_of trees place)) o node < length f.names
      from again None e = h
      from again (Some host) e = let k = hides trees nested viewer place host e in again host ((are.nodes place k.t k.here).host host k.its)

  pub seen-node : (viewer node place : ℕ) → AreNested trees → node < length f.names → seen_from trees viewer node place < length f.names
  seen-node viewer node place nested h = seen-up_node (suc place) viewer node place nested h

-- ---- by names

module _ (f : NamedTrees) (hosts : List ShadowHost) (distinct : TellApart f.names) (trees : List Tree) (nested : AreNested trees)
    (are : AreTrees f hosts trees)
    (depth : ℕ) (hosted : IsHosted f hosts depth) where
  abbrev name : ℕ → NodeName
  name k = name_at f.names k

  abbrev s : ShadowTrees
  s = shadows f hosts

  -- The tree at a place, which is a node's.
  record Here (place : ℕ) (x : NodeName) : Type 0 where
    t : Tree
    at : slice_get trees place ≡ Some t
    root : name t.root ≡ root_of f.trees x
    above : option_map name t.host ≡ host_above_at s x

  here : (place : ℕ) (x : NodeName) → IsTreeOf f trees place x → Here place x
  here place x is = from (slice_get trees place) refl is
    where
      from : (o : Option Tree) → slice_get trees place ≡ o → option_map (λ (t : Tree). name t.root) o ≡ Some (root_of f.trees x) → Here place x
      from None e k = cc
      from (Some t) e k =
          let root : name t.root ≡ root_of f.trees x = cc in
          record { t = t; at = e; root = root; above = (are.each depth hosted place t e).host ∙ ap (host_named f.names hosts) root }

  -- the tree around it is its host's
  around : (place : ℕ) (x : NodeName) (h : Here place x) → (host : ℕ) → h.t.host ≡ Some host → (host_above_at s x ≡ Some (name host)) ×
      IsTreeOf f trees h.t.outer (name host)
  around place x h host e = (sym h.above ∙ ap (option_map name) e, (are.each depth hosted place h.t h.at).outer host e)

  -- A node of the tree at a place, whose way out ends within d hosts.
  record Ending (d place : ℕ) (x : NodeName) : Type 0 where
    ends : EndsWithin s d x
    is : IsTreeOf f trees place x

  -- the roots around a tree are those of the chain of each of its nodes
  roots-named : (n : ℕ) {d place : ℕ} {x : NodeName} → place < n → Ending d place x →
      map name (roots_up trees n place) ≡ map (root_of f.trees) (chain_at s d x)
  roots-named zero h ending = absurd (omega arith)
  roots-named (suc n) {d = d} {place = place} {x = x} h ending =
      let k = here place x ending.is in
      ap (λ o. map name (option_map_or (λ (t : Tree). t.root ∷ (if is_some t.host then roots_up trees n t.outer else [])) o [])) k.at
      ∙ by k d ending.ends (λ d' outer host below ends' is'. roots-named n {d = d'} {place = outer} {x = host} (omega (arith, below, h))
      (record { ends = ends'; is = is' })) k.t.host refl
    where
      by : (k : Here place x) (d : ℕ) → EndsWithin s d x
          → ((d' outer : ℕ) (host : NodeName) → outer < place → EndsWithin s d' host → IsTreeOf f trees outer host →
          map name (roots_up trees n outer) ≡ map (root_of f.trees) (chain_at s d' host))
          → (o : Option ℕ) → k.t.host ≡ o →
          name k.t.root ∷ map name (if is_some k.t.host then roots_up trees n k.t.outer else []) ≡ map (root_of f.trees) (chain_at s d x)
      by k d ends again None e =
          let alone = chain-alone s d x (sym k.above ∙ ap (option_map name) e) in
          ap (λ o. name k.t.root ∷ map name (if is_some o then roots_up trees n k.t.outer else [])) e ∙ ap (λ r. r ∷ []) k.root ∙
          sym (ap (map (root_of f.trees)) alone)
      by k zero ends again (Some host) e = let up = (around place x k host e).0 in let both : None ≡ Some (name host) = sym ends ∙ up in cc
      by k (suc d) ends again (Some host) e =
          let up = around place x k host e in
          let below = (nested place k.t k.at).behind (ap is_some e) in
          ap (λ o. name k.t.root ∷ map name (if is_some o then roots_up trees n k.t.outer else [])) e
          ∙ (λ j. k.root j ∷ again d k.t.outer (name host) below (ends (name host) up.0) up.1 j)
          ∙ sym (ap (map (root_of f.trees)) (chain-host s d x (name host) up.0))

  -- From a viewer x in the tree at a place:
  module _ (viewer : ℕ) (x : NodeName) (mine : IsTreeOf f trees viewer x) where
    -- whether a node's tree is around the viewer
    around-test : (place : ℕ) (a : NodeName) (k : Here place a)
        → is_in nat_eq k.t.root (roots_around trees viewer) ≡ is_in name_eq (root_of f.trees a) (map (root_of f.trees) (chain_at s depth x))
    around-test place a k =
        in-named f.names distinct k.t.root (roots_around trees viewer) (are.nodes place k.t k.at).root (roots-nodes f hosts trees are (suc viewer) viewer)
        ∙ (λ j. is_in name_eq (k.root j) (roots-named (suc viewer) {d = depth} {place = viewer} {x = x} (omega arith)
        (record { ends = hosted.nested x; is = mine }) j))

    -- the host by which it is hidden
    hiding-picked : (place : ℕ) (a : NodeName) → IsTreeOf f trees place a
        → option_map name (hiding_host trees viewer place) ≡
        (if is_in name_eq (root_of f.trees a) (map (root_of f.trees) (chain_at s depth x)) then None else host_above_at s a)
    hiding-picked place a is =
        let k = here place a is in
        let b = is_in nat_eq k.t.root (roots_around trees viewer) in
        ap (option_map name) (hiding-is trees viewer place k.at refl) ∙ pick-named f.names k.t.host b ∙
        (λ j. if around-test place a k j then None else k.above j)

    -- whether it is hidden
    pub hidden-named : (place : ℕ) (a : NodeName) → IsTreeOf f trees place a → is_some (hiding_host trees viewer place) ≡ is_hidden_at s depth x a
    hidden-named place a is =
        is_some-named name (hiding_host trees viewer place) ∙ ap is_some (hiding-picked place a is)
        ∙ picked (host_above_at s a) (is_in name_eq (root_of f.trees a) (map (root_of f.trees) (chain_at s depth x)))

    -- what is seen of it
    seen-up_named : (n node : ℕ) {d place : ℕ} {a : NodeName} (other : NodeName) → place < n → name node ≡ a → Ending d place a
        → name (seen_up trees n viewer node place) ≡ unwrap_or (find (λ y. not (is_hidden_at s depth x y)) (chain_at s d a)) other
    seen-up_named zero node other h same ending = absurd (omega arith)
    seen-up_named (suc n) node {d = d} {place = place} {a = a} other h same ending =
        by d ending.ends (λ d' host outer below ends' is'. seen-up_named n host {d = d'} {place = outer} {a = name host} other (omega (arith, below, h)) refl
        (record { ends = ends'; is = is' }))
        (hiding_host trees viewer place) refl
      where
        by : (d : ℕ) → EndsWithin s d a
            → ((d' host outer : ℕ) → outer < place → EndsWithin s d' (name host) → IsTreeOf f trees outer (name host)
            → name (seen_up trees n viewer host outer) ≡ unwrap_or (find (λ y. not (is_hidden_at s depth x y)) (chain_at s d' (name host))) other)
            → (o : Option ℕ) → hiding_host trees viewer place ≡ o
            → name (option_map_or (λ host. seen_up trees n viewer host (outer_of trees place)) o node) ≡ unwrap_or
            (find (λ y. not (is_hidden_at s depth x y)) (chain_at s d a)) other
        by d ends again None e =
            let first = chain-first s d a in
            let shown : is_hidden_at s depth x a ≡ false = sym (hidden-named place a ending.is) ∙ ap is_some e in
            same
            ∙ sym (ap (λ ys. unwrap_or (find (λ y. not (is_hidden_at s depth x y)) ys) other) first.1
            ∙ ap (λ o. unwrap_or o other)
            (cond-true (not (is_hidden_at s depth x a)) (Some a) (find (λ y. not (is_hidden_at s depth x y)) first.0) (ap not shown)))
        by zero ends again (Some host) e =
            let k = here place a ending.is in
            let hid = hides trees nested viewer place host e in
            let same_tree : Some hid.t ≡ Some k.t = sym hid.here ∙ k.at in
            let its : k.t.host ≡ Some host = subst (λ (o : Option Tree). option_map_or (λ (t : Tree). t.host) o None ≡ Some host) same_tree hid.its in
            let both : None ≡ Some (name host) = sym ends ∙ (around place a k host its).0 in
            cc
        by (suc d) ends again (Some host) e =
            let k = here place a ending.is in
            let hid = hides trees nested viewer place host e in
            let same_tree : Some hid.t ≡ Some k.t = sym hid.here ∙ k.at in
            let its : k.t.host ≡ Some host = subst (λ (o : Option Tree). option_map_or (λ (t : Tree). t.host) o None ≡ Some host) same_tree hid.its in
            let up = around place a k host its in
            let outer = outer-is trees place k.t k.at in
            let hidden : is_hidden_at s depth x a ≡ true = sym (hidden-named place a ending.is) ∙ ap is_some e in
            again d host (outer_of trees place) (outer-below trees nested viewer place host e) (ends (name host) up.0)
            (subst (λ p. IsTreeOf f trees p (name host)) (sym outer) up.1)
            ∙ sym (ap (λ ys. unwrap_or (find (λ y. not (is_hidden_at s depth x y)) ys) other) (chain-host s d a (name host) up.0)
            ∙ ap (λ o. unwrap_or o other)
            (cond-false (not (is_hidden_at s depth x a)) (Some a) (find (λ y. not (is_hidden_at s depth x y)) (chain_at s d (name host)))
            (ap not hidden)))

    pub seen-named : (node place : ℕ) → IsTreeOf f trees place (name node) → name (seen_from trees viewer node place) ≡ seen_at s depth x (name node)
    seen-named node place is = seen-up_named (suc place) node {d = depth} {place = place} {a = name node} (name node) (omega arith) refl
        (record { ends = hosted.nested (name node); is = is })
