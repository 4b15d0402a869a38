-- A new node, alone in its tree, changes nothing of what is assigned.
use Rattle.dom_base.proofs.Std.{◌≡◌, ◌⊎◌, inl, inr, ℕ, ◌+◌, ◌<◌, ◌≤◌, Bool, true, false, List, [], ◌∷◌, ◌++◌, All, map, filter, drop, length, Option, Some}
use Rattle.dom_base.proofs.Std.{None, refl, sym, ap, subst, ◌∙◌, arith, nat_eq, find, if◌then◌else◌, option_to_list, unwrap_or, option_map, option_map_or}
use Rattle.dom_base.proofs.Std.{option_and_then, option_or, cases_Bool, cond-false, eqb-true, length_push, All-head, All-tail, find-append, get_or-append}
use Rattle.dom_base.proofs.Std.{eq-or-lt_of_le, get_or-append_seam, cases_lt, none-some}
use Rattle.dom_model.proofs.Model.{NodeName, Page, name_eq, name_before, node_of, is_in, first_of, last_of, Trees, none, tree, Node, nodes, roots, names_of}
use Rattle.dom_model.proofs.Model.{no_node, node_in, or_else, subtree, inclusive_ancestors, parent_of, root_of, trees_below, children_of, with_node, put_root}
use Rattle.dom_model.proofs.Model.{is_slot_element, slot_name, slots_among, slot_in, name_eq-other}
use Rattle.dom_tree.specs.Definitions.{NamedTrees, name_at}
use Rattle.dom_tree.proofs.Standing.{Once-forest, Has-forest}
use Rattle.dom_laws.proofs.Laws.{name_eq-from, same_or_not, above-put_others, once_apart, Has, above-absent, subtree-absent, Once, In, filter-same}
use Rattle.dom_laws.proofs.Laws.{parent-of_child}
use Rattle.dom_slots.specs.Definitions.{ShadowHost, HostsAreNodes, host_named, root_named, host_of_root, SlotsNow, HasOneMore, AreSlotsOf, IsBare, ShadowTrees}
use Rattle.dom_slots.specs.Definitions.{shadow_trees, slot_at, assigned_at, assigned_under, list_of, bearer_at, MayHave, name_code}
use Rattle.dom_slots.specs.Definitions.{IsParked, ParkedNow, looks_for}
use Rattle.dom_slots.proofs.Hosted.{host-key, root-key}

-- ---- a tree of one node among others

module _ (n : Node) (y : NodeName) where
  abbrev put : Trees → Trees
  put ts = put_root y (tree n none none) ts

  has_put : (ts : Trees) → Has (put ts) n.name
  has_put none = inl refl
  has_put (tree m d r) = elim (cases_Bool (name_before y m.name)) [ inl e ↦ rw e (inl refl) | inr e ↦ rw e (inr (inr (has_put r))) ]

  -- it stood in none of the others
  put_absent : (ts : Trees) → Once (put ts) → Has ts n.name → ⊥
  put_absent none once h = h
  put_absent (tree m d r) once h = elim (cases_Bool (name_before y m.name)) [
    | inl e ↦ (once_apart n none (tree m d r) (rw e at once)).1 h
    | inr e ↦ later (rw e at once) (put_absent r) h
  ]
    where
      later : Once (tree m d (put r)) → (Once (put r) → Has r n.name → ⊥) → Has (tree m d r) n.name → ⊥
      later o deeper (inl same) = (once_apart m d (put r) o).1 (subst (Has (put r)) (sym same) (has_put r))
      later o deeper (inr (inl i)) = (once_apart m d (put r) o).2 n.name i (has_put r)
      later o deeper (inr (inr i)) = deeper (once_apart m d (put r) o).4 i

  -- the trees of other nodes stay
  subtree_other : (x : NodeName) → name_eq n.name x ≡ false → (ts : Trees) → subtree (put ts) x ≡ subtree ts x
  subtree_other x h none = cond-false (name_eq n.name x) (tree n none none) none h
  subtree_other x h (tree m d r) = elim (cases_Bool (name_before y m.name)) [
    | inl g ↦ rw g (cond-false (name_eq n.name x) (tree n none none) (subtree (tree m d r) x) h)
    | inr g ↦ rw g (ap (λ t. if name_eq m.name x then tree m d none else or_else (subtree d x) t) (subtree_other x h r))
  ]

  -- and so do other nodes
  found_other : (x : NodeName) → name_eq n.name x ≡ false → (ts : Trees) →
      find (λ m. name_eq m.name x) (nodes (put ts)) ≡ find (λ m. name_eq m.name x) (nodes ts)
  found_other x h none = ap (λ (b : Bool). if b then Some n else None) h
  found_other x h (tree m d r) = elim (cases_Bool (name_before y m.name)) [
    | inl g ↦ rw g (ap (λ (b : Bool). if b then Some n else find (λ k. name_eq k.name x) (nodes (tree m d r))) h)
    | inr g ↦
        rw g
        (ap (λ (o : Option Node). if name_eq m.name x then Some m else o)
        (find-append (λ k. name_eq k.name x) (nodes d) (nodes (put r)) ∙
        (ap (option_or (find (λ k. name_eq k.name x) (nodes d))) (found_other x h r) ∙
        sym (find-append (λ k. name_eq k.name x) (nodes d) (nodes r)))))
  ]

  -- it stands alone
  subtree_alone : (ts : Trees) → (Has ts n.name → ⊥) → subtree (put ts) n.name ≡ tree n none none
  subtree_alone none off = rw (name_eq-from n.name n.name refl) refl
  subtree_alone (tree m d r) off = elim (cases_Bool (name_before y m.name)) [
    | inl g ↦ rw (g, name_eq-from n.name n.name refl) refl
    | inr g ↦ rw (g, name_eq-other m.name n.name (λ e. off (inl e)), subtree-absent d n.name (λ i. off (inr (inl i))))
        (subtree_alone r (λ i. off (inr (inr i))))
  ]

  path_alone : (ts : Trees) → (Has ts n.name → ⊥) → inclusive_ancestors (put ts) n.name ≡ n.name ∷ []
  path_alone none off = rw (name_eq-from n.name n.name refl) refl
  path_alone (tree m d r) off = elim (cases_Bool (name_before y m.name)) [
    | inl g ↦ rw (g, name_eq-from n.name n.name refl) refl
    | inr g ↦ rw (g, name_eq-other m.name n.name (λ e. off (inl e)), above-absent d n.name (λ i. off (inr (inl i)))) (path_alone r (λ i. off (inr (inr i))))
  ]

-- ---- one name more

module _ (names : List NodeName) (x : NodeName) where
  abbrev more : List NodeName
  more = names ++ x ∷ []

  name_kept : (k : ℕ) → k < length names → name_at more k ≡ name_at names k
  name_kept k within = get_or-append names (x ∷ []) (node_of Page 0) k within

  names_kept : (ks : List ℕ) → All (λ k. k < length names) ks → map (name_at more) ks ≡ map (name_at names) ks
  names_kept [] all = refl
  names_kept (k ∷ ks) all =
      let rest = names_kept ks (All-tail (λ j. j < length names) k ks all) in
      let here = name_kept k (All-head (λ j. j < length names) k ks all) in
      λ j. here j ∷ rest j

  longer : (k : ℕ) → k < length names → k < length more
  longer k h = omega (arith, length_push names x)

  all_longer : (ks : List ℕ) → All (λ k. k < length names) ks → All (λ k. k < length more) ks
  all_longer ks all = λ k d h. longer _ (all k d h)

  hosts_longer : (hosts : List ShadowHost) → HostsAreNodes names hosts → HostsAreNodes more hosts
  hosts_longer [] nodes = tt
  hosts_longer (h ∷ hosts) nodes = (longer h.host nodes.0, longer h.root nodes.1, hosts_longer hosts nodes.2)

  -- what is found among the hosts
  picked : (f : ShadowHost → NodeName) (b : Bool) (h : ShadowHost) (o : Option ShadowHost) →
      option_map f (if b then Some h else o) ≡ (if b then Some (f h) else option_map f o)
  picked f true h o = refl
  picked f false h o = refl

  found_kept : (by of : ShadowHost → ℕ) → ((h : ShadowHost) → h.host < length names → h.root < length names → (by h < length names) × (of h < length names)) →
      (hosts : List ShadowHost) → HostsAreNodes names hosts → (r : NodeName) →
      option_map (λ g. name_at more (of g)) (find (λ g. name_eq r (name_at more (by g))) hosts)
      ≡ option_map (λ g. name_at names (of g)) (find (λ g. name_eq r (name_at names (by g))) hosts)
  found_kept by of within [] nodes r = refl
  found_kept by of within (h ∷ hosts) nodes r =
      let w = within h nodes.0 nodes.1 in
      let key = name_kept (by h) w.0 in
      let value = name_kept (of h) w.1 in
      picked (λ g. name_at more (of g)) (name_eq r (name_at more (by h))) h (find (λ g. name_eq r (name_at more (by g))) hosts)
      ∙ ((λ j. if name_eq r (key j) then Some (value j) else found_kept by of within hosts nodes.2 r j) ∙
      sym (picked (λ g. name_at names (of g)) (name_eq r (name_at names (by h))) h (find (λ g. name_eq r (name_at names (by g))) hosts)))

  host_kept : (hosts : List ShadowHost) → HostsAreNodes names hosts → (r : NodeName) → host_named more hosts r ≡ host_named names hosts r
  host_kept = found_kept (λ h. h.root) (λ h. h.host) (λ h i j. (j, i))

  root_kept : (hosts : List ShadowHost) → HostsAreNodes names hosts → (r : NodeName) → root_named more hosts r ≡ root_named names hosts r
  root_kept = found_kept (λ h. h.host) (λ h. h.root) (λ h i j. (i, j))

  module _ (new : (k : ℕ) → k < length names → name_at names k ≡ x → ⊥) where
    -- the new node has no host
    not_hosted : (hosts : List ShadowHost) → HostsAreNodes names hosts → host_named names hosts x ≡ None
    not_hosted [] nodes = refl
    not_hosted (h ∷ hosts) nodes =
        let miss = name_eq-other x (name_at names h.root) (λ e. new h.root nodes.1 (sym e)) in
        ap (λ (b : Bool). option_map (λ (g : ShadowHost). name_at names g.host)
        (if b then Some h else find (λ g. name_eq x (name_at names g.root)) hosts)) miss ∙ not_hosted hosts nodes.2

    -- and is no host and no shadow root
    root_other : (hosts : List ShadowHost) → HostsAreNodes names hosts → (p r : NodeName) → root_named names hosts p ≡ Some r → x ≡ r → ⊥
    root_other hosts nodes p r e same = let k = root-key names hosts nodes p r e in new k.0 k.1 (k.2 ∙ sym same)

    host_other : (hosts : List ShadowHost) → HostsAreNodes names hosts → (r h : NodeName) → host_named names hosts r ≡ Some h → x ≡ h → ⊥
    host_other hosts nodes r h e same = let k = host-key names hosts nodes r h e in new k.0 k.1 (k.2 ∙ sym same)

-- ---- what is assigned

module _ (names : List NodeName) (ts : Trees) (hosts : List ShadowHost) (n : Node) (nodes : HostsAreNodes names hosts)
    (new : (k : ℕ) → k < length names → name_at names k ≡ n.name → ⊥) (off : Has ts n.name → ⊥) where
  abbrev was : ShadowTrees
  was = shadow_trees names ts hosts

  abbrev now : ShadowTrees
  now = shadow_trees (names ++ n.name ∷ []) (with_node n ts) hosts

  not_it : (x : NodeName) → (n.name ≡ x → ⊥) → Has (tree n none none) x → ⊥
  not_it x other (inl e) = other e
  not_it x other (inr (inl i)) = i
  not_it x other (inr (inr i)) = i

  path_other : (x : NodeName) → (n.name ≡ x → ⊥) → inclusive_ancestors (with_node n ts) x ≡ inclusive_ancestors ts x
  path_other x other = above-put_others n.name n none ts x (not_it x other)

  node_other : (x : NodeName) → (n.name ≡ x → ⊥) → node_in (with_node n ts) x ≡ node_in ts x
  node_other x other = ap (λ o. unwrap_or o (no_node x)) (found_other n n.name x (name_eq-other n.name x other) ts)

  tree_other : (x : NodeName) → (n.name ≡ x → ⊥) → subtree (with_node n ts) x ≡ subtree ts x
  tree_other x other = subtree_other n n.name x (name_eq-other n.name x other) ts

  -- slots are looked for in the same shadow trees
  from_root : (m : Node) (p : NodeName) (o : Option NodeName) → root_named names hosts p ≡ o →
      option_and_then (λ r. slot_in (subtree (with_node n ts) r) m) o ≡ option_and_then (λ r. slot_in (subtree ts r) m) o
  from_root m p None e = refl
  from_root m p (Some r) e = ap (λ t. slot_in t m) (tree_other r (root_other names n.name new hosts nodes p r e))

  from_parent : (m : Node) (o : Option NodeName)
      → option_and_then (λ r. slot_in (subtree (with_node n ts) r) m)
      (option_and_then (root_named (names ++ n.name ∷ []) hosts) o) ≡ option_and_then (λ r. slot_in (subtree ts r) m)
      (option_and_then (root_named names hosts) o)
  from_parent m None = refl
  from_parent m (Some p) = ap (option_and_then (λ r. slot_in (subtree (with_node n ts) r) m)) (root_kept names n.name hosts nodes p) ∙
      from_root m p (root_named names hosts p) refl

  slot_more : (x : NodeName) → slot_at now x ≡ slot_at was x
  slot_more x = elim (same_or_not n.name x) [
    | inl e ↦ subst (λ y. slot_at now y ≡ slot_at was y) e (alone ∙ sym absent)
    | inr other ↦
        (λ j. option_and_then (λ r. slot_in (subtree (with_node n ts) r) (node_other x other j))
        (option_and_then (root_named (names ++ n.name ∷ []) hosts) (first_of (drop 1 (path_other x other j)))))
        ∙ from_parent (node_in ts x) (parent_of ts x)
  ]
    where
      alone : slot_at now n.name ≡ None
      alone = λ j. option_and_then (λ r. slot_in (subtree (with_node n ts) r) (node_in (with_node n ts) n.name))
          (option_and_then (root_named (names ++ n.name ∷ []) hosts) (first_of (drop 1 (path_alone n n.name ts off j))))

      absent : slot_at was n.name ≡ None
      absent = λ j. option_and_then (λ r. slot_in (subtree ts r) (node_in ts n.name))
          (option_and_then (root_named names hosts) (first_of (drop 1 (above-absent ts n.name off j))))

  -- what is assigned to another node stays
  assigned_more : (y : NodeName) → (n.name ≡ y → ⊥) → assigned_at now y ≡ assigned_at was y
  assigned_more y other =
      (λ j. option_map_or (λ host. filter (λ x. is_in name_eq y (option_to_list (slot_more x j))) (children_of (with_node n ts) host)) (root_is j)
      []) ∙ below (host_named names hosts (root_of ts y)) refl
    where
      root_is : host_named (names ++ n.name ∷ []) hosts (root_of (with_node n ts) y) ≡ host_named names hosts (root_of ts y)
      root_is = ap (λ path. host_named (names ++ n.name ∷ []) hosts (unwrap_or (last_of path) y)) (path_other y other) ∙
          host_kept names n.name hosts nodes (root_of ts y)

      below : (o : Option NodeName) → host_named names hosts (root_of ts y) ≡ o
          → option_map_or (λ host. filter (λ x. is_in name_eq y (option_to_list (slot_at was x))) (children_of (with_node n ts) host)) o
          [] ≡ option_map_or (assigned_under was y) o []
      below None e = refl
      below (Some h) e =
          ap (λ t. filter (λ x. is_in name_eq y (option_to_list (slot_at was x))) (names_of (roots (trees_below t))))
          (tree_other h (host_other names n.name new hosts nodes (root_of ts y) h e))

  -- nothing is assigned to the new one
  assigned_new : assigned_at now n.name ≡ []
  assigned_new =
      ap (λ path. option_map_or (assigned_under now n.name) (host_named (names ++ n.name ∷ []) hosts (unwrap_or (last_of path) n.name)) [])
      (path_alone n n.name ts off)
      ∙ ap (λ o. option_map_or (assigned_under now n.name) o []) (host_kept names n.name hosts nodes n.name ∙ not_hosted names n.name new hosts nodes)

-- a key that was no node yet has no host
pub unhosted-beyond : (names : List NodeName) (hosts : List ShadowHost) → HostsAreNodes names hosts → (k : ℕ) → length names ≤ k → host_of_root hosts k ≡ None
unhosted-beyond names [] nodes k far = refl
unhosted-beyond names (h ∷ hosts) nodes k far = elim (cases_Bool (nat_eq k h.root)) [
  | inl e ↦ let same = eqb-true k h.root e in let within = nodes.1 in absurd (omega arith)
  | inr e ↦ rw e (unhosted-beyond names hosts nodes.2 k far)
]

-- so a shadow root is a node
pub hosted-within : (names : List NodeName) (hosts : List ShadowHost) → HostsAreNodes names hosts → (r h : ℕ) → host_of_root hosts r ≡ Some h →
    r < length names
hosted-within names hosts nodes r h e = elim (cases_lt r (length names)) [
  | inl l ↦ l
  | inr far ↦ absurd (none-some h (sym (unhosted-beyond names hosts nodes r far) ∙ e))
]

-- ---- the slots of a forest with one node more

module _ (f g : NamedTrees) (n : Node) (one : HasOneMore f g n) where
  open one use {names, trees, distinct, stands}

  -- its name is new
  pub new_name : (k : ℕ) → k < length f.names → name_at f.names k ≡ n.name → ⊥
  new_name k within e =
      let long : length g.names ≡ length f.names + 1 = ap length names ∙ length_push f.names n.name in
      let here : name_at g.names (length f.names) ≡ n.name =
      ap (λ ns. name_at ns (length f.names)) names ∙ get_or-append_seam f.names n.name [] (node_of Page 0) in
      let there : name_at g.names k ≡ n.name = ap (λ ns. name_at ns k) names ∙ (name_kept f.names n.name k within ∙ e) in
      let same : k ≡ length f.names = distinct k (length f.names) (omega arith) (omega arith) (there ∙ sym here) in
      omega arith

  -- and it stood nowhere
  pub new_node : Has f.trees n.name → ⊥
  new_node = put_absent n n.name f.trees (subst Once trees (Once-forest g stands.once stands.only))

  -- the slots stay
  pub slots-more : (s : SlotsNow) → AreSlotsOf f s → AreSlotsOf g s
  slots-more s slots =
      let there : record { names = f.names ++ n.name ∷ []; trees = with_node n f.trees } ≡ g = λ j. record { names = sym names j; trees = sym trees j } in
      subst (λ (k : NamedTrees). AreSlotsOf k s) there record {
        hosts = hosts_longer f.names n.name s.hosts slots.hosts;
        table = record {
          nodes = λ k. all_longer f.names n.name (list_of s.table k) (slots.table.nodes k);
          lists = λ k within. by k (let at : k ≤ length f.names = omega (arith, within, length_push f.names n.name) in eq-or-lt_of_le at);
          beyond = λ k far. slots.table.beyond k (omega (arith, far, length_push f.names n.name));
        };
        bare = λ r e.
            let old = slots.bare r e in
            record {
              hosted = old.hosted;
              node = longer f.names n.name r old.node;
              slots = λ k within. bare_still r old k
                  (let at : k ≤ length f.names = omega (arith, within, length_push f.names n.name) in eq-or-lt_of_le at);
            };
        index = record {
          covered = λ r k h root within hosted at slot.
              covered k (hosted-within f.names s.hosts slots.hosts r h hosted)
              (let below : k ≤ length f.names = omega (arith, within, length_push f.names n.name) in eq-or-lt_of_le below) hosted at slot;
          inside = λ h k only. longer f.names n.name k (slots.index.inside h k only);
        };
        parked = λ p is. parked_still p (slots.parked p is);
      }
    where
      -- the new node is its own root, and others have the roots that they had and are the same
      apart : (r : ℕ) → r < length f.names → {k : ℕ} → k ≡ length f.names →
          root_of (with_node n f.trees) (name_at (f.names ++ n.name ∷ []) k) ≡ name_at (f.names ++ n.name ∷ []) r → ⊥
      apart r node {k} e at =
          let name : name_at (f.names ++ n.name ∷ []) k ≡ n.name =
          ap (λ i. name_at (f.names ++ n.name ∷ []) i) e ∙ get_or-append_seam f.names n.name [] (node_of Page 0) in
          let alone : root_of (with_node n f.trees) n.name ≡ n.name =
          ap (λ path. unwrap_or (last_of path) n.name) (path_alone n n.name f.trees new_node) in
          new_name r node (sym (name_kept f.names n.name r node) ∙ (sym at ∙ (ap (root_of (with_node n f.trees)) name ∙ alone)))

      root_still : (r k : ℕ) → r < length f.names → k < length f.names
          → root_of (with_node n f.trees) (name_at (f.names ++ n.name ∷ []) k) ≡ name_at (f.names ++ n.name ∷ []) r →
          root_of f.trees (name_at f.names k) ≡ name_at f.names r
      root_still r k node within at =
          let y = name_at f.names k in
          ap (λ path. unwrap_or (last_of path) y)
          (sym (path_other f.names f.trees s.hosts n slots.hosts new_name new_node y (λ e. new_name k within (sym e))))
          ∙ (ap (root_of (with_node n f.trees)) (sym (name_kept f.names n.name k within)) ∙ (at ∙ name_kept f.names n.name r node))

      node_still : (k : ℕ) → k < length f.names → node_in (with_node n f.trees) (name_at (f.names ++ n.name ∷ []) k) ≡ node_in f.trees (name_at f.names k)
      node_still k within =
          ap (node_in (with_node n f.trees)) (name_kept f.names n.name k within)
          ∙ node_other f.names f.trees s.hosts n slots.hosts new_name new_node (name_at f.names k) (λ e. new_name k within (sym e))

      bare_still : (r : ℕ) → IsBare f s.hosts r → (k : ℕ) → (k ≡ length f.names) ⊎ (k < length f.names) →
          root_of (with_node n f.trees) (name_at (f.names ++ n.name ∷ []) k) ≡ name_at (f.names ++ n.name ∷ []) r →
          is_slot_element (node_in (with_node n f.trees) (name_at (f.names ++ n.name ∷ []) k)) ≡ false
      bare_still r old k (inl e) at = absurd (apart r old.node e at)
      bare_still r old k (inr within) at = ap is_slot_element (node_still k within) ∙ old.slots k within (root_still r k old.node within at)

      covered : {r h : ℕ} (k : ℕ) → r < length f.names → (k ≡ length f.names) ⊎ (k < length f.names) → host_of_root s.hosts r ≡ Some h →
          root_of (with_node n f.trees) (name_at (f.names ++ n.name ∷ []) k) ≡ name_at (f.names ++ n.name ∷ []) r →
          is_slot_element (node_in (with_node n f.trees) (name_at (f.names ++ n.name ∷ []) k)) ≡ true →
          MayHave (bearer_at s.index (name_code r (slot_name (node_in (with_node n f.trees) (name_at (f.names ++ n.name ∷ []) k))))) k
      covered {r} k root (inl e) hosted at slot = absurd (apart r root e at)
      covered {r} {h} k root (inr there) hosted at slot =
          subst (λ (m : Node). MayHave (bearer_at s.index (name_code r (slot_name m))) k) (sym (node_still k there))
          (slots.index.covered r k h root there hosted (root_still r k root there at) (sym (ap is_slot_element (node_still k there)) ∙ slot))

      parked_still : (p : ParkedNow) → IsParked f s.hosts p → IsParked record { names = f.names ++ n.name ∷ []; trees = with_node n f.trees } s.hosts p
      parked_still p old =
          let top = name_at f.names p.host in
          let wants : Node → NodeName → Bool = λ m y. looks_for (slot_name m) (node_in f.trees y) in
          let wants_now : Node → NodeName → Bool = λ m y. looks_for (slot_name m) (node_in (with_node n f.trees) y) in
          let slot = node_in f.trees (name_at f.names p.slot) in
          let same : children_of (with_node n f.trees) top ≡ children_of f.trees top =
          ap (λ t. names_of (roots (trees_below t)))
          (tree_other f.names f.trees s.hosts n slots.hosts new_name new_node top (λ e. new_name p.host old.host (sym e))) in
          let there : Has (with_node n f.trees) top = subst (λ ts. Has ts top) trees (subst (Has g.trees) (ap (λ ns. name_at ns p.host) names ∙
          name_kept f.names n.name p.host old.host) (Has-forest g stands.once p.host (subst (λ ns. p.host < length ns) (sym names)
          (longer f.names n.name p.host old.host)))) in
          let other : (y : NodeName) → In y (children_of f.trees top) → n.name ≡ y → ⊥ = λ y i e.
          none-some top (sym (ap (λ path. first_of (drop 1 path)) (path_alone n n.name f.trees new_node))
          ∙ (parent-of_child (with_node n f.trees) top n.name (subst Once trees (Once-forest g stands.once stands.only)) there
          (subst (In n.name) (sym same) (subst (λ z. In z (children_of f.trees top)) (sym e) i))).0) in
          record {
            hosted = old.hosted;
            slot = longer f.names n.name p.slot old.slot;
            host = longer f.names n.name p.host old.host;
            nodes = all_longer f.names n.name p.list old.nodes;
            list = names_kept f.names n.name p.list old.nodes ∙ (old.list
                ∙ (filter-same (wants slot) (wants_now slot) (children_of f.trees top)
                (λ y i. ap (looks_for (slot_name slot)) (sym (node_other f.names f.trees s.hosts n slots.hosts new_name new_node y (other y i))))
                ∙ sym (ap (λ m. filter (wants_now m) (children_of (with_node n f.trees) (name_at (f.names ++ n.name ∷ []) p.host)))
                (node_still p.slot old.slot)
                ∙ ap (filter (wants_now slot)) (ap (children_of (with_node n f.trees)) (name_kept f.names n.name p.host old.host) ∙ same))));
          }

      by : (k : ℕ) → (k ≡ length f.names) ⊎ (k < length f.names)
          → map (name_at (f.names ++ n.name ∷ [])) (list_of s.table k) ≡ assigned_at
          (shadow_trees (f.names ++ n.name ∷ []) (with_node n f.trees) s.hosts) (name_at (f.names ++ n.name ∷ []) k)
      by k (inl e) =
          let name : name_at (f.names ++ n.name ∷ []) k ≡ n.name =
          ap (λ i. name_at (f.names ++ n.name ∷ []) i) e ∙ get_or-append_seam f.names n.name [] (node_of Page 0) in
          ap (map (name_at (f.names ++ n.name ∷ []))) (slots.table.beyond k (omega arith))
          ∙ sym (ap (assigned_at (shadow_trees (f.names ++ n.name ∷ []) (with_node n f.trees) s.hosts)) name ∙
          assigned_new f.names f.trees s.hosts n slots.hosts new_name new_node)
      by k (inr within) =
          let name = name_kept f.names n.name k within in
          names_kept f.names n.name (list_of s.table k) (slots.table.nodes k)
          ∙ (slots.table.lists k within
          ∙ sym (ap (assigned_at (shadow_trees (f.names ++ n.name ∷ []) (with_node n f.trees) s.hosts)) name
          ∙ assigned_more f.names f.trees s.hosts n slots.hosts new_name new_node (name_at f.names k) (λ e. new_name k within (sym e))))

  -- no slot stands in the tree of the new node, if it is none
  pub bare-more : is_slot_element n ≡ false → slots_among (subtree g.trees (name_at g.names (length f.names))) ≡ []
  bare-more no_slot =
      let name : name_at g.names (length f.names) ≡ n.name =
      ap (λ ns. name_at ns (length f.names)) names ∙ get_or-append_seam f.names n.name [] (node_of Page 0) in
      ap (λ x. slots_among (subtree g.trees x)) name
      ∙ (ap (λ ts. slots_among (subtree ts n.name)) trees
      ∙ (ap slots_among (subtree_alone n n.name f.trees new_node) ∙ ap (λ (b : Bool). names_of (if b then n ∷ [] else [])) no_slot))
