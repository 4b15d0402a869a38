-- Whether a shadow root may be attached to a node, which component it will belong to, and the raw parts from which one is attached.
use Rattle.dom_mutation.proofs.Cited.{◌≡◌, ◌≢◌, ℕ, ◌+◌, ◌<◌, ◌≤◌, inl, inr, Bool, true, false, not, ◌||◌, List, [], ◌∷◌, ◌++◌, Option, Some, None, length, refl}
use Rattle.dom_mutation.proofs.Cited.{sym, ap, subst, ◌∙◌, arith, nat_eq, nat_lt, find, option_map, is_some, if◌then◌else◌, cases_Bool, cases_lt, lt-ltb}
use Rattle.dom_mutation.proofs.Cited.{le-ltb, ltb-false, length-map, Shadow, NodeName, Owner, Page, Refusal, NotSupported, Limit, owner_eq, name_eq, is_in}
use Rattle.dom_mutation.proofs.Cited.{node_of, Node, node_in, with_node, new_root, attaching, may_be_host, Part, may_attach, owner_depth, is_there, part_of}
use Rattle.dom_mutation.proofs.Cited.{component_made, shadow_root_of, owner_eq-false, word-made, may_attach-word, may_attach-from, name_eq-other, has_word}
use Rattle.dom_mutation.proofs.Cited.{ShadowHost, HostsAreNodes, root_of_host, SlotsNow, AreSlotsOf, key-test, NamedTrees, name_at, count_of, trees_of_owner}
use Rattle.dom_mutation.proofs.Cited.{TellApart, read_own, part_in, maker_of, hosts_of, host_names, attached_of, host_owners, AreMadeBehind, AllTables}
use Rattle.dom_mutation.proofs.Cited.{DocState, contents, world_from, state_from, IsDoc, name_in, owner_in, attaching_refusal}
use Rattle.dom_model.proofs.Model.{max_depth, MayAttach}
use Rattle.dom_mutation.proofs.Attached.{HasOneHostMore, component_for, attached_held, attached_state}
use Rattle.dom_mutation.proofs.AttachedWorlds.{count_none, component_absent}
use Rattle.dom_mutation.proofs.DocInvariant.{are_hosts}
use Rattle.dom_mutation.proofs.HostsOfOwners.{count_hosts, own-host, other-host, owner_in as component_in_owners, few_hosts}
use Rattle.dom_mutation.proofs.Worlds.{In, part_at, there_in}
use Rattle.dom_laws.proofs.Laws.{was_none}
use Rattle.dom_tree.specs.Definitions.{next_name}

-- a node is a host by its key where it is one by its name
hosted_key : (names : List NodeName) → TellApart names → (hosts : List ShadowHost) → HostsAreNodes names hosts → (k : ℕ) → k < length names →
    is_some (root_of_host hosts k) ≡ is_in name_eq (name_at names k) (host_names names hosts)
hosted_key names distinct [] nodes k at = refl
hosted_key names distinct (h ∷ hosts) nodes k at =
    ap (λ (b : Bool). is_some (option_map (λ (g : ShadowHost). g.root) (if b then Some h else find (λ (g : ShadowHost). nat_eq k g.host) hosts)))
    (key-test names distinct k h.host at nodes.0)
    ∙ pick (name_eq (name_at names k) (name_at names h.host)) (hosted_key names distinct hosts nodes.2 k at)
  where
    pick : (b : Bool) → is_some (root_of_host hosts k) ≡ is_in name_eq (name_at names k) (host_names names hosts)
        → is_some (option_map (λ (g : ShadowHost). g.root) (if b then Some h else find (λ (g : ShadowHost). nat_eq k g.host) hosts)) ≡ b ||
        is_in name_eq (name_at names k) (host_names names hosts)
    pick true rest = refl
    pick false rest = rest

module _ (names : List NodeName) where
  -- a node is among all hosts where it is among its owner's
  own_hosted : (hosts : List ShadowHost) (x : NodeName) → is_in name_eq x (host_names names hosts) ≡ is_in name_eq x (attached_of names hosts x.owner)
  own_hosted [] x = refl
  own_hosted (h ∷ hosts) x = elim (cases_Bool (owner_eq (maker_of names h) x.owner)) [
    | inl e ↦ ap (λ b. name_eq x (name_at names h.host) || b) (own_hosted hosts x) ∙
        sym (ap (λ hs. is_in name_eq x (host_names names hs)) (own-host names h hosts x.owner e))
    | inr e ↦
        ap (λ b. b || is_in name_eq x (host_names names hosts))
        (name_eq-other x (name_at names h.host) (λ same. owner_eq-false (maker_of names h) x.owner e (ap (λ (y : NodeName). y.owner) (sym same))))
        ∙ (own_hosted hosts x ∙ sym (ap (λ hs. is_in name_eq x (host_names names hs)) (other-host names h hosts x.owner e)))
  ]

  -- the components of hosts have nodes
  pub owner_node : (earlier hosts : List ShadowHost) (o : Owner) → AreMadeBehind names earlier hosts → HostsAreNodes names hosts →
      In o (host_owners hosts) → (k : ℕ) × (k < length names) × ((name_at names k).owner ≡ o)
  owner_node earlier [] o made nodes i = absurd i
  owner_node earlier (h ∷ hosts) o made nodes (inl e) = (h.root, nodes.1, ap (λ (x : NodeName). x.owner) made.0.root ∙ e)
  owner_node earlier (h ∷ hosts) o made nodes (inr i) = owner_node (earlier ++ h ∷ []) hosts o made.1 nodes.2 i

-- the refusal from what is looked up
abbrev pub refusal_from : Bool → Bool → ℕ → Bool → Option Refusal
refusal_from hosted may n room = if hosted || not may then Some NotSupported else if nat_lt 1000 (n + 1) || not room then Some Limit else None

accepted_parts : (hosted may : Bool) (n : ℕ) (room : Bool) → refusal_from hosted may n room ≡ None → (hosted ≡ false) × ((n < 1000) × (room ≡ true))
accepted_parts true may n room e = cc
accepted_parts false false n room e = cc
accepted_parts false true n room e = by (nat_lt 1000 (n + 1)) room refl refl e
  where
    by : (past r : Bool) → nat_lt 1000 (n + 1) ≡ past → room ≡ r → (if past || not r then Some Limit else None) ≡ None →
        (false ≡ false) × ((n < 1000) × (room ≡ true))
    by true r i j g = cc
    by false false i j g = cc
    by false true i j g = (refl, ((let few = ltb-false 1000 (n + 1) i in omega (arith, few)), j))

-- ---- words

-- the components of hosts have words
owner_word : (names : List NodeName) (earlier hosts : List ShadowHost) (o : Owner) → AreMadeBehind names earlier hosts → In o (host_owners hosts) →
    has_word o ≡ true
owner_word names earlier [] o made i = absurd i
owner_word names earlier (h ∷ hosts) o made (inl e) =
    subst (λ (q : Owner). has_word q ≡ true) (sym made.0.owner ∙ e) (word-made (maker_of names h) (count_hosts names earlier (maker_of names h)) made.0.maker)
owner_word names earlier (h ∷ hosts) o made (inr i) = owner_word names (earlier ++ h ∷ []) hosts o made.1 i

-- so has each owner that is there
there_word : (f : NamedTrees) (was : AllTables) → IsDoc f.names f.trees was → (o : Owner) → is_there (world_from f.names f.trees was) o ≡ true →
    has_word o ≡ true
there_word f was held o there = by (there_in (contents f.names f.trees was) o there)
  where
    by : In o (Page ∷ host_owners was.slots.hosts) → has_word o ≡ true
    by (inl e) = subst (λ (q : Owner). has_word q ≡ true) e refl
    by (inr i) = owner_word f.names [] was.slots.hosts o held.made i

-- ---- how many components an owner has made

module _ (f : NamedTrees) (was : AllTables) (held : IsDoc f.names f.trees was) (m : Owner) (may : MayAttach m) where
  abbrev made_already : ℕ
  made_already = count_hosts f.names was.slots.hosts m

  nodes_of : (k : ℕ) → k < made_already → count_of (component_made m k) f.names ≢ 0
  nodes_of k below none =
      let i = component_in_owners f.names m [] was.slots.hosts k held.made (omega arith) (omega (arith, below)) in
      let node = owner_node f.names [] was.slots.hosts (component_made m k) held.made held.signals.slots.hosts i in
      let number = held.numbered node.0 node.1 in
      let count = ap (λ (o : Owner). count_of o f.names) node.2 in
      omega (arith, number, count, none)

  no_nodes_of : (k : ℕ) → made_already ≤ k → count_of (component_made m k) f.names ≡ 0
  no_nodes_of k later = count_none (component_made m k) f.names (λ j j< e.
      let on = sym (ap (is_there (world_from f.names f.trees was)) e) ∙ held.present j j< in
      let off = component_absent (contents f.names f.trees was) was.slots.hosts (are_hosts f.names f.trees was held) m may k later in
      cc)

  -- what the count asks
  pub components_run : (j k : ℕ) → j ≤ k → count_of (component_made m j) f.names ≡ 0 → count_of (component_made m k) f.names ≡ 0
  components_run j k le none = elim (cases_lt j made_already) [
    | inl h ↦ absurd (nodes_of j h none)
    | inr h ↦ no_nodes_of k (omega (arith, h, le))
  ]

  -- what it answers
  pub count_is : (r : ℕ) → ((k : ℕ) → k < r → count_of (component_made m k) f.names ≢ 0) → (r < 1000 → count_of (component_made m r) f.names ≡ 0) →
      r ≤ 1000 → r ≡ count_hosts f.names was.slots.hosts m
  count_is r made next few =
      let most = few_hosts f.names m [] was.slots.hosts held.made (omega arith) in
      elim (cases_lt r made_already) [
        | inl h ↦ absurd (nodes_of r h (next (omega (arith, h, most))))
        | inr h ↦ elim (cases_lt made_already r) [
          | inl g ↦ absurd (made made_already g (no_nodes_of made_already (omega arith)))
          | inr g ↦ omega (arith, h, g)
        ]
      ]

-- ---- the refusal

module _ (f : NamedTrees) (was : AllTables) (held : IsDoc f.names f.trees was) (distinct : TellApart f.names) (d : DocState)
    (is_d : state_from f.names f.trees was ≡ d) (host : ℕ)
    (within : host < length d.names) where
  abbrev hosted : Bool
  hosted = is_some (root_of_host was.slots.hosts host)

  abbrev may : Bool
  may = may_be_host (node_in f.trees (name_at f.names host)).element

  abbrev o : Owner
  o = (name_at f.names host).owner

  within_names : host < length f.names
  within_names = subst (λ (e : DocState). host < length e.names) (sym is_d) within

  -- whether the owner's word has room for one number more
  abbrev room : Bool
  room = may_attach o

  room_is : room ≡ nat_lt (owner_depth o) max_depth
  room_is = may_attach-word o (there_word f was held o (held.present host within_names))

  -- it has, where it is no longer than this
  pub may_of_depth : (y : NodeName) → name_at f.names host ≡ y → (depth : ℕ) → depth ≡ owner_depth y.owner → depth < max_depth →
      MayAttach (name_at f.names host).owner
  may_of_depth y e depth is few =
      let same : owner_depth o ≡ depth = ap (λ (x : NodeName). owner_depth x.owner) e ∙ sym is in
      may_attach-from o (there_word f was held o (held.present host within_names)) (omega (arith, same, few))

  pub components_of : {y : NodeName} → name_at f.names host ≡ y → MayAttach (name_at f.names host).owner →
      (j k : ℕ) → j ≤ k → count_of (component_made y.owner j) f.names ≡ 0 → count_of (component_made y.owner k) f.names ≡ 0
  components_of e may =
      subst (λ (z : NodeName). (j k : ℕ) → j ≤ k → count_of (component_made z.owner j) f.names ≡ 0 → count_of (component_made z.owner k) f.names ≡ 0) e
      (components_run f was held o may)

  -- the count that is made of the owner's components
  pub count_at : {y : NodeName} → name_at f.names host ≡ y → MayAttach (name_at f.names host).owner → (r : ℕ) →
      ((k : ℕ) → k < r → count_of (component_made y.owner k) f.names ≢ 0) →
      (r < 1000 → count_of (component_made y.owner r) f.names ≡ 0) → r ≤ 1000 → r ≡ count_hosts f.names was.slots.hosts (name_at f.names host).owner
  count_at e may r =
      subst (λ (z : NodeName). ((k : ℕ) → k < r → count_of (component_made z.owner k) f.names ≢ 0) →
      (r < 1000 → count_of (component_made z.owner r) f.names ≡ 0) → r ≤ 1000 → r ≡ count_hosts f.names was.slots.hosts o) e
      (count_is f was held o may r)

  own_part : part_of (world_from f.names f.trees was) o ≡ part_in (contents f.names f.trees was) o
  own_part = part_at (contents f.names f.trees was) o (held.present host within_names)

  -- how many the owner has
  has_attached : count_hosts f.names was.slots.hosts o ≡ length (attached_of f.names was.slots.hosts o)
  has_attached = sym (length-map (hosts_of f.names was.slots.hosts o) (λ h. name_at f.names h.host))

  -- the next component
  pub next_is_for : component_made (owner_in d host) (length (part_of d.world (owner_in d host)).attached) ≡ component_for f was host
  next_is_for = subst (λ (e : DocState). component_made (owner_in e host) (length (part_of e.world (owner_in e host)).attached) ≡ component_for f was host) is_d
      (ap (component_made o) (ap (λ (p : Part). length p.attached) own_part ∙ sym has_attached))

  -- the refusal is the one that is looked up
  refusal_is : refusal_from hosted may (count_hosts f.names was.slots.hosts o) room ≡ attaching_refusal (part_of d.world (owner_in d host)) (name_in d host)
  refusal_is = subst (λ (e : DocState). refusal_from hosted may (count_hosts f.names was.slots.hosts o) room ≡
      attaching_refusal (part_of e.world (owner_in e host)) (name_in e host)) is_d by
    where
      x : NodeName
      x = name_at f.names host

      by : refusal_from hosted may (count_hosts f.names was.slots.hosts o) room ≡
          attaching_refusal (part_of (world_from f.names f.trees was) o) (name_at f.names host)
      by =
          ap (λ b. refusal_from b may (count_hosts f.names was.slots.hosts o) room)
          (hosted_key f.names distinct was.slots.hosts held.signals.slots.hosts host within_names ∙ own_hosted f.names was.slots.hosts (name_at f.names host))
          ∙ (ap (λ (n : Node). refusal_from (is_in name_eq (name_at f.names host) (attached_of f.names was.slots.hosts o)) (may_be_host n.element)
          (count_hosts f.names was.slots.hosts o) room) (read_own f.trees held.owned o (name_at f.names host) refl).node
          ∙ (ap (λ n. refusal_from (is_in name_eq (name_at f.names host) (attached_of f.names was.slots.hosts o))
          (may_be_host (node_in (trees_of_owner o f.trees) (name_at f.names host)).element) n room) has_attached
          ∙ ap (λ (p : Part). attaching_refusal p (name_at f.names host)) (sym own_part)))

  pub accepted : None ≡ attaching_refusal (part_of d.world (owner_in d host)) (name_in d host) →
      (root_of_host was.slots.hosts host ≡ None) × ((count_hosts f.names was.slots.hosts (name_at f.names host).owner < 1000)
      × MayAttach (name_at f.names host).owner)
  unfolding MayAttach
  accepted e =
      let parts = accepted_parts hosted may (count_hosts f.names was.slots.hosts o) room (refusal_is ∙ sym e) in
      (was_none (root_of_host was.slots.hosts host) parts.0, parts.1)

  pub refused_host : hosted ≡ true → Some NotSupported ≡ attaching_refusal (part_of d.world (owner_in d host)) (name_in d host)
  refused_host e = ap (λ b. refusal_from b may (count_hosts f.names was.slots.hosts o) room) (sym e) ∙ refusal_is

  pub refused_name : hosted ≡ false → may ≡ false → Some NotSupported ≡ attaching_refusal (part_of d.world (owner_in d host)) (name_in d host)
  refused_name e m =
      ap (λ b. refusal_from false b (count_hosts f.names was.slots.hosts o) room) (sym m) ∙
      (ap (λ b. refusal_from b may (count_hosts f.names was.slots.hosts o) room) (sym e) ∙ refusal_is)

  -- what is left to ask of an element that may be a host
  limited : hosted ≡ false → may ≡ true → (if nat_lt 1000 (count_hosts f.names was.slots.hosts o + 1) || not room then Some Limit else None) ≡
      attaching_refusal (part_of d.world (owner_in d host)) (name_in d host)
  limited e m =
      ap (λ b. refusal_from false b (count_hosts f.names was.slots.hosts o) room) (sym m) ∙
      (ap (λ b. refusal_from b may (count_hosts f.names was.slots.hosts o) room) (sym e) ∙ refusal_is)

  -- its owner's word has all the numbers that it may
  pub refused_depth : hosted ≡ false → may ≡ true → {y : NodeName} → name_at f.names host ≡ y → {depth : ℕ} → depth ≡ owner_depth y.owner →
      max_depth ≤ depth → Some Limit ≡ attaching_refusal (part_of d.world (owner_in d host)) (name_in d host)
  refused_depth e m at {depth} is full =
      let same : owner_depth o ≡ depth = ap (λ (x : NodeName). owner_depth x.owner) at ∙ sym is in
      let off : room ≡ false = room_is ∙ le-ltb (owner_depth o) max_depth (omega (arith, same, full)) in
      sym (past (nat_lt 1000 (count_hosts f.names was.slots.hosts o + 1)) room off) ∙ limited e m
    where
      past : (b r : Bool) → r ≡ false → (if b || not r then Some Limit else None) ≡ Some Limit
      past true r i = refl
      past false true i = cc
      past false false i = refl

  pub refused_limit : hosted ≡ false → may ≡ true → (n : ℕ) → n ≡ count_hosts f.names was.slots.hosts (name_at f.names host).owner → n ≡ 1000 →
      Some Limit ≡ attaching_refusal (part_of d.world (owner_in d host)) (name_in d host)
  refused_limit e m n is most =
      ap (λ (b : Bool). if b || not room then Some Limit else None) (sym (lt-ltb 1000 (count_hosts f.names was.slots.hosts o + 1) (omega (arith, is, most)))) ∙
      limited e m

  pub taken : hosted ≡ false → may ≡ true → MayAttach (name_at f.names host).owner → (n : ℕ) →
      n ≡ count_hosts f.names was.slots.hosts (name_at f.names host).owner → n < 1000 →
      None ≡ attaching_refusal (part_of d.world (owner_in d host)) (name_in d host)
  unfolding MayAttach
  taken e m allowed n is few =
      ap (λ (r : Bool). if not r then Some Limit else None) (sym allowed) ∙
      (ap (λ (b : Bool). if b || not room then Some Limit else None) (sym (le-ltb 1000 (count_hosts f.names was.slots.hosts o + 1) (omega (arith, is, few)))) ∙
      limited e m)

-- ---- the new owner

module _ (f : NamedTrees) (was : AllTables) (held : IsDoc f.names f.trees was) (host : ℕ) (may : MayAttach (name_at f.names host).owner)
    (new : Owner) (new_is : new ≡ component_for f was host) where
  uncounted : count_of (component_for f was host) f.names ≡ 0
  uncounted = no_nodes_of f was held (name_at f.names host).owner may (count_hosts f.names was.slots.hosts (name_at f.names host).owner) (omega arith)

  -- has no nodes yet
  pub new_owner : count_of new f.names ≡ 0
  new_owner = ap (λ o. count_of o f.names) new_is ∙ uncounted

  next_is : next_name new f.names ≡ shadow_root_of (component_for f was host)
  next_is = ap (λ o. next_name o f.names) new_is ∙ ap (node_of (component_for f was host)) uncounted

  -- the parts of a `Doc` then
  module _ (g : NamedTrees) (slots : SlotsNow) (document : Option NodeName)
      (names : g.names ≡ f.names ++ next_name new f.names ∷ [])
      (trees : g.trees ≡ with_node (new_root (next_name new f.names) Shadow document) f.trees)
      (hosts : slots.hosts ≡ was.slots.hosts ++ record { host = host; root = length f.names; owner = new } ∷ [])
      (of : AreSlotsOf g slots) where
    abbrev now : AllTables
    now = record was { slots = slots }

    host_more : HasOneHostMore f g was now host document
    host_more = record {
      names = names ∙ ap (λ x. f.names ++ x ∷ []) next_is;
      trees = trees ∙ ap (λ x. with_node (new_root x Shadow document) f.trees) next_is;
      each = refl;
      observers = refl;
      tasks = refl;
      signalled = refl;
      ranges = refl;
      hosts = hosts ∙ ap (λ o. was.slots.hosts ++ record { host = host; root = length f.names; owner = o } ∷ []) new_is;
      slots = of;
    }

    pub held_then : host < length f.names → count_hosts f.names was.slots.hosts (name_at f.names host).owner < 1000 →
        IsDoc g.names g.trees (record was { slots = slots })
    held_then within few = attached_held f g was now host document held within may host_more few

    module _ (d : DocState) (is_d : state_from f.names f.trees was ≡ d) (within : host < length d.names) where
      pub names_then : new ≡ component_made (owner_in d host) (length (part_of d.world (owner_in d host)).attached) →
          g.names ≡ d.names ++ shadow_root_of (component_made (owner_in d host) (length (part_of d.world (owner_in d host)).attached)) ∷ []
      names_then same =
          names
          ∙ (ap (λ x. f.names ++ x ∷ []) (next_is ∙ ap shadow_root_of (sym new_is ∙ same)) ∙
          ap (λ (e : DocState). e.names ++ shadow_root_of (component_made (owner_in d host) (length (part_of d.world (owner_in d host)).attached)) ∷ []) is_d)

      pub world_then : document ≡ (node_in f.trees (name_at f.names host)).document →
          world_from g.names g.trees (record was { slots = slots }) ≡ (attaching d.world (owner_in d host) (name_in d host)).0
      world_then same =
          subst (λ (e : DocState). world_from g.names g.trees now ≡ (attaching e.world (owner_in e host) (name_in e host)).0) is_d
          (attached_state f g was now host document held (subst (λ (e : DocState). host < length e.names) (sym is_d) within) may host_more same)
