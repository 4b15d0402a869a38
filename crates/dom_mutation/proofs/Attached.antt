-- A shadow root is attached: what is held has one host more, so it is still a legal `Doc`, and its world is that of the
-- definitions.
use Rattle.dom_mutation.proofs.Cited.{◌≡◌, ◌≢◌, ℕ, ◌<◌, ◌≤◌, ◌⊎◌, inl, inr, true, false, List, [], ◌∷◌, ◌++◌, Option, length, refl, sym, ap, subst, ◌∙◌, arith}
use Rattle.dom_mutation.proofs.Cited.{AllByRecursion, cases_Bool, false_from_ne_true, length_push, map-append, get_or-append, eq-or-lt_of_le}
use Rattle.dom_mutation.proofs.Cited.{get_or-append_seam, AreNames, Shadow, NodeName, Owner, Page, owner_eq, node_of, node_in, with_node, new_root, attaching}
use Rattle.dom_mutation.proofs.Cited.{Task, MayAttach, is_there, component_made, shadow_root_of, owner_eq-true, owner_eq-false, owner_eq-same, ne-owner_eq}
use Rattle.dom_mutation.proofs.Cited.{component_made-other, Range, ShadowHost, AreSlotsOf, TablesOf, IsKey, SpeaksOf, NamedTrees, name_at, count_of}
use Rattle.dom_mutation.proofs.Cited.{named_ranges, ranges_of, Tables, AreNumbered, AreRangesOf, AllTables, tables_view, AreTablesOf, maker_of, hosts_of}
use Rattle.dom_mutation.proofs.Cited.{AreMadeBehind, host_names, host_owners, attached_of, AreHostsOf, IsAttached, named_trees, contents, world_from, IsDoc}
use Rattle.dom_mutation.proofs.Cited.{IsDue, KeyedTables, no_keyed_tables}
use Rattle.dom_observers.specs.Definitions.{no_tables as no_observers}
use Rattle.dom_mutation.proofs.AttachedWorlds.{count_none, counted_other, counted_new, component_new, attached_world, attached_hosts}
use Rattle.dom_mutation.proofs.DocInvariant.{are_hosts, due_kept}
use Rattle.dom_mutation.proofs.HostsOfOwners.{count_hosts, own-pushed, other-pushed}
use Rattle.dom_mutation.proofs.HostedSteps.{KeepsNames, names_pushed, attached_renamed}
use Rattle.dom_mutation.proofs.Keeping.{tables_more, view_same, speaks_grown}
use Rattle.dom_mutation.proofs.Numbers.{numbered_more}
use Rattle.dom_mutation.proofs.RangedKeeping.{named_grown}
use Rattle.dom_mutation.proofs.RangedOwners.{ranges_attached}
use Rattle.dom_mutation.proofs.Worlds.{In, In-push, In-end, in_there, there_in}
use Rattle.dom_mutation.proofs.NamesByKey.{names_grown}

-- ---- one host more

-- the next component of a node's owner
abbrev pub component_for : NamedTrees → AllTables → ℕ → Owner
component_for f was host = component_made (name_at f.names host).owner (count_hosts f.names was.slots.hosts (name_at f.names host).owner)

-- what is made of a forest and tables, when a shadow root is attached to a node
pub record HasOneHostMore (f g : NamedTrees) (was now : AllTables) (host : ℕ) (d : Option NodeName) : Type 0 where
  pub names : g.names ≡ f.names ++ shadow_root_of (component_for f was host) ∷ []
  pub trees : g.trees ≡ with_node (new_root (shadow_root_of (component_for f was host)) Shadow d) f.trees
  pub each : now.each ≡ was.each
  pub observers : now.observers ≡ was.observers
  pub tasks : now.tasks ≡ was.tasks
  pub signalled : now.signalled ≡ was.signalled
  pub ranges : now.ranges ≡ was.ranges
  pub hosts : now.slots.hosts ≡ was.slots.hosts ++ record { host = host; root = length f.names; owner = component_for f was host } ∷ []
  pub slots : AreSlotsOf g now.slots

module _ (f g : NamedTrees) (was now : AllTables) (host : ℕ) (d : Option NodeName) (held : IsDoc f.names f.trees was) (within : host < length f.names)
    (may : MayAttach (name_at f.names host).owner) (more : HasOneHostMore f g was now host d) where
  abbrev m : Owner
  m = (name_at f.names host).owner

  abbrev c : Owner
  c = component_for f was host

  abbrev grown : List NodeName
  grown = f.names ++ shadow_root_of c ∷ []

  abbrev hosts_were : List ShadowHost
  hosts_were = was.slots.hosts

  -- the component is not there yet
  is_new : is_there (world_from f.names f.trees was) c ≡ false
  is_new = component_new (contents f.names f.trees was) hosts_were (are_hosts f.names f.trees was held) m may

  -- its maker is
  maker_there : is_there (world_from f.names f.trees was) m ≡ true
  maker_there = held.present host within

  -- the new name is no other node's
  new_name : (k : ℕ) → k < length f.names → name_at f.names k ≢ shadow_root_of c
  new_name k k< e =
      let on = sym (ap (λ (x : NodeName). is_there (world_from f.names f.trees was) x.owner) e) ∙ held.present k k< in
      let off = is_new in
      cc

  -- an owner's tables are as they were
  own_rest : (q : Owner) → now.each q ≡ was.each q
  own_rest q = ap (λ (each : Owner → KeyedTables). each q) more.each

  -- the new one has none
  own_new : now.each c ≡ no_keyed_tables
  own_new = own_rest c ∙ held.idle c is_new

  view_rest : (q : Owner) → tables_view grown (was.each q) (was.observers q) ≡ tables_view f.names (was.each q) (was.observers q)
  view_rest q = view_same f.names (shadow_root_of c) f.trees q (was.each q) (was.observers q) (held.own q) (held.speaks q)

  -- an owner's tables in names, with these hosts and live ranges
  abbrev with_those : Tables → List NodeName → List (Option (Range NodeName)) → Tables
  with_those t xs rs = record t { attached = xs; ranges = rs }

  -- its live ranges by names
  live_now : (q : Owner) → named_ranges g.names (ranges_of now.ranges q) ≡ named_ranges f.names (ranges_of was.ranges q)
  live_now q =
      ap (λ t. named_ranges g.names (ranges_of t q)) more.ranges
      ∙ (ap (λ ns. named_ranges ns (ranges_of was.ranges q)) more.names ∙ named_grown f.names (shadow_root_of c) was.ranges held.ranges.own q)

  live_new : named_ranges g.names (ranges_of now.ranges c) ≡ []
  live_new = live_now c ∙ ap (named_ranges f.names)
      (held.ranges.absent c is_new)

  view_now : (q : Owner) → tables_view g.names (now.each q) (now.observers q) ≡ tables_view f.names (was.each q) (was.observers q)
  view_now q =
      ap (λ (os : Owner → TablesOf ℕ). tables_view g.names (now.each q) (os q)) more.observers
      ∙ (ap (λ ns. tables_view ns (now.each q) (was.observers q)) more.names
      ∙ (ap (λ t. tables_view grown t (was.observers q)) (own_rest q) ∙ view_rest q))

  unobserved_new : now.observers c ≡ no_observers
  unobserved_new = ap (λ (os : Owner → TablesOf ℕ). os c) more.observers ∙
      held.unobserved c is_new

  new_host : ShadowHost
  new_host = record { host = host; root = length f.names; owner = c }

  keeps : KeepsNames f.names grown
  keeps = names_pushed f.names (shadow_root_of c)

  host_name : name_at grown host ≡ name_at f.names host
  host_name = keeps.same host within

  -- the hosts of the maker, and of others
  hosts_now : attached_of g.names now.slots.hosts m ≡ attached_of f.names hosts_were m ++ name_at f.names host ∷ []
  unfolding new_host
  hosts_now =
      ap (λ ns. attached_of ns now.slots.hosts m) more.names
      ∙ (ap (λ hs. attached_of grown hs m) more.hosts
      ∙ (ap (host_names grown) (own-pushed grown hosts_were new_host m (ap (λ (y : NodeName). owner_eq y.owner m) host_name ∙ owner_eq-same m))
      ∙ (map-append (λ (h : ShadowHost). name_at grown h.host) (hosts_of grown hosts_were m) (new_host ∷ [])
      ∙ (ap (λ xs. xs ++ name_at grown host ∷ []) (sym (attached_renamed f.names grown keeps hosts_were m held.signals.slots.hosts)) ∙
      ap (λ x. attached_of f.names hosts_were m ++ x ∷ []) host_name))))

  hosts_other : (q : Owner) → q ≢ m → attached_of g.names now.slots.hosts q ≡ attached_of f.names hosts_were q
  unfolding new_host
  hosts_other q apart =
      ap (λ ns. attached_of ns now.slots.hosts q) more.names
      ∙ (ap (λ hs. attached_of grown hs q) more.hosts
      ∙ (ap (host_names grown) (other-pushed grown hosts_were new_host q
      (ne-owner_eq (maker_of grown new_host) q (λ e. apart (sym e ∙ ap (λ (y : NodeName). y.owner) host_name))))
      ∙ sym (attached_renamed f.names grown keeps hosts_were q held.signals.slots.hosts)))

  -- the component is another one than its maker
  next : c ≢ m
  next = component_made-other m (count_hosts f.names hosts_were m)

  no_hosts : attached_of g.names now.slots.hosts c ≡ []
  no_hosts = hosts_other c next ∙ (are_hosts f.names f.trees was held).unhosted c is_new

  one : IsAttached (contents f.names f.trees was) (contents g.names g.trees now) c (name_at f.names host) d
  unfolding new_host
  one = record {
    owners = ap (λ hs. Page ∷ host_owners hs) more.hosts
        ∙ ap (λ os. Page ∷ os) (map-append (λ (h : ShadowHost). h.owner) hosts_were (new_host ∷ []));
    names = more.names;
    trees = more.trees;
    maker = (λ i. with_those (view_now m i) (hosts_now i) (live_now m i));
    new = ap (λ t. with_those (tables_view g.names t (now.observers c)) (attached_of g.names now.slots.hosts c)
        (named_ranges g.names (ranges_of now.ranges c))) own_new
        ∙ (ap (λ (r : TablesOf ℕ). with_those (tables_view g.names no_keyed_tables r) (attached_of g.names now.slots.hosts c)
        (named_ranges g.names (ranges_of now.ranges c))) unobserved_new
        ∙ (ap (λ xs. with_those (tables_view g.names no_keyed_tables no_observers) xs (named_ranges g.names (ranges_of now.ranges c))) no_hosts
        ∙ ap (with_those (tables_view g.names no_keyed_tables no_observers) []) live_new));
    rest = λ q apart other. (λ i. with_those (view_now q i) (hosts_other q apart i) (live_now q i));
    signalled = more.signalled;
    tasks = more.tasks;
  }

  abbrev new_hosts : List ShadowHost
  new_hosts = hosts_were ++ record { host = host; root = length f.names; owner = c } ∷ []

  hosts_after : count_hosts f.names hosts_were m < 1000 → AreHostsOf (contents g.names g.trees now) new_hosts
  hosts_after room =
      attached_hosts (contents f.names f.trees was) hosts_were (are_hosts f.names f.trees was held) m may held.present (contents g.names g.trees now)
      (name_at f.names host) refl maker_there d one host within refl room

  -- who was there still is
  there_after : (q : Owner) → is_there (world_from f.names f.trees was) q ≡ true → is_there (world_from g.names g.trees now) q ≡ true
  there_after q on = in_there (contents g.names g.trees now) q
      (subst (In q) (sym one.owners) (In-push q (Page ∷ host_owners hosts_were) c (there_in (contents f.names f.trees was) q on)))

  absent_before : (q : Owner) → is_there (world_from g.names g.trees now) q ≡ false → is_there (world_from f.names f.trees was) q ≡ false
  absent_before q off = false_from_ne_true (is_there (world_from f.names f.trees was) q) (λ on. let now_on = sym (there_after q on) ∙ off in cc)

  present_after : (k : ℕ) → k < length g.names → is_there (world_from g.names g.trees now) (name_at g.names k).owner ≡ true
  present_after k k< =
      ap (λ ns. is_there (world_from g.names g.trees now) (name_at ns k).owner) more.names
      ∙ at (let shorter = ap length more.names in let pushed = length_push f.names (shadow_root_of c) in let low : k ≤ length f.names = omega
      (arith, k<, shorter, pushed) in eq-or-lt_of_le low)
    where
      at : (k ≡ length f.names) ⊎ (k < length f.names) → is_there (world_from g.names g.trees now) (name_at grown k).owner ≡ true
      at (inl same) =
          ap (λ (y : NodeName). is_there (world_from g.names g.trees now) y.owner)
          (ap (name_at grown) same ∙ get_or-append_seam f.names (shadow_root_of c) [] (node_of Page 0))
          ∙ in_there (contents g.names g.trees now) c (subst (In c) (sym one.owners) (In-end (Page ∷ host_owners hosts_were) c))
      at (inr h) =
          ap (λ (y : NodeName). is_there (world_from g.names g.trees now) y.owner) (get_or-append f.names (shadow_root_of c ∷ []) (node_of Page 0) k h)
          ∙ there_after (name_at f.names k).owner (held.present k h)

  limited_after : (p : Owner) → count_of p g.names ≤ 1000000
  limited_after p = elim (cases_Bool (owner_eq p c)) [
    | inl e ↦
        let count = counted_new (contents f.names f.trees was) hosts_were (are_hosts f.names f.trees was held) m may held.present
        (contents g.names g.trees now) (name_at f.names host) refl maker_there d one in
        let same = ap (λ (q : Owner). count_of q g.names) (owner_eq-true p c e) in omega (arith, count, same)
    | inr e ↦
        let count = counted_other (contents f.names f.trees was) hosts_were (are_hosts f.names f.trees was held) m may held.present
        (contents g.names g.trees now) (name_at f.names host) refl maker_there d one p (owner_eq-false p c e) in
        let few = held.limited p in omega (arith, count, few)
  ]

  own_after : (q : Owner) → AreTablesOf (named_trees g.names g.trees) q (now.each q)
  own_after q =
      subst (AreTablesOf (named_trees g.names g.trees) q) (sym (own_rest q))
      (subst (λ (h : NamedTrees). AreTablesOf h q (was.each q)) (λ i. named_trees (sym more.names i) (sym more.trees i))
      (tables_more f.names (shadow_root_of c) f.trees (new_root (shadow_root_of c) Shadow d) refl new_name (held.own q)))

  -- none of its nodes was there before
  uncounted : (k : ℕ) → k < length f.names → (name_at f.names k).owner ≢ c
  uncounted k k< e =
      let on = sym (ap (is_there (world_from f.names f.trees was)) e) ∙ held.present k k< in
      let off = is_new in
      cc

  -- it is held
  pub attached_held : count_hosts f.names was.slots.hosts (name_at f.names host).owner < 1000 → IsDoc g.names g.trees now
  attached_held room = record {
    owned = (hosts_after room).owned;
    present = present_after;
    absent = (hosts_after room).absent;
    limited = limited_after;
    own = own_after;
    idle = λ q off. own_rest q ∙ held.idle q (absent_before q off);
    made = subst (AreMadeBehind g.names []) (sym more.hosts) (hosts_after room).made;
    signals = record { slots = more.slots; nodes = nodes_after };
    speaks = λ p. subst (λ ns. SpeaksOf (IsKey ns) (now.observers p)) (sym more.names)
        (subst (λ (os : Owner → TablesOf ℕ). SpeaksOf (IsKey grown) (os p)) (sym more.observers)
        (speaks_grown f.names (shadow_root_of c) (was.observers p) (held.speaks p)));
    unobserved = λ p off. ap (λ (os : Owner → TablesOf ℕ). os p) more.observers ∙ held.unobserved p (absent_before p off);
    due = subst (λ (ts : List Task). AllByRecursion (IsDue (world_from g.names g.trees now)) ts) (sym more.tasks)
        (due_kept (world_from f.names f.trees was) (world_from g.names g.trees now) there_after was.tasks held.due);
    ranges = subst (AreRangesOf (contents g.names g.trees now)) (sym more.ranges)
        (ranges_attached
        is_new one held.ranges);
    numbered = subst AreNumbered (sym more.names)
        (subst (λ n. AreNumbered (f.names ++ node_of c n ∷ [])) (count_none c f.names uncounted) (numbered_more f.names c held.numbered));
  }
    where
      nodes_after : AreNames g.names now.signalled
      nodes_after = subst (λ ns. AreNames ns now.signalled) (sym more.names)
          (subst (AreNames grown) (sym more.signalled) (names_grown f.names (shadow_root_of c) was.signalled held.signals.nodes))

  -- and its world is the one after the command
  pub attached_state : d ≡ (node_in f.trees (name_at f.names host)).document →
      world_from g.names g.trees now ≡ (attaching (world_from f.names f.trees was) (name_at f.names host).owner (name_at f.names host)).0
  attached_state document =
      attached_world (contents f.names f.trees was) hosts_were (are_hosts f.names f.trees was held) m may held.present (contents g.names g.trees now)
      (name_at f.names host) refl maker_there d one document
